-- A series row without fault is one within its limits, and the other way round.
-- Assumes nothing.
use mathlib.Core.Path.{◌≡◌}
use borrow.Author.Tests.{le-ltb, ltb-false}
use lib.Dec.{ltb}
use Rattle.rules.specs.Limits.{SeriesWithin}
use Rattle.rules.specs.Refusals.{clean, nonzero, outside, series_row_checks, series_row_fault}
use Rattle.rules.specs.declared.SeriesRow.{SeriesRow}
use Rattle.rules.proofs.Chain.{all_clean, all_pass, five_fail, in_range, inside, is_zero, none_of_five, zero_is}
use Rattle.rules.proofs.Tests.{both_fail, neither}

pub series_within : (r : SeriesRow) → series_row_fault r ≡ clean → SeriesWithin r
unfolding series_row_fault
series_within r e =
    let passes = all_pass (series_row_checks r) e in
    let range = none_of_five (outside 1 10_000_000 r.pv) (outside 1_000_000 10_000_000 r.fa) (ltb r.fa r.fb) (ltb 1_000_000 r.f3) (outside 1 1_000 r.m) passes.0 in
    let type = neither (ltb 1 r.option) (nonzero r.spare) passes.1.0 in
    record {
      pv_least = (inside 1 10_000_000 r.pv range.0).0;
      pv_most = (inside 1 10_000_000 r.pv range.0).1;
      fa_least = (inside 1_000_000 10_000_000 r.fa range.1).0;
      fa_most = (inside 1_000_000 10_000_000 r.fa range.1).1;
      fb_most = ltb-false r.fa r.fb range.2;
      f3_most = ltb-false 1_000_000 r.f3 range.3;
      m_least = (inside 1 1_000 r.m range.4).0;
      m_most = (inside 1 1_000 r.m range.4).1;
      option_most = ltb-false 1 r.option type.0;
      spare_zero = is_zero r.spare type.1;
    }

pub series_clean : (r : SeriesRow) → SeriesWithin r → series_row_fault r ≡ clean
unfolding series_row_fault
series_clean r h =
    all_clean (series_row_checks r) (
      five_fail (outside 1 10_000_000 r.pv) (outside 1_000_000 10_000_000 r.fa) (ltb r.fa r.fb) (ltb 1_000_000 r.f3) (outside 1 1_000 r.m)
          (in_range 1 10_000_000 r.pv h.pv_least h.pv_most)
          (in_range 1_000_000 10_000_000 r.fa h.fa_least h.fa_most)
          (le-ltb r.fa r.fb h.fb_most)
          (le-ltb 1_000_000 r.f3 h.f3_most)
          (in_range 1 1_000 r.m h.m_least h.m_most),
      (
        both_fail (ltb 1 r.option) (nonzero r.spare) (le-ltb 1 r.option h.option_most) (zero_is r.spare h.spare_zero),
        tt,
      ),
    )
