-- Numbers and rows of a file of which some bytes were written: a number whose bytes agree is the same, a number stored is
-- read back, a row changes in the one field that was written.
-- Assumes nothing.
use Prim.Native.Nat.{ℕ, ◌+◌, ◌*◌, ◌-◌, ◌/◌, ◌%◌, ◌≤◌, ◌<◌}
use mathlib.Core.List.{List}
use mathlib.Core.Path.{◌≡◌, ◌∙◌, ap}
use native.Mathlib.Omega.{arith}
use lib.ListN.{length}
use lib.Seq.{sets}
use Rattle.rules.proofs.Stores.{Agree, sets_in}
use Rattle.rules.specs.File.{distance, layout, position_count, position_row_from, series_count, series_row_from, trailer_spare, u16_at, u24_at, u32_at, u8_at}
use Rattle.rules.specs.Writing.{bytes4}
use Rattle.rules.specs.declared.PositionRow.{PositionRow}
use Rattle.rules.specs.declared.SeriesRow.{SeriesRow}

-- A position row with other flags, and a series row with another PV.
abbrev pub with_flags : ℕ → PositionRow → PositionRow
with_flags flags r =
    record {
      series = r.series;
      side = r.side;
      kind = r.kind;
      flags = flags;
      blocked = r.blocked;
      q = r.q;
      pe = r.pe;
      pb = r.pb;
      price = r.price;
      reb = r.reb;
      premium = r.premium;
    }

abbrev pub with_pv : ℕ → SeriesRow → SeriesRow
with_pv pv r =
    record { pv = pv; fa = r.fa; fb = r.fb; f3 = r.f3; m = r.m; option = r.option; spare = r.spare }

-- Four bytes hold every number below 2^32.
pub four_bytes : (v : ℕ) → v < 4_294_967_296 → v % 256 + 256 * (v / 256 % 256) + 65_536 * (v / 65_536 % 256) + 16_777_216 * (v / 16_777_216 % 256) ≡ v
four_bytes v h =
    let e2 : v / 65_536 ≡ v / 256 / 256 = omega arith in
    let e3 : v / 16_777_216 ≡ v / 65_536 / 256 = omega arith in
    let top : v / 16_777_216 % 256 ≡ v / 16_777_216 = omega arith in
    omega arith

-- A number stored is read back.
pub u32_stored : (b : List ℕ) (i v : ℕ) → i + 4 ≤ length b → v < 4_294_967_296 → u32_at (sets b i (bytes4 v)) i ≡ v
u32_stored b i v fits h =
    let here : i + 0 ≡ i = omega arith in
    let e0 = rw here at (sets_in (bytes4 v) b i 0 (omega arith) fits) in
    let e1 = sets_in (bytes4 v) b i 1 (omega arith) fits in
    let e2 = sets_in (bytes4 v) b i 2 (omega arith) fits in
    let e3 = sets_in (bytes4 v) b i 3 (omega arith) fits in
    rw (e0, e1, e2, e3) (four_bytes v h)

module _ (c b : List ℕ) where
  -- The numbers from byte `from` to below byte e are the same.
  module _ (from e : ℕ) (a : Agree c b from e) where
    u8_same : (i : ℕ) → from ≤ i → i < e → u8_at c i ≡ u8_at b i
    u8_same i l h = a i l h

    u16_same : (i : ℕ) → from ≤ i → i + 2 ≤ e → u16_at c i ≡ u16_at b i
    u16_same i l h = rw (a i l (omega arith), a (i + 1) (omega arith) (omega arith))

    u24_same : (i : ℕ) → from ≤ i → i + 3 ≤ e → u24_at c i ≡ u24_at b i
    u24_same i l h = rw (a i l (omega arith), a (i + 1) (omega arith) (omega arith), a (i + 2) (omega arith) (omega arith))

    pub u32_same : (i : ℕ) → from ≤ i → i + 4 ≤ e → u32_at c i ≡ u32_at b i
    u32_same i l h = rw (a i l (omega arith), a (i + 1) (omega arith) (omega arith), a (i + 2) (omega arith) (omega arith), a (i + 3) (omega arith) (omega arith))

  -- A series row of which at most PV was written.
  pub series_row_pv : (at : ℕ) → Agree c b (at + 4) (at + 24) → series_row_from c at ≡ with_pv (u32_at c at) (series_row_from b at)
  series_row_pv at a =
      let n : ℕ = at + 4 in
      let e : ℕ = at + 24 in
      rw (
        u32_same n e a (at + 4) (omega arith) (omega arith),
        u32_same n e a (at + 8) (omega arith) (omega arith),
        u32_same n e a (at + 12) (omega arith) (omega arith),
        u32_same n e a (at + 16) (omega arith) (omega arith),
        u8_same n e a (at + 20) (omega arith) (omega arith),
        u24_same n e a (at + 21) (omega arith) (omega arith),
      )

  -- A position row of which at most the flags were written.
  pub position_row_flags : (at : ℕ) → Agree c b at (at + 4) → Agree c b (at + 5) (at + 32) → position_row_from c at ≡ with_flags (u8_at c (at + 4)) (position_row_from b at)
  position_row_flags at p q =
      let m : ℕ = at + 4 in
      let n : ℕ = at + 5 in
      let e : ℕ = at + 32 in
      rw (
        u16_same at m p at (omega arith) (omega arith),
        u8_same at m p (at + 2) (omega arith) (omega arith),
        u8_same at m p (at + 3) (omega arith) (omega arith),
        u24_same n e q (at + 5) (omega arith) (omega arith),
        u32_same n e q (at + 8) (omega arith) (omega arith),
        u32_same n e q (at + 12) (omega arith) (omega arith),
        u32_same n e q (at + 16) (omega arith) (omega arith),
        u32_same n e q (at + 20) (omega arith) (omega arith),
        u32_same n e q (at + 24) (omega arith) (omega arith),
        u32_same n e q (at + 28) (omega arith) (omega arith),
      )

-- Two files of one length whose last 12 bytes agree: their trailers are the same, and their tables stand alike.
module _ (c b : List ℕ) (size : length c ≡ length b) (room : 12 ≤ length b) (a : Agree c b (length b - 12) (length b)) where
  pub series_count_same : series_count c ≡ series_count b
  series_count_same =
      ap (λ (n : ℕ). u16_at c (n - 12)) size
      ∙ u16_same c b (length b - 12) (length b) a (length b - 12) (omega arith) (omega arith)

  pub position_count_same : position_count c ≡ position_count b
  position_count_same =
      ap (λ (n : ℕ). u16_at c (n - 10)) size
      ∙ u16_same c b (length b - 12) (length b) a (length b - 10) (omega arith) (omega arith)

  pub distance_same : distance c ≡ distance b
  distance_same =
      ap (λ (n : ℕ). u32_at c (n - 8)) size
      ∙ u32_same c b (length b - 12) (length b) a (length b - 8) (omega arith) (omega arith)

  pub trailer_spare_same : trailer_spare c ≡ trailer_spare b
  trailer_spare_same =
      ap (λ (n : ℕ). u32_at c (n - 4)) size
      ∙ u32_same c b (length b - 12) (length b) a (length b - 4) (omega arith) (omega arith)

  pub layout_same : layout c ≡ layout b
  unfolding layout
  layout_same = cc (size, series_count_same, position_count_same, distance_same)
