-- Values of document 02, request 2, and of the list that the reference gives, in one table.
-- Assumes nothing.
use Prim.Native.Nat.{ℕ}
use mathlib.Core.Bool.{Bool, true, ◌&&◌}
use mathlib.Core.List.{List, [], ◌∷◌}
use mathlib.Core.Path.{◌≡◌, refl}
use lib.Dec.{T, eqb, eqb→eq}
use Rattle.factors.proofs.Daily.{high_by, low_by}
use Rattle.factors.specs.Factors.{Fa, Fb, HighDaily, LowDaily, code_row, down, ga, gb, high_factor, low_factor, multiplied, up}
use Rattle.factors.specs.declared.Code.{Code}
use Rattle.factors.specs.declared.Code.TheVariants.{FCI, FPI, OFC, OFV}
use Rattle.roots.proofs.Every.{both_left, both_right}
use Rattle.roots.proofs.Squares.{is_root, root_by}
use Rattle.roots.specs.Roots.{Root}

-- "so i is 2,100 for FCI": its rates in units of 10^-8, 1.2352 and 1.1848, and those of the others.
pub rates : (ga FCI ≡ 123_520_000) × (gb FCI ≡ 118_480_000) × (ga FPI ≡ 126_040_000) × (gb FPI ≡ 115_960_000)
    × (ga OFC ≡ 118_400_000) × (gb OFC ≡ 113_600_000) × (ga OFV ≡ 120_800_000) × (gb OFV ≡ 111_200_000)
rates = (refl, refl, refl, refl, refl, refl, refl, refl)

-- The daily factors.
abbrev pub high_value : Code → ℕ
high_value FCI = 100_058_694
high_value FPI = 100_064_307
high_value OFC = 100_046_928
high_value OFV = 100_052_505

abbrev pub low_value : Code → ℕ
low_value FCI = 100_047_114
low_value FPI = 100_041_139
low_value OFC = 100_035_426
low_value OFV = 100_029_492

pub high_values : (c : Code) → HighDaily c (high_value c)
unfolding multiplied
high_values FCI = high_by FCI (high_value FCI) tt
high_values FPI = high_by FPI (high_value FPI) tt
high_values OFC = high_by OFC (high_value OFC) tt
high_values OFV = high_by OFV (high_value OFV) tt

pub low_values : (c : Code) → LowDaily c (low_value c)
unfolding multiplied
low_values FCI = low_by FCI (low_value FCI) tt
low_values FPI = low_by FPI (low_value FPI) tt
low_values OFC = low_by OFC (low_value OFC) tt
low_values OFV = low_by OFV (low_value OFV) tt

-- fa and fb of a root and these daily factors.
module _ (c : Code) (n s f : ℕ) (q : Root n s) where
  pub fa_of : f ≡ high_factor (code_row c).f2 (code_row c).f4 (multiplied up (high_value c) n) s → Fa c n f
  fa_of e =
      record {
        growth = multiplied up (high_value c) n;
        is_growth = record { daily = high_value c; is_daily = high_values c; is = refl };
        root = s;
        is_root_lem = q;
        is = e;
      }

  pub fb_of : f ≡ low_factor (code_row c).f2 (code_row c).f4 (multiplied down (low_value c) n) s → Fb c n f
  fb_of e =
      record {
        growth = multiplied down (low_value c) n;
        is_growth = record { daily = low_value c; is_daily = low_values c; is = refl };
        root = s;
        is_root_lem = q;
        is = e;
      }

-- A row of the table: S(n), fa and fb of a code and n days.
pub record Value : Type 0 where
  pub code : Code
  pub days : ℕ
  pub root : ℕ
  pub high : ℕ
  pub low : ℕ

abbrev is_high_value : Value → Bool
is_high_value v =
    eqb v.high (high_factor (code_row v.code).f2 (code_row v.code).f4 (multiplied up (high_value v.code) v.days) v.root)

abbrev is_low_value : Value → Bool
is_low_value v =
    eqb v.low (low_factor (code_row v.code).f2 (code_row v.code).f4 (multiplied down (low_value v.code) v.days) v.root)

abbrev are_values : List Value → Bool
are_values [] = true
are_values (v ∷ later) = is_root v.days v.root && (is_high_value v && (is_low_value v && are_values later))

abbrev pub Holds : List Value → Type 0
Holds [] = Unit {0}
Holds (v ∷ later) =
    Root v.days v.root × Fa v.code v.days v.high × Fb v.code v.days v.low × Holds later

hold : (l : List Value) → T (are_values l) → Holds l
hold [] t = tt
hold (v ∷ later) t =
    let rest = is_high_value v && (is_low_value v && are_values later) in
    let last = is_low_value v && are_values later in
    let u = both_right (is_root v.days v.root) rest t in
    let w = both_right (is_high_value v) last u in
    let q = root_by v.days v.root (both_left (is_root v.days v.root) rest t) in (
      q,
      fa_of v.code v.days v.root v.high q (eqb→eq v.high _ (both_left (is_high_value v) last u)),
      fb_of v.code v.days v.root v.low q (eqb→eq v.low _ (both_left (is_low_value v) (are_values later) w)),
      hold later (both_right (is_low_value v) (are_values later) w),
    )

abbrev pub table : List Value
table =
    record { code = FCI; days = 0; root = 0; high = 1_100_000; low = 900_000 }
    ∷ record { code = FCI; days = 1; root = 52_705; high = 1_106_388; low = 894_670 }
    ∷ record { code = FCI; days = 90; root = 500_000; high = 1_212_212; low = 885_921 }
    ∷ record { code = FCI; days = 360; root = 1_000_000; high = 1_471_080; low = 954_466 }
    ∷ record { code = FCI; days = 720; root = 1_414_214; high = 1_863_083; low = 1_085_366 }
    ∷ record { code = FCI; days = 1_800; root = 2_236_068; high = 3_682_641; low = 1_660_374 }
    ∷ record { code = FPI; days = 0; root = 0; high = 1_100_000; low = 900_000 }
    ∷ record { code = FPI; days = 1; root = 52_705; high = 1_112_246; low = 888_811 }
    ∷ record { code = FPI; days = 720; root = 1_414_214; high = 2_182_881; low = 826_295 }
    ∷ record { code = FPI; days = 1_800; root = 2_236_068; high = 4_845_674; low = 965_237 }
    ∷ record { code = OFC; days = 0; root = 0; high = 1_150_000; low = 850_000 }
    ∷ record { code = OFC; days = 1; root = 52_705; high = 1_156_797; low = 844_027 }
    ∷ record { code = OFC; days = 720; root = 1_414_214; high = 1_789_773; low = 921_483 }
    ∷ record { code = OFC; days = 1_800; root = 2_236_068; high = 3_101_200; low = 1_234_204 }
    ∷ record { code = OFV; days = 0; root = 0; high = 1_150_000; low = 850_000 }
    ∷ record { code = OFV; days = 1; root = 52_705; high = 1_163_181; low = 837_641 }
    ∷ record { code = OFV; days = 720; root = 1_414_214; high = 2_104_570; low = 666_836 }
    ∷ record { code = OFV; days = 1_800; root = 2_236_068; high = 4_102_929; low = 637_796 }
    ∷ []

pub values : Holds table
unfolding multiplied
values = hold table tt
