-- Computed values of the file, its refusals and the answers: the third part of the table of `RuleValues`.
use Prim.Native.Nat.{ℕ, ◌/◌, ◌%◌}
use mathlib.Core.Bool.{Bool, true, false}
use mathlib.Core.List.{List, [], ◌∷◌, ◌++◌}
use mathlib.Core.Path.{◌≡◌}
use lib.IntN.{neg_ℤ, pos}
use Rattle.rules.proofs.CheckOrder.{no_rows, series_row_bytes, trailer_bytes}
use Rattle.rules.specs.File.{barrier_of, flags_of, limiter_of, option_of, position_row_from, position_width, series_row_from, series_width, side_of, span, trailer_width, u16_at, u24_at, u32_at, u8_at}
use Rattle.rules.specs.Limits.{most_bytes, most_positions, most_series}
use Rattle.rules.specs.Lines.{comes_to, margin_answer, premium_answer}
use Rattle.rules.specs.OnePosition.{amount_answer, signed_answer}
use Rattle.rules.specs.Output.{margin_text, premiums_for}
use Rattle.rules.specs.Refusals.{meaning, refused, refused_at}
use Rattle.rules.specs.Writing.{bytes4}
use Rattle.rules.specs.declared.Barrier.TheVariants.{NoBarrier, UpIn, DownIn, UpOut, DownOut}
use Rattle.rules.specs.declared.Flags.{Flags}
use Rattle.rules.specs.declared.Limiter.TheVariants.{NoLimiter, At}
use Rattle.rules.specs.declared.OptionType.TheVariants.{Call, Put}
use Rattle.rules.specs.declared.Refusal.TheVariants.{FileSize, ListTooShort}
use Rattle.rules.specs.declared.Side.TheVariants.{Held, Written}
use Rattle.std.specs.Prelude.{Ok}

-- The bytes 1 to 32.
abbrev pub counted : List ℕ
counted =
    (1 ∷ 2 ∷ 3 ∷ 4 ∷ 5 ∷ 6 ∷ 7 ∷ 8 ∷ 9 ∷ 10 ∷ 11 ∷ 12 ∷ 13 ∷ 14 ∷ 15 ∷ 16 ∷ [])
    ++ (17 ∷ 18 ∷ 19 ∷ 20 ∷ 21 ∷ 22 ∷ 23 ∷ 24 ∷ 25 ∷ 26 ∷ 27 ∷ 28 ∷ 29 ∷ 30 ∷ 31 ∷ 32 ∷ [])

-- Little-endian numbers, where each field of a row stands, and what types, sides and kinds mean.
abbrev pub Fields : Type 0
Fields =
    (u8_at (7 ∷ []) 1 ≡ 0)
    × (u16_at (1 ∷ 2 ∷ []) 0 ≡ 513)
    × (u24_at (1 ∷ 2 ∷ 3 ∷ []) 0 ≡ 197_121)
    × (u32_at (1 ∷ 2 ∷ 3 ∷ 4 ∷ []) 0 ≡ 67_305_985)
    × (series_row_from counted 0
    ≡ record {
      pv = 67_305_985;
      fa = 134_678_021;
      fb = 202_050_057;
      f3 = 269_422_093;
      m = 336_794_129;
      option = 21;
      spare = 1_578_774;
    })
    × (position_row_from counted 0
    ≡ record {
      series = 513;
      side = 3;
      kind = 4;
      flags = 5;
      blocked = 526_086;
      q = 202_050_057;
      pe = 269_422_093;
      pb = 336_794_129;
      price = 404_166_165;
      reb = 471_538_201;
      premium = 538_910_237;
    })
    × (option_of 0 ≡ Call)
    × (option_of 1 ≡ Put)
    × (side_of 0 ≡ Held)
    × (side_of 1 ≡ Written)
    × (barrier_of 0 7 ≡ NoBarrier)
    × (barrier_of 1 7 ≡ UpIn 7)
    × (barrier_of 2 7 ≡ DownIn 7)
    × (barrier_of 3 7 ≡ UpOut 7)
    × (barrier_of 4 7 ≡ DownOut 7)

-- Each flag is one bit, whatever the others are.
abbrev pub flags : Bool → Bool → Bool → Bool → Bool → Flags
flags knockedIn limited european beforeAnnex knockedOut =
    record {
      knockedIn = knockedIn;
      limited = limited;
      european = european;
      beforeAnnex = beforeAnnex;
      knockedOut = knockedOut;
    }

abbrev pub FlagBits : Type 0
FlagBits =
    (flags_of 0 ≡ flags false false false false false)
    × (flags_of 1 ≡ flags true false false false false)
    × (flags_of 2 ≡ flags false true false false false)
    × (flags_of 4 ≡ flags false false true false false)
    × (flags_of 8 ≡ flags false false false true false)
    × (flags_of 16 ≡ flags false false false false true)
    × (flags_of 15 ≡ flags true true true true false)
    × (flags_of 31 ≡ flags true true true true true)
    × (flags_of 48 ≡ flags false false false false true)
    × (limiter_of true 7 ≡ At 7)
    × (limiter_of false 7 ≡ NoLimiter)

-- A position row: its number blocked; series, side, kind, flags; Q, PE, PB, barrier price, REB, premium. And one of which none
-- is blocked.
abbrev pub row_bytes_with : ℕ → ℕ → ℕ → ℕ → ℕ → ℕ → ℕ → ℕ → ℕ → ℕ → ℕ → List ℕ
row_bytes_with blocked number side kind flags q pe pb price reb premium =
    (number ∷ 0 ∷ side ∷ kind ∷ flags ∷ blocked % 256 ∷ blocked / 256 % 256 ∷ blocked / 65_536 ∷ [])
    ++ bytes4 q
    ++ bytes4 pe
    ++ bytes4 pb
    ++ bytes4 price
    ++ bytes4 reb
    ++ bytes4 premium

abbrev pub row_bytes : ℕ → ℕ → ℕ → ℕ → ℕ → ℕ → ℕ → ℕ → ℕ → ℕ → List ℕ
row_bytes = row_bytes_with 0

-- A series row of the PV and type given.
abbrev pub typed_bytes : ℕ → ℕ → List ℕ
typed_bytes pv option = series_row_bytes pv 1_200_000 800_000 50_000 5 option 0

-- A call series and a put series with two position rows, of which the first is in order.
abbrev pub two_rows : List ℕ → List ℕ
two_rows second =
    typed_bytes 3000 0 ++ typed_bytes 3000 1 ++ row_bytes 0 1 0 4 10 3100 0 0 0 0 ++ second ++ trailer_bytes 2 2 (span 2 2) 0

-- The sizes and limits by their numbers, since everything else has their names alone.
abbrev pub Sizes : Type 0
Sizes =
    (trailer_width ≡ 12)
    × (series_width ≡ 24)
    × (position_width ≡ 32)
    × (most_bytes ≡ 65_536)
    × (most_series ≡ 32)
    × (most_positions ≡ 256)

-- Every refusal of a file by its number and row.
abbrev pub Numbers : Type 0
Numbers =
    (meaning [] ≡ refused 1 0)
    × (meaning (trailer_bytes 33 1 836 0) ≡ refused 2 0)
    × (meaning (trailer_bytes 32 257 (span 32 257) 0) ≡ refused 2 0)
    × (meaning (trailer_bytes 32 256 (span 32 256) 0) ≡ refused 4 0)
    × (meaning (typed_bytes 3000 0 ++ trailer_bytes 1 1 (span 1 1) 0) ≡ refused 4 0)
    × (meaning (typed_bytes 3000 0 ++ typed_bytes 0 0 ++ row_bytes 0 1 0 4 10 3100 0 0 0 0 ++ trailer_bytes 2 1 (span 2 1) 0) ≡ refused 5 1)
    × (meaning (typed_bytes 3000 0 ++ typed_bytes 3000 2 ++ row_bytes 0 1 0 4 10 3100 0 0 0 0 ++ trailer_bytes 2 1 (span 2 1) 0) ≡ refused 6 1)
    × (meaning (two_rows (row_bytes 2 1 0 4 10 3100 0 0 0 0)) ≡ refused 7 1)
    × (meaning (two_rows (row_bytes 0 1 0 4 10 3100 0 0 0 1)) ≡ refused 8 1)
    × (meaning (two_rows (row_bytes 1 1 0 6 10 2900 2900 0 0 0)) ≡ refused 9 1)
    × (meaning (two_rows (row_bytes 0 1 0 4 10 3100 0 0 1 0)) ≡ refused 10 1)
    × (meaning (two_rows (row_bytes 1 1 4 4 10 2900 0 3000 0 0)) ≡ refused 11 1)

-- An account of two series: calls written (opened before the annex) and held, puts written (both flags) and held.
abbrev pub mixed : List ℕ
mixed =
    typed_bytes 3000 0
    ++ typed_bytes 3000 1
    ++ row_bytes 0 1 0 8 2 3100 0 0 0 0
    ++ row_bytes 1 0 0 4 3 2700 0 0 0 7
    ++ row_bytes 1 1 0 12 3 2900 0 0 0 0
    ++ row_bytes 0 0 0 4 5 3250 0 0 0 11
    ++ trailer_bytes 2 4 (span 2 4) 0

-- What the operations answer, as numbers and as text.
abbrev pub Answers : Type 0
Answers =
    -- pair 0 3 2 1500, pair 2 1 3 3000, left 3 3 0, premium 380, total 4880
    (margin_text mixed
    ≡
    (112 ∷ 97 ∷ 105 ∷ 114 ∷ 32 ∷ 48 ∷ 32 ∷ 51 ∷ 32 ∷ 50 ∷ 32 ∷ 49 ∷ 53 ∷ 48 ∷ 48 ∷ 10 ∷ [])
    ++ (112 ∷ 97 ∷ 105 ∷ 114 ∷ 32 ∷ 50 ∷ 32 ∷ 49 ∷ 32 ∷ 51 ∷ 32 ∷ 51 ∷ 48 ∷ 48 ∷ 48 ∷ 10 ∷ [])
    ++ (108 ∷ 101 ∷ 102 ∷ 116 ∷ 32 ∷ 51 ∷ 32 ∷ 51 ∷ 32 ∷ 48 ∷ 10 ∷ [])
    ++ (112 ∷ 114 ∷ 101 ∷ 109 ∷ 105 ∷ 117 ∷ 109 ∷ 32 ∷ 51 ∷ 56 ∷ 48 ∷ 10 ∷ [])
    ++ (116 ∷ 111 ∷ 116 ∷ 97 ∷ 108 ∷ 32 ∷ 52 ∷ 56 ∷ 56 ∷ 48 ∷ 10 ∷ []))
    -- refused 8 1
    × (margin_text (two_rows (row_bytes 0 1 0 4 10 3100 0 0 0 1))
    ≡
    (114 ∷ 101 ∷ 102 ∷ 117 ∷ 115 ∷ 101 ∷ 100 ∷ 32 ∷ 56 ∷ 32 ∷ 49 ∷ 10 ∷ []))
    × (premiums_for [] (refused_at FileSize 0) ≡ 0)
    -- A list of 2 × p entries is long enough, one of 2 × p - 1 is not
    × (margin_answer mixed 8 ≡ comes_to 3 4_880)
    × (margin_answer mixed 7 ≡ refused_at ListTooShort 0)
    -- One position: a written row's amount for all its contracts, a held row's premium; minus 13, minus 8
    × (signed_answer (amount_answer mixed 2) ≡ pos 7_500)
    × (signed_answer (amount_answer mixed 3) ≡ pos 275)
    × (signed_answer (amount_answer mixed 4) ≡ neg_ℤ (pos 13))
    × (signed_answer (amount_answer (two_rows (row_bytes 0 1 0 4 10 3100 0 0 0 1)) 0) ≡ neg_ℤ (pos 8))
    -- Without positions: premium 0, total 0
    × (margin_text no_rows
    ≡
    (112 ∷ 114 ∷ 101 ∷ 109 ∷ 105 ∷ 117 ∷ 109 ∷ 32 ∷ 48 ∷ 10 ∷ []) ++ (116 ∷ 111 ∷ 116 ∷ 97 ∷ 108 ∷ 32 ∷ 48 ∷ 10 ∷ []))
    × (premium_answer no_rows ≡ Ok 0)
