-- Values of the load: the states, series and rows of three seeds with every kind among them, a file byte for byte, the buffer
-- after a call, and the answers at the ends of the ranges. They were worked out by another implementation.
-- Assumes nothing.
use Prim.Native.Nat.{ℕ}
use mathlib.Core.List.{List, [], ◌∷◌, ◌++◌}
use mathlib.Core.Path.{◌≡◌, refl}
use lib.ListN.{replicate}
use Rattle.load.specs.Load.{buffer_after, load_answer, load_file, position_drawn, row_drawn, series_drawn, state_after, state_after_row, state_before}
use Rattle.rules.specs.Writing.{bytes_of_file, bytes_of_position, bytes_of_rows, bytes_of_series, bytes_of_trailer}
use Rattle.rules.specs.declared.PositionRow.{PositionRow}
use Rattle.rules.specs.declared.Refusal.TheVariants.{LoadAskedFor}
use Rattle.rules.specs.declared.SeriesRow.{SeriesRow}
use Rattle.std.specs.Prelude.{Ok}
use Rattle.rules.specs.Refusals.{refused_at}

-- "The state goes from t to 48271 × t mod 2147483647"
pub states :
    (state_after 1 0 ≡ 1)
    × (state_after 1 1 ≡ 48_271)
    × (state_after 1 2 ≡ 182_605_794)
    × (state_after 1 3 ≡ 1_291_394_886)
    × (state_after 1 8 ≡ 854_716_505)
    × (state_after 2_147_483_646 1 ≡ 2_147_435_376)
    × (state_after 2_147_483_646 5 ≡ 68_814_606)
unfolding state_after
states = (refl, refl, refl, refl, refl, refl, refl)

-- PV, fa, fb, M and type of a series.
abbrev series : ℕ → ℕ → ℕ → ℕ → ℕ → SeriesRow
series pv fa fb m option = record { pv = pv; fa = fa; fb = fb; f3 = 50_000; m = m; option = option; spare = 0 }

-- Side, kind, Q, PE, barrier price and REB of a row.
abbrev row : ℕ → ℕ → ℕ → ℕ → ℕ → ℕ → PositionRow
row side kind q pe price reb =
    record {
      series = 0;
      side = side;
      kind = kind;
      flags = 4;
      blocked = 0;
      q = q;
      pe = pe;
      pb = 0;
      price = price;
      reb = reb;
      premium = 0;
    }

pub series_drawn_lem :
    (series_drawn 1 ≡ series 4_271 1_105_794 892_304 8 1)
    × (series_drawn 3 ≡ series 1_813 1_317_382 697_558 8 1)
    × (series_drawn 2_147_483_646 ≡ series 9_376 1_377_853 587_049 1 0)
unfolding series_drawn state_after
series_drawn_lem = (refl, refl, refl)

-- Up and down, in and out; a row without a barrier takes two draws less.
pub rows_drawn_lem :
    (row_drawn 1 0 ≡ row 1 1 6 6_692 5_103 71)
    × (row_drawn 1 1 ≡ row 1 2 50 5_914 1_300 69)
    × (row_drawn 1 2 ≡ row 0 3 96 2_373 4_457 80)
    × (row_drawn 3 1 ≡ row 0 4 54 4_093 1_791 13)
    × (row_drawn 3 2 ≡ row 0 0 92 7_117 0 0)
    × (row_drawn 3 3 ≡ row 0 1 15 3_118 2_404 90)
    × (row_drawn 2_147_483_646 0 ≡ row 0 1 43 6_957 10_193 76)
    × (row_drawn 2_147_483_646 1 ≡ row 0 0 99 7_735 0 0)
    × (row_drawn 2_147_483_646 2 ≡ row 0 3 54 5_825 9_929 75)
unfolding position_drawn series_drawn state_before state_after_row state_after
rows_drawn_lem = (refl, refl, refl, refl, refl, refl, refl, refl, refl)

pub states_of_rows :
    (state_before 3 0 ≡ 1_941_039_829)
    × (state_before 3 2 ≡ 1_352_703_613)
    × (state_before 3 3 ≡ 1_914_067_116)
    × (state_before 3 4 ≡ 1_061_154_990)
unfolding state_before state_after_row state_after
states_of_rows = (refl, refl, refl, refl)

-- The file of seed 1 and one row.
abbrev smallest : List ℕ
smallest =
    (175 ∷ 16 ∷ 0 ∷ 0 ∷ 130 ∷ 223 ∷ 16 ∷ 0 ∷ 144 ∷ 157 ∷ 13 ∷ 0 ∷ 80 ∷ 195 ∷ 0 ∷ 0 ∷ 8 ∷ 0 ∷ 0 ∷ 0 ∷ 1 ∷ 0 ∷ 0 ∷ 0 ∷ [])
    ++ (0 ∷ 0 ∷ 1 ∷ 1 ∷ 4 ∷ 0 ∷ 0 ∷ 0 ∷ 6 ∷ 0 ∷ 0 ∷ 0 ∷ 36 ∷ 26 ∷ 0 ∷ 0 ∷ 0 ∷ 0 ∷ 0 ∷ 0 ∷ 239 ∷ 19 ∷ 0 ∷ 0 ∷ 71 ∷ 0 ∷ 0 ∷ 0 ∷ 0 ∷ 0 ∷ 0 ∷ 0 ∷ [])
    ++ (1 ∷ 0 ∷ 1 ∷ 0 ∷ 68 ∷ 0 ∷ 0 ∷ 0 ∷ 0 ∷ 0 ∷ 0 ∷ 0 ∷ [])

-- "Bytes of the lent buffer after the file stay"; refused, "nothing is written".
pub bytes_after :
    (load_file 1 1 ≡ smallest)
    × (buffer_after 1 1 (replicate 70 7) ≡ smallest ++ (7 ∷ 7 ∷ []))
    × (buffer_after 1 1 (replicate 67 7) ≡ replicate 67 7)
    × (buffer_after 0 1 (replicate 70 7) ≡ replicate 70 7)
unfolding buffer_after load_file bytes_of_file bytes_of_rows bytes_of_series bytes_of_position bytes_of_trailer position_drawn series_drawn state_before state_after_row state_after
bytes_after = (refl, refl, refl, refl)

-- "seed 1 to 2147483646", "p from 1 to 256", "a buffer below 36 + 32 × p bytes": each end, and one beyond it.
pub answers :
    (load_answer 1 1 68 ≡ Ok 68)
    × (load_answer 1 1 69 ≡ Ok 68)
    × (load_answer 1 256 8_228 ≡ Ok 8_228)
    × (load_answer 2_147_483_646 1 68 ≡ Ok 68)
    × (load_answer 2_147_483_646 256 8_228 ≡ Ok 8_228)
    × (load_answer 0 1 68 ≡ refused_at LoadAskedFor 0)
    × (load_answer 2_147_483_647 1 68 ≡ refused_at LoadAskedFor 0)
    × (load_answer 1 0 68 ≡ refused_at LoadAskedFor 0)
    × (load_answer 1 257 65_536 ≡ refused_at LoadAskedFor 0)
    × (load_answer 1 1 67 ≡ refused_at LoadAskedFor 0)
    × (load_answer 1 256 8_227 ≡ refused_at LoadAskedFor 0)
unfolding load_answer
answers = (refl, refl, refl, refl, refl, refl, refl, refl, refl, refl, refl)
