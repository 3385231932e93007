-- Document 02 [11], by values: which rows its proviso excepts; an account at two years, with the circular's own factors, whose
-- total covers; and an account that shows that the proviso is needed.
-- Assumes nothing.
use Prim.Native.Nat.{ℕ, zero, suc, ◌≤◌}
use mathlib.Core.Bool.{Bool, true, false}
use mathlib.Core.List.{List, [], ◌∷◌, ◌++◌}
use mathlib.Core.Path.{◌≡◌, refl}
use native.Mathlib.Omega.{arith}
use Rattle.rules.proofs.CheckOrder.{series_row_bytes, trailer_bytes}
use Rattle.rules.proofs.CheckedValues.{row}
use Rattle.rules.proofs.Demand3.{cover_long}
use Rattle.rules.proofs.FileTables.{row_bytes}
use Rattle.rules.proofs.InstalmentPromises.{half_paired_long}
use Rattle.rules.proofs.InstalmentTables.{mark}
use Rattle.rules.proofs.MarginTables.{knocked_in_row}
use Rattle.rules.specs.File.{Account, account_of, layout, position_row, series_of_row, series_row, span}
use Rattle.rules.specs.Instalments.{CoverSoFar, amount_so_far, begins_with, instalment_fault}
use Rattle.rules.specs.Lines.{comes_to, left_lines, lines, lines_given, margin_answer, pair_lines, premiums, sum_over, sum_to, total}
use Rattle.rules.specs.LongExpiries.{NoExceptedPut, NotCoveredFile, is_excepted_put}
use Rattle.rules.specs.OnePosition.{unit_margin}
use Rattle.rules.specs.Pairs.{along, gap_of, left_after, made_after, may_of, through}
use Rattle.rules.specs.Paths.{payment}
use Rattle.rules.specs.Promises.{Cover, LowFactors, OnePathEach}
use Rattle.rules.specs.Quantities.{fine}
use Rattle.rules.specs.Refusals.{accepted, file_read, matched_fault, meaning, position_row_fault, position_rows, refuse, rows, series_row_fault, series_rows, trailer_fault}
use Rattle.rules.specs.Spreads.{unit_spread}
use Rattle.rules.specs.declared.Barrier.{Barrier}
use Rattle.rules.specs.declared.Barrier.TheVariants.{NoBarrier, UpIn, DownIn, UpOut, DownOut}
use Rattle.rules.specs.declared.Limiter.TheVariants.{NoLimiter}
use Rattle.rules.specs.declared.Line.{Line}
use Rattle.rules.specs.declared.OptionType.{OptionType}
use Rattle.rules.specs.declared.OptionType.TheVariants.{Call, Put}
use Rattle.rules.specs.declared.Series.{Series}
use Rattle.rules.specs.declared.Side.{Side}
use Rattle.rules.specs.declared.Side.TheVariants.{Held, Written}
use Rattle.std.specs.Prelude.{Ok}

-- A series by its type and fb.
abbrev series_with : OptionType → ℕ → Series
series_with option fb = record { pv = 1000; fa = 1_300_000; fb = fb; f3 = 0; m = 1; option = option }

-- Whether a row without flag 1 is excepted, by its side and barrier.
abbrev excepted : OptionType → ℕ → Side → Barrier → Bool
excepted option fb side barrier = is_excepted_put (series_with option fb) (row side 1250 NoLimiter barrier 0)

-- "a written put with an up-and-in barrier not yet knocked in within a series whose fb is above 1,000,000": each of these words
-- by itself.
pub excepted_rows :
    (excepted Put 1_000_001 Written (UpIn 1200) ≡ true)
    × (excepted Put 1_300_000 Written (UpIn 1400) ≡ true)
    × (excepted Put 1_000_001 Held (UpIn 1200) ≡ false)
    × (excepted Call 1_000_001 Written (UpIn 1200) ≡ false)
    × (excepted Put 1_000_001 Written NoBarrier ≡ false)
    × (excepted Put 1_000_001 Written (DownIn 900) ≡ false)
    × (excepted Put 1_000_001 Written (UpOut 1200) ≡ false)
    × (excepted Put 1_000_001 Written (DownOut 900) ≡ false)
    × (is_excepted_put (series_with Put 1_000_001) (knocked_in_row Written 1250 NoLimiter (UpIn 1200) 0) ≡ false)
    × (excepted Put 1_000_000 Written (UpIn 1200) ≡ false)
excepted_rows = (refl, refl, refl, refl, refl, refl, refl, refl, refl, refl)

-- Calls and puts at two years: PV 3000, and of the code FCI at 720 days fa 1,863,083 and fb 1,085,366 (document 02 [2]), so that H
-- is 5589.249 and L 3256.098. A written and a held call, a written put, a written up-and-in put that is knocked in, a held one that
-- is not, and a written up-and-in call.
abbrev pub two_years : List ℕ
two_years =
    series_row_bytes 3000 1_863_083 1_085_366 50_000 5 0 0
    ++ series_row_bytes 3000 1_863_083 1_085_366 50_000 5 1 0
    ++ row_bytes 0 1 0 4 10 4000 0 0 0 0
    ++ row_bytes 0 0 0 4 4 4200 0 0 0 0
    ++ row_bytes 1 1 0 4 10 3500 0 0 0 0
    ++ row_bytes 1 1 1 5 1 5000 0 4000 0 0
    ++ row_bytes 1 0 1 4 1 5000 0 4000 0 0
    ++ row_bytes 0 1 1 4 2 4000 0 5000 0 0
    ++ trailer_bytes 2 6 (span 2 6) 0

abbrev two_years_account : Account
two_years_account = account_of two_years (layout two_years)

two_years_accepted : meaning two_years ≡ accepted two_years_account
unfolding meaning file_read layout series_row position_row series_rows position_rows rows trailer_fault series_row_fault position_row_fault matched_fault refuse
two_years_accepted = refl

two_years_provided : NoExceptedPut two_years_account
unfolding layout series_row position_row
two_years_provided zero l = refl
two_years_provided (suc zero) l = refl
two_years_provided (suc (suc zero)) l = refl
two_years_provided (suc (suc (suc zero))) l = refl
two_years_provided (suc (suc (suc (suc zero)))) l = refl
two_years_provided (suc (suc (suc (suc (suc zero))))) l = refl
two_years_provided (suc (suc (suc (suc (suc (suc r)))))) l = absurd (omega (arith, l))

-- Its fb is above 1,000,000, so that document 01's cover does not speak of it; by document 02 [11] its total covers.
pub two_years_covered : (meaning two_years ≡ accepted two_years_account) × (LowFactors two_years_account → ⊥) × Cover two_years_account
unfolding layout series_row
two_years_covered =
    (two_years_accepted, (λ low. above (low 0 (omega arith))), cover_long two_years two_years_account two_years_accepted two_years_provided)
  where
    above : 1_085_366 ≤ 1_000_000 → ⊥
    above l = omega (arith, l)

-- Twelve entries of any content.
abbrev twelve : List Line
twelve =
    mark 1 ∷ mark 2 ∷ mark 3 ∷ mark 4 ∷ mark 5 ∷ mark 6 ∷ mark 7 ∷ mark 8 ∷ mark 9 ∷ mark 10 ∷ mark 11 ∷ mark 12 ∷ []

-- What is answered: 200 ticks for the pair, 1589.249 for the written call and for the up-and-in one, 243.902 and 1743.902 for the
-- puts; and before the pair is made, with all ten contracts of the written call left.
pub two_years_answered : (margin_answer two_years 12 ≡ comes_to 6 88_600) × (amount_so_far two_years twelve 0 ≡ Ok 116_400)
unfolding margin_answer amount_so_far instalment_fault begins_with lines_given lines left_lines pair_lines left_after made_after through along may_of gap_of premiums total sum_to sum_over unit_margin unit_spread meaning file_read layout series_row position_row series_rows position_rows rows trailer_fault series_row_fault position_row_fault matched_fault refuse
two_years_answered = (refl, refl)

-- The amount before the pair covers too.
pub two_years_so_far : CoverSoFar two_years_account [] 116_400
two_years_so_far =
    half_paired_long two_years two_years_account two_years_accepted twelve 0 116_400 two_years_answered.1 two_years_provided

-- Put PV 1000, fa 1.3, fb 1.1, f3 0; written PE 1250, IU 1200, Q 1, M 1. L after the knock-in is IU × fb, 1320, above PE, so
-- that the unit margin is 0. On the path that is 1200 alone the row is knocked in and pays 50 ticks.
abbrev pub excepted_file : List ℕ
excepted_file =
    series_row_bytes 1000 1_300_000 1_100_000 0 1 1 0 ++ row_bytes 0 1 1 4 1 1250 0 1200 0 0 ++ trailer_bytes 1 1 (span 1 1) 0

abbrev excepted_account : Account
excepted_account = account_of excepted_file (layout excepted_file)

abbrev knocked_in_at1200 : List ℕ
knocked_in_at1200 = fine 1200 ∷ []

pub excepted_values :
    (is_excepted_put (series_of_row excepted_account 0) (excepted_account.position_at 0) ≡ true)
    × (unit_margin (series_of_row excepted_account 0) (excepted_account.position_at 0) ≡ 0)
    × (payment (series_of_row excepted_account 0) (excepted_account.position_at 0) knocked_in_at1200 ≡ fine 50)
    × (margin_answer excepted_file 2 ≡ comes_to 1 0)
unfolding margin_answer lines_given lines left_lines pair_lines left_after made_after through along may_of gap_of premiums total sum_to sum_over unit_margin unit_spread payment meaning file_read layout series_row position_row series_rows position_rows rows trailer_fault series_row_fault position_row_fault matched_fault refuse
excepted_values = (refl, refl, refl, refl)

one_path_each : OnePathEach excepted_account (λ i. knocked_in_at1200)
unfolding layout series_row
one_path_each zero l = omega arith
one_path_each (suc i) l = absurd (omega (arith, l))

-- The account is accepted, and on that path its total, 0, does not cover what the row pays.
pub excepted_not_covered : NotCoveredFile excepted_file
unfolding lines left_lines pair_lines left_after made_after through along may_of gap_of premiums total sum_to sum_over unit_margin unit_spread payment meaning file_read layout series_row position_row series_rows position_rows rows trailer_fault series_row_fault position_row_fault matched_fault refuse
excepted_not_covered =
    record {
      account = excepted_account;
      is_accepted = refl;
      not_covered = λ covers. nothing_for_50 (covers (λ i. knocked_in_at1200) one_path_each);
    }
  where
    nothing_for_50 : fine 50 ≤ 0 → ⊥
    nothing_for_50 l = omega (arith, l)

-- So the cover does not hold of every accepted account without the proviso.
pub proviso_needed : ((b : List ℕ) (a : Account) → meaning b ≡ accepted a → Cover a) → ⊥
proviso_needed covers =
    let f = excepted_not_covered in
    f.not_covered (covers excepted_file f.account f.is_accepted)
