-- The refusals of a file end at 11: 12 and later are those of a call, given after the file or without one.
-- Assumes nothing.
use Prim.Native.Nat.{ℕ, ◌≤◌}
use mathlib.Core.Bool.{true, false}
use mathlib.Core.List.{List, [], ◌∷◌}
use mathlib.Core.Path.{◌≡◌, ap}
use native.Mathlib.Omega.{arith}
use Rattle.rules.proofs.Reading.{FirstFault, in_positions, in_series, in_trailer, refused_first}
use Rattle.rules.specs.File.{layout, position_row, series_row}
use Rattle.rules.specs.Refusals.{Check, first_fault, meaning, number, position_row_checks, position_row_fault, refuse, refused, series_row_checks, series_row_fault, trailer_checks, trailer_fault}
use Rattle.rules.specs.declared.Refusal.{Refusal}
use Rattle.std.specs.Prelude.{Err}

-- Every refusal of the checks is numbered 11 at most.
abbrev NumbersMost : List Check → Type 0
NumbersMost [] = Unit {0}
NumbersMost ((test, w) ∷ later) = (number w ≤ 11) × NumbersMost later

found_most : (l : List Check) → NumbersMost l → (w : Refusal) → first_fault l ≡ Err w → number w ≤ 11
unfolding refuse
found_most [] h w e = let z : ◌≡◌ {A = ℕ} 0 1 = cc in absurd (omega arith)
found_most ((true, v) ∷ later) h w e = let p : v ≡ w = cc in omega (arith, h.0, ap number p)
found_most ((false, v) ∷ later) h w e = found_most later h.1 w e

fault_most : (b : List ℕ) (w : Refusal) (row : ℕ) → FirstFault b w row → number w ≤ 11
unfolding trailer_fault series_row_fault position_row_fault
fault_most b w row (in_trailer z t) = found_most (trailer_checks b) (omega arith, (omega arith, (omega arith, tt))) w t
fault_most b w row (in_series t a) =
    found_most (series_row_checks (series_row b (layout b) row)) (omega arith, (omega arith, tt)) w a.fault
fault_most b w row (in_positions t c a) =
    let r = position_row b (layout b) row in
    found_most (position_row_checks (layout b).series (series_row b (layout b) r.series) r)
    (omega arith, (omega arith, (omega arith, (omega arith, (omega arith, tt))))) w a.fault

-- Whatever the bytes.
pub file_number : (b : List ℕ) (n row : ℕ) → meaning b ≡ refused n row → n ≤ 11
file_number b n row e =
    let f = refused_first b n row e in
    omega (arith, f.1, fault_most b f.0 row f.2)
