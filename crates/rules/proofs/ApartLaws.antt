-- Document 02 [8], Taking pairs apart: the answer by the reading and by the checks after it.
-- Assumes nothing.
use Prim.Native.Nat.{ℕ, ◌≤◌, ◌<◌}
use mathlib.Core.Bool.{Bool, true, false}
use mathlib.Core.List.{List}
use mathlib.Core.Path.{◌≡◌, refl, ap, ◌∙◌}
use native.Mathlib.Omega.{arith}
use borrow.Author.Tests.{le-ltb, lt-ltb}
use lib.Dec.{ltb}
use lib.ListN.{length}
use Rattle.rules.specs.File.{Account}
use Rattle.rules.specs.Lines.{entries_for}
use Rattle.rules.specs.Instalments.{instalment_fault, not_first_pairs}
use Rattle.rules.specs.Refusals.{Fault, clean, file_read, refuse}
use Rattle.rules.specs.TakingApart.{apart_answer, apart_fault, apart_for_file}
use Rattle.rules.specs.declared.Line.{Line}
use Rattle.rules.specs.declared.Refusal.{Refusal}
use Rattle.rules.specs.declared.Refusal.TheVariants.{AboveCount, ListTooShort, NotFirstPairs}
use Rattle.std.specs.Prelude.{Result, Err}
use Rattle.rules.specs.declared.Refused.{Refused}
use Rattle.rules.specs.declared.Layout.{Layout}

pub apart_read : (b : List ℕ) (out : List Line) (count k : ℕ) (x : Result Layout Refused) → file_read b ≡ x
    → apart_answer b out count k ≡ apart_for_file b out count k x
unfolding apart_answer
apart_read b out count k x r = ap (apart_for_file b out count k) r

-- A further check after two: it is looked at where neither fails.
module _ (v w : Refusal) where
  two_fail : (t u : Bool) (x : Refusal) (next : Fault) → refuse t v (refuse u w clean) ≡ Err x → refuse t v (refuse u w next) ≡ Err x
  unfolding refuse
  two_fail true u x next e = e
  two_fail false true x next e = e
  two_fail false false x next e = let z : ◌≡◌ {A = ℕ} 0 1 = cc in absurd (omega arith)

  two_pass : (t u : Bool) (next : Fault) → refuse t v (refuse u w clean) ≡ clean → refuse t v (refuse u w next) ≡ next
  unfolding refuse
  two_pass true u next e = let z : ◌≡◌ {A = ℕ} 0 1 = cc in absurd (omega arith)
  two_pass false true next e = let z : ◌≡◌ {A = ℕ} 0 1 = cc in absurd (omega arith)
  two_pass false false next e = refl

-- The ways through the checks after the reading: what the pairing in instalments is refused for, then 19, then neither.
module _ (a : Account) (out : List Line) (count k : ℕ) where
  pub fault_alike : (w : Refusal) → instalment_fault a out count ≡ Err w → apart_fault a out count k ≡ Err w
  unfolding apart_fault instalment_fault
  fault_alike w e = two_fail ListTooShort NotFirstPairs (ltb (length out) (entries_for a.positions)) (not_first_pairs a out count) w _ e

  pub fault_19 : instalment_fault a out count ≡ clean → count < k → apart_fault a out count k ≡ Err AboveCount
  unfolding apart_fault instalment_fault refuse
  fault_19 e h =
      two_pass ListTooShort NotFirstPairs (ltb (length out) (entries_for a.positions)) (not_first_pairs a out count) (refuse (ltb count k) AboveCount clean) e
      ∙ rw (lt-ltb count k h)

  pub fault_no_19 : instalment_fault a out count ≡ clean → k ≤ count → apart_fault a out count k ≡ clean
  unfolding apart_fault instalment_fault refuse
  fault_no_19 e h =
      two_pass ListTooShort NotFirstPairs (ltb (length out) (entries_for a.positions)) (not_first_pairs a out count) (refuse (ltb count k) AboveCount clean) e
      ∙ rw (le-ltb count k h)
