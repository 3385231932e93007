-- One more file taken, and how a run then ends.
-- Assumes nothing.
use Prim.Native.Nat.{ℕ, ◌+◌, ◌≤◌}
use mathlib.Core.List.{List, [], ◌∷◌, ◌++◌}
use mathlib.Core.Path.{◌≡◌, refl, sym, subst}
use native.Mathlib.Omega.{arith}
use lib.ListN.{length-append}
use denote.Ref.{MutBor}
use Rattle.std.specs.Prelude.{◌⊎◌, IfErr, IsErrAnd, Result, Ok, Err}
use Rattle.std.proofs.Common.{inl, inr}
use Rattle.std.specs.Fn.{Called, CalledAtMut, Mut}
use Rattle.std.specs.List.{FoldsTo}
use Rattle.framing.specs.Runs.{CutOffAfter, Takes, TookAll, TurnedDown}
use Rattle.framing.specs.declared.CutOff.{CutOff}

module _ {F E : Type 0} (g : Mut F (MutBor (List ℕ) × Unit {0}) (Result (Unit {0}) E × (MutBor (List ℕ) × Unit {0}))) where
  pub called_at : (f f' : F) (a l : MutBor (List ℕ)) (r : Result (Unit {0}) E) → Called g f (a, tt) (r, (l, tt)) f' → CalledAtMut g f a.now r f' l.now
  called_at f f' a l r it = record { shown = a; shows = refl; left = l; called = it; leaves = refl }

  folds_on : (p q r : F) (files : List (List ℕ)) (file : List ℕ) → FoldsTo (Takes g) p files q → Takes g q file r → FoldsTo (Takes g) p (files ++ file ∷ []) r
  folds_on p q r [] file same took = (r, subst (λ s. Takes g s file r) (sym same) took, refl)
  folds_on p q r (x ∷ xs) file (next, first, rest) took = (next, first, folds_on next q r xs file rest took)

  pub took_none : (p : F) → TookAll g 0 p p
  took_none p = ([], omega arith, refl)

  pub took_next : (n : ℕ) (p q r : F) (a l : MutBor (List ℕ)) (said : Result (Unit {0}) E) (x : Unit {0}) → TookAll g n p q
      → Called g q (a, tt) (said, (l, tt)) r → said ≡ Ok x → TookAll g (n + 1) p r
  took_next n p q r a l said x (files, few, folds) it was =
      let at_ok = subst (λ y. Called g q (a, tt) (y, (l, tt)) r) was it in
      (files ++ a.now ∷ [], omega (arith, few, length-append files (a.now ∷ [])), folds_on p q r files a.now folds (l.now, called_at q r a l (Ok tt) at_ok))

  module _ (n most : ℕ) (p q : F) (took : TookAll g n p q) (few : n ≤ most) where
    pub took_few : TookAll g most p q
    took_few = let (files, l, folds) = took in (files, omega (arith, l, few), folds)

    pub cut_off_told : (made : CutOff → E → Type 0) (cut_off : CutOff) (r : Result (Unit {0}) E) → IsErrAnd r (made cut_off)
        → IfErr r (λ e. CutOffAfter g made most p e q ⊎ TurnedDown g most p e q)
    cut_off_told made cut_off (Ok x) it = absurd it
    cut_off_told made cut_off (Err e) it = inl (took_few, (cut_off, it))

    pub turned_down_told : (made : CutOff → E → Type 0) (after : F) (a l : MutBor (List ℕ)) (why : E) (said r : Result (Unit {0}) E)
        → Called g q (a, tt) (said, (l, tt)) after → said ≡ Err why → IsErrAnd r (λ e. e ≡ why)
        → IfErr r (λ e. CutOffAfter g made most p e after ⊎ TurnedDown g most p e after)
    turned_down_told made after a l why said (Ok x) it was is = absurd is
    turned_down_told made after a l why said (Err e) it was is =
        let at_why = subst (λ y. Called g q (a, tt) (y, (l, tt)) after) was it in
        inr (q, took_few, (a.now, l.now, called_at q after a l (Err e) (subst (λ y. Called g q (a, tt) (Err y, (l, tt)) after) (sym is) at_why)))
