-- Rows that may pair are of one family, and knock-ins that may pair have one strike.
-- Assumes nothing.
use Prim.Native.Nat.{ℕ, ◌≤◌}
use mathlib.Core.Bool.{true, cond}
use mathlib.Core.Logic.{⊎_elim}
use mathlib.Core.Path.{◌≡◌, refl, sym, ap, ◌∙◌}
use native.Mathlib.Omega.{arith}
use lib.Dec.{eqb}
use borrow.Author.Tests.{eqb-true}
use Rattle.lanes.specs.Keys.{barrier_family, family}
use Rattle.rules.proofs.MayPair.{may_pairable}
use Rattle.rules.proofs.RowFacts.{flag_1_leaves}
use Rattle.rules.proofs.SameRows.{same_terms_lem}
use Rattle.rules.proofs.SpreadForms.{barred, spread_made}
use Rattle.rules.specs.File.{Account}
use Rattle.rules.specs.OnePosition.{normal}
use Rattle.rules.specs.Pairs.{may_of}
use Rattle.rules.specs.Spreads.{kind_of, one_kind_spread, price_of, same, spread_between, unit_spread}
use Rattle.rules.specs.declared.Barrier.{Barrier}
use Rattle.rules.specs.declared.Barrier.TheVariants.{NoBarrier, UpIn, DownIn, UpOut, DownOut}
use Rattle.rules.specs.declared.Position.{Position}
use Rattle.rules.specs.declared.Series.{Series}
use Rattle.rules.specs.declared.Terms.{Terms}
use Rattle.std.specs.Prelude.{Some}

kind_family : ℕ → ℕ
kind_family k = cond (eqb k 0) 0 (cond (eqb k 3) 1 (cond (eqb k 4) 2 3))

by_kind : (b : Barrier) → barrier_family b ≡ kind_family (kind_of b)
unfolding kind_family
by_kind NoBarrier = refl
by_kind (UpIn p) = refl
by_kind (DownIn p) = refl
by_kind (UpOut p) = refl
by_kind (DownOut p) = refl

one_kind : (b c : Barrier) → eqb (kind_of b) (kind_of c) ≡ true → barrier_family b ≡ barrier_family c
one_kind b c e = by_kind b ∙ ap kind_family (eqb-true (kind_of b) (kind_of c) e) ∙ sym (by_kind c)

barrier_most : (b : Barrier) → barrier_family b ≤ 3
barrier_most NoBarrier = omega arith
barrier_most (UpIn p) = omega arith
barrier_most (DownIn p) = omega arith
barrier_most (UpOut p) = omega arith
barrier_most (DownOut p) = omega arith

pub family_most : (p : Position) → family p ≤ 3
unfolding family
family_most p = barrier_most (normal p).barrier

-- A barrier whose own rule gives a margin is no knock-in.
no_knock_in : (b : Barrier) (x u : ℕ) (s : Series) (h w : Terms) → one_kind_spread b x s h w ≡ Some u → barrier_family b ≡ 3 → w.pe ≡ h.pe
no_knock_in NoBarrier x u s h w e f = absurd (omega arith)
no_knock_in (UpIn p) x u s h w e f = barred u e
no_knock_in (DownIn p) x u s h w e f = barred u e
no_knock_in (UpOut p) x u s h w e f = absurd (omega arith)
no_knock_in (DownOut p) x u s h w e f = absurd (omega arith)

-- Two normalised positions with a spread.
module _ (s : Series) (h w : Terms) (u : ℕ) where
  abbrev OneFamily : Type 0
  OneFamily = (barrier_family w.barrier ≡ barrier_family h.barrier) × (barrier_family w.barrier ≡ 3 → w.pe ≡ h.pe)

  alike : same h w ≡ true → OneFamily
  alike e =
      let n = sym (same_terms_lem h w e) in
      (ap (λ (t : Terms). barrier_family t.barrier) n, λ q. ap (λ (t : Terms). t.pe) n)

  unlike : eqb (kind_of h.barrier) (kind_of w.barrier) ≡ true
      → one_kind_spread w.barrier (price_of h.barrier) s h w ≡ Some u → OneFamily
  unlike k e = (sym (one_kind h.barrier w.barrier k), no_knock_in w.barrier (price_of h.barrier) u s h w e)

  terms_family : spread_between s h w ≡ Some u → OneFamily
  terms_family e = ⊎_elim alike (λ t. unlike t.1 t.2) (spread_made s h w u e)

-- Two rows that may pair.
pub may_family : (a : Account) (w h : ℕ) → may_of a w h ≡ true
    → (family (a.position_at w) ≡ family (a.position_at h)) × (family (a.position_at w) ≡ 3 → (a.position_at w).terms.pe ≡ (a.position_at h).terms.pe)
unfolding unit_spread family
may_family a w h e =
    let p = may_pairable a w h e in
    let t = terms_family _ (normal (a.position_at h)) (normal (a.position_at w)) p.spread p.spread_is in
    (t.0, λ q. sym (flag_1_leaves (a.position_at w)).0 ∙ t.1 q ∙ (flag_1_leaves (a.position_at h)).0)
