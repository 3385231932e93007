-- What keys have, from a mark: as the definitions have it of the row.
-- Assumes nothing.
use Prim.Native.Nat.{ℕ, ◌+◌, ◌-◌, ◌/◌, ◌%◌, ◌≤◌}
use mathlib.Core.Bool.{Bool, true, false, cond}
use mathlib.Core.Path.{◌≡◌, refl, ap, ◌∙◌}
use native.Mathlib.Omega.{arith}
use borrow.Author.Tests.{eq-eqb, ne_eqb}
use Rattle.lanes.proofs.FamilyLaws.{family_most}
use Rattle.lanes.proofs.KeyLaws.{place_most}
use Rattle.lanes.specs.Keys.{InRange, barrier_family, family, from_of, group_of, last, place_of, top_of}
use Rattle.lanes.specs.Marks.{mark_from, mark_group, mark_of, mark_place, mark_top, role_of, side_role}
use Rattle.rules.specs.OnePosition.{normal}
use Rattle.rules.specs.Pairs.{may_be_paired}
use Rattle.rules.specs.declared.Position.{Position}
use Rattle.rules.specs.declared.Side.{Side}
use Rattle.rules.specs.declared.Side.TheVariants.{Held, Written}
use Rattle.rules.specs.declared.Terms.{Terms}

-- The family of a row, from its normalised terms.
pub family_is : (p : Position) (n : Terms) (x : ℕ) → n ≡ normal p → x ≡ barrier_family n.barrier → x ≡ family p
unfolding family
family_is p n x is q = q ∙ ap (λ (t : Terms). barrier_family t.barrier) is

side_most : (fits : Bool) (s : Side) → side_role fits s ≤ 2
side_most true Held = omega arith
side_most false Held = omega arith
side_most fits Written = omega arith

pub role_most : (fits : Bool) (p : Position) → role_of fits p ≤ 2
role_most fits p = go (may_be_paired p)
  where
    go : (t : Bool) → cond t (side_role fits p.side) 2 ≤ 2
    go true = side_most fits p.side
    go false = omega arith

pub role_pairs : (fits : Bool) (p : Position) (x : ℕ) → may_be_paired p ≡ true → x ≡ side_role fits p.side → x ≡ role_of fits p
role_pairs fits p x e q = rw e q

pub role_none : (fits : Bool) (p : Position) → may_be_paired p ≡ false → 2 ≡ role_of fits p
role_none fits p e = rw e refl

-- The top, return by return.
module _ (o x : ℕ) where
  pub top_here : x / 1_099_511_627_776 % 4 ≡ 3 → o ≡ 256 → (y : ℕ) → y ≡ mark_place x → y + 256 ≡ mark_top o x
  top_here e q y r = rw (r, eq-eqb (x / 1_099_511_627_776 % 4) 3 e, eq-eqb o 256 q)

  pub top_nowhere : x / 1_099_511_627_776 % 4 ≡ 3 → (o ≡ 256 → ⊥) → 0 ≡ mark_top o x
  top_nowhere e q = rw (eq-eqb (x / 1_099_511_627_776 % 4) 3 e, ne_eqb o 256 q)

  pub top_up : (x / 1_099_511_627_776 % 4 ≡ 3 → ⊥) → o ≡ 256 → (y : ℕ) → y ≡ mark_group x → y + 1_099_511_627_776 ≡ mark_top o x
  top_up e q y r = rw (r, ne_eqb (x / 1_099_511_627_776 % 4) 3 e, eq-eqb o 256 q)

  pub top_down : (x / 1_099_511_627_776 % 4 ≡ 3 → ⊥) → (o ≡ 256 → ⊥) → (y : ℕ) → y ≡ mark_group x → last + 256 - y ≡ mark_top o x
  top_down e q y r = rw (r, ne_eqb (x / 1_099_511_627_776 % 4) 3 e, ne_eqb o 256 q)

  pub from_up : o ≡ 256 → (y : ℕ) → y ≡ mark_place x → y ≡ mark_from o x
  from_up q y r = rw (r, eq-eqb o 256 q)

  pub from_down : (o ≡ 256 → ⊥) → (y : ℕ) → y ≡ mark_place x → last - y ≡ mark_from o x
  from_down q y r = rw (r, ne_eqb o 256 q)

-- A row's mark.
module _ (fits : Bool) (p : Position) (ok : InRange p) where
  pub mark_most : mark_of fits p ≤ last
  mark_most = omega (arith, place_most p ok, role_most fits p)

  pub mark_role : mark_of fits p % 256 ≡ role_of fits p
  mark_role = omega (arith, role_most fits p)

  pub mark_place_lem : mark_place (mark_of fits p) ≡ place_of p
  mark_place_lem = omega (arith, role_most fits p)

  mark_group_lem : mark_group (mark_of fits p) ≡ group_of p
  mark_group_lem = omega (arith, role_most fits p, ok.pe_most)

  mark_family : mark_of fits p / 1_099_511_627_776 % 4 ≡ family p
  mark_family = omega (arith, role_most fits p, ok.pe_most, family_most p)

  pub mark_from_lem : (o : ℕ) → mark_from o (mark_of fits p) ≡ from_of o p
  mark_from_lem o = rw mark_place_lem refl

  pub mark_top_lem : (o : ℕ) → mark_top o (mark_of fits p) ≡ top_of o p
  mark_top_lem o = rw (mark_family, mark_place_lem, mark_group_lem) refl
