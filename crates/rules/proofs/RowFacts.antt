-- What flag 1 leaves of a row, and what the limits of a position row say of its barrier and rebate once it is applied.
-- Assumes nothing.
use Prim.Native.Nat.{ℕ, ◌/◌, ◌%◌, ◌≤◌, ◌<◌}
use mathlib.Core.Bool.{Bool, true, false, cond}
use mathlib.Core.Logic.{inl, inr}
use mathlib.Core.Path.{◌≡◌, refl, ap, ◌∙◌}
use borrow.Author.Tests.{eqb-false, eqb-true}
use lib.Dec.{eqb}
use native.Mathlib.Omega.{arith}
use Rattle.rules.proofs.Tests.{cond_case}
use Rattle.rules.specs.File.{barrier_of, flags_of, position_of, series_of, terms_of}
use Rattle.rules.specs.Limits.{PositionWithin}
use Rattle.rules.specs.OnePosition.{after_flag1, normal}
use Rattle.rules.specs.Spreads.{kind_of}
use Rattle.rules.specs.declared.Barrier.{Barrier}
use Rattle.rules.specs.declared.Barrier.TheVariants.{NoBarrier, UpIn, DownIn, UpOut, DownOut}
use Rattle.rules.specs.declared.Position.{Position}
use Rattle.rules.specs.declared.PositionRow.{PositionRow}
use Rattle.rules.specs.declared.SeriesRow.{SeriesRow}

-- Strike and limiter stay.
pub flag_1_leaves : (p : Position) → ((normal p).pe ≡ p.terms.pe) × ((normal p).limiter ≡ p.terms.limiter)
flag_1_leaves p = go p.flags.knockedIn
  where
    go : (t : Bool) → ((after_flag1 t p.terms).pe ≡ p.terms.pe) × ((after_flag1 t p.terms).limiter ≡ p.terms.limiter)
    go true = (refl, refl)
    go false = (refl, refl)

-- The barrier stands on its side of PV: an up barrier above it, a down barrier below it.
abbrev pub Beside : ℕ → Barrier → Type 0
Beside pv NoBarrier = Unit {0}
Beside pv (UpIn price) = pv < price
Beside pv (DownIn price) = price < pv
Beside pv (UpOut price) = pv < price
Beside pv (DownOut price) = price < pv

-- P holds of a row's barrier if it holds of each kind where that is the row's.
pub by_kind :
    (P : Barrier → Type 0) (kind price : ℕ) → kind ≤ 4
    → (kind ≡ 0 → P NoBarrier) → (kind ≡ 1 → P (UpIn price)) → (kind ≡ 2 → P (DownIn price))
    → (kind ≡ 3 → P (UpOut price)) → (kind ≡ 4 → P (DownOut price)) → P (barrier_of kind price)
by_kind P kind price most none ui di uo do' =
    test 1 ui (λ a. test 2 di (λ b. test 3 uo (λ c. test 4 do' (λ d. none (omega arith)))))
  where
    test : (n : ℕ) {x y : Barrier} → (kind ≡ n → P x) → ((kind ≡ n → ⊥) → P y) → P (cond (eqb kind n) x y)
    test n {x} {y} f g =
        cond_case P (eqb kind n) x y (λ t. f (eqb-true kind n t)) (λ t. g (eqb-false kind n t))

-- A row within its limits, and its series row k.
module _ {n : ℕ} {k : SeriesRow} {r : PositionRow} (w : PositionWithin n k r) where
  -- "above PV for kinds 1 and 3, below PV for kinds 2 and 4, except where flag 1 is set", or flag 16
  pub beside : (flags_of r.flags).knockedOut ≡ false → Beside (series_of k).pv (normal (position_of r)).barrier
  beside stands = by_flag (flags_of r.flags).knockedIn refl
    where
      by_flag : (t : Bool) → (flags_of r.flags).knockedIn ≡ t → Beside k.pv (after_flag1 t (terms_of r)).barrier
      by_flag true e = tt
      by_flag false e =
          let clear : r.flags % 2 ≡ 0 = omega (arith, eqb-false (r.flags % 2) 1 e) in
          let not-out : r.flags / 16 % 2 ≡ 0 = omega (arith, eqb-false (r.flags / 16 % 2) 1 stands) in
          by_kind (Beside k.pv) r.kind r.price w.kind_most (λ q. tt)
          (λ q. w.price_above clear not-out (inl q))
          (λ q. w.price_below clear not-out (inl q))
          (λ q. w.price_above clear not-out (inr q))
          (λ q. w.price_below clear not-out (inr q))

  kind_of_lem : r.kind ≡ kind_of (barrier_of r.kind r.price)
  kind_of_lem =
      by_kind (λ bar. r.kind ≡ kind_of bar) r.kind r.price w.kind_most
      (λ q. q) (λ q. q) (λ q. q) (λ q. q) (λ q. q)

  -- "Kind 0 has .. REB 0"; "Flag 1 makes the position one without barrier and with REB 0."
  pub rebate_none : (normal (position_of r)).barrier ≡ NoBarrier → (normal (position_of r)).reb ≡ 0
  rebate_none = by_flag (flags_of r.flags).knockedIn
    where
      by_flag : (t : Bool) → (after_flag1 t (terms_of r)).barrier ≡ NoBarrier → (after_flag1 t (terms_of r)).reb ≡ 0
      by_flag true e = refl
      by_flag false e = w.reb_none (kind_of_lem ∙ ap kind_of e)

  -- Flag 16 is on kinds 3 and 4, flag 1 on kinds 1 and 2: a row with flag 16 keeps its REB.
  pub flag_16_keeps : (flags_of r.flags).knockedOut ≡ true → (normal (position_of r)).reb ≡ r.reb
  flag_16_keeps e = by_flag (flags_of r.flags).knockedIn refl
    where
      by_flag : (t : Bool) → (flags_of r.flags).knockedIn ≡ t → (after_flag1 t (terms_of r)).reb ≡ r.reb
      by_flag true q =
          let out = w.knocked_out_kind (eqb-true (r.flags / 16 % 2) 1 e) in
          let in' = w.knocked_in_kind (eqb-true (r.flags % 2) 1 q) in
          absurd (omega (arith, out, in'))
      by_flag false q = refl
