-- The rows drawn, from the states that code goes through one after the other, and the test of refusal 20 by its parts.
-- Assumes nothing.
use Prim.Native.Nat.{ℕ, ◌+◌, ◌-◌, ◌%◌, ◌≤◌, ◌<◌}
use mathlib.Core.Bool.{Bool, true, false, cond, ◌||◌}
use mathlib.Core.Path.{◌≡◌, sym, ◌∙◌, ap}
use native.Mathlib.Nat.{mod-lt}
use native.Mathlib.Omega.{arith}
use borrow.Author.Tests.{eq-eqb, ne_eqb}
use lib.Dec.{eqb}
use Rattle.load.specs.Load.{draws_of, modulus, most_seed, next_state, position_drawn, series_drawn, state_after, state_after_row}
use Rattle.load.specs.Rows.{BarrierIs, barrier_by, rebate_by}
use Rattle.rules.proofs.Chain.{inside}
use Rattle.rules.proofs.Tests.{neither}
use Rattle.rules.specs.Limits.{most_positions}
use Rattle.rules.specs.Refusals.{outside}

-- ---- refusal 20

-- Of two tests the first holds, or does not and the second decides.
pub first_holds : (x y : Bool) → x ≡ true → true ≡ (x || y)
first_holds x y e = rw e

pub second_decides : (x y : Bool) → x ≡ false → y ≡ (x || y)
second_decides x y e = rw e

-- Seed and p are not outside their ranges.
pub ranges_kept : (seed p : ℕ) → (outside 1 most_seed seed || outside 1 most_positions p) ≡ false
    → ((1 ≤ seed) × (seed ≤ most_seed)) × ((1 ≤ p) × (p ≤ most_positions))
ranges_kept seed p e =
    let parts = neither (outside 1 most_seed seed) (outside 1 most_positions p) e in
    (inside 1 most_seed seed parts.0, inside 1 most_positions p parts.1)

-- ---- the barrier, of a kind above 0

module _ (kind pv state : ℕ) (some : 1 ≤ kind) where
  above_zero : eqb kind 0 ≡ false
  above_zero = ne_eqb kind 0 (λ (e : kind ≡ 0). omega arith)

  by_side : (up : Bool) → (eqb kind 1 || eqb kind 3) ≡ up → barrier_by kind pv state ≡ cond up (pv + 1 + state % 1_000) (1 + state % (pv - 1))
  by_side up e = rw (above_zero, e)

  pub up_drawn : (eqb kind 1 || eqb kind 3) ≡ true → pv + 1 + state % 1_000 ≡ barrier_by kind pv state
  up_drawn e = sym (by_side true e)

  pub down_drawn : (eqb kind 1 || eqb kind 3) ≡ false → 1 + state % (pv - 1) ≡ barrier_by kind pv state
  down_drawn e = sym (by_side false e)

pub below_pv : (pv state : ℕ) → 2 ≤ pv → state % (pv - 1) < pv - 1
below_pv pv state h = mod-lt state (omega arith)

-- ---- barrier and rebate, from the state t

pub no_barrier : (kind pv t : ℕ) → kind ≡ 0 → t < modulus → BarrierIs kind pv t (record { row = record { price = 0; reb = 0 }; state = t })
no_barrier kind pv t e is =
    let none = eq-eqb kind 0 e in
    record { price_is = rw none; reb_is = rw none; state_is = rw none; is_state = is }

pub with_barrier : (kind pv t t1 t2 price : ℕ) → (kind ≡ 0 → ⊥) → t1 ≡ next_state t → t2 ≡ next_state t1 → price ≡ barrier_by kind pv t1
    → t2 < modulus → BarrierIs kind pv t (record { row = record { price = price; reb = t2 % 100 }; state = t2 })
with_barrier kind pv t t1 t2 price some e1 e2 is-price is =
    let none = ne_eqb kind 0 some in
    record {
      price_is = is-price ∙ ap (barrier_by kind pv) e1;
      reb_is = rw (none, e2, e1);
      state_is = rw (none, e2, e1);
      is_state = is;
    }

-- ---- a series and a row

module _ (t t1 t2 t3 t4 : ℕ) (e1 : t1 ≡ next_state t) (e2 : t2 ≡ next_state t1) (e3 : t3 ≡ next_state t2) (e4 : t4 ≡ next_state t3) where
  module _ (t5 : ℕ) (e5 : t5 ≡ next_state t4) where
    pub series_is : record { pv = 1_000 + t1 % 9_000; fa = 1_000_000 + t2 % 500_000; fb = 500_000 + t3 % 500_001; f3 = 50_000; m = 1 + t4 % 10; option = t5 % 2; spare = 0 } ≡ series_drawn t
    unfolding series_drawn state_after
    series_is = rw (e5, e4, e3, e2, e1)

    pub series_state : t5 ≡ state_after t 5
    unfolding state_after
    series_state = rw (e5, e4, e3, e2, e1)

  after_two : state_after t 2 ≡ t2
  unfolding state_after
  after_two = rw (e2, e1)

  after_four : state_after t 4 ≡ t4
  unfolding state_after
  after_four = rw (e4, e3, e2, e1)

  after_six : state_after t 6 ≡ next_state (next_state t4)
  unfolding state_after
  after_six = rw (e4, e3, e2, e1)

  -- Price and rebate by the states after t4, in which they are drawn.
  module _ (pv price reb state : ℕ) (is-price : price ≡ barrier_by (t2 % 5) pv (next_state t4)) (is-reb : reb ≡ rebate_by (t2 % 5) (next_state (next_state t4)))
      (is_state : state ≡ cond (eqb (t2 % 5) 0) t4 (next_state (next_state t4))) where
    pub row_is : record { series = 0; side = t1 % 2; kind = t2 % 5; flags = 4; blocked = 0; q = 1 + t3 % 100; pe = 1 + t4 % 10_000; pb = 0; price = price; reb = reb; premium = 0 } ≡ position_drawn pv t
    unfolding position_drawn state_after
    row_is = rw (is-price, is-reb, e4, e3, e2, e1)

    pub row_state : state ≡ state_after_row t
    unfolding state_after_row
    row_state = is_state ∙ by_kind (eqb (t2 % 5) 0) ∙ ap (λ (x : ℕ). state_after t (draws_of (x % 5))) (sym after_two)
      where
        by_kind : (none : Bool) → cond none t4 (next_state (next_state t4)) ≡ state_after t (cond none 4 6)
        by_kind true = sym after_four
        by_kind false = sym after_six
