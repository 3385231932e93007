-- What the functions that draw rows require and give.
use Rattle.std.specs.Prelude.{ℕ, ◌+◌, ◌-◌, ◌%◌, ◌≤◌, ◌<◌, cond, ◌||◌, ◌≡◌, eqb}
use Rattle.load.specs.Load.{modulus, next_state, position_drawn, series_drawn, state_after, state_after_row}
use Rattle.load.specs.declared.rows.BarrierDrawn.{BarrierDrawn}
use Rattle.load.specs.declared.rows.WithState.{WithState}
use Rattle.rules.specs.declared.PositionRow.{PositionRow}
use Rattle.rules.specs.declared.SeriesRow.{SeriesRow}

-- Barrier and rebate of a row of this kind by the states of their draws, as code has them: `barrier_drawn` and `rebate_drawn` of
-- the states after five and six draws.
abbrev pub barrier_by : ℕ → ℕ → ℕ → ℕ
barrier_by kind pv state =
    cond (eqb kind 0) 0 (cond (eqb kind 1 || eqb kind 3) (pv + 1 + state % 1_000) (1 + state % (pv - 1)))

abbrev pub rebate_by : ℕ → ℕ → ℕ
rebate_by kind state = cond (eqb kind 0) 0 (state % 100)

-- A PV as drawn, and a state.
pub record RowAsked (pv t : ℕ) : Type 0 where
  pub pv_least : 1_000 ≤ pv
  pub pv_most : pv < 10_000
  pub is_state : t < modulus

-- The series drawn from a seed, and the state after its five draws.
pub record SeriesIs (seed : ℕ) (r : WithState SeriesRow) : Type 0 where
  pub row_is : r.row ≡ series_drawn seed
  pub state_is : r.state ≡ state_after seed 5
  pub is_state : r.state < modulus

-- What a row of this kind draws after its first four draws, the last of which led to the state t.
pub record BarrierIs (kind pv t : ℕ) (r : WithState BarrierDrawn) : Type 0 where
  pub price_is : r.row.price ≡ barrier_by kind pv (next_state t)
  pub reb_is : r.row.reb ≡ rebate_by kind (next_state (next_state t))
  pub state_is : r.state ≡ cond (eqb kind 0) t (next_state (next_state t))
  pub is_state : r.state < modulus

-- The row drawn from the state t, and the state after its draws.
pub record PositionIs (pv t : ℕ) (r : WithState PositionRow) : Type 0 where
  pub row_is : r.row ≡ position_drawn pv t
  pub state_is : r.state ≡ state_after_row t
  pub is_state : r.state < modulus
