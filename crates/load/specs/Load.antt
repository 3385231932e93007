-- Document 02 [10], A load for the bench: the draws, the rows that they make, the file of these rows, and the lent buffer after
-- a call.
use Rattle.std.specs.Prelude.{ℕ, zero, suc, ◌+◌, ◌*◌, ◌-◌, ◌%◌, ◌≤◌, ◌<◌, Bool, cond, ◌||◌, List, ◌++◌, ◌≡◌, eqb, ltb, drop, length, take, Result, Ok}
use Rattle.rules.specs.File.{Account, layout, position_count, position_of, position_row, series_count, series_of, series_row}
use Rattle.rules.specs.Limits.{most_positions}
use Rattle.rules.specs.Refusals.{accepted, meaning, outside, refused_at}
use Rattle.rules.specs.Writing.{bytes_of_file}
use Rattle.rules.specs.declared.PositionRow.{PositionRow}
use Rattle.rules.specs.declared.Refusal.TheVariants.{LoadAskedFor}
use Rattle.rules.specs.declared.SeriesRow.{SeriesRow}
use Rattle.rules.specs.declared.Refused.{Refused}

-- "The state goes from t to 48271 × t mod 2147483647"
abbrev pub modulus : ℕ
modulus = 2_147_483_647

abbrev pub next_state : ℕ → ℕ
next_state t = 48_271 * t % modulus

-- The state that is reached from t by n draws.
unfoldable pub state_after : ℕ → ℕ → ℕ
state_after t zero = t
state_after t (suc n) = next_state (state_after t n)

-- "draw(k) is the next state mod k": the n-th draw from the state t on, counted from 1.
abbrev pub draw : ℕ → ℕ → ℕ → ℕ
draw t n k = state_after t n % k

-- "One call series or put series in this order: PV 1000 + draw(9000), fa 1000000 + draw(500000), fb 500000 + draw(500001), M 1 +
-- draw(10), type draw(2), f3 always 50000." The first state is the seed; the spare bytes are zero.
unfoldable pub series_drawn : ℕ → SeriesRow
series_drawn seed =
    record {
      pv = 1_000 + draw seed 1 9_000;
      fa = 1_000_000 + draw seed 2 500_000;
      fb = 500_000 + draw seed 3 500_001;
      f3 = 50_000;
      m = 1 + draw seed 4 10;
      option = draw seed 5 2;
      spare = 0;
    }

-- "kind draw(5)", the second draw of a row; t is the state before the row.
abbrev pub kind_drawn : ℕ → ℕ
kind_drawn t = draw t 2 5

-- "the barrier, PV + 1 + draw(1000) when up or 1 + draw(PV − 1) when down", the fifth draw of a row of this kind. Kinds 1 and 3 are
-- up, 2 and 4 down. "kind 0 draws neither": its price is 0. PV is 1,000 or more, so that PV - 1 is no 0.
abbrev pub barrier_drawn : ℕ → ℕ → ℕ → ℕ
barrier_drawn kind pv t =
    cond (eqb kind 0) 0 (cond (eqb kind 1 || eqb kind 3) (pv + 1 + draw t 5 1_000) (1 + draw t 5 (pv - 1)))

-- "then REB draw(100); kind 0 draws neither": the sixth draw, or 0.
abbrev pub rebate_drawn : ℕ → ℕ → ℕ
rebate_drawn kind t = cond (eqb kind 0) 0 (draw t 6 100)

-- "each: side draw(2), kind draw(5), Q 1 + draw(100), PE 1 + draw(10000), and for kinds above 0 the barrier .. then REB .. Flags 4,
-- .. no limiter, no premium, none blocked": a row of the series with this PV.
unfoldable pub position_drawn : ℕ → ℕ → PositionRow
position_drawn pv t =
    record {
      series = 0;
      side = draw t 1 2;
      kind = kind_drawn t;
      flags = 4;
      blocked = 0;
      q = 1 + draw t 3 100;
      pe = 1 + draw t 4 10_000;
      pb = 0;
      price = barrier_drawn (kind_drawn t) pv t;
      reb = rebate_drawn (kind_drawn t) t;
      premium = 0;
    }

-- A row without a barrier takes four draws, one with a barrier six.
abbrev pub draws_of : ℕ → ℕ
draws_of kind = cond (eqb kind 0) 4 6

-- The state after a row, t being the state before it.
unfoldable pub state_after_row : ℕ → ℕ
state_after_row t = state_after t (draws_of (kind_drawn t))

-- The state before row r: the series takes five draws, and each row goes on where the one before it ended.
unfoldable pub state_before : ℕ → ℕ → ℕ
state_before seed zero = state_after seed 5
state_before seed (suc r) = state_after_row (state_before seed r)

-- "Then p rows": row r.
abbrev pub row_drawn : ℕ → ℕ → PositionRow
row_drawn seed r = position_drawn (series_drawn seed).pv (state_before seed r)

-- "no cover sheet": the file is the series row, the rows and the trailer.
unfoldable pub load_file : ℕ → ℕ → List ℕ
load_file seed p = bytes_of_file 1 (λ i. series_drawn seed) p (row_drawn seed)

-- "36 + 32 × p bytes"
abbrev pub load_size : ℕ → ℕ
load_size p = 36 + 32 * p

-- "seed 1 to 2147483646"
abbrev pub most_seed : ℕ
most_seed = 2_147_483_646

-- "(20: seed or p out of its range, or a buffer below 36 + 32 × p bytes"; "p from 1 to 256"
abbrev pub wrong_load : ℕ → ℕ → ℕ → Bool
wrong_load seed p room = outside 1 most_seed seed || outside 1 most_positions p || ltb room (load_size p)

-- What is answered for a buffer with room for so many bytes: the bytes of the file, or 20 with row 0.
unfoldable pub load_answer : ℕ → ℕ → ℕ → Result ℕ Refused
load_answer seed p room = cond (wrong_load seed p room) (refused_at LoadAskedFor 0) (Ok (load_size p))

-- The lent buffer b after the call: the file, and "Bytes of the lent buffer after the file stay"; on a refusal "nothing is
-- written".
unfoldable pub buffer_after : ℕ → ℕ → List ℕ → List ℕ
buffer_after seed p b = cond (wrong_load seed p (length b)) b (load_file seed p ++ drop (load_size p) b)

-- Seed, p and room within their limits, as plain ranges: not 20.
pub record LoadWithin (seed p room : ℕ) : Type 0 where
  pub seed_least : 1 ≤ seed
  pub seed_most : seed ≤ most_seed
  pub p_least : 1 ≤ p
  pub p_most : p ≤ most_positions
  pub room_least : load_size p ≤ room

-- What is no load: "seed or p out of its range, or a buffer below 36 + 32 × p bytes".
pub data NoLoad (seed p room : ℕ) : Type 0 where
  seed_zero : seed < 1 → NoLoad seed p room
  seed_above : most_seed < seed → NoLoad seed p room
  p_zero : p < 1 → NoLoad seed p room
  p_above : most_positions < p → NoLoad seed p room
  room_below : room < load_size p → NoLoad seed p room

-- The account a is the one drawn: one series and p positions, each as its row says.
pub record Drawn (seed p : ℕ) (a : Account) : Type 0 where
  pub one_series : a.series ≡ 1
  pub series_is : a.series_at 0 ≡ series_of (series_drawn seed)
  pub p_positions : a.positions ≡ p
  pub positions_are : (r : ℕ) → r < p → a.position_at r ≡ position_of (row_drawn seed r)

-- The file f has one series and p positions, whose rows are those drawn, number by number.
pub record ReadsBack (seed p : ℕ) (f : List ℕ) : Type 0 where
  pub one_series : series_count f ≡ 1
  pub p_positions : position_count f ≡ p
  pub series_row_lem : series_row f (layout f) 0 ≡ series_drawn seed
  pub position_rows_lem : (r : ℕ) → r < p → position_row f (layout f) r ≡ row_drawn seed r

-- "Every file so made is accepted": the first 36 + 32 × p bytes of the buffer, whatever it held. They mean the account drawn, and
-- read back as the rows drawn.
abbrev pub AcceptedDemand : ℕ → ℕ → List ℕ → Type 0
AcceptedDemand seed p b =
    load_answer seed p (length b) ≡ Ok (load_size p)
    → ReadsBack seed p (take (load_size p) (buffer_after seed p b))
    × ((a : Account) × (meaning (take (load_size p) (buffer_after seed p b)) ≡ accepted a) × Drawn seed p a)

-- "Bytes of the lent buffer after the file stay", and the buffer is as long as it was; refused, "nothing is written".
pub record StaysDemand (seed p : ℕ) (b : List ℕ) : Type 0 where
  pub same_length : length (buffer_after seed p b) ≡ length b
  pub after_stays : drop (load_size p) (buffer_after seed p b) ≡ drop (load_size p) b
  pub refused_stays : load_answer seed p (length b) ≡ refused_at LoadAskedFor 0 → buffer_after seed p b ≡ b
