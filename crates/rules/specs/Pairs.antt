-- Document 01, Pairs: which pairs are allowed, the order among them, and the pairing.
use Rattle.std.specs.Prelude.{ℕ, zero, suc, ◌+◌, ◌-◌, min, Bool, true, false, cond, not, ◌&&◌, ◌||◌, List, [], ◌∷◌, ◌++◌, eqb, ltb, Option, Some, None}
use Rattle.rules.specs.File.{Account, series_of_row}
use Rattle.rules.specs.OnePosition.{unit_margin}
use Rattle.rules.specs.Spreads.{unit_spread}
use Rattle.rules.specs.declared.Position.{Position}
use Rattle.rules.specs.declared.Series.{Series}
use Rattle.rules.specs.declared.Side.{Side}
use Rattle.rules.specs.declared.Side.TheVariants.{Held, Written}

-- "one held and one written row"
abbrev pub is_written : Side → Bool
is_written Held = false
is_written Written = true

abbrev pub is_held : Side → Bool
is_held Held = true
is_held Written = false

-- "both European or opened before the annex": each row is one or the other. A row with flag 16 "is never paired" (document
-- 02 [5]).
abbrev pub may_be_paired : Position → Bool
may_be_paired p = (p.flags.european || p.flags.beforeAnnex) && not p.flags.knockedOut

-- "the written unit margin is greater than the spread's". A barred pair has none.
abbrev pub lowers : ℕ → Option ℕ → Bool
lowers unit None = false
lowers unit (Some spread) = ltb spread unit

-- All of "allowed" but the contracts left: "one held and one written row of a series, both European or opened before
-- the annex", neither with flag 16, and the written unit margin greater than the spread's.
abbrev pub may_pair : Series → Position → Position → Bool
may_pair s w h =
    is_written w.side
    && is_held h.side
    && eqb w.series h.series
    && (may_be_paired w && may_be_paired h)
    && lowers (unit_margin s w) (unit_spread s h w)

-- "strike difference, without sign": one of the two differences is 0.
abbrev pub strike_difference : Position → Position → ℕ
strike_difference w h = (w.terms.pe - h.terms.pe) + (h.terms.pe - w.terms.pe)

-- What pairing looks at: how many rows, whether written row w and held row h pair as long as both have contracts left,
-- and their strike difference.
pub record Book : Type 0 where
  pub rows : ℕ
  pub may : ℕ → ℕ → Bool
  pub gap : ℕ → ℕ → ℕ

-- The two of an account: whether rows w and h pair, and their strike difference.
unfoldable pub may_of : Account → ℕ → ℕ → Bool
may_of a w h = may_pair (series_of_row a w) (a.position_at w) (a.position_at h)

unfoldable pub gap_of : Account → ℕ → ℕ → ℕ
gap_of a w h = strike_difference (a.position_at w) (a.position_at h)

-- An account as pairing looks at it.
abbrev pub book_of : Account → Book
book_of a = record { rows = a.positions; may = may_of a; gap = gap_of a }

-- "A pair is allowed while both rows have contracts left and the written unit margin is greater than the spread's."
-- left r is how many contracts row r has left.
abbrev pub allowed : Book → (ℕ → ℕ) → ℕ → ℕ → Bool
allowed k left w h = k.may w h && (ltb 0 (left w) && ltb 0 (left h))

-- "Of the allowed pairs the least strike difference .. is taken, then the lowest written row, then the lowest held
-- row": whether pair (w, h) comes before pair (v, g).
abbrev pub ahead : Book → ℕ → ℕ → ℕ → ℕ → Bool
ahead k w h v g =
    ltb (k.gap w h) (k.gap v g)
    || (eqb (k.gap w h) (k.gap v g) && (ltb w v || (eqb w v && ltb h g)))

-- Whether a pair comes before the best so far; the first one does.
abbrev pub ahead_of : Book → ℕ → ℕ → Option (ℕ × ℕ) → Bool
ahead_of k w h None = true
ahead_of k w h (Some (v, g)) = ahead k w h v g

-- One pair looked at: it is taken over the best so far if it is allowed and comes before it.
abbrev pub look : Book → (ℕ → ℕ) → ℕ → ℕ → Option (ℕ × ℕ) → Option (ℕ × ℕ)
look k left w h best = cond (allowed k left w h && ahead_of k w h best) (Some (w, h)) best

-- Written row w with each of held rows 0 to n - 1: the best so far, or the pair of w that comes before it and before
-- all others of w.
unfoldable pub along : Book → (ℕ → ℕ) → ℕ → ℕ → Option (ℕ × ℕ) → Option (ℕ × ℕ)
along k left w zero best = best
along k left w (suc h) best = look k left w h (along k left w h best)

-- Written rows 0 to n - 1 with every held row. What `along` and `through` find is an allowed pair that no allowed pair
-- comes before, or none where none is allowed: the laws `Search.choice_allowed`, `choice_least` and `choice_none`.
unfoldable pub through : Book → (ℕ → ℕ) → ℕ → Option (ℕ × ℕ)
through k left zero = None
through k left (suc w) = along k left w k.rows (through k left w)

-- The pair to make next: of all allowed pairs the one that comes before the others, or none where none is allowed.
abbrev pub choice : Book → (ℕ → ℕ) → Option (ℕ × ℕ)
choice k left = through k left k.rows

-- "It takes the smaller quantity left", from both rows.
abbrev pub taken : (ℕ → ℕ) → Option (ℕ × ℕ) → ℕ → ℕ
taken left None r = left r
taken left (Some (w, h)) r = cond (eqb r w || eqb r h) (left r - min (left w) (left h)) (left r)

-- A pair as made.
pub record Made : Type 0 where
  pub written : ℕ
  pub held : ℕ
  pub quantity : ℕ

-- The pair that a choice makes, if it is one.
abbrev pub made_by : (ℕ → ℕ) → Option (ℕ × ℕ) → List Made
made_by left None = []
made_by left (Some (w, h)) = record { written = w; held = h; quantity = min (left w) (left h) } ∷ []

-- Contracts left after n rounds. A round that finds no pair changes nothing.
unfoldable pub left_after : Book → ℕ → (ℕ → ℕ) → ℕ → ℕ
left_after k zero left = left
left_after k (suc n) left = taken (left_after k n left) (choice k (left_after k n left))

-- The pairs made in the first n rounds, as made.
unfoldable pub made_after : Book → ℕ → (ℕ → ℕ) → List Made
made_after k zero left = []
made_after k (suc n) left = made_after k n left ++ made_by (left_after k n left) (choice k (left_after k n left))

-- The contracts that pairing may use at the start, of each row: "Pairs use at most Q less the blocked" (document 02 [9]). A
-- written row has none blocked. So it is for `allowed` too: "for pairing .. a held row has contracts left only while some of
-- these are unused".
abbrev pub available : Account → ℕ → ℕ
available a r = (a.position_at r).q - (a.position_at r).blocked

-- The pairs of an account after n rounds, and the contracts that pairing may then still use in each row.
abbrev pub pairs_after : Account → ℕ → List Made
pairs_after a n = made_after (book_of a) n (available a)

abbrev pub contracts_after : Account → ℕ → ℕ → ℕ
contracts_after a n = left_after (book_of a) n (available a)
