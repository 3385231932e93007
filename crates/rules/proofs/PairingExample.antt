-- Document 01, Pairs: the pairing of a small book, computed. Rows 0 and 1 are written, rows 2 and 3 held.
-- Assumes nothing.
use Prim.Native.Nat.{ℕ, ◌+◌, ◌-◌}
use mathlib.Core.Bool.{◌&&◌, cond}
use mathlib.Core.List.{[], ◌∷◌}
use mathlib.Core.Path.{◌≡◌, refl}
use lib.Dec.{eqb, leb, ltb}
use lib.ListN.{get_or}
use Rattle.rules.specs.Pairs.{Book, Made, along, left_after, made_after, through}

abbrev book : (ℕ → ℕ → ℕ) → Book
book gap = record { rows = 4; may = λ w h. ltb w 2 && leb 2 h; gap = gap }

abbrev quantities : ℕ → ℕ
quantities r = get_or (5 ∷ 1 ∷ 3 ∷ 9 ∷ []) r 0

abbrev made : ℕ → ℕ → ℕ → Made
made w h q = record { written = w; held = h; quantity = q }

-- All pairs but (0, 2) have one strike difference: "then the lowest written row, then the lowest held row". Each pair
-- "takes the smaller quantity left".
ties : made_after (book (λ w h. cond (eqb (w + h) 2) 8 7)) 4 quantities ≡ made 0 3 5 ∷ made 1 2 1 ∷ []
unfolding made_after left_after through along
ties = refl

-- "the least strike difference .. is taken": it falls with the rows.
nearest : made_after (book (λ w h. 7 - (w + h))) 4 quantities ≡ made 1 3 1 ∷ made 0 3 5 ∷ []
unfolding made_after left_after through along
nearest = refl

-- "Repeat until no pair is allowed": (0, 2) first, which leaves row 0 with contracts for row 3.
repeated : made_after (book (λ w h. w + h)) 4 quantities ≡ made 0 2 3 ∷ made 0 3 2 ∷ made 1 3 1 ∷ []
unfolding made_after left_after through along
repeated = refl
