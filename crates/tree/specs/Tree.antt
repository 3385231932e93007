-- A tournament tree of minima over p leaves: node i, from 1 to p - 1, is the smaller of nodes 2i and 2i + 1; leaf w is node
-- p + w. Node 1 is then the least of all leaves, for any p from 1 on.
use Rattle.std.specs.Prelude.{ℕ, ◌+◌, ◌*◌, ◌-◌, ◌%◌, ◌≤◌, ◌<◌, min, List, ◌≡◌, length}
use Rattle.numbers.specs.Lists.{nth}

abbrev pub leaf : ℕ → List ℕ → ℕ → ℕ
leaf p t w = nth t (p + w)

-- Node i is the smaller of its children.
abbrev pub Node : List ℕ → ℕ → Type 0
Node t i = nth t i ≡ min (nth t (2 * i)) (nth t (2 * i + 1))

-- The other child of node i's parent.
abbrev pub sibling : ℕ → ℕ
sibling i = i + 1 - i % 2 * 2

abbrev pub Tree : ℕ → List ℕ → Type 0
Tree p t = (i : ℕ) → 1 ≤ i → i < p → Node t i

-- What each look at a tree asks: leaves, and room for them and the nodes above them.
pub record Leafed (p : ℕ) (t : List ℕ) : Type 0 where
  pub some : 1 ≤ p
  pub few : p ≤ 256
  pub room : 2 * p ≤ length t

abbrev pub SameLeaves : ℕ → List ℕ → List ℕ → Type 0
SameLeaves p old new = (w : ℕ) → w < p → leaf p new w ≡ leaf p old w

-- The first n leaves are x.
abbrev pub LeavesSet : ℕ → List ℕ → ℕ → ℕ → Type 0
LeavesSet p t n x = (w : ℕ) → w < n → leaf p t w ≡ x

-- Leaf w is x, the others are as they were, and the nodes above are right.
pub record LeafSet (p : ℕ) (old new : List ℕ) (w x : ℕ) : Type 0 where
  pub tree : Tree p new
  pub here : leaf p new w ≡ x
  pub others : (v : ℕ) → v < p → (v ≡ w → ⊥) → leaf p new v ≡ leaf p old v
  pub same_length : length new ≡ length old

-- Leaf w is x, the others are as they were, whatever the nodes above.
pub record LeafPut (p : ℕ) (old new : List ℕ) (w x : ℕ) : Type 0 where
  pub here : leaf p new w ≡ x
  pub others : (v : ℕ) → v < p → (v ≡ w → ⊥) → leaf p new v ≡ leaf p old v
  pub same_length : length new ≡ length old
