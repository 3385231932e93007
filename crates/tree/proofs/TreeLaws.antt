-- The tree under stores: filled from the last node up, one leaf set and the climb from it. Its root is the least leaf.
-- Assumes nothing.
use Prim.Native.Nat.{ℕ, zero, suc, ◌+◌, ◌*◌, ◌-◌, ◌/◌, ◌≤◌, ◌<◌, min}
use mathlib.Core.List.{List}
use mathlib.Core.Logic.{◌⊎◌, inl, inr}
use mathlib.Core.Path.{◌≡◌, refl, ap, ◌∙◌}
use native.Mathlib.Omega.{arith}
use lib.ListN.{length, set, length-set}
use lib.Seq.{get_or-set_other, get_or-set_same}
use Rattle.numbers.proofs.Order.{same, split}
use Rattle.numbers.specs.Lists.{nth}
use Rattle.tree.specs.Tree.{LeafPut, LeafSet, Node, SameLeaves, Tree, leaf, sibling}

-- A store at i: what it leaves of node j, and what it makes of node i.
module _ (t : List ℕ) (i y : ℕ) where
  other : (j : ℕ) → (j ≡ i → ⊥) → nth (set t i y) j ≡ nth t j
  other j a = get_or-set_other t i j y 0 a

  node_other : (j : ℕ) → Node t j → (j ≡ i → ⊥) → (2 * j ≡ i → ⊥) → (2 * j + 1 ≡ i → ⊥) → Node (set t i y) j
  node_other j n a b d = omega (arith, n, other j a, other (2 * j) b, other (2 * j + 1) d)

  node_here : i < length t → 1 ≤ i → y ≡ min (nth t (2 * i)) (nth t (2 * i + 1)) → Node (set t i y) i
  node_here long one e =
      omega (arith, e, get_or-set_same t i y 0 long, other (2 * i) (λ q. omega arith), other (2 * i + 1) (λ q. omega arith))

-- The nodes from i on are right, the leaves as they were.
pub record Filled (p : ℕ) (old t : List ℕ) (i : ℕ) : Type 0 where
  pub high : i ≤ p
  pub nodes : (j : ℕ) → i ≤ j → j < p → Node t j
  pub leaves : SameLeaves p old t
  pub same_length : length t ≡ length old

-- The nodes are right but for the one above node i, and the leaves are as they were where the climb began.
pub record Climbed (p : ℕ) (start t : List ℕ) (i : ℕ) : Type 0 where
  pub high : i < 2 * p
  pub nodes : (j : ℕ) → 1 ≤ j → j < p → (j ≡ i / 2 → ⊥) → Node t j
  pub leaves : SameLeaves p start t
  pub same_length : length t ≡ length start

-- A parent is the smaller of the child that is x and the other one.
parent_is : (t : List ℕ) (i x y : ℕ) → nth t i ≡ x → y ≡ min x (nth t (sibling i))
    → y ≡ min (nth t (2 * (i / 2))) (nth t (2 * (i / 2) + 1))
parent_is t i x y here e = go (same i (2 * (i / 2)))
  where
    go : (i ≡ 2 * (i / 2)) ⊎ (i ≡ 2 * (i / 2) → ⊥) → y ≡ min (nth t (2 * (i / 2))) (nth t (2 * (i / 2) + 1))
    go (inl q) =
        let other : sibling i ≡ 2 * (i / 2) + 1 = omega arith in
        omega (arith, e, here, ap (nth t) q, ap (nth t) other)
    go (inr s) =
        let q : i ≡ 2 * (i / 2) + 1 = omega arith in
        let other : sibling i ≡ 2 * (i / 2) = omega arith in
        omega (arith, e, here, ap (nth t) q, ap (nth t) other)

pub climb_none : (p : ℕ) (old : List ℕ) (w x : ℕ) → w < p → Tree p old
    → Climbed p (set old (p + w) x) (set old (p + w) x) (p + w)
climb_none p old w x few r =
    record {
      high = omega arith;
      nodes = λ j a b d. node_other old (p + w) x j (r j a b) (λ q. omega arith) (λ q. d (omega arith)) (λ q. d (omega arith));
      leaves = λ v l. refl;
      same_length = refl;
    }

module _ (p : ℕ) (start t : List ℕ) (i : ℕ) (f : Climbed p start t i) where
  pub climb_more : (x y : ℕ) → 2 * p ≤ length start → 1 < i → nth t i ≡ x → y ≡ min x (nth t (sibling i))
      → Climbed p start (set t (i / 2) y) (i / 2)
  climb_more x y long more here is =
      record {
        high = omega (arith, f.high);
        nodes = λ j a b d. at j a b d (same j (i / 2));
        leaves = λ v l. other t (i / 2) y (p + v) (λ q. omega (arith, f.high)) ∙ f.leaves v l;
        same_length = simp length-set f.same_length;
      }
    where
      e : y ≡ min (nth t (2 * (i / 2))) (nth t (2 * (i / 2) + 1))
      e = parent_is t i x y here is

      at : (j : ℕ) → 1 ≤ j → j < p → (j ≡ i / 2 / 2 → ⊥) → (j ≡ i / 2) ⊎ (j ≡ i / 2 → ⊥) → Node (set t (i / 2) y) j
      at j a b d (inl q) = rw q (node_here t (i / 2) y (omega (arith, f.same_length, f.high)) (omega arith) e)
      at j a b d (inr s) = node_other t (i / 2) y j (f.nodes j a b s) s (λ q. d (omega arith)) (λ q. d (omega arith))

  pub climb_end : i ≤ 1 → Tree p t
  climb_end l j a b = f.nodes j a b (λ q. omega arith)

-- The climb from leaf w is done.
pub climbed : (p : ℕ) (old t : List ℕ) (w x i : ℕ) → 2 * p ≤ length old → w < p → Climbed p (set old (p + w) x) t i → Tree p t
    → LeafSet p old t w x
climbed p old t w x i long few f r =
    record {
      tree = r;
      here = f.leaves w few ∙ get_or-set_same old (p + w) x 0 (omega arith);
      others = λ v l d. f.leaves v l ∙ other old (p + w) x (p + v) (λ q. d (omega arith));
      same_length = f.same_length ∙ simp length-set;
    }

-- The root is at most each node, and so at most each leaf; and it is one of the leaves.
module _ (p : ℕ) (t : List ℕ) (r : Tree p t) where
  -- j's parent is at most j.
  parent : (j : ℕ) → 1 < j → j < 2 * p → nth t (j / 2) ≤ nth t j
  parent j a b = go (same j (2 * (j / 2)))
    where
      go : (j ≡ 2 * (j / 2)) ⊎ (j ≡ 2 * (j / 2) → ⊥) → nth t (j / 2) ≤ nth t j
      go (inl q) = omega (arith, r (j / 2) (omega arith) (omega arith), ap (nth t) q)
      go (inr s) =
          let q : j ≡ 2 * (j / 2) + 1 = omega arith in
          omega (arith, r (j / 2) (omega arith) (omega arith), ap (nth t) q)

  least_node : (k j : ℕ) → j ≤ k → 1 ≤ j → j < 2 * p → nth t 1 ≤ nth t j
  least_node zero j l a b = absurd (omega arith)
  least_node (suc k) j l a b = go (least_node k (j / 2)) (split 1 j)
    where
      go : (j / 2 ≤ k → 1 ≤ j / 2 → j / 2 < 2 * p → nth t 1 ≤ nth t (j / 2)) → (1 < j) ⊎ (j ≤ 1) → nth t 1 ≤ nth t j
      go up (inl s) = omega (arith, up (omega arith) (omega arith) (omega arith), parent j s b)
      go up (inr s) = let q : j ≡ 1 = omega arith in rw q (omega arith)

  pub least_all : (w : ℕ) → w < p → nth t 1 ≤ leaf p t w
  least_all w l = least_node (p + w) (p + w) (omega arith) (omega arith) (omega arith)

  -- A leaf has node i's number.
  abbrev HasLeaf : ℕ → Type 0
  HasLeaf i = (w : ℕ) × (w < p) × (nth t i ≡ leaf p t w)

  some_leaf : (k i : ℕ) → 2 * p ≤ i + k → 1 ≤ i → i < 2 * p → HasLeaf i
  some_leaf zero i f a b = absurd (omega arith)
  some_leaf (suc k) i f a b = go (some_leaf k) (split i p) (split (nth t (2 * i)) (nth t (2 * i + 1)))
    where
      go : ((j : ℕ) → 2 * p ≤ j + k → 1 ≤ j → j < 2 * p → HasLeaf j) → (i < p) ⊎ (p ≤ i)
          → (nth t (2 * i) < nth t (2 * i + 1)) ⊎ (nth t (2 * i + 1) ≤ nth t (2 * i)) → HasLeaf i
      go down (inl s) (inl m) =
          let h = down (2 * i) (omega arith) (omega arith) (omega arith) in
          (h.0, h.1, omega (arith, h.2, r i a s))
      go down (inl s) (inr m) =
          let h = down (2 * i + 1) (omega arith) (omega arith) (omega arith) in
          (h.0, h.1, omega (arith, h.2, r i a s))
      go down (inr s) m = let q : i ≡ p + (i - p) = omega arith in (i - p, omega arith, ap (nth t) q)

  pub least_some : 1 ≤ p → (w : ℕ) × (w < p) × (nth t 1 ≡ leaf p t w)
  least_some some = some_leaf (2 * p) 1 (omega arith) (omega arith) (omega arith)

-- A leaf put without the climb.
pub leaf_put : (p : ℕ) (t : List ℕ) (w x : ℕ) → 2 * p ≤ length t → w < p → LeafPut p t (set t (p + w) x) w x
leaf_put p t w x long few =
    record {
      here = get_or-set_same t (p + w) x 0 (omega arith);
      others = λ v l d. other t (p + w) x (p + v) (λ q. d (omega arith));
      same_length = simp length-set;
    }
