-- A row renewed: its rank rises, alone and in a pass over all rows.
-- Assumes nothing.
use Prim.Native.Nat.{ℕ, ◌+◌, ◌/◌, ◌%◌, ◌≤◌, ◌<◌, min}
use mathlib.Core.Bool.{Bool}
use mathlib.Core.List.{List}
use mathlib.Core.Logic.{◌⊎◌, inl, inr}
use mathlib.Core.Path.{◌≡◌, refl, sym, ap, subst, ◌∙◌}
use native.Mathlib.Omega.{arith}
use lib.ListN.{length}
use Rattle.pairing.proofs.CursorLaws.{distance_alike, places_alike}
use Rattle.lanes.proofs.FileFacts.{Ranged}
use Rattle.tree.proofs.TreeLaws.{least_all, least_some}
use Rattle.pairing.specs.Cursors.{Places, distance, rank_from}
use Rattle.pairing.specs.Standings.{After, Leaves, Lines, Looked, LookedTo, Raised, Renewed, RowPut, Stale, StaleLeast, Standings, leaf_of}
use Rattle.lanes.specs.Keys.{none}
use Rattle.numbers.proofs.Order.{same, split}
use Rattle.numbers.specs.Lists.{nth}
use Rattle.tree.specs.Tree.{LeafPut, SameLeaves, Tree}
use Rattle.rules.specs.File.{Account}
use Rattle.pairing.proofs.StandingLaws.{standings_filled}
use Rattle.pairing.proofs.LeastLaws.{own_row}

-- Row w is stale and renewed.
module _ (a : Account) (ok : Ranged a) (left table tree places : List ℕ) (f : Leaves a left table a.positions 256 tree places)
    (w : ℕ) (old : Stale a left tree w) where
  -- The places that it hands over.
  pub own_places : Places a left w (nth places w) (nth places (256 + w))
  own_places = (f.kept w old.row old.some).places old.some

  pub next_places : (u : ℕ) → After a w u → Places a left u (nth places w) (nth places (256 + w))
  next_places u g = places_alike a left w u g.alike _ _ own_places

  -- Row u, which is w or the next in line, ranked anew from w's places, has a rank above w's.
  new_above : (u : ℕ) → w ≤ u → ((o c : ℕ) → distance a o w c ≡ distance a o u c) → (u ≡ w → 1 ≤ nth left w) → (tree₁ tree' places' : List ℕ)
      (ask : Bool) → RowPut a left table tree₁ tree' places' u (nth places w) (nth places (256 + w)) ask → leaf_of a tree w < leaf_of a tree' u
  new_above u later distances there tree₁ tree' places' ask k = go (split (leaf_of a tree' u) none)
    where
      own : leaf_of a tree w ≡ rank_from w (min (distance a 256 u (nth places w)) (distance a 512 u (nth places (256 + w))))
      own =
          (f.kept w old.row old.some).rank_at_lem old.some
          ∙ rw (distances 256 (nth places w), distances 512 (nth places (256 + w))) refl

      go : (leaf_of a tree' u < none) ⊎ (none ≤ leaf_of a tree' u) → leaf_of a tree w < leaf_of a tree' u
      go (inr s) = omega (arith, old.some)
      go (inl s) = at (same u w)
        where
          at : (u ≡ w) ⊎ (u ≡ w → ⊥) → leaf_of a tree w < leaf_of a tree' u
          at (inl i) =
              let most : leaf_of a tree w ≤ leaf_of a tree' u = omega (arith, own, k.above s) in
              let other : leaf_of a tree w ≡ leaf_of a tree' u → ⊥ =
              λ q. old.spent (there i, subst (λ y. 1 ≤ nth left (y % 256)) (sym q) (k.live s)) in
              omega (arith, most)
          at (inr d) = omega (arith, own, k.above s)

  pub renewed_own : 1 ≤ nth left w → (tree' places' : List ℕ) (ask : Bool) → RowPut a left table tree tree' places' w (nth places w) (nth places (256 + w)) ask
      → Renewed a left table tree tree' places' w
  renewed_own there tree' places' ask g = record { leaves = g.leaves; lifted = λ x l. at x l (same x w) }
    where
      at : (x : ℕ) → x < a.positions → (x ≡ w) ⊎ (x ≡ w → ⊥) → ((x ≡ w → ⊥) × (leaf_of a tree' x ≡ leaf_of a tree x)) ⊎ (leaf_of a tree w < leaf_of a tree' x)
      at x l (inl q) = inr (rw q (new_above w (omega arith) (λ o c. refl) (λ q. there) tree tree' places' ask g))
      at x l (inr d) = inl (d, g.put.others x l d)

  module _ (tree' : List ℕ) (g : LeafPut a.positions tree tree' w none) where
    lifted_retired : (x : ℕ) → x < a.positions → (x ≡ w) ⊎ (x ≡ w → ⊥) → ((x ≡ w → ⊥) × (leaf_of a tree' x ≡ leaf_of a tree x)) ⊎ (leaf_of a tree w < leaf_of a tree' x)
    lifted_retired x l (inl q) = inr (rw (q, g.here) old.some)
    lifted_retired x l (inr d) = inl (d, g.others x l d)

    pub renewed_last : Leaves a left table a.positions 256 tree' places → Renewed a left table tree tree' places w
    renewed_last s = record { leaves = s; lifted = λ x l. lifted_retired x l (same x w) }

    pub renewed_next : (u : ℕ) → After a w u → (tree'' places'' : List ℕ) (ask : Bool)
        → RowPut a left table tree' tree'' places'' u (nth places w) (nth places (256 + w)) ask → Renewed a left table tree tree'' places'' w
    renewed_next u next_is tree'' places'' ask k = record { leaves = k.leaves; lifted = λ x l. at x l (same x u) }
      where
        at : (x : ℕ) → x < a.positions → (x ≡ u) ⊎ (x ≡ u → ⊥) → ((x ≡ w → ⊥) × (leaf_of a tree'' x ≡ leaf_of a tree x)) ⊎ (leaf_of a tree w < leaf_of a tree'' x)
        at x l (inl q) =
            inr
            (rw q
            (new_above u (omega (arith, next_is.later)) (distance_alike a left w u next_is.alike)
            (λ (i : u ≡ w). absurd (omega (arith, next_is.later))) tree' tree'' places'' ask k))
        at x l (inr d) = rw (k.put.others x l d) (lifted_retired x l (same x w))

-- The least is row w's and stale.
module _ (a : Account) (ok : Ranged a) (left table tree places : List ℕ) (lines : Lines a table) (f : Standings a left table tree places)
    (w : ℕ) (old : StaleLeast a left tree w) where
  -- Another leaf is above it.
  above : (v : ℕ) → v < a.positions → (v ≡ w → ⊥) → nth tree 1 < leaf_of a tree v
  above v l d = go (split (nth tree 1) (leaf_of a tree v))
    where
      go : (nth tree 1 < leaf_of a tree v) ⊎ (leaf_of a tree v ≤ nth tree 1) → nth tree 1 < leaf_of a tree v
      go (inl s) = s
      go (inr s) =
          let b : leaf_of a tree v ≡ leaf_of a tree w = omega (arith, least_all a.positions tree f.right v l, old.least) in
          let x = own_row a ok left table tree places lines f v l (omega (arith, old.stale.some)) in
          let y = own_row a ok left table tree places lines f w old.stale.row old.stale.some in
          absurd (d (sym x ∙ ap (λ x. x / 256 % 256) b ∙ y))

  -- Renewed by itself, the least rises.
  pub raised : (tree' places' : List ℕ) → Tree a.positions tree' → Renewed a left table tree tree' places' w → Raised a left table tree tree' places'
  raised tree' places' r g =
      record {
        standings = record { leaves = g.leaves; right = r };
        rises = let k = least_some a.positions tree' r f.leaves.leafed.some in omega (arith, k.2, at k.0 k.1 (g.lifted k.0 k.1));
      }
    where
      at : (x : ℕ) → x < a.positions → ((x ≡ w → ⊥) × (leaf_of a tree' x ≡ leaf_of a tree x)) ⊎ (leaf_of a tree w < leaf_of a tree' x) → nth tree 1 < leaf_of a tree' x
      at x l (inl q) = omega (arith, q.1, above x l q.0)
      at x l (inr q) = omega (arith, old.least)

  -- In a pass.
  pub looked_none : LookedTo a tree (nth tree 1) w 0
  looked_none x l = go (same x w)
    where
      go : (x ≡ w) ⊎ (x ≡ w → ⊥) → (nth tree 1 < leaf_of a tree x) ⊎ ((x ≡ w) × (0 ≤ w) × (leaf_of a tree w ≡ nth tree 1))
      go (inl q) = inr (q, omega arith, old.least)
      go (inr d) = inl (above x l d)

  pub looked_more : (now' tree' places' : List ℕ) (v : ℕ) → v < a.positions → LookedTo a now' (nth tree 1) w v → Looked a left table now' tree' places' v
      → LookedTo a tree' (nth tree 1) w (v + 1)
  looked_more now' tree' places' v lv f' g x l = go (g.each x l) (f' x l) (f' v lv)
    where
      go : ((x ≡ v → Stale a left now' v → ⊥) × (leaf_of a tree' x ≡ leaf_of a now' x)) ⊎ (leaf_of a now' v < leaf_of a tree' x)
          → (nth tree 1 < leaf_of a now' x) ⊎ ((x ≡ w) × (v ≤ w) × (leaf_of a now' w ≡ nth tree 1))
          → (nth tree 1 < leaf_of a now' v) ⊎ ((v ≡ w) × (v ≤ w) × (leaf_of a now' w ≡ nth tree 1))
          → (nth tree 1 < leaf_of a tree' x) ⊎ ((x ≡ w) × (v + 1 ≤ w) × (leaf_of a tree' w ≡ nth tree 1))
      go (inl q) (inl s) t = inl (omega (arith, q.1))
      go (inl q) (inr s) t = at (same x v)
        where
          at : (x ≡ v) ⊎ (x ≡ v → ⊥) → (nth tree 1 < leaf_of a tree' x) ⊎ ((x ≡ w) × (v + 1 ≤ w) × (leaf_of a tree' w ≡ nth tree 1))
          at (inl i) =
              let e : v ≡ w = sym i ∙ s.0 in
              let is : leaf_of a now' v ≡ nth tree 1 = ap (leaf_of a now') e ∙ s.2 in
              absurd
              (q.0 i
              (record {
                row = omega (arith, old.stale.row);
                some = omega (arith, old.stale.some, old.least);
                spent =
                    λ y. old.stale.spent
                    (rw e at y.0, subst (λ z. 1 ≤ nth left (z % 256)) (is ∙ sym old.least) y.1);
              }))
          at (inr d) = inr (s.0, omega (arith, s.0, s.1, d), ap (leaf_of a tree') (sym s.0) ∙ q.1 ∙ ap (leaf_of a now') s.0 ∙ s.2)
      go (inr q) s (inl t) = inl (omega arith)
      go (inr q) s (inr t) = inl (omega (arith, ap (leaf_of a now') t.0, t.2))

  pub raised_all : (now' tree' places' : List ℕ) (v : ℕ) → a.positions ≤ v → LookedTo a now' (nth tree 1) w v
      → Leaves a left table a.positions 256 now' places' → Tree a.positions tree' → SameLeaves a.positions now' tree' → length tree' ≡ length now'
      → Raised a left table tree tree' places'
  raised_all now' tree' places' v past g leaves r same-leaves room =
      record {
        standings = standings_filled a left table now' places' tree' leaves ok.rows_most r same-leaves room;
        rises = let k = least_some a.positions tree' r f.leaves.leafed.some in omega (arith, k.2, same-leaves k.0 k.1, at k.0 (g k.0 k.1));
      }
    where
      at : (x : ℕ) → (nth tree 1 < leaf_of a now' x) ⊎ ((x ≡ w) × (v ≤ w) × (leaf_of a now' w ≡ nth tree 1)) → nth tree 1 < leaf_of a now' x
      at x (inl s) = s
      at x (inr s) = absurd (omega (arith, s.1, old.stale.row))

-- A row looked at: it has no rank, it is not stale, it is renewed.
module _ (a : Account) (left table tree places : List ℕ) (w : ℕ) (f : Leaves a left table a.positions 256 tree places) where
  pub looked_same : (Stale a left tree w → ⊥) → Looked a left table tree tree places w
  looked_same fine = record { leaves = f; each = λ x l. inl (λ q. fine, refl) }

  pub looked_renewed : (tree' places' : List ℕ) → Renewed a left table tree tree' places' w → Looked a left table tree tree' places' w
  looked_renewed tree' places' g = record { leaves = g.leaves; each = λ x l. at x (g.lifted x l) }
    where
      at : (x : ℕ) → ((x ≡ w → ⊥) × (leaf_of a tree' x ≡ leaf_of a tree x)) ⊎ (leaf_of a tree w < leaf_of a tree' x)
          → ((x ≡ w → Stale a left tree w → ⊥) × (leaf_of a tree' x ≡ leaf_of a tree x)) ⊎ (leaf_of a tree w < leaf_of a tree' x)
      at x (inl q) = inl (λ i s. q.0 i, q.1)
      at x (inr q) = inr q
