-- The least rank of what stands for the rows is the definition's choice.
-- Assumes nothing.
use Prim.Native.Nat.{ℕ, zero, suc, ◌+◌, ◌/◌, ◌%◌, ◌≤◌, ◌<◌}
use mathlib.Core.Bool.{Bool, true, false, ◌&&◌, true≢false}
use mathlib.Core.List.{List}
use mathlib.Core.Logic.{◌⊎◌, inl, inr}
use mathlib.Core.Path.{◌≡◌, refl, sym, ap, subst, ◌∙◌}
use native.Mathlib.Omega.{arith}
use lib.Dec.{ltb}
use borrow.Author.Tests.{lt-ltb}
use Rattle.pairing.proofs.CursorLaws.{Falls, kept_falls, open_alike, open_falls}
use Rattle.lanes.proofs.FileFacts.{Ranged}
use Rattle.pairing.proofs.RankLaws.{gap_most, written_row}
use Rattle.tree.proofs.TreeLaws.{least_all, least_some}
use Rattle.pairing.specs.Cursors.{Open, Shut, Told, Usable}
use Rattle.pairing.specs.Standings.{After, AskedAt, Lines, Settled, Standings, Waits, leaf_of}
use Rattle.lanes.specs.Keys.{none}
use Rattle.numbers.proofs.Order.{split}
use Rattle.numbers.specs.Lists.{nth}
use Rattle.rules.proofs.PairOrder.{rank}
use Rattle.rules.proofs.Search.{allowed_is, choice_ranked, is_allowed, none_choice}
use Rattle.rules.proofs.Tests.{refuted}
use Rattle.rules.specs.File.{Account}
use Rattle.rules.specs.Pairs.{allowed, book_of, choice, gap_of}
use Rattle.std.specs.Prelude.{Some, None}

-- Contracts left that fall.
pub standings_fall : (a : Account) → Ranged a → (left left' table tree places : List ℕ) → Falls a left left'
    → Standings a left table tree places → Standings a left' table tree places
standings_fall a ok left left' table tree places fall f =
    record {
      leaves =
          record {
            kept = λ w l s. kept_falls a left left' fall w _ (f.leaves.kept w l s);
            spent = λ w l e. omega (arith, fall w l, f.leaves.spent w l e);
            waits = λ w l d s. go w l (f.leaves.waits w l d s);
            fresh = f.leaves.fresh;
            leafed = f.leaves.leafed;
            places_room = f.leaves.places_room;
          };
      right = f.right;
    }
  where
    go : (w : ℕ) → w < a.positions → Shut a left w ⊎ Waits a table tree w → Shut a left' w ⊎ Waits a table tree w
    go w l (inl x) = inl (λ h lh o. x h lh (open_falls a left left' fall w h lh o))
    go w l (inr x) = inr x

pub both_spent : (x y : ℕ) (t : Bool) → t ≡ (ltb 0 x && ltb 0 y) → t ≡ false → (1 ≤ x) × (1 ≤ y) → ⊥
both_spent x y t e n l =
    let z : ◌≡◌ {A = Bool} true false = sym (e ∙ rw (lt-ltb 0 x l.0, lt-ltb 0 y l.1) refl) ∙ n in
    true≢false z

module _ (a : Account) (ok : Ranged a) (left table tree places : List ℕ) (lines : Lines a table) (f : Standings a left table tree places) where
  -- A leaf's rank carries its row.
  pub own_row : (w : ℕ) → w < a.positions → leaf_of a tree w < none → leaf_of a tree w / 256 % 256 ≡ w
  own_row w l s =
      let k = (f.leaves.kept w l s).ranked in
      written_row (leaf_of a tree w) (gap_of a w (leaf_of a tree w % 256)) w (leaf_of a tree w % 256) (omega (arith, ok.rows_most)) (omega arith) (k.is_rank s)

  -- The least rank is at most that of each open pair of a row that is not spent: of a ranked row by its leaf, of a row
  -- that waits by the row before it in line.
  lowest : (k w : ℕ) → w < k → w < a.positions → (leaf_of a tree w ≡ none → ⊥) → (h : ℕ) → h < a.positions → Open a left w h
      → nth tree 1 ≤ rank (book_of a) w h
  lowest zero w few lw some h lh o = absurd (omega arith)
  lowest (suc k) w few lw some h lh o = go (lowest k) (split (leaf_of a tree w) none)
    where
      go : ((v : ℕ) → v < k → v < a.positions → (leaf_of a tree v ≡ none → ⊥) → (h : ℕ) → h < a.positions → Open a left v h
          → nth tree 1 ≤ rank (book_of a) v h) → (leaf_of a tree w < none) ⊎ (none ≤ leaf_of a tree w) → nth tree 1 ≤ rank (book_of a) w h
      go down (inl s) =
          omega (arith, least_all a.positions tree f.right w lw, (f.leaves.kept w lw s).ranked.lowest s h lh o)
      go down (inr s) = at (f.leaves.waits w lw (λ (q : w ≡ 256). omega (arith, ok.rows_most)) (omega (arith, some)))
        where
          at : Shut a left w ⊎ Waits a table tree w → nth tree 1 ≤ rank (book_of a) w h
          at (inl x) = absurd (x h lh o)
          at (inr x) =
              let v = x.before in
              let g : After a v w = subst (After a v) x.is_next (lines v x.row (rw x.is_next x.some)) in
              let l = down v (omega (arith, g.later)) x.row x.unspent h lh (open_alike a left v w g.alike h o) in
              omega (arith, l, g.alike.gap h, g.later)

  -- So it is at most that of each allowed pair, where no more contracts are left than may be paired.
  allowed_lowest : Usable a left → (v g : ℕ) → v < a.positions → g < a.positions → allowed (book_of a) (nth left) v g ≡ true
      → nth tree 1 ≤ rank (book_of a) v g
  allowed_lowest usable v g lv lg e =
      let k = allowed_is (book_of a) (nth left) v g lv lg e in
      lowest (v + 1) v (omega arith) lv (λ q. omega (arith, f.leaves.spent v lv q, k.written_left)) g lg
      (record {
        may_pair_lem = k.may_pair_lem;
        held_left = k.held_left;
        unblocked = lt-ltb (a.position_at g).blocked (a.position_at g).q (omega (arith, usable g lg, k.held_left));
      })

  pub nothing : Usable a left → none ≤ nth tree 1 → choice (book_of a) (nth left) ≡ None
  nothing usable s =
      none_choice (book_of a) (nth left)
      (λ v g lv lg. refuted _
      (λ e. omega (arith, allowed_lowest usable v g lv lg e, gap_most a ok left v lv g lg, ok.rows_most)))

  module _ (some : nth tree 1 < none) where
    -- The leaf of the least rank's row has it.
    pub least_row : (nth tree 1 / 256 % 256 < a.positions) × (leaf_of a tree (nth tree 1 / 256 % 256) ≡ nth tree 1)
    least_row =
        let k = least_some a.positions tree f.right f.leaves.leafed.some in
        let is : leaf_of a tree k.0 ≡ nth tree 1 = sym k.2 in
        let q : nth tree 1 / 256 % 256 ≡ k.0 = ap (λ x. x / 256 % 256) (sym is) ∙ own_row k.0 k.1 (omega arith) in
        (rw q k.1, rw q is)

    -- What is told of its pair.
    pub least_told : AskedAt places (nth tree 1 / 256 % 256)
        → Told a (nth tree 1 / 256 % 256) (nth tree 1 % 256) (nth places (512 + nth tree 1 / 256 % 256))
    least_told asked =
        let w = nth tree 1 / 256 % 256 in
        let l = least_row in
        let s : leaf_of a tree w < none = omega (arith, l.1) in
        subst (λ x. Told a w (x % 256) (nth places (512 + w))) l.1 ((f.leaves.kept w l.0 s).told s asked)

    pub picked : Usable a left → Settled left places (nth tree 1)
        → choice (book_of a) (nth left) ≡ Some ((nth tree 1 / 256 % 256), (nth tree 1 % 256))
    picked usable live =
        let w = nth tree 1 / 256 % 256 in
        let h = nth tree 1 % 256 in
        let l = least_row in
        let s : leaf_of a tree w < none = omega (arith, l.1) in
        let k = (f.leaves.kept w l.0 s).ranked in
        let is : nth tree 1 ≡ rank (book_of a) w h = subst (λ x. x ≡ rank (book_of a) w (x % 256)) l.1 (k.is_rank s) in
        let lh : h < a.positions = subst (λ x. x % 256 < a.positions) l.1 (k.row s) in
        let may = (least_told live.told).may_pair_lem in
        choice_ranked (book_of a) (nth left) ok.rows_most w h l.0 lh
        (is_allowed (book_of a) (nth left) w h
        (record { written_below = l.0; held_below = lh; may_pair_lem = may; written_left = live.written_left; held_left = live.held_left }))
        (λ v g lv lg o. omega (arith, allowed_lowest usable v g lv lg o))
