-- The least looked at again: asked about or renewed, and what falls with each look.
-- Assumes nothing.
use Prim.Native.Nat.{ℕ, ◌+◌, ◌*◌, ◌-◌, ◌/◌, ◌%◌, ◌≤◌, ◌<◌}
use mathlib.Core.Bool.{Bool, true, false, cond, ◌&&◌, true≢false}
use mathlib.Core.List.{List}
use mathlib.Core.Logic.{◌⊎◌, inl, inr}
use mathlib.Core.Path.{◌≡◌, refl, sym, ap, subst, ◌∙◌}
use native.Mathlib.Omega.{arith}
use lib.Dec.{ltb}
use borrow.Author.Tests.{le-ltb, lt-ltb, ltb-true}
use Rattle.account.specs.Accepted.{account_in}
use Rattle.lanes.proofs.FileFacts.{Ranged, ranged}
use Rattle.tree.proofs.TreeLaws.{least_all, least_some}
use Rattle.pairing.specs.Standings.{AskedAt, LeastAsked, Lines, Nearer, Raised, RankAsked, RowPut, Settled, StaleAsked, Standings, leaf_of}
use Rattle.lanes.specs.Keys.{none}
use Rattle.numbers.proofs.Order.{same, split}
use Rattle.numbers.specs.Lists.{nth}
use Rattle.rules.proofs.Tests.{both}
use Rattle.pairing.specs.declared.rows_now.RowsNow.{RowsNow}
use Rattle.rules.specs.File.{Account}
use Rattle.pairing.proofs.RowLaws.{both_some}
use Rattle.pairing.proofs.StandingLaws.{but}
use Rattle.pairing.proofs.LeastLaws.{both_spent, least_row}

-- The least was asked about: it rises, or it is told of its pair now.
pub asked_nearer : (a : Account) → Ranged a → (left table tree places tree' places' : List ℕ) → Lines a table → (f : Standings a left table tree places)
    → nth tree 1 < none → (AskedAt places (nth tree 1 / 256 % 256) → ⊥)
    → RowPut a left table tree tree' places' (nth tree 1 / 256 % 256) (nth places (nth tree 1 / 256 % 256)) (nth places (256 + nth tree 1 / 256 % 256)) true
    → Nearer a left table tree places tree' places'
asked_nearer a ok left table tree places tree' places' lines f some fresh k =
    record { standings = new; nearer = go (split (nth tree 1) (nth tree' 1)) }
  where
    w : ℕ
    w = nth tree 1 / 256 % 256

    new : Standings a left table tree' places'
    new = record { leaves = k.leaves; right = k.right refl }

    old : (w < a.positions) × (leaf_of a tree w ≡ nth tree 1)
    old = least_row a ok left table tree places lines f some

    own : nth tree 1 ≤ leaf_of a tree' w
    own = at (split (leaf_of a tree' w) none)
      where
        at : (leaf_of a tree' w < none) ⊎ (none ≤ leaf_of a tree' w) → nth tree 1 ≤ leaf_of a tree' w
        at (inl s) =
            let small : leaf_of a tree w < none = omega (arith, old.1) in
            omega (arith, old.1, (f.leaves.kept w old.0 small).rank_at_lem small, k.above s)
        at (inr s) = omega arith

    least : nth tree 1 ≤ nth tree' 1
    least =
        let m = least_some a.positions tree' new.right k.leaves.leafed.some in
        omega (arith, m.2, at m.0 m.1 (same m.0 w))
      where
        at : (x : ℕ) → x < a.positions → (x ≡ w) ⊎ (x ≡ w → ⊥) → nth tree 1 ≤ leaf_of a tree' x
        at x l (inl q) = rw q own
        at x l (inr d) = omega (arith, k.put.others x l d, least_all a.positions tree f.right x l)

    go : (nth tree 1 < nth tree' 1) ⊎ (nth tree' 1 ≤ nth tree 1)
        → (nth tree 1 < nth tree' 1)
        ⊎ ((nth tree' 1 ≡ nth tree 1) × AskedAt places' (nth tree' 1 / 256 % 256) × (AskedAt places (nth tree 1 / 256 % 256) → ⊥))
    go (inl s) = inl s
    go (inr s) =
        let e : nth tree' 1 ≡ nth tree 1 = omega (arith, least) in
        let row : nth tree' 1 / 256 % 256 ≡ w = ap (λ x. x / 256 % 256) e in
        let l = least_row a ok left table tree' places' lines new (omega arith) in
        inr (e, rw row (k.told refl (omega (arith, l.1, ap (leaf_of a tree') row))), fresh)

pub risen_nearer : (a : Account) (left table tree places tree' places' : List ℕ) → Raised a left table tree tree' places'
    → Nearer a left table tree places tree' places'
risen_nearer a left table tree places tree' places' g = record { standings = g.standings; nearer = inl g.rises }

-- What falls where the least is looked at again: what it lacks to none, and whether its pair is still to be asked about.
unfoldable pub asks : List ℕ → ℕ → ℕ
asks places w = cond (ltb (nth places (512 + w)) none) 0 1

abbrev pub to_ask : List ℕ → ℕ → ℕ
to_ask places r = (none - r) * 2 + asks places (r / 256 % 256)

asks_most : (places : List ℕ) (w : ℕ) → asks places w ≤ 1
unfolding asks
asks_most places w = go (ltb (nth places (512 + w)) none)
  where
    go : (t : Bool) → cond t 0 1 ≤ 1
    go true = omega arith
    go false = omega arith

asks_no : (places : List ℕ) (w : ℕ) → AskedAt places w → asks places w ≡ 0
unfolding asks
asks_no places w l = rw (lt-ltb (nth places (512 + w)) none l) refl

asks_yes : (places : List ℕ) (w : ℕ) → (AskedAt places w → ⊥) → asks places w ≡ 1
unfolding asks
asks_yes places w n = rw (le-ltb (nth places (512 + w)) none (omega arith)) refl

pub to_ask_falls : (a : Account) (left table old places₀ tree places : List ℕ) → nth old 1 < none → Nearer a left table old places₀ tree places
    → to_ask places (nth tree 1) < to_ask places₀ (nth old 1)
to_ask_falls a left table old places₀ tree places some n = go n.nearer
  where
    go : (nth old 1 < nth tree 1)
        ⊎ ((nth tree 1 ≡ nth old 1) × AskedAt places (nth tree 1 / 256 % 256) × (AskedAt places₀ (nth old 1 / 256 % 256) → ⊥))
        → to_ask places (nth tree 1) < to_ask places₀ (nth old 1)
    go (inl l) = omega (arith, asks_most places (nth tree 1 / 256 % 256))
    go (inr e) = omega (arith, e.0, asks_no places (nth tree 1 / 256 % 256) e.1, asks_yes places₀ (nth old 1 / 256 % 256) e.2)

-- The test of the code.
pub settled_is : (left places : List ℕ) (r : ℕ) (t : Bool)
    → t ≡ (ltb 0 (nth left (r / 256 % 256)) && ltb 0 (nth left (r % 256)) && ltb (nth places (512 + r / 256 % 256)) none)
    → (t ≡ true → Settled left places r) × (t ≡ false → Settled left places r → ⊥)
settled_is left places r t e = (
  λ q.
      let x = both (ltb 0 (nth left (r / 256 % 256)) && ltb 0 (nth left (r % 256))) (ltb (nth places (512 + r / 256 % 256)) none) (sym e ∙ q) in
      let y = both_some (nth left (r / 256 % 256)) (nth left (r % 256)) x.0 in
      record { written_left = y.0; held_left = y.1; told = ltb-true _ none x.1 },
  λ q s.
      let z : ◌≡◌ {A = Bool} true false =
      sym (e ∙ rw (lt-ltb 0 (nth left (r / 256 % 256)) s.written_left, lt-ltb 0 (nth left (r % 256)) s.held_left, lt-ltb (nth places (512 + r / 256 % 256)) none s.told) refl) ∙ q
      in
      true≢false z,
)

-- The least, of rows w and h, looked at again.
module _ (rows : RowsNow) (tree places : List ℕ) (w h : ℕ) (s : LeastAsked rows tree places w h) where
  least_ok : Ranged (account_in rows.file)
  least_ok = ranged rows.file.bytes.now rows.file.layout rows.rests.file

  own_least : (w < rows.file.layout.positions) × (leaf_of (account_in rows.file) tree w ≡ nth tree 1)
  own_least = rw s.written_is (least_row (account_in rows.file) least_ok rows.left.now rows.table.now tree places s.rows.lines s.rows.standings s.some)

  own_some : leaf_of (account_in rows.file) tree w < none
  own_some = omega (arith, own_least.1, s.some)

  pub least_asks : RankAsked rows tree places w w true
  least_asks =
      record {
        row = own_least.0;
        from_row = own_least.0;
        leaves = but (account_in rows.file) rows.left.now rows.table.now rows.file.layout.positions w tree places least_ok.rows_most s.rows.standings.leaves;
        cursors = (s.rows.standings.leaves.kept w own_least.0 own_some).places own_some;
        right = λ e. s.rows.standings.right;
      }

  -- Both rows have contracts left: what was lacking is the answer.
  pub least_asked : (t : Bool) → t ≡ (ltb 0 (nth rows.left.now w) && ltb 0 (nth rows.left.now h)) → t ≡ true → (tree' places' : List ℕ)
      → RowPut (account_in rows.file) rows.left.now rows.table.now tree tree' places' w (nth places w) (nth places (256 + w)) true
      → Nearer (account_in rows.file) rows.left.now rows.table.now tree places tree' places'
  least_asked t e q tree' places' k =
      let y = both_some (nth rows.left.now w) (nth rows.left.now h) (sym e ∙ q) in
      asked_nearer (account_in rows.file) least_ok rows.left.now rows.table.now tree places tree' places' s.rows.lines s.rows.standings s.some
      (λ asked.
      s.unsettled
      (record { written_left = rw s.written_is at y.0; held_left = rw s.held_is at y.1; told = asked }))
      (rw s.written_is at k)

  pub least_stale : (t : Bool) → t ≡ (ltb 0 (nth rows.left.now w) && ltb 0 (nth rows.left.now h)) → t ≡ false → StaleAsked rows tree places w
  least_stale t e q =
      record {
        rows = s.rows;
        least =
            record {
              stale =
                  record {
                    row = own_least.0;
                    some = own_some;
                    spent =
                        λ y. both_spent (nth rows.left.now w) (nth rows.left.now h) t e q
                        (y.0, rw s.held_is (subst (λ z. 1 ≤ nth rows.left.now (z % 256)) own_least.1 y.1));
                  };
              least = own_least.1;
            };
      }
