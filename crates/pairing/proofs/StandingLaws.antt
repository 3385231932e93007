-- What stands for the rows, under stores: at the beginning, where a row is ranked anew, and where it is spent.
-- Assumes nothing.
use Prim.Native.Nat.{ℕ, ◌+◌, ◌≤◌, ◌<◌, min}
use mathlib.Core.Bool.{Bool, true}
use mathlib.Core.List.{List}
use mathlib.Core.Logic.{◌⊎◌, inl, inr}
use mathlib.Core.Path.{◌≡◌, refl, sym, ap, subst, ◌∙◌}
use native.Mathlib.Omega.{arith}
use lib.ListN.{length, set, length-set}
use lib.Seq.{get_or-set_other, get_or-set_same}
use Rattle.pairing.specs.Cursors.{Answer, Found, Kept, Live, Shut, idle}
use Rattle.pairing.specs.Standings.{After, Begun, Leaves, PlacesPut, RowPut, Standings, Waits, leaf_of, line_after, standing}
use Rattle.lanes.specs.Keys.{none}
use Rattle.numbers.proofs.Order.{same}
use Rattle.numbers.specs.Lists.{nth}
use Rattle.lanes.proofs.FileFacts.{Ranged}
use Rattle.pairing.proofs.RankLaws.{distance_later}
use Rattle.pairing.proofs.SearchLaws.{rank_later}
use Rattle.tree.specs.Tree.{LeafPut, Leafed, LeavesSet, SameLeaves, Tree}
use Rattle.pairing.specs.declared.Standing.{Standing}
use Rattle.rules.specs.File.{Account}

leafed_same : (a : Account) (tree tree' : List ℕ) → length tree' ≡ length tree → Leafed a.positions tree → Leafed a.positions tree'
leafed_same a tree tree' e f = record { some = f.some; few = f.few; room = omega (arith, f.room) }

-- Standing t put for row w, which had no rank or is ranked anew, and is not spent by that.
module _ (a : Account) (left table tree places tree' places' : List ℕ) (w : ℕ) (t : Standing)
    (p : PlacesPut places places' w t) (own : leaf_of a tree' w ≡ t.rank)
    (others : (v : ℕ) → v < a.positions → (v ≡ w → ⊥) → leaf_of a tree' v ≡ leaf_of a tree v)
    (room : length tree' ≡ length tree) (room' : length places' ≡ length places) (few : a.positions ≤ 256)
    (k : Kept a left w t) (n : ℕ) (f : Leaves a left table n w tree places) where
  is_own : standing a tree' places' w ≡ t
  is_own = rw (own, p.up, p.down, p.spread)

  is_other : (v : ℕ) → v < a.positions → (v ≡ w → ⊥) → standing a tree' places' v ≡ standing a tree places v
  is_other v l d = let o = p.others v (omega arith) d in rw (others v l d, o.0, o.1, o.2)

  -- Its leaf is not none.
  pub not_none : leaf_of a tree' w ≡ none → ⊥
  not_none q = omega (arith, own, k.ranked.above (omega (arith, own)))

  still_waits : (v : ℕ) → Waits a table tree v → Waits a table tree' v
  still_waits v q = record { before = q.before; row = q.row; is_next = q.is_next; some = q.some; unspent = go (same q.before w) }
    where
      go : (q.before ≡ w) ⊎ (q.before ≡ w → ⊥) → leaf_of a tree' q.before ≡ none → ⊥
      go (inl i) = rw i not_none
      go (inr d) = rw (others q.before q.row d) q.unspent

  leaves_put : (m : ℕ) → n ≤ m → (w < m) → ((v : ℕ) → v < m → (v ≡ w → ⊥) → v < n) → m ≤ a.positions → Leaves a left table m 256 tree' places'
  leaves_put m more lw old most =
      record {
        kept = λ v l s. kept v l s (same v w);
        spent = λ v l e. spent v l e (same v w);
        waits = λ v l d s. waits v l s (same v w);
        fresh = λ v l s. rw (others v s (λ (q : v ≡ w). omega arith)) (f.fresh v (omega arith) s);
        leafed = leafed_same a tree tree' room f.leafed;
        places_room = omega (arith, f.places_room);
      }
    where
      kept : (v : ℕ) → v < a.positions → leaf_of a tree' v < none → (v ≡ w) ⊎ (v ≡ w → ⊥) → Kept a left v (standing a tree' places' v)
      kept v l s (inl q) = rw (q, is_own) k
      kept v l s (inr d) = rw (is_other v (omega arith) d) (f.kept v l (omega (arith, others v (omega arith) d)))

      spent : (v : ℕ) → v < m → leaf_of a tree' v ≡ none → (v ≡ w) ⊎ (v ≡ w → ⊥) → nth left v ≡ 0
      spent v l e (inl q) = absurd (not_none (rw q at e))
      spent v l e (inr d) = f.spent v (old v l d) (sym (others v (omega arith) d) ∙ e)

      waits : (v : ℕ) → v < a.positions → none < leaf_of a tree' v → (v ≡ w) ⊎ (v ≡ w → ⊥) → Shut a left v ⊎ Waits a table tree' v
      waits v l s (inl q) = inl (rw q (k.ranked.shut (omega (arith, own, ap (leaf_of a tree') q))))
      waits v l s (inr d) = go (f.waits v l d (omega (arith, others v (omega arith) d)))
        where
          go : Shut a left v ⊎ Waits a table tree v → Shut a left v ⊎ Waits a table tree' v
          go (inl x) = inl x
          go (inr x) = inr (still_waits v x)

-- Said of every row, it is said of all but x.
pub but : (a : Account) (left table : List ℕ) (n x : ℕ) (tree places : List ℕ) → a.positions ≤ 256
    → Leaves a left table n 256 tree places → Leaves a left table n x tree places
but a left table n x tree places few f =
    record {
      kept = f.kept;
      spent = f.spent;
      waits = λ w l d s. f.waits w l (λ (q : w ≡ 256). omega arith) s;
      fresh = f.fresh;
      leafed = f.leafed;
      places_room = f.places_room;
    }

-- The beginning: no row, a row that waits, a row ranked, the next row marked, the tree filled.
pub leaves_none : (a : Account) (left table tree places : List ℕ) → 768 ≤ length places → Leafed a.positions tree
    → LeavesSet a.positions tree a.positions none → Leaves a left table 0 256 tree places
leaves_none a left table tree places room leafed set_to =
    record {
      kept = λ w l s. absurd (omega (arith, set_to w l));
      spent = λ w (l : w < 0). absurd (omega arith);
      waits = λ w l d s. absurd (omega (arith, set_to w l));
      fresh = λ w l s. omega (arith, set_to w s);
      leafed = leafed;
      places_room = room;
    }

module _ (a : Account) (left table tree places : List ℕ) (n : ℕ) (ln : n < a.positions) (few : a.positions ≤ 256) where
  pub begun_waits : Leaves a left table n 256 tree places → none < leaf_of a tree n → Begun a left table n tree places
  begun_waits f s =
      record {
        leaves =
            record {
              kept = f.kept;
              spent = λ w l e. go w l e (same w n);
              waits = f.waits;
              fresh = λ w l q. f.fresh w (omega arith) q;
              leafed = f.leafed;
              places_room = f.places_room;
            };
        some = λ q. omega arith;
      }
    where
      go : (w : ℕ) → w < n + 1 → leaf_of a tree w ≡ none → (w ≡ n) ⊎ (w ≡ n → ⊥) → nth left w ≡ 0
      go w l e (inl q) = absurd (omega (arith, ap (leaf_of a tree) q))
      go w l e (inr d) = f.spent w (omega arith) e

  pub begun : (places' : List ℕ) (t : Standing) → Leaves a left table n 256 tree places → PlacesPut places places' n t
      → length places' ≡ length places → Kept a left n t → Begun a left table n (set tree (a.positions + n) t.rank) places'
  begun places' t f p room k =
      record {
        leaves =
            leaves_put a left table tree places (set tree (a.positions + n) t.rank) places' n t p own others (simp length-set) room few k n
            (but a left table n n tree places few f) (n + 1) (omega arith) (omega arith) (λ v l d. omega arith) (omega arith);
        some =
            not_none a left table tree places (set tree (a.positions + n) t.rank) places' n t p own others (simp length-set) room few k n
            (but a left table n n tree places few f);
      }
    where
      own : leaf_of a (set tree (a.positions + n) t.rank) n ≡ t.rank
      own = get_or-set_same tree (a.positions + n) t.rank 0 (omega (arith, f.leafed.room))

      others : (v : ℕ) → v < a.positions → (v ≡ n → ⊥) → leaf_of a (set tree (a.positions + n) t.rank) v ≡ leaf_of a tree v
      others v s d = get_or-set_other tree (a.positions + n) (a.positions + v) t.rank 0 (λ (q : a.positions + v ≡ a.positions + n). d (omega arith))

  module _ (b : Begun a left table n tree places) where
    pub marked : (u : ℕ) → u ≡ line_after table n → After a n u → Leaves a left table (n + 1) 256 (set tree (a.positions + u) idle) places
    marked u e g =
        record {
          kept = λ w l s. kept w l s (same w u);
          spent = λ w l q. b.leaves.spent w l (sym (others w (omega arith) (λ (q : w ≡ u). omega (arith, g.later))) ∙ q);
          waits = λ w l d s. waits w l d s (same w u);
          fresh = λ w l s. fresh w l s (same w u);
          leafed = leafed_same a tree (set tree (a.positions + u) idle) (simp length-set) b.leaves.leafed;
          places_room = b.leaves.places_room;
        }
      where
        own : leaf_of a (set tree (a.positions + u) idle) u ≡ idle
        own = get_or-set_same tree (a.positions + u) idle 0 (omega (arith, b.leaves.leafed.room, g.row))

        others : (v : ℕ) → v < a.positions → (v ≡ u → ⊥) → leaf_of a (set tree (a.positions + u) idle) v ≡ leaf_of a tree v
        others v s d = get_or-set_other tree (a.positions + u) (a.positions + v) idle 0 (λ (q : a.positions + v ≡ a.positions + u). d (omega arith))

        kept : (w : ℕ) → w < a.positions → leaf_of a (set tree (a.positions + u) idle) w < none → (w ≡ u) ⊎ (w ≡ u → ⊥)
            → Kept a left w (standing a (set tree (a.positions + u) idle) places w)
        kept w l s (inl q) = absurd (omega (arith, own, ap (leaf_of a (set tree (a.positions + u) idle)) q))
        kept w l s (inr d) = rw (others w (omega arith) d) (b.leaves.kept w l (omega (arith, others w (omega arith) d)))

        -- What is not none stays so.
        stays : (v : ℕ) → v < a.positions → (leaf_of a tree v ≡ none → ⊥) → (v ≡ u) ⊎ (v ≡ u → ⊥) → leaf_of a (set tree (a.positions + u) idle) v ≡ none → ⊥
        stays v l x (inl q) = λ e. omega (arith, own, ap (leaf_of a (set tree (a.positions + u) idle)) q)
        stays v l x (inr d) = λ e. x (sym (others v l d) ∙ e)

        waits : (w : ℕ) → w < a.positions → (w ≡ 256 → ⊥) → none < leaf_of a (set tree (a.positions + u) idle) w → (w ≡ u) ⊎ (w ≡ u → ⊥)
            → Shut a left w ⊎ Waits a table (set tree (a.positions + u) idle) w
        waits w l d s (inl q) =
            inr (record { before = n; row = ln; is_next = sym e ∙ sym q; some = omega (arith, g.later); unspent = stays n ln b.some (same n u) })
        waits w l d s (inr x) = go (b.leaves.waits w l d (omega (arith, others w (omega arith) x)))
          where
            go : Shut a left w ⊎ Waits a table tree w → Shut a left w ⊎ Waits a table (set tree (a.positions + u) idle) w
            go (inl y) = inl y
            go (inr y) =
                inr (record { before = y.before; row = y.row; is_next = y.is_next; some = y.some; unspent = stays y.before y.row y.unspent (same y.before u) })

        fresh : (w : ℕ) → n + 1 ≤ w → w < a.positions → (w ≡ u) ⊎ (w ≡ u → ⊥) → none ≤ leaf_of a (set tree (a.positions + u) idle) w
        fresh w l s (inl q) = omega (arith, own, ap (leaf_of a (set tree (a.positions + u) idle)) q)
        fresh w l s (inr d) = rw (others w s d) (b.leaves.fresh w l s)

pub standings_filled : (a : Account) (left table tree places tree' : List ℕ) → Leaves a left table a.positions 256 tree places
    → a.positions ≤ 256 → Tree a.positions tree' → SameLeaves a.positions tree tree' → length tree' ≡ length tree → Standings a left table tree' places
standings_filled a left table tree places tree' f few r same-leaves room =
    record {
      leaves =
          record {
            kept = λ w l s. rw (same-leaves w (omega arith)) (f.kept w l (omega (arith, same-leaves w (omega arith))));
            spent = λ w l e. f.spent w l (sym (same-leaves w (omega arith)) ∙ e);
            waits = λ w l d s. go w (f.waits w l d (omega (arith, same-leaves w (omega arith))));
            fresh = λ w l s. rw (same-leaves w s) (f.fresh w l s);
            leafed = leafed_same a tree tree' room f.leafed;
            places_room = f.places_room;
          };
      right = r;
    }
  where
    go : (w : ℕ) → Shut a left w ⊎ Waits a table tree w → Shut a left w ⊎ Waits a table tree' w
    go w (inl x) = inl x
    go w (inr x) =
        inr
        (record {
          before = x.before;
          row = x.row;
          is_next = x.is_next;
          some = x.some;
          unspent = λ e. x.unspent (sym (same-leaves x.before x.row) ∙ e);
        })

-- Row w ranked from given places, as a look from cursors u₀ and d₀ on left it.
pub row_put : (a : Account) → Ranged a → (left table tree places tree' places' : List ℕ) (w u₀ d₀ : ℕ) (t : Standing) (ask : Bool)
    → w < a.positions → Leaves a left table a.positions w tree places → PlacesPut places places' w t → length places' ≡ length places
    → LeafPut a.positions tree tree' w t.rank → Found a left w u₀ d₀ t → (ask ≡ true → Answer t)
    → (ask ≡ true → Tree a.positions tree') → RowPut a left table tree tree' places' w u₀ d₀ ask
row_put a ok left table tree places tree' places' w u₀ d₀ t ask lw f p room g k answer right =
    record {
      leaves =
          leaves_put a left table tree places tree' places' w t p g.here g.others g.same_length room ok.rows_most k.kept a.positions f
          a.positions (omega arith) lw (λ v l d. l) (omega arith);
      live = subst (Live left) (sym g.here) k.live;
      put = record { here = refl; others = g.others; same_length = g.same_length };
      above =
          λ s. let e : t.rank < none = omega (arith, g.here) in
          rw (g.here, k.kept.rank_at_lem e)
          (rank_later w _ _ (lesser (distance_later a ok left w lw 256 u₀ t.up k.later_up) (distance_later a ok left w lw 512 d₀ t.down k.later_down)));
      right = right;
      told = λ e s. rw p.spread (answer e (omega (arith, g.here)));
    }
  where
    lesser : {x y u v : ℕ} → x ≤ u → y ≤ v → min x y ≤ min u v
    lesser l m = omega arith

-- A spent row gets none: of the row x after it, if there is one, it is not said any more that it waits.
pub retired : (a : Account) (left table tree places tree' : List ℕ) (w x : ℕ) → a.positions ≤ 256 → w < a.positions → nth left w ≡ 0
    → (1 ≤ line_after table w → x ≡ line_after table w) → Leaves a left table a.positions 256 tree places
    → LeafPut a.positions tree tree' w none → Leaves a left table a.positions x tree' places
retired a left table tree places tree' w x few lw spent after f g =
    record {
      kept = λ v l s. kept v l s (same v w);
      spent = λ v l e. go v l e (same v w);
      waits = λ v l d s. waits v l d s (same v w);
      fresh = λ v l s. rw (g.others v s (λ (q : v ≡ w). omega arith)) (f.fresh v l s);
      leafed = leafed_same a tree tree' g.same_length f.leafed;
      places_room = f.places_room;
    }
  where
    kept : (v : ℕ) → v < a.positions → leaf_of a tree' v < none → (v ≡ w) ⊎ (v ≡ w → ⊥) → Kept a left v (standing a tree' places v)
    kept v l s (inl q) = absurd (omega (arith, g.here, ap (leaf_of a tree') q))
    kept v l s (inr d) = rw (g.others v (omega arith) d) (f.kept v l (omega (arith, g.others v (omega arith) d)))

    go : (v : ℕ) → v < a.positions → leaf_of a tree' v ≡ none → (v ≡ w) ⊎ (v ≡ w → ⊥) → nth left v ≡ 0
    go v l e (inl q) = rw q spent
    go v l e (inr d) = f.spent v l (sym (g.others v (omega arith) d) ∙ e)

    waits : (v : ℕ) → v < a.positions → (v ≡ x → ⊥) → none < leaf_of a tree' v → (v ≡ w) ⊎ (v ≡ w → ⊥)
        → Shut a left v ⊎ Waits a table tree' v
    waits v l d s (inl q) = absurd (omega (arith, g.here, ap (leaf_of a tree') q))
    waits v l d s (inr n) = at (f.waits v l (λ (q : v ≡ 256). omega arith) (omega (arith, g.others v l n)))
      where
        at : Shut a left v ⊎ Waits a table tree v → Shut a left v ⊎ Waits a table tree' v
        at (inl y) = inl y
        at (inr y) =
            let is : y.before ≡ w → line_after table w ≡ v = λ q. ap (line_after table) (sym q) ∙ y.is_next in
            let other : y.before ≡ w → ⊥ = λ q. d (sym (is q) ∙ sym (after (omega (arith, is q, y.some)))) in
            inr
            (record {
              before = y.before;
              row = y.row;
              is_next = y.is_next;
              some = y.some;
              unspent = λ e. y.unspent (sym (g.others y.before y.row other) ∙ e);
            })
