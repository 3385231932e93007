-- The table as a whole: links by the marks of its rows, and these as the definitions have them of an account.
-- Assumes nothing.
use Prim.Native.Nat.{ℕ, ◌+◌, ◌-◌, ◌%◌, ◌≤◌, ◌<◌}
use mathlib.Core.Bool.{Bool, true, false, cond, ◌&&◌, ◌||◌, false≢true}
use mathlib.Core.List.{List}
use mathlib.Core.Logic.{◌⊎◌, inl, inr}
use mathlib.Core.Path.{◌≡◌, refl, sym, ap, ap₂, ◌∙◌}
use native.Mathlib.Omega.{arith}
use lib.Dec.{eqb}
use lib.ListN.{length, length-set, set, take}
use lib.Seq.{get_or-set_other, get_or-set_same}
use borrow.Author.Tests.{eq-eqb, ne_eqb}
use Rattle.std.proofs.lemmas.List.{get_or-take, length-take-le}
use Rattle.lanes.proofs.FileFacts.{Ranged, row_range}
use Rattle.lanes.proofs.MarkLaws.{mark_from_lem, mark_most, mark_role}
use Rattle.lanes.specs.Keys.{LeastKey, Links, fits_lanes, from, in_lanes, is_linked, key, last, pairs_as_held, pairs_as_written}
use Rattle.lanes.specs.Limiters.{if_written}
use Rattle.lanes.specs.Links.{Linked, LinksFilled, MarkLinks, Ordered, down_key, held_from, lane_key, mark_key, mark_link_from, written_from}
use Rattle.lanes.specs.Marks.{Marked, Marks, Sorted, TableFilled, mark_from, mark_of, mark_place, role_of, side_role}
use Rattle.numbers.proofs.Order.{newest, split}
use Rattle.numbers.specs.Lists.{nth}
use Rattle.rules.specs.File.{Account, series_of_row}
use Rattle.rules.specs.OnePosition.{unit_margin}
use Rattle.rules.specs.Pairs.{is_held, is_written, may_be_paired}
use Rattle.rules.specs.declared.Position.{Position}
use Rattle.rules.specs.declared.Side.{Side}
use Rattle.rules.specs.declared.Side.TheVariants.{Held, Written}

-- Keys that are the same, and a bound and a least key that are.
least_alike : (keys keys' : ℕ → ℕ) (n lo lo' y y' : ℕ) → ((h : ℕ) → h < n → keys h ≡ keys' h) → lo ≡ lo' → y ≡ y'
    → LeastKey keys n lo y → LeastKey keys' n lo' y'
least_alike keys keys' n lo lo' y y' same e q f =
    record {
      lowest = λ h l b. omega (arith, same h l, f.lowest h l (omega (arith, same h l)));
      at_least = λ s. omega (arith, f.at_least (omega arith));
      is_key = λ s. let k = f.is_key (omega arith) in (k.0, k.1, sym (same k.0 k.1) ∙ k.2 ∙ q);
      most = omega (arith, f.most);
    }

-- The sorted keys of rows with one role.
module _ (table : List ℕ) (role : ℕ) (keys : List ℕ) (n p : ℕ) (few : p ≤ 256) (f : Sorted table role keys n p) where
  sorted_ordered : ((r : ℕ) → r < p → nth table r ≤ last) → n ≤ length keys → Ordered keys n
  sorted_ordered small room =
      record {
        room = room;
        rising = λ i j l b. rises i j l b (split (nth keys i) (nth keys j));
        apart = f.apart;
        placed = λ j l. let k = f.only j l in omega (arith, k.1, k.3, small k.0 k.1);
      }
    where
      rises : (i j : ℕ) → i < j → j < n → (nth keys i < nth keys j) ⊎ (nth keys j ≤ nth keys i) → nth keys i < nth keys j
      rises i j l b (inl s) = s
      rises i j l b (inr s) =
          let e : nth keys i ≡ nth keys j = omega (arith, f.ascending i j (omega arith) b) in
          absurd (f.apart i j l b (ap (λ x. x % 256) e))

  sorted_alike : (new : List ℕ) → ((r : ℕ) → r < p → nth new r ≡ nth table r) → Sorted new role keys n p
  sorted_alike new same =
      record {
        ascending = f.ascending;
        apart = f.apart;
        has = λ r l e. let k = f.has r l (ap (λ x. x % 256) (sym (same r l)) ∙ e) in (k.0, k.1, k.2 ∙ ap (λ x. mark_place x + r) (sym (same r l)));
        only = λ j l.
            let k = f.only j l in
            (k.0, k.1, ap (λ x. x % 256) (same k.0 k.1) ∙ k.2, k.3 ∙ ap (λ x. mark_place x + k.0) (sym (same k.0 k.1)));
        few = f.few;
      }

  -- The same of the slice of them.
  pub sorted_taken : n ≤ length keys → Sorted table role (take n keys) (length (take n keys)) p
  sorted_taken room =
      rw (length-take-le n keys room)
      (record {
        ascending = λ i j l b. omega (arith, is i (omega arith), is j b, f.ascending i j l b);
        apart = λ i j l b e. f.apart i j l b (omega (arith, is i (omega arith), is j b, e));
        has = λ r l e. let k = f.has r l e in (k.0, k.1, is k.0 k.1 ∙ k.2);
        only = λ j l. let k = f.only j l in (k.0, k.1, k.2, is j l ∙ k.3);
        few = f.few;
      })
    where
      is : (i : ℕ) → i < n → nth (take n keys) i ≡ nth keys i
      is i l = get_or-take n keys i 0 l

  -- The row of a key.
  key_row : (j : ℕ) → j < n → (r : ℕ) × (r < p) × (nth table r % 256 ≡ role) × (nth keys j % 256 ≡ r)
  key_row j l = let k = f.only j l in (k.0, k.1, k.2, omega (arith, k.1, k.3))

-- Their slice has what links rest on.
pub taken_ordered : (table : List ℕ) (role : ℕ) (keys : List ℕ) (n p : ℕ) → p ≤ 256 → Sorted table role keys n p
    → ((r : ℕ) → r < p → nth table r ≤ last) → n ≤ length keys → Ordered (take n keys) (length (take n keys))
taken_ordered table role keys n p few f small room =
    sorted_ordered table role (take n keys) (length (take n keys)) p few (sorted_taken table role keys n p few f room) small (omega arith)

-- A key as either lane has it, by the mark x of its row r.
lane_key_is : (o x r : ℕ) → r < 256 → lane_key o (mark_place x + r) ≡ mark_from o x + r
lane_key_is o x r l = go (eqb o 256)
  where
    go : (u : Bool) → cond u (mark_place x + r) (down_key (mark_place x + r)) ≡ cond u (mark_place x) (last - mark_place x) + r
    go true = refl
    go false = omega arith

-- The least of the held rows' sorted keys is that of the lane.
module _ (table keys : List ℕ) (n p : ℕ) (few : p ≤ 256) (f : Sorted table 0 keys n p) (o : ℕ) where
  held_key : (j r : ℕ) → r < p → nth keys j ≡ mark_place (nth table r) + r → lane_key o (nth keys j) ≡ mark_from o (nth table r) + r
  held_key j r l e = ap (lane_key o) e ∙ lane_key_is o (nth table r) r (omega arith)

  mark_key_is : (r : ℕ) → nth table r % 256 ≡ 0 → mark_key table o r ≡ mark_from o (nth table r) + r
  mark_key_is r e = rw (eq-eqb (nth table r % 256) 0 e)

  sorted_least : (lo y : ℕ) → LeastKey (λ j. lane_key o (nth keys j)) n lo y → LeastKey (mark_key table o) p lo y
  sorted_least lo y g =
      record {
        lowest = λ h l b. lowest h l b (split 0 (nth table h % 256));
        at_least = g.at_least;
        is_key = λ s.
            let k = g.is_key s in
            let r = f.only k.0 k.1 in
            (r.0, r.1, mark_key_is r.0 r.2 ∙ sym (held_key k.0 r.0 r.1 r.3) ∙ k.2);
        most = g.most;
      }
    where
      lowest : (h : ℕ) → h < p → lo ≤ mark_key table o h → (0 < nth table h % 256) ⊎ (nth table h % 256 ≤ 0) → y ≤ mark_key table o h
      lowest h l b (inl s) = rw (ne_eqb (nth table h % 256) 0 (λ (q : nth table h % 256 ≡ 0). omega arith)) g.most
      lowest h l b (inr s) =
          let e : nth table h % 256 ≡ 0 = omega arith in
          let k = f.has h l e in
          let q = held_key k.0 h l k.2 in
          omega (arith, mark_key_is h e, q, g.lowest k.0 k.1 (omega (arith, mark_key_is h e, q)))

-- Both loops over the sorted keys together.
module _ (table keys written was now : List ℕ) (n m p : ℕ) (few : p ≤ 256) (f : Sorted table 0 keys n p) (g : Sorted table 1 written m p)
    (h : Linked keys n held_from keys n table was) (w : Linked keys n written_from written m was now) where
  -- A held row is no written row.
  kept : (r : ℕ) → r < p → nth table r % 256 ≡ 0 → (i : ℕ) → i < m → r ≡ nth written i % 256 → ⊥
  kept r l e i b q =
      let k = key_row table 1 written m p few g i b in
      omega (arith, e, k.2, ap (λ x. nth table x % 256) (q ∙ k.3))

  mark_links : (o : ℕ) → (o ≡ 256) ⊎ (o ≡ 512) → ((i : ℕ) → i < n → LeastKey (λ j. lane_key o (nth keys j)) n (held_from o (nth keys i)) (nth was (o + nth keys i % 256)))
      → ((i : ℕ) → i < m → LeastKey (λ j. lane_key o (nth keys j)) n (written_from o (nth written i)) (nth now (o + nth written i % 256)))
      → MarkLinks table p o now
  mark_links o lane held others r l low = go (split 0 (nth table r % 256))
    where
      same : nth table r % 256 ≡ 0 → (o ≡ 256) ⊎ (o ≡ 512) → nth now (o + r) ≡ nth was (o + r)
      same e (inl q) = w.others (o + r) (λ i b. (λ x. kept r l e i b (omega arith), λ x. omega arith))
      same e (inr q) = w.others (o + r) (λ i b. (λ x. omega arith, λ x. kept r l e i b (omega arith)))

      go : (0 < nth table r % 256) ⊎ (nth table r % 256 ≤ 0) → LeastKey (mark_key table o) p (mark_link_from table o r) (nth now (o + r))
      go (inl some) =
          let k = g.has r l (omega arith) in
          let q : nth written k.0 % 256 ≡ r = omega (arith, k.2) in
          let e : mark_place (nth written k.0) ≡ mark_place (nth table r) = omega (arith, k.2) in
          least_alike (mark_key table o) (mark_key table o) p _ _ _ _ (λ i b. refl)
          (rw (ne_eqb (nth table r % 256) 0 (λ (x : nth table r % 256 ≡ 0). omega arith), e) refl)
          (ap (λ x. nth now (o + x)) q)
          (sorted_least table keys n p few f o _ _ (others k.0 k.1))
      go (inr s) =
          let z : nth table r % 256 ≡ 0 = omega arith in
          let k = f.has r l z in
          let q : nth keys k.0 % 256 ≡ r = omega (arith, k.2) in
          least_alike (mark_key table o) (mark_key table o) p _ _ _ _ (λ i b. refl)
          (rw (eq-eqb (nth table r % 256) 0 z, held_key table keys n p few f o k.0 r l k.2) refl)
          (ap (λ x. nth was (o + x)) q ∙ sym (same z lane))
          (sorted_least table keys n p few f o _ _ (held k.0 k.1))

  pub links_filled : LinksFilled table now p
  links_filled =
      record {
        up = mark_links 256 (inl refl) h.up w.up;
        down = mark_links 512 (inr refl) h.down w.down;
        marks = λ k l. w.others k (λ i b. (λ x. omega arith, λ x. omega arith)) ∙ h.others k (λ i b. (λ x. omega arith, λ x. omega arith));
        rest = λ k l. w.others k (λ i b. (λ x. omega arith, λ x. omega arith)) ∙ h.others k (λ i b. (λ x. omega arith, λ x. omega arith));
      }

-- The marks of an account's rows.
role_held : (fits : Bool) (p : Position) → eqb (role_of fits p) 0 ≡ (pairs_as_held p && fits)
role_held fits p = go fits (may_be_paired p) p.side
  where
    go : (m t : Bool) (s : Side) → eqb (cond t (side_role m s) 2) 0 ≡ (is_held s && t && m)
    go true true Held = refl
    go false true Held = refl
    go m true Written = refl
    go m false Held = refl
    go m false Written = refl

-- A row that has links is held or written in a pair.
role_linked : (fits : Bool) (p : Position) → (pairs_as_held p && fits || pairs_as_written p) ≡ true → role_of fits p < 2
role_linked fits p = go fits (may_be_paired p) p.side
  where
    go : (m t : Bool) (s : Side) → (is_held s && t && m || is_written s && t) ≡ true → cond t (side_role m s) 2 < 2
    go true true Held e = omega arith
    go false true Held e = absurd (false≢true e)
    go m true Written e = omega arith
    go m false Held e = absurd (false≢true e)
    go m false Written e = absurd (false≢true e)

module _ (a : Account) (ok : Ranged a) (table : List ℕ) (marks : Marks a table) where
  row_role : (r : ℕ) → r < a.positions → nth table r % 256 ≡ role_of (fits_lanes a r) (a.position_at r)
  row_role r l = ap (λ x. x % 256) (marks r l) ∙ mark_role (fits_lanes a r) (a.position_at r) (row_range a ok r l)

  row_held : (r : ℕ) → r < a.positions → eqb (nth table r % 256) 0 ≡ in_lanes a r
  row_held r l = ap (λ x. eqb x 0) (row_role r l) ∙ role_held (fits_lanes a r) (a.position_at r)

  row_from : (o r : ℕ) → r < a.positions → mark_from o (nth table r) ≡ from a o r
  row_from o r l = ap (mark_from o) (marks r l) ∙ mark_from_lem (fits_lanes a r) (a.position_at r) (row_range a ok r l) o

  pub row_most : (r : ℕ) → r < a.positions → nth table r ≤ last
  row_most r l = rw (marks r l) (mark_most (fits_lanes a r) (a.position_at r) (row_range a ok r l))

  row_linked : (r : ℕ) → r < a.positions → is_linked a r ≡ true → nth table r % 256 < 2
  row_linked r l e = rw (row_role r l) (role_linked (fits_lanes a r) (a.position_at r) e)

  links_as : (o : ℕ) (new : List ℕ) → MarkLinks table a.positions o new → Links a o new
  links_as o new f r l e =
      least_alike (mark_key table o) (key a o) a.positions _ _ _ _
      (λ h b. rw (row_held h b, row_from o h b) refl)
      (rw (row_held r l, row_from o r l) refl) refl
      (f r l (row_linked r l e))

unit_is : (side : Side) (x : ℕ) → is_written side ≡ true → if_written side x ≡ x
unit_is Held x e = absurd (false≢true e)
unit_is Written x e = refl

-- Marks and unit margins stored row by row.
module _ (a : Account) (old : List ℕ) where
  pub marked_none : Marked a 0 old old
  marked_none =
      record {
        marks = λ r (l : r < 0). absurd (omega arith);
        units = λ r (l : r < 0). absurd (omega arith);
        lines = λ i l. refl;
      }

  module _ (m : ℕ) (was : List ℕ) (row : m < 256) (room : 1024 ≤ length was) (f : Marked a m old was) where
    pub marked_more : (fits : Bool) (p : Position) (x u : ℕ) → p ≡ a.position_at m → fits ≡ fits_lanes a m → x ≡ mark_of fits p → u ≡ if_written p.side (unit_margin (a.series_at p.series) p)
        → Marked a (m + 1) old (set (set was m x) (768 + m) u)
    marked_more fits p x u ep em ex eu =
        record {
          marks = λ r l. marks r (newest r m l);
          units = λ r l. units r (newest r m l);
          lines = λ i l. other i (λ (q : i ≡ m). omega arith) (λ (q : i ≡ 768 + m). omega arith) ∙ f.lines i l;
        }
      where
        new : List ℕ
        new = set (set was m x) (768 + m) u

        other : (i : ℕ) → (i ≡ m → ⊥) → (i ≡ 768 + m → ⊥) → nth new i ≡ nth was i
        other i y z = get_or-set_other (set was m x) (768 + m) i u 0 z ∙ get_or-set_other was m i x 0 y

        marks : (r : ℕ) → (r ≡ m) ⊎ (r < m) → nth new r ≡ mark_of (fits_lanes a r) (a.position_at r)
        marks r (inl q) =
            rw q
            (get_or-set_other (set was m x) (768 + m) m u 0 (λ (q : m ≡ 768 + m). omega arith)
            ∙ get_or-set_same was m x 0 (omega arith) ∙ ex ∙ ap₂ mark_of em ep)
        marks r (inr l) = other r (λ (q : r ≡ m). omega arith) (λ (q : r ≡ 768 + m). omega arith) ∙ f.marks r l

        units : (r : ℕ) → (r ≡ m) ⊎ (r < m) → nth new (768 + r) ≡ if_written (a.position_at r).side (unit_margin (series_of_row a r) (a.position_at r))
        units r (inl q) =
            rw q
            (get_or-set_same (set was m x) (768 + m) u 0 (simp length-set (omega arith))
            ∙ eu ∙ ap (λ (y : Position). if_written y.side (unit_margin (a.series_at y.series) y)) ep)
        units r (inr l) = other (768 + r) (λ (q : 768 + r ≡ m). omega arith) (λ (q : 768 + r ≡ 768 + m). omega arith) ∙ f.units r l

pub table_filled : (a : Account) → Ranged a → (old was new written : List ℕ) (n : ℕ) → 1280 ≤ length new → Marked a a.positions old was
    → Sorted was 1 written n a.positions → LinksFilled was new a.positions → TableFilled a old new written n
table_filled a ok old was new written n room f g h =
    record {
      table =
          record {
            room = room;
            marks = λ r l. same r l ∙ f.marks r l;
            units = λ r l e. h.rest (768 + r) (omega arith) ∙ f.units r l ∙ unit_is (a.position_at r).side _ e;
            up = links_as a ok was f.marks 256 new h.up;
            down = links_as a ok was f.marks 512 new h.down;
          };
      lines = λ i l. h.rest i (omega arith) ∙ f.lines i l;
      sorted = sorted_alike was 1 written n a.positions ok.rows_most g new same;
    }
  where
    same : (r : ℕ) → r < a.positions → nth new r ≡ nth was r
    same r l = h.marks r (omega (arith, ok.rows_most))
