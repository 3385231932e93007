-- The search of a row for its nearest pair, step by step.
-- Assumes nothing.
use Prim.Native.Nat.{ℕ, ◌+◌, ◌*◌, ◌-◌, ◌%◌, ◌≤◌, ◌<◌, min}
use mathlib.Core.Bool.{true, ◌&&◌, true≢false}
use mathlib.Core.List.{List}
use mathlib.Core.Logic.{◌⊎◌, inl, inr}
use mathlib.Core.Path.{◌≡◌, refl, sym, ap, ◌∙◌}
use native.Mathlib.Omega.{arith}
use borrow.Author.Tests.{le-ltb, lt-ltb}
use Rattle.account.specs.Accepted.{account_in}
use Rattle.lanes.proofs.FileFacts.{Ranged, ranged, row_range}
use Rattle.lanes.proofs.KeyLaws.{top_most}
use Rattle.lanes.proofs.MarkLaws.{mark_from_lem, mark_most, mark_top_lem}
use Rattle.lanes.specs.Keys.{fits_lanes, from, none, pairs_as_written, top}
use Rattle.lanes.specs.Marks.{mark_from, mark_of, mark_top}
use Rattle.numbers.proofs.Order.{split}
use Rattle.numbers.specs.Lists.{nth}
use Rattle.pairing.proofs.CursorLaws.{cursor_meets, cursor_moves, cursor_rises}
use Rattle.pairing.proofs.FileFacts.{spread_most}
use Rattle.pairing.proofs.RankLaws.{distance_below, distance_most, distance_row, down_found, down_near, gap_most, up_found, up_near}
use Rattle.pairing.specs.Cursors.{Answer, Answered, Asked, Cursor, DistanceAsked, Found, Kept, Live, Meets, Open, Reading, Shut, SkipAsked, Skipped, Told, distance, distance_to, idle, rank_from, spread_at}
use Rattle.pairing.specs.declared.Standing.{Standing}
use Rattle.pairing.specs.declared.Written.{Written}
use Rattle.pairing.specs.declared.rows_now.RowsNow.{RowsNow}
use Rattle.rules.proofs.PairOrder.{rank}
use Rattle.rules.proofs.Tests.{both}
use Rattle.rules.specs.File.{Account, account_of, series_of_row}
use Rattle.rules.specs.OnePosition.{normal, unit_margin}
use Rattle.rules.specs.Pairs.{book_of, gap_of, is_written, lowers, may_be_paired, may_of}
use Rattle.rules.specs.Spreads.{spread_between, unit_spread}
use Rattle.rules.specs.declared.Layout.{Layout}
use Rattle.rules.specs.declared.Position.{Position}
use Rattle.rules.specs.declared.Series.{Series}
use Rattle.rules.specs.declared.Terms.{Terms}
use Rattle.spreads.proofs.ChargeLaws.{charge_lowers, charge_not}
use Rattle.spreads.specs.Charges.{charge_of}

-- The question as the code asks it.
pub answered : (b : List ℕ) (l : Layout) (w : Written) (h : ℕ) → Asked b l w h → (held : Position) (n : Terms)
    → held ≡ (account_of b l).position_at h → n ≡ normal held → (x : ℕ)
    → x ≡ charge_of w.unit (spread_between w.series n w.terms) → Answered (account_of b l) w.row h w.unit x
unfolding may_of unit_spread
answered b l w h asked held n eh en x e =
    let a = account_of b l in
    let f = asked.reading in
    let U = unit_margin (series_of_row a w.row) (a.position_at w.row) in
    let S = unit_spread (series_of_row a w.row) (a.position_at h) (a.position_at w.row) in
    let is : x ≡ charge_of U S = e ∙ rw (f.series_is, f.terms_is, en, eh, f.unit_is) refl in
    let may : may_of a w.row h ≡ lowers U S = ap (λ y. y && lowers U S) asked.meets in
    record {
      yes = λ s. let k = charge_lowers U S (omega (arith, is, f.unit_is)) in (may ∙ k.0, is ∙ k.1);
      no = λ s q. true≢false (sym q ∙ may ∙ charge_not U S (omega (arith, is, f.unit_is)));
    }

-- Spent rows passed over; u is where the cursor stands.
module _ (rows : RowsNow) (o w first t : ℕ) (s : SkipAsked rows o w first t)
    (u : ℕ) (c : Cursor (account_in rows.file) rows.left.now o w u) (later : first ≤ u) where
  skip_ranged : Ranged (account_in rows.file)
  skip_ranged = ranged rows.file.bytes.now rows.file.layout rows.rests.file

  pub skip_end : t ≤ u → Skipped (account_in rows.file) rows.left.now o w first u
  skip_end q = record { cursor = c; live = λ z. absurd (omega (arith, s.top_is)); later = later }

  pub skip_stops : 1 ≤ nth rows.left.now (u % 256) → Skipped (account_in rows.file) rows.left.now o w first u
  skip_stops q = record { cursor = c; live = λ z. q; later = later }

  module _ (q : u < t) where
    below : u < top (account_in rows.file) o w
    below = omega (arith, s.top_is)

    pub skip_row : u % 256 < rows.file.layout.positions
    skip_row = c.row below

    pub skip_moves : nth rows.left.now (u % 256) ≤ 0 → Cursor (account_in rows.file) rows.left.now o w (nth rows.table.now (o + u % 256))
    skip_moves z =
        cursor_moves (account_in rows.file) skip_ranged rows.left.now w s.row o rows.table.now s.links u c below
        (λ e. omega (arith, e.held_left))

    pub skip_rises : (u < nth rows.table.now (o + u % 256)) × (u < none)
    skip_rises = (
      cursor_rises (account_in rows.file) skip_ranged rows.left.now w s.row o rows.table.now s.links u c below,
      omega (arith, below, top_most (account_in rows.file) skip_ranged o w s.row),
    )

-- A distance, return by return.
module _ (o x u t f : ℕ) (et : t ≡ mark_top o x) where
  pub distance_here : f ≡ mark_from o x → u < t → u - f ≡ distance_to u (mark_from o x) (mark_top o x)
  distance_here ef q = rw (sym et, lt-ltb u t q, ef) refl

  pub distance_none : t ≤ u → none ≡ distance_to u f (mark_top o x)
  distance_none q = rw (sym et, le-ltb u t q) refl

-- Top, start and distance from the mark of row w.
module _ (rows : RowsNow) (w : ℕ) (row : w < rows.file.layout.positions) (o : ℕ) where
  mark : nth rows.table.now w ≡ mark_of (fits_lanes (account_in rows.file) w) ((account_in rows.file).position_at w)
  mark = rows.rests.filled.marks w row

  pub top_marked : mark_top o (nth rows.table.now w) ≡ top (account_in rows.file) o w
  top_marked =
      rw mark (mark_top_lem (fits_lanes (account_in rows.file) w) ((account_in rows.file).position_at w) (row_range (account_in rows.file) (ranged rows.file.bytes.now rows.file.layout rows.rests.file) w row) o)

  pub distance_asked : (u : ℕ) → Cursor (account_in rows.file) rows.left.now o w u → DistanceAsked o (nth rows.table.now w) u
  distance_asked u c =
      let r = row_range (account_in rows.file) (ranged rows.file.bytes.now rows.file.layout rows.rests.file) w row in
      let e : mark_from o (nth rows.table.now w) ≡ from (account_in rows.file) o w = rw mark (mark_from_lem (fits_lanes (account_in rows.file) w) ((account_in rows.file).position_at w) r o) in
      record {
        mark_most = rw mark (mark_most (fits_lanes (account_in rows.file) w) ((account_in rows.file).position_at w) r);
        reached = λ q. let z = c.after (omega (arith, top_marked)) in omega (arith, e);
      }

  pub distance_marked : (u x : ℕ) → x ≡ distance_to u (mark_from o (nth rows.table.now w)) (mark_top o (nth rows.table.now w)) → x ≡ distance (account_in rows.file) o w u
  distance_marked u x e =
      let r = row_range (account_in rows.file) (ranged rows.file.bytes.now rows.file.layout rows.rests.file) w row in
      let fits = fits_lanes (account_in rows.file) w in
      e ∙ rw (mark, mark_from_lem fits ((account_in rows.file).position_at w) r o, mark_top_lem fits ((account_in rows.file).position_at w) r o) refl

-- Row w as the code read it, once a search.
pub reading : (rows : RowsNow) (w : ℕ) (row : w < rows.file.layout.positions)
    → pairs_as_written ((account_in rows.file).position_at w) ≡ true → (p : Position) (t : Terms) (s : Series)
    → p ≡ (account_in rows.file).position_at w → t ≡ normal p → s ≡ (account_in rows.file).series_at p.series
    → Reading (account_in rows.file) (record { row = w; terms = t; series = s; unit = nth rows.table.now (768 + w) })
reading rows w row written p t s ep et es =
    let sides = both (is_written ((account_in rows.file).position_at w).side) (may_be_paired ((account_in rows.file).position_at w)) written in
    record {
      terms_is = et ∙ ap normal ep;
      series_is = es ∙ ap (λ (x : Position). (account_in rows.file).series_at x.series) ep;
      unit_is = rows.rests.filled.units w row sides.0;
      written = written;
    }

-- A row that has no open pair.
pub nothing_kept : (a : Account) (left : List ℕ) (w : ℕ) → Shut a left w → (t : Standing) → t.rank ≡ idle → Kept a left w t
nothing_kept a left w shut t e =
    record {
      ranked =
          record {
            lowest = λ q. absurd (omega arith);
            row = λ q. absurd (omega arith);
            is_rank = λ q. absurd (omega arith);
            shut = λ q. shut;
            above = λ q. omega arith;
          };
      told = λ q. absurd (omega arith);
      places = λ q. absurd (omega arith);
      rank_at_lem = λ q. absurd (omega arith);
    }

-- A lesser distance gives a lower rank.
pub rank_later : (w m n : ℕ) → m ≤ n → rank_from w m ≤ rank_from w n
rank_later w m n q = omega arith

rank_low : (r w m g h : ℕ) → h < 256 → r ≡ rank_from w m → m ≤ g * 256 + h → r ≤ g * 65_536 + w * 256 + h
rank_low r w m g h l e q = omega arith

-- Both cursors of row w at rows with contracts left, their distances x and y, and the lesser of them.
module _ (rows : RowsNow) (w : ℕ) (at : w < rows.file.layout.positions) (written : pairs_as_written ((account_in rows.file).position_at w) ≡ true)
    (first second u₀ d₀ u d x y m : ℕ) (cu : Skipped (account_in rows.file) rows.left.now 256 w u₀ u) (cd : Skipped (account_in rows.file) rows.left.now 512 w d₀ d)
    (lu : first ≤ u₀) (ld : second ≤ d₀)
    (ex : x ≡ distance (account_in rows.file) 256 w u) (ey : y ≡ distance (account_in rows.file) 512 w d) (em : m ≡ min x y) where
  abbrev a : Account
  a = account_in rows.file

  ok : Ranged a
  ok = ranged rows.file.bytes.now rows.file.layout rows.rests.file

  lw : w < a.positions
  lw = at

  below_256 : (h : ℕ) → h < a.positions → h < 256
  below_256 h l = omega (arith, ok.rows_most)

  near : (h : ℕ) → h < a.positions → Open a rows.left.now w h → m ≤ gap_of a w h * 256 + h
  near h l o = go (split (a.position_at h).terms.pe (a.position_at w).terms.pe)
    where
      go : ((a.position_at h).terms.pe < (a.position_at w).terms.pe) ⊎ ((a.position_at w).terms.pe ≤ (a.position_at h).terms.pe)
          → m ≤ gap_of a w h * 256 + h
      go (inl q) = omega (arith, down_near a ok rows.left.now w lw d y cd.cursor ey h l o q)
      go (inr q) = omega (arith, up_near a ok rows.left.now w lw u x cu.cursor ex h l o q)

  -- Where the look ends.
  ended : (t : Standing) → t.up ≡ u → t.down ≡ d → Kept a rows.left.now w t → Live rows.left.now t.rank → Found a rows.left.now w first second t
  ended t eu ed k live =
      record { kept = k; live = live; later_up = omega (arith, cu.later); later_down = omega (arith, cd.later) }

  pub nothing_near : none ≤ m → (t : Standing) → t.rank ≡ idle → t.up ≡ u → t.down ≡ d → Found a rows.left.now w first second t × Answer t
  nothing_near q t e eu ed =
      let k = nothing_kept a rows.left.now w (λ h l o. omega (arith, near h l o, gap_most a ok rows.left.now w lw h l, ok.rows_most)) t e in
      let past : t.rank < none → ⊥ = λ (z : t.rank < none). omega arith in
      (ended t eu ed k (λ z. absurd (past z)), λ z. absurd (past z))

  -- The nearer row.
  module _ (some : m < none) where
    up_row : x ≤ y → m % 256 ≡ u % 256
    up_row q =
        let e : m ≡ x = omega arith in
        rw e (distance_row a ok rows.left.now w lw 256 u x cu.cursor ex (omega arith) (inl refl))

    down_row : y < x → m % 256 ≡ d % 256
    down_row q =
        let e : m ≡ y = omega arith in
        rw e (distance_row a ok rows.left.now w lw 512 d y cd.cursor ey (omega arith) (inr refl))

    up_below : x ≤ y → u < top a 256 w
    up_below q = distance_below a ok rows.left.now w lw 256 u x cu.cursor ex (omega arith)

    down_below : y < x → d < top a 512 w
    down_below q = distance_below a ok rows.left.now w lw 512 d y cd.cursor ey (omega arith)

    -- It is a row with contracts left that meets what is asked before the margins are compared.
    pub record Nearer : Type 0 where
      pub row : m % 256 < a.positions
      pub meets : Meets a w (m % 256)
      pub held_left : 1 ≤ nth rows.left.now (m % 256)
      pub is_distance : m ≡ gap_of a w (m % 256) * 256 + m % 256
      pub most : m ≤ 4_000_000_000_000

    pub nearer : Nearer
    nearer = go (split y x)
      where
        go : (y < x) ⊎ (x ≤ y) → Nearer
        go (inl q) =
            let e : m ≡ y = omega arith in
            let r = down_row q in
            let t = down_below q in
            record {
              row = rw r (cd.cursor.row t);
              meets = rw r (cursor_meets a ok rows.left.now w lw 512 d cd.cursor t written);
              held_left = rw r (cd.live t);
              is_distance = e ∙ rw r (down_found a ok rows.left.now w lw d y cd.cursor ey (omega arith));
              most = omega (arith, distance_most a ok rows.left.now w lw 512 d y cd.cursor ey (omega arith));
            }
        go (inr q) =
            let e : m ≡ x = omega arith in
            let r = up_row q in
            let t = up_below q in
            record {
              row = rw r (cu.cursor.row t);
              meets = rw r (cursor_meets a ok rows.left.now w lw 256 u cu.cursor t written);
              held_left = rw r (cu.live t);
              is_distance = e ∙ rw r (up_found a ok rows.left.now w lw u x cu.cursor ex (omega arith));
              most = omega (arith, distance_most a ok rows.left.now w lw 256 u x cu.cursor ex (omega arith));
            }

    -- The rank, and what is told of its pair.
    pub ranked_here : (t : Standing) → t.rank ≡ rank_from w m → t.up ≡ u → t.down ≡ d
        → (t.spread < none → Told a w (m % 256) t.spread) → Found a rows.left.now w first second t
    ranked_here t er eu ed told =
        let h = m % 256 in
        let g = gap_most a ok rows.left.now w lw h nearer.row in
        let dist = nearer.is_distance in
        let is : t.rank ≡ rank (book_of a) w h = omega (arith, ok.rows_most) in
        let row : t.rank % 256 ≡ h = omega (arith, ok.rows_most) in
        let small : t.rank < none = omega (arith, ok.rows_most) in
        ended t eu ed
        (record {
          ranked =
              record {
                lowest = λ z v lv o. rank_low t.rank w m (gap_of a w v) v (below_256 v lv) er (near v lv o);
                row = λ z. rw row nearer.row;
                is_rank = λ z. rw row is;
                shut = λ z. absurd (omega arith);
                above = λ z. absurd (omega arith);
              };
          told = λ z q. rw row (told q);
          places = λ z. rw (eu, ed) (record { up = cu.cursor; down = cd.cursor; written = written });
          rank_at_lem = λ z. er ∙ rw (eu, ed, sym ex, sym ey) (ap (rank_from w) em);
        })
        (λ z. rw row nearer.held_left)

    module _ (charge unit : ℕ) (answer : Answered a w (m % 256) unit charge) where
      -- It may pair.
      pub found : charge < unit → (t : Standing) → t.rank ≡ rank_from w m → t.spread ≡ charge → t.up ≡ u → t.down ≡ d
          → Found a rows.left.now w first second t × Answer t
      found q t er es eu ed =
          let may = (answer.yes q).0 in
          let is : t.spread ≡ spread_at a w (m % 256) = es ∙ (answer.yes q).1 in (
            ranked_here t er eu ed (λ z. record { may_pair_lem = may; spread_is = is }),
            λ z. omega (arith, is, spread_most rows.file.bytes.now rows.file.layout rows.rests.file w (m % 256) lw may),
          )

      -- It may not: its cursor moves on.
      module _ (q : unit ≤ charge) where
        shut : (h : ℕ) → m % 256 ≡ h → Open a rows.left.now w h → ⊥
        shut h e o = answer.no q (rw e o.may_pair_lem)

        pub up_moves : x ≤ y → Cursor a rows.left.now 256 w (nth rows.table.now (256 + m % 256)) × (u < nth rows.table.now (256 + m % 256)) × (u < none)
        up_moves z =
            let t = up_below z in
            let f = rows.rests.filled.up in
            rw (up_row z) (
              cursor_moves a ok rows.left.now w lw 256 rows.table.now f u cu.cursor t (shut (u % 256) (up_row z)),
              cursor_rises a ok rows.left.now w lw 256 rows.table.now f u cu.cursor t,
              omega (arith, t, top_most a ok 256 w lw),
            )

        pub down_moves : y < x → Cursor a rows.left.now 512 w (nth rows.table.now (512 + m % 256)) × (d < nth rows.table.now (512 + m % 256)) × (d < none)
        down_moves z =
            let t = down_below z in
            let f = rows.rests.filled.down in
            rw (down_row z) (
              cursor_moves a ok rows.left.now w lw 512 rows.table.now f d cd.cursor t (shut (d % 256) (down_row z)),
              cursor_rises a ok rows.left.now w lw 512 rows.table.now f d cd.cursor t,
              omega (arith, t, top_most a ok 512 w lw),
            )
