-- A cursor at its start, and moved along its link; what falling contracts leave true.
-- Assumes nothing.
use Prim.Native.Nat.{ℕ, ◌+◌, ◌%◌, ◌≤◌, ◌<◌}
use mathlib.Core.Bool.{true, false}
use mathlib.Core.List.{List}
use mathlib.Core.Logic.{◌⊎◌, inl, inr}
use mathlib.Core.Path.{◌≡◌, refl, sym, subst, ap, ◌∙◌}
use native.Mathlib.Omega.{arith}
use borrow.Author.Tests.{eq-eqb}
use Rattle.lanes.proofs.FileFacts.{Ranged}
use Rattle.lanes.proofs.KeyLaws.{key_below, key_is, key_row, key_some, link_from_is, one_group, top_most}
use Rattle.lanes.specs.Keys.{LeastKey, Links, family, fits_lanes, from, in_lanes, key, link_from, none, pairs_as_held, pairs_as_written, start, top}
use Rattle.numbers.proofs.Order.{split}
use Rattle.numbers.specs.Lists.{nth}
use Rattle.pairing.specs.Cursors.{Cursor, Kept, Meets, Open, Places, Ranked, distance}
use Rattle.pairing.specs.Standings.{Alike}
use Rattle.pairing.specs.declared.Standing.{Standing}
use Rattle.rules.proofs.Tests.{both}
use Rattle.rules.specs.File.{Account}
use Rattle.rules.specs.Pairs.{is_held, is_written, may_be_paired}

module _ (a : Account) (ok : Ranged a) (left : List ℕ) (w : ℕ) (lw : w < a.positions) where
  -- The row at a cursor is in the lanes.
  cursor_lane : (o u : ℕ) → Cursor a left o w u → u < top a o w → in_lanes a (u % 256) ≡ true
  cursor_lane o u c t = key_some a ok o (u % 256) (omega (arith, c.is_key t, top_most a ok o w lw))

  pub cursor_key : (o u : ℕ) → Cursor a left o w u → u < top a o w → from a o (u % 256) + u % 256 ≡ u
  cursor_key o u c t = sym (key_is a ok o (u % 256) (cursor_lane o u c t)) ∙ c.is_key t

  pub cursor_group : (o u : ℕ) → Cursor a left o w u → u < top a o w
      → ((a.position_at w).series ≡ (a.position_at (u % 256)).series) × (family (a.position_at w) ≡ family (a.position_at (u % 256)))
  cursor_group o u c t =
      let k = cursor_key o u c t in
      one_group a ok o w (u % 256) lw (c.row t) (omega (arith, c.after t)) (omega arith)

  -- It meets all that is asked before the margins are compared.
  pub cursor_meets : (o u : ℕ) → Cursor a left o w u → u < top a o w → pairs_as_written (a.position_at w) ≡ true → Meets a w (u % 256)
  cursor_meets o u c t written =
      let h = u % 256 in
      let x = both (is_written (a.position_at w).side) (may_be_paired (a.position_at w)) written in
      let z = both (pairs_as_held (a.position_at h)) (fits_lanes a h) (cursor_lane o u c t) in
      let y = both (is_held (a.position_at h).side) (may_be_paired (a.position_at h)) z.0 in
      let series = (cursor_group o u c t).0 in
      rw (x.0, x.1, y.0, y.1, eq-eqb (a.position_at w).series (a.position_at h).series series) refl

  -- The least key v from a bound `from` on, where no open pair of the row lies between its start and the bound.
  from_least : (o lo v : ℕ) → start a o w ≤ lo → LeastKey (key a o) a.positions lo v
      → ((h : ℕ) → h < a.positions → Open a left w h → start a o w ≤ key a o h → lo ≤ key a o h)
      → Cursor a left o w v
  from_least o lo v s f skipped =
      record {
        passed = λ h l e b. f.lowest h l (skipped h l e b);
        after = λ t. omega (arith, f.at_least (some t));
        row = λ t. let k = f.is_key (some t) in rw (is_row t) k.1;
        is_key = λ t. let k = f.is_key (some t) in rw (is_row t) k.2;
      }
    where
      some : v < top a o w → v < none
      some t = omega (arith, top_most a ok o w lw)

      is_row : (t : v < top a o w) → v % 256 ≡ (f.is_key (some t)).0
      is_row t =
          let k = f.is_key (some t) in
          ap (λ x. x % 256) (sym k.2) ∙ key_row a ok o k.0 k.1 (rw k.2 (some t))

  pub cursor_starts : (o : ℕ) (table : List ℕ) → pairs_as_held (a.position_at w) ≡ false → pairs_as_written (a.position_at w) ≡ true → Links a o table
      → Cursor a left o w (nth table (o + w))
  cursor_starts o table out pairs f =
      from_least o (start a o w) (nth table (o + w)) (omega arith) (rw out at (f w lw (rw (out, pairs) refl))) (λ h l e b. b)

  module _ (o : ℕ) (table : List ℕ) (f : Links a o table) (u : ℕ) (c : Cursor a left o w u) (t : u < top a o w) where
    bound : link_from a o (u % 256) ≡ u + 1
    bound = link_from_is a ok o (u % 256) (cursor_lane o u c t) ∙ ap (λ x. x + 1) (cursor_key o u c t)

    next : LeastKey (key a o) a.positions (u + 1) (nth table (o + u % 256))
    next = rw (sym bound) (f (u % 256) (c.row t) (rw (cursor_lane o u c t) refl))

    -- The row at u makes no open pair: the next key takes its place.
    pub cursor_moves : (Open a left w (u % 256) → ⊥) → Cursor a left o w (nth table (o + u % 256))
    cursor_moves shut = from_least o (u + 1) (nth table (o + u % 256)) (omega (arith, c.after t)) next skipped
      where
        skipped : (h : ℕ) → h < a.positions → Open a left w h → start a o w ≤ key a o h → u + 1 ≤ key a o h
        skipped h l e b =
            let k = key_below a ok o w h lw l e.may_pair_lem e.unblocked b in
            let r = key_row a ok o h l (omega (arith, top_most a ok o w lw)) in
            let other : u ≡ key a o h → ⊥ = λ q. shut (subst (Open a left w) (sym r ∙ ap (λ x. x % 256) (sym q)) e) in
            omega (arith, c.passed h l e b)

    pub cursor_rises : u < nth table (o + u % 256)
    cursor_rises = go (split (nth table (o + u % 256)) none)
      where
        go : (nth table (o + u % 256) < none) ⊎ (none ≤ nth table (o + u % 256)) → u < nth table (o + u % 256)
        go (inl s) = omega (arith, next.at_least s)
        go (inr s) = omega (arith, top_most a ok o w lw)

-- Contracts left that fall.
abbrev pub Falls : Account → List ℕ → List ℕ → Type 0
Falls a left left' = (r : ℕ) → r < a.positions → nth left' r ≤ nth left r

module _ (a : Account) (left left' : List ℕ) (fall : Falls a left left') (w : ℕ) where
  pub open_falls : (h : ℕ) → h < a.positions → Open a left' w h → Open a left w h
  open_falls h l e = record { may_pair_lem = e.may_pair_lem; held_left = omega (arith, e.held_left, fall h l); unblocked = e.unblocked }

  cursor_falls : (o u : ℕ) → Cursor a left o w u → Cursor a left' o w u
  cursor_falls o u c =
      record {
        passed = λ h l e b. c.passed h l (open_falls h l e) b;
        after = c.after;
        row = c.row;
        is_key = c.is_key;
      }

  ranked_falls : (r : ℕ) → Ranked a left w r → Ranked a left' w r
  ranked_falls r k =
      record {
        lowest = λ t h l e. k.lowest t h l (open_falls h l e);
        row = k.row;
        is_rank = k.is_rank;
        shut = λ t h l e. k.shut t h l (open_falls h l e);
        above = k.above;
      }

  pub kept_falls : (t : Standing) → Kept a left w t → Kept a left' w t
  kept_falls t k =
      record {
        ranked = ranked_falls t.rank k.ranked;
        told = k.told;
        places =
            λ s. let p = k.places s in
            record { up = cursor_falls 256 t.up p.up; down = cursor_falls 512 t.down p.down; written = p.written };
        rank_at_lem = k.rank_at_lem;
      }

-- The next row of a line takes over its places.
module _ (a : Account) (left : List ℕ) (v w : ℕ) (same : Alike a v w) where
  pub open_alike : (h : ℕ) → Open a left w h → Open a left v h
  open_alike h e = record { may_pair_lem = same.may h ∙ e.may_pair_lem; held_left = e.held_left; unblocked = e.unblocked }

  cursor_alike : (o u : ℕ) → Cursor a left o v u → Cursor a left o w u
  cursor_alike o u c =
      record {
        passed = λ h l e b. c.passed h l (open_alike h e) (omega (arith, same.starts o));
        after = λ t. omega (arith, same.starts o, c.after (below t));
        row = λ t. c.row (below t);
        is_key = λ t. c.is_key (below t);
      }
    where
      below : u < top a o w → u < top a o v
      below t = omega (arith, same.tops o)

  pub distance_alike : (o u : ℕ) → distance a o v u ≡ distance a o w u
  distance_alike o u =
      let f : from a o v ≡ from a o w = omega (arith, same.starts o) in
      rw (f, same.tops o) refl

  pub places_alike : (up down : ℕ) → Places a left v up down → Places a left w up down
  places_alike up down p =
      record { up = cursor_alike 256 up p.up; down = cursor_alike 512 down p.down; written = same.written }
