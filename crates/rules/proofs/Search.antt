-- Document 01, Pairs: the pair to make next is allowed, no allowed pair is ahead of it, and it is the only such pair.
-- Assumes nothing.
use Prim.Native.Nat.{ℕ, zero, suc, ◌≤◌, ◌<◌}
use mathlib.Core.Bool.{Bool, true, false, cond, ◌&&◌, true≢false}
use mathlib.Core.Logic.{◌⊎◌, inl, inr}
use mathlib.Core.Path.{◌≡◌, refl, sym, subst, ◌∙◌}
use native.Mathlib.Nat.{eq-or-lt_of_le, le_of_suc-le-suc}
use native.Mathlib.Omega.{arith}
use lib.Dec.{ltb}
use borrow.Author.Tests.{lt-ltb, ltb-true}
use Rattle.rules.proofs.Tests.{both, refuted}
use Rattle.rules.proofs.PairOrder.{ahead_kept, ahead_neither, ahead_self, not_before, rank, rank_ahead, true_ahead}
use Rattle.rules.specs.Limits.{most_positions}
use Rattle.rules.specs.Pairs.{Book, ahead, ahead_of, allowed, along, choice, look, through}
use Rattle.std.specs.Prelude.{Option, Some, None}

-- What a search that has looked at the pairs `seen` holds: one of them that is allowed and that no allowed one of them
-- is ahead of; or none, where none of them is allowed.
abbrev Found : Book → (ℕ → ℕ) → (ℕ → ℕ → Type 0) → Option (ℕ × ℕ) → Type 0
Found k left seen None = (v g : ℕ) → seen v g → allowed k left v g ≡ false
Found k left seen (Some (w, h)) =
    seen w h
    × (allowed k left w h ≡ true)
    × ((v g : ℕ) → seen v g → allowed k left v g ≡ true → ahead k v g w h ≡ false)

-- The pairs of `seen`, and (w, h).
abbrev And : (ℕ → ℕ → Type 0) → ℕ → ℕ → ℕ → ℕ → Type 0
And seen w h v g = seen v g ⊎ ((v ≡ w) × (g ≡ h))

module _ (k : Book) (left : ℕ → ℕ) where
  found_as : {P Q : ℕ → ℕ → Type 0}
      → ((v g : ℕ) → P v g → Q v g) → ((v g : ℕ) → Q v g → P v g) → (c : Option (ℕ × ℕ)) → Found k left P c → Found k left Q c
  found_as there back None f = λ v g q. f v g (back v g q)
  found_as there back (Some (w, h)) f = (there w h f.0, f.1, λ v g q. f.2 v g (back v g q))

  -- Pair (w, h) is allowed and ahead of what was found before it.
  look_takes : (P : ℕ → ℕ → Type 0) (w h : ℕ) (c : Option (ℕ × ℕ))
      → allowed k left w h ≡ true → ahead_of k w h c ≡ true → Found k left P c → Found k left (And P w h) (Some (w, h))
  look_takes P w h None a b f = (inr (refl, refl), a, go)
    where
      go : (v g : ℕ) → And P w h v g → allowed k left v g ≡ true → ahead k v g w h ≡ false
      go v g (inl p) e = absurd (true≢false (sym e ∙ f v g p))
      go v g (inr p) e = rw (p.0, p.1) (ahead_self k w h)
  look_takes P w h (Some (u, d)) a b f = (inr (refl, refl), a, go)
    where
      go : (v g : ℕ) → And P w h v g → allowed k left v g ≡ true → ahead k v g w h ≡ false
      go v g (inl p) e = ahead_kept k v g w h u d (f.2 v g p e) b
      go v g (inr p) e = rw (p.0, p.1) (ahead_self k w h)

  -- It is not allowed, or not ahead of what was found before it.
  look_keeps : (P : ℕ → ℕ → Type 0) (w h : ℕ) (c : Option (ℕ × ℕ))
      → (allowed k left w h ≡ true → ahead_of k w h c ≡ false) → Found k left P c → Found k left (And P w h) c
  look_keeps P w h None n f = go
    where
      go : (v g : ℕ) → And P w h v g → allowed k left v g ≡ false
      go v g (inl p) = f v g p
      go v g (inr p) = rw (p.0, p.1) (refuted _ (λ e. true≢false (n e)))
  look_keeps P w h (Some (u, d)) n f = (inl f.0, f.1, go)
    where
      go : (v g : ℕ) → And P w h v g → allowed k left v g ≡ true → ahead k v g u d ≡ false
      go v g (inl p) e = f.2 v g p e
      go v g (inr p) e = rw (p.0, p.1) (n (rw (p.0, p.1) at e))

  look_found : (P : ℕ → ℕ → Type 0) (w h : ℕ) (c : Option (ℕ × ℕ)) → Found k left P c → Found k left (And P w h) (look k left w h c)
  look_found P w h c f = go (allowed k left w h) (ahead_of k w h c) refl refl
    where
      go : (x y : Bool) → allowed k left w h ≡ x → ahead_of k w h c ≡ y → Found k left (And P w h) (cond (x && y) (Some (w, h)) c)
      go true true a b = look_takes P w h c a b f
      go true false a b = look_keeps P w h c (λ e. b) f
      go false y a b = look_keeps P w h c (λ e. absurd (true≢false (sym e ∙ a))) f

  along_found : (P : ℕ → ℕ → Type 0) (w n : ℕ) (c : Option (ℕ × ℕ)) → Found k left P c
      → Found k left (λ v g. P v g ⊎ ((v ≡ w) × (g < n))) (along k left w n c)
  unfolding along
  along_found P w zero c f = found_as (λ v g p. inl p) back c f
    where
      back : (v g : ℕ) → P v g ⊎ ((v ≡ w) × (g < 0)) → P v g
      back v g (inl p) = p
      back v g (inr p) = absurd (omega arith)
  along_found P w (suc n) c f =
      found_as there back (along k left w (suc n) c) (look_found _ w n (along k left w n c) (along_found P w n c f))
    where
      there : (v g : ℕ) → And (λ v g. P v g ⊎ ((v ≡ w) × (g < n))) w n v g → P v g ⊎ ((v ≡ w) × (g < suc n))
      there v g (inl (inl p)) = inl p
      there v g (inl (inr p)) = inr (p.0, omega arith)
      there v g (inr p) = inr (p.0, omega arith)

      newest : (v g : ℕ) → v ≡ w → (g ≡ n) ⊎ (g < n) → And (λ v g. P v g ⊎ ((v ≡ w) × (g < n))) w n v g
      newest v g e (inl l) = inr (e, l)
      newest v g e (inr l) = inl (inr (e, l))

      back : (v g : ℕ) → P v g ⊎ ((v ≡ w) × (g < suc n)) → And (λ v g. P v g ⊎ ((v ≡ w) × (g < n))) w n v g
      back v g (inl p) = inl (inl p)
      back v g (inr p) = newest v g p.0 (eq-or-lt_of_le (le_of_suc-le-suc p.1))

  through_found : (n : ℕ) → Found k left (λ v g. (v < n) × (g < k.rows)) (through k left n)
  unfolding through
  through_found zero = λ v g p. absurd (omega arith)
  through_found (suc n) =
      found_as there back (through k left (suc n)) (along_found _ n k.rows (through k left n) (through_found n))
    where
      there : (v g : ℕ) → ((v < n) × (g < k.rows)) ⊎ ((v ≡ n) × (g < k.rows)) → (v < suc n) × (g < k.rows)
      there v g (inl p) = (omega arith, p.1)
      there v g (inr p) = (omega arith, p.1)

      newest : (v g : ℕ) → g < k.rows → (v ≡ n) ⊎ (v < n) → ((v < n) × (g < k.rows)) ⊎ ((v ≡ n) × (g < k.rows))
      newest v g l (inl e) = inr (e, l)
      newest v g l (inr e) = inl (e, l)

      back : (v g : ℕ) → (v < suc n) × (g < k.rows) → ((v < n) × (g < k.rows)) ⊎ ((v ≡ n) × (g < k.rows))
      back v g p = newest v g p.1 (eq-or-lt_of_le (le_of_suc-le-suc p.0))

  choice_found : Found k left (λ v g. (v < k.rows) × (g < k.rows)) (choice k left)
  choice_found = through_found k.rows

-- A pair of rows of the book that is allowed.
pub record Allowed (k : Book) (left : ℕ → ℕ) (w h : ℕ) : Type 0 where
  pub written_below : w < k.rows
  pub held_below : h < k.rows
  pub may_pair_lem : k.may w h ≡ true
  pub written_left : 1 ≤ left w
  pub held_left : 1 ≤ left h

pub allowed_is : (k : Book) (left : ℕ → ℕ) (w h : ℕ) → w < k.rows → h < k.rows
    → allowed k left w h ≡ true → Allowed k left w h
allowed_is k left w h lw lh e =
    let may = both (k.may w h) (ltb 0 (left w) && ltb 0 (left h)) e in
    let some = both (ltb 0 (left w)) (ltb 0 (left h)) may.1 in
    record {
      written_below = lw;
      held_below = lh;
      may_pair_lem = may.0;
      written_left = ltb-true 0 (left w) some.0;
      held_left = ltb-true 0 (left h) some.1;
    }

pub is_allowed : (k : Book) (left : ℕ → ℕ) (w h : ℕ) → Allowed k left w h → allowed k left w h ≡ true
is_allowed k left w h a = rw (a.may_pair_lem, lt-ltb 0 (left w) a.written_left, lt-ltb 0 (left h) a.held_left)

module _ (k : Book) (left : ℕ → ℕ) where
  found : {c : Option (ℕ × ℕ)} → choice k left ≡ c → Found k left (λ v g. (v < k.rows) × (g < k.rows)) c
  found e = subst (Found k left (λ v g. (v < k.rows) × (g < k.rows))) e (choice_found k left)

  pub choice_allowed : {w h : ℕ} → choice k left ≡ Some (w, h) → Allowed k left w h
  choice_allowed {w} {h} e = let f = found e in allowed_is k left w h f.0.0 f.0.1 f.1

  -- No allowed pair is ahead of it.
  pub choice_first : {w h : ℕ} → choice k left ≡ Some (w, h)
      → (v g : ℕ) → v < k.rows → g < k.rows → allowed k left v g ≡ true → ahead k v g w h ≡ false
  choice_first e v g lv lg = (found e).2 v g (lv, lg)

  -- In document 01's words: the least strike difference, then the lowest written row, then the lowest held row.
  pub choice_least : {w h : ℕ} → choice k left ≡ Some (w, h)
      → (v g : ℕ) → v < k.rows → g < k.rows → allowed k left v g ≡ true
      → (k.gap w h ≤ k.gap v g) × (k.gap w h ≡ k.gap v g → (w ≤ v) × (w ≡ v → h ≤ g))
  choice_least {w} {h} e v g lv lg a =
      not_before (k.gap v g) v g (k.gap w h) w h
      (λ b. true≢false (sym (true_ahead k v g w h b) ∙ choice_first e v g lv lg a))

  -- None is found exactly if none is allowed.
  pub choice_none : choice k left ≡ None → (v g : ℕ) → v < k.rows → g < k.rows → allowed k left v g ≡ false
  choice_none e v g lv lg = found e v g (lv, lg)

  pub none_choice : ((v g : ℕ) → v < k.rows → g < k.rows → allowed k left v g ≡ false) → choice k left ≡ None
  none_choice none = go (choice k left) refl
    where
      go : (c : Option (ℕ × ℕ)) → choice k left ≡ c → c ≡ None
      go None e = refl
      go (Some (w, h)) e = let f = found e in absurd (true≢false (sym f.1 ∙ none w h f.0.0 f.0.1))

  -- An allowed pair that no allowed pair is ahead of is the one that is found.
  pub choice_only : (w h : ℕ) → w < k.rows → h < k.rows → allowed k left w h ≡ true
      → ((v g : ℕ) → v < k.rows → g < k.rows → allowed k left v g ≡ true → ahead k v g w h ≡ false)
      → choice k left ≡ Some (w, h)
  choice_only w h lw lh a first = go (choice k left) refl
    where
      go : (c : Option (ℕ × ℕ)) → choice k left ≡ c → c ≡ Some (w, h)
      go None e = absurd (true≢false (sym a ∙ found e w h (lw, lh)))
      go (Some (v, g)) e =
          let f = found e in
          let same = ahead_neither k v g w h (first v g f.0.0 f.0.1 f.1) (f.2 w h (lw, lh) a) in
          rw (same.0, same.1)

-- An account of at most 256 rows: an allowed pair of the lowest rank is the one that is found.
pub choice_ranked : (k : Book) (left : ℕ → ℕ) → k.rows ≤ most_positions
    → (w h : ℕ) → w < k.rows → h < k.rows → allowed k left w h ≡ true
    → ((v g : ℕ) → v < k.rows → g < k.rows → allowed k left v g ≡ true → rank k w h ≤ rank k v g)
    → choice k left ≡ Some (w, h)
choice_ranked k left few w h lw lh a lowest =
    choice_only k left w h lw lh a
    (λ v g lv lg b. rank_ahead k w h v g (omega arith) (omega arith) (omega arith) (omega arith) (lowest v g lv lg b))

-- Contracts left that are the same in each row of the book find the same pair.
pub choice_same : (k : Book) (left left' : ℕ → ℕ) → ((r : ℕ) → r < k.rows → left r ≡ left' r)
    → choice k left ≡ choice k left'
choice_same k left left' same = sym (go (choice k left) refl)
  where
    alike : (v g : ℕ) → v < k.rows → g < k.rows → allowed k left' v g ≡ allowed k left v g
    alike v g lv lg = rw (same v lv, same g lg)

    go : (c : Option (ℕ × ℕ)) → choice k left ≡ c → choice k left' ≡ c
    go None e = none_choice k left' (λ v g lv lg. alike v g lv lg ∙ choice_none k left e v g lv lg)
    go (Some (w, h)) e =
        let a = choice_allowed k left e in
        choice_only k left' w h a.written_below a.held_below
        (alike w h a.written_below a.held_below ∙ is_allowed k left w h a)
        (λ v g lv lg t. choice_first k left e v g lv lg (sym (alike v g lv lg) ∙ t))
