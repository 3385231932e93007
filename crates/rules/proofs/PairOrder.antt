-- Document 01, Pairs: the order among pairs is a strict one, and of two pairs one comes before the other.
-- Assumes nothing.
use Prim.Native.Nat.{ℕ, ◌+◌, ◌*◌, ◌≤◌, ◌<◌}
use mathlib.Core.Bool.{Bool, true, false, ◌&&◌, ◌||◌, false≢true}
use mathlib.Core.Logic.{◌⊎◌, inl, inr}
use mathlib.Core.Path.{◌≡◌, sym, ◌∙◌}
use native.Mathlib.Omega.{arith}
use lib.Dec.{eqb, ltb}
use borrow.Author.Tests.{eqb-true, eq-eqb, le-ltb, lt-ltb, ltb-true}
use Rattle.rules.proofs.Tests.{both, either, refuted}
use Rattle.rules.specs.Limits.{most_positions}
use Rattle.rules.specs.Pairs.{Book, ahead}

-- Pair (w, h) with strike difference a comes before pair (v, g) with strike difference b.
pub data Before (a w h b v g : ℕ) : Type 0 where
  by_gap : a < b → Before a w h b v g
  by_written : a ≡ b → w < v → Before a w h b v g
  by_held : a ≡ b → w ≡ v → h < g → Before a w h b v g

-- The test of specs/ over plain numbers.
abbrev before : ℕ → ℕ → ℕ → ℕ → ℕ → ℕ → Bool
before a w h b v g = ltb a b || (eqb a b && (ltb w v || (eqb w v && ltb h g)))

before_true : (a w h b v g : ℕ) → before a w h b v g ≡ true → Before a w h b v g
before_true a w h b v g e = gaps (either (ltb a b) (eqb a b && (ltb w v || (eqb w v && ltb h g))) e)
  where
    rows : a ≡ b → (ltb w v ≡ true) ⊎ ((eqb w v && ltb h g) ≡ true) → Before a w h b v g
    rows d (inl l) = by_written d (ltb-true w v l)
    rows d (inr l) =
        let p = both (eqb w v) (ltb h g) l in
        by_held d (eqb-true w v p.0) (ltb-true h g p.1)

    gaps : (ltb a b ≡ true) ⊎ ((eqb a b && (ltb w v || (eqb w v && ltb h g))) ≡ true) → Before a w h b v g
    gaps (inl l) = by_gap (ltb-true a b l)
    gaps (inr l) =
        let p = both (eqb a b) (ltb w v || (eqb w v && ltb h g)) l in
        rows (eqb-true a b p.0) (either (ltb w v) (eqb w v && ltb h g) p.1)

true_before : (a w h b v g : ℕ) → Before a w h b v g → before a w h b v g ≡ true
true_before a w h b v g (by_gap l) = rw (lt-ltb a b l)
true_before a w h b v g (by_written d l) =
    rw (le-ltb a b (omega arith), eq-eqb a b d, lt-ltb w v l)
true_before a w h b v g (by_held d e l) =
    rw (le-ltb a b (omega arith), eq-eqb a b d, le-ltb w v (omega arith), eq-eqb w v e, lt-ltb h g l)

-- A pair that comes before a second, which comes before a third, comes before the third.
before_trans : {a w h b v g c u f : ℕ} → Before a w h b v g → Before b v g c u f → Before a w h c u f
before_trans (by_gap l) (by_gap l') = by_gap (omega arith)
before_trans (by_gap l) (by_written d l') = by_gap (omega arith)
before_trans (by_gap l) (by_held d e l') = by_gap (omega arith)
before_trans (by_written d l) (by_gap l') = by_gap (omega arith)
before_trans (by_written d l) (by_written d' l') = by_written (omega arith) (omega arith)
before_trans (by_written d l) (by_held d' e l') = by_written (omega arith) (omega arith)
before_trans (by_held d e l) (by_gap l') = by_gap (omega arith)
before_trans (by_held d e l) (by_written d' l') = by_written (omega arith) (omega arith)
before_trans (by_held d e l) (by_held d' e' l') = by_held (omega arith) (omega arith) (omega arith)

before_self : (a w h : ℕ) → Before a w h a w h → ⊥
before_self a w h (by_gap l) = omega arith
before_self a w h (by_written d l) = omega arith
before_self a w h (by_held d e l) = omega arith

-- Of two different pairs one comes before the other.
before_neither : (a w h b v g : ℕ) → ¬ Before a w h b v g → ¬ Before b v g a w h → (w ≡ v) × (h ≡ g)
before_neither a w h b v g p q =
    let gap₁ : ¬ (a < b) = λ l. p (by_gap l) in
    let gap₂ : ¬ (b < a) = λ l. q (by_gap l) in
    let row₁ : ¬ (w < v) = λ l. p (by_written (omega arith) l) in
    let row₂ : ¬ (v < w) = λ l. q (by_written (omega arith) l) in
    let held₁ : ¬ (h < g) = λ l. p (by_held (omega arith) (omega arith) l) in
    let held₂ : ¬ (g < h) = λ l. q (by_held (omega arith) (omega arith) l) in
    (omega arith, omega arith)

-- A pair that the other is not before is at least as good in document 01's words.
pub not_before : (b v g a w h : ℕ) → ¬ Before b v g a w h → (a ≤ b) × (a ≡ b → (w ≤ v) × (w ≡ v → h ≤ g))
not_before b v g a w h p =
    let gap : ¬ (b < a) = λ l. p (by_gap l) in
    let row : a ≡ b → ¬ (v < w) = λ d l. p (by_written (sym d) l) in
    let held : a ≡ b → w ≡ v → ¬ (g < h) = λ d e l. p (by_held (sym d) (sym e) l) in
    (omega arith, λ d. (omega (arith, row d), λ e. omega (arith, held d e)))

module _ (k : Book) where
  pub ahead_true : (w h v g : ℕ) → ahead k w h v g ≡ true → Before (k.gap w h) w h (k.gap v g) v g
  ahead_true w h v g = before_true (k.gap w h) w h (k.gap v g) v g

  pub true_ahead : (w h v g : ℕ) → Before (k.gap w h) w h (k.gap v g) v g → ahead k w h v g ≡ true
  true_ahead w h v g = true_before (k.gap w h) w h (k.gap v g) v g

  pub ahead_self : (w h : ℕ) → ahead k w h w h ≡ false
  ahead_self w h = refuted _ (λ e. before_self (k.gap w h) w h (ahead_true w h w h e))

  -- What is not ahead of a pair is not ahead of a pair that comes before it.
  pub ahead_kept : (u f w h v g : ℕ) → ahead k u f v g ≡ false → ahead k w h v g ≡ true → ahead k u f w h ≡ false
  ahead_kept u f w h v g behind first =
      refuted _
      (λ e. false≢true (sym behind ∙ true_ahead u f v g (before_trans (ahead_true u f w h e) (ahead_true w h v g first))))

  pub ahead_neither : (w h v g : ℕ) → ahead k w h v g ≡ false → ahead k v g w h ≡ false → (w ≡ v) × (h ≡ g)
  ahead_neither w h v g p q =
      before_neither (k.gap w h) w h (k.gap v g) v g (λ b. false≢true (sym p ∙ true_ahead w h v g b))
      (λ b. false≢true (sym q ∙ true_ahead v g w h b))

-- Rows of an account: one number carries the strike difference and both rows, and its order is that of the pairs. A row
-- takes 8 bits of it, since there are at most 256.
abbrev pub rank : Book → ℕ → ℕ → ℕ
rank k w h = k.gap w h * 65_536 + w * 256 + h

pub rank_ahead : (k : Book) (w h v g : ℕ) → w < most_positions → h < most_positions → v < most_positions → g < most_positions
    → rank k w h ≤ rank k v g → ahead k v g w h ≡ false
rank_ahead k w h v g wl hl vl gl l = refuted _ (λ e. no_way (ahead_true k v g w h e))
  where
    no_way : Before (k.gap v g) v g (k.gap w h) w h → ⊥
    no_way (by_gap b) = omega arith
    no_way (by_written d b) = omega arith
    no_way (by_held d e b) = omega arith
