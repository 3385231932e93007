-- What is answered, for every seed, every p and every buffer: the bytes of the file where seed, p and room are within their
-- limits, else 20 with row 0. And the two ways through the call, for code.
-- Assumes nothing.
use Prim.Native.Nat.{ℕ, ◌+◌, ◌*◌, ◌≤◌, ◌<◌}
use mathlib.Core.Bool.{Bool, true, false, cond, ◌||◌}
use mathlib.Core.List.{List, ◌++◌}
use mathlib.Core.Logic.{◌⊎◌, inl, inr}
use mathlib.Core.Path.{◌≡◌, refl, sym, ◌∙◌, ap}
use native.Mathlib.Omega.{arith}
use borrow.Author.Tests.{le-ltb, ltb-false}
use lib.Dec.{ltb}
use lib.ListN.{drop, length}
use Rattle.load.proofs.DrawLaws.{ranges_kept}
use Rattle.load.specs.Load.{LoadWithin, NoLoad, buffer_after, load_answer, load_file, load_size, most_seed, p_above, p_zero, room_below, seed_above, seed_zero, wrong_load}
use Rattle.rules.proofs.Tests.{lt_or_ge, neither}
use Rattle.rules.specs.Limits.{most_positions}
use Rattle.rules.proofs.SameAnswers.{same_refused}
use Rattle.rules.specs.Refusals.{number, outside, refused_at}
use Rattle.rules.specs.declared.Refusal.{Refusal}
use Rattle.rules.specs.declared.Refusal.TheVariants.{LoadAskedFor}
use Rattle.std.specs.Prelude.{Result, Ok}
use Rattle.rules.specs.declared.Refused.{Refused}

-- Answer and buffer by the test of refusal 20.
abbrev answer_for : Bool → ℕ → Result ℕ Refused
answer_for wrong p = cond wrong (refused_at LoadAskedFor 0) (Ok (load_size p))

abbrev buffer_for : Bool → ℕ → ℕ → List ℕ → List ℕ
buffer_for wrong seed p b = cond wrong b (load_file seed p ++ drop (load_size p) b)

module _ (seed p room : ℕ) where
  -- Seed, p and room are within their limits, or one of them is not.
  pub load_or_not : LoadWithin seed p room ⊎ NoLoad seed p room
  load_or_not = go (lt_or_ge seed 1) (lt_or_ge most_seed seed) (lt_or_ge p 1) (lt_or_ge most_positions p) (lt_or_ge room (load_size p))
    where
      go : (seed < 1) ⊎ (1 ≤ seed) → (most_seed < seed) ⊎ (seed ≤ most_seed) → (p < 1) ⊎ (1 ≤ p) → (most_positions < p) ⊎ (p ≤ most_positions) → (room < load_size p) ⊎ (load_size p ≤ room) → LoadWithin seed p room ⊎ NoLoad seed p room
      go (inl h) b c d e = inr (seed_zero h)
      go (inr a) (inl h) c d e = inr (seed_above h)
      go (inr a) (inr b) (inl h) d e = inr (p_zero h)
      go (inr a) (inr b) (inr c) (inl h) e = inr (p_above h)
      go (inr a) (inr b) (inr c) (inr d) (inl h) = inr (room_below h)
      go (inr a) (inr b) (inr c) (inr d) (inr e) =
          inl (record { seed_least = a; seed_most = b; p_least = c; p_most = d; room_least = e })

  within_passes : LoadWithin seed p room → wrong_load seed p room ≡ false
  within_passes w =
      rw (
        le-ltb seed 1 w.seed_least,
        le-ltb most_seed seed w.seed_most,
        le-ltb p 1 w.p_least,
        le-ltb most_positions p w.p_most,
        le-ltb room (load_size p) w.room_least,
      )

  pub passes_within : wrong_load seed p room ≡ false → LoadWithin seed p room
  passes_within e =
      let parts = neither (outside 1 most_seed seed || outside 1 most_positions p) (ltb room (load_size p)) e in
      let ranges = ranges_kept seed p parts.0 in
      record {
        seed_least = ranges.0.0;
        seed_most = ranges.0.1;
        p_least = ranges.1.0;
        p_most = ranges.1.1;
        room_least = ltb-false room (load_size p) parts.1;
      }

  not_both : LoadWithin seed p room → NoLoad seed p room → ⊥
  not_both w (seed_zero h) = omega (arith, w.seed_least)
  not_both w (seed_above h) = omega (arith, w.seed_most)
  not_both w (p_zero h) = omega (arith, w.p_least)
  not_both w (p_above h) = omega (arith, w.p_most)
  not_both w (room_below h) = omega (arith, w.room_least)

  none_stops : NoLoad seed p room → wrong_load seed p room ≡ true
  none_stops n = go (wrong_load seed p room) refl
    where
      go : (t : Bool) → wrong_load seed p room ≡ t → wrong_load seed p room ≡ true
      go true e = e
      go false e = absurd (not_both (passes_within e) n)

  answer_by_lem : (t : Bool) → wrong_load seed p room ≡ t → load_answer seed p room ≡ answer_for t p
  unfolding load_answer
  answer_by_lem t e = ap (λ (x : Bool). answer_for x p) e

  -- What is answered where all is within its limits, and where it is not.
  pub made : LoadWithin seed p room → load_answer seed p room ≡ Ok (load_size p)
  made w = answer_by_lem false (within_passes w)

  pub not_made : NoLoad seed p room → load_answer seed p room ≡ refused_at LoadAskedFor 0
  not_made n = answer_by_lem true (none_stops n)

  -- The same the other way round: nothing else is answered.
  pub made_within : (n : ℕ) → load_answer seed p room ≡ Ok n → LoadWithin seed p room × (n ≡ load_size p)
  made_within n e = go load_or_not
    where
      go : LoadWithin seed p room ⊎ NoLoad seed p room → LoadWithin seed p room × (n ≡ load_size p)
      go (inl w) = (w, let q = made w in cc)
      go (inr none) = let q = not_made none in let z : ◌≡◌ {A = ℕ} 0 1 = cc in absurd (omega arith)

  pub refused_for : (w : Refusal) (row : ℕ) → load_answer seed p room ≡ refused_at w row → NoLoad seed p room × (number w ≡ 20) × (row ≡ 0)
  refused_for w row e = go load_or_not
    where
      go : LoadWithin seed p room ⊎ NoLoad seed p room → NoLoad seed p room × (number w ≡ 20) × (row ≡ 0)
      go (inl within) = let q = made within in let z : ◌≡◌ {A = ℕ} 0 1 = cc in absurd (omega arith)
      go (inr none) =
          let same = same_refused (sym e ∙ not_made none) in
          (none, ap number same.0, same.1)

-- The buffer b after the call, by the test of refusal 20.
module _ (seed p : ℕ) (b : List ℕ) where
  buffer_by : (t : Bool) → wrong_load seed p (length b) ≡ t → buffer_after seed p b ≡ buffer_for t seed p b
  unfolding buffer_after
  buffer_by t e = ap (λ (x : Bool). buffer_for x seed p b) e

  pub buffer_made : LoadWithin seed p (length b) → buffer_after seed p b ≡ load_file seed p ++ drop (load_size p) b
  buffer_made w = buffer_by false (within_passes seed p (length b) w)

  pub buffer_kept : NoLoad seed p (length b) → buffer_after seed p b ≡ b
  buffer_kept n = buffer_by true (none_stops seed p (length b) n)

  -- For code: the two ways through the call, c being the buffer that it leaves.
  module _ (c : List ℕ) where
    pub call_refused : wrong_load seed p (length b) ≡ true → c ≡ b → (refused_at LoadAskedFor 0 ≡ load_answer seed p (length b)) × (c ≡ buffer_after seed p b)
    call_refused e is = (sym (answer_by_lem seed p (length b) true e), is ∙ sym (buffer_by true e))

    pub call_made : wrong_load seed p (length b) ≡ false → c ≡ load_file seed p ++ drop (load_size p) b
        → (Ok (36 + 32 * p) ≡ load_answer seed p (length b)) × (c ≡ buffer_after seed p b)
    call_made e is = (sym (answer_by_lem seed p (length b) false e), is ∙ sym (buffer_by false e))
