-- What the call of document 02 [8] answers, for every file, list, count and k: the laws that a client can cite. The call's
-- contract says that it answers `apart_answer` and `list_apart`; these laws say what the first is, `ApartLists` what the list
-- holds.
-- Assumes nothing.
use Prim.Native.Nat.{ℕ, ◌-◌, ◌≤◌, ◌<◌}
use mathlib.Core.List.{List}
use mathlib.Core.Logic.{◌⊎◌, inl, inr}
use mathlib.Core.Path.{◌≡◌, refl, sym, ap, ap₂, ◌∙◌}
use native.Mathlib.Omega.{arith}
use lib.ListN.{length}
use Rattle.rules.proofs.ApartLaws.{apart_read, fault_19, fault_alike, fault_no_19}
use Rattle.rules.proofs.FileNumbers.{file_number}
use Rattle.rules.proofs.InstalmentAnswers.{FirstPairs, RefusedFor, empty_18, empty_pair, pair_18, pair_accepted, pair_goes, pair_only, pair_refusal_is, pair_refused, pair_short}
use Rattle.rules.proofs.InstalmentLaws.{pair_read}
use Rattle.rules.proofs.Tests.{lt_or_ge}
use Rattle.rules.specs.File.{Account, account_of}
use Rattle.rules.specs.Lines.{entries_for}
use Rattle.rules.specs.Instalments.{instalment_fault, made_of, pair_answer, paired_unless}
use Rattle.rules.specs.Refusals.{Fault, accepted, clean, file_read, meaning, number, refused, refused_at}
use Rattle.rules.specs.TakingApart.{apart_answer, apart_fault, apart_unless}
use Rattle.rules.specs.declared.Line.{Line}
use Rattle.rules.specs.declared.Refusal.{Refusal}
use Rattle.rules.specs.declared.Refusal.TheVariants.{AboveCount, ListTooShort, NotFirstPairs}
use Rattle.std.specs.Prelude.{Result, Ok, Err}
use Rattle.rules.specs.declared.Refused.{Refused}
use Rattle.rules.specs.declared.Layout.{Layout}
use Rattle.rules.proofs.SameAnswers.{same_refused}

-- File, list and count are checked as for the pairing in instalments, whatever the allowance.
module _ (b : List ℕ) (out : List Line) (count allowance : ℕ) where
  -- What the pairing refuses is refused with the same number and row, whatever k.
  pub refused_like_pairs : (w : Refusal) (row : ℕ) → pair_answer b out count allowance ≡ refused_at w row → (k : ℕ)
      → apart_answer b out count k ≡ refused_at w row
  refused_like_pairs w row q k = go (file_read b) refl
    where
      by_fault : (a : Account) (left : ℕ) (x : Fault) → instalment_fault a out count ≡ x
          → paired_unless x (made_of a count allowance) ≡ refused_at w row
          → apart_unless (apart_fault a out count k) left ≡ refused_at w row
      by_fault a left (Ok u) f m = let z : ◌≡◌ {A = ℕ} 0 1 = cc in absurd (omega arith)
      by_fault a left (Err v) f m =
          let same = same_refused m in
          ap (λ (x : Fault). apart_unless x left) (fault_alike a out count k v f) ∙ ap₂ refused_at same.0 same.1

      go : (x : Result Layout Refused) → file_read b ≡ x → apart_answer b out count k ≡ refused_at w row
      go (Err refusal) r =
          let m = sym (pair_read b out count allowance (Err refusal) r) ∙ q in
          let p : refusal.why ≡ w = cc in
          let j : refusal.row ≡ row = cc in
          apart_read b out count k (Err refusal) r ∙ ap₂ refused_at p j
      go (Ok l) r =
          apart_read b out count k (Ok l) r
          ∙ by_fault (account_of b l) _ (instalment_fault (account_of b l) out count) refl
          (sym (pair_read b out count allowance (Ok l) r) ∙ q)

  -- Where the pairing is not refused, k alone decides: what the checks after the reading find, by the fault that k gives.
  by_k : (made : ℕ) → pair_answer b out count allowance ≡ Ok made → (k : ℕ) (x : Fault)
      → ((a : Account) → instalment_fault a out count ≡ clean → apart_fault a out count k ≡ x)
      → apart_answer b out count k ≡ apart_unless x (count - k)
  by_k made q k x found = go (file_read b) refl
    where
      by_fault : (a : Account) (y : Fault) → instalment_fault a out count ≡ y
          → paired_unless y (made_of a count allowance) ≡ Ok made → apart_fault a out count k ≡ x
      by_fault a (Ok u) f m = found a f
      by_fault a (Err v) f m = let z : ◌≡◌ {A = ℕ} 0 1 = cc in absurd (omega arith)

      go : (y : Result Layout Refused) → file_read b ≡ y → apart_answer b out count k ≡ apart_unless x (count - k)
      go (Err refusal) r =
          let m = sym (pair_read b out count allowance (Err refusal) r) ∙ q in
          let z : ◌≡◌ {A = ℕ} 0 1 = cc in
          absurd (omega arith)
      go (Ok l) r =
          apart_read b out count k (Ok l) r
          ∙ ap (λ (y : Fault). apart_unless y (count - k))
          (by_fault (account_of b l) (instalment_fault (account_of b l) out count) refl
          (sym (pair_read b out count allowance (Ok l) r) ∙ q))

  pub paired_apart : (made : ℕ) → pair_answer b out count allowance ≡ Ok made → (k : ℕ) → k ≤ count
      → apart_answer b out count k ≡ Ok (count - k)
  paired_apart made q k h = by_k made q k clean (λ a f. fault_no_19 a out count k f h)

  pub paired_19 : (made : ℕ) → pair_answer b out count allowance ≡ Ok made → (k : ℕ) → count < k
      → apart_answer b out count k ≡ refused_at AboveCount 0
  paired_19 made q k h = by_k made q k (Err AboveCount) (λ a f. fault_19 a out count k f h)

-- The answers for an accepted file.
module _ (b : List ℕ) (a : Account) (e : meaning b ≡ accepted a) (out : List Line) (count : ℕ) where
  -- A list of at least 2 × p entries in which the first pairs stand, and no more to be taken apart than there are: "The count
  -- falls by k", and it is the answer.
  pub apart_goes : entries_for a.positions ≤ length out → FirstPairs a out count → (k : ℕ) → k ≤ count
      → apart_answer b out count k ≡ Ok (count - k)
  apart_goes long f = paired_apart b out count 0 (made_of a count 0) (pair_goes b a e out count long f 0)

  -- More than there are: 19, row 0.
  pub apart_19 : entries_for a.positions ≤ length out → FirstPairs a out count → (k : ℕ) → count < k
      → apart_answer b out count k ≡ refused_at AboveCount 0
  apart_19 long f = paired_19 b out count 0 (made_of a count 0) (pair_goes b a e out count long f 0)

  -- A shorter list: 12, row 0, whatever it holds and whatever k.
  pub apart_short : length out < entries_for a.positions → (k : ℕ) → apart_answer b out count k ≡ refused_at ListTooShort 0
  apart_short short = refused_like_pairs b out count 0 ListTooShort 0 (pair_short b a e out count short 0)

  -- A list of at least 2 × p entries in which other lines stand: 18, row 0, whatever k.
  pub apart_18 : entries_for a.positions ≤ length out → (FirstPairs a out count → ⊥) → (k : ℕ)
      → apart_answer b out count k ≡ refused_at NotFirstPairs 0
  apart_18 long wrong = refused_like_pairs b out count 0 NotFirstPairs 0 (pair_18 b a e out count long wrong 0)

-- Why a call is refused: as the pairing is (`RefusedFor`); or, with row 0, 19 where the list is long enough and the first pairs
-- stand in it, and k is above the count.
abbrev pub ApartRefusedFor : List ℕ → List Line → ℕ → ℕ → Refusal → ℕ → Type 0
ApartRefusedFor b out count k w row =
    RefusedFor b out count w row
    ⊎ ((a : Account) × (meaning b ≡ accepted a) × (row ≡ 0)
    × (entries_for a.positions ≤ length out) × FirstPairs a out count × (count < k) × (number w ≡ 19))

module _ (b : List ℕ) (out : List Line) (count k : ℕ) where
  -- A refused file: its number and row, whatever the list, the count and k.
  pub apart_refused : (n row : ℕ) → meaning b ≡ refused n row
      → (w : Refusal) × (number w ≡ n) × (apart_answer b out count k ≡ refused_at w row)
  apart_refused n row e =
      let r = pair_refused b out count n row e 0 in
      (r.0, r.1, refused_like_pairs b out count 0 r.0 row r.2 k)

  -- A new count is told only where the pairing is not refused, whatever the allowance, and k is not above the count.
  pub apart_told : (left : ℕ) → apart_answer b out count k ≡ Ok left → (allowance : ℕ)
      → (made : ℕ) × (pair_answer b out count allowance ≡ Ok made) × (k ≤ count) × (left ≡ count - k)
  apart_told left q allowance = go (pair_answer b out count allowance) refl
    where
      by_k_told : (made : ℕ) → pair_answer b out count allowance ≡ Ok made → (count < k) ⊎ (k ≤ count)
          → (made : ℕ) × (pair_answer b out count allowance ≡ Ok made) × (k ≤ count) × (left ≡ count - k)
      by_k_told made p (inl h) =
          let z : ◌≡◌ {A = ℕ} 0 1 = cc (paired_19 b out count allowance made p k h) in absurd (omega arith)
      by_k_told made p (inr h) =
          let same : left ≡ count - k = cc (paired_apart b out count allowance made p k h) in (made, p, h, same)

      go : (x : Result ℕ Refused) → pair_answer b out count allowance ≡ x
          → (made : ℕ) × (pair_answer b out count allowance ≡ Ok made) × (k ≤ count) × (left ≡ count - k)
      go (Err refusal) p =
          let z : ◌≡◌ {A = ℕ} 0 1 = cc (refused_like_pairs b out count allowance refusal.why refusal.row p k) in absurd (omega arith)
      go (Ok made) p = by_k_told made p (lt_or_ge count k)

  -- So the file is accepted,
  pub apart_accepted : (left : ℕ) → apart_answer b out count k ≡ Ok left → (a : Account) × (meaning b ≡ accepted a)
  apart_accepted left q =
      let told = apart_told left q 0 in
      pair_accepted b out count 0 told.0 told.1

  -- the list has at least 2 × p entries, the first pairs stand in it, there are at least k, and the new count is lower by k.
  pub apart_only : (a : Account) → meaning b ≡ accepted a → (left : ℕ) → apart_answer b out count k ≡ Ok left
      → (entries_for a.positions ≤ length out) × FirstPairs a out count × (k ≤ count) × (left ≡ count - k)
  apart_only a e left q =
      let told = apart_told left q 0 in
      let known = pair_only b a e out count 0 told.0 told.1 in
      (known.0, known.1, told.2, told.3)

  -- The other way round for a refusal.
  pub apart_refusal_is : (w : Refusal) (row : ℕ) → apart_answer b out count k ≡ refused_at w row
      → ApartRefusedFor b out count k w row
  apart_refusal_is w row q = go (pair_answer b out count 0) refl
    where
      by_k_refused : (made : ℕ) → pair_answer b out count 0 ≡ Ok made → (count < k) ⊎ (k ≤ count)
          → ApartRefusedFor b out count k w row
      by_k_refused made p (inl h) =
          let same = same_refused (sym q ∙ paired_19 b out count 0 made p k h) in
          let known = pair_accepted b out count 0 made p in
          let only = pair_only b known.0 known.1 out count 0 made p in
          inr (known.0, known.1, same.1, only.0, only.1, h, ap number same.0)
      by_k_refused made p (inr h) =
          let z : ◌≡◌ {A = ℕ} 0 1 = cc (paired_apart b out count 0 made p k h) in absurd (omega arith)

      go : (x : Result ℕ Refused) → pair_answer b out count 0 ≡ x → ApartRefusedFor b out count k w row
      go (Err refusal) p =
          let m = refused_like_pairs b out count 0 refusal.why refusal.row p k in
          let s : refusal.why ≡ w = cc in
          let j : refusal.row ≡ row = cc in
          inl (pair_refusal_is b out count 0 w row (p ∙ ap₂ refused_at s j))
      go (Ok made) p = by_k_refused made p (lt_or_ge count k)

  -- So the number is 12 at most, 18 or 19, whatever numbers other calls give.
  pub apart_number : (w : Refusal) (row : ℕ) → apart_answer b out count k ≡ refused_at w row
      → (number w ≤ 12) ⊎ ((number w ≡ 18) ⊎ (number w ≡ 19))
  apart_number w row q = go (apart_refusal_is w row q)
    where
      as_pairs : RefusedFor b out count w row → (number w ≤ 12) ⊎ ((number w ≡ 18) ⊎ (number w ≡ 19))
      as_pairs (inl f) = inl (omega (arith, file_number b (number w) row f))
      as_pairs (inr (a, e, z, inl (h, n))) = inl (omega arith)
      as_pairs (inr (a, e, z, inr (h, wrong, n))) = inr (inl n)

      go : ApartRefusedFor b out count k w row → (number w ≤ 12) ⊎ ((number w ≡ 18) ⊎ (number w ≡ 19))
      go (inl r) = as_pairs r
      go (inr (a, e, z, h, f, above, n)) = inr (inr n)

-- An account without positions has no pairs: with count 0 and k 0 the answer is 0, whatever the list, an empty one too; with
-- another k it is 19, and with another count 18.
module _ (b : List ℕ) (a : Account) (e : meaning b ≡ accepted a) (empty : a.positions ≡ 0) (out : List Line) where
  pub empty_apart : apart_answer b out 0 0 ≡ Ok 0
  empty_apart = paired_apart b out 0 0 0 (empty_pair b a e empty out 0) 0 (omega arith)

  pub empty_19 : (k : ℕ) → 0 < k → apart_answer b out 0 k ≡ refused_at AboveCount 0
  empty_19 = paired_19 b out 0 0 0 (empty_pair b a e empty out 0)

  pub empty_apart_18 : (count : ℕ) → 0 < count → (k : ℕ) → apart_answer b out count k ≡ refused_at NotFirstPairs 0
  empty_apart_18 count h = refused_like_pairs b out count 0 NotFirstPairs 0 (empty_18 b a e empty out count h 0)
