-- What the caller's list holds after a call of document 02 [7], for every file, list, count and allowance: the laws that a client
-- can cite.
-- Assumes nothing.
use Prim.Native.Nat.{ℕ, ◌+◌, ◌≤◌, ◌<◌}
use mathlib.Core.List.{List, ◌++◌, append_assoc}
use mathlib.Core.Path.{◌≡◌, refl, sym, ap, ap₂, ◌∙◌}
use native.Mathlib.Nat.{add-zero}
use native.Mathlib.Omega.{arith}
use lib.ListN.{drop, length, take, length-append, length-drop, length-take, take-append-drop}
use lib.Seq.{drop_at, take_at}
use Rattle.rules.proofs.Answers.{accepted_read}
use Rattle.rules.proofs.InstalmentAnswers.{FirstPairs, first_length, first_more, pair_accepted, pair_only, so_far_goes}
use Rattle.rules.proofs.InstalmentLaws.{pairs_fewer, total_all}
use Rattle.rules.proofs.LineLaws.{length-pair_lines}
use Rattle.rules.specs.File.{Account}
use Rattle.rules.specs.Instalments.{all_pairs, amount_so_far, first_pairs, list_for, list_paired, next_pairs, pair_answer, pairs_told}
use Rattle.rules.specs.Lines.{entries_for, pair_lines, total}
use Rattle.rules.specs.Refusals.{accepted, meaning, refused_at}
use Rattle.rules.specs.declared.Line.{Line}
use Rattle.rules.specs.declared.Refusal.{Refusal}
use Rattle.std.specs.Prelude.{Result, Ok, Err}
use Rattle.rules.specs.declared.Refused.{Refused}

module _ (b : List ℕ) (out : List Line) (count : ℕ) where
  -- "Every lent list keeps its content": after a refusal the list is what it was, whatever it held.
  pub refusal_leaves : (allowance : ℕ) (w : Refusal) (row : ℕ) → pair_answer b out count allowance ≡ refused_at w row
      → list_paired b out count allowance ≡ out
  unfolding list_paired
  refusal_leaves allowance w row q = rw q

-- The list after a call that is not refused.
module _ (b : List ℕ) (a : Account) (e : meaning b ≡ accepted a) (out : List Line) (count allowance made : ℕ)
    (q : pair_answer b out count allowance ≡ Ok made) where
  long : entries_for a.positions ≤ length out
  long = (pair_only b a e out count allowance made q).0

  stand : FirstPairs a out count
  stand = (pair_only b a e out count allowance made q).1

  -- The pairs made are among the account's.
  pub made_most : count + made ≤ length (all_pairs a)
  made_most = omega (arith, stand.count_most, (pair_only b a e out count allowance made q).2)

  -- The list holds the entries before count, the lines of the pairs made, and the entries after them as they were;
  pub list_parts : list_paired b out count allowance ≡ take count out ++ (next_pairs a count made ++ drop (count + made) out)
  unfolding list_paired
  list_parts =
      let k = accepted_read b a e in
      ap₂ (list_for b out count) k.0 q
      ∙ ap (λ (x : Account). take count out ++ (next_pairs x count made ++ drop (count + made) out)) (sym k.1)

  -- that is, the lines of the first count + made pairs, and the entries after them as they were.
  pub list_is : list_paired b out count allowance ≡ first_pairs a (count + made) ++ drop (count + made) out
  list_is =
      list_parts
      ∙ ap (λ (l : List Line). l ++ (next_pairs a count made ++ drop (count + made) out)) stand.lines_are
      ∙ sym (append_assoc (first_pairs a count) (next_pairs a count made) (drop (count + made) out))
      ∙ ap (λ (l : List Line). l ++ drop (count + made) out) (sym (first_more a count made))

  pub next_length : length (next_pairs a count made) ≡ made
  next_length =
      omega (
        arith,
        made_most,
        length-pair_lines a (take made (drop count (all_pairs a))),
        length-take made (drop count (all_pairs a)),
        length-drop count (all_pairs a),
      )

  before : length (take count out) ≡ count
  before = omega (arith, length-take count out, stand.count_most, pairs_fewer a, long)

  -- The entries from count on are the lines of the pairs made.
  pub new_entries : take made (drop count (list_paired b out count allowance)) ≡ next_pairs a count made
  new_entries =
      ap (λ (l : List Line). take made (drop count l)) list_parts
      ∙ ap (take made) (drop_at (take count out) _ count before)
      ∙ take_at (next_pairs a count made) _ made next_length

  -- The list that a call leaves may be handed over again, with the count of the pair lines then in it.
  pub next_stand : FirstPairs a (list_paired b out count allowance) (count + made)
  next_stand =
      record {
        count_most = made_most;
        lines_are =
            ap (take (count + made)) list_is
            ∙ take_at (first_pairs a (count + made)) _ (count + made) (omega (arith, first_length a (count + made), made_most));
      }

  -- Fewer pairs than allowed are made only where they are the last ones.
  pub done : made < allowance → count + made ≡ length (all_pairs a)
  done h = omega (arith, stand.count_most, (pair_only b a e out count allowance made q).2)

module _ (b : List ℕ) (out : List Line) (count allowance : ℕ) where
  -- The entries before count stay, and so do those after the pairs made, whatever the answer.
  pub entries_before : take count (list_paired b out count allowance) ≡ take count out
  entries_before = go (pair_answer b out count allowance) refl
    where
      go : (x : Result ℕ Refused) → pair_answer b out count allowance ≡ x → take count (list_paired b out count allowance) ≡ take count out
      go (Err refusal) q = ap (take count) (refusal_leaves b out count allowance refusal.why refusal.row q)
      go (Ok made) q =
          let k = pair_accepted b out count allowance made q in
          ap (take count) (list_parts b k.0 k.1 out count allowance made q)
          ∙ take_at (take count out) _ count (before b k.0 k.1 out count allowance made q)

  pub entries_after : drop (count + pairs_told (pair_answer b out count allowance)) (list_paired b out count allowance)
      ≡ drop (count + pairs_told (pair_answer b out count allowance)) out
  entries_after = go (pair_answer b out count allowance) refl
    where
      go : (x : Result ℕ Refused) → pair_answer b out count allowance ≡ x
          → drop (count + pairs_told x) (list_paired b out count allowance) ≡ drop (count + pairs_told x) out
      go (Err refusal) q = ap (drop (count + 0)) (refusal_leaves b out count allowance refusal.why refusal.row q)
      go (Ok made) q =
          let k = pair_accepted b out count allowance made q in
          let most = made_most b k.0 k.1 out count allowance made q in
          ap (drop (count + made)) (list_is b k.0 k.1 out count allowance made q)
          ∙ drop_at (first_pairs k.0 (count + made)) _ (count + made) (omega (arith, first_length k.0 (count + made), most))

  -- The list has as many entries as before.
  pub list_length : length (list_paired b out count allowance) ≡ length out
  list_length = go (pair_answer b out count allowance) refl
    where
      go : (x : Result ℕ Refused) → pair_answer b out count allowance ≡ x → length (list_paired b out count allowance) ≡ length out
      go (Err refusal) q = ap length (refusal_leaves b out count allowance refusal.why refusal.row q)
      go (Ok made) q =
          let k = pair_accepted b out count allowance made q in
          let a = k.0 in
          omega (
            arith,
            ap length (list_is b a k.1 out count allowance made q),
            length-append (first_pairs a (count + made)) (drop (count + made) out),
            length-drop (count + made) out,
            first_length a (count + made),
            made_most b a k.1 out count allowance made q,
            pairs_fewer a,
            long b a k.1 out count allowance made q,
          )

-- "An allowance of zero makes none", and the list stays as it is.
pub none_allowed : (b : List ℕ) (out : List Line) (count made : ℕ) → pair_answer b out count 0 ≡ Ok made → made ≡ 0
none_allowed b out count made q =
    let k = pair_accepted b out count 0 made q in
    omega (arith, (pair_only b k.0 k.1 out count 0 made q).2)

pub none_written : (b : List ℕ) (out : List Line) (count : ℕ) → list_paired b out count 0 ≡ out
unfolding pair_lines
none_written b out count = go (pair_answer b out count 0) refl
  where
    go : (x : Result ℕ Refused) → pair_answer b out count 0 ≡ x → list_paired b out count 0 ≡ out
    go (Err refusal) q = refusal_leaves b out count 0 refusal.why refusal.row q
    go (Ok made) q =
        let k = pair_accepted b out count 0 made q in
        list_parts b k.0 k.1 out count 0 made q
        ∙ ap (λ (n : ℕ). take count out ++ (next_pairs k.0 count n ++ drop (count + n) out)) (none_allowed b out count made q)
        ∙ ap (λ (n : ℕ). take count out ++ drop n out) (add-zero count)
        ∙ take-append-drop count out

-- After the last pairs the amount is the margin's total.
pub done_total : (b : List ℕ) (a : Account) → meaning b ≡ accepted a → (out : List Line) (count allowance made : ℕ)
    → pair_answer b out count allowance ≡ Ok made → made < allowance
    → amount_so_far b (list_paired b out count allowance) (count + made) ≡ Ok (total a)
done_total b a e out count allowance made q h =
    so_far_goes b a e (list_paired b out count allowance) (count + made)
    (omega (arith, long b a e out count allowance made q, list_length b out count allowance))
    (next_stand b a e out count allowance made q)
    ∙ ap Ok (total_all a (count + made) (omega (arith, done b a e out count allowance made q h)))
