-- Document 02 [8], Taking pairs apart: which pair lines a call removes, what the caller's list holds then, and what is promised
-- of pairing, taking apart and pairing again, for every file, list, count and k.
use Rattle.std.specs.Prelude.{ℕ, ◌-◌, ◌<◌, List, [], ◌∷◌, ◌++◌, ◌≡◌, ltb, drop, replicate, take, Result, Ok, Err}
use Rattle.rules.specs.File.{Account, account_of}
use Rattle.rules.specs.Instalments.{PairedList, after_call, instalment_checks, pair_answer, pairs_told}
use Rattle.rules.specs.Lines.{left_with_blocked, sum_over}
use Rattle.rules.specs.Promises.{pair_quantity}
use Rattle.rules.specs.Refusals.{Check, Fault, accepted, file_read, first_fault, meaning, refused_at}
use Rattle.rules.specs.declared.Line.{Line}
use Rattle.rules.specs.declared.Refusal.TheVariants.{AboveCount}
use Rattle.rules.specs.declared.Refused.{Refused}
use Rattle.rules.specs.declared.Layout.{Layout}

-- After the reading: 12 and 18, as for the pairing in instalments; then 19, "k above the count; checked after 18". All with
-- row 0. `count` is the number of pair lines in the list, k how many are to be taken apart.
abbrev pub apart_checks : Account → List Line → ℕ → ℕ → List Check
apart_checks a out count k = instalment_checks a out count ++ ((ltb count k, AboveCount) ∷ [])

unfoldable pub apart_fault : Account → List Line → ℕ → ℕ → Fault
apart_fault a out count k = first_fault (apart_checks a out count k)

-- How many pair lines stay in the list, or the refusal with row 0.
abbrev pub apart_unless : Fault → ℕ → Result ℕ Refused
apart_unless (Ok u) stay = Ok stay
apart_unless (Err w) stay = refused_at w 0

-- "The count falls by k", and is the answer.
abbrev pub apart_for_file : List ℕ → List Line → ℕ → ℕ → Result Layout Refused → Result ℕ Refused
apart_for_file b out count k (Err refusal) = Err refusal
apart_for_file b out count k (Ok l) = apart_unless (apart_fault (account_of b l) out count k) (count - k)

unfoldable pub apart_answer : List ℕ → List Line → ℕ → ℕ → Result ℕ Refused
apart_answer b out count k = apart_for_file b out count k (file_read b)

-- "all zeros": the entry of a removed line, and n of them.
abbrev pub zero_entry : Line
zero_entry = record { kind = 0; secondNumber = 0; thirdNumber = 0; fourthNumber = 0; fifthNumber = 0 }

abbrev pub zero_entries : ℕ → List Line
zero_entries n = replicate n zero_entry

-- What the list holds after that answer. "The latest k pair lines are removed and their entries become all zeros": the pair
-- lines that stay, k entries of zeros, and the entries after the former count as they were; on a refusal all as it was.
abbrev pub list_taken : List Line → ℕ → ℕ → Result ℕ Refused → List Line
list_taken out count k (Err refusal) = out
list_taken out count k (Ok stay) = take stay out ++ (zero_entries k ++ drop count out)

unfoldable pub list_apart : List ℕ → List Line → ℕ → ℕ → List Line
list_apart b out count k = list_taken out count k (apart_answer b out count k)

-- How many pair lines are in the list after an answer: on a refusal as many as before.
abbrev pub count_after : ℕ → Result ℕ Refused → ℕ
count_after count (Ok stay) = stay
count_after count (Err refusal) = count

-- What a caller keeps after taking apart k.
abbrev pub after_apart : List ℕ → ℕ → PairedList → PairedList
after_apart b k kept =
    record {
      list = list_apart b kept.list kept.count k;
      count = count_after kept.count (apart_answer b kept.list kept.count k);
    }

-- "Pairing with an allowance of k, then taking apart as many as were made".
abbrev pub made_with : List ℕ → ℕ → PairedList → ℕ
made_with b k kept = pairs_told (pair_answer b kept.list kept.count k)

abbrev pub back_again : List ℕ → ℕ → PairedList → PairedList
back_again b k kept = after_apart b (made_with b k kept) (after_call b k kept)

-- "contracts left" in row r: its Q less those that the pair lines in the list took. Blocked ones are among them, as in its left
-- line (document 02 [9]).
abbrev pub contracts_left : Account → PairedList → ℕ → ℕ
contracts_left a kept r = (a.position_at r).q - sum_over (pair_quantity r) (take kept.count kept.list)

-- What is promised of it: `kept` is the list and the count before, `back` after the pairing and the taking apart.
pub record GoesBack (b : List ℕ) (k : ℕ) (kept back : PairedList) : Type 0 where
  -- what the pairing made can be taken apart: where it is not refused, the taking apart answers the former count,
  pub told_is : (made : ℕ) → pair_answer b kept.list kept.count k ≡ Ok made
      → apart_answer b (after_call b k kept).list (after_call b k kept).count made ≡ Ok kept.count
  -- "gives back the former count",
  pub count_is : back.count ≡ kept.count
  -- with it the former pair lines,
  pub lines_are : take kept.count back.list ≡ take kept.count kept.list
  -- "and the former contracts left in every row",
  pub contracts_are : (a : Account) → meaning b ≡ accepted a → (r : ℕ) → r < a.positions
      → contracts_left a back r ≡ contracts_left a kept r
  -- which, where the pairing is not refused, are those left after as many pairs;
  pub contracts_after_lem : (a : Account) → meaning b ≡ accepted a → (made : ℕ) → pair_answer b kept.list kept.count k ≡ Ok made
      → (r : ℕ) → r < a.positions → contracts_left a back r ≡ left_with_blocked a kept.count r
  -- "pairing again writes the same lines": it answers the same, and list and count are those after the first pairing.
  pub again_told : pair_answer b back.list back.count k ≡ pair_answer b kept.list kept.count k
  pub again_is : after_call b k back ≡ after_call b k kept

-- For every file, list, count and k.
abbrev pub BackDemand : List ℕ → Type 0
BackDemand b = (kept : PairedList) (k : ℕ) → GoesBack b k kept (back_again b k kept)
