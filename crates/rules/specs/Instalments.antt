-- Document 02 [7], Pairing in instalments: which pairs a call makes, what the caller's list holds then, the amount between
-- calls, and what is promised of them for every accepted file.
use Rattle.std.specs.Prelude.{ℕ, ◌+◌, ◌*◌, ◌-◌, ◌≤◌, ◌<◌, min, Bool, true, false, not, ◌&&◌, ◌||◌, List, [], ◌∷◌, ◌++◌, ◌≡◌, eqb, ltb, length, drop, take, Result, Ok, Err}
use Rattle.rules.specs.File.{Account, account_of}
use Rattle.rules.specs.Lines.{entries_for, left_lines, left_with_blocked, line_amount, pair_lines, premiums, sum_over, total, total_after}
use Rattle.rules.specs.LongExpiries.{NoExceptedPut}
use Rattle.rules.specs.Pairs.{Made, pairs_after}
use Rattle.rules.specs.Promises.{LowFactors, OnePathEach, left_quantity, line_brings_in, pair_quantity, written_pay_out}
use Rattle.rules.specs.Reais.{most_total}
use Rattle.rules.specs.Refusals.{Check, Fault, accepted, file_read, first_fault, meaning, refused_at}
use Rattle.rules.specs.declared.Line.{Line}
use Rattle.rules.specs.declared.Refusal.TheVariants.{ListTooShort, NotFirstPairs}
use Rattle.rules.specs.declared.Refused.{Refused}
use Rattle.rules.specs.declared.Layout.{Layout}

-- "the full pairing": all pairs of an account, as made. p rounds are enough (`Lines.lines`).
abbrev pub all_pairs : Account → List Made
all_pairs a = pairs_after a a.positions

-- "the account's first pairs": the lines of its first n pairs, or of all where there are fewer.
abbrev pub first_pairs : Account → ℕ → List Line
first_pairs a n = pair_lines a (take n (all_pairs a))

-- Whether two entries have the same five numbers.
abbrev pub same_line : Line → Line → Bool
same_line x y =
    eqb x.kind y.kind
    && eqb x.secondNumber y.secondNumber
    && eqb x.thirdNumber y.thirdNumber
    && eqb x.fourthNumber y.fourthNumber
    && eqb x.fifthNumber y.fifthNumber

-- Whether a list begins with these lines. One that is shorter does not.
unfoldable pub begins_with : List Line → List Line → Bool
begins_with [] out = true
begins_with (x ∷ rest) [] = false
begins_with (x ∷ rest) (y ∷ out) = same_line x y && begins_with rest out

-- 18: "the lines in the list are not the account's first pairs": there are fewer pairs than lines, or the list does not begin
-- with the pairs' lines. `count` is "the number of pair lines already in it".
abbrev pub not_first_pairs : Account → List Line → ℕ → Bool
not_first_pairs a out count = ltb (length (all_pairs a)) count || not (begins_with (first_pairs a count) out)

-- After the reading: 12, "given below 2 × p entries" (document 02 [9]), as for the margin; then 18, "checked after 12". Both
-- with row 0.
abbrev pub instalment_checks : Account → List Line → ℕ → List Check
instalment_checks a out count =
    (ltb (length out) (entries_for a.positions), ListTooShort)
    ∷ (not_first_pairs a out count, NotFirstPairs)
    ∷ []

unfoldable pub instalment_fault : Account → List Line → ℕ → Fault
instalment_fault a out count = first_fault (instalment_checks a out count)

-- A call "makes at most as many pairs as it is allowed": of those that come after the first `count`. "An allowance of zero
-- makes none."
abbrev pub made_of : Account → ℕ → ℕ → ℕ
made_of a count allowance = min allowance (length (all_pairs a) - count)

-- It "reports how many it made", or the refusal.
abbrev pub paired_unless : Fault → ℕ → Result ℕ Refused
paired_unless (Ok u) made = Ok made
paired_unless (Err w) made = refused_at w 0

abbrev pub pair_for_file : List ℕ → List Line → ℕ → ℕ → Result Layout Refused → Result ℕ Refused
pair_for_file b out count allowance (Err refusal) = Err refusal
pair_for_file b out count allowance (Ok l) =
    paired_unless (instalment_fault (account_of b l) out count) (made_of (account_of b l) count allowance)

-- "A call gets the file, the list and the number of pair lines already in it", and what it is allowed.
unfoldable pub pair_answer : List ℕ → List Line → ℕ → ℕ → Result ℕ Refused
pair_answer b out count allowance = pair_for_file b out count allowance (file_read b)

-- The lines of the n pairs that come after the first `count`.
abbrev pub next_pairs : Account → ℕ → ℕ → List Line
next_pairs a count n = pair_lines a (take n (drop count (all_pairs a)))

-- What the list holds after that answer: the pair lines there were, those of the pairs made after them, and every other entry
-- as it was; on a refusal all as it was.
abbrev pub list_for : List ℕ → List Line → ℕ → Result Layout Refused → Result ℕ Refused → List Line
list_for b out count read (Err refusal) = out
list_for b out count (Err refusal) (Ok made) = out
list_for b out count (Ok l) (Ok made) =
    take count out ++ (next_pairs (account_of b l) count made ++ drop (count + made) out)

unfoldable pub list_paired : List ℕ → List Line → ℕ → ℕ → List Line
list_paired b out count allowance = list_for b out count (file_read b) (pair_answer b out count allowance)

-- "Between calls the account's amount may be requested: pairs so far, every remainder by the amount of its left line (0 if
-- held), and the premiums": the total after `count` rounds of pairing, each of which makes a pair
-- (`InstalmentLaws.first_after`).
abbrev pub amount_unless : Fault → ℕ → Result ℕ Refused
amount_unless (Ok u) amount = Ok amount
amount_unless (Err w) amount = refused_at w 0

abbrev pub amount_for_list : List ℕ → List Line → ℕ → Result Layout Refused → Result ℕ Refused
amount_for_list b out count (Err refusal) = Err refusal
amount_for_list b out count (Ok l) =
    amount_unless (instalment_fault (account_of b l) out count) (total_after (account_of b l) count)

unfoldable pub amount_so_far : List ℕ → List Line → ℕ → Result ℕ Refused
amount_so_far b out count = amount_for_list b out count (file_read b)

-- A list and how many pair lines are in it: what a caller keeps between calls.
pub record PairedList : Type 0 where
  pub list : List Line
  pub count : ℕ

-- "begun with no pair lines"
abbrev pub begun : List Line → PairedList
begun out = record { list = out; count = 0 }

-- How many pairs an answer tells.
abbrev pub pairs_told : Result ℕ Refused → ℕ
pairs_told (Ok made) = made
pairs_told (Err refusal) = 0

-- After a call with this allowance.
abbrev pub after_call : List ℕ → ℕ → PairedList → PairedList
after_call b allowance kept =
    record {
      list = list_paired b kept.list kept.count allowance;
      count = kept.count + pairs_told (pair_answer b kept.list kept.count allowance);
    }

-- After a call for each of the allowances, one after the other.
unfoldable pub after_calls : List ℕ → List ℕ → PairedList → PairedList
after_calls b [] kept = kept
after_calls b (allowance ∷ rest) kept = after_calls b rest (after_call b allowance kept)

-- "For every list of allowances, begun with no pair lines": what is promised of the list then, n being what the allowances
-- add up to.
pub record AfterAllowances (b : List ℕ) (a : Account) (out : List Line) (n : ℕ) (kept : PairedList) : Type 0 where
  -- "as many as the allowances add up to or all"
  pub count_is : kept.count ≡ min n (length (all_pairs a))
  -- "the pairs after it are the first ones of the full pairing", and every other entry is as it was
  pub list_is : kept.list ≡ first_pairs a n ++ drop kept.count out
  -- the next call is not refused,
  pub next_is : (allowance : ℕ) → pair_answer b kept.list kept.count allowance ≡ Ok (made_of a kept.count allowance)
  -- and the amount is that after n rounds (a round that finds no pair changes nothing).
  pub amount_is : amount_so_far b kept.list kept.count ≡ Ok (total_after a n)

-- "every remainder": the left lines of the rows with contracts left after n pairs. Instalments do not write them.
abbrev pub remainders : Account → ℕ → List Line
remainders a n = left_lines a (left_with_blocked a n) a.positions

-- What is promised of a half-paired account: of an amount that is answered for a list with `count` pair lines.
pub record HalfPaired (a : Account) (pairs : List Line) (count amount : ℕ) : Type 0 where
  pub pairs_are : pairs ≡ first_pairs a count
  -- "pairs so far, every remainder by the amount of its left line (0 if held), and the premiums"
  pub amount_is : amount ≡ sum_over line_amount pairs + sum_over line_amount (remainders a count) + premiums a
  -- no larger than the largest total (`Reais.most_total`)
  pub amount_most : amount ≤ most_total
  -- the amount after all pairs is the total
  pub all_paired : count ≡ length (all_pairs a) → amount ≡ total a
  -- "A half-paired account must be covered on every path too", where every fb is at most 1,000,000: with the amount for the
  -- total, and the pairs in the list
  pub covered : LowFactors a → (path : ℕ → List ℕ) → OnePathEach a path
      → written_pay_out a path ≤ amount * 1_000_000 + sum_over (line_brings_in a path) pairs
  -- the contracts of each row add up to Q: those of the pair lines in the list that name it and those of its remainder
  pub contracts : (r : ℕ) → r < a.positions
      → sum_over (pair_quantity r) pairs + sum_over (left_quantity r) (remainders a count) ≡ (a.position_at r).q
  -- and none of a row's blocked contracts is in the pairs (document 02 [9])
  pub unblocked : (r : ℕ) → r < a.positions → sum_over (pair_quantity r) pairs + (a.position_at r).blocked ≤ (a.position_at r).q

-- Of a file: for whatever account its bytes mean, every list of at least 2 × p entries (a shorter one is refused with 12) and
-- every list of allowances;
abbrev pub AllowancesDemand : List ℕ → Type 0
AllowancesDemand b =
    (a : Account) → meaning b ≡ accepted a → (out : List Line) → entries_for a.positions ≤ length out → (allowances : List ℕ)
    → AfterAllowances b a out (sum_over (λ n. n) allowances) (after_calls b allowances (begun out))

-- and every list and count for which an amount is answered.
abbrev pub HalfPairedDemand : List ℕ → Type 0
HalfPairedDemand b =
    (a : Account) → meaning b ≡ accepted a → (out : List Line) (count amount : ℕ) → amount_so_far b out count ≡ Ok amount
    → HalfPaired a (take count out) count amount

-- The cover with the amount for the total, and these pairs.
abbrev pub CoverSoFar : Account → List Line → ℕ → Type 0
CoverSoFar a pairs amount =
    (path : ℕ → List ℕ) → OnePathEach a path
    → written_pay_out a path ≤ amount * 1_000_000 + sum_over (line_brings_in a path) pairs

-- The half-paired account is covered with any fb too, where it has no put that document 02 [11] excepts.
abbrev pub HalfPairedLongDemand : List ℕ → Type 0
HalfPairedLongDemand b =
    (a : Account) → meaning b ≡ accepted a → (out : List Line) (count amount : ℕ) → amount_so_far b out count ≡ Ok amount
    → NoExceptedPut a → CoverSoFar a (take count out) amount
