-- What a call works out before its lines are compared with the caller's list: everything but whether the list begins with them;
-- and what follows from the comparison.
use Rattle.std.specs.Prelude.{ℕ, ◌+◌, ◌-◌, ◌≤◌, Bool, cond, List, [], ◌≡◌, ltb, length, Result, Ok, Err}
use Rattle.lines.specs.LineNumbers.{lines_from, most_numbers, most_pair_numbers}
use Rattle.rules.specs.File.{Account, account_of}
use Rattle.rules.specs.Instalments.{all_pairs, first_pairs, made_of}
use Rattle.rules.specs.Limits.{most_positions}
use Rattle.rules.specs.Lines.{entries_for, total_after}
use Rattle.rules.specs.Refusals.{file_read, refused_at}
use Rattle.rules.specs.declared.Line.{Line}
use Rattle.rules.specs.declared.Refusal.TheVariants.{AboveCount, ListTooShort, NotFirstPairs}
use Rattle.rules.specs.declared.Refused.{Refused}
use Rattle.rules.specs.declared.Layout.{Layout}
use Rattle.instalments.specs.declared.CallLines.{CallLines}

-- What a call has worked out.
abbrev pub call_lines : ℕ → ℕ → ℕ → Result CallLines Refused
call_lines first last value = Ok (record { first = first; last = last; value = value })

-- With how many lines the list must begin.
abbrev pub start : Result CallLines Refused → ℕ
start (Ok lines) = lines.first
start (Err refusal) = 0

-- How many lines there are, and with how many the list begins after the call: where it does not begin with those that it
-- must, none are written.
abbrev pub reach : Result CallLines Refused → ℕ
reach (Ok lines) = lines.last
reach (Err refusal) = 0

abbrev pub end : Result CallLines Refused → Bool → ℕ
end (Ok lines) same = cond same lines.last lines.first
end (Err refusal) same = 0

-- What is answered where k of the lines with which the list must begin are to be taken apart: 18 where it begins with others,
-- then 19 where they are fewer than k.
abbrev pub apart_by : Result CallLines Refused → Bool → ℕ → Result ℕ Refused
apart_by (Ok lines) same k =
    cond same (cond (ltb lines.first k) (refused_at AboveCount 0) (Ok (lines.first - k))) (refused_at NotFirstPairs 0)
apart_by (Err refusal) same k = Err refusal

-- How many of n lines stay: all on a refusal.
abbrev pub kept_of : Result ℕ Refused → ℕ → ℕ
kept_of (Ok left) n = left
kept_of (Err refusal) n = n

-- By the account: 12, then 18 where there are fewer pairs than lines in the list.
abbrev pub ready_by : Account → ℕ → ℕ → ℕ → ℕ → Result CallLines Refused
ready_by a room count last value =
    cond (ltb room (entries_for a.positions)) (refused_at ListTooShort 0)
    (cond (ltb (length (all_pairs a)) count) (refused_at NotFirstPairs 0) (call_lines count last value))

-- By the reading: the lines of the pairs that there are and of those made, and how many are made;
abbrev pub pairs_for : List ℕ → ℕ → ℕ → ℕ → Result Layout Refused → Result CallLines Refused
pairs_for b room count allowance (Err refusal) = Err refusal
pairs_for b room count allowance (Ok l) =
    ready_by (account_of b l) room count (count + made_of (account_of b l) count allowance) (made_of (account_of b l) count allowance)

-- the lines of the pairs that there are, and the amount after them.
abbrev pub amount_for : List ℕ → ℕ → ℕ → Result Layout Refused → Result CallLines Refused
amount_for b room count (Err refusal) = Err refusal
amount_for b room count (Ok l) = ready_by (account_of b l) room count count (total_after (account_of b l) count)

-- The lines of a file's first n pairs.
abbrev pub pairs_of_file : List ℕ → Result Layout Refused → ℕ → List Line
pairs_of_file b (Err refusal) n = []
pairs_of_file b (Ok l) n = first_pairs (account_of b l) n

-- What is worked out, with the lines as plain numbers, of which there are `size`.
pub record Ready (size : ℕ) (b : List ℕ) (room : ℕ) (numbers : List ℕ) (is r : Result CallLines Refused) : Type 0 where
  pub ready_is : r ≡ is
  pub lines_are : lines_from numbers (reach r) ≡ pairs_of_file b (file_read b) (reach r)
  pub order : start r ≤ reach r
  pub reach_most : reach r ≤ room
  pub reach_small : reach r ≤ most_positions
  pub numbers_length : length numbers ≡ size

abbrev pub PairsReady : List ℕ → ℕ → ℕ → ℕ → List ℕ → Result CallLines Refused → Type 0
PairsReady b room count allowance numbers = Ready most_pair_numbers b room numbers (pairs_for b room count allowance (file_read b))

abbrev pub AmountReady : List ℕ → ℕ → ℕ → List ℕ → Result CallLines Refused → Type 0
AmountReady b room count numbers = Ready most_numbers b room numbers (amount_for b room count (file_read b))
