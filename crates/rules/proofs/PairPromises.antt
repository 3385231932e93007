-- Document 01, Paths, demand 3: contracts, and pairs left unmade; and document 02 [9]: that pairs use no blocked contract. Of
-- every account whose blocked contracts are within their limits, or of every account.
-- Assumes nothing.
use Prim.Native.Nat.{ℕ, ◌+◌, ◌-◌, ◌≤◌, ◌<◌}
use mathlib.Core.Path.{◌≡◌}
use native.Mathlib.Omega.{arith}
use Rattle.rules.proofs.BlockedRows.{BlockedFits}
use Rattle.rules.proofs.Counts.{none_allowed}
use Rattle.rules.proofs.LineLaws.{left_quantities, lines_are, pair_quantities}
use Rattle.rules.proofs.MayPair.{apart}
use Rattle.rules.proofs.Rounds.{made_left}
use Rattle.rules.specs.Blocked.{Unblocked}
use Rattle.rules.specs.File.{Account}
use Rattle.rules.specs.Lines.{left_with_blocked, lines_after, sum_over}
use Rattle.rules.specs.Pairs.{available, book_of, contracts_after, pairs_after}
use Rattle.rules.specs.Promises.{Contracts, Unmade, left_quantity, pair_quantity, unpaired}

-- After n rounds: what the pair lines that name a row take is what the pairing has used of it.
taken_after : (a : Account) (n r : ℕ) → sum_over (pair_quantity r) (lines_after a n) + contracts_after a n r ≡ available a r
taken_after a n r = omega (arith, pair_quantities a (pairs_after a n) (left_with_blocked a n) a.positions r, made_left (book_of a) (available a) n r)

-- The quantities of the pair lines that name a row and that of its left line add up to Q.
contracts_after_lem : (a : Account) (n r : ℕ) → r < a.positions → (a.position_at r).blocked ≤ (a.position_at r).q
    → sum_over (pair_quantity r) (lines_after a n) + sum_over (left_quantity r) (lines_after a n) ≡ (a.position_at r).q
contracts_after_lem a n r l most = omega (arith, taken_after a n r, left_quantities a (pairs_after a n) (left_with_blocked a n) a.positions r l)

pub contracts : (a : Account) → BlockedFits a → Contracts a
contracts a fits r l = rw (lines_are a) (contracts_after_lem a a.positions r l (fits.most r l))

pub unblocked : (a : Account) → BlockedFits a → Unblocked a
unblocked a fits r l = rw (lines_are a) (omega (arith, taken_after a a.positions r, fits.most r l))

-- Q less the blocked and less the quantities of the pair lines that name a row is what the pairing may still use of it.
unpaired_after : (a : Account) (n r : ℕ) → (a.position_at r).q - (a.position_at r).blocked - sum_over (pair_quantity r) (lines_after a n) ≡ contracts_after a n r
unpaired_after a n r = omega (arith, taken_after a n r)

pub unpaired_is : (a : Account) (r : ℕ) → unpaired a r ≡ contracts_after a a.positions r
unpaired_is a r = rw (lines_are a) (unpaired_after a a.positions r)

pub unmade : (a : Account) → Unmade a
unmade a w h lw lh = rw (unpaired_is a w, unpaired_is a h) (none_allowed (book_of a) (apart a) (available a) w h lw lh)
