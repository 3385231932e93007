-- Document 01, Paths: "Demand 3 means this, for every accepted file", each of its four bullets as a type; and what document 02
-- [5] promises of rows with flag 16, which are in those four too.
use Rattle.std.specs.Prelude.{ℕ, ◌+◌, ◌*◌, ◌-◌, ◌≤◌, ◌<◌, true, false, cond, ◌&&◌, ◌||◌, List, ◌≡◌, eqb}
use Rattle.rules.specs.File.{Account, series_of_row}
use Rattle.rules.specs.Lines.{lines, sum_over, sum_to, total}
use Rattle.rules.specs.OnePosition.{rebate, unit_margin}
use Rattle.rules.specs.Pairs.{allowed, book_of}
use Rattle.rules.specs.Paths.{IsPath, payment}
use Rattle.rules.specs.Quantities.{minimum}
use Rattle.rules.specs.Refusals.{accepted, meaning}
use Rattle.rules.specs.declared.Line.{Line}
use Rattle.rules.specs.declared.Position.{Position}
use Rattle.rules.specs.declared.Series.{Series}
use Rattle.rules.specs.declared.Side.{Side}
use Rattle.rules.specs.declared.Side.TheVariants.{Held, Written}

-- "where every fb is at most 1,000,000"
abbrev pub LowFactors : Account → Type 0
LowFactors a = (i : ℕ) → i < a.series → (a.series_at i).fb ≤ 1_000_000

-- "every choice of one path for each series"
abbrev pub OnePathEach : Account → (ℕ → List ℕ) → Type 0
OnePathEach a path = (i : ℕ) → i < a.series → IsPath (a.series_at i) (path i)

-- The payment of row r: "All rows of a series follow its path."
abbrev pub row_payment : Account → (ℕ → List ℕ) → ℕ → ℕ
row_payment a path r = payment (series_of_row a r) (a.position_at r) (path (a.position_at r).series)

-- "A written row pays out its payment × M × Q." A held row pays nothing out.
abbrev pub row_pays_out : Side → ℕ → ℕ → ℕ → ℕ
row_pays_out Held pays m q = 0
row_pays_out Written pays m q = pays * m * q

-- "what the written rows pay out", "summed over the whole account"
abbrev pub written_pay_out : Account → (ℕ → List ℕ) → ℕ
written_pay_out a path =
    sum_to (λ r. row_pays_out (a.position_at r).side (row_payment a path r) (series_of_row a r).m (a.position_at r).q)
    a.positions

-- "A pair brings in its held row's payment × M × the pair's quantity"; "held contracts outside the pairs bring in
-- nothing". A pair line's numbers are 1, written row, held row, quantity, amount.
abbrev pub line_brings_in : Account → (ℕ → List ℕ) → Line → ℕ
line_brings_in a path x =
    cond (eqb x.kind 1) (row_payment a path x.thirdNumber * (series_of_row a x.thirdNumber).m * x.fourthNumber) 0

-- "what the pairs bring in", "summed over the whole account"
abbrev pub pairs_bring_in : Account → (ℕ → List ℕ) → ℕ
pairs_bring_in a path = sum_over (line_brings_in a path) (lines a)

-- "for every choice of one path for each series, total × 1,000,000 plus what the pairs bring in is at least what the
-- written rows pay out."
abbrev pub Cover : Account → Type 0
Cover a = (path : ℕ → List ℕ) → OnePathEach a path → written_pay_out a path ≤ total a * 1_000_000 + pairs_bring_in a path

-- The quantity of a pair line that names row r, and of the left line of row r.
abbrev pub pair_quantity : ℕ → Line → ℕ
pair_quantity r x = cond (eqb x.kind 1 && (eqb x.secondNumber r || eqb x.thirdNumber r)) x.fourthNumber 0

abbrev pub left_quantity : ℕ → Line → ℕ
left_quantity r x = cond (eqb x.kind 2 && eqb x.secondNumber r) x.thirdNumber 0

-- "for every row, the quantities of the pair lines that name it and the quantity of its left line (0 if it has none)
-- add up to Q."
abbrev pub Contracts : Account → Type 0
Contracts a =
    (r : ℕ) → r < a.positions → sum_over (pair_quantity r) (lines a) + sum_over (left_quantity r) (lines a) ≡ (a.position_at r).q

-- "with the contracts left in a row being Q less the quantities of the pair lines that name it", and by document 02 [9] "in
-- demand 3's pairs left unmade, a held row has contracts left only while some" of Q less the blocked "are unused". Those
-- that the pair lines name are at most so many (`Blocked.Unblocked`).
abbrev pub unpaired : Account → ℕ → ℕ
unpaired a r = (a.position_at r).q - (a.position_at r).blocked - sum_over (pair_quantity r) (lines a)

-- "after all pair lines .. no pair is allowed."
abbrev pub Unmade : Account → Type 0
Unmade a =
    (w h : ℕ) → w < a.positions → h < a.positions → allowed (book_of a) (unpaired a) w h ≡ false

-- "an amount per unit, in whole fine units, covers a position if it is at least the position's payment on every path
-- of its series."
abbrev pub Covers : Series → Position → ℕ → Type 0
Covers s p amount = (path : List ℕ) → IsPath s path → payment s p path ≤ amount

-- Of a row with flag 16 the "least amount is REB without the minimum" (document 02 [5]): its unit margin is REB, and every
-- amount that covers it, at least MM or not, is at least that.
abbrev pub LeastWithFlag16 : Series → Position → Type 0
LeastWithFlag16 s p =
    p.flags.knockedOut ≡ true
    → (unit_margin s p ≡ rebate p.terms) × ((amount : ℕ) → Covers s p amount → unit_margin s p ≤ amount)

-- "The unit margin of each written row covers it. Every other amount that covers it and is at least MM is, with one
-- fine unit added, at least that unit margin." With flag 16 there is no minimum.
abbrev pub LeastFor : Series → Position → Type 0
LeastFor s p =
    Covers s p (unit_margin s p)
    × ((amount : ℕ) → Covers s p amount → minimum s ≤ amount → unit_margin s p ≤ amount + 1)
    × LeastWithFlag16 s p

abbrev pub Least : Account → Type 0
Least a =
    (r : ℕ) → r < a.positions → (a.position_at r).side ≡ Written → LeastFor (series_of_row a r) (a.position_at r)

-- A pair line that names row r counts 1.
abbrev pub pair_names : ℕ → Line → ℕ
pair_names r x = cond (eqb x.kind 1 && (eqb x.secondNumber r || eqb x.thirdNumber r)) 1 0

-- Document 02 [5], of every row with flag 16, whatever fb is. It "is never paired": no pair line names it, and its left line has
-- all its contracts. It "pays REB on every path", held or written. Written, its "least amount is REB without the minimum".
pub record KnockedOutRow (a : Account) (r : ℕ) : Type 0 where
  pub never_paired : sum_over (pair_names r) (lines a) ≡ 0
  pub all_left : sum_over (left_quantity r) (lines a) ≡ (a.position_at r).q
  pub pays : (path : List ℕ) → IsPath (series_of_row a r) path → payment (series_of_row a r) (a.position_at r) path ≡ rebate (a.position_at r).terms
  pub least : (a.position_at r).side ≡ Written → LeastWithFlag16 (series_of_row a r) (a.position_at r)

abbrev pub KnockedOutRows : Account → Type 0
KnockedOutRows a =
    (r : ℕ) → r < a.positions → (a.position_at r).flags.knockedOut ≡ true → KnockedOutRow a r

-- Demand 3 of a file, and those rows': for whatever account its bytes mean.
abbrev pub CoverDemand : List ℕ → Type 0
CoverDemand b = (a : Account) → meaning b ≡ accepted a → LowFactors a → Cover a

abbrev pub ContractsDemand : List ℕ → Type 0
ContractsDemand b = (a : Account) → meaning b ≡ accepted a → Contracts a

abbrev pub UnmadeDemand : List ℕ → Type 0
UnmadeDemand b = (a : Account) → meaning b ≡ accepted a → Unmade a

abbrev pub LeastDemand : List ℕ → Type 0
LeastDemand b = (a : Account) → meaning b ≡ accepted a → LowFactors a → Least a

abbrev pub KnockedOutDemand : List ℕ → Type 0
KnockedOutDemand b = (a : Account) → meaning b ≡ accepted a → KnockedOutRows a
