use Prim.Native.Nat.{◌+◌}
use Rattle.pairing.specs.Pairing.{PairedBy}
use Rattle.pairing.specs.Standings.{Standings}
use Rattle.rules.specs.File.{account_of}
use lib.ListN.{length}
use mathlib.Core.Path.{◌≡◌}
use Rattle.pairing.proofs.pairs.pair_rounds.Given as goal

abbrev pub invariant-loop-allowance : goal.invariant-loop-allowance
invariant-loop-allowance l = PairedBy l.k (account_of l.file.bytes.now l.file.layout) l.left l.numbers (record { count = l.k; total = l.total }) × (length l.left ≡ length l.initial.left) × Standings (account_of l.file.bytes.now l.file.layout) l.left l.table l.tree l.places × (length l.tree ≡ length l.initial.tree) × (length l.places ≡ length l.initial.places) × (length l.numbers ≡ length l.initial.numbers) × (l.k + l.allowance ≡ l.initial.k + l.most)

abbrev pub decreases-loop-allowance : goal.decreases-loop-allowance
decreases-loop-allowance l = l.allowance
