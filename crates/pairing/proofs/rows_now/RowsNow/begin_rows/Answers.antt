use Rattle.lanes.proofs.FileFacts.{ranged}
use Rattle.pairing.proofs.StandingLaws.{standings_filled}
use Rattle.pairing.specs.Standings.{Leaves}
use Rattle.rules.specs.File.{account_of}
use mathlib.Core.Path.{subst}
use Prim.Native.Nat.{ℕ}
use native.Mathlib.Omega.{arith}
use Rattle.pairing.proofs.rows_now.RowsNow.begin_rows.Goals as goal

pub returns : goal.returns
returns c =
    let file = c.args.self.now.file in
    let a = account_of file.bytes.now file.layout in
    standings_filled a c.args.self.now.left.now c.args.self.now.table.now c.loop-w.tree c.loop-w.places c.fill.new.tree
    (subst (λ (n : ℕ). Leaves a c.args.self.now.left.now c.args.self.now.table.now n 256 c.loop-w.tree c.loop-w.places) (omega (arith, c.loop-w-test.false, c.loop-w.auto.w-end)) c.loop-w.invariant)
    (ranged file.bytes.now file.layout c.args.self.now.rests.file).rows_most c.fill.ensures.0 c.fill.ensures.1 c.fill.auto.tree
