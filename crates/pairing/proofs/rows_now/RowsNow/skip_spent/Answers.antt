use Rattle.pairing.proofs.SearchLaws.{skip_moves, skip_rises}
use native.Mathlib.Omega.{arith}
use Rattle.pairing.proofs.rows_now.RowsNow.skip_spent.Goals as goal

pub loop-u-smaller : goal.loop-u-smaller
loop-u-smaller c = let r = skip_rises c.args.self.now c.args.o c.args.w c.args.first c.args.top c.requires c.loop-u.u c.loop-u.invariant.0 c.loop-u.invariant.1 c.loop-u-test.true in omega (arith, r.0, r.1)

pub loop-u-preserved : goal.loop-u-preserved
loop-u-preserved c = (skip_moves c.args.self.now c.args.o c.args.w c.args.first c.args.top c.requires c.loop-u.u c.loop-u.invariant.0 c.loop-u.invariant.1 c.loop-u-test.true c.if-self-h-gt0.false, omega (arith, (skip_rises c.args.self.now c.args.o c.args.w c.args.first c.args.top c.requires c.loop-u.u c.loop-u.invariant.0 c.loop-u.invariant.1 c.loop-u-test.true).0, c.loop-u.invariant.1))
