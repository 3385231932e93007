use Rattle.day.proofs.Loop.{row_flags, still_placed, stored}
use Rattle.rules.proofs.DayLaws.{flags_none}
use Rattle.day.proofs.flags.write_flags.Goals as goal

pub loop-r-init : goal.loop-r-init
loop-r-init c = flags_none c.args.file.now c.args.l c.args.d c.requires.placed

pub write_row_flags-requires : goal.write_row_flags-requires
write_row_flags-requires c = (still_placed c.args.file.now c.args.l c.args.d c.requires c.loop-r.file c.loop-r.r c.loop-r.invariant, c.loop-r-test.true, row_flags c.args.file.now c.args.l c.args.d c.requires c.loop-r.file c.loop-r.r c.loop-r.invariant c.loop-r-test.true)

pub loop-r-preserved : goal.loop-r-preserved
loop-r-preserved c = stored c.args.file.now c.args.l c.args.d c.requires c.loop-r.file c.loop-r.r c.loop-r.invariant c.loop-r-test.true _ c.write_row_flags.ensures
