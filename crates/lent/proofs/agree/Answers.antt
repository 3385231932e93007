use Rattle.std.proofs.Common.{◌<◌, length, arith, ◌∙◌}
use Rattle.lent.proofs.EntryLaws.{alike_more, alike_none}
use Rattle.lent.proofs.agree.Goals as goal

pub loop-i-init : goal.loop-i-init
loop-i-init c = alike_none c.args.numbers.now c.args.lines.now

pub loop-i-preserved : goal.loop-i-preserved
loop-i-preserved c =
    let below : c.loop-i.i < length c.args.lines.now = omega arith in
    c.same_too-same.ensures
    ∙ rw c.loop-i.invariant (alike_more c.args.numbers.now c.args.lines.now c.loop-i.i _ below)
