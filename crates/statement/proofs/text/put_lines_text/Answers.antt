use Rattle.std.proofs.Common.{arith}
use Rattle.statement.proofs.TextLaws.{next_line, no_lines}
use Rattle.statement.proofs.text.put_lines_text.Goals as goal

pub loop-i-init : goal.loop-i-init
loop-i-init c = (no_lines c.args.text.now c.args.numbers.now, omega arith)

pub loop-i-preserved : goal.loop-i-preserved
loop-i-preserved c =
    let o = c.loop-i in
    let n = c.put_line_text-at in
    (next_line c.args.numbers.now o.i c.line_at.result c.line_at.ensures o.invariant.0 n.ensures.0, omega (arith, o.invariant.1, n.ensures.1))
