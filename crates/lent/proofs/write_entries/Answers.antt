use Rattle.std.proofs.Common.{◌<◌, length, List, arith, ap₂, sym, ◌∙◌, slice_set}
use Rattle.lent.proofs.EntryLaws.{written_more, written_none}
use Rattle.rules.specs.declared.Line.{Line}
use Rattle.lent.proofs.write_entries.Goals as goal

pub loop-i-init : goal.loop-i-init
loop-i-init c = sym (written_none c.args.numbers.now c.args.from c.args.lines.now)

pub loop-i-preserved : goal.loop-i-preserved
loop-i-preserved c =
    let below : c.loop-i.i < length c.args.lines.now = omega arith in
    ap₂ (λ (l : List Line) (x : Line). slice_set l c.loop-i.i x) c.loop-i.invariant c.line_at.ensures
    ∙ written_more c.args.numbers.now c.args.from c.args.lines.now c.loop-i.i c.loop-i.auto.i below
