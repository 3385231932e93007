use Rattle.day.proofs.Loop.{other_row, own_row}
use Rattle.rules.specs.Day.{flags_crossed}
use Rattle.rules.specs.declared.Barrier.{Barrier}
use mathlib.Core.Path.{◌∙◌, ap}
use Rattle.day.proofs.flags.write_row_flags.Goals as goal

pub returns-then-row-d : goal.returns-then-row-d
returns-then-row-d c = own_row c.args.file.now c.args.l c.args.d c.args.r c.requires.0 c.requires.1 c.position_row-row.result c.position_row-row.ensures c.flags_crossed-flags.result c.if-row-d.true (c.flags_crossed-flags.ensures.0 ∙ ap (λ (x : Barrier). flags_crossed c.args.d x c.position_row-row.result.flags) c.barrier_of.ensures)

pub returns-else-row-d : goal.returns-else-row-d
returns-else-row-d c = other_row c.args.file.now c.args.l c.args.d c.args.r c.requires.0 c.requires.1 c.position_row-row.result c.position_row-row.ensures c.if-row-d.false
