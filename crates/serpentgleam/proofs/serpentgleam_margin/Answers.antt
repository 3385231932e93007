use Rattle.std.proofs.Common.{◌∙◌}
use Rattle.serpentgleam.proofs.Settling.{list_is}
use Rattle.serpentgleam.proofs.serpentgleam_margin.Goals as goal

pub returns-clause-list : goal.returns-clause-list
returns-clause-list c =
    c.write_entries.ensures
    ∙ list_is c.args.file.now c.args.lines.now c.settle-answer.new.numbers c.settle-answer.result c.settle-answer.ensures c.line_count-n.result c.line_count-n.ensures
