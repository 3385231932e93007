use Rattle.std.proofs.Common.{ℕ, List, ap, ◌∙◌}
use Rattle.lent.proofs.Zeros.{zeros_are}
use Rattle.lent.specs.Entries.{entries_written}
use Rattle.lines.specs.LineNumbers.{most_pair_numbers}
use Rattle.serpentgleam.proofs.Apart.{apart_is, apart_written}
use Rattle.serpentgleam.specs.MarginNumbers.{answer_numbers}
use Rattle.serpentgleam.proofs.serpentgleam_take_apart.Goals as goal

pub returns-clause-numbers : goal.returns-clause-numbers
returns-clause-numbers c =
    c.lines_left.ensures
    ∙ ap answer_numbers
    (apart_is c.args.file.now c.args.lines.now c.args.count c.args.k c.next_pairs-ready.new.numbers c.next_pairs-ready.result c.next_pairs-ready.ensures c.lines_compared-n.result c.lines_compared-n.ensures c.agree-same.result c.agree-same.ensures c.taken_apart-answer.result c.taken_apart-answer.ensures)

pub returns-clause-list : goal.returns-clause-list
returns-clause-list c =
    c.write_entries.ensures
    ∙ ap (λ (z : List ℕ). entries_written z c.lines_kept-kept.result c.lines_compared-n.result c.args.lines.now) (zeros_are most_pair_numbers)
    ∙ apart_written c.args.file.now c.args.lines.now c.args.count c.args.k c.next_pairs-ready.new.numbers c.next_pairs-ready.result c.next_pairs-ready.ensures c.lines_compared-n.result c.lines_compared-n.ensures c.agree-same.result c.agree-same.ensures c.taken_apart-answer.result c.taken_apart-answer.ensures c.lines_kept-kept.result c.lines_kept-kept.ensures
