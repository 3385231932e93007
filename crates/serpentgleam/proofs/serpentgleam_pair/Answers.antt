use Rattle.std.proofs.Common.{ℕ, ap, ap₂, ◌∙◌}
use Rattle.lent.specs.Entries.{entries_written}
use Rattle.lines.specs.LineNumbers.{lines_from}
use Rattle.rules.specs.Instalments.{begins_with}
use Rattle.serpentgleam.proofs.Instalments.{pairs_told_lem, pairs_written}
use Rattle.serpentgleam.proofs.serpentgleam_pair.Goals as goal

pub returns-clause-numbers : goal.returns-clause-numbers
returns-clause-numbers c =
    let alike = c.agree-same.ensures ∙ ap (λ (n : ℕ). begins_with (lines_from c.next_pairs-ready.new.numbers n) c.args.lines.now) c.lines_compared-first.ensures in
    c.told.ensures
    ∙ pairs_told_lem c.args.file.now c.args.lines.now c.args.count c.next_pairs-ready.new.numbers c.next_pairs-ready.result c.agree-same.result alike c.args.allowance c.next_pairs-ready.ensures

pub returns-clause-list : goal.returns-clause-list
returns-clause-list c =
    let alike = c.agree-same.ensures ∙ ap (λ (n : ℕ). begins_with (lines_from c.next_pairs-ready.new.numbers n) c.args.lines.now) c.lines_compared-first.ensures in
    c.write_entries.ensures
    ∙ ap₂ (λ (m n : ℕ). entries_written c.next_pairs-ready.new.numbers m n c.args.lines.now) c.lines_compared-first.ensures c.lines_after-last.ensures
    ∙ pairs_written c.args.file.now c.args.lines.now c.args.count c.next_pairs-ready.new.numbers c.next_pairs-ready.result c.agree-same.result alike c.args.allowance c.next_pairs-ready.ensures
