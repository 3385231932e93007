use Rattle.std.proofs.Common.{ℕ, ap, ◌∙◌}
use Rattle.lines.specs.LineNumbers.{lines_from}
use Rattle.rules.specs.Instalments.{begins_with}
use Rattle.serpentgleam.proofs.Instalments.{amount_so_far_lem}
use Rattle.serpentgleam.proofs.serpentgleam_amount_so_far.Goals as goal

pub returns : goal.returns
returns c =
    let alike = c.agree-same.ensures ∙ ap (λ (n : ℕ). begins_with (lines_from c.amount_after-ready.new.numbers n) c.args.lines.now) c.lines_compared-first.ensures in
    c.told.ensures
    ∙ amount_so_far_lem c.args.file.now c.args.lines.now c.args.count c.amount_after-ready.new.numbers c.amount_after-ready.result c.agree-same.result alike c.amount_after-ready.ensures
