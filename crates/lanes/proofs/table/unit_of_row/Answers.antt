use Rattle.lanes.specs.Limiters.{if_written}
use Rattle.position.proofs.TermsUnit.{terms_unit}
use Rattle.rules.specs.File.{account_of}
use Rattle.rules.specs.OnePosition.{unit_margin}
use Rattle.rules.specs.declared.Series.{Series}
use Rattle.rules.specs.declared.Side.{Side}
use mathlib.Core.Path.{◌∙◌, ap, sym}
use Rattle.lanes.proofs.table.unit_of_row.Goals as goal

pub returns-in-Written : goal.returns-in-Written
returns-in-Written c = terms_unit c.series_of_position.result c.args.p c.normalised.result c.unit_margin.result c.normalised.ensures c.unit_margin.ensures ∙ ap (λ (x : Series). unit_margin x c.args.p) c.series_of_position.ensures ∙ sym ((ap (λ (x : Side). if_written x (unit_margin ((account_of c.args.file.now.bytes.now c.args.file.now.layout).series_at c.args.p.series) c.args.p))) c.in-Written.is)
