use Prim.Native.Nat.{ℕ}
use Rattle.position.proofs.TermsUnit.{terms_unit}
use Rattle.rules.specs.OnePosition.{amount_by_side, amount_of}
use Rattle.rules.specs.declared.Side.{Side}
use mathlib.Core.Path.{◌∙◌, ap, sym}
use native.Mathlib.Omega.{arith}
use Rattle.position.proofs.amount.amount_by_side.Goals as goal

pub amount-requires : goal.amount-requires
amount-requires c = (omega (arith, (terms_unit c.args.s c.args.p c.normalised.result c.unit_margin.result c.normalised.ensures c.unit_margin.ensures), c.requires.unit_most), c.requires.m_most, c.requires.q_most)

pub returns-in-Written : goal.returns-in-Written
returns-in-Written c = (c.amount.ensures.0 ∙ ap (λ (u : ℕ). amount_of u c.args.s.m c.args.p.q) (terms_unit c.args.s c.args.p c.normalised.result c.unit_margin.result c.normalised.ensures c.unit_margin.ensures) ∙ sym ((ap (λ (x : Side). amount_by_side x c.args.s c.args.p)) c.in-Written.is), c.amount.ensures.1)
