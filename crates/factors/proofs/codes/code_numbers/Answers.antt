use mathlib.Core.Path.{refl}
use Rattle.factors.proofs.Daily.{numbers_of}
use Rattle.factors.specs.Factors.{multiplied}
use Rattle.factors.specs.declared.Code.TheVariants.{FCI, FPI, OFC, OFV}
use Rattle.factors.proofs.codes.code_numbers.Goals as goal

pub returns-in-FCI : goal.returns-in-FCI
unfolding multiplied
returns-in-FCI c = numbers_of c.args.code FCI _ c.in-FCI.is refl refl tt tt

pub returns-in-FPI : goal.returns-in-FPI
unfolding multiplied
returns-in-FPI c = numbers_of c.args.code FPI _ c.in-FPI.is refl refl tt tt

pub returns-in-OFC : goal.returns-in-OFC
unfolding multiplied
returns-in-OFC c = numbers_of c.args.code OFC _ c.in-OFC.is refl refl tt tt

pub returns-in-OFV : goal.returns-in-OFV
unfolding multiplied
returns-in-OFV c = numbers_of c.args.code OFV _ c.in-OFV.is refl refl tt tt
