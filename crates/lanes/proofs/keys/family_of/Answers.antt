use Rattle.lanes.proofs.FamilyLaws.{family_most}
use Rattle.lanes.proofs.MarkLaws.{family_is}
use native.Mathlib.Omega.{arith}
use Rattle.lanes.proofs.keys.family_of.Goals as goal

pub returns : goal.returns
returns c = let e = family_is c.args.p _ _ c.normalised.ensures c.barrier_family.ensures in (e, omega (arith, e, family_most c.args.p))
