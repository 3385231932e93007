use Rattle.rules.proofs.Chain.{passes, stops}
use Rattle.rules.specs.Refusals.{trailer_fault}
use mathlib.Core.Path.{refl}
use Rattle.account.proofs.faults.trailer_fault.Goals as goal

pub returns-then-n : goal.returns-then-n
unfolding trailer_fault
returns-then-n c = stops _ _ _ _ refl c.if-n.true

pub returns-then-wrong_trailer : goal.returns-then-wrong_trailer
unfolding trailer_fault
returns-then-wrong_trailer c = passes _ _ _ _ _ refl c.if-n.false (stops _ _ _ _ c.wrong_trailer.ensures c.if-wrong_trailer.true)

pub returns-then-wrong_distance : goal.returns-then-wrong_distance
unfolding trailer_fault
returns-then-wrong_distance c = passes _ _ _ _ _ refl c.if-n.false (passes _ _ _ _ _ c.wrong_trailer.ensures c.if-wrong_trailer.false (stops _ _ _ _ c.wrong_distance.ensures c.if-wrong_distance.true))

pub returns : goal.returns
unfolding trailer_fault
returns c = passes _ _ _ _ _ refl c.if-n.false (passes _ _ _ _ _ c.wrong_trailer.ensures c.if-wrong_trailer.false (passes _ _ _ _ _ c.wrong_distance.ensures c.if-wrong_distance.false refl))
