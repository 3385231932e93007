use mathlib.Core.Path.{◌≡◌}
use Rattle.factors.specs.Factors.{multiplied}
use Rattle.factors.proofs.growth.growth.Given as goal

abbrev pub invariant-loop : goal.invariant-loop
invariant-loop l = l.x ≡ multiplied l.rounding l.d l.counter
