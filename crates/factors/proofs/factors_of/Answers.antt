use Rattle.factors.proofs.Steps.{high_formula_asked, high_growth_asked, low_formula_asked, low_growth_asked}
use lib.Dec.{lit≤}
use Rattle.factors.proofs.factors_of.Goals as goal

pub growth-high-requires : goal.growth-high-requires
growth-high-requires c = high_growth_asked c.args.code c.code_numbers-numbers.result c.args.days c.code_numbers-numbers.ensures c.requires _ (lit≤ tt)

pub growth-low-requires : goal.growth-low-requires
growth-low-requires c = low_growth_asked c.args.code c.code_numbers-numbers.result c.args.days c.code_numbers-numbers.ensures c.requires _ (lit≤ tt)

pub high_factor-fa-requires : goal.high_factor-fa-requires
high_factor-fa-requires c = high_formula_asked c.args.code c.code_numbers-numbers.result c.args.days c.code_numbers-numbers.ensures c.requires c.growth-high.result c.root-s.result c.root-s.ensures c.growth-high.ensures

pub low_factor-fb-requires : goal.low_factor-fb-requires
low_factor-fb-requires c = low_formula_asked c.args.code c.code_numbers-numbers.result c.args.days c.code_numbers-numbers.ensures c.requires c.growth-low.result c.root-s.result c.root-s.ensures c.growth-low.ensures
