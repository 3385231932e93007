use Rattle.numbers.proofs.Products.{amount_most, split}
use Rattle.numbers.proofs.amount.Goals as goal

pub returns : goal.returns
returns c =
    let a = c.args in
    (split a.unit a.m a.q, rw (split a.unit a.m a.q) (amount_most a.unit a.m a.q c.requires.0 c.requires.1 c.requires.2))
