use Rattle.std.proofs.Common.{take, arith}
use Rattle.statement.proofs.DigitLaws.{number_put}
use Rattle.statement.proofs.words.put_number.Goals as goal

pub returns : goal.returns
returns c =
    let d = c.decimal-k in
    number_put c.args.n d.result (take d.result d.new.out) (omega (arith, c.ranges.n)) d.ensures.len d.ensures.digits d.ensures.in_bounds.1
    c.put_word-start.ensures c.put_word.ensures
