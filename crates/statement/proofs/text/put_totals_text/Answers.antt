use Rattle.statement.proofs.TextLaws.{totals_put}
use Rattle.statement.proofs.text.put_totals_text.Goals as goal

pub returns : goal.returns
returns c =
    let p = c.put_number-number.ensures in
    let q = c.put_number-number-2.ensures in
    totals_put c.args.premium c.args.total c.put_word-word.ensures p.0 c.put_word-line.ensures c.put_word-word-2.ensures q.0 c.put_word.ensures p.1 q.1
