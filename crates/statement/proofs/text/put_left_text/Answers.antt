use Rattle.statement.proofs.TextLaws.{left_put}
use Rattle.statement.proofs.text.put_left_text.Goals as goal

pub returns : goal.returns
returns c =
    let p = c.put_number-second.ensures in
    let q = c.put_number-third.ensures in
    let r = c.put_number-fourth.ensures in
    left_put c.args.line c.put_word-word.ensures p.0 q.0 r.0 c.put_word.ensures p.1 q.1 r.1
