use Rattle.statement.proofs.TextLaws.{pair_put}
use Rattle.statement.proofs.text.put_pair_text.Goals as goal

pub returns : goal.returns
returns c =
    let p = c.put_number-second.ensures in
    let q = c.put_number-third.ensures in
    let r = c.put_number-fourth.ensures in
    let s = c.put_number-fifth.ensures in
    pair_put c.args.line c.put_word-word.ensures p.0 q.0 r.0 s.0 c.put_word.ensures p.1 q.1 r.1 s.1
