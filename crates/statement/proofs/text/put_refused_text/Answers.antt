use Rattle.statement.proofs.TextLaws.{refused_put}
use Rattle.statement.proofs.text.put_refused_text.Goals as goal

pub returns : goal.returns
returns c =
    let p = c.put_number-first.ensures in
    let q = c.put_number-second.ensures in
    refused_put c.args.number c.args.row c.put_word-word.ensures p.0 q.0 c.put_word.ensures p.1 q.1
