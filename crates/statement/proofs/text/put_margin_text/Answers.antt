use Rattle.statement.proofs.MarginLaws.{accepted_put, refused_file_put}
use Rattle.statement.proofs.text.put_margin_text.Goals as goal

pub returns-in-Ok : goal.returns-in-Ok
returns-in-Ok c =
    let s = c.settle-answer in
    accepted_put c.args.file.now s.new.numbers s.result s.ensures c.in-Ok.margin.count c.in-Ok.margin.total c.premium_total.result c.in-Ok.is
    c.premium_total.ensures c.put_lines_text-end.ensures c.put_totals_text.ensures

pub returns-in-Err : goal.returns-in-Err
returns-in-Err c =
    let s = c.settle-answer in
    refused_file_put c.args.file.now s.new.numbers s.result s.ensures c.in-Err.refused.why c.refusal_number.result c.in-Err.refused.row c.in-Err.is
    c.refusal_number.ensures c.put_refused_text.ensures
