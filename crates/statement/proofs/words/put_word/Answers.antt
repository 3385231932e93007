use Rattle.std.proofs.Common.{List, ℕ, ◌+◌, ◌++◌, length, take, refl, sym, ap, ◌∙◌, arith}
use Rattle.std.proofs.lemmas.Slice.{take-put_mid}
use Rattle.statement.proofs.words.put_word.Goals as goal

pub returns : goal.returns
returns c =
    let text = c.args.text.now in
    let at = c.args.at in
    let part = c.copy_from_slice in
    record {
      end_is = refl;
      text_is = take-put_mid at _ text part.new.self _ (ap (λ (x : List ℕ). at + length x) (sym part.ensures.after)) (omega arith) ∙ ap (λ (x : List ℕ). take at text ++ x) part.ensures.after;
    }
