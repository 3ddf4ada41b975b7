use Rattle.std.specs.Str.{chars}
use Rattle.explanation_text.proofs.Spelling.{inert, ok_map}
use Rattle.explanation_text.proofs.markup.page.put_words.Goals as goal

pub returns : goal.returns
returns c =
    let said = chars c.deref.result.now in
    ok_map c.put_spelled.result (λ grown. record { said = said; grown = grown; inert = inert said }) c.put_spelled.ensures
