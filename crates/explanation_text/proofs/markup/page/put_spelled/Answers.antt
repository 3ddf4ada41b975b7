use Rattle.std.proofs.Common.{◌∙◌, ◌++◌, ap, sym}
use Rattle.std.proofs.lemmas.Iterator.{YieldsList-from_chars}
use Rattle.std.proofs.lemmas.Iterator.Consumers.{YieldsList-end}
use Rattle.std.proofs.lemmas.List.{append_assoc}
use Rattle.std.specs.String.{string_bytes}
use Rattle.explanation_text.specs.Spelled.{spelled, spelling}
use Rattle.explanation_text.proofs.Spelling.{map_same, spelled_push}
use Rattle.explanation_text.proofs.markup.page.put_spelled.Goals as goal

pub loop-c-preserved : goal.loop-c-preserved
loop-c-preserved c =
    let before = string_bytes c.args.text.now in
    c.in_ok-put_character.ensures
    ∙ ap (λ t. t ++ spelling c.in-Some.c) c.loop-c.invariant
    ∙ append_assoc before (spelled c.loop-c.yielded) (spelling c.in-Some.c)
    ∙ ap (λ t. before ++ t) (sym (spelled_push c.loop-c.yielded c.in-Some.c))

pub returns : goal.returns
returns c =
    let before = string_bytes c.args.text.now in
    let all = YieldsList-end (YieldsList-from_chars c.args.words.now c.utf8.words cc) c.loop-c.yielded _ c.loop-c.yielded_by _ _ c.in-None.is c.next.ensures.steps in
    c.loop-c.invariant ∙ ap (λ cs. before ++ spelled cs) (sym (map_same c.loop-c.yielded) ∙ all.0)
