-- No participant refuses a base.
use Rattle.std.proofs.Common.{[], refl, sym, ◌∙◌, ap}
use Rattle.std.specs.Prelude.{option_map}
use Rattle.search_questions.proofs.Keeping.{taken_part}
use Rattle.search_questions.proofs.kept.ChoiceShare.new.Goals as goal

pub returns-in-Some : goal.returns-in-Some
returns-in-Some c =
    let m = c.args.subject.now in
    let base = c.in-Some.field-0.now in
    taken_part m.platform m.base base base.settings c.new-in-Some.result [] (sym c.base.ensures ∙ ap (option_map (λ b. b.now)) c.in-Some.is) refl
    (c.new-in-Some.ensures m.platform base.settings)
