-- With a base the participant is asked how it takes that.
use Rattle.std.proofs.Common.{[], ◌∷◌, ◌++◌, sym, ◌∙◌, ap, subst}
use Rattle.std.specs.Prelude.{option_map}
use Rattle.search_questions.specs.Kept.{IsPartFor, TakesBase}
use Rattle.search_questions.proofs.Keeping.{part_taken, taken_part}
use Rattle.search_questions.proofs.kept.ChoiceShare.add.Goals as goal

pub returns-in-Some : goal.returns-in-Some
returns-in-Some c = λ ps is.
    let m = c.args.subject.now in
    let base = c.in-Some.base.now in
    let some = sym c.base.ensures ∙ ap (option_map (λ b. b.now)) c.in-Some.is in
    let taken = part_taken m.platform m.base base c.settings.result c.in-OnBase.part ps some c.settings.ensures (subst (λ p. IsPartFor m p ps) c.in-OnBase.is is) in
    taken_part m.platform m.base base c.settings.result c.add-in-Some.new.self _ some c.settings.ensures
    (subst (λ p. TakesBase p c.settings.result [] c.add-in-Some.new.self (ps ++ c.args.asked.now ∷ [])) c.platform-in-Some.ensures
    (c.add-in-Some.ensures [] ps (subst (λ p. TakesBase p c.settings.result [] c.in-OnBase.part ps) (sym c.platform-in-Some.ensures) taken)))
