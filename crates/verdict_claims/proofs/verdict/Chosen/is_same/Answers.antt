-- By the choices, and then by the settings.
use Rattle.std.proofs.Common.{sym, ◌∙◌}
use Rattle.verdict_claims.proofs.Equal.{same_chosen}
use Rattle.verdict_claims.proofs.verdict.Chosen.is_same.Goals as goal

pub returns-then-is_same_choices : goal.returns-then-is_same_choices
returns-then-is_same_choices c =
    let choices = c.is_same_choices.ensures.0 c.if-is_same_choices.true in
    let selection = sym c.selection.ensures ∙ (sym c.choices.ensures ∙ (choices ∙ (c.choices-2.ensures ∙ c.selection-2.ensures))) in
    same_chosen c.args.self.now c.args.other.now c.settings.result c.settings-then-is_same_choices.result c.eq.result selection c.eq.ensures c.settings.ensures c.settings-then-is_same_choices.ensures
