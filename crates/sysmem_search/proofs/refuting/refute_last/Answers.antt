-- A selection that can't be met is met by none.
use Rattle.std.proofs.Common.{[], ◌∷◌, ◌++◌}
use Rattle.verdict_claims.specs.Matter.{forest}
use Rattle.search_questions.proofs.CallerLemmas.{unmet_selection}
use Rattle.sysmem_tree.specs.Selection.{after}
use Rattle.sysmem_search.proofs.refuting.refute_last.Goals as goal

pub last_conflict-requires-clause-unmet : goal.last_conflict-requires-clause-unmet
last_conflict-requires-clause-unmet c =
    let q = c.args.question.now in
    unmet_selection q.matter (after (forest q.matter) (q.choices ++ c.args.last ∷ [])) c.requires.whole c.requires.unmet
