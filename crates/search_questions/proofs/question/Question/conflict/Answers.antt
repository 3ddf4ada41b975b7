-- A finder finds none only where some settings meet.
use Rattle.std.proofs.Common.{◌≡◌, length, sym, subst}
use Rattle.std.specs.Prelude.{IfSome, option_map}
use Rattle.sysmem_merge.specs.declared.settings.Settings.{Settings}
use Rattle.verdict_claims.specs.Conflict.{IsConflictFor}
use Rattle.verdict_claims.specs.FirstConflict.{IsFirstConflictFor}
use Rattle.search_questions.specs.Question.{MeetsHere}
use Rattle.verdict_claims.specs.Matter.{forest, terms}
use Rattle.search_questions.proofs.AskedMembers.{if_some}
use Rattle.search_questions.proofs.Unmet.{no_conflict, none_are_left}
use Rattle.sysmem_tree.specs.Forest.{choices}
use Rattle.sysmem_tree.specs.Selection.{IsPrefix, after}
use Rattle.search_questions.proofs.question.Question.conflict.Goals as goal

pub find_conflict_as-requires-clause-lays : goal.find_conflict_as-requires-clause-lays
find_conflict_as-requires-clause-lays c = c.self.invariant.0.laid.lays

pub find_conflict_as-requires-clause-nodes : goal.find_conflict_as-requires-clause-nodes
find_conflict_as-requires-clause-nodes c = c.self.invariant.0.laid.nodes

pub find_conflict_as-requires-clause-prefix : goal.find_conflict_as-requires-clause-prefix
find_conflict_as-requires-clause-prefix c = subst (λ s. IsPrefix (forest s.matter) s.choices) (sym c.self.view_is) c.requires.prefix

pub find_conflict_as-requires-clause-whole : goal.find_conflict_as-requires-clause-whole
find_conflict_as-requires-clause-whole c = λ d leads.
    let m = c.self.inside.subject.now in
    none_are_left m c.self.inside.prefix c.children.result c.is_none-whole.result d leads c.is_none-whole.ensures
    (subst (λ s. IfSome (after (forest s.matter) s.choices) (λ e. option_map length (choices e) ≡ c.children.result)) (sym c.self.view_is) c.children.ensures.number)

pub unreachable-requires : goal.unreachable-requires
unreachable-requires c =
    let m = c.self.inside.subject.now in
    let prefix = subst (λ s. IsPrefix (forest s.matter) s.choices) (sym c.self.view_is) c.requires.prefix in
    let unmet = subst (λ s. IfSome (after (forest s.matter) s.choices) (λ d. (t : Settings) → ¬ (MeetsHere s.matter d t))) (sym c.self.view_is) c.requires.unmet in
    no_conflict m c.self.inside.prefix c.in_ok-found.found prefix c.in-None.is unmet c.in_ok-found.ensures.none

pub returns-clause-conflict : goal.returns-clause-conflict
returns-clause-conflict c =
    let m = c.self.inside.subject.now in
    subst (λ s. IfSome (after (forest s.matter) s.choices) (λ d. IsConflictFor s.matter.platform (terms s.matter) d c.in-Some.conflict)) c.self.view_is
    (if_some (λ d. IsConflictFor m.platform (terms m) d c.in-Some.conflict) (after (forest m) c.self.inside.prefix) (λ d leads.
    subst (λ o. IfSome o (IsConflictFor m.platform (terms m) d)) c.in-Some.is (c.in_ok-found.ensures.conflict d leads)))

pub returns-clause-first : goal.returns-clause-first
returns-clause-first c =
    let m = c.self.inside.subject.now in
    subst (λ s. IfSome (after (forest s.matter) s.choices) (λ d. IsFirstConflictFor s.matter.platform (terms s.matter) d c.in-Some.conflict)) c.self.view_is
    (if_some (λ d. IsFirstConflictFor m.platform (terms m) d c.in-Some.conflict) (after (forest m) c.self.inside.prefix) (λ d leads.
    subst (λ o. IfSome o (IsFirstConflictFor m.platform (terms m) d)) c.in-Some.is (c.in_ok-found.ensures.first d leads)))
