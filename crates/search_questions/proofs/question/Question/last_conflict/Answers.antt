-- The last choice is made, and taken back once a conflict is found.
use Rattle.std.proofs.Common.{◌≡◌, ◌∷◌, ◌++◌, [], Some, None, length, sym, subst}
use Rattle.std.specs.Prelude.{IfSome, option_map}
use Rattle.sysmem_merge.specs.declared.settings.Settings.{Settings}
use Rattle.verdict_claims.specs.Conflict.{IsConflictFor}
use Rattle.verdict_claims.specs.FirstConflict.{IsFirstConflictFor}
use Rattle.search_questions.specs.Question.{MeetsHere}
use Rattle.verdict_claims.specs.Matter.{forest, terms}
use Rattle.search_questions.proofs.AskedMembers.{if_some}
use Rattle.search_questions.proofs.Unmet.{last_is_whole, no_conflict}
use Rattle.sysmem_tree.specs.Forest.{choices}
use Rattle.sysmem_tree.specs.Selection.{IsPrefix, after}
use Rattle.search_questions.proofs.question.Question.last_conflict.Goals as goal

pub find_conflict_as-found-requires-clause-lays : goal.find_conflict_as-found-requires-clause-lays
find_conflict_as-found-requires-clause-lays c = c.self.invariant.0.laid.lays

pub find_conflict_as-found-requires-clause-nodes : goal.find_conflict_as-found-requires-clause-nodes
find_conflict_as-found-requires-clause-nodes c = c.self.invariant.0.laid.nodes

pub find_conflict_as-found-requires-clause-prefix : goal.find_conflict_as-found-requires-clause-prefix
find_conflict_as-found-requires-clause-prefix c =
    let m = c.self.inside.subject.now in
    subst (λ cs. IsPrefix (forest m) cs) (sym c.push.ensures) (subst (λ s. IsPrefix (forest s.matter) (s.choices ++ c.args.choice ∷ [])) (sym c.self.view_is) c.requires.prefix)

pub find_conflict_as-found-requires-clause-whole : goal.find_conflict_as-found-requires-clause-whole
find_conflict_as-found-requires-clause-whole c = λ d leads.
    let m = c.self.inside.subject.now in
    last_is_whole m (c.self.inside.prefix ++ c.args.choice ∷ []) d (subst (λ cs. after (forest m) cs ≡ Some d) c.push.ensures leads)
    (subst (λ s. IfSome (after (forest s.matter) (s.choices ++ c.args.choice ∷ [])) (λ e. option_map length (choices e) ≡ None)) (sym c.self.view_is) c.requires.last)

pub unreachable-requires : goal.unreachable-requires
unreachable-requires c =
    let m = c.self.inside.subject.now in
    let prefix = subst (λ s. IsPrefix (forest s.matter) (s.choices ++ c.args.choice ∷ [])) (sym c.self.view_is) c.requires.prefix in
    let unmet = subst (λ s. IfSome (after (forest s.matter) (s.choices ++ c.args.choice ∷ [])) (λ d. (t : Settings) → ¬ (MeetsHere s.matter d t))) (sym c.self.view_is) c.requires.unmet in
    no_conflict m c.push.new.self c.in_ok-conflict.field-0 (subst (IsPrefix (forest m)) (sym c.push.ensures) prefix) c.in-None.is
    (subst (λ cs. IfSome (after (forest m) cs) (λ d. (t : Settings) → ¬ (MeetsHere m d t))) (sym c.push.ensures) unmet) c.in_ok-conflict.ensures.none

pub returns-clause-conflict : goal.returns-clause-conflict
returns-clause-conflict c =
    let m = c.self.inside.subject.now in
    subst (λ s. IfSome (after (forest s.matter) (s.choices ++ c.args.choice ∷ [])) (λ d. IsConflictFor s.matter.platform (terms s.matter) d c.in-Some.conflict)) c.self.view_is
    (subst (λ cs. IfSome (after (forest m) cs) (λ d. IsConflictFor m.platform (terms m) d c.in-Some.conflict)) c.push.ensures
    (if_some (λ d. IsConflictFor m.platform (terms m) d c.in-Some.conflict) (after (forest m) c.push.new.self) (λ d leads.
    subst (λ o. IfSome o (IsConflictFor m.platform (terms m) d)) c.in-Some.is (c.in_ok-conflict.ensures.conflict d leads))))

pub returns-clause-first : goal.returns-clause-first
returns-clause-first c =
    let m = c.self.inside.subject.now in
    subst (λ s. IfSome (after (forest s.matter) (s.choices ++ c.args.choice ∷ [])) (λ d. IsFirstConflictFor s.matter.platform (terms s.matter) d c.in-Some.conflict)) c.self.view_is
    (subst (λ cs. IfSome (after (forest m) cs) (λ d. IsFirstConflictFor m.platform (terms m) d c.in-Some.conflict)) c.push.ensures
    (if_some (λ d. IsFirstConflictFor m.platform (terms m) d c.in-Some.conflict) (after (forest m) c.push.new.self) (λ d leads.
    subst (λ o. IfSome o (IsFirstConflictFor m.platform (terms m) d)) c.in-Some.is (c.in_ok-conflict.ensures.first d leads))))
