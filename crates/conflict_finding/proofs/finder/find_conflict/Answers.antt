-- Whether a group is left is told by the next one.
use Rattle.std.proofs.Common.{◌≡◌, Some, sym, subst}
use Rattle.std.specs.Prelude.{IfNone, IfOk, IfSome}
use Rattle.sysmem_merge.specs.declared.settings.Settings.{Settings}
use Rattle.sysmem_tree.specs.Selection.{IsPrefix, after}
use Rattle.verdict_claims.proofs.Rolls.{prefix_numbers}
use Rattle.verdict_claims.specs.Conflict.{IsConflictFor}
use Rattle.verdict_claims.specs.FirstConflict.{IsFirstConflictFor}
use Rattle.verdict_claims.specs.Matter.{Matter, forest, terms}
use Rattle.verdict_claims.specs.Verdict.{MeetsSettled}
use Rattle.conflict_finding.proofs.FoundNodes.{same_whole}
use Rattle.conflict_finding.proofs.finder.find_conflict.Goals as goal

pub next_group-requires-clause-prefix : goal.next_group-requires-clause-prefix
next_group-requires-clause-prefix c = prefix_numbers c.args.tree.now.nodes c.args.domain c.args.prefix.now (c.choices_leave_one_forest.ensures c.args.tree.now.nodes c.args.domain c.args.prefix.now) c.requires.prefix

pub find_conflict_as-requires-clause-prefix : goal.find_conflict_as-requires-clause-prefix
find_conflict_as-requires-clause-prefix c = subst (λ (m : Matter). IsPrefix (forest m) c.args.prefix.now) (sym c.new-subject.ensures) c.requires.prefix

pub find_conflict_as-requires-clause-whole : goal.find_conflict_as-requires-clause-whole
find_conflict_as-requires-clause-whole c = λ d leads.
    same_whole c.args.tree.now.nodes c.args.domain c.args.prefix.now (c.choices_leave_one_forest.ensures c.args.tree.now.nodes c.args.domain c.args.prefix.now) d
    (subst (λ (m : Matter). after (forest m) c.args.prefix.now ≡ Some d) c.new-subject.ensures leads)
    c.next_group.result c.next_group.ensures.group c.is_none-whole.result c.is_none-whole.ensures

pub find_conflict_as-requires-clause-learnt : goal.find_conflict_as-requires-clause-learnt
find_conflict_as-requires-clause-learnt c = c.new-learnt.ensures c.new-subject.result.nodes c.new-subject.result.platform.heaps

pub returns-clause-conflict : goal.returns-clause-conflict
returns-clause-conflict c = λ d leads.
    subst (λ (m : Matter). IfOk c.find_conflict_as.result (λ found. IfSome found (IsConflictFor m.platform (terms m) d))) c.new-subject.ensures
    (c.find_conflict_as.ensures.conflict d (subst (λ (m : Matter). after (forest m) c.args.prefix.now ≡ Some d) (sym c.new-subject.ensures) leads))

pub returns-clause-first : goal.returns-clause-first
returns-clause-first c = λ d leads.
    subst (λ (m : Matter). IfOk c.find_conflict_as.result (λ found. IfSome found (IsFirstConflictFor m.platform (terms m) d))) c.new-subject.ensures
    (c.find_conflict_as.ensures.first d (subst (λ (m : Matter). after (forest m) c.args.prefix.now ≡ Some d) (sym c.new-subject.ensures) leads))

pub returns-clause-none : goal.returns-clause-none
returns-clause-none c = λ d leads.
    subst (λ (m : Matter). IfOk c.find_conflict_as.result (λ found. IfNone found ((t : Settings) × MeetsSettled m.platform (terms m) d t))) c.new-subject.ensures
    (c.find_conflict_as.ensures.none d (subst (λ (m : Matter). after (forest m) c.args.prefix.now ≡ Some d) (sym c.new-subject.ensures) leads))
