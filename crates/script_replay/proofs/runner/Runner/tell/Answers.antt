use Rattle.std.proofs.Common.{ap}
use Rattle.std.specs.Arc.{arc_value}
use Rattle.sysmem_tree.specs.Domain.{TreeFacts}
use Rattle.sysmem_tree.specs.Path.{path_of}
use Rattle.std.specs.Prelude.{option_map}
use Rattle.sysmem_alloc.specs.Decision.{Claimed}
use Rattle.script_replay.specs.Runner.{state_of}
use Rattle.script_replay.specs.State.{collection_tree}
use Rattle.script_replay.proofs.Following.{enters_as, few_in}
use Rattle.script_replay.proofs.Told.{failed_added, marked_of}
use Rattle.script_replay.proofs.runner.Runner.tell.Goals as goal

pub returns-clause-lines : goal.returns-clause-lines
returns-clause-lines c =
    let d : Claimed = record { domain = c.args.domain; claim = option_map (λ shared. arc_value shared) c.args.claim } in
    let path = ap (λ (t : TreeFacts). path_of t.nodes c.args.domain) c.tree.ensures in
    let marked = marked_of (collection_tree (state_of c.args.self.now)) c.tree-2.result.now c.failed_domains-had_failed.result c.tree-2.ensures c.failed_domains-had_failed.ensures in
    let failed = failed_added (collection_tree (state_of c.enter.new.self)) c.tree-3.result.now c.failed_domains-had_failed.result _ _ c.tree-3.ensures c.in_ok-add_failed.ensures in
    enters_as (state_of c.args.self.now) (state_of c.enter.new.self) d _ _ _ _ _ c.failed_domains-had_failed.result c.in_ok-fate.ensures path c.in_ok-add_domain.ensures marked failed c.enter.ensures.state

pub returns-clause-few : goal.returns-clause-few
returns-clause-few c = few_in c.few_entries.ensures c.enter.new.self.book c.recall_legal.ensures
