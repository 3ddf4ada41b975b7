-- So far the domains that are left are missing.
use Rattle.std.specs.Prelude.{◌&&◌, ◌++◌, not}
use Rattle.sysmem_alloc.specs.Sound.{roots_of}
use Rattle.sysmem_tree.specs.Domain.{TreeFacts, has_failed}
use Rattle.sysmem_tree.specs.Path.{path_of}
use Rattle.script_replay.specs.Events.{becomes, events_of, failed, failed_events}
use Rattle.script_replay.specs.Marks.{AreMarksOf}
use Rattle.script_replay.proofs.Walking.{Lacks}
use Rattle.script_replay.proofs.failing.add_failed.Given as goal

abbrev pub invariant-loop-index : goal.invariant-loop-index
invariant-loop-index l = (old : TreeFacts) → AreMarksOf old l.tree l.marks
    → Lacks (λ r. becomes (path_of l.tree.nodes r) failed) (λ r. has_failed l.tree r && not (has_failed old r)) (roots_of l.tree) l.index (events_of l.events)
    (events_of l.initial.events ++ failed_events old l.tree)
