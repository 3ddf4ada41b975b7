-- So far the domains that are left are missing.
use Rattle.std.specs.Prelude.{◌++◌, is_none}
use Rattle.sysmem_alloc.specs.Sound.{roots_of}
use Rattle.sysmem_alloc.specs.State.{verdict_of}
use Rattle.sysmem_tree.specs.Path.{path_of}
use Rattle.script_replay.specs.Events.{becomes, events_of, pending, pending_events}
use Rattle.script_replay.proofs.Walking.{Lacks}
use Rattle.script_replay.proofs.report.add_pending.Given as goal

abbrev pub invariant-loop-index : goal.invariant-loop-index
invariant-loop-index l =
    Lacks (λ r. becomes (path_of l.book.state.tree.nodes r) pending) (λ r. is_none (verdict_of l.book.state r)) (roots_of l.book.state.tree) l.index (events_of l.events)
    (events_of l.initial.events ++ pending_events l.book.state)
