-- None of the entries so far is that verdict.
use Rattle.std.proofs.Common.{◌≡◌, false, map, take}
use Rattle.std.specs.List.{list_any}
use Rattle.live_script.specs.Refusing.{is_emptied}
use Rattle.sysmem_alloc.specs.Entry.{entry_in}
use Rattle.live_script.proofs.refusal.has_emptied.Given as goal

abbrev pub invariant-loop-entry : goal.invariant-loop-entry
invariant-loop-entry l = list_any (is_emptied l.domain) (map (entry_in l.fn.snapshot.tree.nodes) (take l.entry-index l.history)) ≡ false
