-- The decisions so far are written.
use Rattle.std.proofs.Common.{map, take}
use Rattle.std.specs.Prelude.{flat_map}
use Rattle.certificate_text.specs.Certificate.{HasTaken}
use Rattle.live_script.specs.Texts.{certified_of}
use Rattle.sysmem_alloc.specs.Entry.{entry_in}
use Rattle.live_script.proofs.certificate.certificate_of.Given as goal

abbrev pub invariant-loop-entry : goal.invariant-loop-entry
invariant-loop-entry l = HasTaken l.writer (flat_map (certified_of l.fn.snapshot.platform l.fn.snapshot.tree.nodes) (map (entry_in l.fn.snapshot.tree.nodes) (take l.entry-index l.history)))
