use Rattle.std.proofs.Common.{◌≡◌}
use Rattle.sysmem_participants.proofs.waiting.wait_until_set.Given as goal

abbrev pub invariant-loop : goal.invariant-loop
invariant-loop g l = (l.note.cell ≡ l.initial.note.cell) × (l.note.known ≡ l.initial.note.known)
