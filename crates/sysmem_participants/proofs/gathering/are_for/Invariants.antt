use Rattle.sysmem_participants.proofs.Seeing.{ForFirst}
use Rattle.sysmem_participants.proofs.gathering.are_for.Given as goal

abbrev pub invariant-loop-stub : goal.invariant-loop-stub
invariant-loop-stub g l = ForFirst l.platform l.stubs l.stub-index
