use Rattle.std.proofs.Common.{◌≡◌, length}
use Rattle.sysmem_participants.specs.Audit.{AreRead}
use Rattle.sysmem_participants.proofs.Seeing.{SeenTo}
use Rattle.sysmem_participants.proofs.agreeing.stubs_agree.Given as goal

abbrev pub invariant-loop-index : goal.invariant-loop-index
invariant-loop-index g l = record {
  seen : SeenTo l.book l.stubs l.marks l.all.calls l.all.verdict l.index;
  read : AreRead l.initial.stubs l.stubs;
  long : length l.marks ≡ 128;
}
