use Rattle.std.proofs.Common.{◌≡◌, ◌+◌, length}
use Rattle.std.specs.Prelude.{sum_by}
use Rattle.std.specs.Vec.Iter.{into_iter_items, into_iter_len}
use Rattle.sysmem_participants.specs.Held.{Left}
use Rattle.sysmem_participants.proofs.gathering.joined.Given as goal

abbrev pub invariant-loop-stub : goal.invariant-loop-stub
invariant-loop-stub g l = record {
  parts : l.all.parts + length (into_iter_items l.stub-iterator) ≡ l.initial.all.parts + length (into_iter_items l.initial.stub-iterator);
  amount : l.all.amount + sum_by (λ (s : Left). length s.deeds) (into_iter_items l.stub-iterator) ≡ l.initial.all.amount + sum_by (λ (s : Left). length s.deeds) (into_iter_items l.initial.stub-iterator);
  rest : into_iter_len l.stub-iterator ≡ length (into_iter_items l.stub-iterator);
}
