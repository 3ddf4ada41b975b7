-- The parts that were written are those of a platform.
use Rattle.std.proofs.Common.{◌≡◌, ◌≢◌, ◌≤◌, false, length, subst}
use Rattle.std.specs.Prelude.{All, AllPairs}
use Rattle.sysmem_formats.specs.Layout.{IsTiledMisfit}
use Rattle.sysmem_memory.specs.Heap.{same_heap}
use Rattle.negotiation_inputs.specs.Platform.{IsHeap}
use Rattle.record_writing.proofs.platform.record_of.Goals as goal

pub returns-clause-is : goal.returns-clause-is
returns-clause-is c =
    record {
      some_heaps = subst (λ heaps. 1 ≤ length heaps) c.heaps.ensures.heaps c.heaps.ensures.some;
      few_heaps = subst (λ heaps. length heaps ≤ 64) c.heaps.ensures.heaps c.heaps.ensures.few;
      distinct_heaps = subst (AllPairs (λ a b. same_heap a.heap b.heap ≡ false)) c.heaps.ensures.heaps c.heaps.ensures.distinct;
      each_heap = subst (All IsHeap) c.heaps.ensures.heaps c.heaps.ensures.each;
      some_pairs = subst (λ pairs. 1 ≤ length pairs) c.pairs.ensures.pairs c.pairs.ensures.some;
      distinct_pairs = subst (AllPairs (λ a b. a ≢ b)) c.pairs.ensures.pairs c.pairs.ensures.distinct;
      fitting_pairs = subst (All (λ pair. IsTiledMisfit pair → ⊥)) c.pairs.ensures.pairs c.pairs.ensures.fitting;
      some_colours = subst (λ colours. 1 ≤ length colours) c.colours.ensures.colours c.colours.ensures.some;
      distinct_colours = subst (AllPairs (λ a b. a ≢ b)) c.colours.ensures.colours c.colours.ensures.distinct;
    }
