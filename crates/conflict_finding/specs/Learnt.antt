-- What is learnt of participants where conflicts are looked for.
use Rattle.std.specs.Prelude.{List}
use Rattle.sysmem_memory.specs.Heap.{HeapFacts}
use Rattle.sysmem_tree.specs.Node.{NodeFacts}
use Rattle.conflict_finding.specs.declared.learnt.Learnt.{Learnt}
use Rattle.conflict_finding.specs.AloneLines.{AreAlone}
use Rattle.conflict_finding.specs.OffersAsked.{AreOffersAsked}
use Rattle.conflict_finding.specs.PlacesAsked.{AreAsked}

-- it is what those of this tree say of places with these heaps and of offers, and lines that name
-- one of them each
pub record IsLearnt (nodes : List NodeFacts) (heaps : List HeapFacts)
    (learnt : Learnt) : Type 0 where
  pub asked : AreAsked nodes heaps learnt.asked
  pub offers : AreOffersAsked nodes learnt.offers
  pub alone : AreAlone nodes learnt.alone
