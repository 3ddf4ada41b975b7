-- The accepted participants, by marks of the nodes that were open.
use Rattle.std.specs.Prelude.{ℕ, Bool, false, List, [], IfSome, filter, get_or}
use Rattle.sysmem_tree.specs.Domain.{HasDomain}
use Rattle.sysmem_tree.specs.Node.{NodeFacts}
use Rattle.sysmem_tree.specs.Selection.{IsPrefix}
use Rattle.sysmem_tree.specs.Shape.{by_number, forest_of}
use Rattle.sysmem_alloc.specs.Decision.{DomainVerdict, choices_of}

-- those of these nodes that are marked
abbrev pub marked_of : List Bool → List ℕ → List ℕ
marked_of marks ns = filter (λ i. get_or marks i false) ns

-- a decision of a domain of these nodes, whose choices lead on in it
pub record IsChosenIn (nodes : List NodeFacts) (d : DomainVerdict) : Type 0 where
  pub there : HasDomain nodes d.domain
  pub prefix : IfSome (choices_of d.verdict)
      (λ cs. IsPrefix (forest_of by_number nodes d.domain []) cs)
