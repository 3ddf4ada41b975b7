-- What a checker's walk over a certificate tells of what is left by what it has read.
use Rattle.std.specs.Prelude.{List, [], ◌∷◌, Option}
use Rattle.std.specs.List.{AllZip}
use Rattle.negotiation_inputs.specs.Platform.{PlatformFacts}
use Rattle.sysmem_tree.specs.Forest.{Forest}
use Rattle.sysmem_tree.specs.Shape.{Member}
use Rattle.verdict_claims.specs.declared.no.No.{No}
use Rattle.verdict_claims.specs.declared.refutation.Item.{Item}
use Rattle.verdict_claims.specs.Base.{Terms}
use Rattle.verdict_claims.specs.Certificate.{Refutes}
use Rattle.verdict_claims.specs.Conflict.{IsConflictFor}
use Rattle.verdict_claims.specs.Fault.{EachFaults, Faults, RefutationFaults}

-- all holds where the rest does, and fails with the numbers with which the rest fails
pub record IsLeft (All Rest : Type 0) (all rest : Faults) : Type 0 where
  pub holds : Rest → All
  pub fails : (why : No) → rest why → all why

-- items that are to refute some forests, where the rest of them is to refute the others
abbrev pub AreLeft : PlatformFacts → Option Terms → List Item → List (Forest Member) → List Item
    → List (Forest Member) → Type 0
AreLeft platform terms items ds rest es = IsLeft (Refutes (IsConflictFor platform terms) items ds)
    (Refutes (IsConflictFor platform terms) rest es)
    (RefutationFaults platform terms items ds) (RefutationFaults platform terms rest es)

-- for each choice before one a refutation
abbrev pub RefuteBefore : PlatformFacts → Option Terms → List (Forest Member) → List (List Item)
    → Type 0
RefuteBefore platform terms es rs =
    AllZip (λ e items. Refutes (IsConflictFor platform terms) items (e ∷ [])) es rs

-- the first test that those fail
abbrev pub FaultsBefore : PlatformFacts → Option Terms → List (Forest Member) → List (List Item)
    → Faults
FaultsBefore platform terms es rs =
    EachFaults (λ e items. Refutes (IsConflictFor platform terms) items (e ∷ []))
    (λ e items. RefutationFaults platform terms items (e ∷ [])) es rs
