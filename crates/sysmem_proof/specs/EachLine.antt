-- Lines one for each place, or one for each offer.
use Rattle.std.specs.Prelude.{◌↔◌, ◌≡◌, ℕ, ◌+◌, Bool, List, Option, Some, None, All}
use Rattle.std.specs.Prelude.{drop, length, if◌then◌else◌}
use Rattle.std.specs.List.{AllZip}
use Rattle.sysmem_memory.specs.declared.domain.CoherencyDomains.{CoherencyDomains}
use Rattle.sysmem_tree.specs.Shape.{Member}
use Rattle.verdict_claims.specs.declared.no.No.TheVariants.{WrongShape, WrongNode, NoConflict}
use Rattle.verdict_claims.specs.Fault.{AreNamed, Fails, Faults, First}
use Rattle.verdict_claims.specs.Line.{LineFacts}

-- one, if it is there
abbrev pub one_if : Bool → ℕ
one_if there = if there then 1 else 0

-- one for each coherency domain
abbrev pub many_in : CoherencyDomains → ℕ
many_in domains = one_if domains.cpu + one_if domains.ram + one_if domains.inaccessible

-- of xs that have a line each from one on, those before ys have true ones, which end there; or else
-- some line is missing or isn't true
abbrev pub GoesPast : {X : Type 0} → (X → LineFacts → Type 0) → List X → List X → List LineFacts → ℕ
    → Option ℕ → Type 0
GoesPast R xs ys lines at None = ¬ (AllZip R xs (drop at lines))
GoesPast R xs ys lines at (Some end) = AllZip R xs (drop at lines) ↔ AllZip R ys (drop end lines)

-- lines that are one item: how many they are, then all whom they name, then whether they are true
abbrev pub LinesOfItem : ℕ → List Member → Type 0 → List LineFacts → Faults
LinesOfItem many ms True lines =
    First (length lines ≡ many) (Fails (length lines ≡ many) WrongShape)
    (First (All (λ line. AreNamed ms line.nodes) lines)
    (Fails (All (λ line. AreNamed ms line.nodes) lines) WrongNode) (Fails True NoConflict))
