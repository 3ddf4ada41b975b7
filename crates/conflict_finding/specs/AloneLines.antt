-- Lines that are kept of participants, each of which it names alone.
use Rattle.std.specs.Prelude.{◌≡◌, List, [], ◌∷◌, Option, All, IfSome}
use Rattle.sysmem_tree.specs.Node.{NodeFacts}
use Rattle.conflict_finding.specs.declared.alone_lines.Alone.{Alone}
use Rattle.conflict_finding.specs.declared.alone_lines.AloneLines.{AloneLines}
use Rattle.conflict_finding.specs.declared.whom.Whom.TheVariants as whom
use Rattle.conflict_finding.specs.Whom.{line_on}

-- the line is one that names the one at its node
abbrev pub NamesOne : List NodeFacts → Alone → Type 0
NamesOne nodes alone = alone.line ≡ line_on nodes (alone.number ∷ []) alone.line.field whom.All

-- whatever stands in the slots is such a line
abbrev pub AreInSlots : List NodeFacts → List (Option Alone) → Type 0
AreInSlots nodes slots = All (λ slot. IfSome slot (NamesOne nodes)) slots

-- whatever is kept is
abbrev pub AreAlone : List NodeFacts → AloneLines → Type 0
AreAlone nodes lines = AreInSlots nodes lines.slots.items
