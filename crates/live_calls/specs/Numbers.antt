-- Actions, refusals, denials and faults by their numbers.
use Rattle.std.specs.Prelude.{ℕ, zero, suc, List, [], ◌∷◌, Option, None, slice_get}
use Rattle.sysmem_tree.specs.ActionKind.{Deed}
use Rattle.sysmem_tree.specs.ActionKind as deeds
use Rattle.sysmem_tree.specs.declared.refusal.Refusal.{Refusal}
use Rattle.sysmem_tree.specs.declared.refusal.Refusal.TheVariants as refusals
use Rattle.record_reading.specs.declared.fault.Code.{Code}
use Rattle.record_reading.specs.declared.fault.Code.TheVariants as codes
use Rattle.live_book.specs.declared.acting.Denial.{Denial}
use Rattle.live_book.specs.declared.acting.Denial.TheVariants.{Busy, Refused}

-- the nine actions, of which the sixth sets no constraints
abbrev pub actions : List Deed
actions = deeds.duplicates ∷ deeds.creates_group ∷ deeds.binds ∷ deeds.creates_child
    ∷ deeds.has_all_children ∷ deeds.sets None ∷ deeds.attaches_token ∷ deeds.releases
    ∷ deeds.closes ∷ []

-- the action of a number, from 1
abbrev pub action_at : ℕ → Option Deed
action_at zero = None
action_at (suc n) = slice_get actions n

-- the status of a refusal: E1 is want of memory, and the others have 16 and their number
abbrev pub status_of : Refusal → ℕ
status_of refusals.NoMemory = 4
status_of refusals.WrongState = 18
status_of refusals.TooManyNodes = 19
status_of refusals.NoChildren = 20
status_of refusals.NotSelected = 21
status_of refusals.DomainFailed = 22
status_of refusals.ConstraintsIntersectionEmpty = 23
status_of refusals.TooManyGroupChildCombinations = 24
status_of refusals.Pending = 25
status_of refusals.Strange = 26

-- the status of a call that is denied
abbrev pub denial_status : Denial → ℕ
denial_status Busy = 27
denial_status (Refused refusal) = status_of refusal

-- the number of a fault's code: 1 of S1 and so on
abbrev pub code_number : Code → ℕ
code_number codes.NotAnObject = 1
code_number codes.UnknownField = 2
code_number codes.WrongKind = 3
code_number codes.UnknownName = 4
code_number codes.BadUsage = 5
code_number codes.NoColourSpaces = 6
code_number codes.BadMultiple = 7
code_number codes.RepeatedPair = 8
code_number codes.TooMany = 9
code_number codes.RepeatedHeap = 10
code_number codes.BadPlatformList = 11
code_number codes.TiledMisfit = 12
code_number codes.WantOfMemory = 13
