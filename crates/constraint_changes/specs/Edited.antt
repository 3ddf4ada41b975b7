-- What is promised of a script's calls, of which some state other constraints.
use Rattle.std.specs.Prelude.{◌≡◌, ℕ, ◌++◌, List, [], ◌∷◌, map, Some, option_map, set, slice_get}
use Rattle.std.specs.Option.{option_map_or}
use Rattle.serde_json.specs.Data.{Data}
use Rattle.sysmem_memory.specs.Heap.{HeapFacts}
use Rattle.negotiation_inputs.specs.Platform.{PlatformFacts}
use Rattle.script_reading.specs.Call.{states}
use Rattle.script_reading.specs.Script.{CallFacts}
use Rattle.script_story.specs.Told.{IsReportedOn}
use Rattle.script_story.specs.declared.outcome.Outcome.{Outcome}
use Rattle.constraint_edits.specs.declared.change.Change.{Change}
use Rattle.constraint_edits.specs.EditedRecords.{IsRecordEdited}
use Rattle.constraint_changes.specs.declared.trials.editing.EditedCall.{EditedCall}

-- the calls, of which that at a place, from 0, states these constraints
abbrev pub stating : List CallFacts → ℕ → Data → List CallFacts
stating rs place stated =
    option_map_or (λ r. set rs place (record r { act = states (Some stated) }))
    (slice_get rs place) rs

-- the call at a place states this record
abbrev pub States : List CallFacts → ℕ → Data → Type 0
States rs place stated =
    option_map (λ r. r.act) (slice_get rs place) ≡ Some (states (Some stated))

-- the calls, of which that at a place states another record: it is read as what the one that it
-- stated asks after these changes
pub record IsEdited (heaps : List HeapFacts) (rs : List CallFacts) (place : ℕ)
    (changes : List Change) (qs : List CallFacts) : Type 0 where
  pub before : Data
  pub after : Data
  pub was : States rs place before
  pub edited : IsRecordEdited heaps changes before after
  pub now : qs ≡ stating rs place after

-- the calls after changes of what some of them ask, each by its place
pub data AreEdited (heaps : List HeapFacts) (rs : List CallFacts)
    : List (ℕ × List Change) → List CallFacts → Type 0 where
  unedited : AreEdited heaps rs [] rs
  edited_too : (edits : List (ℕ × List Change)) (qs ps : List CallFacts) (place : ℕ)
      (changes : List Change) → AreEdited heaps rs edits qs → IsEdited heaps qs place changes ps
      → AreEdited heaps rs (edits ++ (place, changes) ∷ []) ps

-- after these changes of what some calls ask, this becomes of the domain at a path, as the report
-- of the calls says it
pub record IsPromised (platform : PlatformFacts) (rs : List CallFacts)
    (edits : List (ℕ × List Change)) (path : List ℕ) (what : Outcome) : Type 0 where
  pub calls : List CallFacts
  pub edited : AreEdited platform.heaps rs edits calls
  pub reported : IsReportedOn platform calls path what

-- what is changed, each by the place of its call
abbrev pub edits_of : List EditedCall → List (ℕ × List Change)
edits_of edits = map (λ edit. (edit.place, edit.changes.items)) edits

-- with this record in the call at a place, this becomes of the domain at a path, as the report of
-- the calls says it
abbrev pub IsTried : PlatformFacts → List CallFacts → ℕ → Data → List ℕ → Outcome → Type 0
IsTried platform rs place stated path what =
    IsReportedOn platform (stating rs place stated) path what

-- some of the calls state other constraints
pub data IsRestated (rs : List CallFacts) : List CallFacts → Type 0 where
  as_they_are : IsRestated rs rs
  one_more : (qs : List CallFacts) (place : ℕ) (d : Data) → IsRestated rs qs
      → IsRestated rs (stating qs place d)

-- with other constraints in some calls, this becomes of the domain at a path, as the report of the
-- calls says it
pub record IsPromisedSo (platform : PlatformFacts) (rs : List CallFacts) (path : List ℕ)
    (what : Outcome) : Type 0 where
  pub calls : List CallFacts
  pub restated : IsRestated rs calls
  pub reported : IsReportedOn platform calls path what

-- the calls, of which those at two places state each what the other one states
pub record AreExchanged (rs : List CallFacts) (one other : ℕ) (qs : List CallFacts)
    : Type 0 where
  pub mine : Data
  pub its : Data
  pub first : States rs one mine
  pub second : States rs other its
  pub now : qs ≡ stating (stating rs one its) other mine

-- with the records of two calls exchanged, this becomes of the domain at a path, as the report of
-- the calls says it
pub record IsPromisedExchanged (platform : PlatformFacts) (rs : List CallFacts)
    (one other : ℕ) (path : List ℕ) (what : Outcome) : Type 0 where
  pub calls : List CallFacts
  pub exchanged : AreExchanged rs one other calls
  pub reported : IsReportedOn platform calls path what
