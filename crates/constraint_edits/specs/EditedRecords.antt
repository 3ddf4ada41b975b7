-- Records of constraints after changes.
use Rattle.std.specs.Prelude.{◌≡◌, List, Some, Ok}
use Rattle.serde_json.specs.Data.{Data}
use Rattle.sysmem_memory.specs.Heap.{HeapFacts}
use Rattle.negotiation_inputs.specs.Participant.{Participant}
use Rattle.record_reading.specs.Reading.{participant_of}
use Rattle.constraint_edits.specs.declared.change.Change.{Change}
use Rattle.constraint_edits.specs.Edited.{edited_by}

-- one record is read as what a participant asks, and the other as what it asks after the changes
pub record IsRecordEdited (heaps : List HeapFacts) (changes : List Change)
    (stated changed : Data) : Type 0 where
  pub before : Participant
  pub after : Participant
  pub was : participant_of stated ≡ Ok before
  pub edited : edited_by heaps changes before ≡ Some after
  pub read : participant_of changed ≡ Ok after
