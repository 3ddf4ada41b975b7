-- Promises of edits.
use Rattle.std.proofs.Common.{◌≡◌, ℕ, ◌+◌, ◌<◌, List, [], ◌∷◌, ◌++◌, length, get_or, take, sym, ap, ◌∙◌, subst, refl, Option, Some, slice_get, map, option_map}
use Rattle.std.proofs.lemmas.Option.{slice_get-map}
use Rattle.script_reading.specs.Call.{states}
use Rattle.script_reading.specs.Seen.{call_seen}
use Rattle.script_reading.specs.declared.call.Call.{Call}
use Rattle.constraint_edits.specs.EditedRecords.{IsRecordEdited}
use Rattle.std.proofs.lemmas.List.{map-append, take_more}
use Rattle.sysmem_memory.specs.Heap.{HeapFacts}
use Rattle.serde_json.specs.Data.{Data}
use Rattle.negotiation_inputs.specs.Platform.{PlatformFacts}
use Rattle.script_reading.specs.Script.{CallFacts}
use Rattle.script_story.specs.declared.outcome.Outcome.{Outcome}
use Rattle.constraint_edits.specs.declared.change.Change.{Change}
use Rattle.constraint_changes.specs.declared.trials.editing.EditedCall.{EditedCall}
use Rattle.constraint_changes.specs.Edited.{AreEdited, AreExchanged, IsEdited, States, IsTried, IsPromised, edits_of, stating, unedited, edited_too}

-- a call that states a record, by the program's calls
pub states_at : (calls : List Call) (place : ℕ) (call : Call) (d : Data) → slice_get calls place ≡ Some call → (call_seen call).act ≡ states (Some d) → States (map call_seen calls) place d
states_at calls place call d there says =
    ap (λ (o : Option CallFacts). option_map (λ (r : CallFacts). r.act) o) (slice_get-map call_seen calls place ∙ ap (λ o. option_map call_seen o) there) ∙ ap Some says

-- a call whose record is edited
pub edit_at : (heaps : List HeapFacts) (rs : List CallFacts) (place : ℕ) (changes : List Change) (before after : Data) → States rs place before → IsRecordEdited heaps changes before after
    → IsEdited heaps rs place changes (stating rs place after)
edit_at heaps rs place changes before after was edited = record { before = before; after = after; was = was; edited = edited; now = refl }

-- what is tried of an edited record is promised of the edit
pub promised_alone : (platform : PlatformFacts) (rs : List CallFacts) (place : ℕ) (changes : List Change) (d : Data) (path : List ℕ) (what : Outcome)
    → IsEdited platform.heaps rs place changes (stating rs place d) → IsTried platform rs place d path what → IsPromised platform rs ((place, changes) ∷ []) path what
promised_alone platform rs place changes d path what edited tried = record {
  calls = stating rs place d;
  edited = edited_too [] rs (stating rs place d) place changes unedited edited;
  reported = tried;
}

-- no call is edited of a copy
pub edited_none : (heaps : List HeapFacts) (calls copy : List Call) → copy ≡ calls → AreEdited heaps (map call_seen calls) [] (map call_seen copy)
edited_none heaps calls copy same = subst (λ cs. AreEdited heaps (map call_seen calls) [] (map call_seen cs)) (sym same) unedited

-- one more call is edited
pub edited_more : (heaps : List HeapFacts) (rs qs ps : List CallFacts) (edits : List EditedCall) (i : ℕ) (x : EditedCall) (d : Data) → i < length edits → x ≡ get_or edits i x
    → AreEdited heaps rs (edits_of (take i edits)) qs → IsEdited heaps qs x.place x.changes.items (stating qs x.place d) → ps ≡ stating qs x.place d
    → AreEdited heaps rs (edits_of (take (i + 1) edits)) ps
edited_more heaps rs qs ps edits i x d within is before now same =
    subst (λ ps. AreEdited heaps rs (edits_of (take (i + 1) edits)) ps) (sym same)
    (subst (λ es. AreEdited heaps rs es (stating qs x.place d))
    (sym (ap edits_of (take_more edits i x within ∙ ap (λ y. take i edits ++ y ∷ []) (sym is)) ∙ map-append (λ edit. (edit.place, edit.changes.items)) (take i edits) (x ∷ [])))
    (edited_too (edits_of (take i edits)) qs (stating qs x.place d) x.place x.changes.items before now))

-- two calls state each other's records
pub exchanged_at : (rs mid qs : List CallFacts) (one other : ℕ) (mine its : Data) → States rs one mine → States rs other its → mid ≡ stating rs one its → qs ≡ stating mid other mine → AreExchanged rs one other qs
exchanged_at rs mid qs one other mine its first second half whole =
    record { mine = mine; its = its; first = first; second = second; now = whole ∙ ap (λ cs. stating cs other mine) half }
