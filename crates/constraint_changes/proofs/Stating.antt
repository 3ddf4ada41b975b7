-- Calls of which one states other constraints.
use Rattle.std.proofs.Common.{◌≡◌, ◌≤◌, ◌∙◌, ℕ, List, Some, length, map, option_map, set, slice_get, sym, ap}
use Rattle.std.specs.Option.{option_map_or}
use Rattle.std.proofs.lemmas.List.{map-set}
use Rattle.std.proofs.lemmas.Option.{slice_get-map, slice_get_past}
use Rattle.serde_json.specs.Data.{Data}
use Rattle.script_reading.specs.Call.{states}
use Rattle.script_reading.specs.Script.{CallFacts}
use Rattle.script_reading.specs.Seen.{call_seen}
use Rattle.script_reading.specs.declared.call.Call.{Call}
use Rattle.constraint_changes.specs.Edited.{stating}

-- where there is no call at the place
pub stating_past : (rs : List CallFacts) (place : ℕ) (d : Data) → length rs ≤ place → rs ≡ stating rs place d
stating_past rs place d past =
    sym (ap (λ o. option_map_or (λ r. set rs place (record r { act = states (Some d) })) o rs) (slice_get_past rs place past))

-- where there is one
pub stating_at : (calls : List Call) (place : ℕ) (call new : Call) (d : Data) → slice_get calls place ≡ Some call → call_seen new ≡ record (call_seen call) { act = states (Some d) }
    → map call_seen (set calls place new) ≡ stating (map call_seen calls) place d
stating_at calls place call new d there seen =
    map-set call_seen calls place new ∙ (ap (λ r. set (map call_seen calls) place r) seen
    ∙ sym (ap (λ o. option_map_or (λ r. set (map call_seen calls) place (record r { act = states (Some d) })) o (map call_seen calls))
    (slice_get-map call_seen calls place ∙ ap (λ o. option_map call_seen o) there)))
