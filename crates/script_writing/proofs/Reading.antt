-- What is written of a call is read as the call.
use Rattle.std.proofs.Common.{◌≡◌, ◌≤◌, ◌+◌, ℕ, suc, true, List, [], ◌∷◌, map, length, Option, Some, None, Ok, refl, ap, ◌∙◌, arith, le-leb}
use Rattle.std.specs.Prelude.{nat_le}
use Rattle.serde_json.specs.View.{items_of}
use Rattle.negotiation_inputs.specs.Platform.{PlatformFacts}
use Rattle.record_reading.specs.Reading.{platform_of}
use Rattle.record_laws.specs.Sparse.{platform_written}
use Rattle.script_reading.specs.Call.{ActFacts, duplicates, binds, states, creates_group, creates_child, has_all_children, attaches_token, releases, closes, checks, waits, form_of, makes_name, may_have}
use Rattle.script_reading.specs.Script.{CallFacts, KnownFacts, actor_number, actors_after, call_of, calls_of, items_len, names_found, script_of}
use Rattle.script_writing.specs.Call.{StatesRecord, WrittenCall, call_data, form_written}
use Rattle.script_writing.specs.Script.{script_data}

-- the form of a call is that which was written
form_by : (act : ActFacts) (on : List ℕ) (actor : Option (List ℕ)) → StatesRecord act
    → form_of (call_data (record { act = act; on = on; actor = actor })) ≡ Some (form_written (record { act = act; on = on; actor = actor }))
unfolding makes_name may_have
form_by (duplicates name) on None h = refl
form_by (duplicates name) on (Some a) h = refl
form_by binds on None h = refl
form_by binds on (Some a) h = refl
form_by (states None) on None h = refl
form_by (states None) on (Some a) h = refl
form_by (states (Some d)) on None h = rw h.1 refl
form_by (states (Some d)) on (Some a) h = rw h.1 refl
form_by (creates_group name) on None h = refl
form_by (creates_group name) on (Some a) h = refl
form_by (creates_child name) on None h = refl
form_by (creates_child name) on (Some a) h = refl
form_by has_all_children on None h = refl
form_by has_all_children on (Some a) h = refl
form_by (attaches_token name) on None h = refl
form_by (attaches_token name) on (Some a) h = refl
form_by releases on None h = refl
form_by releases on (Some a) h = refl
form_by closes on None h = refl
form_by closes on (Some a) h = refl
form_by checks on None h = refl
form_by checks on (Some a) h = refl
form_by waits on None h = refl
form_by waits on (Some a) h = refl

pub form_read : (c : WrittenCall) → StatesRecord c.act → form_of (call_data c) ≡ Some (form_written c)
form_read c h = form_by c.act c.on c.actor h

-- a call, where its names and its actor are good
pub call_read : (n : ℕ) (known : KnownFacts) (c : WrittenCall) (place : ℕ) (names actors : List (List ℕ)) → StatesRecord c.act → names_found known.names (form_written c) ≡ Some (place, names)
    → actors_after (form_written c).actor known.actors ≡ Some actors
    → call_of n known (call_data c)
    ≡ Ok (record { act = c.act; on = c.on; place = place; actor = actor_number (form_written c).actor known.actors }, record { names = names; actors = actors })
call_read n known c place names actors h found after = rw (form_read c h, found, after) refl

many_items : (cs : List WrittenCall) → items_len (items_of (map call_data cs)) ≡ length cs
many_items [] = refl
many_items (c ∷ cs) =
    let more : items_len (items_of (map call_data cs)) ≡ length cs = many_items cs in
    let whole : items_len (items_of (map call_data cs)) + 1 ≡ suc (length cs) = omega (arith, more) in whole

-- a script, where its platform and its calls are read
pub script_is : (p : PlatformFacts) (cs : List WrittenCall) (facts : List CallFacts) → platform_of (platform_written p) ≡ Ok p → length cs ≤ 4096 → calls_of (items_of (map call_data cs)) ≡ Ok facts
    → script_of (script_data p cs) ≡ Ok (record { platform = p; calls = facts })
script_is p cs facts platform few calls =
    let short : nat_le (items_len (items_of (map call_data cs))) 4096 ≡ true = ap (λ n. nat_le n 4096) (many_items cs) ∙ le-leb (length cs) 4096 few in
    rw (platform, short, calls) refl
