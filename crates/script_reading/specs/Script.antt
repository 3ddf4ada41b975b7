-- The script that a value stands for, or its first fault.
use Rattle.script_reading.specs.declared.script.TheConstants.{MOST_CALLS}
use Rattle.std.specs.Prelude.{ℕ, ◌+◌, ◌∷◌, ◌++◌, [], ◌&&◌, ◌||◌, not, Bool, List, length, nat_le}
use Rattle.std.specs.Prelude.{position, bytes_eq, codes, Option, Some, None, option_and_then}
use Rattle.std.specs.Prelude.{option_map, ok_or, unwrap_or, Result, Ok, Err, if◌then◌else◌}
use Rattle.std.specs.List.{list_all}
use Rattle.serde_json.specs.Data.{Data, Items, no_items, item}
use Rattle.serde_json.specs.Find.{get, as_array, as_object}
use Rattle.script_reading.specs.declared.fault.ScriptFault.{ScriptFault}
use Rattle.script_reading.specs.declared.fault.ScriptFault.TheVariants.{Misshapen, CallMisshapen}
use Rattle.script_reading.specs.declared.fault.ScriptFault.TheVariants.{BadName, TooManyCalls}
use Rattle.script_reading.specs.declared.fault.ScriptFault.TheVariants.{TooManyActors}
use Rattle.script_reading.specs.Call.{ActFacts, name_made, FormFacts, form_of}
use Rattle.record_reading.specs.Reading.Fields.{keys_of}
use Rattle.script_reading.specs.Names.{is_name, is_among, with_actor, root}
use Rattle.script_reading.specs.Platform.{platform_said}
use Rattle.negotiation_inputs.specs.Platform.{PlatformFacts}

-- A call: what it does, on which name, the place of that name among the names that were made
-- before, and by which actor, in order of their first calls.
pub record CallFacts : Type 0 where
  pub act : ActFacts
  pub on : List ℕ
  pub place : ℕ
  pub actor : ℕ

-- A script: its platform, and its calls in their order.
pub record ScriptFacts : Type 0 where
  pub platform : PlatformFacts
  pub calls : List CallFacts

-- The names that the calls so far made, in order, and the actors that made the calls.
pub record KnownFacts : Type 0 where
  pub names : List (List ℕ)
  pub actors : List (List ℕ)

infixl 10 ◌>>=◌
-- one answer and then the next, up to the first fault
abbrev pub ◌>>=◌ : {A B F : Type 0} → Result A F → (A → Result B F) → Result B F
Ok a >>= next = next a
Err fault >>= next = Err fault

-- the names after one that a call makes, if it makes one: it is a good one, and was not made before
abbrev pub names_after : Option (List ℕ) → List (List ℕ) → Option (List (List ℕ))
names_after (Some name) names =
    if is_name name && not (is_among name names) then Some (names ++ name ∷ []) else None
names_after None names = Some names

-- the place of the name that a call is made on, and the names after it
abbrev pub names_found : List (List ℕ) → FormFacts → Option (ℕ × List (List ℕ))
names_found names form =
    if is_name form.actor
    then option_and_then
    (λ place. option_map (λ after. (place, after)) (names_after (name_made form.act) names))
    (position (bytes_eq form.on) names)
    else None

-- an actor's number: the place among those so far, or the next one
abbrev pub actor_number : List ℕ → List (List ℕ) → ℕ
actor_number actor actors = unwrap_or (position (bytes_eq actor) actors) (length actors)

-- the actors after a call, who are 16 at most
abbrev pub actors_after : List ℕ → List (List ℕ) → Option (List (List ℕ))
actors_after actor actors =
    if nat_le (length (with_actor actors actor)) 16 then Some (with_actor actors actor) else None

-- the call of this number, and what is known after it
abbrev pub call_of : ℕ → KnownFacts → Data → Result (CallFacts × KnownFacts) ScriptFault
call_of n known call = do
  form ← ok_or (form_of call) (CallMisshapen n)
  found ← ok_or (names_found known.names form) (BadName n)
  actors ← ok_or (actors_after form.actor known.actors) (TooManyActors n)
  Ok (
    record {
      act = form.act;
      on = form.on;
      place = found.0;
      actor = actor_number form.actor known.actors;
    },
    record { names = found.1; actors = actors },
  )

-- the calls from this number on
unfoldable pub calls_from : ℕ → KnownFacts → Items → Result (List CallFacts) ScriptFault
calls_from n known no_items = Ok []
calls_from n known (item call calls) = do
  first ← call_of n known call
  others ← calls_from (n + 1) first.1 calls
  Ok (first.0 ∷ others)

-- before the first call the root's name is made, and there was no actor yet
abbrev pub nothing_known : KnownFacts
nothing_known = record { names = root ∷ []; actors = [] }

-- a script's calls
abbrev pub calls_of : Items → Result (List CallFacts) ScriptFault
calls_of calls = calls_from 1 nothing_known calls

abbrev pub items_len : Items → ℕ
items_len no_items = 0
items_len (item d ds) = items_len ds + 1

-- the keys of a script
abbrev pub is_part : List ℕ → Bool
is_part key = bytes_eq key (codes "platform") || bytes_eq key (codes "calls")

-- the platform and the calls of a script, which has no further parts
abbrev pub parts_of : Data → Option (Data × Items)
parts_of script =
    option_and_then (λ members. option_and_then (λ platform. option_and_then (λ calls.
    if list_all is_part (keys_of members) then Some (platform, calls) else None)
    (option_and_then as_array (get (codes "calls") script)))
    (get (codes "platform") script)) (as_object script)

-- the calls of a script, which are 4,096 at most
abbrev pub few_calls : Items → Option Items
few_calls calls = if nat_le (items_len calls) MOST_CALLS then Some calls else None

-- the script that a value stands for, where its calls are read so
abbrev pub script_by : (Items → Result (List CallFacts) ScriptFault) → Data
    → Result ScriptFacts ScriptFault
script_by calls_said value = do
  parts ← ok_or (parts_of value) Misshapen
  platform ← platform_said parts.0
  few ← ok_or (few_calls parts.1) TooManyCalls
  facts ← calls_said few
  Ok (record { platform = platform; calls = facts })

-- the script that a value stands for
abbrev pub script_of : Data → Result ScriptFacts ScriptFault
script_of value = script_by calls_of value
