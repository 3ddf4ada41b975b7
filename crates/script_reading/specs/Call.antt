-- The form of one call of a script: what its object says, apart from the other calls.
use Rattle.std.specs.Prelude.{ℕ, ◌&&◌, ◌||◌, Bool, List, bytes_eq, codes, Option, Some, None}
use Rattle.std.specs.Prelude.{option_map, option_and_then, if◌then◌else◌}
use Rattle.std.specs.List.{list_all}
use Rattle.std.specs.Option.{option_map_or}
use Rattle.serde_json.specs.Data.{Data, null}
use Rattle.serde_json.specs.Find.{get, as_str, as_object}
use Rattle.record_reading.specs.Reading.Fields.{keys_of}
use Rattle.script_reading.specs.Names.{main_actor}

-- What a call does to the node that it is made on.
pub data ActFacts : Type 0 where
  -- makes a token of this name
  duplicates : List ℕ → ActFacts
  binds : ActFacts
  -- states constraints, or none
  states : Option Data → ActFacts
  -- makes a group of this name
  creates_group : List ℕ → ActFacts
  -- makes a token of this name, a further child of the group
  creates_child : List ℕ → ActFacts
  -- the group has all its children
  has_all_children : ActFacts
  -- makes a token of this name, for a participant who comes later
  attaches_token : List ℕ → ActFacts
  releases : ActFacts
  closes : ActFacts
  -- asks for the verdict
  checks : ActFacts
  -- asks for the verdict, once there is one
  waits : ActFacts

-- the name that a call makes, if it makes one
abbrev pub name_made : ActFacts → Option (List ℕ)
name_made (duplicates name) = Some name
name_made (creates_group name) = Some name
name_made (creates_child name) = Some name
name_made (attaches_token name) = Some name
name_made _ = None

-- the call's name
abbrev pub act_name : ActFacts → List ℕ
act_name (duplicates name) = codes "duplicate"
act_name binds = codes "bind"
act_name (states constraints) = codes "set_constraints"
act_name (creates_group name) = codes "create_group"
act_name (creates_child name) = codes "create_child"
act_name has_all_children = codes "all_children_present"
act_name (attaches_token name) = codes "attach_token"
act_name releases = codes "release"
act_name closes = codes "close"
act_name checks = codes "check"
act_name waits = codes "wait"

-- What a call does, on which name, by which actor.
pub record FormFacts : Type 0 where
  pub act : ActFacts
  pub on : List ℕ
  pub actor : List ℕ

infixl 10 ◌>>=◌
-- a value that is there, and then the next
abbrev pub ◌>>=◌ : {A B : Type 0} → Option A → (A → Option B) → Option B
None >>= next = None
Some a >>= next = next a

-- the text at a key
abbrev pub text_at : List ℕ → Data → Option (List ℕ)
text_at key call = option_and_then as_str (get key call)

-- the actor that a call names, or `main`
abbrev pub actor_of : Data → Option (List ℕ)
actor_of call = option_map_or as_str (get (codes "actor") call) (Some main_actor)

-- null states no constraints
abbrev pub unless_null : Data → Option Data
unless_null null = None
unless_null d = Some d

-- the constraints that a call states
abbrev pub constraints_of : Data → Option Data
constraints_of call = option_and_then unless_null (get (codes "constraints") call)

-- the name that a call makes
abbrev pub name_in : Data → Option (List ℕ)
name_in call = text_at (codes "as") call

-- what a call of this name does
abbrev pub act_of : List ℕ → Data → Option ActFacts
act_of name call =
    if bytes_eq name (codes "duplicate") then option_map duplicates (name_in call)
    else if bytes_eq name (codes "bind") then Some binds
    else if bytes_eq name (codes "set_constraints") then Some (states (constraints_of call))
    else if bytes_eq name (codes "create_group") then option_map creates_group (name_in call)
    else if bytes_eq name (codes "create_child") then option_map creates_child (name_in call)
    else if bytes_eq name (codes "all_children_present") then Some has_all_children
    else if bytes_eq name (codes "attach_token") then option_map attaches_token (name_in call)
    else if bytes_eq name (codes "release") then Some releases
    else if bytes_eq name (codes "close") then Some closes
    else if bytes_eq name (codes "check") then Some checks
    else if bytes_eq name (codes "wait") then Some waits
    else None

-- a call of this name makes one
unfoldable pub makes_name : List ℕ → Bool
makes_name name = bytes_eq name (codes "duplicate") || bytes_eq name (codes "create_group")
    || bytes_eq name (codes "create_child") || bytes_eq name (codes "attach_token")

-- a call of this name may have this key
unfoldable pub may_have : List ℕ → List ℕ → Bool
may_have name key = bytes_eq key (codes "call") || bytes_eq key (codes "on")
    || bytes_eq key (codes "actor") || (bytes_eq key (codes "as") && makes_name name)
    || (bytes_eq key (codes "constraints") && bytes_eq name (codes "set_constraints"))

-- the form of a call: it is an object with no further keys
abbrev pub form_of : Data → Option FormFacts
form_of call = do
  members ← as_object call
  name ← text_at (codes "call") call
  on ← text_at (codes "on") call
  actor ← actor_of call
  act ← act_of name call
  if list_all (may_have name) (keys_of members)
      then Some (record { act = act; on = on; actor = actor })
      else None
