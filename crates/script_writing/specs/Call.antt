-- A call as it is written, and how it is read.
use Rattle.std.specs.Prelude.{◌≡◌, ℕ, ◌++◌, List, [], true, Option, Some, None, IfSome, codes, option_map, unwrap_or}
use Rattle.serde_json.specs.Data.{Data, string, object, Members, no_members, member}
use Rattle.serde_json.specs.Written.{compact_text}
use Rattle.negotiation_inputs.specs.Participant.{Participant}
use Rattle.record_laws.specs.Sparse.{participant_written}
use Rattle.script_reading.specs.Call.{ActFacts, states, FormFacts, act_name, name_made}
use Rattle.script_reading.specs.Names.{is_name, main_actor}

-- what a call does, on which name, and the actor that it names, if it names one
pub record WrittenCall : Type 0 where
  pub act : ActFacts
  pub on : List ℕ
  pub actor : Option (List ℕ)

-- the constraints that a call states, if it states any
abbrev pub stated_by : ActFacts → Option Data
stated_by (states stated) = stated
stated_by _ = None

-- a member before others, if it has a value
abbrev pub member_if : List ℕ → Option Data → Members → Members
member_if key None ms = ms
member_if key (Some d) ms = member key d ms

-- the object of a call
abbrev pub call_data : WrittenCall → Data
call_data c = object (member_if (codes "actor") (option_map string c.actor)
    (member_if (codes "as") (option_map string (name_made c.act))
    (member (codes "call") (string (act_name c.act))
    (member_if (codes "constraints") (stated_by c.act)
    (member (codes "on") (string c.on) no_members)))))

-- the form in which a call is read: an actor that it doesn't name is `main`
abbrev pub form_written : WrittenCall → FormFacts
form_written c = record { act = c.act; on = c.on; actor = unwrap_or c.actor main_actor }

-- a text behind a key, and a comma before both
abbrev pub text_member : List ℕ → List ℕ → List ℕ
text_member key text = codes ",\"" ++ (key ++ (codes "\":\"" ++ (text ++ codes "\"")))

-- if there is one
abbrev pub text_if : List ℕ → Option (List ℕ) → List ℕ
text_if key None = []
text_if key (Some text) = text_member key text

-- the constraints that a call states
abbrev pub stated_text : Option Data → List ℕ
stated_text None = []
stated_text (Some d) = codes ",\"constraints\":" ++ compact_text d

-- the text of a call's object, whose names stand as they are
abbrev pub call_text : WrittenCall → List ℕ
call_text c = codes "{\"call\":\"" ++ (act_name c.act ++ (codes "\"" ++ (text_member (codes "on") c.on
    ++ (text_if (codes "actor") c.actor ++ (text_if (codes "as") (name_made c.act)
    ++ (stated_text (stated_by c.act) ++ codes "}"))))))

-- a record of constraints, as they are written
abbrev pub IsRecord : Data → Type 0
IsRecord d = (p : Participant) × (d ≡ participant_written p)

-- so is what a call states
abbrev pub StatesRecord : ActFacts → Type 0
StatesRecord act = IfSome (stated_by act) IsRecord

abbrev pub IsName : List ℕ → Type 0
IsName name = is_name name ≡ true

-- the names in a call are names
pub record HasNames (c : WrittenCall) : Type 0 where
  pub on : IsName c.on
  pub made : IfSome (name_made c.act) IsName
  pub actor : IfSome c.actor IsName
