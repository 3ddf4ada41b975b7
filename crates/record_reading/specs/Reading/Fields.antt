-- Reading one field of a record: the value that it states, or what is wrong with it.
use Rattle.std.specs.Prelude.{◌≡◌, ℕ, List, [], ◌∷◌, Bool, true, false, Option}
use Rattle.std.specs.Prelude.{Some, None, ◌⊎◌, Result, Ok, Err, nat_le, bytes_eq}
use Rattle.std.specs.Prelude.{ok_or, option_and_then, if◌then◌else◌}
use Rattle.std.specs.List.{list_all, list_any}
use Rattle.serde_json.specs.Data.{Data, object, Items, no_items, item, Members, no_members, member}
use Rattle.serde_json.specs.Find.{get, as_array, as_bool, as_number, as_str, as_u64}
use Rattle.sysmem_counts.specs.declared.field.Field.{Field}
use Rattle.sysmem_counts.specs.Field.{field_name}
use Rattle.record_reading.specs.declared.fault.Code.{Code}
use Rattle.record_reading.specs.declared.fault.Code.TheVariants.{NotAnObject, UnknownField}
use Rattle.record_reading.specs.declared.fault.Code.TheVariants.{WrongKind, UnknownName}
use Rattle.record_reading.specs.declared.fault.Code.TheVariants.{WantOfMemory}
use Rattle.record_reading.specs.declared.fault.Fault.{Fault}
use Rattle.record_reading.specs.declared.fault.FaultPlace.{FaultPlace}
use Rattle.record_reading.specs.Faults.{wrong, lack_of}

infixl 10 ◌>>=◌
-- what is read, and then what comes after it, up to the first fault
abbrev pub ◌>>=◌ : {A B : Type 0} → Result A Fault → (A → Result B Fault) → Result B Fault
Ok a >>= next = next a
Err fault >>= next = Err fault

-- what was read, if it passes the test
abbrev pub passing : {A : Type 0} → Fault → (A → Bool) → A → Result A Fault
passing fault test a = if test a then Ok a else Err fault

-- a key that names one of these fields
unfoldable pub is_key_of : List Field → List ℕ → Bool
is_key_of fields key = list_any (λ field. bytes_eq (field_name field) key) fields

abbrev pub keys_of : Members → List (List ℕ)
keys_of no_members = []
keys_of (member key value ms) = key ∷ keys_of ms

-- an object at a place, with no other fields than these
abbrev pub object_of : FaultPlace → List Field → Data → Result Data Fault
object_of place fields (object ms) =
    if list_all (is_key_of fields) (keys_of ms) then Ok (object ms)
    else Err (record { code = UnknownField; at = place })
object_of place fields _ = Err (record { code = NotAnObject; at = place })

-- what a value reads as, or what stands for a missing one
abbrev pub read_or : {A : Type 0} → Result A Fault → (Data → Result A Fault) → Option Data
    → Result A Fault
read_or absent read None = absent
read_or absent read (Some d) = read d

-- a field that a record may leave out
abbrev pub optional : {A : Type 0} → Field → A → (Data → Result A Fault) → Data → Result A Fault
optional field absent read d = read_or (Ok absent) read (get (field_name field) d)

-- the value of a field that a record must have, and the code of its want
abbrev pub stated : Code → Field → Data → Result Data Fault
stated code field d = ok_or (get (field_name field) d) (wrong code field)

-- a field that a record must have
abbrev pub required : {A : Type 0} → Field → (Data → Result A Fault) → Data → Result A Fault
required field read d = stated WrongKind field d >>= read

-- a whole number from 0 to the greatest
abbrev pub number_up_to : Field → ℕ → Data → Result ℕ Fault
number_up_to field greatest d = do
  n ← ok_or (option_and_then as_u64 (as_number d)) (wrong WrongKind field)
  passing (wrong WrongKind field) (λ n. nat_le n greatest) n

-- a number that a record may leave out
abbrev pub number_or : Field → ℕ → ℕ → Data → Result ℕ Fault
number_or field absent greatest d = optional field absent (number_up_to field greatest) d

-- true or false
abbrev pub flag_of : Field → Data → Result Bool Fault
flag_of field d = ok_or (as_bool d) (wrong WrongKind field)

-- a flag that a record may leave out
abbrev pub flag_or : Field → Bool → Data → Result Bool Fault
flag_or field absent d = optional field absent (flag_of field) d

-- any text
abbrev pub text_of : Field → Data → Result (List ℕ) Fault
text_of field d = ok_or (as_str d) (wrong WrongKind field)

-- a text that names something
abbrev pub named : {A : Type 0} → (List ℕ → Option A) → Field → Data → Result A Fault
named find field d = do
  name ← text_of field d
  ok_or (find name) (wrong UnknownName field)

-- a list of any items
abbrev pub list_of : Field → Data → Result Items Fault
list_of field d = ok_or (as_array d) (wrong WrongKind field)

-- the list isn't empty
abbrev pub has_items : Items → Bool
has_items no_items = false
has_items (item d ds) = true

-- a list read item by item, each with what was read before it
abbrev pub read_each : {S : Type 0} → (S → Data → Result S Fault) → S → Items → Result S Fault
read_each read before no_items = Ok before
read_each read before (item d ds) = read before d >>= λ after. read_each read after ds

-- what a reader answers, seen through a view of what it read
abbrev pub seen_by : {A B : Type 0} → (A → B) → Result A Fault → Result B Fault
seen_by view (Ok a) = Ok (view a)
seen_by view (Err fault) = Err fault

-- the two are one field
abbrev pub same_field : Field → Field → Bool
same_field a b = bytes_eq (field_name a) (field_name b)

-- what a field takes memory for, while memory for one field, or for none, is refused
abbrev pub kept : {A : Type 0} → Option Field → Field → A → Result A Fault
kept None field a = Ok a
kept (Some lack) field a = if same_field lack field then Err (wrong WantOfMemory lack) else Ok a

-- the answer is what the record says where memory is refused for the field of an S13, and for no
-- other
abbrev pub Reads : {A : Type 0} → (Option Field → Result A Fault) → Result A Fault → Type 0
Reads said (Ok a) = said None ≡ Ok a
Reads said (Err fault) = said (lack_of fault) ≡ Err fault

-- a reader of one more item of a list, while memory for one field, or for none, is refused
abbrev pub ItemReader : Type 0 → Type 0
ItemReader A = Option Field → List A → Data → Result (List A) Fault

-- what is read else is read, or that memory was refused
abbrev pub IsOr : {A : Type 0} → Fault → A → Result A Fault → Type 0
IsOr fault a r = (r ≡ Ok a) ⊎ (r ≡ Err fault)

-- a reader that reads the same where memory for another field is refused
pub record IsSteadyReader {A : Type 0} (said : Option Field → Result A Fault) : Type 0 where
  pub is : (fault : Fault) (a : A) → said None ≡ Ok a → IsOr fault a (said (lack_of fault))
