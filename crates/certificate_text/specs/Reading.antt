-- Looking into an object of a certificate.
use Rattle.std.specs.Prelude.{ℕ, suc, ◌==◌, List, [], ◌∷◌, Option, Some, None, Result, Ok, Err, ◌≡◌}
use Rattle.std.specs.Prelude.{⊤, nat_le, option_and_then, option_map, if◌then◌else◌}
use Rattle.serde_json.specs.Data.{Data, Items, no_items, item, Members, no_members, member}
use Rattle.serde_json.specs.Find.{get, as_array, as_number, as_object, as_str, as_u64}
use Rattle.certificate_text.specs.declared.unread.Unread.{Unread}
use Rattle.certificate_text.specs.declared.unread.Unread.TheVariants.{WrongForm, NoMemory}

infixl 10 ◌>>=◌
-- what is said, and then what comes after it
abbrev pub ◌>>=◌ : {A B : Type 0} → Option A → (A → Option B) → Option B
None >>= next = None
Some a >>= next = next a

abbrev pub members_len : Members → ℕ
members_len no_members = 0
members_len (member key d ms) = suc (members_len ms)

-- an object of so many members: where so many keys are found in it, it has no others
abbrev pub is_object_of : ℕ → Data → Option (Unit {0})
is_object_of n d = do
  many ← option_map members_len (as_object d)
  if many == n then Some tt else None

-- a whole number up to the greatest
abbrev pub number_to : ℕ → Data → Option ℕ
number_to most d = do
  n ← option_and_then as_u64 (as_number d)
  if nat_le n most then Some n else None

-- what each of the items says
abbrev pub each_said : {A : Type 0} → (Data → Option A) → Items → Option (List A)
each_said said no_items = Some []
each_said said (item d ds) = do
  x ← said d
  xs ← each_said said ds
  Some (x ∷ xs)

-- what a list says, item by item
abbrev pub list_said : {A : Type 0} → (Data → Option A) → Data → Option (List A)
list_said said d = as_array d >>= each_said said

-- what stands at a key
abbrev pub at_key : {A : Type 0} → List ℕ → (Data → Option A) → Data → Option A
at_key key said d = get key d >>= said

-- what a text at a key names
abbrev pub named_at : {A : Type 0} → List ℕ → (List ℕ → Option A) → Data → Option A
named_at key named d = at_key key as_str d >>= named

-- a result, seen so, is what is said, or memory was refused
abbrev pub SaysAs : {X A : Type 0} → (X → A) → Result X Unread → Option A → Type 0
SaysAs seen (Ok x) said = said ≡ Some (seen x)
SaysAs seen (Err WrongForm) said = said ≡ None
SaysAs seen (Err NoMemory) said = ⊤

-- the same of what is seen as itself
abbrev pub Says : {A : Type 0} → Result A Unread → Option A → Type 0
Says result said = SaysAs (λ a. a) result said
