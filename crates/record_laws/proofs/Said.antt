-- What a record of which some fields are left out has at a name, and what is read there.
use Rattle.std.proofs.Common.{◌≡◌, ℕ, ◌≤◌, ◌==◌, ◌&&◌, Bool, true, false, List, [], ◌∷◌, ◌++◌, Option, Some, None, Ordering, Less, Equal, Greater, Result, Ok, Err, bytes_eq, nat_cmp, refl, sym, ap, ◌∙◌, subst, rules, tests, append_assoc, append-nil}
use Rattle.std.proofs.lemmas.Slice.Eq.{bytes_eq-Decides}
use Rattle.std.specs.Cmp.Lexicographic.{slice_cmp}
use Rattle.std.specs.List.{list_all}
use Rattle.std.specs.Ordering.{match_ordering}
use Rattle.std.specs.Prelude.{ok_or, if◌then◌else◌}
use Rattle.serde_json.proofs.Views.{get_member-put, get_member-put_other}
use Rattle.serde_json.specs.Data.{Data, string, array, object, Items, no_items, item, Members, no_members, member, put}
use Rattle.serde_json.specs.Find.{get, get_member}
use Rattle.serde_json.specs.View.{items_of}
use Rattle.sysmem_counts.specs.declared.field.Field.{Field}
use Rattle.sysmem_counts.specs.Field.{field_name}
use Rattle.record_reading.specs.declared.fault.Code.{Code}
use Rattle.record_reading.specs.declared.fault.Code.TheVariants.{UnknownField}
use Rattle.record_reading.specs.declared.fault.Fault.{Fault}
use Rattle.record_reading.specs.declared.fault.FaultPlace.{FaultPlace}
use Rattle.record_reading.specs.Faults.{wrong}
use Rattle.record_reading.specs.Reading.Fields.{◌>>=◌, keys_of, is_key_of, object_of, read_or, optional, stated, number_up_to, number_or, flag_of, flag_or}
use Rattle.record_laws.specs.Records.{natural, item_if}
use Rattle.record_laws.specs.Sparse.{unless, with_field, with_fields, fields_said, number_said, true_said, false_said, list_said, object_said, with_name, with_names, names_said}
use Rattle.record_laws.proofs.Bounds.{number_stated}

-- the first that there is
abbrev or_else : {A : Type 0} → Option A → Option A → Option A
or_else None o = o
or_else (Some a) o = Some a

-- what the fields have at a name: the last of them that has it
abbrev pub said : List ℕ → List (Field × Option Data) → Option Data
said name [] = None
said name (f ∷ fs) = if bytes_eq (field_name f.0) name then or_else (said name fs) f.1 else said name fs

no_name : (a b : List ℕ) → bytes_eq a b ≡ false → b ≡ a → ⊥
no_name a b differ same = let equal : bytes_eq a b ≡ true = (bytes_eq-Decides a b).1 (sym same) in absurd (cc)

get_field : (name : List ℕ) (ms : Members) (f : Field) (o : Option Data) (b : Bool) → bytes_eq (field_name f) name ≡ b
    → get_member name (with_field ms f o) ≡ (if b then or_else o (get_member name ms) else get_member name ms)
unfolding with_field
get_field name ms f None true is = refl
get_field name ms f None false is = refl
get_field name ms f (Some d) true is = subst (λ key. get_member name (put key d ms) ≡ Some d) (sym ((bytes_eq-Decides (field_name f) name).0 is)) (get_member-put name d ms)
get_field name ms f (Some d) false is = get_member-put_other name (field_name f) d ms (no_name (field_name f) name is)

later_first : (b : Bool) (later here before : Option Data)
    → or_else later (if b then or_else here before else before) ≡ or_else (if b then or_else later here else later) before
later_first true (Some d) here before = refl
later_first true None here before = refl
later_first false later here before = refl

get_fields : (name : List ℕ) (ms : Members) (fs : List (Field × Option Data)) → get_member name (with_fields ms fs) ≡ or_else (said name fs) (get_member name ms)
get_fields name ms [] = refl
get_fields name ms (f ∷ fs) =
    get_fields name (with_field ms f.0 f.1) fs
    ∙ ap (or_else (said name fs)) (get_field name ms f.0 f.1 (bytes_eq (field_name f.0) name) refl)
    ∙ later_first (bytes_eq (field_name f.0) name) (said name fs) f.1 (get_member name ms)

or_none : (o : Option Data) → or_else o None ≡ o
or_none None = refl
or_none (Some d) = refl

pub get_said : (name : List ℕ) (fs : List (Field × Option Data)) → get name (fields_said fs) ≡ said name fs
get_said name fs = get_fields name no_members fs ∙ or_none (said name fs)

pub and_true : (a b : Bool) → a ≡ true → b ≡ true → (a && b) ≡ true
and_true true b ha hb = hb
and_true false b ha hb = absurd (cc)

pub both_true : (a b : Bool) → (a && b) ≡ true → (a ≡ true) × (b ≡ true)
both_true true b h = (refl, h)
both_true false b h = absurd (cc)

put_known_at : (o : Ordering) (test : List ℕ → Bool) (k l : List ℕ) (d e : Data) (ms : Members)
    → test k ≡ true → test l ≡ true → list_all test (keys_of ms) ≡ true → list_all test (keys_of (put k d ms)) ≡ true
    → list_all test (keys_of (match_ordering o (member k d (member l e ms)) (member l d ms) (member l e (put k d ms)))) ≡ true
put_known_at Less test k l d e ms new here rest later = and_true (test k) _ new (and_true (test l) _ here rest)
put_known_at Equal test k l d e ms new here rest later = and_true (test l) _ here rest
put_known_at Greater test k l d e ms new here rest later = and_true (test l) _ here later

put_known : (test : List ℕ → Bool) (k : List ℕ) (d : Data) (ms : Members) → test k ≡ true → list_all test (keys_of ms) ≡ true → list_all test (keys_of (put k d ms)) ≡ true
put_known test k d no_members new known = and_true (test k) true new refl
put_known test k d (member l e ms) new known =
    let (here, rest) = both_true (test l) (list_all test (keys_of ms)) known in
    put_known_at (slice_cmp nat_cmp k l) test k l d e ms new here rest (put_known test k d ms new rest)

field_known : (test : List ℕ → Bool) (ms : Members) (f : Field) (o : Option Data) → test (field_name f) ≡ true → list_all test (keys_of ms) ≡ true → list_all test (keys_of (with_field ms f o)) ≡ true
unfolding with_field
field_known test ms f None new known = known
field_known test ms f (Some d) new known = put_known test (field_name f) d ms new known

fields_known : (test : List ℕ → Bool) (ms : Members) (fs : List (Field × Option Data)) → list_all (λ f. test (field_name f.0)) fs ≡ true → list_all test (keys_of ms) ≡ true
    → list_all test (keys_of (with_fields ms fs)) ≡ true
fields_known test ms [] new known = known
fields_known test ms (f ∷ fs) new known =
    let (here, rest) = both_true (test (field_name f.0)) (list_all (λ f. test (field_name f.0)) fs) new in
    fields_known test (with_field ms f.0 f.1) fs rest (field_known test ms f.0 f.1 here known)

-- an object of fields that are known is taken
pub object_taken : (place : FaultPlace) (names : List Field) (fs : List (Field × Option Data)) → list_all (λ f. is_key_of names (field_name f.0)) fs ≡ true
    → object_of place names (fields_said fs) ≡ Ok (fields_said fs)
object_taken place names fs known =
    let refused : Fault = record { code = UnknownField; at = place } in
    ap (λ b. if b then Ok (fields_said fs) else Err refused) (fields_known (is_key_of names) no_members fs known refl)

-- a field that may be left out
pub optional_reads : {A : Type 0} (at : Field) (absent v : A) (read : Data → Result A Fault) (fs : List (Field × Option Data)) (o : Option Data)
    → said (field_name at) fs ≡ o → read_or (Ok absent) read o ≡ Ok v → optional at absent read (fields_said fs) ≡ Ok v
optional_reads at absent v read fs o is reads = ap (read_or (Ok absent) read) (get_said (field_name at) fs ∙ is) ∙ reads

-- a field that must be there
pub required_reads : {A : Type 0} (code : Code) (at : Field) (v : A) (read : Data → Result A Fault) (fs : List (Field × Option Data)) (d : Data)
    → said (field_name at) fs ≡ Some d → read d ≡ Ok v → (stated code at (fields_said fs) >>= read) ≡ Ok v
required_reads code at v read fs d is reads = ap (λ o. ok_or o (wrong code at) >>= read) (get_said (field_name at) fs ∙ is) ∙ reads

-- what is left out is the absent value
pub unless_reads : {A : Type 0} (absent v : A) (read : Data → Result A Fault) (b : Bool) (d : Data) → (b ≡ true → v ≡ absent) → read d ≡ Ok v → read_or (Ok absent) read (unless b d) ≡ Ok v
unless_reads absent v read true d usual reads = ap Ok (sym (usual refl))
unless_reads absent v read false d usual reads = reads

pub same_number : (n m : ℕ) → (n == m) ≡ true → n ≡ m
same_number n m h = search (rules, tests)

-- a number, read by its range
pub number_reads : (absent n : ℕ) (read : Data → Result ℕ Fault) → read (natural n) ≡ Ok n → read_or (Ok absent) read (number_said absent n) ≡ Ok n
number_reads absent n read reads = unless_reads absent n read (n == absent) (natural n) (same_number n absent) reads

pub number_or_reads : (at : Field) (absent greatest n : ℕ) (fs : List (Field × Option Data)) → said (field_name at) fs ≡ number_said absent n → n ≤ greatest
    → number_or at absent greatest (fields_said fs) ≡ Ok n
number_or_reads at absent greatest n fs is small =
    optional_reads at absent n (number_up_to at greatest) fs (number_said absent n) is (number_reads absent n (number_up_to at greatest) (number_stated at greatest n small))

true_reads : (at : Field) (b : Bool) → read_or (Ok false) (flag_of at) (true_said b) ≡ Ok b
true_reads at true = refl
true_reads at false = refl

false_reads : (at : Field) (b : Bool) → read_or (Ok true) (flag_of at) (false_said b) ≡ Ok b
false_reads at true = refl
false_reads at false = refl

-- a flag that is false where it is absent
pub true_or_reads : (at : Field) (b : Bool) (fs : List (Field × Option Data)) → said (field_name at) fs ≡ true_said b → flag_or at false (fields_said fs) ≡ Ok b
true_or_reads at b fs is = optional_reads at false b (flag_of at) fs (true_said b) is (true_reads at b)

-- a flag that is true where it is absent
pub false_or_reads : (at : Field) (b : Bool) (fs : List (Field × Option Data)) → said (field_name at) fs ≡ false_said b → flag_or at true (fields_said fs) ≡ Ok b
false_or_reads at b fs is = optional_reads at true b (flag_of at) fs (false_said b) is (false_reads at b)

-- a list that is left out where it is empty
pub list_reads : {A : Type 0} (absent v : A) (read : Data → Result A Fault) (ds : Items) → read (array ds) ≡ Ok v → read (array no_items) ≡ Ok absent → read_or (Ok absent) read (list_said ds) ≡ Ok v
list_reads absent v read no_items reads none = sym none ∙ reads
list_reads absent v read (item d ds) reads none = reads

-- an object that is left out where it has no members
pub object_reads : {A : Type 0} (absent v : A) (read : Data → Result A Fault) (ms : Members) → read (object ms) ≡ Ok v → read (object no_members) ≡ Ok absent → read_or (Ok absent) read (object_said ms) ≡ Ok v
object_reads absent v read no_members reads none = sym none ∙ reads
object_reads absent v read (member k d ms) reads none = reads

-- the names that are wanted
abbrev wanted : List (Bool × List ℕ) → List Data
wanted [] = []
wanted (n ∷ ns) = if n.0 then string n.1 ∷ wanted ns else wanted ns

one_more : (ds : List Data) (b : Bool) (name : List ℕ) (rest : List Data) → with_name ds b name ++ rest ≡ ds ++ (if b then string name ∷ rest else rest)
unfolding with_name
one_more ds true name rest = append_assoc ds (string name ∷ []) rest
one_more ds false name rest = refl

names_wanted : (ds : List Data) (ns : List (Bool × List ℕ)) → with_names ds ns ≡ ds ++ wanted ns
names_wanted ds [] = sym (append-nil ds)
names_wanted ds (n ∷ ns) = names_wanted (with_name ds n.0 n.1) ns ∙ one_more ds n.0 n.1 (wanted ns)

-- the names that are wanted, as items
abbrev pub items_wanted : List (Bool × List ℕ) → Items
items_wanted [] = no_items
items_wanted (n ∷ ns) = item_if n.0 (string n.1) (items_wanted ns)

one_item : (b : Bool) (name : List ℕ) (rest : List Data) → items_of (if b then string name ∷ rest else rest) ≡ item_if b (string name) (items_of rest)
one_item true name rest = refl
one_item false name rest = refl

items_are : (ns : List (Bool × List ℕ)) → items_of (wanted ns) ≡ items_wanted ns
items_are [] = refl
items_are (n ∷ ns) = one_item n.0 n.1 (wanted ns) ∙ ap (item_if n.0 (string n.1)) (items_are ns)

pub names_are : (ns : List (Bool × List ℕ)) → names_said ns ≡ array (items_wanted ns)
names_are ns = ap (λ ds. array (items_of ds)) (names_wanted [] ns) ∙ ap array (items_are ns)
