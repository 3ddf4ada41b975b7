-- Data whose text is read as the data.
use Rattle.std.proofs.Common.{◌≡◌, ℕ, suc, ◌^◌, ◌<◌, ◌≤◌, max, Bool, true, false, List, [], ◌∷◌, ◌++◌, All, map, Some, IsUtf8, Ordering, Less, Equal, Greater, decimal, option_map, option_and_then, refl, sym, ap, ◌∙◌, arith, append-nil}
use Rattle.std.specs.Ordering.{nat_cmp, match_ordering}
use Rattle.std.specs.Cmp.Lexicographic.{slice_cmp}
use Rattle.std.proofs.lemmas.Fmt.{IsAscii-decimal}
use Rattle.std.proofs.lemmas.List.Elements.{All-head, All-tail}
use Rattle.std.proofs.lemmas.Str.{IsUtf8-append, IsUtf8-from_ascii}
use Rattle.json.specs.Json as json
use Rattle.json.specs.Print.{quoted}
use Rattle.json.specs.Tree as tree
use Rattle.json.proofs.Printed.Decimals.{IsNumber-decimal}
use Rattle.json.proofs.Printed.Trees.{value-json_tokens, ArePrintable-json_tokens}
use Rattle.json.proofs.Printed.Utf8.{IsUtf8-are_ascii, IsUtf8-quoted}
use Rattle.json_lemmas.proofs.CallerLemmas.{plain_line}
use Rattle.serde_json.specs.Data.{Data, null, number, string, array, object, Items, no_items, item, Members, no_members, member, put}
use Rattle.serde_json.specs.Read.{read, max_depth, of_json, of_items, of_members}
use Rattle.serde_json.specs.View.{items_of}
use Rattle.serde_json.specs.Written.{outline, items_outline, members_outline, comma_if, compact_text, items_text, members_text}
use Rattle.serde_json.proofs.Numbers.{number_of-decimal}
use Rattle.serde_json.proofs.Texts.{print-outline}
use Rattle.certificate_text.specs.Bounds.{count_data}
use Rattle.certificate_text.specs.Laws.{IsTextOf}
use Rattle.certificate_text.specs.Told.{list_data}

-- lists and objects nest no deeper, each number is of 64 bits, and
-- each object has its keys in order
pub record IsReadable (n : ℕ) (d : Data) : Type 0 where
  pub numbers : tree.HasNumbers (outline d)
  pub shallow : tree.depth (outline d) ≤ n
  pub same : of_json (outline d) ≡ Some d
  pub utf8 : IsUtf8 (compact_text d)

-- its text with a newline is read
read_line : (n : ℕ) (d : Data) → n ≤ max_depth → IsReadable n d → read (compact_text d ++ 10 ∷ []) ≡ Some d
read_line n d few h =
    let j = outline d in
    let shallow : tree.depth (outline d) ≤ max_depth = omega (arith, h.shallow, few) in
    ap (λ t. read (t ++ 10 ∷ [])) (sym (print-outline d))
    ∙ ap (λ ts. option_and_then of_json (option_and_then (λ p. json.if_last p.0 p.1) (json.value max_depth ts)))
    (plain_line (tree.json_tokens j) (ArePrintable-json_tokens j h.numbers) ∙ sym (append-nil (tree.json_tokens j)))
    ∙ ap (λ o. option_and_then of_json (option_and_then (λ p. json.if_last p.0 p.1) o)) (value-json_tokens j max_depth [] shallow)
    ∙ h.same

pub text_of : (n : ℕ) (d : Data) → n ≤ max_depth → IsReadable n d → IsTextOf d (compact_text d ++ 10 ∷ [])
text_of n d few h = record {
  utf8 = IsUtf8-append (compact_text d) (10 ∷ []) h.utf8 (IsUtf8-are_ascii (10 ∷ []) refl);
  spelled = read_line n d few h;
}

-- ---- without any inside

pub null_reads : (n : ℕ) → IsReadable n null
null_reads n =
    let shallow : 0 ≤ n = omega arith in
    record { numbers = tt; shallow = shallow; same = refl; utf8 = IsUtf8-are_ascii (compact_text null) refl }

pub count_reads : (n m : ℕ) → m < 2 ^ 64 → IsReadable n (count_data m)
count_reads n m fits =
    let shallow : 0 ≤ n = omega arith in
    record { numbers = IsNumber-decimal m fits; shallow = shallow; same = ap (option_map number) (number_of-decimal m fits); utf8 = IsUtf8-from_ascii (decimal m) (IsAscii-decimal m fits) }

pub string_reads : (n : ℕ) (s : List ℕ) → IsUtf8 s → IsReadable n (string s)
string_reads n s utf8 =
    let shallow : 0 ≤ n = omega arith in
    record { numbers = tt; shallow = shallow; same = refl; utf8 = IsUtf8-quoted s utf8 }

-- a byte in front
one_byte : (c : ℕ) (text : List ℕ) → IsUtf8 (c ∷ []) → IsUtf8 text → IsUtf8 (c ∷ text)
one_byte c text first rest = IsUtf8-append (c ∷ []) text first rest

comma_utf8 : (later : Bool) → IsUtf8 (comma_if later)
comma_utf8 true = IsUtf8-are_ascii (44 ∷ []) refl
comma_utf8 false = IsUtf8-are_ascii [] refl

-- ---- lists

abbrev ItemsRead : ℕ → Items → Type 0
ItemsRead n no_items = Unit {0}
ItemsRead n (item d ds) = IsReadable n d × ItemsRead n ds

items_numbers : (n : ℕ) (ds : Items) → ItemsRead n ds → tree.ItemsHaveNumbers (items_outline ds)
items_numbers n no_items h = tt
items_numbers n (item d ds) h = (h.0.numbers, items_numbers n ds h.1)

items_shallow : (n : ℕ) (ds : Items) → ItemsRead n ds → tree.items_depth (items_outline ds) ≤ n
items_shallow n no_items h = let shallow : 0 ≤ n = omega arith in shallow
items_shallow n (item d ds) h =
    let first : tree.depth (outline d) ≤ n = h.0.shallow in
    let rest : tree.items_depth (items_outline ds) ≤ n = items_shallow n ds h.1 in
    let both : max (tree.depth (outline d)) (tree.items_depth (items_outline ds)) ≤ n = omega (arith, first, rest) in both

items_same : (n : ℕ) (ds : Items) → ItemsRead n ds → of_items (items_outline ds) ≡ Some ds
items_same n no_items h = refl
items_same n (item d ds) h = ap (option_and_then (λ x. option_map (item x) (of_items (items_outline ds)))) h.0.same ∙ ap (option_map (item d)) (items_same n ds h.1)

items_utf8 : (n : ℕ) (later : Bool) (ds : Items) → ItemsRead n ds → IsUtf8 (items_text later ds)
items_utf8 n later no_items h = IsUtf8-are_ascii (93 ∷ []) refl
items_utf8 n later (item d ds) h =
    IsUtf8-append (comma_if later) (compact_text d ++ items_text true ds) (comma_utf8 later) (IsUtf8-append (compact_text d) (items_text true ds) h.0.utf8 (items_utf8 n true ds h.1))

array_reads : (n : ℕ) (ds : Items) → ItemsRead n ds → IsReadable (suc n) (array ds)
array_reads n ds h =
    let inside : tree.items_depth (items_outline ds) ≤ n = items_shallow n ds h in
    let shallow : suc (tree.items_depth (items_outline ds)) ≤ suc n = omega (arith, inside) in
    record {
      numbers = items_numbers n ds h;
      shallow = shallow;
      same = ap (option_map array) (items_same n ds h);
      utf8 = one_byte 91 (items_text false ds) (IsUtf8-are_ascii (91 ∷ []) refl) (items_utf8 n false ds h);
    }

-- each told so
all_read : {A : Type 0} (n : ℕ) (told : A → Data) (P : A → Type 0) → ((x : A) → P x → IsReadable n (told x)) → (xs : List A) → All P xs → ItemsRead n (items_of (map told xs))
all_read n told P reads [] all = tt
all_read n told P reads (x ∷ xs) all = (reads x (All-head P x xs all), all_read n told P reads xs (All-tail P x xs all))

pub list_reads : {A : Type 0} (n : ℕ) (told : A → Data) (P : A → Type 0) → ((x : A) → P x → IsReadable n (told x)) → (xs : List A) → All P xs → IsReadable (suc n) (list_data told xs)
list_reads n told P reads xs all = array_reads n (items_of (map told xs)) (all_read n told P reads xs all)

-- ---- objects

abbrev pub MembersRead : ℕ → Members → Type 0
MembersRead n no_members = Unit {0}
MembersRead n (member k d ms) = IsUtf8 k × IsReadable n d × MembersRead n ms

-- members that are put one after another
abbrev pub filled : Members → Members → Members
filled no_members found = found
filled (member k d ms) found = filled ms (put k d found)

-- they stay as they are, each key after those before it
abbrev pub AreInOrder : Members → Type 0
AreInOrder ms = filled ms no_members ≡ ms

members_numbers : (n : ℕ) (ms : Members) → MembersRead n ms → tree.MembersHaveNumbers (members_outline ms)
members_numbers n no_members h = tt
members_numbers n (member k d ms) h = (h.1.numbers, members_numbers n ms h.2)

members_shallow : (n : ℕ) (ms : Members) → MembersRead n ms → tree.members_depth (members_outline ms) ≤ n
members_shallow n no_members h = let shallow : 0 ≤ n = omega arith in shallow
members_shallow n (member k d ms) h =
    let first : tree.depth (outline d) ≤ n = h.1.shallow in
    let rest : tree.members_depth (members_outline ms) ≤ n = members_shallow n ms h.2 in
    let both : max (tree.depth (outline d)) (tree.members_depth (members_outline ms)) ≤ n = omega (arith, first, rest) in both

members_same : (n : ℕ) (ms found : Members) → MembersRead n ms → of_members (members_outline ms) found ≡ Some (filled ms found)
members_same n no_members found h = refl
members_same n (member k d ms) found h = ap (option_and_then (λ x. of_members (members_outline ms) (put k x found))) h.1.same ∙ members_same n ms (put k d found) h.2

members_utf8 : (n : ℕ) (later : Bool) (ms : Members) → MembersRead n ms → IsUtf8 (members_text later ms)
members_utf8 n later no_members h = IsUtf8-are_ascii (125 ∷ []) refl
members_utf8 n later (member k d ms) h =
    IsUtf8-append (comma_if later) (quoted k ++ 58 ∷ (compact_text d ++ members_text true ms)) (comma_utf8 later)
    (IsUtf8-append (quoted k) (58 ∷ (compact_text d ++ members_text true ms)) (IsUtf8-quoted k h.0)
    (one_byte 58 (compact_text d ++ members_text true ms) (IsUtf8-are_ascii (58 ∷ []) refl) (IsUtf8-append (compact_text d) (members_text true ms) h.1.utf8 (members_utf8 n true ms h.2))))

pub object_reads : (n : ℕ) (ms : Members) → MembersRead n ms → AreInOrder ms → IsReadable (suc n) (object ms)
object_reads n ms h ordered =
    let inside : tree.members_depth (members_outline ms) ≤ n = members_shallow n ms h in
    let shallow : suc (tree.members_depth (members_outline ms)) ≤ suc n = omega (arith, inside) in
    record {
      numbers = members_numbers n ms h;
      shallow = shallow;
      same = ap (option_map object) (members_same n ms no_members h ∙ ap (λ x. Some x) ordered);
      utf8 = one_byte 123 (members_text false ms) (IsUtf8-are_ascii (123 ∷ []) refl) (members_utf8 n false ms h);
    }

-- a member that is put to others
pub put_reads : (n : ℕ) (k : List ℕ) (d : Data) (ms : Members) → IsUtf8 k → IsReadable n d → MembersRead n ms → MembersRead n (put k d ms)
put_reads n k d no_members utf8 reads h = (utf8, reads, tt)
put_reads n k d (member l e ms) utf8 reads h = by (slice_cmp nat_cmp k l) (put_reads n k d ms utf8 reads h.2) where
  by : (o : Ordering) → MembersRead n (put k d ms) → MembersRead n (match_ordering o (member k d (member l e ms)) (member l d ms) (member l e (put k d ms)))
  by Less rest = (utf8, reads, h)
  by Equal rest = (h.0, reads, h.2)
  by Greater rest = (h.0, h.1, rest)
