-- Tokens that are followed through a value, a turn at a time.
use Rattle.std.proofs.Common.{◌≡◌, ℕ, zero, suc, ◌+◌, ◌-◌, ◌<◌, ◌≤◌, ◌⊎◌, inl, inr, List, [], ◌∷◌, ◌++◌, length, drop, get_or, Option, Some, None, option_map, option_and_then, Ordering, Less, Equal, Greater, String, Global, string_bytes, nat_cmp, string_cmp, is_eq, bytes_eq, refl, sym, ap, ap₂, ◌∙◌, subst, append-nil, arith, rules, Bool}
use Rattle.std.proofs.lemmas.Cmp.{nat_list_cmp_total}
use Rattle.std.proofs.lemmas.List.{drop_more}
use Rattle.std.proofs.lemmas.Map.Text.{is_eq-slice_cmp}
use Rattle.std.proofs.lemmas.Slice.Eq.{bytes_eq-Decides}
use Rattle.std.specs.Prelude.{⊤}
use Rattle.std.specs.Cmp.Lexicographic.{slice_cmp}
use Rattle.std.specs.List.{AllByRecursion}
use Rattle.std.specs.List.Sorted.{IsStrictlySortedBy}
use Rattle.std.specs.Map.{keys_of}
use Rattle.std.specs.Ordering.{match_ordering}
use Rattle.json.specs.Token.{Token}
use Rattle.json.specs.Lex.{tokens}
use Rattle.json.specs.Print.{IsNumber, ArePrintable, print, print_from}
use Rattle.json.specs.Json as json
use Rattle.json.specs.Json.{Parse, parse_map, after_end_array, read_key, if_last, items, members, value}
use Rattle.json.proofs.Grammar.{items_end, items_more, members_end, members_more, value_is, value-begin_array, value-begin_object}
use Rattle.json.proofs.Printed.Tokens.{tokens-print}
use Rattle.serde_json.specs.Data.{Data, null, boolean, number, string, array, object, Items, no_items, item, Members, no_members, member, put, depth}
use Rattle.serde_json.specs.Events.{members_len}
use Rattle.serde_json.specs.Find.{get_member}
use Rattle.serde_json.specs.Read.{of_json, of_items, of_members, converted, max_depth, number_of, read}
use Rattle.serde_json.specs.View.{view, items_view, members_view, number_view}
use Rattle.serde_json.specs.declared.number.Number as numbers
use Rattle.serde_json.specs.declared.value.Value.{Value, Null, Number, the_lemmas}
use Rattle.serde_json.proofs.Views.{Entry, members_len-members_view}

-- ---- what was read, under a conversion

abbrev pick : {A : Type 0} → A → Option A → A
pick d None = d
pick d (Some a) = a

found : {A B : Type 0} (a : A) (r s : List Token) (x : Option B) (b : B) → option_map {U = B × List Token} (λ y. (y, r)) x ≡ Some (b, s) → (r ≡ s) × (x ≡ Some b)
found a r s None b e = absurd (cc)
found a r s (Some y) b e = let same = ap (pick (y, r)) e in (ap (λ p. p.1) same, ap (λ p. Some p.0) same)

converted_some : {A B : Type 0} (f : A → Option B) (o : Option (A × List Token)) (b : B) (r : List Token) → converted f o ≡ Some (b, r) → (a : A) × (o ≡ Some (a, r)) × (f a ≡ Some b)
converted_some f None b r e = absurd (cc)
converted_some f (Some p) b r e = let both = found p.0 p.1 r (f p.0) b e in (p.0, ap (λ s. Some (p.0, s)) both.0, both.1)

twice : {A B : Type 0} (g : A → B) (r : List Token) (x : Option A) → option_map (λ b. (b, r)) (option_map g x) ≡ parse_map g (option_map (λ a. (a, r)) x)
twice g r None = refl
twice g r (Some a) = refl

converted-array : (o : Option (json.Items × List Token)) → converted of_json (parse_map json.array o) ≡ parse_map array (converted of_items o)
converted-array None = refl
converted-array (Some p) = twice array p.1 (of_items p.0)

converted-object : (o : Option (json.Members × List Token)) → converted of_json (parse_map json.object o) ≡ parse_map object (converted (λ ms. of_members ms no_members) o)
converted-object None = refl
converted-object (Some p) = twice object p.1 (of_members p.0 no_members)

with_item : (j : json.Json) (d : Data) → of_json j ≡ Some d → (o : Option (json.Items × List Token)) → converted of_items (parse_map (json.item j) o) ≡ parse_map (item d) (converted of_items o)
with_item j d e None = refl
with_item j d e (Some p) = rw e (twice (item d) p.1 (of_items p.0))

with_member : (k : List ℕ) (j : json.Json) (d : Data) (old : Members) → of_json j ≡ Some d → (o : Option (json.Members × List Token))
    → converted (λ ms. of_members ms old) (parse_map (json.member k j) o) ≡ converted (λ ms. of_members ms (put k d old)) o
with_member k j d old e None = refl
with_member k j d old e (Some p) = rw e

-- ---- one value

pub text_read : (n : ℕ) (ts r : List Token) (s : List ℕ) (d : Data) → ts ≡ Token.string s ∷ r → d ≡ string s → converted of_json (value n ts) ≡ Some (d, r)
text_read n ts r s d e is = ap (converted of_json) (ap (value n) e ∙ value_is n _) ∙ ap (λ x. Some (x, r)) (sym is)

pub bool_read : (n : ℕ) (ts r : List Token) (b : Bool) (d : Data) → ts ≡ Token.boolean b ∷ r → d ≡ boolean b → converted of_json (value n ts) ≡ Some (d, r)
bool_read n ts r b d e is = ap (converted of_json) (ap (value n) e ∙ value_is n _) ∙ ap (λ x. Some (x, r)) (sym is)

pub null_read : (n : ℕ) (ts r : List Token) (d : Data) → ts ≡ Token.null ∷ r → d ≡ null → converted of_json (value n ts) ≡ Some (d, r)
null_read n ts r d e is = ap (converted of_json) (ap (value n) e ∙ value_is n _) ∙ ap (λ x. Some (x, r)) (sym is)

pub number_read : (n : ℕ) (ts r : List Token) (s : List ℕ) (d : Data) → ts ≡ Token.number s ∷ r → option_map number (number_of s) ≡ Some d → converted of_json (value n ts) ≡ Some (d, r)
number_read n ts r s d e is = ap (converted of_json) (ap (value n) e ∙ value_is n _) ∙ ap (option_map (λ x. (x, r))) is

pub array_read : (n : ℕ) (ts s r : List Token) (ds : Items) (d : Data) → 0 < n → ts ≡ Token.begin_array ∷ s → converted of_items (items (value (n - 1)) (length s) s) ≡ Some (ds, r) → d ≡ array ds
    → converted of_json (value n ts) ≡ Some (d, r)
array_read n ts s r ds d some e inner is =
    ap (converted of_json) (ap (value n) e ∙ value-begin_array n s some) ∙ converted-array (items (value (n - 1)) (length s) s) ∙ ap (parse_map array) inner ∙ ap (λ x. Some (x, r)) (sym is)

pub object_read : (n : ℕ) (ts s r : List Token) (ms : Members) (d : Data) → 0 < n → ts ≡ Token.begin_object ∷ s
    → converted (λ js. of_members js no_members) (members (value (n - 1)) (length s) s) ≡ Some (ms, r) → d ≡ object ms → converted of_json (value n ts) ≡ Some (d, r)
object_read n ts s r ms d some e inner is =
    ap (converted of_json) (ap (value n) e ∙ value-begin_object n s some) ∙ converted-object (members (value (n - 1)) (length s) s) ∙ ap (parse_map object) inner ∙ ap (λ x. Some (x, r)) (sym is)

seen_number : (n : numbers.Number) → view (Number n) ≡ number (number_view n)
seen_number n = search (rules, the_lemmas)

pub flat_number : (v : Value) (n : numbers.Number) → v ≡ Number n → depth (view v) ≤ max_depth
flat_number v n is = subst (λ d. depth d ≤ max_depth) (sym (ap view is ∙ seen_number n)) (omega arith)

pub seen_null : view Null ≡ null
seen_null = search (rules, the_lemmas)

-- ---- a list's items

pub past_items : (vs : List Value) (i : ℕ) → length vs ≤ i → items_view (drop i vs) ≡ no_items
past_items [] zero h = refl
past_items [] (suc i) h = refl
past_items (v ∷ vs) zero h = absurd (omega arith)
past_items (v ∷ vs) (suc i) h = past_items vs i (omega arith)

module _ (p : Parse json.Json) (n : ℕ) where
  -- one item more: what the rest gives, all gives
  pub item_turn : (ts s : List Token) (v : Value) (vs : List Value) → 0 < n → after_end_array ts ≡ None → converted of_json (p ts) ≡ Some (view v, s)
      → (r : List Token) → converted of_items (items p (n - 1) s) ≡ Some (items_view vs, r) → converted of_items (items p n ts) ≡ Some (items_view (v ∷ vs), r)
  item_turn ts s v vs some going e r rest =
      let j = converted_some of_json (p ts) (view v) s e in
      ap (converted of_items) (items_more p n ts s j.0 some going j.1) ∙ with_item j.0 (view v) j.2 _ ∙ ap (parse_map (item (view v))) rest

  pub item_of_turn : (ts s : List Token) (vs : List Value) (i : ℕ) (v : Value) → i < length vs → v ≡ get_or vs i v → 0 < n → after_end_array ts ≡ None → converted of_json (p ts) ≡ Some (view v, s)
      → (r : List Token) → converted of_items (items p (n - 1) s) ≡ Some (items_view (drop (i + 1) vs), r) → converted of_items (items p n ts) ≡ Some (items_view (drop i vs), r)
  item_of_turn ts s vs i v inside is some going e r rest =
      item_turn ts s v (drop (i + 1) vs) some going e r rest ∙ ap (λ l. Some (items_view l, r)) (sym (drop_more vs i v inside ∙ ap (λ x. x ∷ drop (i + 1) vs) (sym is)))

  pub items_over : (ts r : List Token) → length ts ≤ n → after_end_array ts ≡ Some r → converted of_items (items p n ts) ≡ Some (no_items, r)
  items_over ts r enough e = ap (converted of_items) (items_end p n ts r enough e)

  -- ---- an object's members

  pub member_turn : (old : Members) (k : List ℕ) (ts s r : List Token) (d : Data) → 0 < n → read_key ts ≡ Some (Some k, s) → converted of_json (p s) ≡ Some (d, r)
      → converted (λ ms. of_members ms old) (members p n ts) ≡ converted (λ ms. of_members ms (put k d old)) (members p (n - 1) r)
  member_turn old k ts s r d some key e =
      let j = converted_some of_json (p s) d r e in ap (converted (λ ms. of_members ms old)) (members_more p n k ts s r j.0 some key j.1) ∙ with_member k j.0 d old j.2 _

  pub members_over : (old : Members) (ts r : List Token) → length ts ≤ n → read_key ts ≡ Some (None, r) → converted (λ ms. of_members ms old) (members p n ts) ≡ Some (old, r)
  members_over old ts r enough e = ap (converted (λ ms. of_members ms old)) (members_end p n ts r enough e)

-- ---- members that are some of an object's

-- these are some of the entries, in their order
abbrev pub IsWithin : Members → List Entry → Type 0
IsWithin no_members es = ⊤
IsWithin (member k d ms) [] = ⊥
IsWithin (member k d ms) (e ∷ es) = ((k ≡ string_bytes e.0) × (d ≡ view e.1) × IsWithin ms es) ⊎ IsWithin (member k d ms) es

skip : (ms : Members) (e : Entry) (es : List Entry) → IsWithin ms es → IsWithin ms (e ∷ es)
skip no_members e es w = tt
skip (member k d ms) e es w = inr w

within_len : (ms : Members) (es : List Entry) → IsWithin ms es → members_len ms ≤ length es
within_len no_members es w = omega arith
within_len (member k d ms) [] w = absurd w
within_len (member k d ms) (e ∷ es) (inl w) = omega (arith, within_len ms es w.2)
within_len (member k d ms) (e ∷ es) (inr w) = omega (arith, within_len (member k d ms) es w)

-- as many as there are: all
pub all_within : (ms : Members) (es : List Entry) → IsWithin ms es → members_len ms ≡ length es → ms ≡ members_view es
all_within no_members [] w e = refl
all_within no_members (x ∷ es) w e = absurd (omega (arith, e))
all_within (member k d ms) [] w e = absurd w
all_within (member k d ms) (x ∷ es) (inl w) e = rw (w.0, w.1, all_within ms es w.2 (omega (arith, e)))
all_within (member k d ms) (x ∷ es) (inr w) e = absurd (omega (arith, within_len (member k d ms) es w, e))

same_key : (k l : List ℕ) → slice_cmp nat_cmp k l ≡ Equal → k ≡ l
same_key k l is = (bytes_eq-Decides k l).0 (sym (is_eq-slice_cmp k l) ∙ ap is_eq is)

-- a key below all others is none of them
absent : (es : List Entry) (x : String Global) (k : List ℕ) (d : Data) → AllByRecursion (λ y. string_cmp x y ≡ Less) (keys_of es) → slice_cmp nat_cmp k (string_bytes x) ≡ Less
    → get_member k (members_view es) ≡ Some d → ⊥
absent [] x k d above below e = cc
absent (y ∷ es) x k d above below e =
    let less = nat_list_cmp_total.trans k (string_bytes x) (string_bytes y.0) below above.0 in
    absent es x k d above.1 below (ap (λ o. match_ordering o (get_member k (members_view es)) (Some (view y.1)) (get_member k (members_view es))) (sym less) ∙ e)

-- the keys of some of them are above a key that is below all
first_above : (es : List Entry) (x : String Global) (m : List ℕ) (f : Data) (ms : Members) → AllByRecursion (λ y. string_cmp x y ≡ Less) (keys_of es) → IsWithin (member m f ms) es
    → slice_cmp nat_cmp (string_bytes x) m ≡ Less
first_above [] x m f ms above w = absurd w
first_above (y ∷ es) x m f ms above (inl w) = ap (slice_cmp nat_cmp (string_bytes x)) w.0 ∙ above.0
first_above (y ∷ es) x m f ms above (inr w) = first_above es x m f ms above.1 w

abbrev Chosen : Ordering → List ℕ → Data → Entry → List Entry → Type 0
Chosen o k d x es = match_ordering o (get_member k (members_view es)) (Some (view x.1)) (get_member k (members_view es)) ≡ Some d

some_is : (a b : Data) → Some a ≡ Some b → b ≡ a
some_is a b e = cc

-- a member of the entries beside some of them
pub within_put : (es : List Entry) (k : List ℕ) (d : Data) (ms : Members) → IsStrictlySortedBy string_cmp (keys_of es) → get_member k (members_view es) ≡ Some d → IsWithin ms es → IsWithin (put k d ms) es
unfolding IsStrictlySortedBy
within_put [] k d ms sorted e w = absurd (cc)
within_put (x ∷ es) k d no_members sorted e w = go (slice_cmp nat_cmp k (string_bytes x.0)) refl e (λ h. within_put es k d no_members sorted.1 h tt)
  where
    go : (o : Ordering) → slice_cmp nat_cmp k (string_bytes x.0) ≡ o → Chosen o k d x es → (get_member k (members_view es) ≡ Some d → IsWithin (member k d no_members) es)
        → IsWithin (member k d no_members) (x ∷ es)
    go Less is h again = inr (again h)
    go Equal is h again = inl (same_key k (string_bytes x.0) is, some_is (view x.1) d h, tt)
    go Greater is h again = inr (again h)
within_put (x ∷ es) k d (member m f ms) sorted e (inl w) = go (slice_cmp nat_cmp k (string_bytes x.0)) refl e w sorted.0 (λ h. within_put es k d ms sorted.1 h w.2)
  where
    put_is : (o : Ordering) → slice_cmp nat_cmp k (string_bytes x.0) ≡ o → m ≡ string_bytes x.0 → match_ordering o (member k d (member m f ms)) (member m d ms) (member m f (put k d ms)) ≡ put k d (member m f ms)
    put_is o is same = ap (λ c. match_ordering c (member k d (member m f ms)) (member m d ms) (member m f (put k d ms))) (sym is ∙ ap (slice_cmp nat_cmp k) (sym same))

    go : (o : Ordering) → slice_cmp nat_cmp k (string_bytes x.0) ≡ o → Chosen o k d x es → (m ≡ string_bytes x.0) × (f ≡ view x.1) × IsWithin ms es
        → AllByRecursion (λ y. string_cmp x.0 y ≡ Less) (keys_of es) → (get_member k (members_view es) ≡ Some d → IsWithin (put k d ms) es) → IsWithin (put k d (member m f ms)) (x ∷ es)
    go Less is h here above again = absurd (absent es x.0 k d above is h)
    go Equal is h here above again = subst (λ z. IsWithin z (x ∷ es)) (put_is Equal is here.0) (inl (here.0, some_is (view x.1) d h, here.2))
    go Greater is h here above again = subst (λ z. IsWithin z (x ∷ es)) (put_is Greater is here.0) (inl (here.0, here.1, again h))
within_put (x ∷ es) k d (member m f ms) sorted e (inr w) = go (slice_cmp nat_cmp k (string_bytes x.0)) refl e w sorted.0 (λ h. within_put es k d (member m f ms) sorted.1 h w)
  where
    go : (o : Ordering) → slice_cmp nat_cmp k (string_bytes x.0) ≡ o → Chosen o k d x es → IsWithin (member m f ms) es
        → AllByRecursion (λ y. string_cmp x.0 y ≡ Less) (keys_of es) → (get_member k (members_view es) ≡ Some d → IsWithin (put k d (member m f ms)) es) → IsWithin (put k d (member m f ms)) (x ∷ es)
    go Less is h later above again = skip (put k d (member m f ms)) x es (again h)
    go Equal is h later above again =
        let same = same_key k (string_bytes x.0) is in
        let less : slice_cmp nat_cmp k m ≡ Less = ap (λ y. slice_cmp nat_cmp y m) same ∙ first_above es x.0 m f ms above later in
        let first : member k d (member m f ms) ≡ put k d (member m f ms) = ap (λ c. match_ordering c (member k d (member m f ms)) (member m d ms) (member m f (put k d ms))) (sym less) in
        subst (λ z. IsWithin z (x ∷ es)) first (inl (same, some_is (view x.1) d h, later))
    go Greater is h later above again = skip (put k d (member m f ms)) x es (again h)

-- ---- the keys alone

abbrev pub keys_alone : Members → Members
keys_alone no_members = no_members
keys_alone (member k d ms) = member k null (keys_alone ms)

keys_alone-match : (o : Ordering) (a b c : Members) → keys_alone (match_ordering o a b c) ≡ match_ordering o (keys_alone a) (keys_alone b) (keys_alone c)
keys_alone-match Less a b c = refl
keys_alone-match Equal a b c = refl
keys_alone-match Greater a b c = refl

pub keys_alone-put : (k : List ℕ) (d : Data) (ms : Members) → keys_alone (put k d ms) ≡ put k null (keys_alone ms)
keys_alone-put k d no_members = refl
keys_alone-put k d (member l e ms) = keys_alone-match (slice_cmp nat_cmp k l) _ _ _ ∙ rw (keys_alone-put k d ms)

keys_alone-len : (ms : Members) → members_len (keys_alone ms) ≡ members_len ms
keys_alone-len no_members = refl
keys_alone-len (member k d ms) = ap suc (keys_alone-len ms)

pub members_seen : (ms : Members) (seen : List Entry) → members_view seen ≡ keys_alone ms → members_len ms ≡ length seen
members_seen ms seen e = sym (keys_alone-len ms) ∙ ap members_len (sym e) ∙ members_len-members_view seen

-- ---- a whole text

abbrev whole : Option (json.Json × List Token) → Option Data
whole o = option_and_then of_json (option_and_then (λ p. if_last p.0 p.1) o)

pub whole_read : (text : List ℕ) (d : Data) → converted of_json (value max_depth (tokens text)) ≡ Some (d, []) → read text ≡ Some d
whole_read text d e = let j = converted_some of_json (value max_depth (tokens text)) d [] e in ap whole j.1 ∙ j.2

tokens_number : (s : List ℕ) → IsNumber s → tokens s ≡ Token.number s ∷ []
unfolding ArePrintable print_from
tokens_number s n = ap tokens (sym (append-nil s)) ∙ tokens-print (Token.number s ∷ []) (n, tt)

-- a number by itself
pub number_alone : (s : List ℕ) (d : Data) → IsNumber s → read s ≡ Some d → option_map number (number_of s) ≡ Some d
number_alone s d n e = sym (ap whole (ap (value max_depth) (tokens_number s n) ∙ value_is max_depth _)) ∙ e
