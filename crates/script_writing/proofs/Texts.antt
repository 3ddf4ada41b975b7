-- The text of a script is that of its tokens, with newlines between some of them.
use Rattle.std.proofs.Common.{◌≡◌, ◌≤◌, ℕ, suc, max, Bool, true, false, List, [], ◌∷◌, ◌++◌, map, codes, Option, Some, None, option_map, option_and_then, refl, sym, ap, ap₂, ◌∙◌, subst, arith, append_assoc, append-nil, inr}
use Rattle.std.specs.Prelude.{IfSome}
use Rattle.std.specs.List.{AllByRecursion}
use Rattle.json.specs.Token.{Token, begin_object, end_object, begin_array, end_array, key, string}
use Rattle.json.specs.Json as json
use Rattle.json.specs.Lex.{tokens}
use Rattle.json.specs.Print.{escape_byte, ends, print_from, ArePrintable}
use Rattle.json.specs.Spaced.{AreGaps, print_spaced}
use Rattle.json.specs.Tree.{json_tokens, items_tokens, members_tokens}
use Rattle.json.specs.Tree as tree
use Rattle.json.proofs.Printed.Tokens.{print_from-append}
use Rattle.json.proofs.Printed.Trees.{value-json_tokens, ArePrintable-json_tokens}
use Rattle.serde_json.specs.Data as values
use Rattle.serde_json.specs.Data.{Data, item, no_members, member, object}
use Rattle.serde_json.specs.Read.{read, max_depth, of_json, of_items, of_members}
use Rattle.serde_json.specs.View.{items_of}
use Rattle.serde_json.specs.Written.{comma_if, compact_text, outline}
use Rattle.serde_json.proofs.Texts.{print-outline}
use Rattle.negotiation_inputs.specs.Platform.{PlatformFacts}
use Rattle.record_laws.specs.Sparse.{platform_written}
use Rattle.script_reading.specs.Call.{ActFacts, duplicates, binds, states, creates_group, creates_child, has_all_children, attaches_token, releases, closes, checks, waits, act_name, name_made}
use Rattle.script_writing.specs.Call.{WrittenCall, HasNames, call_data, member_if, stated_by, stated_text, text_if, text_member}
use Rattle.script_writing.specs.Script.{IsCallSpelled, IsSpelled, calls_text, script_data, script_text}
use Rattle.script_writing.proofs.Names.{IsUnescaped, name_plain, if_plain}
use Rattle.json_lemmas.proofs.CallerLemmas.{Piece, ends_after, gaps_of_both, gaps_of_plain, plain, print_plain, tokens_in, tokens_in_both, tokens_in_plain, tokens_line}

-- ---- what tokens leave

ends_both : (later : Bool) (ts us : List Token) → ends_after later (ts ++ us) ≡ ends_after (ends_after later ts) us
ends_both later [] us = refl
ends_both later (t ∷ ts) us = ends_both (ends t) ts us

mutual
  value_ends : (later : Bool) (j : json.Json) → ends_after later (json_tokens j) ≡ true
  value_ends later json.null = refl
  value_ends later (json.boolean b) = refl
  value_ends later (json.number s) = refl
  value_ends later (json.string s) = refl
  value_ends later (json.array js) = items_end false js
  value_ends later (json.object ms) = members_end false ms

  items_end : (later : Bool) (js : json.Items) → ends_after later (items_tokens js) ≡ true
  items_end later json.no_items = refl
  items_end later (json.item j js) = ends_both later (json_tokens j) (items_tokens js) ∙ items_end (ends_after later (json_tokens j)) js

  members_end : (later : Bool) (ms : json.Members) → ends_after later (members_tokens ms) ≡ true
  members_end later json.no_members = refl
  members_end later (json.member k j ms) = ends_both false (json_tokens j) (members_tokens ms) ∙ members_end (ends_after false (json_tokens j)) ms

-- a value's text, and what follows it
value_printed : (d : Data) (ts : List Token) → print_from false (json_tokens (outline d) ++ ts) ≡ compact_text d ++ print_from true ts
value_printed d ts = print_from-append false (json_tokens (outline d)) ts ∙ ap₂ (λ s b. s ++ print_from b ts) (print-outline d) (value_ends false (outline d))

-- ---- members

regroup_text : (k s r : List ℕ) → 44 ∷ 34 ∷ (((k ++ 34 ∷ []) ++ 58 ∷ []) ++ (34 ∷ ((s ++ 34 ∷ []) ++ r))) ≡ (44 ∷ 34 ∷ (k ++ (34 ∷ 58 ∷ 34 ∷ (s ++ 34 ∷ [])))) ++ r
regroup_text k s r = simp append_assoc

-- a text behind its key
text_printed : (k s : List ℕ) (ts : List Token) → IsUnescaped k → IsUnescaped s → print_from true (key k ∷ string s ∷ ts) ≡ text_member k s ++ print_from true ts
unfolding print_from
text_printed k s ts first second =
    ap₂ (λ a b. 44 ∷ 34 ∷ (((a ++ 34 ∷ []) ++ 58 ∷ []) ++ (34 ∷ ((b ++ 34 ∷ []) ++ print_from true ts)))) first second ∙ regroup_text k s (print_from true ts)

-- JSON's member before others, if it has a value
abbrev json_if : List ℕ → Option json.Json → json.Members → json.Members
json_if k None ms = ms
json_if k (Some j) ms = json.member k j ms

if_printed : (k : List ℕ) (o : Option (List ℕ)) (ms : json.Members) → IsUnescaped k → IfSome o IsUnescaped
    → print_from true (members_tokens (json_if k (option_map json.string o) ms)) ≡ text_if k o ++ print_from true (members_tokens ms)
if_printed k None ms first second = refl
if_printed k (Some s) ms first second = text_printed k s (members_tokens ms) first second

stated_printed : (o : Option Data) → print_from true (members_tokens (json_if (codes "constraints") (option_map outline o) json.no_members)) ≡ stated_text o ++ codes "}"
unfolding print_from escape_byte
stated_printed None = refl
stated_printed (Some d) = ap (λ s. codes ",\"constraints\":" ++ s) (value_printed d (end_object ∷ []))

-- what is behind the first two members
abbrev others : WrittenCall → json.Members
others c = json_if (codes "actor") (option_map json.string c.actor) (json_if (codes "as") (option_map json.string (name_made c.act))
    (json_if (codes "constraints") (option_map outline (stated_by c.act)) json.no_members))

-- a call's members, in the order in which they are written
abbrev members_of_call : WrittenCall → json.Members
members_of_call c = json.member (codes "call") (json.string (act_name c.act)) (json.member (codes "on") (json.string c.on) (others c))

word_plain : (act : ActFacts) → IsUnescaped (act_name act)
unfolding escape_byte
word_plain (duplicates name) = refl
word_plain binds = refl
word_plain (states stated) = refl
word_plain (creates_group name) = refl
word_plain (creates_child name) = refl
word_plain has_all_children = refl
word_plain (attaches_token name) = refl
word_plain releases = refl
word_plain closes = refl
word_plain checks = refl
word_plain waits = refl

key_plain : IsUnescaped (codes "on") × (IsUnescaped (codes "actor") × IsUnescaped (codes "as"))
unfolding escape_byte
key_plain = (refl, (refl, refl))

word_printed : (w : List ℕ) (ts : List Token) → IsUnescaped w → print_from false (key (codes "call") ∷ string w ∷ ts) ≡ codes "\"call\":\"" ++ (w ++ (codes "\"" ++ print_from true ts))
unfolding print_from escape_byte
word_printed w ts plain = ap (λ a. codes "\"call\":\"" ++ ((a ++ 34 ∷ []) ++ print_from true ts)) plain ∙ ap (λ s. codes "\"call\":\"" ++ s) (append_assoc w (34 ∷ []) (print_from true ts))

regroup_rest : (a b c d e : List ℕ) → (a ++ (b ++ (c ++ (d ++ e)))) ≡ a ++ (b ++ (c ++ (d ++ e)))
regroup_rest a b c d e = refl

-- the text of a call without its first bracket
abbrev inside_text : WrittenCall → List ℕ
inside_text c = codes "\"call\":\"" ++ (act_name c.act ++ (codes "\"" ++ (text_member (codes "on") c.on
    ++ (text_if (codes "actor") c.actor ++ (text_if (codes "as") (name_made c.act) ++ (stated_text (stated_by c.act) ++ codes "}"))))))

call_printed : (c : WrittenCall) → HasNames c → print_from false (members_tokens (members_of_call c)) ≡ inside_text c
call_printed c names =
    word_printed (act_name c.act) (key (codes "on") ∷ string c.on ∷ members_tokens (others c)) (word_plain c.act)
    ∙ ap (λ s. codes "\"call\":\"" ++ (act_name c.act ++ (codes "\"" ++ s)))
    (text_printed (codes "on") c.on (members_tokens (others c)) key_plain.0 (name_plain c.on names.on)
    ∙ ap (λ s. text_member (codes "on") c.on ++ s)
    (if_printed (codes "actor") c.actor _ key_plain.1.0 (if_plain c.actor names.actor)
    ∙ ap (λ s. text_if (codes "actor") c.actor ++ s)
    (if_printed (codes "as") (name_made c.act) _ key_plain.1.1 (if_plain (name_made c.act) names.made)
    ∙ ap (λ s. text_if (codes "as") (name_made c.act) ++ s) (stated_printed (stated_by c.act)))))

-- ---- calls

abbrev call_pieces : WrittenCall → List Piece → List Piece
call_pieces c ps = (codes "\n", begin_object) ∷ (plain (members_tokens (members_of_call c)) ++ ps)

abbrev calls_pieces : List WrittenCall → List Piece
calls_pieces [] = ([], end_array) ∷ ([], end_object) ∷ []
calls_pieces (c ∷ cs) = call_pieces c (calls_pieces cs)

begun : (later : Bool) (ps : List Piece) → print_spaced later ((codes "\n", begin_object) ∷ ps) ≡ comma_if later ++ (codes "\n" ++ (123 ∷ print_spaced false ps))
unfolding print_spaced
begun true ps = refl
begun false ps = refl

ended : (later : Bool) → print_spaced later (([], end_array) ∷ ([], end_object) ∷ []) ++ 10 ∷ [] ≡ codes "]}\n"
unfolding print_spaced
ended true = refl
ended false = refl

regroup_call : (a b c r : List ℕ) → (a ++ (10 ∷ 123 ∷ (b ++ c))) ++ r ≡ a ++ (10 ∷ 123 ∷ (b ++ (c ++ r)))
regroup_call a b c r = simp append_assoc

calls_printed : (later : Bool) (cs : List WrittenCall) → AllByRecursion HasNames cs → print_spaced later (calls_pieces cs) ++ 10 ∷ [] ≡ calls_text later cs
calls_printed later [] names = ended later
calls_printed later (c ∷ cs) names =
    let ts = members_tokens (members_of_call c) in
    let ps = calls_pieces cs in
    ap (λ s. s ++ 10 ∷ []) (begun later (plain ts ++ ps)
    ∙ ap (λ s. comma_if later ++ (10 ∷ 123 ∷ s)) (print_plain false ts ps ∙ ap₂ (λ s b. s ++ print_spaced b ps) (call_printed c names.0) (members_end false (members_of_call c))))
    ∙ regroup_call (comma_if later) (inside_text c) (print_spaced true ps) (10 ∷ [])
    ∙ ap (λ s. comma_if later ++ (10 ∷ 123 ∷ (inside_text c ++ s))) (calls_printed true cs names.1)

-- ---- the script

abbrev platform_tokens : PlatformFacts → List Token
platform_tokens p = begin_object ∷ key (codes "platform") ∷ json_tokens (outline (platform_written p))

abbrev script_pieces : PlatformFacts → List WrittenCall → List Piece
script_pieces p cs = plain (platform_tokens p) ++ ((codes "\n", key (codes "calls")) ∷ ([], begin_array) ∷ calls_pieces cs)

platform_printed : (p : PlatformFacts) → print_from false (platform_tokens p) ≡ codes "{\"platform\":" ++ compact_text (platform_written p)
unfolding print_from escape_byte
platform_printed p = ap (λ s. codes "{\"platform\":" ++ s) (print-outline (platform_written p))

calls_begun : (ps : List Piece) → print_spaced true ((codes "\n", key (codes "calls")) ∷ ([], begin_array) ∷ ps) ≡ codes ",\n\"calls\":[" ++ print_spaced false ps
unfolding print_spaced escape_byte
calls_begun ps = refl

regroup_script : (a b c d r : List ℕ) → ((a ++ b) ++ (c ++ d)) ++ r ≡ a ++ (b ++ (c ++ (d ++ r)))
regroup_script a b c d r = simp append_assoc

script_printed : (p : PlatformFacts) (cs : List WrittenCall) → AllByRecursion HasNames cs → print_spaced false (script_pieces p cs) ++ 10 ∷ [] ≡ script_text p cs
script_printed p cs names =
    let ps : List Piece = (codes "\n", key (codes "calls")) ∷ ([], begin_array) ∷ calls_pieces cs in
    let d = platform_written p in
    ap (λ s. s ++ 10 ∷ [])
    (print_plain false (platform_tokens p) ps ∙ ap₂ (λ s b. s ++ print_spaced b ps) (platform_printed p) (value_ends false (outline d)) ∙ ap (λ s. (codes "{\"platform\":" ++ compact_text d) ++ s) (calls_begun (calls_pieces cs)))
    ∙ regroup_script (codes "{\"platform\":") (compact_text d) (codes ",\n\"calls\":[") (print_spaced false (calls_pieces cs)) (10 ∷ [])
    ∙ ap (λ s. codes "{\"platform\":" ++ (compact_text d ++ (codes ",\n\"calls\":[" ++ s))) (calls_printed false cs names)

-- ---- the script's JSON

abbrev calls_json : List WrittenCall → json.Items
calls_json [] = json.no_items
calls_json (c ∷ cs) = json.item (json.object (members_of_call c)) (calls_json cs)

abbrev script_json : PlatformFacts → List WrittenCall → json.Json
script_json p cs = json.object (json.member (codes "platform") (outline (platform_written p)) (json.member (codes "calls") (json.array (calls_json cs)) json.no_members))

calls_in : (cs : List WrittenCall) → tokens_in (calls_pieces cs) ≡ items_tokens (calls_json cs) ++ end_object ∷ []
calls_in [] = refl
calls_in (c ∷ cs) =
    let ts = members_tokens (members_of_call c) in
    ap (λ l. begin_object ∷ l) (tokens_in_both (plain ts) (calls_pieces cs) ∙ ap₂ (λ a b. a ++ b) (tokens_in_plain ts) (calls_in cs) ∙ sym (append_assoc ts (items_tokens (calls_json cs)) (end_object ∷ [])))

script_in : (p : PlatformFacts) (cs : List WrittenCall) → tokens_in (script_pieces p cs) ≡ json_tokens (script_json p cs)
script_in p cs =
    tokens_in_both (plain (platform_tokens p)) ((codes "\n", key (codes "calls")) ∷ ([], begin_array) ∷ calls_pieces cs)
    ∙ ap₂ (λ a b. a ++ (key (codes "calls") ∷ begin_array ∷ b)) (tokens_in_plain (platform_tokens p)) (calls_in cs)

calls_gaps : (cs : List WrittenCall) → AreGaps (calls_pieces cs)
calls_gaps [] = (tt, (tt, tt))
calls_gaps (c ∷ cs) = ((inr refl, tt), gaps_of_both (plain (members_tokens (members_of_call c))) (calls_pieces cs) (gaps_of_plain (members_tokens (members_of_call c))) (calls_gaps cs))

script_gaps : (p : PlatformFacts) (cs : List WrittenCall) → AreGaps (script_pieces p cs)
script_gaps p cs = gaps_of_both (plain (platform_tokens p)) _ (gaps_of_plain (platform_tokens p)) ((inr refl, tt), (tt, calls_gaps cs))

-- its numbers, and how deep it is
stated_numbers : (o : Option Data) → IfSome o IsSpelled → tree.MembersHaveNumbers (json_if (codes "constraints") (option_map outline o) json.no_members)
stated_numbers None h = tt
stated_numbers (Some d) h = (h.numbers, tt)

if_numbers : (k : List ℕ) (o : Option (List ℕ)) (ms : json.Members) → tree.MembersHaveNumbers ms → tree.MembersHaveNumbers (json_if k (option_map json.string o) ms)
if_numbers k None ms h = h
if_numbers k (Some s) ms h = (tt, h)

calls_numbers : (cs : List WrittenCall) → AllByRecursion IsCallSpelled cs → tree.ItemsHaveNumbers (calls_json cs)
calls_numbers [] h = tt
calls_numbers (c ∷ cs) h =
    ((tt, (tt, if_numbers (codes "actor") c.actor _ (if_numbers (codes "as") (name_made c.act) _ (stated_numbers (stated_by c.act) h.0)))), calls_numbers cs h.1)

stated_depth : (o : Option Data) → IfSome o IsSpelled → tree.members_depth (json_if (codes "constraints") (option_map outline o) json.no_members) ≤ 100
stated_depth None h = omega arith
stated_depth (Some d) h =
    let inner : tree.depth (outline d) ≤ 100 = h.shallow in
    let whole : max (tree.depth (outline d)) 0 ≤ 100 = omega (arith, inner) in whole

if_depth : (k : List ℕ) (o : Option (List ℕ)) (ms : json.Members) → tree.members_depth ms ≤ 100 → tree.members_depth (json_if k (option_map json.string o) ms) ≤ 100
if_depth k None ms h = h
if_depth k (Some s) ms h = let whole : max 0 (tree.members_depth ms) ≤ 100 = omega (arith, h) in whole

call_depth : (c : WrittenCall) → IsCallSpelled c → tree.depth (json.object (members_of_call c)) ≤ 101
call_depth c h =
    let inner : tree.members_depth (others c) ≤ 100 = if_depth (codes "actor") c.actor _ (if_depth (codes "as") (name_made c.act) _ (stated_depth (stated_by c.act) h)) in
    let whole : suc (max 0 (max 0 (tree.members_depth (others c)))) ≤ 101 = omega (arith, inner) in whole

calls_depth : (cs : List WrittenCall) → AllByRecursion IsCallSpelled cs → tree.items_depth (calls_json cs) ≤ 101
calls_depth [] h = omega arith
calls_depth (c ∷ cs) h =
    let first : tree.depth (json.object (members_of_call c)) ≤ 101 = call_depth c h.0 in
    let rest : tree.items_depth (calls_json cs) ≤ 101 = calls_depth cs h.1 in
    let whole : max (tree.depth (json.object (members_of_call c))) (tree.items_depth (calls_json cs)) ≤ 101 = omega (arith, first, rest) in whole

script_depth : (p : PlatformFacts) (cs : List WrittenCall) → IsSpelled (platform_written p) → AllByRecursion IsCallSpelled cs → tree.depth (script_json p cs) ≤ max_depth
script_depth p cs h all =
    let first : tree.depth (outline (platform_written p)) ≤ 100 = h.shallow in
    let rest : tree.items_depth (calls_json cs) ≤ 101 = calls_depth cs all in
    let whole : suc (max (tree.depth (outline (platform_written p))) (max (suc (tree.items_depth (calls_json cs))) 0)) ≤ max_depth = omega (arith, first, rest) in whole

-- ---- what it is read as

call_back : (w on : List ℕ) (actor made : Option (List ℕ)) (stated : Option Data) → IfSome stated IsSpelled
    → of_members (json.member (codes "call") (json.string w) (json.member (codes "on") (json.string on) (json_if (codes "actor") (option_map json.string actor) (json_if (codes "as") (option_map json.string made) (json_if (codes "constraints") (option_map outline stated) json.no_members))))) no_members
    ≡ Some (member_if (codes "actor") (option_map values.string actor) (member_if (codes "as") (option_map values.string made) (member (codes "call") (values.string w) (member_if (codes "constraints") stated (member (codes "on") (values.string on) no_members)))))
call_back w on None None None h = refl
call_back w on (Some a) None None h = refl
call_back w on None (Some m) None h = refl
call_back w on (Some a) (Some m) None h = refl
call_back w on None None (Some d) h = rw h.same refl
call_back w on (Some a) None (Some d) h = rw h.same refl
call_back w on None (Some m) (Some d) h = rw h.same refl
call_back w on (Some a) (Some m) (Some d) h = rw h.same refl

calls_back : (cs : List WrittenCall) → AllByRecursion IsCallSpelled cs → of_items (calls_json cs) ≡ Some (items_of (map call_data cs))
calls_back [] h = refl
calls_back (c ∷ cs) h =
    ap (λ o. option_and_then (λ x. option_map (item x) (of_items (calls_json cs))) (option_map object o)) (call_back (act_name c.act) c.on c.actor (name_made c.act) (stated_by c.act) h.0)
    ∙ ap (option_map (item (call_data c))) (calls_back cs h.1)

script_back : (p : PlatformFacts) (cs : List WrittenCall) → IsSpelled (platform_written p) → AllByRecursion IsCallSpelled cs → of_json (script_json p cs) ≡ Some (script_data p cs)
script_back p cs h all = rw (h.same, calls_back cs all) refl

pub script_read : (p : PlatformFacts) (cs : List WrittenCall) → IsSpelled (platform_written p) → AllByRecursion IsCallSpelled cs → AllByRecursion HasNames cs → read (script_text p cs) ≡ Some (script_data p cs)
script_read p cs h all names =
    let j = script_json p cs in
    let numbers : tree.HasNumbers j = (h.numbers, (calls_numbers cs all, tt)) in
    let printable : ArePrintable (tokens_in (script_pieces p cs)) = subst ArePrintable (sym (script_in p cs)) (ArePrintable-json_tokens j numbers) in
    let ts : tokens (script_text p cs) ≡ json_tokens j ++ [] =
    ap tokens (sym (script_printed p cs names)) ∙ tokens_line (script_pieces p cs) (script_gaps p cs) printable ∙ script_in p cs ∙ sym (append-nil (json_tokens j)) in
    ap (λ l. option_and_then of_json (option_and_then (λ q. json.if_last q.0 q.1) (json.value max_depth l))) ts
    ∙ ap (λ o. option_and_then of_json (option_and_then (λ q. json.if_last q.0 q.1) o)) (value-json_tokens j max_depth [] (script_depth p cs h all))
    ∙ script_back p cs h all
