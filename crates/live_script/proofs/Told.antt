-- The calls that are told of a history are read as its actions.
use Rattle.std.proofs.Common.{◌≡◌, ◌<◌, ◌≤◌, ◌+◌, ◌||◌, ◌==◌, ◌++◌, ℕ, zero, suc, Bool, true, false, cond, List, [], ◌∷◌, map, length, length-append, append-nil, Option, Some, None, Result, Ok, slice_get, slice_set, get_or, refl, sym, ◌∙◌, ap, subst, arith, lt-ltb, le-leb, inl, inr}
use Rattle.std.specs.Prelude.{IfSome, bytes_eq, find, if◌then◌else◌, is_some, nat_le, nat_lt, option_map, position, unwrap_or}
use Rattle.std.specs.List.{AllByRecursion, IsDistinct, list_any, position_or_len}
use Rattle.std.proofs.lemmas.Bool.{cases_lt, leb-true, or_cases}
use Rattle.std.proofs.lemmas.List.{length-map}
use Rattle.std.proofs.lemmas.List.Folds.{list_any-append}
use Rattle.std.proofs.lemmas.List.Sums.{position_or_len_is}
use Rattle.std.proofs.lemmas.Map.Keys.{IsDistinct-push}
use Rattle.std.proofs.lemmas.Map.Made.{length-le_from_is_member}
use Rattle.std.proofs.lemmas.Option.{get_or_from_slice_get, same_Some, slice_get_within}
use Rattle.live_book.specs.Snapshot.{IsSettled, SnapshotFacts}
use Rattle.live_script.proofs.Called.{apart, bytes_are, bytes_differ, bytes_laws, bytes_same, given_called, is_called, or_first, or_second}
use Rattle.live_script.proofs.Named.{decided_long, get_first, get_last, is_made, set_long}
use Rattle.live_script.specs.Script.{AreCallsOf, IsTooLong, ReadsBack, act_told, actor_told, call_told, called, calls_told, nodes_then}
use Rattle.live_script.specs.Calls.{IsRead}
use Rattle.negotiation_inputs.specs.Platform.{PlatformFacts}
use Rattle.node_names.specs.Names.{AreNames, NamedNode, given_name}
use Rattle.record_laws.specs.Sparse.{participant_written}
use Rattle.script_reading.specs.Call.{name_made}
use Rattle.script_reading.specs.Names.{is_among, is_name, main_actor, root, with_actor}
use Rattle.script_reading.specs.Script.{CallFacts, KnownFacts, actor_number, actors_after, call_of, calls_from, names_after, names_found, nothing_known, script_of}
use Rattle.script_reading.specs.Text.{longest, spelled}
use Rattle.script_replay.specs.Answer.{AsksFor, to_attach_token, to_bind, to_close, to_complete, to_create_child, to_create_group, to_duplicate, to_release, to_set, to_set_none}
use Rattle.script_writing.specs.Call.{HasNames, IsName, StatesRecord, call_data, form_written}
use Rattle.script_writing.specs.Script.{IsScriptText, script_data}
use Rattle.script_writing.proofs.CallerLemmas.{call_read, script_is}
use Rattle.serde_json.specs.View.{items_of}
use Rattle.sysmem_alloc.specs.Entry.{BookEntry, Acted, Decided}
use Rattle.sysmem_alloc.specs.History.{AreAllowed, after_answer, after_entry}
use Rattle.sysmem_alloc.specs.Decision.{answer_of, choices_of}
use Rattle.sysmem_alloc.specs.State.{State, first_state}
use Rattle.sysmem_tree.proofs.CallerLemmas.{accepted}
use Rattle.sysmem_tree.specs.ActionKind.{Deed, kind_of}
use Rattle.sysmem_tree.specs.ActionKind as deeds
use Rattle.sysmem_tree.specs.Domain.{TreeFacts}
use Rattle.sysmem_tree.specs.Node.{NodeFacts}
use Rattle.sysmem_tree.specs.Table.{makes}
use Rattle.sysmem_tree.specs.Tree.{Applied, applied, node_after, nodes_made}
use Rattle.sysmem_tree.specs.declared.action.ActionKind.{ActionKind}
use Rattle.sysmem_tree.specs.declared.refusal.Refusal.{Refusal}
use Rattle.sysmem_tree.specs.declared.state.NodeState.{NodeState}

-- ---- how many nodes there are

made_long : (o : Option NodeState) (set nodes : List NodeFacts) (i : ℕ) (n : NodeFacts) (deed : ActionKind) → length set ≡ length nodes
    → length (set ++ nodes_made (length nodes) i n deed o) ≡ (if is_some o then length nodes + 1 else length nodes)
made_long None set nodes i n deed same = ap length (append-nil set) ∙ same
made_long (Some s) set nodes i n deed same = length-append set (nodes_made (length nodes) i n deed (Some s)) ∙ ap (λ m. m + 1) same

pub nodes_long : (s : State) (k : ℕ) (deed : Deed) (after : Applied) → applied s.tree k deed ≡ Ok after → length (after_entry s (Acted k deed)).tree.nodes ≡ nodes_then (length s.tree.nodes) deed
nodes_long s k deed after did =
    let (n, is) = accepted s.tree k deed after did in
    let nodes = s.tree.nodes in
    let there : length (after_entry s (Acted k deed)).tree.nodes ≡ length after.tree.nodes = ap (λ (a : Result Applied Refusal). length (after_answer s a).tree.nodes) did in
    there ∙ sym (ap (λ (t : TreeFacts). length t.nodes) is.tree) ∙ made_long (makes (kind_of deed)) (slice_set nodes k (node_after deed n)) nodes k n (kind_of deed) (set_long nodes k (node_after deed n))

pub within : (s : State) (k : ℕ) (deed : Deed) (after : Applied) → applied s.tree k deed ≡ Ok after → k < length s.tree.nodes
within s k deed after did = let (n, is) = accepted s.tree k deed after did in slice_get_within s.tree.nodes k n is.there

-- ---- actors

-- the actors that may be named
abbrev may_act : List NamedNode → List (List ℕ)
may_act ns = main_actor ∷ (if nat_le (length ns) 15 then map (λ (n : NamedNode). n.name) ns else [])

few_may : (ns : List NamedNode) → length (may_act ns) ≤ 16
few_may ns = by (nat_le (length ns) 15) refl where
  by : (t : Bool) → nat_le (length ns) 15 ≡ t → length (main_actor ∷ (if t then map (λ (n : NamedNode). n.name) ns else [])) ≤ 16
  by true e =
      let few : length ns ≤ 15 = leb-true (length ns) 15 e in
      let long : length (map (λ (n : NamedNode). n.name) ns) ≡ length ns = length-map ns (λ (n : NamedNode). n.name) in
      omega (arith, few, long)
  by false e = omega arith

-- the actor of calls on a node
abbrev acts_on : List NamedNode → ℕ → List ℕ
acts_on ns k = unwrap_or (actor_told ns k) main_actor

given_among : (ns : List NamedNode) (k : ℕ) (name : List ℕ) → given_name ns k ≡ Some name → list_any (bytes_eq name) (map (λ (n : NamedNode). n.name) ns) ≡ true
given_among [] k name is = absurd (cc is)
given_among (n ∷ ns) k name is = by (n.node == k) (λ e. given_among ns k name e) is where
  by : (t : Bool) → (given_name ns k ≡ Some name → list_any (bytes_eq name) (map (λ (m : NamedNode). m.name) ns) ≡ true) → option_map (λ (m : NamedNode). m.name) (cond t (Some n) (find (λ m. m.node == k) ns)) ≡ Some name → (bytes_eq name n.name || list_any (bytes_eq name) (map (λ (m : NamedNode). m.name) ns)) ≡ true
  by true rest e = or_first (bytes_eq name n.name) _ (bytes_are name n.name (sym (same_Some n.name name e)))
  by false rest e = or_second (bytes_eq name n.name) _ (rest e)

acts_may : (ns : List NamedNode) (k : ℕ) → is_among (acts_on ns k) (may_act ns) ≡ true
acts_may ns k = by (nat_le (length ns) 15) where
  inner : (o : Option (List ℕ)) → given_name ns k ≡ o → is_among (unwrap_or o main_actor) (main_actor ∷ map (λ (n : NamedNode). n.name) ns) ≡ true
  inner None is = refl
  inner (Some name) is = or_second (bytes_eq name main_actor) _ (given_among ns k name is)

  by : (t : Bool) → is_among (unwrap_or (if t then given_name ns k else None) main_actor) (main_actor ∷ (if t then map (λ (n : NamedNode). n.name) ns else [])) ≡ true
  by true = inner (given_name ns k) refl
  by false = refl

told_named : (ns : List NamedNode) → AreNames ns → (k : ℕ) → IfSome (actor_told ns k) IsName
told_named ns are k = by (nat_le (length ns) 15) where
  inner : (o : Option (List ℕ)) → given_name ns k ≡ o → IfSome o IsName
  inner None is = tt
  inner (Some name) is = given_called ns are k name is

  by : (t : Bool) → IfSome (if t then given_name ns k else None) IsName
  by true = inner (given_name ns k) refl
  by false = tt

acts_named : (ns : List NamedNode) → AreNames ns → (k : ℕ) → is_name (acts_on ns k) ≡ true
acts_named ns are k = by (actor_told ns k) (told_named ns are k) where
  by : (o : Option (List ℕ)) → IfSome o IsName → is_name (unwrap_or o main_actor) ≡ true
  by None h = refl
  by (Some name) h = h

-- with one actor more
with_distinct : (actors : List (List ℕ)) (a : List ℕ) → IsDistinct bytes_eq actors → IsDistinct bytes_eq (with_actor actors a)
with_distinct actors a distinct = by (is_among a actors) refl where
  by : (t : Bool) → is_among a actors ≡ t → IsDistinct bytes_eq (if t then actors else actors ++ a ∷ [])
  by true e = distinct
  by false e = IsDistinct-push bytes_laws actors a distinct e

with_may : (ns : List NamedNode) (actors : List (List ℕ)) (a : List ℕ) → ((q : List ℕ) → is_among q actors ≡ true → is_among q (may_act ns) ≡ true) → is_among a (may_act ns) ≡ true
    → (q : List ℕ) → is_among q (with_actor actors a) ≡ true → is_among q (may_act ns) ≡ true
with_may ns actors a may own q = by (is_among a actors) where
  one : (bytes_eq q a || false) ≡ true → is_among q (may_act ns) ≡ true
  one e = elim (or_cases (bytes_eq q a) false e) as (λ _. is_among q (may_act ns) ≡ true) [
    | inl same ↦ subst (λ (x : List ℕ). is_among x (may_act ns) ≡ true) (sym (bytes_same q a same)) own
    | inr none ↦ absurd (cc none)
  ]

  by : (t : Bool) → is_among q (if t then actors else actors ++ a ∷ []) ≡ true → is_among q (may_act ns) ≡ true
  by true e = may q e
  by false e = elim (or_cases (list_any (bytes_eq q) actors) (list_any (bytes_eq q) (a ∷ [])) (sym (list_any-append (bytes_eq q) actors (a ∷ [])) ∙ e)) as (λ _. is_among q (may_act ns) ≡ true) [
    | inl here ↦ may q here
    | inr last ↦ one last
  ]

-- ---- what is known

record Knows (ns : List NamedNode) (n : ℕ) (known : KnownFacts) : Type 0 where
  many : length known.names ≡ n
  each : (k : ℕ) → k < n → slice_get known.names k ≡ Some (called ns k)
  distinct : IsDistinct bytes_eq known.actors
  may : (q : List ℕ) → is_among q known.actors ≡ true → is_among q (may_act ns) ≡ true

first_known : (ns : List NamedNode) → Knows ns 1 nothing_known
unfolding IsDistinct
first_known ns = record { many = refl; each = each; distinct = tt; may = may } where
  each : (k : ℕ) → k < 1 → slice_get (root ∷ []) k ≡ Some (called ns k)
  each zero less = refl
  each (suc k) less = absurd (omega (arith, less))

  may : (q : List ℕ) → false ≡ true → is_among q (may_act ns) ≡ true
  may q e = absurd (cc e)

none_among : (q : List ℕ) (xs : List (List ℕ)) → ((k : ℕ) (x : List ℕ) → slice_get xs k ≡ Some x → bytes_eq q x ≡ false) → is_among q xs ≡ false
none_among q [] none = refl
none_among q (x ∷ xs) none = rw (none 0 x refl) (none_among q xs (λ k y at. none (suc k) y at))

module _ (ns : List NamedNode) (are : AreNames ns) where
  place_of : (n k : ℕ) (known : KnownFacts) → Knows ns n known → n ≤ 1000 → k < n → position (bytes_eq (called ns k)) known.names ≡ Some k
  place_of n k known knows few less =
      let p = bytes_eq (called ns k) in
      let xs = known.names in
      let long : k < length xs = omega (arith, less, knows.many) in
      let is : position_or_len p xs ≡ k = position_or_len_is p xs k [] (omega (arith, long)) (λ j below. before j below) (λ _. ap p (at k less) ∙ bytes_are (called ns k) (called ns k) refl) in
      ap (λ i. cond (nat_lt i (length xs)) (Some i) None) is ∙ ap (λ b. cond b (Some k) None) (lt-ltb k (length xs) long) where
        at : (j : ℕ) → j < n → get_or known.names j [] ≡ called ns j
        at j below = get_or_from_slice_get known.names j (called ns j) [] (knows.each j below)

        before : (j : ℕ) → j < k → bytes_eq (called ns k) (get_or known.names j []) ≡ false
        before j below = ap (bytes_eq (called ns k)) (at j (omega (arith, below, less)))
            ∙ bytes_differ (called ns k) (called ns j) (λ same. let e = apart ns are k j (omega (arith, less, few)) (omega (arith, below, less, few)) same in omega (arith, e, below))

  new_name : (n : ℕ) (known : KnownFacts) → Knows ns n known → n < 1000 → is_among (called ns n) known.names ≡ false
  new_name n known knows few = none_among (called ns n) known.names (λ k x at.
      let less : k < n = omega (arith, slice_get_within known.names k x at, knows.many) in
      let own : called ns k ≡ x = same_Some (called ns k) x (sym (knows.each k less) ∙ at) in
      bytes_differ (called ns n) x (λ same. let e = apart ns are n k few (omega (arith, less, few)) (same ∙ sym own) in omega (arith, e, less)))

  -- the name that an action makes
  abbrev named_by : ℕ → Bool → List (List ℕ)
  named_by n made = if made then called ns n ∷ [] else []

  made_after : (n : ℕ) (known : KnownFacts) → Knows ns n known → n < 1000 → names_after (Some (called ns n)) known.names ≡ Some (known.names ++ called ns n ∷ [])
  made_after n known knows few = rw (is_called ns are n few, new_name n known knows few) refl

  none_after : (names : List (List ℕ)) → names_after None names ≡ Some (names ++ [])
  none_after names = ap Some (sym (append-nil names))

  named_after : (n : ℕ) (known : KnownFacts) → Knows ns n known → n < 1000 → (deed : Deed) → names_after (name_made (act_told ns n deed)) known.names ≡ Some (known.names ++ named_by n (is_some (makes (kind_of deed))))
  named_after n known knows few deeds.duplicates = made_after n known knows few
  named_after n known knows few deeds.creates_group = made_after n known knows few
  named_after n known knows few deeds.binds = none_after known.names
  named_after n known knows few deeds.creates_child = made_after n known knows few
  named_after n known knows few deeds.has_all_children = none_after known.names
  named_after n known knows few (deeds.sets asked) = none_after known.names
  named_after n known knows few deeds.attaches_token = made_after n known knows few
  named_after n known knows few deeds.releases = none_after known.names
  named_after n known knows few deeds.closes = none_after known.names

  known_more : (n : ℕ) (known : KnownFacts) (k : ℕ) → Knows ns n known → (made : Bool)
      → Knows ns (if made then n + 1 else n) (record { names = known.names ++ named_by n made; actors = with_actor known.actors (acts_on ns k) })
  known_more n known k knows false = record {
    many = ap length (append-nil known.names) ∙ knows.many;
    each = λ j less. ap (λ xs. slice_get xs j) (append-nil known.names) ∙ knows.each j less;
    distinct = with_distinct known.actors (acts_on ns k) knows.distinct;
    may = with_may ns known.actors (acts_on ns k) knows.may (acts_may ns k);
  }
  known_more n known k knows true = record {
    many = length-append known.names (called ns n ∷ []) ∙ ap (λ m. m + 1) knows.many;
    each = each;
    distinct = with_distinct known.actors (acts_on ns k) knows.distinct;
    may = with_may ns known.actors (acts_on ns k) knows.may (acts_may ns k);
  } where
    each : (j : ℕ) → j < n + 1 → slice_get (known.names ++ called ns n ∷ []) j ≡ Some (called ns j)
    each j less = elim (cases_lt j n) as (λ _. slice_get (known.names ++ called ns n ∷ []) j ≡ Some (called ns j)) [
      | inl below ↦ get_first known.names (called ns n ∷ []) j (omega (arith, below, knows.many)) ∙ knows.each j below
      | inr above ↦
          let is : j ≡ n = omega (arith, less, above) in
          get_last known.names (called ns n) j (is ∙ sym knows.many) ∙ ap (λ i. Some (called ns i)) (sym is)
    ]

  actors_fit : (n : ℕ) (known : KnownFacts) (k : ℕ) → Knows ns n known → actors_after (acts_on ns k) known.actors ≡ Some (with_actor known.actors (acts_on ns k))
  actors_fit n known k knows =
      let actors = with_actor known.actors (acts_on ns k) in
      let many : length actors ≤ length (may_act ns) =
      length-le_from_is_member bytes_laws actors (may_act ns) (with_distinct known.actors (acts_on ns k) knows.distinct) (with_may ns known.actors (acts_on ns k) knows.may (acts_may ns k)) in
      ap (λ b. if b then Some actors else None) (le-leb (length actors) 16 (omega (arith, many, few_may ns)))

-- ---- what is told

pub states_record : (ns : List NamedNode) (n : ℕ) (deed : Deed) → StatesRecord (act_told ns n deed)
states_record ns n deeds.duplicates = tt
states_record ns n deeds.creates_group = tt
states_record ns n deeds.binds = tt
states_record ns n deeds.creates_child = tt
states_record ns n deeds.has_all_children = tt
states_record ns n (deeds.sets None) = tt
states_record ns n (deeds.sets (Some p)) = (p, refl)
states_record ns n deeds.attaches_token = tt
states_record ns n deeds.releases = tt
states_record ns n deeds.closes = tt

asks_for : (ns : List NamedNode) (n k : ℕ) (deed : Deed) → IsRead (Acted k deed) → AsksFor (act_told ns n deed) deed
asks_for ns n k deeds.duplicates h = to_duplicate (called ns n)
asks_for ns n k deeds.creates_group h = to_create_group (called ns n)
asks_for ns n k deeds.binds h = to_bind
asks_for ns n k deeds.creates_child h = to_create_child (called ns n)
asks_for ns n k deeds.has_all_children h = to_complete
asks_for ns n k (deeds.sets None) h = to_set_none
asks_for ns n k (deeds.sets (Some p)) h = to_set (participant_written p) p h
asks_for ns n k deeds.attaches_token h = to_attach_token (called ns n)
asks_for ns n k deeds.releases h = to_release
asks_for ns n k deeds.closes h = to_close

made_named : (ns : List NamedNode) → AreNames ns → (n : ℕ) → n < 1000 → (deed : Deed) → IfSome (name_made (act_told ns n deed)) IsName
made_named ns are n few deeds.duplicates = is_called ns are n few
made_named ns are n few deeds.creates_group = is_called ns are n few
made_named ns are n few deeds.binds = tt
made_named ns are n few deeds.creates_child = is_called ns are n few
made_named ns are n few deeds.has_all_children = tt
made_named ns are n few (deeds.sets asked) = tt
made_named ns are n few deeds.attaches_token = is_called ns are n few
made_named ns are n few deeds.releases = tt
made_named ns are n few deeds.closes = tt

-- the calls of a history are read as its actions, from the m-th on
record Reads (ns : List NamedNode) (n : ℕ) (es : List BookEntry) (m : ℕ) (known : KnownFacts) : Type 0 where
  facts : List CallFacts
  reads : calls_from m known (items_of (map call_data (calls_told ns n es))) ≡ Ok facts
  own : AreCallsOf ns es facts
  names : AllByRecursion HasNames (calls_told ns n es)

one_read : (ns : List NamedNode) (are : AreNames ns) → (n m k : ℕ) (deed : Deed) (known : KnownFacts) → Knows ns n known → n ≤ 900 → k < n
    → call_of m known (call_data (call_told ns n k deed))
    ≡ Ok (
      record { act = act_told ns n deed; on = called ns k; place = k; actor = actor_number (acts_on ns k) known.actors },
      record { names = known.names ++ named_by ns are n (is_some (makes (kind_of deed))); actors = with_actor known.actors (acts_on ns k) },
    )
one_read ns are n m k deed known knows few less =
    let c = call_told ns n k deed in
    let after = known.names ++ named_by ns are n (is_some (makes (kind_of deed))) in
    let found : names_found known.names (form_written c) ≡ Some (k, after) =
    rw (acts_named ns are k, place_of ns are n k known knows (omega (arith, few)) less, named_after ns are n known knows (omega (arith, few)) deed) refl in
    call_read m known c k after (with_actor known.actors (acts_on ns k)) (states_record ns n deed) found (actors_fit ns are n known k knows)

at_most : (n : ℕ) (made : Bool) → (if made then n + 1 else n) ≤ n + 1
at_most n true = omega arith
at_most n false = omega arith

told_read : (ns : List NamedNode) → AreNames ns → (p : PlatformFacts) (s : State) (es : List BookEntry) (n m : ℕ) (known : KnownFacts) → AreAllowed p s es → n ≡ length s.tree.nodes → n + length es ≤ 900 → AllByRecursion IsRead es → Knows ns n known
    → Reads ns n es m known
unfolding calls_from
told_read ns are p s [] n m known allowed many few read knows = record { facts = []; reads = refl; own = tt; names = tt }
told_read ns are p s (Decided c ∷ es) n m known allowed many few read knows =
    let same : n ≡ length (after_entry s (Decided c)).tree.nodes = many ∙ sym (decided_long s.tree c.domain (choices_of (answer_of c).verdict)) in
    let rest = told_read ns are p (after_entry s (Decided c)) es n m known allowed.1 same (omega (arith, few)) read.1 knows in
    record { facts = rest.facts; reads = rest.reads; own = rest.own; names = rest.names }
told_read ns are p s (Acted k deed ∷ es) n m known allowed many few read knows =
    let (after, did) = is_made (applied s.tree k deed) allowed.0 in
    let less : k < n = omega (arith, within s k deed after did, many) in
    let made = is_some (makes (kind_of deed)) in
    let one = one_read ns are n m k deed known knows (omega (arith, few)) less in
    let next : nodes_then n deed ≡ length (after_entry s (Acted k deed)).tree.nodes = ap (λ i. nodes_then i deed) many ∙ sym (nodes_long s k deed after did) in
    let rest = told_read ns are p (after_entry s (Acted k deed)) es (nodes_then n deed) (m + 1) (record { names = known.names ++ named_by ns are n made; actors = with_actor known.actors (acts_on ns k) }) allowed.1 next
    (omega (arith, few, at_most n made)) read.1 (known_more ns are n known k knows made) in
    record {
      facts = record { act = act_told ns n deed; on = called ns k; place = k; actor = actor_number (acts_on ns k) known.actors } ∷ rest.facts;
      reads = rw (one, rest.reads) refl;
      own = (record { on = refl; place = refl; asks = asks_for ns n k deed read.0 }, rest.own);
      names = (record { on = is_called ns are k (omega (arith, less, few)); made = made_named ns are n (omega (arith, few)) deed; actor = told_named ns are k }, rest.names);
    }

told_short : (ns : List NamedNode) (n : ℕ) (es : List BookEntry) → length (calls_told ns n es) ≤ length es
told_short ns n [] = omega arith
told_short ns n (Acted k deed ∷ es) =
    let rest = told_short ns (nodes_then n deed) es in
    let whole : suc (length (calls_told ns (nodes_then n deed) es)) ≤ suc (length es) = omega (arith, rest) in whole
told_short ns n (Decided c ∷ es) =
    let rest = told_short ns n es in
    let whole : length (calls_told ns n es) ≤ suc (length es) = omega (arith, rest) in whole

-- a text that is the script of a settled history is read back
pub reads_back : (s : SnapshotFacts) (text : List ℕ) → AreNames s.names → IsSettled s.platform s.history → length s.history ≤ 639 → AllByRecursion IsRead s.history → IsScriptText s.platform (calls_told s.names 1 s.history) text
    → length text ≤ longest → ReadsBack s text
reads_back s text are settled few read script short =
    let cs = calls_told s.names 1 s.history in
    let told = told_read s.names are s.platform first_state s.history 1 1 nothing_known settled.legal refl (omega (arith, few)) read (first_known s.names) in
    let is : script_of (script_data s.platform cs) ≡ Ok (record { platform = s.platform; calls = told.facts }) =
    script_is s.platform cs told.facts script.stated (omega (arith, few, told_short s.names 1 s.history)) told.reads in
    record {
      calls = told.facts;
      spelled = spelled (script_data s.platform cs) short (record { text = script.utf8; spelled = script.spelled told.names }) (Ok (record { platform = s.platform; calls = told.facts })) is;
      own = told.own;
    }

-- a text that is longer than a script may be is the one that is told
pub too_long : (s : SnapshotFacts) (text : List ℕ) → IsScriptText s.platform (calls_told s.names 1 s.history) text → longest < length text → IsTooLong s
too_long s text script long = subst (λ (xs : List ℕ). longest < length xs) script.is long
