-- How many entries a legal history has.
use Rattle.std.proofs.Common.{◌≡◌, ◌≤◌, ◌*◌, ℕ, zero, suc, ◌+◌, Bool, true, false, not, ◌&&◌, List, [], ◌∷◌, ◌++◌, length, Option, Some, None, Result, Ok, Err, slice_get, slice_set, refl, sym, ap, subst, arith, length-append}
use Rattle.std.specs.Prelude.{IsOk, filter, if◌then◌else◌}
use Rattle.std.proofs.lemmas.List.{length-set}
use Rattle.std.proofs.lemmas.Option.{same_Some}
use Rattle.list_lemmas.proofs.CallerLemmas.{and_parts}
use Rattle.negotiation_inputs.specs.Platform.{PlatformFacts}
use Rattle.sysmem_tree.specs.declared.action.ActionKind.{ActionKind}
use Rattle.sysmem_tree.specs.declared.action.ActionKind.TheVariants.{Duplicate, CreateGroup, Bind, CreateChild, AllChildrenPresent, SetConstraints, AttachToken, Release, Close}
use Rattle.sysmem_tree.specs.declared.refusal.Refusal.{Refusal}
use Rattle.sysmem_tree.specs.declared.state.NodeKind.{NodeKind}
use Rattle.sysmem_tree.specs.declared.state.NodeKind.TheVariants.{Token, Group, Collection}
use Rattle.sysmem_tree.specs.declared.state.NodeState.{NodeState}
use Rattle.sysmem_tree.specs.ActionKind.{Deed, kind_of}
use Rattle.sysmem_tree.specs.Domain.{TreeFacts, is_ready}
use Rattle.sysmem_tree.specs.Node.{NodeFacts}
use Rattle.sysmem_tree.specs.Nodes.{AreProper}
use Rattle.sysmem_tree.specs.Shape.{members_of}
use Rattle.sysmem_tree.specs.Table.{allows, suits_node, state_after, makes}
use Rattle.sysmem_tree.specs.Tree.{Applied, applied, tree_after, node_after, nodes_made, left_out_but, decided}
use Rattle.sysmem_alloc.specs.Decision.{DomainVerdict, answer_of, choices_of}
use Rattle.sysmem_alloc.specs.Entry.{BookEntry, Acted, Decided}
use Rattle.sysmem_alloc.specs.History.{after_answer, after_entry, replay_from, replay, Allows, AreAllowed, IsLegal}
use Rattle.sysmem_alloc.specs.Sound.{IsSoundState, roots_of}
use Rattle.sysmem_alloc.specs.State.{State, first_state}
use Rattle.sysmem_tree.proofs.CallerLemmas.{accepted}
use Rattle.sysmem_alloc.proofs.Trees.{few_domains}

abbrev one : Bool → ℕ
one true = 1
one false = 0

abbrev bound : NodeKind → ℕ
bound Token = 0
bound Group = 0
bound Collection = 1

-- how many actions a node's state tells of, but for those that made its children: its bind, its
-- set_constraints or its completion, its end
abbrev pub own : NodeState → ℕ
own s = bound s.kind + (one s.is_set + (one s.is_complete + one (not s.is_open)))

-- how many nodes an action makes
abbrev made : Option NodeState → ℕ
made None = 0
made (Some s) = 1

closed : (b : Bool) → b ≡ true → one (not b) ≡ 0
closed true e = refl
closed false e = absurd (cc)

unmarked : (b : Bool) → not b ≡ true → one b ≡ 0
unmarked true e = absurd (cc)
unmarked false e = refl

a_token : (k : NodeKind) (o : Bool) (s : NodeState) → (o && suits_node Bind k s) ≡ true → bound k ≡ 0
a_token Token o s h = refl
a_token Group o s h = refl
a_token Collection o s h = let (_, e) = and_parts o false h in absurd (cc)

unset : (k : NodeKind) (o : Bool) (s : NodeState) → (o && suits_node SetConstraints k s) ≡ true → one s.is_set ≡ 0
unset Token o s h = let (_, e) = and_parts o false h in absurd (cc)
unset Group o s h = let (_, e) = and_parts o false h in absurd (cc)
unset Collection o s h = let (_, e) = and_parts o (not s.is_set) h in unmarked s.is_set e

incomplete : (k : NodeKind) (o : Bool) (s : NodeState) → (o && suits_node AllChildrenPresent k s) ≡ true → one s.is_complete ≡ 0
incomplete Token o s h = let (_, e) = and_parts o false h in absurd (cc)
incomplete Collection o s h = let (_, e) = and_parts o false h in absurd (cc)
incomplete Group o s h = let (_, e) = and_parts o (not s.is_complete) h in unmarked s.is_complete e

-- each action makes a node, or is told of by its own node's state
spends : (kind : ActionKind) (s : NodeState) → allows kind s ≡ true → own (state_after kind s) + made (makes kind) ≡ suc (own s)
spends Duplicate s h = omega arith
spends CreateGroup s h = omega arith
spends CreateChild s h = omega arith
spends AttachToken s h = omega arith
spends Bind s h = let z = a_token s.kind s.is_open s h in omega (arith, z)
spends AllChildrenPresent s h = let z = incomplete s.kind s.is_open s h in omega (arith, z)
spends SetConstraints s h = let z = unset s.kind s.is_open s h in omega (arith, z)
spends Release s h = let (o, _) = and_parts s.is_open (suits_node Release s.kind s) h in let z = closed s.is_open o in omega (arith, z)
spends Close s h = let (o, _) = and_parts s.is_open (suits_node Close s.kind s) h in let z = closed s.is_open o in omega (arith, z)

abbrev spent : List NodeFacts → ℕ
spent [] = 0
spent (n ∷ nodes) = own n.state + spent nodes

spent_set : (xs : List NodeFacts) (i : ℕ) (n m : NodeFacts) → slice_get xs i ≡ Some n → spent (slice_set xs i m) + own n.state ≡ spent xs + own m.state
spent_set [] i n m here = absurd (cc)
spent_set (x ∷ xs) zero n m here = let same = ap (λ (z : NodeFacts). own z.state) (same_Some x n here) in omega (arith, same)
spent_set (x ∷ xs) (suc i) n m here = omega (arith, spent_set xs i n m here)

spent_append : (xs ys : List NodeFacts) → spent (xs ++ ys) ≡ spent xs + spent ys
spent_append [] ys = omega arith
spent_append (x ∷ xs) ys = omega (arith, spent_append xs ys)

spent_made : (number i : ℕ) (n : NodeFacts) (kind : ActionKind) → spent (nodes_made number i n kind (makes kind)) ≡ 0
spent_made number i n Duplicate = refl
spent_made number i n CreateGroup = refl
spent_made number i n Bind = refl
spent_made number i n CreateChild = refl
spent_made number i n AllChildrenPresent = refl
spent_made number i n SetConstraints = refl
spent_made number i n AttachToken = refl
spent_made number i n Release = refl
spent_made number i n Close = refl

many_made : (number i : ℕ) (n : NodeFacts) (kind : ActionKind) (o : Option NodeState) → length (nodes_made number i n kind o) ≡ made o
many_made number i n kind None = refl
many_made number i n kind (Some s) = refl

acted_spends : (t : TreeFacts) (i : ℕ) (n : NodeFacts) (deed : Deed) → slice_get t.nodes i ≡ Some n → allows (kind_of deed) n.state ≡ true
    → length (tree_after t i n deed).nodes + spent (tree_after t i n deed).nodes ≡ suc (length t.nodes + spent t.nodes)
acted_spends t i n deed here ok =
    let kind : ActionKind = kind_of deed in
    let changed : List NodeFacts = slice_set t.nodes i (node_after deed n) in
    let more : List NodeFacts = nodes_made (length t.nodes) i n kind (makes kind) in
    total (length changed) (length more) (length (changed ++ more)) (length t.nodes) (spent changed) (spent more) (spent (changed ++ more)) (spent t.nodes) (own n.state) (own (state_after kind n.state)) (made (makes kind))
    (length-append changed more) (length-set t.nodes i (node_after deed n)) (many_made (length t.nodes) i n kind (makes kind)) (spent_append changed more) (spent_made (length t.nodes) i n kind)
    (spent_set t.nodes i n (node_after deed n) here) (spends kind n.state ok) where
      total : (lc lm l lt sc sm s st before after m : ℕ) → l ≡ lc + lm → lc ≡ lt → lm ≡ m → s ≡ sc + sm → sm ≡ 0 → sc + before ≡ st + after → after + m ≡ suc before → l + s ≡ suc (lt + st)
      total lc lm l lt sc sm s st before after m a b c d e f g = omega (arith, a, b, c, d, e, f, g)

left_spends : (ms : List ℕ) (r i : ℕ) (xs : List NodeFacts) → length (left_out_but ms r i xs) + spent (left_out_but ms r i xs) ≡ length xs + spent xs
left_spends ms r i [] = refl
left_spends ms r i (x ∷ xs) = omega (arith, left_spends ms r (i + 1) xs)

-- as many entries as nodes were made, as the nodes' states tell of, and as were decided
abbrev Tells : State → ℕ → Type 0
Tells s many = many + 1 ≡ (length s.tree.nodes + spent s.tree.nodes) + length s.decisions

tells_step : (platform : PlatformFacts) (s : State) (e : BookEntry) (many : ℕ) → Allows platform s e → Tells s many → Tells (after_entry s e) (suc many)
tells_step platform s (Acted i deed) many ok h = by (applied s.tree i deed) refl ok where
  by : (o : Result Applied Refusal) → applied s.tree i deed ≡ o → IsOk o → Tells (after_answer s o) (suc many)
  by (Err refusal) is let_in = absurd (cc)
  by (Ok after) is let_in =
      let (n, fine) = accepted s.tree i deed after is in
      let more = subst (λ (t : TreeFacts). length t.nodes + spent t.nodes ≡ suc (length s.tree.nodes + spent s.tree.nodes)) fine.tree (acted_spends s.tree i n deed fine.there fine.allowed) in
      omega (arith, h, more)
tells_step platform s (Decided c) many ok h = by (choices_of (answer_of c).verdict) where
  d : DomainVerdict
  d = answer_of c

  by : (o : Option (List ℕ)) → suc many + 1 ≡ (length (decided s.tree d.domain o).nodes + spent (decided s.tree d.domain o).nodes) + length (s.decisions ++ d ∷ [])
  by None = omega (arith, h, length-append s.decisions (d ∷ []))
  by (Some cs) = omega (arith, h, left_spends (members_of s.tree.nodes d.domain cs) d.domain 0 s.tree.nodes, length-append s.decisions (d ∷ []))

tells_from : (platform : PlatformFacts) (s : State) (es : List BookEntry) (many : ℕ) → AreAllowed platform s es → Tells s many → Tells (replay_from s es) (many + length es)
tells_from platform s [] many all h = let z : many + 0 ≡ many = omega arith in subst (Tells s) (sym z) h
tells_from platform s (e ∷ es) many all h =
    let z : suc many + length es ≡ many + suc (length es) = omega arith in
    subst (Tells (replay_from (after_entry s e) es)) z (tells_from platform (after_entry s e) es (suc many) all.1 (tells_step platform s e many all.0 h))

at_most_one : (b : Bool) → one b ≤ 1
at_most_one true = omega arith
at_most_one false = omega arith

at_most_bound : (k : NodeKind) → bound k ≤ 1
at_most_bound Token = omega arith
at_most_bound Group = omega arith
at_most_bound Collection = omega arith

-- at most three of a node
three : (k : NodeKind) (st co op : Bool) → (st ≡ true → k ≡ Collection) → (co ≡ true → k ≡ Group) → bound k + (one st + (one co + one op)) ≤ 3
three k true true op set complete = let a = set refl in let b = complete refl in absurd (cc)
three k true false op set complete = omega (arith, at_most_bound k, at_most_one op)
three k false true op set complete = omega (arith, at_most_bound k, at_most_one op)
three k false false op set complete = omega (arith, at_most_bound k, at_most_one op)

few_spent : (nodes : List NodeFacts) → AreProper nodes → spent nodes ≤ 3 * length nodes
few_spent [] proper = omega arith
few_spent (n ∷ nodes) proper =
    let p = proper 0 n refl in
    let own_few : own n.state ≤ 3 = three n.state.kind n.state.is_set n.state.is_complete (not n.state.is_open) p.set (λ e. (p.complete e).0) in
    let rest = few_spent nodes (λ k m here. proper (suc k) m here) in
    omega (arith, own_few, rest)

few_filter : (p : ℕ → Bool) (xs : List ℕ) → length (filter p xs) ≤ length xs
few_filter p [] = omega arith
few_filter p (x ∷ xs) = by (p x) (few_filter p xs) where
  by : (b : Bool) → length (filter p xs) ≤ length xs → length (if b then x ∷ filter p xs else filter p xs) ≤ suc (length xs)
  by true few = omega (arith, few)
  by false few = omega (arith, few)

-- what waits and what was decided are at most 128 domains
pub few_waiting : (s : State) → IsSoundState s → length s.waiting + length s.decisions ≤ 128
few_waiting s sound = omega (arith, sound.count, few_filter (is_ready s.tree) (roots_of s.tree), few_domains s.tree sound.tree)

-- at most 639 entries
pub few_in : (platform : PlatformFacts) (es : List BookEntry) → IsLegal platform es → IsSoundState (replay es) → length es ≤ 639
few_in platform es legal sound =
    let told : Tells (replay es) (0 + length es) = tells_from platform first_state es 0 legal refl in
    sum (length es) (length (replay es).tree.nodes) (spent (replay es).tree.nodes) (length (replay es).waiting) (length (replay es).decisions) told (few_spent (replay es).tree.nodes sound.tree.proper)
    (few_waiting (replay es) sound) sound.tree.tree.few where
      sum : (many n s w d : ℕ) → (0 + many) + 1 ≡ (n + s) + d → s ≤ 3 * n → w + d ≤ 128 → n ≤ 128 → many ≤ 639
      sum many n s w d told spent waiting few = omega (arith, told, spent, waiting, few)
