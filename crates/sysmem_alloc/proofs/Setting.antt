-- What a node was set to stays, so that an entry is read from a later
-- tree as from the one that it made.
use Rattle.std.proofs.Common.{◌≡◌, ℕ, zero, suc, ◌+◌, Bool, true, false, not, ◌&&◌, List, [], ◌∷◌, ◌++◌, length, Option, Some, None, Result, Ok, Err, slice_get, slice_set, refl, sym, ◌∙◌, ap, subst}
use Rattle.std.specs.Prelude.{IsOk, IsSomeAnd, map, option_and_then}
use Rattle.std.proofs.lemmas.Option.{same_Some}
use Rattle.std.specs.List.{AllByRecursion}
use Rattle.list_lemmas.proofs.CallerLemmas.{and_parts}
use Rattle.verdict_claims.specs.Asked.{asks_at}
use Rattle.book_events.specs.declared.entry.Entry.{Entry}
use Rattle.book_events.specs.declared.entry.Entry.TheVariants as entries
use Rattle.negotiation_inputs.specs.Participant.{Participant}
use Rattle.negotiation_inputs.specs.Platform.{PlatformFacts}
use Rattle.sysmem_tree.specs.declared.action.ActionKind.{ActionKind}
use Rattle.sysmem_tree.specs.declared.action.ActionKind.TheVariants as kinds
use Rattle.sysmem_tree.specs.declared.refusal.Refusal.{Refusal}
use Rattle.sysmem_tree.specs.declared.state.NodeKind.{NodeKind}
use Rattle.sysmem_tree.specs.declared.state.NodeKind.TheVariants.{Token, Group, Collection}
use Rattle.sysmem_tree.specs.declared.state.NodeState.{NodeState}
use Rattle.sysmem_tree.specs.ActionKind.{Deed, kind_of, duplicates, creates_group, binds, creates_child, has_all_children, sets, attaches_token, releases, closes}
use Rattle.sysmem_tree.specs.Domain.{TreeFacts}
use Rattle.sysmem_tree.specs.Node.{NodeFacts}
use Rattle.sysmem_tree.specs.Shape.{members_of}
use Rattle.sysmem_tree.specs.Table.{allows, suits_node, makes}
use Rattle.sysmem_tree.specs.Tree.{Applied, applied, tree_after, node_after, nodes_made, left_out_but, decided}
use Rattle.sysmem_alloc.specs.Decision.{DomainVerdict, answer_of, choices_of}
use Rattle.sysmem_alloc.specs.Entry.{BookEntry, Acted, Decided, entry_in, deed_with}
use Rattle.sysmem_alloc.specs.History.{after_answer, after_entry, replay_from, Allows, AreAllowed}
use Rattle.sysmem_alloc.specs.State.{State}
use Rattle.sysmem_tree.proofs.CallerLemmas.{accepted}

-- node i is set, to these constraints
abbrev pub IsSetTo : List NodeFacts → ℕ → Option Participant → Type 0
IsSetTo nodes i c = IsSomeAnd (slice_get nodes i) (λ n. (n.state.is_set ≡ true) × (n.constraints ≡ c))

-- a node in place of another one keeps what it was set to
abbrev pub KeepsSet : NodeFacts → NodeFacts → Type 0
KeepsSet n m = n.state.is_set ≡ true → (m.state.is_set ≡ true) × (m.constraints ≡ n.constraints)

in_set : (xs : List NodeFacts) (i k : ℕ) (n m : NodeFacts) (c : Option Participant) → slice_get xs i ≡ Some n → KeepsSet n m → IsSetTo xs k c → IsSetTo (slice_set xs i m) k c
in_set [] i k n m c here keeps h = h
in_set (x ∷ xs) zero zero n m c here keeps h =
    let same : x ≡ n = same_Some x n here in
    let (on, is) = keeps (sym (ap (λ (z : NodeFacts). z.state.is_set) same) ∙ h.0) in
    (on, is ∙ (sym (ap (λ (z : NodeFacts). z.constraints) same) ∙ h.1))
in_set (x ∷ xs) zero (suc k) n m c here keeps h = h
in_set (x ∷ xs) (suc i) zero n m c here keeps h = h
in_set (x ∷ xs) (suc i) (suc k) n m c here keeps h = in_set xs i k n m c here keeps h

in_append : (xs ys : List NodeFacts) (k : ℕ) (c : Option Participant) → IsSetTo xs k c → IsSetTo (xs ++ ys) k c
in_append [] ys k c h = absurd h
in_append (x ∷ xs) ys zero c h = h
in_append (x ∷ xs) ys (suc k) c h = in_append xs ys k c h

in_left : (ms : List ℕ) (r i : ℕ) (xs : List NodeFacts) (k : ℕ) (c : Option Participant) → IsSetTo xs k c → IsSetTo (left_out_but ms r i xs) k c
in_left ms r i [] k c h = h
in_left ms r i (x ∷ xs) zero c h = h
in_left ms r i (x ∷ xs) (suc k) c h = in_left ms r (i + 1) xs k c h

here_set : (xs : List NodeFacts) (i : ℕ) (n m : NodeFacts) (c : Option Participant) → slice_get xs i ≡ Some n → m.state.is_set ≡ true → m.constraints ≡ c → IsSetTo (slice_set xs i m) i c
here_set [] i n m c here on is = absurd (cc)
here_set (x ∷ xs) zero n m c here on is = (on, is)
here_set (x ∷ xs) (suc i) n m c here on is = here_set xs i n m c here on is

-- a node that is set isn't set again
once : (k : NodeKind) (o : Bool) (s : NodeState) → (o && suits_node kinds.SetConstraints k s) ≡ true → s.is_set ≡ true → ⊥
once Token o s h set = let (_, e) = and_parts o false h in absurd (cc)
once Group o s h set = let (_, e) = and_parts o false h in absurd (cc)
once Collection o s h set = let (_, e) = and_parts o (not s.is_set) h in let f : not s.is_set ≡ false = ap not set in absurd (cc)

acted_keeps : (deed : Deed) (n : NodeFacts) → allows (kind_of deed) n.state ≡ true → KeepsSet n (node_after deed n)
acted_keeps duplicates n ok set = (set, refl)
acted_keeps creates_group n ok set = (set, refl)
acted_keeps binds n ok set = (set, refl)
acted_keeps creates_child n ok set = (set, refl)
acted_keeps has_all_children n ok set = (set, refl)
acted_keeps (sets asked) n ok set = absurd (once n.state.kind n.state.is_open n.state ok set)
acted_keeps attaches_token n ok set = (set, refl)
acted_keeps releases n ok set = (set, refl)
acted_keeps closes n ok set = (set, refl)

-- what an entry says was set is set so
abbrev pub WasSet : List NodeFacts → ℕ → Deed → Type 0
WasSet nodes i (sets c) = IsSetTo nodes i c
WasSet nodes i _ = Unit {0}

abbrev pub StandsIn : List NodeFacts → BookEntry → Type 0
StandsIn nodes (Acted i deed) = WasSet nodes i deed
StandsIn nodes (Decided c) = Unit {0}

-- an entry keeps what was set
pub entry_keeps : (s : State) (e : BookEntry) (k : ℕ) (c : Option Participant) → IsSetTo s.tree.nodes k c → IsSetTo (after_entry s e).tree.nodes k c
entry_keeps s (Acted i deed) k c h = by (applied s.tree i deed) refl where
  by : (o : Result Applied Refusal) → applied s.tree i deed ≡ o → IsSetTo (after_answer s o).tree.nodes k c
  by (Err refusal) is = h
  by (Ok made) is =
      let (n, ok) = accepted s.tree i deed made is in
      subst (λ (t : TreeFacts). IsSetTo t.nodes k c) ok.tree
      (in_append (slice_set s.tree.nodes i (node_after deed n)) (nodes_made (length s.tree.nodes) i n (kind_of deed) (makes (kind_of deed))) k c
      (in_set s.tree.nodes i k n (node_after deed n) c ok.there (acted_keeps deed n ok.allowed) h))
entry_keeps s (Decided e) k c h = by (choices_of d.verdict) where
  d : DomainVerdict
  d = answer_of e

  by : (o : Option (List ℕ)) → IsSetTo (decided s.tree d.domain o).nodes k c
  by None = h
  by (Some cs) = in_left (members_of s.tree.nodes d.domain cs) d.domain 0 s.tree.nodes k c h

just_set : (t : TreeFacts) (i : ℕ) (deed : Deed) (n : NodeFacts) → slice_get t.nodes i ≡ Some n → WasSet (tree_after t i n deed).nodes i deed
just_set t i (sets asked) n here =
    in_append (slice_set t.nodes i (node_after (sets asked) n)) [] i asked (here_set t.nodes i n (node_after (sets asked) n) asked here refl refl)
just_set t i duplicates n here = tt
just_set t i creates_group n here = tt
just_set t i binds n here = tt
just_set t i creates_child n here = tt
just_set t i has_all_children n here = tt
just_set t i attaches_token n here = tt
just_set t i releases n here = tt
just_set t i closes n here = tt

entry_stands : (platform : PlatformFacts) (s : State) (e : BookEntry) → Allows platform s e → StandsIn (after_entry s e).tree.nodes e
entry_stands platform s (Acted i deed) ok = by (applied s.tree i deed) refl ok where
  by : (o : Result Applied Refusal) → applied s.tree i deed ≡ o → IsOk o → WasSet (after_answer s o).tree.nodes i deed
  by (Err refusal) is h = absurd (cc)
  by (Ok made) is h = let (n, fine) = accepted s.tree i deed made is in subst (λ (t : TreeFacts). WasSet t.nodes i deed) fine.tree (just_set s.tree i deed n fine.there)
entry_stands platform s (Decided c) ok = tt

stands_on : (xs ys : List NodeFacts) → ((k : ℕ) (c : Option Participant) → IsSetTo xs k c → IsSetTo ys k c) → (e : BookEntry) → StandsIn xs e → StandsIn ys e
stands_on xs ys keeps (Decided c) h = tt
stands_on xs ys keeps (Acted i (sets c)) h = keeps i c h
stands_on xs ys keeps (Acted i duplicates) h = tt
stands_on xs ys keeps (Acted i creates_group) h = tt
stands_on xs ys keeps (Acted i binds) h = tt
stands_on xs ys keeps (Acted i creates_child) h = tt
stands_on xs ys keeps (Acted i has_all_children) h = tt
stands_on xs ys keeps (Acted i attaches_token) h = tt
stands_on xs ys keeps (Acted i releases) h = tt
stands_on xs ys keeps (Acted i closes) h = tt

later : (s : State) (es : List BookEntry) (k : ℕ) (c : Option Participant) → IsSetTo s.tree.nodes k c → IsSetTo (replay_from s es).tree.nodes k c
later s [] k c h = h
later s (e ∷ es) k c h = later (after_entry s e) es k c (entry_keeps s e k c h)

-- each entry of a legal history stands in the tree that it leads to
pub all_stand : (platform : PlatformFacts) (s : State) (es : List BookEntry) → AreAllowed platform s es → AllByRecursion (StandsIn (replay_from s es).tree.nodes) es
all_stand platform s [] all = tt
all_stand platform s (e ∷ es) all =
    (stands_on (after_entry s e).tree.nodes (replay_from (after_entry s e) es).tree.nodes (later (after_entry s e) es) e (entry_stands platform s e all.0), all_stand platform (after_entry s e) es all.1)

-- what a node is set to are its constraints
of_set : (nodes : List NodeFacts) (i : ℕ) (c : Option Participant) → IsSetTo nodes i c → asks_at nodes i ≡ c
of_set nodes i c h = by (slice_get nodes i) h where
  by : (o : Option NodeFacts) → IsSomeAnd o (λ n. (n.state.is_set ≡ true) × (n.constraints ≡ c)) → option_and_then (λ (n : NodeFacts). n.constraints) o ≡ c
  by None h = absurd h
  by (Some n) h = h.1

read_same : (xs ys : List NodeFacts) → ((k : ℕ) (c : Option Participant) → IsSetTo xs k c → IsSetTo ys k c) → (i : ℕ) (kind : ActionKind)
    → WasSet xs i (deed_with (asks_at xs i) kind) → deed_with (asks_at ys i) kind ≡ deed_with (asks_at xs i) kind
read_same xs ys keeps i kinds.SetConstraints h = ap sets (of_set ys i (asks_at xs i) (keeps i (asks_at xs i) h))
read_same xs ys keeps i kinds.Duplicate h = refl
read_same xs ys keeps i kinds.CreateGroup h = refl
read_same xs ys keeps i kinds.Bind h = refl
read_same xs ys keeps i kinds.CreateChild h = refl
read_same xs ys keeps i kinds.AllChildrenPresent h = refl
read_same xs ys keeps i kinds.AttachToken h = refl
read_same xs ys keeps i kinds.Release h = refl
read_same xs ys keeps i kinds.Close h = refl

-- entries are read from a later tree as before
pub read_later : (xs ys : List NodeFacts) → ((k : ℕ) (c : Option Participant) → IsSetTo xs k c → IsSetTo ys k c) → (raw : List Entry) → AllByRecursion (StandsIn xs) (map (entry_in xs) raw)
    → map (entry_in ys) raw ≡ map (entry_in xs) raw
read_later xs ys keeps [] all = refl
read_later xs ys keeps (entries.Acted i kind ∷ raw) all =
    ap (λ d. Acted i d ∷ map (entry_in ys) raw) (read_same xs ys keeps i kind all.0) ∙ ap (λ es. Acted i (deed_with (asks_at xs i) kind) ∷ es) (read_later xs ys keeps raw all.1)
read_later xs ys keeps (entries.Decided r claim ∷ raw) all = ap (λ es. entry_in xs (entries.Decided r claim) ∷ es) (read_later xs ys keeps raw all.1)

-- what was just entered is read as it was made
pub read_made : (t : TreeFacts) (i : ℕ) (deed : Deed) (made : Applied) → applied t i deed ≡ Ok made → entry_in made.tree.nodes (entries.Acted i (kind_of deed)) ≡ Acted i deed
read_made t i deed made is = let (n, ok) = accepted t i deed made is in subst (λ (u : TreeFacts). entry_in u.nodes (entries.Acted i (kind_of deed)) ≡ Acted i deed) ok.tree (by deed ok.there) where
  by : (deed : Deed) → {n : NodeFacts} → slice_get t.nodes i ≡ Some n → entry_in (tree_after t i n deed).nodes (entries.Acted i (kind_of deed)) ≡ Acted i deed
  by (sets asked) {n} here = ap (λ c. Acted i (sets c)) (of_set (tree_after t i n (sets asked)).nodes i asked (just_set t i (sets asked) n here))
  by duplicates here = refl
  by creates_group here = refl
  by binds here = refl
  by creates_child here = refl
  by has_all_children here = refl
  by attaches_token here = refl
  by releases here = refl
  by closes here = refl
