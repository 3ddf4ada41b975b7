-- The names of a script's nodes, in the order in which they are made: the k-th stands for node k.
use Rattle.std.proofs.Common.{◌≡◌, ◌<◌, ℕ, zero, suc, ◌+◌, List, [], ◌∷◌, ◌++◌, length, length-append, append-nil, Option, Some, None, Result, Ok, Err, slice_get, slice_set, refl, sym, ◌∙◌, ap, subst, arith, inl, inr}
use Rattle.std.specs.Prelude.{IsOk, is_some, unwrap_or, if◌then◌else◌}
use Rattle.std.proofs.lemmas.Bool.{cases_lt}
use Rattle.std.proofs.lemmas.Option.{slice_get_within}
use Rattle.script_reading.specs.Call.{ActFacts}
use Rattle.script_reading.specs.Script.{CallFacts}
use Rattle.script_replay.specs.Answer.{AsksFor, to_duplicate, to_create_group, to_bind, to_create_child, to_complete, to_set_none, to_set, to_attach_token, to_release, to_close}
use Rattle.script_replay.specs.Report.{with_decision}
use Rattle.script_replay.specs.State.{RunState, acted, first_run_state, names_given, node_named}
use Rattle.sysmem_alloc.specs.Decision.{DomainVerdict, choices_of}
use Rattle.sysmem_alloc.specs.Entry.{Acted}
use Rattle.sysmem_alloc.specs.History.{after_answer}
use Rattle.negotiation_inputs.specs.Platform.{PlatformFacts}
use Rattle.sysmem_tree.proofs.CallerLemmas.{accepted}
use Rattle.sysmem_tree.specs.ActionKind.{Deed, kind_of}
use Rattle.sysmem_tree.specs.Domain.{TreeFacts}
use Rattle.sysmem_tree.specs.Node.{NodeFacts}
use Rattle.sysmem_tree.specs.Shape.{members_of}
use Rattle.sysmem_tree.specs.Table.{makes}
use Rattle.sysmem_tree.specs.Tree.{Applied, applied, decided, left_out_but, new_node, node_after, nodes_made}
use Rattle.sysmem_tree.specs.declared.action.ActionKind.{ActionKind}
use Rattle.sysmem_tree.specs.declared.refusal.Refusal.{Refusal}
use Rattle.sysmem_tree.specs.declared.state.NodeState.{NodeState}

-- there are as many names as nodes, and the k-th stands for node k
pub record IsNamed (s : RunState) : Type 0 where
  pub many : length s.names ≡ length s.book.tree.nodes
  pub each : (k : ℕ) → k < length s.names → slice_get s.names k ≡ Some (Some k)

pub first_named : (platform : PlatformFacts) → IsNamed (first_run_state platform)
first_named platform = record { many = refl; each = by } where
  by : (k : ℕ) → k < 1 → slice_get (Some 0 ∷ []) k ≡ Some (Some k)
  by zero less = refl
  by (suc k) less = absurd (omega (arith, less))

pub get_first : {A : Type 0} (xs ys : List A) (k : ℕ) → k < length xs → slice_get (xs ++ ys) k ≡ slice_get xs k
get_first [] ys k less = absurd (omega (arith, less))
get_first (x ∷ xs) ys zero less = refl
get_first (x ∷ xs) ys (suc k) less = get_first xs ys k (omega (arith, less))

pub get_last : {A : Type 0} (xs : List A) (y : A) (k : ℕ) → k ≡ length xs → slice_get (xs ++ y ∷ []) k ≡ Some y
get_last [] y zero is = refl
get_last [] y (suc k) is = absurd (omega (arith, is))
get_last (x ∷ xs) y zero is = absurd (omega (arith, is))
get_last (x ∷ xs) y (suc k) is = get_last xs y k (omega (arith, is))

each_more : (names : List (Option ℕ)) (made : ℕ) → ((k : ℕ) → k < length names → slice_get names k ≡ Some (Some k)) → made ≡ length names
    → (k : ℕ) → k < length (names ++ Some made ∷ []) → slice_get (names ++ Some made ∷ []) k ≡ Some (Some k)
each_more names made each next k less = elim (cases_lt k (length names)) as (λ _. slice_get (names ++ Some made ∷ []) k ≡ Some (Some k)) [
  | inl below ↦ get_first names (Some made ∷ []) k below ∙ each k below
  | inr above ↦
      let long : length (names ++ Some made ∷ []) ≡ length names + 1 = length-append names (Some made ∷ []) in
      let is : k ≡ length names = omega (arith, less, long, above) in
      get_last names (Some made) k is ∙ ap (λ j. Some (Some j)) (next ∙ sym is)
]

-- the name of a node that is made
abbrev named_by : Option NodeState → ℕ → List (Option ℕ)
named_by None made = []
named_by (Some s) made = Some made ∷ []

given_as : (act : ActFacts) (deed : Deed) (made : ℕ) → AsksFor act deed → names_given act (Some made) ≡ named_by (makes (kind_of deed)) made
given_as _ _ made (to_duplicate name) = refl
given_as _ _ made (to_create_group name) = refl
given_as _ _ made to_bind = refl
given_as _ _ made (to_create_child name) = refl
given_as _ _ made to_complete = refl
given_as _ _ made to_set_none = refl
given_as _ _ made (to_set d asked read) = refl
given_as _ _ made (to_attach_token name) = refl
given_as _ _ made to_release = refl
given_as _ _ made to_close = refl

pub set_long : (xs : List NodeFacts) (k : ℕ) (n : NodeFacts) → length (slice_set xs k n) ≡ length xs
set_long [] k n = refl
set_long (x ∷ xs) zero n = refl
set_long (x ∷ xs) (suc k) n = ap suc (set_long xs k n)

-- what is known of names and of the number of nodes behind them
record AreNamed (names : List (Option ℕ)) (nodes : ℕ) : Type 0 where
  many : length names ≡ nodes
  each : (k : ℕ) → k < length names → slice_get names k ≡ Some (Some k)

named_grown : (o : Option NodeState) (names given : List (Option ℕ)) (nodes after : List NodeFacts) (i made : ℕ) (n : NodeFacts) (kind : ActionKind) → length names ≡ length nodes
    → ((k : ℕ) → k < length names → slice_get names k ≡ Some (Some k)) → given ≡ named_by o made → (if is_some o then length nodes else i) ≡ made
    → after ≡ nodes ++ nodes_made (length nodes) i n kind o → AreNamed (names ++ given) (length after)
named_grown None names given nodes after i made n kind many each own next is =
    let same : names ++ given ≡ names = ap (λ g. names ++ g) own ∙ append-nil names in
    subst (λ (xs : List (Option ℕ)). AreNamed xs (length after)) (sym same) (record { many = many ∙ sym (ap length (is ∙ append-nil nodes)); each = each })
named_grown (Some s) names given nodes after i made n kind many each own next is =
    let long : length (names ++ Some made ∷ []) ≡ length names + 1 = length-append names (Some made ∷ []) in
    let more : length (nodes ++ new_node (length nodes) i n kind s ∷ []) ≡ length nodes + 1 = length-append nodes (new_node (length nodes) i n kind s ∷ []) in
    let same : names ++ given ≡ names ++ Some made ∷ [] = ap (λ g. names ++ g) own in
    subst (λ (xs : List (Option ℕ)). AreNamed xs (length after)) (sym same) (record {
      many = long ∙ (ap (λ m. m + 1) many ∙ (sym more ∙ sym (ap length is)));
      each = each_more names made each (sym next ∙ sym many);
    })

-- an accepted action of which a call asks keeps it so
pub acted_named : (s : RunState) (act : ActFacts) (k : ℕ) (deed : Deed) (after : Applied) → IsNamed s → AsksFor act deed → applied s.book.tree k deed ≡ Ok after
    → IsNamed (acted s act (Acted k deed) after.node)
acted_named s act k deed after named asks did =
    let (n, is) = accepted s.book.tree k deed after did in
    let nodes = s.book.tree.nodes in
    let set = slice_set nodes k (node_after deed n) in
    let long : length set ≡ length nodes = set_long nodes k (node_after deed n) in
    let all = named_grown (makes (kind_of deed)) s.names (names_given act (Some after.node)) set after.tree.nodes k after.node n (kind_of deed) (named.many ∙ sym long) named.each
    (given_as act deed after.node asks) (subst (λ m. (if is_some (makes (kind_of deed)) then m else k) ≡ after.node) (sym long) is.node)
    (subst (λ m. after.tree.nodes ≡ set ++ nodes_made m k n (kind_of deed) (makes (kind_of deed))) (sym long) (sym (ap (λ (t : TreeFacts). t.nodes) is.tree))) in
    let there : length (after_answer s.book (applied s.book.tree k deed)).tree.nodes ≡ length after.tree.nodes = ap (λ (a : Result Applied Refusal). length (after_answer s.book a).tree.nodes) did in
    record { many = all.many ∙ sym there; each = all.each }

left_long : (ms : List ℕ) (r i : ℕ) (xs : List NodeFacts) → length (left_out_but ms r i xs) ≡ length xs
left_long ms r i [] = refl
left_long ms r i (x ∷ xs) = ap suc (left_long ms r (i + 1) xs)

pub decided_long : (t : TreeFacts) (r : ℕ) (choices : Option (List ℕ)) → length (decided t r choices).nodes ≡ length t.nodes
decided_long t r None = refl
decided_long t r (Some cs) = left_long (members_of t.nodes r cs) r 0 t.nodes

-- so does a decision
pub decided_named : (s : RunState) (d : DomainVerdict) → IsNamed s → IsNamed (with_decision s d)
decided_named s d named = record { many = named.many ∙ sym (decided_long s.book.tree d.domain (choices_of d.verdict)); each = named.each }

-- the node that a call's name stands for
pub named_node : (s : RunState) (r : CallFacts) (k : ℕ) (deed : Deed) (after : Applied) → IsNamed s → r.place ≡ k → applied s.book.tree k deed ≡ Ok after → node_named s r ≡ Some k
named_node s r k deed after named place did =
    let (n, is) = accepted s.book.tree k deed after did in
    let less : k < length s.book.tree.nodes = slice_get_within s.book.tree.nodes k n is.there in
    let here : slice_get s.names k ≡ Some (Some k) = named.each k (omega (arith, less, named.many)) in
    ap (λ (o : Option (Option ℕ)). unwrap_or o None) (ap (slice_get s.names) place ∙ here)

-- what is allowed is accepted
pub is_made : (a : Result Applied Refusal) → IsOk a → (after : Applied) × (a ≡ Ok after)
is_made (Ok after) ok = (after, refl)
is_made (Err refusal) ok = absurd (cc ok)
