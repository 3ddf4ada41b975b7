-- An action that isn't refused: what it needs, and what it leads to.
use Rattle.std.proofs.Common.{◌≡◌, ◌≤◌, ◌<◌, ◌+◌, ℕ, Bool, true, false, ◌||◌, List, [], ◌++◌, length, Option, Some, None, slice_get, slice_set, sym, ◌∙◌, ap, subst, arith, rules, tests, length-append}
use Rattle.std.specs.Prelude.{IfSome, Ok, is_some, if◌then◌else◌}
use Rattle.std.specs.Result.{result_err}
use Rattle.std.proofs.lemmas.List.{length-set}
use Rattle.std.proofs.lemmas.Option.{slice_get_within}
use Rattle.sysmem_tree.specs.declared.action.ActionKind.{ActionKind}
use Rattle.sysmem_tree.specs.declared.action.ActionKind.TheVariants.{Duplicate, CreateGroup, Bind, CreateChild, AllChildrenPresent, SetConstraints, AttachToken, Release, Close}
use Rattle.sysmem_tree.specs.declared.domain.Domain.{Domain}
use Rattle.sysmem_tree.specs.declared.state.NodeState.{NodeState}
use Rattle.sysmem_tree.specs.ActionKind.{Deed, kind_of}
use Rattle.sysmem_tree.specs.Domain.{TreeFacts, IsSoundTree, decision_of, has_failed, is_none_chosen, fate_by, fate_of}
use Rattle.sysmem_tree.specs.declared.domain.Decision.{Decision}
use Rattle.sysmem_tree.specs.declared.fate.Fate.TheVariants.{Failed}
use Rattle.sysmem_tree.specs.Node.{NodeFacts}
use Rattle.sysmem_tree.specs.Table.{makes, makes_root}
use Rattle.sysmem_tree.specs.Tree.{Applied, applied, domains_after, has_room, is_barred, node_after, nodes_after, nodes_made, number_after}
use Rattle.sysmem_tree.proofs.steps.Accepted.{IsAccepted, accepted}
use Rattle.sysmem_tree.proofs.steps.Acting.{not_refused}
use Rattle.sysmem_tree.proofs.histories.Entries.{acted_sound}
use Rattle.sysmem_tree.proofs.domains.Soundness.{few_domains}
use Rattle.list_lemmas.proofs.CallerLemmas.{of_some}

-- what is said of lists and a number that were read is said of the tree and the domain
pub seen : {A : Type 0} (f : TreeFacts → ℕ → A) (x : A) (ns ms : List NodeFacts) (ds es : List Domain) (r s : ℕ) (t : TreeFacts) → x ≡ f (record { nodes = ns; domains = ds }) r
    → ns ≡ ms → ds ≡ es → ◌≡◌ {A = TreeFacts} (record { nodes = ms; domains = es }) t → r ≡ s → x ≡ f t s
seen f x ns ms ds es r s t is nodes domains whole number =
    is ∙ (ap (λ z. f (record { nodes = z; domains = ds }) r) nodes ∙ (ap (λ z. f (record { nodes = ms; domains = z }) r) domains ∙ (ap (λ z. f z r) whole ∙ ap (f t) number)))

-- whether actions are refused, where the domain failed, and where it didn't
pub barred_failed : (t : TreeFacts) (r : ℕ) (b : Bool) → b ≡ has_failed t r → b ≡ true → b ≡ is_barred t r
barred_failed t r b is met = met ∙ ap (λ z. z || is_none_chosen (decision_of t.domains r)) (sym met ∙ is)

pub barred_else : (t : TreeFacts) (r : ℕ) (b c : Bool) (d : Decision) → b ≡ has_failed t r → b ≡ false → d ≡ decision_of t.domains r → c ≡ is_none_chosen d → c ≡ is_barred t r
barred_else t r b c d is unmet decided is_none =
    is_none ∙ (ap is_none_chosen decided ∙ ap (λ z. z || is_none_chosen (decision_of t.domains r)) (sym unmet ∙ is))

-- what became of a domain
pub fate_failed : (t : TreeFacts) (r : ℕ) (b : Bool) → b ≡ has_failed t r → b ≡ true → Failed ≡ fate_of t r
fate_failed t r b is met = ap (λ z. if z then Failed else fate_by (decision_of t.domains r)) (sym met ∙ is)

pub fate_decided : (t : TreeFacts) (r : ℕ) (b : Bool) (d e : Decision) → b ≡ has_failed t r → b ≡ false → d ≡ decision_of t.domains r → d ≡ e → fate_by e ≡ fate_of t r
fate_decided t r b d e is unmet decided same =
    ap fate_by (sym same ∙ decided) ∙ ap (λ z. if z then Failed else fate_by (decision_of t.domains r)) (sym unmet ∙ is)

-- what isn't refused is accepted
pub let_in : (t u : TreeFacts) (i : ℕ) (deed : Deed) → t ≡ u → result_err (applied u i deed) ≡ None
    → (after : Applied) × (applied t i deed ≡ Ok after) × ((n : NodeFacts) × IsAccepted t i deed after n)
let_in t u i deed same none =
    let (after, is) = not_refused (applied t i deed) (ap (λ z. result_err (applied z i deed)) same ∙ none) in
    (after, is, accepted t i deed after is)

root_room : (nodes : List NodeFacts) (kind : ActionKind) → makes_root kind ≡ true → has_room nodes kind ≡ true → length nodes + 1 ≤ 128
root_room nodes Duplicate root room = absurd (cc)
root_room nodes CreateGroup root room = absurd (cc)
root_room nodes Bind root room = absurd (cc)
root_room nodes CreateChild root room = absurd (cc)
root_room nodes AllChildrenPresent root room = absurd (cc)
root_room nodes SetConstraints root room = absurd (cc)
root_room nodes AttachToken root room = search (rules, tests, room)
root_room nodes Release root room = absurd (cc)
root_room nodes Close root room = absurd (cc)

-- where it makes a root there is room for a domain
pub domain_room : (t u : TreeFacts) (i : ℕ) (deed : Deed) (kind : ActionKind) → IsSoundTree t → t ≡ u → result_err (applied u i deed) ≡ None → kind ≡ kind_of deed
    → makes_root kind ≡ true → length t.domains < 128
domain_room t u i deed k sound same none is root =
    let (after, _, (n, ok)) = let_in t u i deed same none in
    let room = root_room t.nodes (kind_of deed) (ap makes_root (sym is) ∙ root) ok.room in
    omega (arith, room, few_domains t sound)

-- what was written is the tree that it leads to
pub entered : (t u : TreeFacts) (i m : ℕ) (deed : Deed) (kind : ActionKind) (ns seen : List NodeFacts) (ds : List Domain) → IsSoundTree t → t ≡ u → result_err (applied u i deed) ≡ None
    → seen ≡ t.nodes → kind ≡ kind_of deed
    → IfSome (slice_get seen i) (λ n. ds ≡ domains_after (record { nodes = seen; domains = t.domains }) n kind)
    → IfSome (slice_get t.nodes i) (λ n. ns ≡ nodes_after t.nodes i n deed) → m ≡ number_after t.nodes i (kind_of deed)
    → (applied u i deed ≡ Ok (record { tree = record { nodes = ns; domains = ds }; node = m })) × IsSoundTree (record { nodes = ns; domains = ds })
entered t u i m deed kind ns seen ds sound same none read is noted acted number =
    let (after, accepts, (n, ok)) = let_in t u i deed same none in
    let domains = of_some (λ n. ds ≡ domains_after (record { nodes = seen; domains = t.domains }) n kind) (slice_get seen i) n (ap (λ z. slice_get z i) read ∙ ok.there) noted
    ∙ (ap (λ z. domains_after (record { nodes = z; domains = t.domains }) n kind) read ∙ ap (domains_after t n) is) in
    let nodes = of_some (λ n. ns ≡ nodes_after t.nodes i n deed) (slice_get t.nodes i) n ok.there acted in
    let tree : ◌≡◌ {A = TreeFacts} after.tree (record { nodes = ns; domains = ds }) =
    sym (ap (λ z. let x : TreeFacts = record { nodes = z; domains = ds } in x) nodes ∙ (ap (λ z. let x : TreeFacts = record { nodes = nodes_after t.nodes i n deed; domains = z } in x) domains ∙ ok.tree)) in
    let whole : ◌≡◌ {A = Applied} after (record { tree = record { nodes = ns; domains = ds }; node = m }) =
    ap (λ z. let x : Applied = record { tree = z; node = after.node } in x) tree
    ∙ ap (λ z. let x : Applied = record { tree = record { nodes = ns; domains = ds }; node = z } in x) (sym (number ∙ ok.node)) in (
      ap (λ z. applied z i deed) (sym same) ∙ (accepts ∙ ap Ok whole),
      subst IsSoundTree tree (acted_sound t i deed after sound accepts),
    )

longer : (nodes : List NodeFacts) (i : ℕ) (n m : NodeFacts) (kind : ActionKind) (o : Option NodeState) → i < length nodes
    → ((if is_some o then length nodes else i) < length (slice_set nodes i m ++ nodes_made (length nodes) i n kind o))
    × (length nodes ≤ length (slice_set nodes i m ++ nodes_made (length nodes) i n kind o))
longer nodes i n m _ None within =
    let long = length-append (slice_set nodes i m) [] in
    (omega (arith, within, long, length-set nodes i m), omega (arith, long, length-set nodes i m))
longer nodes i n m k (Some s) within =
    let long = length-append (slice_set nodes i m) (nodes_made (length nodes) i n k (Some s)) in
    (omega (arith, within, long, length-set nodes i m), omega (arith, long, length-set nodes i m))

-- the node is there then, and so are those that were
pub still_there : (t : TreeFacts) (i : ℕ) (deed : Deed) (after : Applied) → applied t i deed ≡ Ok after → (after.node < length after.tree.nodes) × (length t.nodes ≤ length after.tree.nodes)
still_there t i deed after is =
    let (n, ok) = accepted t i deed after is in
    let (node, grows) = longer t.nodes i n (node_after deed n) (kind_of deed) (makes (kind_of deed)) (slice_get_within t.nodes i n ok.there) in
    let nodes : length (nodes_after t.nodes i n deed) ≡ length after.tree.nodes = ap (λ (x : TreeFacts). length x.nodes) ok.tree in
    (omega (arith, node, nodes, ok.node), omega (arith, grows, nodes))
