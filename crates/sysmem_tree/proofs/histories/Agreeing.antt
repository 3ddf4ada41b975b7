-- Histories with the same actions at each path agree on the initial domain.
use Rattle.std.proofs.Common.{◌≡◌, ◌≢◌, ◌⊎◌, ℕ, zero, suc, ◌+◌, ◌<◌, ◌==◌, ◌&&◌, ◌||◌, not, Bool, true, false, List, [], ◌∷◌, ◌++◌, length, Option, Some, None, slice_get, refl, sym, ◌∙◌, ap, subst, arith, rules, tests, inl, inr}
use Rattle.std.specs.Prelude.{option_map, option_and_then, unwrap_or, map, if◌then◌else◌}
use Rattle.std.specs.List.{list_all, list_any}
use Rattle.std.proofs.lemmas.Bool.{cases_eq}
use Rattle.std.proofs.lemmas.Option.{slice_get_within, same_Some}
use Rattle.list_lemmas.proofs.CallerLemmas.{and_parts, slice_get_some}
use Rattle.sysmem_tree.specs.declared.action.ActionKind.{ActionKind}
use Rattle.sysmem_tree.specs.declared.action.ActionKind.TheVariants.{Duplicate, CreateGroup, Bind, CreateChild, AllChildrenPresent, SetConstraints, AttachToken, Release, Close}
use Rattle.sysmem_tree.specs.declared.domain.Decision.{Decision}
use Rattle.sysmem_tree.specs.declared.domain.Domain.{Domain}
use Rattle.sysmem_tree.specs.declared.node.Birth.{Birth}
use Rattle.sysmem_tree.specs.ActionKind.{Deed, kind_of}
use Rattle.sysmem_tree.specs.Domain.{TreeFacts, was_closed_early, host_node, up_from, fails, has_failed, is_complete, is_ready, is_host_selected, is_host_lost}
use Rattle.sysmem_tree.specs.Forest.{Empty}
use Rattle.sysmem_tree.specs.History.{HistoryEntry, Acted, Decided, AreAccepted, after_entry, replay_from, replay, log_at, SameCalls, is_close, NoEarlyClose}
use Rattle.sysmem_tree.specs.Laws.{SameInitial, SameReady}
use Rattle.sysmem_tree.specs.Node.{awaits, is_awaited, NodeFacts}
use Rattle.sysmem_tree.specs.Nodes.{IsTree}
use Rattle.sysmem_tree.specs.Path.{child_of, led_to, node_at, Shown, shown_of, at_path}
use Rattle.sysmem_tree.specs.Shape.{tree_of}
use Rattle.sysmem_tree.specs.Step.{IsInitial, top, on}
use Rattle.sysmem_tree.specs.Table.{allows, state_after}
use Rattle.sysmem_tree.specs.Tree.{first_tree, applied, tree_after, new_domain, nodes_after, closed_early, domains_after, decided_domain, decided}
use Rattle.sysmem_tree.proofs.steps.Accepted.{accepted}
use Rattle.sysmem_tree.proofs.nodes.Alike.{decided_alike, decided_tree}
use Rattle.sysmem_tree.proofs.steps.Growing.{stands, still_tree}
use Rattle.sysmem_tree.proofs.histories.Histories.{acted_tree, ok_from, made, first_nodes_tree}
use Rattle.sysmem_tree.proofs.nodes.Kids.{parent_of}
use Rattle.sysmem_tree.proofs.histories.Logs.{same_kid, same_path}
use Rattle.sysmem_tree.proofs.domains.Ready.{unawaited, is_late_there, made_elsewhere, late_kind, still_done}
use Rattle.sysmem_tree.proofs.forests.SameForest.{grown, same_grown, forest_by_map, member}
use Rattle.sysmem_tree.proofs.nodes.Places.{there}
use Rattle.sysmem_tree.proofs.steps.Steps.{led_append, led_kid, at_node}
use Rattle.sysmem_tree.proofs.nodes.Ways.{child_born, root_alone}

-- what all elements of a list pass
all_of : {X : Type 0} (p : X → Bool) (xs : List X) → ((k : ℕ) (x : X) → slice_get xs k ≡ Some x → p x ≡ true) → list_all p xs ≡ true
all_of p [] h = refl
all_of p (x ∷ xs) h = rw (h 0 x refl) (all_of p xs (λ k y read. h (suc k) y read))

same_test : (a b : Bool) → (a ≡ true → b ≡ true) → (b ≡ true → a ≡ true) → a ≡ b
same_test true true f g = refl
same_test true false f g = sym (f refl)
same_test false true f g = g refl
same_test false false f g = refl

-- a domain is complete where no decision waits for a node of it
complete_by : (nodes : List NodeFacts) (r : ℕ) → ((k : ℕ) (x : NodeFacts) → slice_get nodes k ≡ Some x → x.domain ≡ r → is_awaited x.state ≡ false) → is_complete nodes r ≡ true
complete_by nodes r h = all_of (λ (x : NodeFacts). not ((x.domain == r) && is_awaited x.state)) nodes (λ k x read. elim (cases_eq x.domain r) [
  | inl home ↦ (let t : (x.domain == r) ≡ true = search (rules, tests, home) in rw (t, h k x read home) refl)
  | inr away ↦ (let t : (x.domain == r) ≡ false = search (rules, tests, away) in rw t refl)
])

-- what the map shows at a path is a node there
from_at : (nodes : List NodeFacts) (q : List ℕ) (z : Shown) → at_path nodes q ≡ Some z → (j : ℕ) × (y : NodeFacts) × (node_at nodes q ≡ Some j) × (slice_get nodes j ≡ Some y) × (shown_of j y ≡ z)
from_at nodes q z e = by (node_at nodes q) refl e where
  by : (o : Option ℕ) → node_at nodes q ≡ o → option_and_then (λ k. option_map (shown_of k) (slice_get nodes k)) o ≡ Some z
      → (j : ℕ) × (y : NodeFacts) × (node_at nodes q ≡ Some j) × (slice_get nodes j ≡ Some y) × (shown_of j y ≡ z)
  by None is e = absurd (cc)
  by (Some k) is e = found (slice_get nodes k) refl e where
    found : (o : Option NodeFacts) → slice_get nodes k ≡ o → option_map (shown_of k) o ≡ Some z → (j : ℕ) × (y : NodeFacts) × (node_at nodes q ≡ Some j) × (slice_get nodes j ≡ Some y) × (shown_of j y ≡ z)
    found None here e = absurd (cc)
    found (Some y) here e = (k, y, is, here, same_Some (shown_of k y) z e)

-- a path goes through the path before it
led_before : (nodes : List NodeFacts) (path : List ℕ) (k j : ℕ) → node_at nodes (path ++ k ∷ []) ≡ Some j → (p : ℕ) × (node_at nodes path ≡ Some p) × (child_of nodes p k ≡ Some j)
led_before nodes path k j e = by (node_at nodes path) refl (sym (led_append nodes path (k ∷ []) 0) ∙ e) where
  last : (p : ℕ) (o : Option ℕ) → option_and_then (λ child. led_to nodes child []) o ≡ Some j → o ≡ Some j
  last p None e = absurd (cc)
  last p (Some c) e = e

  by : (o : Option ℕ) → node_at nodes path ≡ o → option_and_then (λ c. led_to nodes c (k ∷ [])) o ≡ Some j → (p : ℕ) × (node_at nodes path ≡ Some p) × (child_of nodes p k ≡ Some j)
  by None is e = absurd (cc)
  by (Some p) is e = (p, is, last p (child_of nodes p k) e)

-- the nodes of the initial domain are those at its paths
module _ (nodes : List NodeFacts) (tree : IsTree nodes) where
  pub initial_node : (q : List ℕ) → IsInitial (at_path nodes) q → (j : ℕ) × (y : NodeFacts) × (node_at nodes q ≡ Some j) × (slice_get nodes j ≡ Some y) × (y.domain ≡ 0)
  initial_node _ top =
      let (r, at, root) = there (λ (x : NodeFacts). (x.birth ≡ None) × (x.domain ≡ 0)) (slice_get nodes 0) tree.root in (0, r, refl, at, root.1)
  initial_node _ (on path k z initial e plain) =
      let (p, np, leads, here, home) = initial_node path initial in
      let (j, y, leads', here', shows) = from_at nodes (path ++ k ∷ []) z e in
      let (p', through, child) = led_before nodes path k j leads' in
      let (y', at, birth) = child_born nodes p' k j child in
      let same : y' ≡ y = same_Some y' y (sym at ∙ here') in
      let up : p' ≡ p = same_Some p' p (sym through ∙ leads) in
      let own : y.domain ≢ j = λ is. (
      let root : (y.domain == j) ≡ true = search (rules, tests, is) in
      let bad : true ≡ false = sym root ∙ (ap (λ (v : Shown). v.is_domain_root) shows ∙ plain) in cc
      ) in
      let here'' : slice_get nodes p' ≡ Some np = ap (slice_get nodes) up ∙ here in (
        j,
        y,
        leads',
        here',
        elim (tree.placed j y np (record { parent = p'; ordinal = k }) here' (ap (λ (v : NodeFacts). v.birth) (sym same) ∙ birth) here'') [
          | inl kin ↦ kin ∙ home
          | inr root ↦ absurd (own root.0)
        ],
      )

  pub initial_path : (bound k : ℕ) (x : NodeFacts) → k < bound → slice_get nodes k ≡ Some x → x.domain ≡ 0 → (q : List ℕ) × (node_at nodes q ≡ Some k) × IsInitial (at_path nodes) q
  initial_path zero k x below here home = absurd (omega (arith, below))
  initial_path (suc bound) k x below here home = by (λ j y less at zero_is. initial_path bound j y less at zero_is) x.birth refl where
    by : ((j : ℕ) (y : NodeFacts) → j < bound → slice_get nodes j ≡ Some y → y.domain ≡ 0 → (q : List ℕ) × (node_at nodes q ≡ Some j) × IsInitial (at_path nodes) q)
        → (b : Option Birth) → x.birth ≡ b → (q : List ℕ) × (node_at nodes q ≡ Some k) × IsInitial (at_path nodes) q
    by ih None e = ([], ap (λ j. Some j) (sym (root_alone nodes k x tree here e)), top)
    by ih (Some b) e =
        let less = parent_of nodes tree k x b here e in
        let (p, at) = slice_get_some nodes b.parent (omega (arith, less, slice_get_within nodes k x here)) in
        let kin : p.domain ≡ 0 = elim (tree.placed k x p b here e at) [ inl same ↦ sym same ∙ home | inr root ↦ absurd (omega (arith, root.0, home, less)) ] in
        let (q, leads, initial) = ih b.parent p (omega (arith, less, below)) at kin in
        let leads' : node_at nodes (q ++ b.ordinal ∷ []) ≡ Some k = led_kid nodes tree q b.parent k x b leads here e refl in
        let apart : x.domain ≢ k = λ same. omega (arith, same, home, less) in
        let plain : (x.domain == k) ≡ false = search (rules, tests, apart) in
        (q ++ b.ordinal ∷ [], leads', on q b.ordinal (shown_of k x) initial (at_node nodes (q ++ b.ordinal ∷ []) k x leads' here) plain)

-- two trees that show the same at the paths of the initial domain
module _ (xs ys : List NodeFacts) (tree : IsTree xs) (tree' : IsTree ys) (agree : (q : List ℕ) → IsInitial (at_path ys) q → IsInitial (at_path xs) q × (at_path xs q ≡ at_path ys q)) where
  complete_too : is_complete xs 0 ≡ true → is_complete ys 0 ≡ true
  complete_too done = complete_by ys 0 (λ k x read home.
      let (q, leads, initial) = initial_path ys tree' (suc k) k x (omega arith) read home in
      let (initial', same) = agree q initial in
      let (j, y, leads', here, kin) = initial_node xs tree q initial' in
      let is : shown_of j y ≡ shown_of k x = same_Some (shown_of j y) (shown_of k x) (sym (at_node xs q j y leads' here) ∙ (same ∙ at_node ys q k x leads read)) in
      ap (λ (z : Shown). is_awaited z.state) (sym is) ∙ unawaited xs 0 j y done here kin)

pub initial_shape : (es fs : List HistoryEntry) → AreAccepted first_tree es → AreAccepted first_tree fs
    → ((q : List ℕ) → IsInitial (at_path (replay es).nodes) q → log_at es q ≡ log_at fs q) → SameInitial (replay es) (replay fs)
initial_shape es fs r r' same =
    let t : TreeFacts = replay es in
    let u : TreeFacts = replay fs in
    let m = made es r in
    let m' = made fs r' in
    let back = same_path (log_at es) (log_at fs) (at_path t.nodes) (at_path u.nodes) m.kept.map m'.kept.map same in
    let forth = same_path (log_at fs) (log_at es) (at_path u.nodes) (at_path t.nodes) m'.kept.map m.kept.map (λ q i. sym (same q (back q i).0)) in
    let (n, here, root) = there (λ (x : NodeFacts). (x.birth ≡ None) × (x.domain ≡ 0)) (slice_get t.nodes 0) m.tree.root in
    let (n', here', root') = there (λ (x : NodeFacts). (x.birth ≡ None) × (x.domain ≡ 0)) (slice_get u.nodes 0) m'.tree.root in
    let depth : ℕ = length t.nodes + length u.nodes in
    let shows : shown_of 0 n ≡ shown_of 0 n' = same_Some (shown_of 0 n) (shown_of 0 n') (sym (at_node t.nodes [] 0 n refl here) ∙ ((back [] top).1 ∙ at_node u.nodes [] 0 n' refl here')) in
    record {
      shape = forest_by_map member t.nodes m.tree 0 [] n depth here root.1 refl (omega arith)
          ∙ (ap (λ (z : Shown). tree_of z.state.kind (member [] z) (grown member (at_path t.nodes) (suc depth) [] z.state.children) Empty) shows
          ∙ (ap (λ x. tree_of n'.state.kind (member [] (shown_of 0 n')) x Empty)
          (same_grown member (at_path t.nodes) (at_path u.nodes) (IsInitial (at_path t.nodes))
          (same_kid (log_at es) (log_at fs) (at_path t.nodes) (at_path u.nodes) m.kept.map m'.kept.map same) (suc depth) [] n'.state.children top)
          ∙ sym (forest_by_map member u.nodes m'.tree 0 [] n' depth here' root'.1 refl (omega arith))));
      complete = same_test (is_complete t.nodes 0) (is_complete u.nodes 0) (complete_too t.nodes u.nodes m.tree m'.tree back) (complete_too u.nodes t.nodes m'.tree m.tree forth);
    }

-- a complete domain stays so
pub complete_stays : (nodes : List NodeFacts) (i r : ℕ) (n : NodeFacts) (deed : Deed) → slice_get nodes i ≡ Some n → allows (kind_of deed) n.state ≡ true → is_complete nodes r ≡ true → r < length nodes
    → is_complete (nodes_after nodes i n deed) r ≡ true
complete_stays nodes i r n deed here allowed done within = complete_by (nodes_after nodes i n deed) r (λ k x read home. elim (stands nodes i n deed here k x read) [
  | inl own ↦
      let kin : n.domain ≡ r = ap (λ (z : NodeFacts). z.domain) own.1 ∙ home in
      let late = is_late_there nodes i r n deed here allowed done within kin in
      let quiet = unawaited nodes r i n done here kin in
      ap (λ (z : NodeFacts). is_awaited z.state) (sym own.1)
      ∙ (ap (λ k. awaits k (state_after (kind_of deed) n.state)) (late_kind (kind_of deed) n.state late) ∙ still_done (kind_of deed) n.state.kind n.state late quiet)
  | inr rest ↦ elim rest [
    | inl other ↦ unawaited nodes r k x done other.1 home
    | inr new ↦ absurd (made_elsewhere nodes i r n deed here allowed done within new.1 new.2 (ap (λ (z : NodeFacts). z.domain) new.3 ∙ home))
  ]
])

-- the marks of domains
abbrev closed_at : List Domain → ℕ → Bool
closed_at domains r = was_closed_early domains r

pub closed_push : (ds : List Domain) (r m : ℕ) → closed_at (ds ++ new_domain m ∷ []) r ≡ closed_at ds r
closed_push [] r m = search (rules, tests)
closed_push (d ∷ ds) r m = ap (λ b. ((d.root == r) && d.is_closed_early) || b) (closed_push ds r m)

closed_other : (ds : List Domain) (r e : ℕ) → e ≢ r → closed_at (map (closed_early e) ds) r ≡ closed_at ds r
closed_other [] r e other = refl
closed_other (d ∷ ds) r e other = ap (λ b. ((d.root == r) && (d.is_closed_early || (d.root == e))) || b) (closed_other ds r e other) ∙ ap (λ b. b || closed_at ds r) (by d.is_closed_early (cases_eq d.root r)) where
  by : (c : Bool) → (d.root ≡ r) ⊎ (d.root ≢ r) → ((d.root == r) && (c || (d.root == e))) ≡ ((d.root == r) && c)
  by c (inl home) = let t : (d.root == e) ≡ false = search (rules, tests, (λ (is : d.root ≡ e). other (sym is ∙ home))) in rw t (search (rules, tests))
  by c (inr away) = let t : (d.root == r) ≡ false = search (rules, tests, away) in rw t refl

closed_decided : (ds : List Domain) (r d : ℕ) (x : Decision) → closed_at (map (decided_domain d x) ds) r ≡ closed_at ds r
closed_decided [] r d x = refl
closed_decided (e ∷ ds) r d x = ap (λ b. (((decided_domain d x e).root == r) && (decided_domain d x e).is_closed_early) || b) (closed_decided ds r d x) ∙ ap (λ b. b || closed_at ds r) (by (e.root == d) refl) where
  by : (b : Bool) → (e.root == d) ≡ b → (((decided_domain d x e).root == r) && (decided_domain d x e).is_closed_early) ≡ ((e.root == r) && e.is_closed_early)
  by true t = rw t refl
  by false t = rw t refl

-- the initial domain has no host: it is ready where it is complete and wasn't closed early
pub no_host : (nodes : List NodeFacts) → IsTree nodes → host_node nodes 0 ≡ None
no_host nodes tree =
    let (n, here, root) = there (λ (x : NodeFacts). (x.birth ≡ None) × (x.domain ≡ 0)) (slice_get nodes 0) tree.root in
    ap (λ o. option_and_then (λ (x : NodeFacts). option_and_then (λ (b : Birth). slice_get nodes b.parent) x.birth) o) here ∙ ap (λ o. option_and_then (λ (b : Birth). slice_get nodes b.parent) o) root.0

alone : (c : Bool) → (c && (not false && true)) ≡ c
alone true = refl
alone false = refl

pub ready_alone : (t : TreeFacts) → IsTree t.nodes → closed_at t.domains 0 ≡ false → is_ready t 0 ≡ is_complete t.nodes 0
ready_alone t tree open' =
    let none = no_host t.nodes tree in
    let chain : up_from 128 t.nodes 0 ≡ 0 ∷ [] = ap (λ o. 0 ∷ unwrap_or (option_map (λ (host : NodeFacts). up_from 127 t.nodes host.domain) o) []) none in
    let own : fails t 0 ≡ false = ap (λ o. closed_at t.domains 0 || is_host_lost t.domains o) none ∙ ap (λ b. b || false) open' in
    let failed : has_failed t 0 ≡ false = ap (list_any (fails t)) chain ∙ ap (λ b. b || false) own in
    ap (λ b. is_complete t.nodes 0 && (not b && is_host_selected t.domains (host_node t.nodes 0))) failed
    ∙ (ap (λ o. is_complete t.nodes 0 && (not false && is_host_selected t.domains o)) none ∙ alone (is_complete t.nodes 0))

close_by : (ready : Bool) (t : TreeFacts) (n : NodeFacts) (r : ℕ) → is_ready t n.domain ≡ ready → is_ready t r ≡ true → closed_at t.domains r ≡ false
    → closed_at (if is_ready t n.domain then t.domains else map (closed_early n.domain) t.domains) r ≡ false
close_by true t n r is own c = ap (λ b. closed_at (if b then t.domains else map (closed_early n.domain) t.domains) r) is ∙ c
close_by false t n r is own c =
    ap (λ b. closed_at (if b then t.domains else map (closed_early n.domain) t.domains) r) is
    ∙ (closed_other t.domains r n.domain (λ same. let bad : true ≡ false = sym own ∙ (ap (is_ready t) (sym same) ∙ is) in cc) ∙ c)

-- no action marks a domain that is ready
pub closed_acted : (t : TreeFacts) (n : NodeFacts) (r : ℕ) (call : ActionKind) → closed_at t.domains r ≡ false → (is_close call ≡ true → is_ready t r ≡ true) → closed_at (domains_after t n call) r ≡ false
closed_acted t n r AttachToken c h = closed_push t.domains r (length t.nodes) ∙ c
closed_acted t n r Close c h = close_by (is_ready t n.domain) t n r refl (h refl) c
closed_acted t n r Duplicate c h = c
closed_acted t n r CreateGroup c h = c
closed_acted t n r Bind c h = c
closed_acted t n r CreateChild c h = c
closed_acted t n r AllChildrenPresent c h = c
closed_acted t n r SetConstraints c h = c
closed_acted t n r Release c h = c

pub decided_marks : (t : TreeFacts) (r e : ℕ) (members : Option (List ℕ)) → closed_at (decided t r members).domains e ≡ closed_at t.domains e
decided_marks t r e None = closed_decided t.domains e r _
decided_marks t r e (Some ms) = closed_decided t.domains e r _

-- without an early close the initial domain isn't closed early: until it is complete no close comes
never_closed : (t : TreeFacts) (es : List HistoryEntry) → IsTree t.nodes → AreAccepted t es → closed_at t.domains 0 ≡ false → (is_complete t.nodes 0 ≡ true) ⊎ NoEarlyClose es
    → closed_at (replay_from t es).domains 0 ≡ false
never_closed t [] tree a unclosed calm = unclosed
never_closed t (Acted i deed ∷ es) tree a unclosed calm =
    let (after, is) = ok_from (applied t i deed) a.0 in
    let (n, ok) = accepted t i deed after is in
    let led : tree_after t i n deed ≡ after_entry t (Acted i deed) = ok.tree ∙ sym (acted_tree t i deed after is) in
    let (z, at, _) = there (λ (x : NodeFacts). (x.birth ≡ None) × (x.domain ≡ 0)) (slice_get t.nodes 0) tree.root in
    never_closed (after_entry t (Acted i deed)) es (subst (λ (x : TreeFacts). IsTree x.nodes) led (still_tree t.nodes i n deed ok.there tree ok.allowed ok.room)) a.1
    (subst (λ (x : TreeFacts). closed_at x.domains 0 ≡ false) led (closed_acted t n 0 (kind_of deed) unclosed (λ closes. ready_alone t tree unclosed ∙ early closes calm)))
    (elim calm [
      | inl done ↦ inl (subst (λ (x : TreeFacts). is_complete x.nodes 0 ≡ true) led (complete_stays t.nodes i 0 n deed ok.there ok.allowed done (slice_get_within t.nodes 0 z at)))
      | inr quiet ↦ inr quiet.1
    ]) where
      early : is_close (kind_of deed) ≡ true → ((is_complete t.nodes 0 ≡ true) ⊎ NoEarlyClose (Acted i deed ∷ es)) → is_complete t.nodes 0 ≡ true
      early closes (inl done) = done
      early closes (inr quiet) = absurd (let bad : true ≡ false = sym closes ∙ quiet.0 in cc)
never_closed t (Decided r choices ∷ es) tree a unclosed calm =
    let alike = decided_alike t r choices in
    never_closed (decided t r choices) es (decided_tree t r choices tree) a.1 (decided_marks t r 0 choices ∙ unclosed)
    (elim calm [
      | inl done ↦ inl (alike.complete 0 ∙ done)
      | inr quiet ↦ elim (cases_eq r 0) [
        | inl first ↦ inl (alike.complete 0 ∙ (ap (is_complete t.nodes) (sym first) ∙ (and_parts (is_complete t.nodes r) _ a.0.ready).0))
        | inr other ↦ inr (quiet other)
      ]
    ])

first_open : (es : List HistoryEntry) → AreAccepted first_tree es → NoEarlyClose es → closed_at (replay es).domains 0 ≡ false
first_open es a calm = never_closed first_tree es first_nodes_tree a refl (inr calm)

pub confluence : (es fs : List HistoryEntry) → AreAccepted first_tree es → AreAccepted first_tree fs → SameCalls es fs → NoEarlyClose es → NoEarlyClose fs → SameReady (replay es) (replay fs)
confluence es fs a b same calm calm' =
    let initial = initial_shape es fs a b (λ q _. same q) in
    record {
      ready = ready_alone (replay es) (made es a).tree (first_open es a calm) ∙ (initial.complete ∙ sym (ready_alone (replay fs) (made fs b).tree (first_open fs b calm')));
      shape = initial.shape;
    }
