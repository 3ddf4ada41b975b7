-- One pass over the domains tells of each whether it has failed.
use Rattle.std.proofs.Common.{◌≡◌, ◌≢◌, ◌<◌, ◌≤◌, ◌+◌, ◌==◌, ◌&&◌, ◌||◌, not, drop, rules, tests, ℕ, zero, suc, Bool, true, false, List, [], ◌∷◌, length, replicate, Option, Some, None, map, option_map, get_or, slice_get, slice_set, refl, sym, ◌∙◌, ap, subst, arith, ◌⊎◌, inl, inr}
use Rattle.std.specs.Prelude.{IfSome, unwrap_or}
use Rattle.std.proofs.lemmas.Bool.{cases_eq, cases_lt, ne_eqb}
use Rattle.std.proofs.lemmas.Grind.{get_or-set_at}
use Rattle.std.proofs.lemmas.List.{get_or-set_other, length-set, length-map}
use Rattle.std.proofs.lemmas.Option.{same_Some, slice_get_within, slice_get-get_or}
use Rattle.sysmem_tree.specs.declared.domain.Decision.{Decision}
use Rattle.sysmem_tree.specs.declared.domain.Decision.TheVariants.{Undecided}
use Rattle.sysmem_tree.specs.declared.domain.Domain.{Domain}
use Rattle.sysmem_tree.specs.Domain.{TreeFacts, AreDomains, fails, has_failed, host_node, is_complete, is_host_lost, is_host_selected, is_lost, is_ready, was_closed_early}
use Rattle.sysmem_tree.specs.Node.{NodeFacts, is_awaited}
use Rattle.sysmem_tree.specs.Nodes.{IsTree}
use Rattle.sysmem_tree.specs.Tree.{new_domain}
use Rattle.sysmem_tree.specs.Sweep.{fails_with, is_lost_by, failed_at, ready_at}
use Rattle.sysmem_tree.proofs.domains.Climbing.{closed_here, decision_here, domain_at, hosted, nat_cases, rising, root_at, root_listed}
use Rattle.sysmem_tree.proofs.forests.Numbers.{front}
use Rattle.sysmem_tree.proofs.selections.Onward.{nothing_left}
use Rattle.sysmem_tree.proofs.nodes.Places.{there}
use Rattle.sysmem_tree.proofs.domains.Readiness.{home_root}
use Rattle.sysmem_tree.proofs.domains.Soundness.{root_there}
use Rattle.sysmem_tree.proofs.steps.Steps.{domain_up}
use Rattle.sysmem_tree.proofs.domains.Upwards.{above, fails_within}

-- of the domains before an index it is known, by their places and by the numbers of their roots
pub record IsSwept (t : TreeFacts) (marks failed : List Bool) (decisions : List Decision) (i : ℕ) : Type 0 where
  pub long : length marks ≡ 128
  pub before : (k : ℕ) → k < i → get_or marks k false ≡ failed_at t k
  pub behind : (k : ℕ) → i ≤ k → get_or marks k false ≡ false
  pub failed_long : length failed ≡ 128
  pub noted : (k : ℕ) (d : Domain) → k < i → slice_get t.domains k ≡ Some d → get_or failed d.root false ≡ has_failed t d.root
  pub decisions_long : length decisions ≡ 128
  pub decided : (k : ℕ) (d : Domain) → k < i → slice_get t.domains k ≡ Some d → get_or decisions d.root Undecided ≡ d.decision

none_marked : (many k : ℕ) → get_or (replicate many false) k false ≡ false
none_marked zero k = refl
none_marked (suc many) zero = refl
none_marked (suc many) (suc k) = none_marked many k

pub sweep_starts : (t : TreeFacts) → IsSwept t (replicate 128 false) (replicate 128 false) (replicate 128 Undecided) 0
sweep_starts t = record {
  long = refl;
  before = λ k less. absurd (omega (arith, less));
  behind = λ k _. none_marked 128 k;
  failed_long = refl;
  noted = λ k d less _. absurd (omega (arith, less));
  decisions_long = refl;
  decided = λ k d less _. absurd (omega (arith, less));
}

-- hosts are of domains below 128
pub host_below : (nodes : List NodeFacts) → IsTree nodes → (r : ℕ) → IfSome (host_node nodes r) (λ h. h.domain < 128)
host_below nodes tree r = by (host_node nodes r) refl where
  by : (o : Option NodeFacts) → host_node nodes r ≡ o → IfSome o (λ h. h.domain < 128)
  by None e = tt
  by (Some h) e =
      let (k, older, within, at) = hosted nodes tree r h e in
      omega (arith, domain_up nodes tree (k + 1) k h (omega arith) at, older, within, tree.few)

-- and so are roots
pub root_below : (t : TreeFacts) → IsTree t.nodes → AreDomains t → (i : ℕ) (one : Domain) → slice_get t.domains i ≡ Some one → one.root < 128
root_below t tree domains i one here =
    let (m, is, has) = root_there 0 t.nodes i one.root (ap (λ rs. slice_get rs i) (sym domains) ∙ root_at t.domains i one here) in
    let (n, at, _) = there (λ (n : NodeFacts). n.domain ≡ one.root) (slice_get t.nodes m) has in
    omega (arith, is, slice_get_within t.nodes m n at, tree.few)

some_at : (ds : List Domain) (k : ℕ) → k < length ds → (d : Domain) × (slice_get ds k ≡ Some d)
some_at [] k less = absurd (omega (arith, less))
some_at (d ∷ ds) zero less = (d, refl)
some_at (d ∷ ds) (suc k) less = some_at ds k (omega (arith, less))

place_up : (t : TreeFacts) → AreDomains t → (i : ℕ) (one : Domain) → slice_get t.domains i ≡ Some one → i ≤ one.root
place_up t domains zero one at = omega arith
place_up t domains (suc i) one at =
    let within = slice_get_within t.domains (suc i) one at in
    let (d, before) = some_at t.domains i (omega (arith, within)) in
    omega (arith, place_up t domains i d before, rising t domains i (suc i) d one before at (omega arith))

-- and so are places
pub place_below : (t : TreeFacts) → IsTree t.nodes → AreDomains t → (i : ℕ) (one : Domain) → slice_get t.domains i ≡ Some one → i < 128
place_below t tree domains i one here = omega (arith, place_up t domains i one here, root_below t tree domains i one here)

-- the domain at a place
pub one_at : (ds : List Domain) (i : ℕ) → i < length ds → slice_get ds i ≡ Some (get_or ds i (new_domain 0))
one_at ds i less = slice_get-get_or ds i (new_domain 0) less

-- more domains upwards than there are tell no more
fuel : (t : TreeFacts) → IsTree t.nodes → (many r : ℕ) → r < many → fails_within (suc many) t r ≡ fails_within many t r
fuel t tree zero r less = absurd (omega (arith, less))
fuel t tree (suc many) r less = ap (λ b. fails t r || b) (by (host_node t.nodes r) refl (λ d low. fuel t tree many d low)) where
  by : (o : Option NodeFacts) → host_node t.nodes r ≡ o → ((d : ℕ) → d < many → fails_within (suc many) t d ≡ fails_within many t d) → above (suc many) t o ≡ above many t o
  by None e ih = refl
  by (Some h) e ih =
      let (k, older, _, at) = hosted t.nodes tree r h e in
      ih h.domain (omega (arith, domain_up t.nodes tree (k + 1) k h (omega arith) at, older, less))

turned : (c l f : Bool) → (c || (f || l)) ≡ ((c || l) || f)
turned true l f = refl
turned false true true = refl
turned false true false = refl
turned false false true = refl
turned false false false = refl

module _ (t : TreeFacts) (tree : IsTree t.nodes) (domains : AreDomains t) (i : ℕ) (one : Domain) (here : slice_get t.domains i ≡ Some one)
    (marks failed : List Bool) (decisions : List Decision) (so : IsSwept t marks failed decisions i) where
  -- what is known of a host's domain
  record KnowsHost (h : NodeFacts) : Type 0 where
    failed_is : get_or failed h.domain false ≡ fails_within 127 t h.domain
    lost_is : is_lost_by (get_or decisions h.domain Undecided) h ≡ is_lost t.domains h

  knows_host : (h : NodeFacts) → host_node t.nodes one.root ≡ Some h → KnowsHost h
  knows_host h up =
      let (k, older, within, at) = hosted t.nodes tree one.root h up in
      let low = domain_up t.nodes tree (k + 1) k h (omega arith) at in
      let (place, listed) = root_listed 0 t.nodes h.domain h.domain (omega arith) (home_root t.nodes tree (k + 1) k h (omega arith) at) in
      let (e, there, own) = domain_at t.domains place h.domain (ap (λ rs. slice_get rs place) domains ∙ listed) in
      let first : place < i = before place e there (omega (arith, own, low, older)) in
      record {
        failed_is = ap (λ r. get_or failed r false) (sym own) ∙ (so.noted place e first there ∙ (ap (has_failed t) own ∙ fuel t tree 127 h.domain (omega (arith, low, older, within, tree.few))));
        lost_is = ap (λ d. is_lost_by d h) (ap (λ r. get_or decisions r Undecided) (sym own) ∙ (so.decided place e first there ∙ sym (decision_here t.domains place h.domain e (rising t domains) there own)));
      } where
        before : (k : ℕ) (e : Domain) → slice_get t.domains k ≡ Some e → e.root < one.root → k < i
        before k e there less = elim (nat_cases k i) [
          | inl first ↦ first
          | inr (inl same) ↦ absurd (omega (arith, less, ap (λ (z : Domain). z.root) (same_Some e one (sym there ∙ (ap (slice_get t.domains) same ∙ here)))))
          | inr (inr later) ↦ absurd (omega (arith, less, rising t domains i k one e here there later))
        ]

  failed_now : (one.is_closed_early || fails_with failed decisions (host_node t.nodes one.root)) ≡ has_failed t one.root
  failed_now =
      ap (λ b. b || fails_with failed decisions (host_node t.nodes one.root)) (sym (closed_here t.domains i one.root one (rising t domains) here refl))
      ∙ by (host_node t.nodes one.root) refl where
        c : Bool
        c = was_closed_early t.domains one.root

        by : (o : Option NodeFacts) → host_node t.nodes one.root ≡ o → (c || fails_with failed decisions o) ≡ ((c || is_host_lost t.domains (host_node t.nodes one.root)) || above 127 t (host_node t.nodes one.root))
        by None e = turned c false false ∙ ap (λ o. (c || is_host_lost t.domains o) || above 127 t o) (sym e)
        by (Some h) e =
            let known = knows_host h e in
            ap (λ b. c || (b || is_lost_by (get_or decisions h.domain Undecided) h)) known.failed_is
            ∙ (ap (λ b. c || (fails_within 127 t h.domain || b)) known.lost_is
            ∙ (turned c (is_lost t.domains h) (fails_within 127 t h.domain) ∙ ap (λ o. (c || is_host_lost t.domains o) || above 127 t o) (sym e)))

  pub sweep_on : (now : Bool) → now ≡ (one.is_closed_early || fails_with failed decisions (host_node t.nodes one.root))
      → IsSwept t (slice_set marks i now) (slice_set failed one.root now) (slice_set decisions one.root one.decision) (i + 1)
  sweep_on now is = record {
    long = length-set marks i now ∙ so.long;
    before = λ k less. elim (cases_eq k i) [
      | inl e ↦ get_or-set_at marks i k now false e (omega (arith, marked, so.long)) ∙ (told ∙ ap (failed_at t) (sym e))
      | inr other ↦ get_or-set_other marks i k now false other ∙ so.before k (omega (arith, less, other))
    ];
    behind = λ k more. get_or-set_other marks i k now false (λ e. omega (arith, e, more)) ∙ so.behind k (omega (arith, more));
    failed_long = length-set failed one.root now ∙ so.failed_long;
    noted = λ k d less at. elim (cases_eq k i) [
      | inl e ↦ (let root = same_root k d e at in
          get_or-set_at failed one.root d.root now false root (omega (arith, below, so.failed_long)) ∙ (is ∙ (failed_now ∙ ap (has_failed t) (sym root))))
      | inr other ↦ get_or-set_other failed one.root d.root now false (apart k d less other at) ∙ so.noted k d (omega (arith, less, other)) at
    ];
    decisions_long = length-set decisions one.root one.decision ∙ so.decisions_long;
    decided = λ k d less at. elim (cases_eq k i) [
      | inl e ↦ get_or-set_at decisions one.root d.root one.decision Undecided (same_root k d e at) (omega (arith, below, so.decisions_long)) ∙ ap (λ (z : Domain). z.decision) (sym (same k d e at))
      | inr other ↦ get_or-set_other decisions one.root d.root one.decision Undecided (apart k d less other at) ∙ so.decided k d (omega (arith, less, other)) at
    ];
  } where
    below : one.root < 128
    below = root_below t tree domains i one here

    marked : i < 128
    marked = place_below t tree domains i one here

    told : now ≡ failed_at t i
    told = is ∙ (failed_now ∙ sym (ap (λ o. unwrap_or (option_map (has_failed t) o) false) (root_at t.domains i one here)))

    same : (k : ℕ) (d : Domain) → k ≡ i → slice_get t.domains k ≡ Some d → d ≡ one
    same k d e at = same_Some d one (sym at ∙ (ap (slice_get t.domains) e ∙ here))

    same_root : (k : ℕ) (d : Domain) → k ≡ i → slice_get t.domains k ≡ Some d → d.root ≡ one.root
    same_root k d e at = ap (λ (z : Domain). z.root) (same k d e at)

    apart : (k : ℕ) (d : Domain) → k < i + 1 → k ≢ i → slice_get t.domains k ≡ Some d → d.root ≢ one.root
    apart k d less other at e = omega (arith, e, rising t domains k i d one at here (omega (arith, less, other)))

past_end : (xs : List ℕ) (k : ℕ) → length xs ≤ k → slice_get xs k ≡ None
past_end [] k more = refl
past_end (x ∷ xs) zero more = absurd (omega (arith, more))
past_end (x ∷ xs) (suc k) more = past_end xs k (omega (arith, more))

pub sweep_ends : (t : TreeFacts) (marks failed : List Bool) (decisions : List Decision) (i : ℕ) → length t.domains ≤ i → IsSwept t marks failed decisions i → (k : ℕ) → get_or marks k false ≡ failed_at t k
sweep_ends t marks failed decisions i all so k = elim (cases_lt k i) [
  | inl less ↦ so.before k less
  | inr more ↦ so.behind k more ∙ sym (ap (λ o. unwrap_or (option_map (has_failed t) o) false) (past_end (map (λ d. d.root) t.domains) k (omega (arith, all, more, length-map t.domains (λ d. d.root)))))
]

pub if_map : {X Y : Type 0} (f : X → Y) (P : Y → Type 0) (o : Option X) (p : Option Y) → option_map f o ≡ p → IfSome p P → IfSome o (λ x. P (f x))
if_map f P None p e h = tt
if_map f P (Some x) None e h = absurd (cc)
if_map f P (Some x) (Some y) e h = let same = same_Some (f x) y e in subst P (sym same) h

-- those nodes of each domain that were met, by marks, and those that are left
pub record AreMet (nodes : List NodeFacts) (marks : List Bool) (i : ℕ) : Type 0 where
  pub long : length marks ≡ 128
  pub tell : (r : ℕ) → (get_or marks r false || not (is_complete (drop i nodes) r)) ≡ not (is_complete nodes r)

pub meets_none : (nodes : List NodeFacts) → AreMet nodes (replicate 128 false) 0
meets_none nodes = record { long = refl; tell = λ r. ap (λ b. b || not (is_complete nodes r)) (none_marked 128 r) }

or_true : (b : Bool) → (b || true) ≡ true
or_true true = refl
or_true false = refl

or_false : (b : Bool) → (b || false) ≡ b
or_false true = refl
or_false false = refl

front_of : (nodes : List NodeFacts) (i : ℕ) (n : NodeFacts) → slice_get nodes i ≡ Some n → drop i nodes ≡ n ∷ drop (i + 1) nodes
front_of nodes i n here =
    let (x, at, is) = front nodes i (slice_get_within nodes i n here) in
    let z : suc i ≡ i + 1 = omega arith in
    is ∙ (ap (λ y. y ∷ drop (suc i) nodes) (same_Some x n (sym at ∙ here)) ∙ ap (λ j. n ∷ drop j nodes) z)

module _ (nodes : List NodeFacts) (i : ℕ) (n : NodeFacts) (here : slice_get nodes i ≡ Some n) (marks : List Bool) (so : AreMet nodes marks i) where
  at_front : (r : ℕ) → (get_or marks r false || not (not ((n.domain == r) && is_awaited n.state) && is_complete (drop (i + 1) nodes) r)) ≡ not (is_complete nodes r)
  at_front r = ap (λ ns. get_or marks r false || not (is_complete ns r)) (sym (front_of nodes i n here)) ∙ so.tell r

  pub meets_other : is_awaited n.state ≡ false → AreMet nodes marks (i + 1)
  meets_other none = record { long = so.long; tell = λ r. ap (λ b. get_or marks r false || not (not b && is_complete (drop (i + 1) nodes) r)) (sym (off (n.domain == r))) ∙ at_front r } where
    off : (b : Bool) → (b && is_awaited n.state) ≡ false
    off true = none
    off false = refl

  pub meets_awaited : n.domain < 128 → is_awaited n.state ≡ true → AreMet nodes (slice_set marks n.domain true) (i + 1)
  meets_awaited below waits = record { long = length-set marks n.domain true ∙ so.long; tell = λ r. by r (cases_eq r n.domain) } where
    by : (r : ℕ) → (r ≡ n.domain) ⊎ (r ≢ n.domain) → (get_or (slice_set marks n.domain true) r false || not (is_complete (drop (i + 1) nodes) r)) ≡ not (is_complete nodes r)
    by r (inl same) =
        let own : (n.domain == r) ≡ true = let e : n.domain ≡ r = sym same in search (rules, tests, e) in
        ap (λ b. b || not (is_complete (drop (i + 1) nodes) r)) (get_or-set_at marks n.domain r true false same (omega (arith, below, so.long)))
        ∙ (sym (or_true (get_or marks r false))
        ∙ (ap (λ b. get_or marks r false || not (not b && is_complete (drop (i + 1) nodes) r)) (sym (ap (λ b. b && is_awaited n.state) own ∙ waits)) ∙ at_front r))
    by r (inr other) =
        let away : (n.domain == r) ≡ false = ne_eqb n.domain r (λ e. other (sym e)) in
        ap (λ b. b || not (is_complete (drop (i + 1) nodes) r)) (get_or-set_other marks n.domain r true false other)
        ∙ (ap (λ b. get_or marks r false || not (not b && is_complete (drop (i + 1) nodes) r)) (sym (ap (λ b. b && is_awaited n.state) away)) ∙ at_front r)

pub meets_all : (nodes : List NodeFacts) (marks : List Bool) (i : ℕ) → length nodes ≤ i → AreMet nodes marks i → (r : ℕ) → get_or marks r false ≡ not (is_complete nodes r)
meets_all nodes marks i all so r =
    sym (or_false (get_or marks r false)) ∙ (ap (λ ns. get_or marks r false || not (is_complete ns r)) (sym (nothing_left nodes i all)) ∙ so.tell r)

-- whether domains are ready, by marks
pub record AreReadyBefore (t : TreeFacts) (marks : List Bool) (i : ℕ) : Type 0 where
  pub long : length marks ≡ 128
  pub before : (k : ℕ) → k < i → get_or marks k false ≡ ready_at t k
  pub behind : (k : ℕ) → i ≤ k → get_or marks k false ≡ false

pub ready_starts : (t : TreeFacts) → AreReadyBefore t (replicate 128 false) 0
ready_starts t = record { long = refl; before = λ k less. absurd (omega (arith, less)); behind = λ k _. none_marked 128 k }

not_not : (b : Bool) → not (not b) ≡ b
not_not true = refl
not_not false = refl

pub ready_on : (t : TreeFacts) → IsTree t.nodes → AreDomains t → (i : ℕ) (one : Domain) → slice_get t.domains i ≡ Some one → (waits failed marks : List Bool)
    → ((r : ℕ) → get_or waits r false ≡ not (is_complete t.nodes r)) → ((k : ℕ) → get_or failed k false ≡ failed_at t k)
    → (now : Bool) → now ≡ (not (get_or waits one.root false) && (not (get_or failed i false) && is_host_selected t.domains (host_node t.nodes one.root)))
    → AreReadyBefore t marks i → AreReadyBefore t (slice_set marks i now) (i + 1)
ready_on t tree domains i one here waits failed marks waiting fails now is so = record {
  long = length-set marks i now ∙ so.long;
  before = λ k less. elim (cases_eq k i) [
    | inl e ↦ get_or-set_at marks i k now false e (omega (arith, place_below t tree domains i one here, so.long)) ∙ (told ∙ ap (ready_at t) (sym e))
    | inr other ↦ get_or-set_other marks i k now false other ∙ so.before k (omega (arith, less, other))
  ];
  behind = λ k more. get_or-set_other marks i k now false (λ e. omega (arith, e, more)) ∙ so.behind k (omega (arith, more));
} where
  hosted_well : Bool
  hosted_well = is_host_selected t.domains (host_node t.nodes one.root)

  failed_is : get_or failed i false ≡ has_failed t one.root
  failed_is = fails i ∙ ap (λ o. unwrap_or (option_map (has_failed t) o) false) (root_at t.domains i one here)

  told : now ≡ ready_at t i
  told =
      is ∙ (ap (λ b. not b && (not (get_or failed i false) && hosted_well)) (waiting one.root)
      ∙ (ap (λ b. b && (not (get_or failed i false) && hosted_well)) (not_not (is_complete t.nodes one.root))
      ∙ (ap (λ b. is_complete t.nodes one.root && (not b && hosted_well)) failed_is
      ∙ sym (ap (λ o. unwrap_or (option_map (is_ready t) o) false) (root_at t.domains i one here)))))

pub ready_ends : (t : TreeFacts) (marks : List Bool) (i : ℕ) → length t.domains ≤ i → AreReadyBefore t marks i → (k : ℕ) → get_or marks k false ≡ ready_at t k
ready_ends t marks i all so k = elim (cases_lt k i) [
  | inl less ↦ so.before k less
  | inr more ↦ so.behind k more ∙ sym (ap (λ o. unwrap_or (option_map (is_ready t) o) false) (past_end (map (λ d. d.root) t.domains) k (omega (arith, all, more, length-map t.domains (λ d. d.root)))))
]

-- the node that was read at a place
pub node_read : (nodes : List NodeFacts) (k : ℕ) (n : NodeFacts) → k < length nodes → n ≡ get_or nodes k n → slice_get nodes k ≡ Some n
node_read nodes k n less is = slice_get-get_or nodes k n less ∙ ap Some (sym is)

pub node_below : (nodes : List NodeFacts) → IsTree nodes → (k : ℕ) (n : NodeFacts) → slice_get nodes k ≡ Some n → n.domain < 128
node_below nodes tree k n here = omega (arith, domain_up nodes tree (k + 1) k n (omega arith) here, slice_get_within nodes k n here, tree.few)
