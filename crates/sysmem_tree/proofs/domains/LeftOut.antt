-- None but a selection leaves a node out.
use Rattle.std.proofs.Common.{◌≡◌, ◌≢◌, ◌⊎◌, ℕ, zero, suc, ◌+◌, ◌==◌, Bool, true, false, List, [], ◌∷◌, Option, Some, None, slice_get, refl, sym, ◌∙◌, ap, subst, arith, rules, tests, inl, inr}
use Rattle.std.specs.Prelude.{Ok, map, if◌then◌else◌}
use Rattle.std.proofs.lemmas.Bool.{cases_eq}
use Rattle.std.proofs.lemmas.Option.{same_Some}
use Rattle.sysmem_tree.specs.declared.domain.Decision.{Decision}
use Rattle.sysmem_tree.specs.declared.domain.Decision.TheVariants.{Chosen}
use Rattle.sysmem_tree.specs.declared.domain.Domain.{Domain}
use Rattle.sysmem_tree.specs.ActionKind.{Deed, kind_of}
use Rattle.sysmem_tree.specs.Domain.{TreeFacts, HasDomain, AreDomains, LeftOutAreChosen, decision_of, is_chosen, is_undecided, roots_from}
use Rattle.sysmem_tree.specs.Node.{NodeFacts}
use Rattle.sysmem_tree.specs.Tree.{first_node, first_tree, Applied, applied, decided, decided_domain}
use Rattle.sysmem_tree.proofs.steps.Accepted.{accepted}
use Rattle.sysmem_tree.proofs.nodes.Alike.{decided_alike}
use Rattle.sysmem_tree.proofs.steps.Growing.{stands}
use Rattle.sysmem_tree.proofs.nodes.Places.{there}
use Rattle.sysmem_tree.proofs.domains.Readiness.{chosen_not_undecided, decision_acted, decision_by, kept_by}

-- by an accepted action
pub acted_left_out : (t : TreeFacts) (i : ℕ) (deed : Deed) (after : Applied) → LeftOutAreChosen t → applied t i deed ≡ Ok after → LeftOutAreChosen after.tree
acted_left_out t i deed after left is k x read out =
    let (n, a) = accepted t i deed after is in
    let kept : (e : ℕ) → is_chosen (decision_of t.domains e) ≡ true → is_chosen (decision_of after.tree.domains e) ≡ true =
    λ e c. ap (λ (u : TreeFacts). is_chosen (decision_of u.domains e)) (sym a.tree) ∙ (ap is_chosen (decision_acted t n e (kind_of deed)) ∙ c) in
    elim (stands t.nodes i n deed a.there k x (ap (λ (u : TreeFacts). slice_get u.nodes k) a.tree ∙ read)) [
      | inl own ↦
          kept x.domain (subst (λ e. is_chosen (decision_of t.domains e) ≡ true) (ap (λ (z : NodeFacts). z.domain) own.1)
          (left i n a.there (ap (λ (z : NodeFacts). z.is_left_out) own.1 ∙ out)))
      | inr rest ↦ elim rest [
        | inl other ↦ kept x.domain (left k x other.1 out)
        | inr new ↦ absurd (let bad : false ≡ true = ap (λ (z : NodeFacts). z.is_left_out) new.3 ∙ out in cc)
      ]
    ]

-- the root of a domain stands among the roots
root_listed : (i m : ℕ) (nodes : List NodeFacts) (n : NodeFacts) → slice_get nodes m ≡ Some n → n.domain ≡ i + m → (j : ℕ) × (slice_get (roots_from i nodes) j ≡ Some (i + m))
root_listed i m [] n at own = absurd (cc)
root_listed i zero (x ∷ nodes) n at own =
    let z : i + 0 ≡ i = omega arith in
    let home : x.domain ≡ i = ap (λ (y : NodeFacts). y.domain) (same_Some x n at) ∙ (own ∙ z) in
    let t : (x.domain == i) ≡ true = search (rules, tests, home) in
    (0, ap (λ b. slice_get (if b then i ∷ roots_from (i + 1) nodes else roots_from (i + 1) nodes) 0) t ∙ ap Some (sym z))
root_listed i (suc m) (x ∷ nodes) n at own =
    let z : (i + 1) + m ≡ i + suc m = omega arith in
    let (j, here) = root_listed (i + 1) m nodes n at (own ∙ sym z) in by (x.domain == i) j (here ∙ ap Some z) where
      by : (b : Bool) (j : ℕ) → slice_get (roots_from (i + 1) nodes) j ≡ Some (i + suc m)
          → (j : ℕ) × (slice_get (if b then i ∷ roots_from (i + 1) nodes else roots_from (i + 1) nodes) j ≡ Some (i + suc m))
      by true j here = (suc j, here)
      by false j here = (j, here)

-- a domain that is listed is decided as the decision says
decided_here : (ds : List Domain) (r j : ℕ) (x : Decision) → slice_get (map (λ (d : Domain). d.root) ds) j ≡ Some r → decision_of (map (decided_domain r x) ds) r ≡ x
decided_here [] r j x at = absurd (cc)
decided_here (d ∷ ds) r j x at = by j at (cases_eq d.root r) (λ k here. decided_here ds r k x here) where
  by : (j : ℕ) → slice_get (map (λ (d : Domain). d.root) (d ∷ ds)) j ≡ Some r → ((d.root ≡ r) ⊎ (d.root ≢ r))
      → ((k : ℕ) → slice_get (map (λ (d : Domain). d.root) ds) k ≡ Some r → decision_of (map (decided_domain r x) ds) r ≡ x) → decision_of (map (decided_domain r x) (d ∷ ds)) r ≡ x
  by j at (inl same) rest = let s : (d.root == r) ≡ true = search (rules, tests, same) in rw (s, s) refl
  by zero at (inr other) rest = absurd (other (same_Some d.root r at))
  by (suc k) at (inr other) rest = let s : (d.root == r) ≡ false = search (rules, tests, other) in rw (s, s) (rest k at)

module _ (t : TreeFacts) (r : ℕ) (left : LeftOutAreChosen t) (domains : AreDomains t) (has : HasDomain t.nodes r) (undecided : is_undecided (decision_of t.domains r) ≡ true) where
  chosen_now : (cs : List ℕ) → is_chosen (decision_of (decided t r (Some cs)).domains r) ≡ true
  chosen_now cs =
      let (n, at, own) = there (λ (n : NodeFacts). n.domain ≡ r) (slice_get t.nodes r) has in
      let z : r ≡ 0 + r = omega arith in
      let (j, here) = root_listed 0 r t.nodes n at (own ∙ z) in
      ap is_chosen (decided_here t.domains r j Chosen (ap (λ xs. slice_get xs j) domains ∙ (here ∙ ap Some (sym z))))

  -- a domain with a node that was left out isn't undecided
  away : (k : ℕ) (n : NodeFacts) → slice_get t.nodes k ≡ Some n → n.is_left_out ≡ true → n.domain ≢ r
  away k n at out = λ same. chosen_not_undecided (decision_of t.domains r) (ap (λ e. is_chosen (decision_of t.domains e)) (sym same) ∙ left k n at out) undecided

  -- by a decision of a domain that is undecided
  pub decided_left_out : (choices : Option (List ℕ)) → LeftOutAreChosen (decided t r choices)
  decided_left_out None k y read out = ap is_chosen (decision_by t r y.domain None (away k y read out)) ∙ left k y read out
  decided_left_out (Some cs) k y read out = elim (cases_eq y.domain r) [
    | inl same ↦ ap (λ e. is_chosen (decision_of (decided t r (Some cs)).domains e)) same ∙ chosen_now cs
    | inr other ↦
        let (x, at, alike) = (decided_alike t r (Some cs)).back k y read in
        let was = sym (kept_by t r (Some cs) k x y at read (λ e. other (sym alike.1 ∙ e))) ∙ out in
        ap is_chosen (decision_by t r y.domain (Some cs) other) ∙ (ap (λ e. is_chosen (decision_of t.domains e)) (sym alike.1) ∙ left k x at was)
  ]

-- no node is left out of the first tree
pub first_left_out : LeftOutAreChosen first_tree
first_left_out zero n at out = absurd (let bad : false ≡ true = ap (λ (z : NodeFacts). z.is_left_out) (same_Some first_node n at) ∙ out in cc)
first_left_out (suc k) n at out = absurd (cc)
