-- The tree after a decision, as it is written.
use Rattle.std.proofs.Common.{◌≡◌, ◌<◌, ◌==◌, ℕ, Bool, true, false, List, Option, Some, None, length, map, get_or, slice_get, sym, ◌∙◌, ap, subst}
use Rattle.std.specs.List.{list_any}
use Rattle.std.proofs.lemmas.Option.{slice_get_within}
use Rattle.sysmem_tree.specs.declared.domain.Decision.TheVariants.{Chosen, NoneChosen}
use Rattle.sysmem_tree.specs.declared.domain.Domain.{Domain}
use Rattle.sysmem_tree.specs.Domain.{TreeFacts, HasDomain, IsSoundTree, decision_of, is_ready, is_undecided}
use Rattle.sysmem_tree.specs.Node.{NodeFacts}
use Rattle.sysmem_tree.specs.Shape.{members_of}
use Rattle.sysmem_tree.specs.Tree.{decided, decided_domain, left_out_but}
use Rattle.sysmem_tree.proofs.histories.Entries.{decided_sound}
use Rattle.sysmem_tree.proofs.nodes.Places.{there}

-- a domain's root is one of the nodes that were read
pub root_within : (t u : TreeFacts) (r s : ℕ) (seen : List NodeFacts) → t ≡ u → r ≡ s → HasDomain u.nodes s → seen ≡ t.nodes → r < length seen
root_within t u r s seen whole number has same =
    let (n, here, _) = there (λ (n : NodeFacts). n.domain ≡ s) (slice_get u.nodes s) has in
    let within : s < length u.nodes = slice_get_within u.nodes s n here in
    subst (λ xs. r < length xs) (sym same) (subst (λ (z : TreeFacts). r < length z.nodes) (sym whole) (subst (λ i. i < length u.nodes) (sym number) within))

module _ (t u : TreeFacts) (r s : ℕ) (sound : IsSoundTree t) (whole : t ≡ u) (number : r ≡ s) (has : HasDomain u.nodes s) (ready : is_ready u s ≡ true)
    (undecided : is_undecided (decision_of u.domains s) ≡ true) where
  stays_sound : (choices : Option (List ℕ)) → IsSoundTree (decided t r choices)
  stays_sound choices = decided_sound t r choices sound
      (subst (λ (z : TreeFacts). HasDomain z.nodes r) (sym whole) (subst (λ i. HasDomain u.nodes i) (sym number) has))
      (ap (λ (z : TreeFacts). is_ready z r) whole ∙ (ap (is_ready u) number ∙ ready))
      (ap (λ (z : TreeFacts). is_undecided (decision_of z.domains r)) whole ∙ (ap (λ i. is_undecided (decision_of u.domains i)) number ∙ undecided))

  -- for none
  pub none_sound : (seen new ds : List Domain) → seen ≡ t.domains → new ≡ map (decided_domain r NoneChosen) seen → ds ≡ new → IsSoundTree (record { nodes = t.nodes; domains = ds })
  none_sound seen new ds same written put =
      subst (λ zs. IsSoundTree (record { nodes = t.nodes; domains = zs })) (sym (put ∙ (written ∙ ap (map (decided_domain r NoneChosen)) same))) (stays_sound None)

  -- for a selection
  pub chosen_sound : (cs : List ℕ) (marks : List Bool) (read old left ns : List NodeFacts) (seen new ds : List Domain) → read ≡ t.nodes
      → ((k : ℕ) → get_or marks k false ≡ list_any (λ m. m == k) (members_of read r cs)) → old ≡ t.nodes
      → ((numbers : List ℕ) → ((k : ℕ) → get_or marks k false ≡ list_any (λ m. m == k) numbers) → left ≡ left_out_but numbers r 0 old) → ns ≡ left
      → seen ≡ t.domains → new ≡ map (decided_domain r Chosen) seen → ds ≡ new → IsSoundTree (record { nodes = ns; domains = ds })
  chosen_sound cs marks read old left ns seen new ds is marked was leaves put_nodes same written put =
      let nodes : ns ≡ left_out_but (members_of t.nodes r cs) r 0 t.nodes =
      put_nodes ∙ (leaves (members_of read r cs) marked ∙ (ap (λ xs. left_out_but (members_of xs r cs) r 0 old) is ∙ ap (left_out_but (members_of t.nodes r cs) r 0) was)) in
      let domains : ds ≡ map (decided_domain r Chosen) t.domains = put ∙ (written ∙ ap (map (decided_domain r Chosen)) same) in
      subst (λ xs. IsSoundTree (record { nodes = xs; domains = ds })) (sym nodes)
      (subst (λ zs. IsSoundTree (record { nodes = left_out_but (members_of t.nodes r cs) r 0 t.nodes; domains = zs })) (sym domains) (stays_sound (Some cs)))
