-- What is asked of nodes by their numbers is asked of the shape's members.
use Rattle.std.proofs.Common.{◌≡◌, ◌<◌, ◌≤◌, ℕ, List, [], ◌∷◌, Option, Some, None, length, map, slice_get, refl, sym, ◌∙◌, ap}
use Rattle.std.specs.Prelude.{IfSome, IsSome, option_map, option_and_then, IsSomeAnd}
use Rattle.std.specs.List.{filter_map, cons_option}
use Rattle.std.proofs.lemmas.Option.{slice_get_within}
use Rattle.verdict_claims.specs.Members.{participants, members_at}
use Rattle.verdict_claims.specs.Asked.{asks_at, asked_in}
use Rattle.search_questions.proofs.Shapes.{member_asks, prefix_of_numbers, same_settled, same_choices, few_choices}
use Rattle.sysmem_tree.specs.Domain.{HasDomain}
use Rattle.sysmem_tree.specs.Path.{path_of}
use Rattle.sysmem_tree.specs.Forest.{Forest, choices, settled, first_group}
use Rattle.sysmem_tree.specs.Node.{NodeFacts}
use Rattle.sysmem_tree.specs.Nodes.{IsTree}
use Rattle.sysmem_tree.specs.Selection.{after, IsPrefix}
use Rattle.sysmem_tree.specs.Shape.{Member, by_number, by_path, forest_of, shape_of}
use Rattle.list_lemmas.proofs.CallerLemmas.{of_some}

pub if_some : {X : Type 0} (P : X → Type 0) (o : Option X) → ((x : X) → o ≡ Some x → P x) → IfSome o P
if_some P None h = tt
if_some P (Some x) h = h x refl

pub some_of : {X : Type 0} (o : Option X) → IsSome o → (x : X) × (o ≡ Some x)
some_of None h = absurd (cc)
some_of (Some x) h = (x, refl)

-- taken of a list is taken of what is made of it
taken_mapped : {X Y : Type 0} (f : X → Option Y) (xs : List X) → filter_map f xs ≡ filter_map (λ o. o) (map f xs)
taken_mapped f [] = refl
taken_mapped f (x ∷ xs) = ap (cons_option (f x)) (taken_mapped f xs)

-- what the accepted ask, by their numbers
pub accepted_asked : (nodes : List NodeFacts) (ns : List ℕ) → participants (members_at nodes ns) ≡ asked_in nodes ns
accepted_asked nodes [] = refl
accepted_asked nodes (n ∷ ns) = by (slice_get nodes n) (accepted_asked nodes ns) where
  by : (o : Option NodeFacts) → participants (members_at nodes ns) ≡ asked_in nodes ns
      → participants (cons_option (option_map (by_path n (path_of nodes n)) o) (members_at nodes ns)) ≡ cons_option (option_and_then (λ (x : NodeFacts). x.constraints) o) (asked_in nodes ns)
  by None h = h
  by (Some x) h = ap (cons_option x.constraints) h

-- the root of a domain is one of the nodes
pub root_there : (nodes : List NodeFacts) (r : ℕ) → HasDomain nodes r → r < length nodes
root_there nodes r h = by (slice_get nodes r) refl h where
  by : (o : Option NodeFacts) → slice_get nodes r ≡ o → IsSomeAnd o (λ n. n.domain ≡ r) → r < length nodes
  by None is h = absurd h
  by (Some n) is h = slice_get_within nodes r n is

module _ (nodes : List NodeFacts) (r : ℕ) (cs : List ℕ) (tree : IsTree nodes) (there : r < length nodes) (prefix : IsPrefix (shape_of nodes r) cs) where
  -- what choices leave by numbers
  pub numbers_left : (e : Forest ℕ) × (after (forest_of by_number nodes r []) cs ≡ Some e)
  numbers_left = some_of (after (forest_of by_number nodes r []) cs) (prefix_of_numbers nodes r cs prefix)

  -- the children of the group that is next
  pub children_told : (next : Option (ℕ × ℕ)) → IfSome (after (forest_of by_number nodes r []) cs) (λ e. next ≡ first_group e)
      → IfSome (after (shape_of nodes r) cs) (λ d. option_map length (choices d) ≡ option_map (λ (g : ℕ × ℕ). g.1) next)
  children_told next is = if_some _ (after (shape_of nodes r) cs) (λ d two.
      let (e, one) = numbers_left in
      same_choices nodes r cs e d one two ∙ ap (option_map (λ (g : ℕ × ℕ). g.1)) (sym (of_some (λ x. next ≡ first_group x) _ e one is)))

  pub few_told : (group children : ℕ) → IfSome (after (forest_of by_number nodes r []) cs) (λ e. Some (group, children) ≡ first_group e) → (length cs < 128) × (children ≤ 128)
  few_told group children is =
      let (e, one) = numbers_left in
      few_choices nodes r cs e group children tree there one (sym (of_some (λ x. Some (group, children) ≡ first_group x) _ e one is))

-- what is settled asks the same by numbers and by the shape
pub same_asked : (nodes : List NodeFacts) (r : ℕ) (cs : List ℕ) (e : Forest ℕ) (d : Forest Member) → after (forest_of by_number nodes r []) cs ≡ Some e → after (shape_of nodes r) cs ≡ Some d
    → asked_in nodes (settled e) ≡ participants (settled d)
same_asked nodes r cs e d one two = taken_mapped (asks_at nodes) (settled e) ∙ (ap (filter_map (λ o. o)) (same_settled nodes r cs e d one two) ∙ sym (taken_mapped member_asks (settled d)))
