-- What nodes ask, and what their members do.
use Rattle.std.proofs.Common.{◌≡◌, ◌≤◌, ℕ, List, [], ◌∷◌, Option, Some, None, All, length, slice_get, refl, ◌∙◌, ap, subst, arith}
use Rattle.std.specs.Prelude.{IsPermutation, option_map, option_and_then, unwrap_or}
use Rattle.std.specs.List.{cons_option}
use Rattle.negotiation_inputs.specs.Platform.{PlatformFacts}
use Rattle.sysmem_tree.specs.Domain.{HasDomain}
use Rattle.sysmem_tree.specs.Forest.{Forest, settled}
use Rattle.sysmem_tree.specs.Laws.{AreOneForest, OnePath}
use Rattle.sysmem_tree.specs.Node.{NodeFacts}
use Rattle.sysmem_tree.specs.Nodes.{HasNode, IsTree}
use Rattle.sysmem_tree.specs.Path.{path_of}
use Rattle.sysmem_tree.specs.Selection.{after}
use Rattle.sysmem_tree.specs.Shape.{Member, by_path, members_of, shape_of}
use Rattle.verdict_claims.specs.Asked.{asks_at, asked_in}
use Rattle.verdict_claims.specs.Base.{BaseFacts, IsGivenBase}
use Rattle.verdict_claims.specs.Members.{members_at, participants}
use Rattle.list_lemmas.proofs.CallerLemmas.{taken_in_order}
use Rattle.verdict_claims.proofs.Rolls.{asked_settled, root_within}
use Rattle.sysmem_tree.proofs.CallerLemmas.{few_different, named_there}

-- nodes that choices settle, in any order, ask what the settled members ask
pub asked_of_settled : (nodes : List NodeFacts) (tree : IsTree nodes) (law : OnePath) (r : ℕ) → HasDomain nodes r → AreOneForest nodes r → (cs ns : List ℕ) → IsPermutation ns (members_of nodes r cs)
    → (d : Forest Member) → after (shape_of nodes r) cs ≡ Some d → IsPermutation (asked_in nodes ns) (participants (settled d))
asked_of_settled nodes tree law r has one cs ns order d leads =
    subst (IsPermutation (asked_in nodes ns)) (asked_settled nodes tree law r (root_within nodes r has) one cs ∙ ap (λ o. participants (unwrap_or (option_map settled o) [])) leads)
    (taken_in_order (asks_at nodes) ns (members_of nodes r cs) order)

-- what those accepted before ask, by their numbers
pub accepted_asked : (nodes : List NodeFacts) (ns : List ℕ) → participants (members_at nodes ns) ≡ asked_in nodes ns
accepted_asked nodes [] = refl
accepted_asked nodes (n ∷ ns) = by (slice_get nodes n) (accepted_asked nodes ns) where
  by : (o : Option NodeFacts) → participants (members_at nodes ns) ≡ asked_in nodes ns
      → participants (cons_option (option_map (by_path n (path_of nodes n)) o) (members_at nodes ns)) ≡ cons_option (option_and_then (λ (x : NodeFacts). x.constraints) o) (asked_in nodes ns)
  by None h = h
  by (Some x) h = ap (cons_option x.constraints) h

-- they are nodes of the tree, and few
pub few_before : (platform : PlatformFacts) (nodes : List NodeFacts) (domain : ℕ) (base : Option BaseFacts) (b : BaseFacts) → length nodes ≤ 128 → IsGivenBase platform nodes domain base → base ≡ Some b
    → All (HasNode nodes) b.accepted × (length b.accepted ≤ 128)
few_before platform nodes domain base b few given some =
    let is = (subst (IsGivenBase platform nodes domain) some given).1 in
    let there = named_there nodes _ b.accepted is.elsewhere in
    let less = few_different b.accepted (length nodes) is.once there in (there, omega (arith, less, few))
