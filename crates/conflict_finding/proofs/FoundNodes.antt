-- Who is settled, as a finder is given them, and what it was given.
use Rattle.std.proofs.Common.{◌≡◌, ◌≢◌, ℕ, Bool, true, false, List, [], length, Option, Some, None, refl, sym, ◌∙◌, ap, subst, arith}
use Rattle.std.specs.Prelude.{All, AllPairs, is_some, option_map, IsSome, IfSome, IfOk, Ok, Err, Result, is_none, not}
use Rattle.std.proofs.lemmas.Option.{same_Some}
use Rattle.sysmem_tree.specs.Domain.{HasDomain}
use Rattle.sysmem_tree.specs.Forest.{Forest, choices, first_group, relabel}
use Rattle.sysmem_tree.specs.Laws.{AreOneForest, OnePath}
use Rattle.sysmem_tree.specs.LayoutLaws.{Both, LeaveOneForest, number as one_number, member as one_member}
use Rattle.sysmem_tree.specs.Members.{AreItsNodes}
use Rattle.sysmem_tree.specs.Node.{NodeFacts}
use Rattle.sysmem_tree.specs.Nodes.{IsTree}
use Rattle.sysmem_tree.specs.Selection.{after}
use Rattle.sysmem_tree.specs.Shape.{Member, by_number, forest_of, shape_of, members_of, participants_of}
use Rattle.sysmem_tree.proofs.CallerLemmas.{first_many}
use Rattle.negotiation_inputs.specs.Platform.{PlatformFacts}
use Rattle.verdict_claims.specs.Base.{BaseFacts, IsBase, IsElsewhere, IsGivenBase}
use Rattle.conflict_finding.specs.Found.{AreSettledAt}
use Rattle.verdict_claims.proofs.SettledNodes.{all_there, few_there, stand_for}

-- the participants that choices settle are settled there
pub settled_found : (nodes : List NodeFacts) (tree : IsTree nodes) (law : OnePath) (r : ℕ) (has : HasDomain nodes r) (one : AreOneForest nodes r) (cs : List ℕ) (own : AreItsNodes nodes r (members_of nodes r cs))
    (accepted : List ℕ) (else' : All (IsElsewhere nodes r) accepted) (once : AllPairs (λ i j. i ≢ j) accepted) (d : Forest Member) (leads : after (shape_of nodes r) cs ≡ Some d)
    (found : List ℕ) → found ≡ participants_of nodes r cs → AreSettledAt nodes d accepted found
settled_found nodes tree law r has one cs own accepted else' once d leads found is = subst (AreSettledAt nodes d accepted) (sym is) (record {
  there = all_there nodes tree law r has one cs own accepted else' once;
  few = few_there nodes tree law r has one cs own accepted else' once;
  stand = stand_for nodes tree law r has one cs own accepted else' once d leads;
})

pub if_ok : {X E : Type 0} (r : Result X E) (P Q : X → Type 0) → ((x : X) → P x → Q x) → IfOk r P → IfOk r Q
if_ok (Ok x) P Q more h = more x h
if_ok (Err e) P Q more h = tt

-- a prefix leads somewhere
pub led : {X : Type 0} (o : Option X) → IsSome o → (x : X) × (o ≡ Some x)
led None some = absurd (cc)
led (Some x) some = (x, refl)

-- those who are settled are as many in another name
pub found_at : (nodes : List NodeFacts) (d : Forest Member) (accepted found given : List ℕ) → given ≡ found → AreSettledAt nodes d accepted found → AreSettledAt nodes d accepted given
found_at nodes d accepted found given same settled' = subst (AreSettledAt nodes d accepted) (sym same) settled'

-- behind nobody
pub no_nodes : (P : ℕ → Type 0) → All P []
no_nodes P = λ k d less. absurd (omega (arith, less))

-- a base that is given is one
pub is_base : {B : Type 0} (f : B → BaseFacts) (o : Option B) (b : B) (platform : PlatformFacts) (nodes : List NodeFacts) (r : ℕ) → o ≡ Some b → IsGivenBase platform nodes r (option_map f o) → IsBase platform nodes r (f b)
is_base f o b platform nodes r is given = (subst (λ (x : Option BaseFacts). IsGivenBase platform nodes r x) (ap (option_map f) is) given).1

-- whether a group is left, by numbers and in the shape
same_some : {X Y : Type 0} (f : X → Y) (o : Option X) → is_some (option_map f o) ≡ is_some o
same_some f None = refl
same_some f (Some x) = refl

none_left : {X : Type 0} (o : Option X) (t : Bool) → is_some o ≡ not t → t ≡ is_none o
none_left None true is = refl
none_left None false is = absurd (cc)
none_left (Some x) true is = absurd (cc)
none_left (Some x) false is = refl

pub same_whole : (nodes : List NodeFacts) (r : ℕ) (cs : List ℕ) (one : LeaveOneForest nodes r cs) (d : Forest Member) → after (shape_of nodes r) cs ≡ Some d → (g : Option (ℕ × ℕ))
    → IfSome (after (forest_of by_number nodes r []) cs) (λ e. g ≡ first_group e) → (t : Bool) → is_some g ≡ not t → t ≡ is_none (choices d)
same_whole nodes r cs one d leads g next t is = by one.left one.numbers one.members one.group_number one.group_member where
  by : (o : Option (Forest Both)) → after (forest_of by_number nodes r []) cs ≡ option_map (relabel one_number) o → after (shape_of nodes r) cs ≡ option_map (relabel one_member) o
      → IfSome o (λ b. first_group (relabel one_number b) ≡ option_map (λ g. (one_number g.0, g.1)) (first_group b))
      → IfSome o (λ b. first_group (relabel one_member b) ≡ option_map (λ g. (one_member g.0, g.1)) (first_group b)) → t ≡ is_none (choices d)
  by None numbers members a b = (let e = sym leads ∙ members in absurd (cc))
  by (Some both) numbers members a b =
      let here : g ≡ first_group (relabel one_number both) = subst (λ o. IfSome o (λ e. g ≡ first_group e)) numbers next in
      let there : d ≡ relabel one_member both = same_Some d (relabel one_member both) (sym leads ∙ members) in
      none_left (choices d) t (sym (same_some length (choices d))
      ∙ (ap is_some (first_many d)
      ∙ (same_some (λ (p : Member × ℕ). p.1) (first_group d)
      ∙ (ap (λ f. is_some (first_group f)) there
      ∙ (ap is_some b ∙ (same_some (λ g. (one_member g.0, g.1)) (first_group both)
      ∙ (sym (same_some (λ g. (one_number g.0, g.1)) (first_group both)) ∙ (sym (ap is_some a) ∙ (ap is_some (sym here) ∙ is)))))))))
