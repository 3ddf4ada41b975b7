-- The paths of nodes of two trees, step by step up to their roots.
use Rattle.std.proofs.Common.{◌≡◌, ◌↔◌, ◌≢◌, ℕ, IsTrue, Bool, true, false, List, [], ◌∷◌, ◌++◌, length, Option, Some, None, is_some, not, slice_get, refl, sym, ◌∙◌, ap, subst, arith, length-append}
use Rattle.std.specs.Prelude.{option_map}
use Rattle.std.proofs.lemmas.Option.{same_Some, slice_get_within}
use Rattle.negotiation_inputs.specs.Participant.{Participant}
use Rattle.sysmem_tree.specs.declared.node.Birth.{Birth}
use Rattle.sysmem_tree.specs.declared.state.NodeKind.{NodeKind}
use Rattle.sysmem_tree.specs.Domain.{TreeFacts}
use Rattle.sysmem_tree.specs.Members.{shown_at}
use Rattle.sysmem_tree.specs.Node.{NodeFacts}
use Rattle.sysmem_tree.specs.Shape.{Member, by_path}
use Rattle.sysmem_tree.specs.Nodes.{IsTree}
use Rattle.sysmem_tree.specs.Path.{path_of}
use Rattle.sysmem_tree.proofs.nodes.Kids.{parent_of}
use Rattle.sysmem_tree.proofs.histories.Logs.{last_same}
use Rattle.sysmem_tree.proofs.steps.Steps.{led_kid, path_is, path_leads, no_step}
use Rattle.sysmem_tree.proofs.nodes.Ways.{root_alone}

-- a node's path is its parent's, and behind it which child it is
path_up : (nodes : List NodeFacts) → IsTree nodes → (k : ℕ) (n : NodeFacts) (b : Birth) → slice_get nodes k ≡ Some n → n.birth ≡ Some b
    → path_of nodes k ≡ path_of nodes b.parent ++ b.ordinal ∷ []
path_up nodes tree k n b here is =
    let older = parent_of nodes tree k n b here is in
    let leads = path_leads nodes tree b.parent (omega (arith, older, slice_get_within nodes k n here)) in
    path_is nodes tree (path_of nodes b.parent ++ b.ordinal ∷ []) k (led_kid nodes tree (path_of nodes b.parent) b.parent k n b leads here is refl)

path_top : (nodes : List NodeFacts) → IsTree nodes → (k : ℕ) (n : NodeFacts) → slice_get nodes k ≡ Some n → n.birth ≡ None → path_of nodes k ≡ []
path_top nodes tree k n here is = path_is nodes tree [] k (ap (λ j. Some j) (sym (root_alone nodes k n tree here is)))

module _ (xs ys : List NodeFacts) (own : IsTree xs) (other : IsTree ys) (i j : ℕ) (n m : NodeFacts) (here : slice_get xs i ≡ Some n) (there : slice_get ys j ≡ Some m) where
  -- one path, before a step up and after it, where both are the same child
  pub same_up : (a b : Birth) → n.birth ≡ Some a → m.birth ≡ Some b → a.ordinal ≡ b.ordinal → (path_of xs a.parent ≡ path_of ys b.parent) ↔ (path_of xs i ≡ path_of ys j)
  same_up a b is its same =
      let up = path_up xs own i n a here is in
      let up' = path_up ys other j m b there its in (
        λ e. up ∙ (ap (λ p. p ++ a.ordinal ∷ []) e ∙ (ap (λ (o : ℕ). path_of ys b.parent ++ o ∷ []) same ∙ sym up')),
        λ e. (last_same (path_of xs a.parent) (path_of ys b.parent) a.ordinal b.ordinal (sym up ∙ (e ∙ up'))).0,
      )

  -- as children of different ordinals they have different ones
  pub other_child : (a b : Birth) → n.birth ≡ Some a → m.birth ≡ Some b → a.ordinal ≢ b.ordinal → path_of xs i ≢ path_of ys j
  other_child a b is its apart e =
      apart ((last_same (path_of xs a.parent) (path_of ys b.parent) a.ordinal b.ordinal (sym (path_up xs own i n a here is) ∙ (e ∙ path_up ys other j m b there its))).1)

  -- a root's path is the other's exactly where that is a root
  pub at_top : (t : Bool) → n.birth ≡ None → not t ≡ is_some m.birth → IsTrue t ↔ (path_of xs i ≡ path_of ys j)
  at_top t is test = by t test m.birth refl where
    by : (t : Bool) → not t ≡ is_some m.birth → (o : Option Birth) → m.birth ≡ o → IsTrue t ↔ (path_of xs i ≡ path_of ys j)
    by true test None its = (λ _. path_top xs own i n here is ∙ sym (path_top ys other j m there its), λ _. refl)
    by false test None its = absurd (let no : true ≡ false = test ∙ ap is_some its in cc)
    by true test (Some b) its = absurd (let no : false ≡ true = test ∙ ap is_some its in cc)
    by false test (Some b) its = (
      λ no. absurd (cc),
      λ e. absurd (let long = ap length (sym (path_up ys other j m b there its) ∙ (sym e ∙ path_top xs own i n here is)) in omega (arith, long, length-append (path_of ys b.parent) (b.ordinal ∷ []))),
    )

-- what is shown of nodes is the same where their paths, their kinds and their constraints are
abbrev made : List ℕ → NodeKind → Option Participant → Member
made path kind constraints = record { path = path; kind = kind; constraints = constraints }

module _ (xs ys : List NodeFacts) (i j : ℕ) (n m : NodeFacts) (here : slice_get xs i ≡ Some n) (there : slice_get ys j ≡ Some m) where
  own : shown_at xs i ≡ Some (made (path_of xs i) n.state.kind n.constraints)
  own = ap (option_map (by_path i (path_of xs i))) here

  other : shown_at ys j ≡ Some (made (path_of ys j) m.state.kind m.constraints)
  other = ap (option_map (by_path j (path_of ys j))) there

  pub from_shown : shown_at xs i ≡ shown_at ys j → (path_of xs i ≡ path_of ys j) × ((n.state.kind ≡ m.state.kind) × (n.constraints ≡ m.constraints))
  from_shown e =
      let same : made (path_of xs i) n.state.kind n.constraints ≡ made (path_of ys j) m.state.kind m.constraints = same_Some _ _ (sym own ∙ (e ∙ other)) in
      (ap (λ (x : Member). x.path) same, (ap (λ (x : Member). x.kind) same, ap (λ (x : Member). x.constraints) same))

  pub to_shown : path_of xs i ≡ path_of ys j → (n.state.kind ≡ m.state.kind) × (n.constraints ≡ m.constraints) → shown_at xs i ≡ shown_at ys j
  to_shown path alike =
      own ∙ (ap (λ (p : List ℕ). Some (made p n.state.kind n.constraints)) path
      ∙ (ap (λ (k : NodeKind). Some (made (path_of ys j) k n.constraints)) alike.0
      ∙ (ap (λ (o : Option Participant). Some (made (path_of ys j) m.state.kind o)) alike.1 ∙ sym other)))

-- a test of two lists of nodes by numbers, read through what stands for them
pub seen_both : (F : List NodeFacts → ℕ → List NodeFacts → ℕ → Type 0) (x : Bool) (ns ms : List NodeFacts) (t u a b : TreeFacts) (i k j l : ℕ) → IsTrue x ↔ F ns i ms j
    → ns ≡ t.nodes → ms ≡ u.nodes → t ≡ a → u ≡ b → i ≡ k → j ≡ l → IsTrue x ↔ F a.nodes k b.nodes l
seen_both F x ns ms t u a b i k j l is own other same same' one two =
    subst (λ (z : ℕ). IsTrue x ↔ F a.nodes k b.nodes z) two
    (subst (λ (z : ℕ). IsTrue x ↔ F a.nodes z b.nodes j) one
    (subst (λ (z : List NodeFacts). IsTrue x ↔ F a.nodes i z j) (other ∙ ap (λ (z : TreeFacts). z.nodes) same')
    (subst (λ (z : List NodeFacts). IsTrue x ↔ F z i ms j) (own ∙ ap (λ (z : TreeFacts). z.nodes) same) is)))
