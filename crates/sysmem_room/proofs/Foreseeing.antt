-- What a book can refuse an action on a handle's own node for, where the handle knows no verdict and foresaw no refusal.
use Rattle.std.proofs.Common.{◌≡◌, ℕ, Bool, true, false, not, ◌&&◌, ◌||◌, ◌+◌, Option, Some, None, Result, Ok, Err, length, slice_get, refl, ◌∙◌, ap, subst}
use Rattle.std.specs.Prelude.{IfSome, is_some, nat_le, if◌then◌else◌}
use Rattle.sysmem_tree.specs.declared.action.ActionKind.{ActionKind}
use Rattle.sysmem_tree.specs.declared.refusal.Refusal.{Refusal}
use Rattle.sysmem_tree.specs.declared.refusal.Refusal.TheVariants.{DomainFailed, NotSelected, WrongState, NoChildren, TooManyNodes}
use Rattle.sysmem_tree.specs.declared.state.NodeState.{NodeState}
use Rattle.sysmem_tree.specs.ActionKind.{Deed, ends_node, kind_of}
use Rattle.sysmem_tree.specs.Domain.{TreeFacts}
use Rattle.sysmem_tree.specs.Node.{NodeFacts}
use Rattle.sysmem_tree.specs.Nodes.{HasNode}
use Rattle.sysmem_tree.specs.Table.{allows, makes, wants_child}
use Rattle.sysmem_tree.specs.Tree.{applied, applied_at, is_barred, has_room}
use Rattle.node_limits.specs.TreeRefusals.{state_refusal}
use Rattle.sysmem_room.specs.Refusals.{IsUnforeseen}
use Rattle.node_limits.proofs.CallerLemmas.{not_past}

-- which of its refusals a tree answers, where the node's state brings none
held_back : {A : Type 0} (kind : ActionKind) (barred out allowed wants full : Bool) (x : A) (r : Refusal) → (barred ≡ true → ends_node kind ≡ false) → (out ≡ true → ends_node kind ≡ false)
    → allowed ≡ true → wants ≡ false → (full ≡ true → is_some (makes kind) ≡ true)
    → ◌≡◌ {A = Result A Refusal} (if barred then Err DomainFailed else if out then Err NotSelected else if not allowed then Err WrongState else if wants then Err NoChildren else if full then Err TooManyNodes else Ok x) (Err r)
    → IsUnforeseen None kind r
held_back {A} kind true out allowed wants full x r b o a w f is = let same : DomainFailed ≡ r = cc in subst (IsUnforeseen None kind) same (b refl)
held_back {A} kind false true allowed wants full x r b o a w f is = let same : NotSelected ≡ r = cc in subst (IsUnforeseen None kind) same (o refl)
held_back {A} _ false false false wants full x r b o a w f is = absurd (cc)
held_back {A} _ false false true true full x r b o a w f is = absurd (cc)
held_back {A} kind false false true false true x r b o a w f is = let same : TooManyNodes ≡ r = cc in subst (IsUnforeseen None kind) same (f refl)
held_back {A} _ false false true false false x r b o a w f is = absurd (cc)

stays : (b e : Bool) → (b && not e) ≡ true → e ≡ false
stays true true is = absurd (cc)
stays true false is = refl
stays false e is = absurd (cc)

pub makes_one : (m room : Bool) → not (not m || room) ≡ true → m ≡ true
makes_one true room is = refl
makes_one false room is = absurd (cc)

-- a log's state brings no refusal
pub log_allows : (s : NodeState) (kind : ActionKind) → state_refusal s kind ≡ None → (allows kind s ≡ true) × (wants_child kind s ≡ false)
log_allows s kind none = by (allows kind s) (wants_child kind s) none where
  by : (a w : Bool) → ◌≡◌ {A = Option Refusal} (if not a then Some WrongState else if w then Some NoChildren else None) None → (a ≡ true) × (w ≡ false)
  by true false is = (refl, refl)
  by true true is = absurd (cc)
  by false w is = absurd (cc)

refused_at : (t : TreeFacts) (i : ℕ) (deed : Deed) (r : Refusal) (s : NodeState) (o : Option NodeFacts) → slice_get t.nodes i ≡ o → HasNode t.nodes i → IfSome o (λ n. n.state ≡ s)
    → state_refusal s (kind_of deed) ≡ None → applied_at t i deed o ≡ Err r → IsUnforeseen None (kind_of deed) r
refused_at t i deed r s None here there same none is = absurd (not_past t.nodes i there here)
refused_at t i deed r s (Some n) here there same none is =
    let (allowed, content) = log_allows n.state (kind_of deed) (ap (λ x. state_refusal x (kind_of deed)) same ∙ none) in
    held_back (kind_of deed) (is_barred t n.domain && not (ends_node (kind_of deed))) (n.is_left_out && not (ends_node (kind_of deed))) (allows (kind_of deed) n.state)
    (wants_child (kind_of deed) n.state) (not (has_room t.nodes (kind_of deed))) _ r (stays (is_barred t n.domain) (ends_node (kind_of deed))) (stays n.is_left_out (ends_node (kind_of deed)))
    allowed content (makes_one (is_some (makes (kind_of deed))) (nat_le (length t.nodes + 1) 128)) is

-- what the tree refuses an action on a node for that stands as a log says, which brings no refusal itself
pub refused_unforeseen : (t : TreeFacts) (i : ℕ) (deed : Deed) (r : Refusal) (s : NodeState) → HasNode t.nodes i → IfSome (slice_get t.nodes i) (λ n. n.state ≡ s)
    → state_refusal s (kind_of deed) ≡ None → applied t i deed ≡ Err r → IsUnforeseen None (kind_of deed) r
refused_unforeseen t i deed r s there same none is = refused_at t i deed r s (slice_get t.nodes i) refl there same none is
