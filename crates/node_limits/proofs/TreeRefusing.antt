-- What a tree refuses an action on one of its nodes for, by what became of the node's domain, its state, and the number of nodes.
use Rattle.std.proofs.Common.{◌≡◌, ◌⊎◌, ◌<◌, ◌≤◌, ◌+◌, List, length, nat_le, arith, inl, inr, ℕ, Bool, true, false, not, ◌&&◌, ◌||◌, Option, Some, None, Ok, Err, slice_get, refl, sym, ◌∙◌, ap, subst}
use Rattle.std.specs.Prelude.{IfSome, is_some, if◌then◌else◌}
use Rattle.std.proofs.lemmas.Bool.{le-leb, lt-leb}
use Rattle.std.specs.Result.{result_err}
use Rattle.sysmem_tree.specs.declared.action.ActionKind.{ActionKind}
use Rattle.sysmem_tree.specs.declared.domain.Decision.{Decision}
use Rattle.sysmem_tree.specs.declared.domain.Decision.TheVariants.{Undecided, Chosen, NoneChosen}
use Rattle.sysmem_tree.specs.declared.fate.Fate.TheVariants as fates
use Rattle.sysmem_tree.specs.declared.refusal.Refusal.{Refusal}
use Rattle.sysmem_tree.specs.declared.state.NodeState.{NodeState}
use Rattle.sysmem_tree.specs.declared.refusal.Refusal.TheVariants.{DomainFailed, NotSelected, WrongState, NoChildren, TooManyNodes}
use Rattle.sysmem_tree.specs.ActionKind.{Deed, ends_node, kind_of}
use Rattle.sysmem_tree.specs.Domain.{IsSoundTree, TreeFacts, decision_of, fate_by, fate_of, has_failed, is_chosen, is_none_chosen, is_selected}
use Rattle.sysmem_tree.specs.Node.{NodeFacts}
use Rattle.sysmem_tree.specs.Nodes.{HasNode}
use Rattle.sysmem_tree.specs.Table.{allows, makes, wants_child}
use Rattle.sysmem_tree.specs.Tree.{applied, applied_at, has_room, is_barred}
use Rattle.node_limits.specs.TreeRefusals.{fate_refusal, first_of, room_refusal, state_refusal}
use Rattle.node_limits.proofs.Within.{not_past}

-- of an action that doesn't end the node
abbrev fate_refuses : TreeFacts → NodeFacts → Option Refusal
fate_refuses t n = if is_barred t n.domain then Some DomainFailed else if n.is_left_out then Some NotSelected else None

stays_told : (t : TreeFacts) (n : NodeFacts) (act : ActionKind) (r : Option Refusal) → ends_node act ≡ false → r ≡ fate_refuses t n → r ≡ fate_refusal t n act
stays_told t n act r stays is = is ∙ sym (ap (λ (b : Bool). if b then None else fate_refuses t n) stays)

-- one that ends it isn't refused so
pub ends_unrefused : (t : TreeFacts) (o : Option NodeFacts) (act : ActionKind) → ends_node act ≡ true → IfSome o (λ n. None ≡ fate_refusal t n act)
ends_unrefused t None act ends = tt
ends_unrefused t (Some n) act ends = sym (ap (λ (b : Bool). if b then None else fate_refuses t n) ends)

-- there is no room for an action that makes a node where there are 128
pub no_room : (nodes : List NodeFacts) (act : ActionKind) → is_some (makes act) ≡ true → 128 ≤ length nodes → has_room nodes act ≡ false
no_room nodes act made many =
    let no : nat_le (length nodes + 1) 128 ≡ false = lt-leb (length nodes + 1) 128 (omega (arith, many)) in
    ap (λ (b : Bool). not b || nat_le (length nodes + 1) 128) made ∙ no

failed_bars : (t : TreeFacts) (d : ℕ) → fate_of t d ≡ fates.Failed → is_barred t d ≡ true
failed_bars t d is = by (has_failed t d) (decision_of t.domains d) is where
  by : (f : Bool) (x : Decision) → (if f then fates.Failed else fate_by x) ≡ fates.Failed → (f || is_none_chosen x) ≡ true
  by true x e = refl
  by false Undecided e = absurd (cc)
  by false Chosen e = absurd (cc)
  by false NoneChosen e = absurd (cc)

none_bars : (t : TreeFacts) (d : ℕ) → fate_of t d ≡ fates.NoneChosen → is_barred t d ≡ true
none_bars t d is = by (has_failed t d) (decision_of t.domains d) is where
  by : (f : Bool) (x : Decision) → (if f then fates.Failed else fate_by x) ≡ fates.NoneChosen → (f || is_none_chosen x) ≡ true
  by true x e = refl
  by false Undecided e = absurd (cc)
  by false Chosen e = absurd (cc)
  by false NoneChosen e = refl

chosen_bars_none : (t : TreeFacts) (d : ℕ) → fate_of t d ≡ fates.Chosen → (is_barred t d ≡ false) × (is_chosen (decision_of t.domains d) ≡ true)
chosen_bars_none t d is = by (has_failed t d) (decision_of t.domains d) is where
  by : (f : Bool) (x : Decision) → (if f then fates.Failed else fate_by x) ≡ fates.Chosen → ((f || is_none_chosen x) ≡ false) × (is_chosen x ≡ true)
  by true x e = absurd (cc)
  by false Undecided e = absurd (cc)
  by false Chosen e = (refl, refl)
  by false NoneChosen e = absurd (cc)

undecided_bars_none : (t : TreeFacts) (d : ℕ) → fate_of t d ≡ fates.Undecided → (is_barred t d ≡ false) × (is_chosen (decision_of t.domains d) ≡ false)
undecided_bars_none t d is = by (has_failed t d) (decision_of t.domains d) is where
  by : (f : Bool) (x : Decision) → (if f then fates.Failed else fate_by x) ≡ fates.Undecided → ((f || is_none_chosen x) ≡ false) × (is_chosen x ≡ false)
  by true x e = absurd (cc)
  by false Undecided e = (refl, refl)
  by false Chosen e = absurd (cc)
  by false NoneChosen e = absurd (cc)

barred_told : (t : TreeFacts) (n : NodeFacts) → is_barred t n.domain ≡ true → Some DomainFailed ≡ fate_refuses t n
barred_told t n is = sym (ap (λ (b : Bool). if b then Some DomainFailed else if n.is_left_out then Some NotSelected else None) is)

out_told : (t : TreeFacts) (n : NodeFacts) (b : Bool) → is_barred t n.domain ≡ false → n.is_left_out ≡ b → (if b then Some NotSelected else None) ≡ fate_refuses t n
out_told t n b free out =
    sym (ap (λ (x : Bool). if x then Some DomainFailed else if n.is_left_out then Some NotSelected else None) free ∙ ap (λ (x : Bool). if x then Some NotSelected else None) out)

-- and there is for one that makes none, and where there are fewer
pub makes_none : (nodes : List NodeFacts) (act : ActionKind) → is_some (makes act) ≡ false → has_room nodes act ≡ true
makes_none nodes act none = ap (λ (b : Bool). not b || nat_le (length nodes + 1) 128) none

pub has_place : (nodes : List NodeFacts) (act : ActionKind) → length nodes < 128 → has_room nodes act ≡ true
has_place nodes act few = by (is_some (makes act)) where
  yes : nat_le (length nodes + 1) 128 ≡ true
  yes = le-leb (length nodes + 1) 128 (omega (arith, few))

  by : (b : Bool) → (not b || nat_le (length nodes + 1) 128) ≡ true
  by true = yes
  by false = refl

-- the node of a domain that failed, or for which no settings were chosen
pub barred_refuses : (t : TreeFacts) (i d : ℕ) (act : ActionKind) → ends_node act ≡ false → IfSome (slice_get t.nodes i) (λ n. d ≡ n.domain)
    → (fate_of t d ≡ fates.Failed) ⊎ (fate_of t d ≡ fates.NoneChosen) → IfSome (slice_get t.nodes i) (λ n. Some DomainFailed ≡ fate_refusal t n act)
barred_refuses t i d act stays of is = by (slice_get t.nodes i) of is where
  by : (o : Option NodeFacts) → IfSome o (λ n. d ≡ n.domain) → (fate_of t d ≡ fates.Failed) ⊎ (fate_of t d ≡ fates.NoneChosen) → IfSome o (λ n. Some DomainFailed ≡ fate_refusal t n act)
  by None of is = tt
  by (Some n) of (inl failed) = stays_told t n act (Some DomainFailed) stays (barred_told t n (subst (λ x. is_barred t x ≡ true) of (failed_bars t d failed)))
  by (Some n) of (inr none) = stays_told t n act (Some DomainFailed) stays (barred_told t n (subst (λ x. is_barred t x ≡ true) of (none_bars t d none)))

-- of one that is undecided: nothing left it out
pub undecided_refuses : (t : TreeFacts) (i d : ℕ) (act : ActionKind) → ends_node act ≡ false → IsSoundTree t → IfSome (slice_get t.nodes i) (λ n. d ≡ n.domain) → fate_of t d ≡ fates.Undecided
    → IfSome (slice_get t.nodes i) (λ n. None ≡ fate_refusal t n act)
undecided_refuses t i d act stays sound of is = by (slice_get t.nodes i) refl of where
  by : (o : Option NodeFacts) → slice_get t.nodes i ≡ o → IfSome o (λ n. d ≡ n.domain) → IfSome o (λ n. None ≡ fate_refusal t n act)
  by None here of = tt
  by (Some n) here of =
      let (free, unchosen) = undecided_bars_none t n.domain (ap (fate_of t) (sym of) ∙ is) in
      stays_told t n act None stays (at n here free unchosen n.is_left_out refl) where
        at : (n : NodeFacts) → slice_get t.nodes i ≡ Some n → is_barred t n.domain ≡ false → is_chosen (decision_of t.domains n.domain) ≡ false → (b : Bool) → n.is_left_out ≡ b
            → None ≡ fate_refuses t n
        at n here free unchosen false e = out_told t n false free e
        at n here free unchosen true e = let chosen : is_chosen (decision_of t.domains n.domain) ≡ true = sound.left_out i n here e in absurd (cc (unchosen, chosen))

-- of one that was decided with settings: it is a member or left out
pub chosen_refuses : (t : TreeFacts) (i d : ℕ) (selected : Bool) (act : ActionKind) → ends_node act ≡ false → IfSome (slice_get t.nodes i) (λ n. d ≡ n.domain) → fate_of t d ≡ fates.Chosen
    → IfSome (slice_get t.nodes i) (λ n. selected ≡ is_selected t.domains n) → IfSome (slice_get t.nodes i) (λ n. (if selected then None else Some NotSelected) ≡ fate_refusal t n act)
chosen_refuses t i d selected act stays of is member = by (slice_get t.nodes i) of member where
  turned : (c b s : Bool) → c ≡ true → s ≡ (c && not b) → ◌≡◌ {A = Option Refusal} (if s then None else Some NotSelected) (if b then Some NotSelected else None)
  turned true true true e f = absurd (cc)
  turned true true false e f = refl
  turned true false true e f = refl
  turned true false false e f = absurd (cc)
  turned false b s e f = absurd (cc)

  by : (o : Option NodeFacts) → IfSome o (λ n. d ≡ n.domain) → IfSome o (λ n. selected ≡ is_selected t.domains n) → IfSome o (λ n. (if selected then None else Some NotSelected) ≡ fate_refusal t n act)
  by None of member = tt
  by (Some n) of member =
      let (free, chosen) = chosen_bars_none t n.domain (ap (fate_of t) (sym of) ∙ is) in
      stays_told t n act (if selected then None else Some NotSelected) stays
      (turned (is_chosen (decision_of t.domains n.domain)) n.is_left_out selected chosen member ∙ out_told t n n.is_left_out free refl)

-- a tree's first refusal: for what became of the domain, unless the action ends the node, then by the node's state, then by the number of nodes
by_state : {A : Type 0} (allowed wants room : Bool) (x : A)
    → result_err {T = A} {E = Refusal} (if not allowed then Err WrongState else if wants then Err NoChildren else if not room then Err TooManyNodes else Ok x)
    ≡ first_of (if not allowed then Some WrongState else if wants then Some NoChildren else None) (if room then None else Some TooManyNodes)
by_state false wants room x = refl
by_state true true room x = refl
by_state true false false x = refl
by_state true false true x = refl

in_order : {A : Type 0} (barred out ends allowed wants room : Bool) (x : A)
    → result_err {T = A} {E = Refusal} (if barred && not ends then Err DomainFailed else if out && not ends then Err NotSelected else if not allowed then Err WrongState else if wants then Err NoChildren else if not room then Err TooManyNodes else Ok x)
    ≡ first_of (if ends then None else if barred then Some DomainFailed else if out then Some NotSelected else None)
    (first_of (if not allowed then Some WrongState else if wants then Some NoChildren else None) (if room then None else Some TooManyNodes))
in_order true out false allowed wants room x = refl
in_order false true false allowed wants room x = refl
in_order false false false allowed wants room x = by_state allowed wants room x
in_order true true true allowed wants room x = by_state allowed wants room x
in_order true false true allowed wants room x = by_state allowed wants room x
in_order false true true allowed wants room x = by_state allowed wants room x
in_order false false true allowed wants room x = by_state allowed wants room x

pub refusal_is : (t : TreeFacts) (i : ℕ) (deed : Deed) (act : ActionKind) (s : NodeState) (fate : Option Refusal) → act ≡ kind_of deed → HasNode t.nodes i
    → IfSome (slice_get t.nodes i) (λ n. s ≡ n.state) → IfSome (slice_get t.nodes i) (λ n. fate ≡ fate_refusal t n act)
    → first_of fate (first_of (state_refusal s act) (room_refusal t.nodes act)) ≡ result_err (applied t i deed)
refusal_is t i deed act s fate same there state told = subst (λ k. first_of fate (first_of (state_refusal s k) (room_refusal t.nodes k)) ≡ result_err (applied t i deed)) (sym same)
    (by (slice_get t.nodes i) refl state (subst (λ k. IfSome (slice_get t.nodes i) (λ n. fate ≡ fate_refusal t n k)) same told)) where
      by : (o : Option NodeFacts) → slice_get t.nodes i ≡ o → IfSome o (λ n. s ≡ n.state) → IfSome o (λ n. fate ≡ fate_refusal t n (kind_of deed))
          → first_of fate (first_of (state_refusal s (kind_of deed)) (room_refusal t.nodes (kind_of deed))) ≡ result_err (applied_at t i deed o)
      by None here state told = absurd (not_past t.nodes i there here)
      by (Some n) here state told =
          ap (λ f. first_of f (first_of (state_refusal s (kind_of deed)) (room_refusal t.nodes (kind_of deed)))) told
          ∙ (ap (λ x. first_of (fate_refusal t n (kind_of deed)) (first_of (state_refusal x (kind_of deed)) (room_refusal t.nodes (kind_of deed)))) state
          ∙ sym (in_order (is_barred t n.domain) n.is_left_out (ends_node (kind_of deed)) (allows (kind_of deed) n.state) (wants_child (kind_of deed) n.state) (has_room t.nodes (kind_of deed)) _))
