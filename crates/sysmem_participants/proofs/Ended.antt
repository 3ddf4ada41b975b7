-- What an action that ends its node is refused for: the state that the log makes of its node, and else that handle and book disagree.
use Rattle.std.proofs.Common.{◌≡◌, ◌≢◌, ◌∙◌, ℕ, Bool, true, false, not, List, [], ◌∷◌, ◌++◌, Option, Some, None, Result, Ok, Err, refl, sym, subst}
use Rattle.std.specs.Prelude.{OnErr, OnOk, is_some, if◌then◌else◌}
use Rattle.std.proofs.lemmas.Option.{same_Some}
use Rattle.sysmem_alloc.specs.Book.{BookFacts}
use Rattle.sysmem_tree.specs.declared.action.ActionKind.{ActionKind}
use Rattle.sysmem_tree.specs.declared.action.ActionKind.TheVariants as kinds
use Rattle.sysmem_tree.specs.declared.refusal.Refusal.{Refusal}
use Rattle.sysmem_tree.specs.declared.refusal.Refusal.TheVariants as refusals
use Rattle.sysmem_tree.specs.declared.state.NodeState.{NodeState}
use Rattle.sysmem_tree.specs.ActionKind.{Deed, ends_node, kind_of}
use Rattle.sysmem_tree.specs.Path.{Shown}
use Rattle.sysmem_tree.specs.Step.{shown_after, shown_after_all}
use Rattle.sysmem_tree.specs.Table.{allows, makes, state_after, wants_child}
use Rattle.sysmem_room.specs.declared.outcome.Outcome.{Outcome}
use Rattle.node_limits.specs.TreeRefusals.{first_of, state_refusal}
use Rattle.sysmem_room.specs.Log.{LogFacts, shown_by}
use Rattle.sysmem_room.specs.Refusals.{IsAnswer, IsDisputed, IsUnforeseen, due, outcome_refusal}

-- such an action makes no node
makes_none : (kind : ActionKind) → ends_node kind ≡ true → is_some (makes kind) ≡ true → ⊥
makes_none kinds.Duplicate ends some = absurd (cc)
makes_none kinds.CreateGroup ends some = absurd (cc)
makes_none kinds.Bind ends some = absurd (cc)
makes_none kinds.CreateChild ends some = absurd (cc)
makes_none kinds.AllChildrenPresent ends some = absurd (cc)
makes_none kinds.SetConstraints ends some = absurd (cc)
makes_none kinds.AttachToken ends some = absurd (cc)
makes_none kinds.Release ends some = absurd (cc)
makes_none kinds.Close ends some = absurd (cc)

-- and wants no child
wants_none : (kind : ActionKind) (s : NodeState) → ends_node kind ≡ true → wants_child kind s ≡ false
wants_none kinds.Duplicate s ends = refl
wants_none kinds.CreateGroup s ends = refl
wants_none kinds.Bind s ends = refl
wants_none kinds.CreateChild s ends = refl
wants_none kinds.AllChildrenPresent s ends = absurd (cc)
wants_none kinds.SetConstraints s ends = refl
wants_none kinds.AttachToken s ends = refl
wants_none kinds.Release s ends = refl
wants_none kinds.Close s ends = refl

by_log : (s : NodeState) (kind : ActionKind) (q : Refusal) → wants_child kind s ≡ false → state_refusal s kind ≡ Some q → q ≡ refusals.WrongState
by_log s kind q none is = by (allows kind s) (wants_child kind s) none is where
  by : (a w : Bool) → w ≡ false → ◌≡◌ {A = Option Refusal} (if not a then Some refusals.WrongState else if w then Some refusals.NoChildren else None) (Some q) → q ≡ refusals.WrongState
  by true true none is = absurd (cc)
  by true false none is = absurd (cc)
  by false w none is = sym (same_Some refusals.WrongState q is)

-- by no verdict is it refused
pub due_by_log : (known : Option Outcome) (path : List ℕ) (s : NodeState) (kind : ActionKind) → ends_node kind ≡ true → due known path s kind ≡ state_refusal s kind
due_by_log None path s kind ends = refl
due_by_log (Some o) path s kind ends = by (ends_node kind) ends where
  by : (b : Bool) → b ≡ true → first_of (if b then None else outcome_refusal o path) (state_refusal s kind) ≡ state_refusal s kind
  by true is = refl
  by false is = absurd (cc)

-- and for nothing that its handle can't foresee
all_foreseen : (known : Option Outcome) (kind : ActionKind) (r : Refusal) → ends_node kind ≡ true → IsUnforeseen known kind r → ⊥
all_foreseen known kind refusals.NoMemory ends late = late
all_foreseen None kind refusals.DomainFailed ends late = absurd (cc)
all_foreseen (Some o) kind refusals.DomainFailed ends late = late
all_foreseen None kind refusals.NotSelected ends late = absurd (cc)
all_foreseen (Some o) kind refusals.NotSelected ends late = late
all_foreseen known kind refusals.WrongState ends late = late
all_foreseen known kind refusals.NoChildren ends late = late
all_foreseen known kind refusals.TooManyNodes ends late = makes_none kind ends late
all_foreseen known kind refusals.ConstraintsIntersectionEmpty ends late = late
all_foreseen known kind refusals.TooManyGroupChildCombinations ends late = late
all_foreseen known kind refusals.Pending ends late = late
all_foreseen known kind refusals.Strange ends late = late

pub for_its_state : (known : Option Outcome) (path : List ℕ) (s : NodeState) (kind : ActionKind) (r : Refusal) → ends_node kind ≡ true → IsAnswer (due known path s kind) known kind r
    → r ≡ refusals.WrongState
for_its_state known path s kind r ends answers = by (state_refusal s kind) refl (subst (λ q. IsAnswer q known kind r) (due_by_log known path s kind ends) answers) where
  by : (q : Option Refusal) → state_refusal s kind ≡ q → IsAnswer q known kind r → r ≡ refusals.WrongState
  by None is late = absurd (all_foreseen known kind r ends late)
  by (Some q) is same = same ∙ by_log s kind q (wants_none kind s ends) is

-- so where `Strange` is answered, the two did disagree
pub was_strange : (r answer : Refusal) → (r ≢ refusals.Strange → r ≡ refusals.WrongState) → (r ≡ refusals.WrongState → answer ≡ refusals.WrongState) → answer ≡ refusals.Strange
    → r ≡ refusals.Strange
was_strange refusals.NoMemory answer one two is = let wrong : refusals.NoMemory ≡ refusals.WrongState = one (λ same. absurd (cc)) in absurd (cc)
was_strange refusals.DomainFailed answer one two is = let wrong : refusals.DomainFailed ≡ refusals.WrongState = one (λ same. absurd (cc)) in absurd (cc)
was_strange refusals.NotSelected answer one two is = let wrong : refusals.NotSelected ≡ refusals.WrongState = one (λ same. absurd (cc)) in absurd (cc)
was_strange refusals.WrongState answer one two is = let wrong : answer ≡ refusals.WrongState = two refl in absurd (cc)
was_strange refusals.NoChildren answer one two is = let wrong : refusals.NoChildren ≡ refusals.WrongState = one (λ same. absurd (cc)) in absurd (cc)
was_strange refusals.TooManyNodes answer one two is = let wrong : refusals.TooManyNodes ≡ refusals.WrongState = one (λ same. absurd (cc)) in absurd (cc)
was_strange refusals.ConstraintsIntersectionEmpty answer one two is = let wrong : refusals.ConstraintsIntersectionEmpty ≡ refusals.WrongState = one (λ same. absurd (cc)) in absurd (cc)
was_strange refusals.TooManyGroupChildCombinations answer one two is = let wrong : refusals.TooManyGroupChildCombinations ≡ refusals.WrongState = one (λ same. absurd (cc)) in absurd (cc)
was_strange refusals.Pending answer one two is = let wrong : refusals.Pending ≡ refusals.WrongState = one (λ same. absurd (cc)) in absurd (cc)
was_strange refusals.Strange answer one two is = refl

-- and of what ends a node they never disagree for what the book's decision left out
pub undisputed : (b : BookFacts) (path : List ℕ) (s : NodeState) (known : Option Outcome) (kind : ActionKind) (i : ℕ) → ends_node kind ≡ true → IsDisputed b path s known kind i → ⊥
undisputed b path s None kind i ends disputed = disputed
undisputed b path s (Some o) kind i ends (stays, _, _) = absurd (cc)

-- one that doesn't end its node leaves it open
stays_open : (kind : ActionKind) (s : NodeState) → ends_node kind ≡ false → s.is_open ≡ true → (state_after kind s).is_open ≡ true
stays_open kinds.Duplicate s stays opened = opened
stays_open kinds.CreateGroup s stays opened = opened
stays_open kinds.Bind s stays opened = opened
stays_open kinds.CreateChild s stays opened = opened
stays_open kinds.AllChildrenPresent s stays opened = opened
stays_open kinds.SetConstraints s stays opened = opened
stays_open kinds.AttachToken s stays opened = opened
stays_open kinds.Release s stays opened = absurd (cc)
stays_open kinds.Close s stays opened = absurd (cc)

open_after : (z : Shown) (ds : List Deed) (d : Deed) → ends_node (kind_of d) ≡ false → (shown_after_all z ds).state.is_open ≡ true
    → (shown_after_all z (ds ++ d ∷ [])).state.is_open ≡ true
open_after z [] d stays opened = stays_open (kind_of d) z.state stays opened
open_after z (x ∷ ds) d stays opened = open_after (shown_after x z) ds d stays opened

-- so a log that gets it, if it is accepted, has its node open still
pub open_still : {V : Type 0} (A : Type 0) (entered : Result V Refusal) (old new : LogFacts) (d : Deed) → ends_node (kind_of d) ≡ false → new.begun ≡ old.begun
    → OnOk entered (new.deeds ≡ old.deeds ++ d ∷ []) → OnErr entered (A × (new ≡ old)) → (shown_by old).state.is_open ≡ true → (shown_by new).state.is_open ≡ true
open_still A (Ok v) old new d stays begun logged unlogged opened =
    subst (λ z. (shown_after_all z new.deeds).state.is_open ≡ true) (sym begun) (subst (λ ds. (shown_after_all old.begun ds).state.is_open ≡ true) (sym logged) (open_after old.begun old.deeds d stays opened))
open_still A (Err r) old new d stays begun logged unlogged opened = subst (λ (l : LogFacts). (shown_by l).state.is_open ≡ true) (sym unlogged.1) opened
