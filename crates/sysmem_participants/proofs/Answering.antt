-- What a handle's refusal says by what the handle knew, where it saw more.
use Rattle.std.proofs.Common.{◌≡◌, ◌≢◌, ℕ, Bool, true, false, List, Option, Some, None, Result, Ok, Err, refl, sym, ap, subst, Bor}
use Rattle.std.specs.Prelude.{IfErr, IfSome, MatchOption, OnOk, option_map, if◌then◌else◌}
use Rattle.once_cell.specs.Once.{Agrees}
use Rattle.verdict_claims.specs.declared.verdict.Verdict.{Verdict}
use Rattle.verdict_claims.specs.declared.verdict.Verdict.TheVariants as verdicts
use Rattle.sysmem_alloc.specs.Frozen.{FrozenFacts}
use Rattle.sysmem_tree.specs.declared.action.ActionKind.{ActionKind}
use Rattle.sysmem_tree.specs.declared.refusal.Refusal.{Refusal}
use Rattle.sysmem_tree.specs.declared.refusal.Refusal.TheVariants as refusals
use Rattle.sysmem_tree.specs.declared.state.NodeState.{NodeState}
use Rattle.sysmem_tree.specs.ActionKind.{Deed, ends_node, kind_of}
use Rattle.sysmem_room.specs.declared.outcome.Outcome.{Outcome}
use Rattle.sysmem_room.specs.declared.outcome.Outcome.TheVariants as outcomes
use Rattle.node_limits.specs.TreeRefusals.{first_of, state_refusal}
use Rattle.sysmem_room.specs.Refusals.{due, is_member, known_refusal, refusal_by, outcome_refusal, IsUnforeseen, IsAnswer, MayAnswer}
use Rattle.sysmem_participants.specs.Held.{Answers, Held, MayEnter, state_of}

-- a verdict's refusal is one of two, of an action that doesn't end its node
abbrev IsOfVerdict : ActionKind → Option Refusal → Type 0
IsOfVerdict kind None = Unit {0}
IsOfVerdict kind (Some refusals.DomainFailed) = ends_node kind ≡ false
IsOfVerdict kind (Some refusals.NotSelected) = ends_node kind ≡ false
IsOfVerdict kind (Some r) = ⊥

of_verdict : (kind : ActionKind) → ends_node kind ≡ false → (f : FrozenFacts) (path : List ℕ) (v : Verdict) → IsOfVerdict kind (refusal_by f path v)
of_verdict kind stays f path (verdicts.Chosen chosen) = by (is_member f chosen.selection path) where
  by : (b : Bool) → IsOfVerdict kind (if b then None else Some refusals.NotSelected)
  by true = tt
  by false = stays
of_verdict kind stays f path verdicts.IntersectionEmpty = stays
of_verdict kind stays f path verdicts.TooMany = stays
of_verdict kind stays f path verdicts.Failed = stays
of_verdict kind stays f path verdicts.NoMemory = stays

of_outcome : (kind : ActionKind) → ends_node kind ≡ false → (o : Outcome) (path : List ℕ) → IsOfVerdict kind (outcome_refusal o path)
of_outcome kind stays (outcomes.Decided r) path = of_verdict kind stays r.frozen path r.claim.verdict
of_outcome kind stays outcomes.Failed path = stays
of_outcome kind stays outcomes.NoMemory path = stays

of_kind : (o : Outcome) (path : List ℕ) (kind : ActionKind) (b : Bool) → ends_node kind ≡ b → IsOfVerdict kind (if b then None else outcome_refusal o path)
of_kind o path kind true ends = tt
of_kind o path kind false stays = of_outcome kind stays o path

failed_may : (b : Option Refusal) (kind : ActionKind) → ends_node kind ≡ false → MayAnswer b None kind refusals.DomainFailed
failed_may None kind stays = stays
failed_may (Some q) kind stays = tt

unselected_may : (b : Option Refusal) (kind : ActionKind) → ends_node kind ≡ false → MayAnswer b None kind refusals.NotSelected
unselected_may None kind stays = stays
unselected_may (Some q) kind stays = tt

due_may : (q : Refusal) (kind : ActionKind) (r : Refusal) → r ≡ q → MayAnswer (Some q) None kind r
due_may q kind refusals.DomainFailed is = tt
due_may q kind refusals.NotSelected is = tt
due_may q kind refusals.NoMemory is = is
due_may q kind refusals.WrongState is = is
due_may q kind refusals.TooManyNodes is = is
due_may q kind refusals.NoChildren is = is
due_may q kind refusals.ConstraintsIntersectionEmpty is = is
due_may q kind refusals.TooManyGroupChildCombinations is = is
due_may q kind refusals.Pending is = is
due_may q kind refusals.Strange is = is

late_may : (o : Outcome) (kind : ActionKind) (r : Refusal) → IsUnforeseen (Some o) kind r → IsUnforeseen None kind r
late_may o kind refusals.TooManyNodes h = h
late_may o kind refusals.DomainFailed h = absurd h
late_may o kind refusals.NotSelected h = absurd h
late_may o kind refusals.NoMemory h = absurd h
late_may o kind refusals.WrongState h = absurd h
late_may o kind refusals.NoChildren h = absurd h
late_may o kind refusals.ConstraintsIntersectionEmpty h = absurd h
late_may o kind refusals.TooManyGroupChildCombinations h = absurd h
late_may o kind refusals.Pending h = absurd h
late_may o kind refusals.Strange h = absurd h

saw_more : (o : Outcome) (a b : Option Refusal) (kind : ActionKind) (r : Refusal) → IsOfVerdict kind a → IsAnswer (first_of a b) (Some o) kind r → MayAnswer b None kind r
saw_more o None None kind r of h = late_may o kind r h
saw_more o None (Some q) kind r of h = due_may q kind r h
saw_more o (Some refusals.DomainFailed) b kind r of h = subst (MayAnswer b None kind) (sym h) (failed_may b kind of)
saw_more o (Some refusals.NotSelected) b kind r of h = subst (MayAnswer b None kind) (sym h) (unselected_may b kind of)
saw_more o (Some refusals.NoMemory) b kind r of h = absurd of
saw_more o (Some refusals.WrongState) b kind r of h = absurd of
saw_more o (Some refusals.TooManyNodes) b kind r of h = absurd of
saw_more o (Some refusals.NoChildren) b kind r of h = absurd of
saw_more o (Some refusals.ConstraintsIntersectionEmpty) b kind r of h = absurd of
saw_more o (Some refusals.TooManyGroupChildCombinations) b kind r of h = absurd of
saw_more o (Some refusals.Pending) b kind r of h = absurd of
saw_more o (Some refusals.Strange) b kind r of h = absurd of

knew : (b : Option Refusal) (o : Outcome) (kind : ActionKind) (r : Refusal) → IsAnswer b (Some o) kind r → MayAnswer b (Some o) kind r
knew None o kind r h = h
knew (Some q) o kind r h = h

knew_none : (b : Option Refusal) (kind : ActionKind) (r : Refusal) → IsAnswer b None kind r → MayAnswer b None kind r
knew_none None kind r h = h
knew_none (Some q) kind r h = due_may q kind r h

pub unknowing : (known seen : Option Outcome) (path : List ℕ) (s : NodeState) (kind : ActionKind) (r : Refusal) → IfSome known (λ k. seen ≡ Some k)
    → IsAnswer (due seen path s kind) seen kind r → MayAnswer (due known path s kind) known kind r
unknowing (Some k) seen path s kind r agrees h = knew (due (Some k) path s kind) k kind r (subst (λ x. IsAnswer (due x path s kind) x kind r) agrees h)
unknowing None None path s kind r agrees h = knew_none (due None path s kind) kind r h
unknowing None (Some o) path s kind r agrees h =
    saw_more o (if ends_node kind then None else outcome_refusal o path) (state_refusal s kind) kind r (of_kind o path kind (ends_node kind) refl) h

-- what was read of the cell is what was known, if anything was
pub read_known : (k new : Option Outcome) (o : Option (Bor Outcome)) → MatchOption o ((k ≡ None) × (new ≡ None)) (λ r. (new ≡ Some r.now) × Agrees k r.now) → IfSome k (λ x. option_map (λ (b : Bor Outcome). b.now) o ≡ Some x)
read_known None new o h = tt
read_known (Some x) new None h = absurd (cc (h.0))
read_known (Some x) new (Some b) h = ap Some (sym h.1)

-- what is answered by what was seen in the cell, said by what the handle knew
pub by_known : (known noted : Option Outcome) (o : Option (Bor Outcome)) (p q : List ℕ) (s t : NodeState) (kind : ActionKind) (r : Refusal) → noted ≡ known → p ≡ q → s ≡ t
    → IfSome noted (λ x. option_map (λ (b : Bor Outcome). b.now) o ≡ Some x)
    → IsAnswer (due (option_map (λ (b : Bor Outcome). b.now) o) p s kind) (option_map (λ (b : Bor Outcome). b.now) o) kind r → MayAnswer (due known q t kind) known kind r
by_known known noted o p q s t kind r nk pq st saw answers =
    let seen : Option Outcome = option_map (λ (b : Bor Outcome). b.now) o in
    let one : MayAnswer (due noted p s kind) noted kind r = unknowing noted seen p s kind r saw answers in
    let two : MayAnswer (due known p s kind) known kind r = subst (λ x. MayAnswer (due x p s kind) x kind r) nk one in
    let three : MayAnswer (due known q s kind) known kind r = subst (λ x. MayAnswer (due known x s kind) known kind r) pq two in
    subst (λ x. MayAnswer (due known q x kind) known kind r) st three

first_none : (a b : Option Refusal) → first_of a b ≡ None → b ≡ None
first_none None b is = is
first_none (Some q) b is = absurd (cc)

-- where nothing is due by what was seen in the cell, nothing is by what the handle knew
unknowing_none : (known seen : Option Outcome) (path : List ℕ) (s : NodeState) (kind : ActionKind) → IfSome known (λ k. seen ≡ Some k) → due seen path s kind ≡ None → due known path s kind ≡ None
unknowing_none (Some k) seen path s kind agrees is = subst (λ x. due x path s kind ≡ None) agrees is
unknowing_none None seen path s kind agrees is = first_none (known_refusal seen path kind) (state_refusal s kind) is

pub none_by_known : (known noted : Option Outcome) (o : Option (Bor Outcome)) (p q : List ℕ) (s t : NodeState) (kind : ActionKind) → noted ≡ known → p ≡ q → s ≡ t
    → IfSome noted (λ x. option_map (λ (b : Bor Outcome). b.now) o ≡ Some x) → due (option_map (λ (b : Bor Outcome). b.now) o) p s kind ≡ None → due known q t kind ≡ None
none_by_known known noted o p q s t kind nk pq st saw none =
    let one : due noted p s kind ≡ None = unknowing_none noted (option_map (λ (b : Bor Outcome). b.now) o) p s kind saw none in
    subst (λ x. due known q x kind ≡ None) st (subst (λ x. due known x s kind ≡ None) pq (subst (λ x. due x p s kind ≡ None) nk one))

-- the same of all that a call may answer
pub answers_by_known : {V : Type 0} (result : Result V Refusal) (h : Held) (deed : Deed) (noted : Option Outcome) (o : Option (Bor Outcome)) (p : List ℕ) (s : NodeState) → noted ≡ h.known → p ≡ h.path
    → s ≡ state_of h → IfSome noted (λ x. option_map (λ (b : Bor Outcome). b.now) o ≡ Some x)
    → IfErr result (λ r. r ≢ refusals.Strange → IsAnswer (due (option_map (λ (b : Bor Outcome). b.now) o) p s (kind_of deed)) (option_map (λ (b : Bor Outcome). b.now) o) (kind_of deed) r)
    → IfErr result (Answers h deed)
answers_by_known (Ok v) h deed noted o p s nk pq st saw answers = tt
answers_by_known (Err r) h deed noted o p s nk pq st saw answers = λ strange memory.
    by_known h.known noted o p h.path s (state_of h) (kind_of deed) r nk pq st saw (answers strange)

pub enters_by_known : {V : Type 0} (result : Result V Refusal) (h : Held) (deed : Deed) (noted : Option Outcome) (o : Option (Bor Outcome)) (p : List ℕ) (s : NodeState) → noted ≡ h.known → p ≡ h.path
    → s ≡ state_of h → IfSome noted (λ x. option_map (λ (b : Bor Outcome). b.now) o ≡ Some x) → OnOk result (due (option_map (λ (b : Bor Outcome). b.now) o) p s (kind_of deed) ≡ None)
    → OnOk result (MayEnter h deed)
enters_by_known (Ok v) h deed noted o p s nk pq st saw none = none_by_known h.known noted o p h.path s (state_of h) (kind_of deed) nk pq st saw none
enters_by_known (Err r) h deed noted o p s nk pq st saw none = tt
