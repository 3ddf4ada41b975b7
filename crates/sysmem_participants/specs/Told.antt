-- What a handle is told of its domain's verdict.
use Rattle.std.specs.Prelude.{◌≡◌, ◌≢◌, ◌⊎◌, ℕ, false, true, List, Option, None, Some, IfSome}
use Rattle.sysmem_alloc.specs.Frozen.{FrozenFacts}
use Rattle.verdict_claims.specs.declared.verdict.Verdict.{Verdict}
use Rattle.verdict_claims.specs.declared.verdict.Verdict.TheVariants as verdicts
use Rattle.verdict_claims.specs.Asked.{asks_at}
use Rattle.sysmem_merge.specs.declared.settings.Settings.{Settings}
use Rattle.negotiation_inputs.specs.Participant.{Participant}
use Rattle.negotiation_inputs.specs.Platform.{PlatformFacts}
use Rattle.sysmem_tree.specs.declared.refusal.Refusal.{Refusal}
use Rattle.sysmem_tree.specs.declared.refusal.Refusal.TheVariants as refusals
use Rattle.sysmem_tree.specs.Path.{node_at}
use Rattle.sysmem_tree.specs.Step.{shown_after_all}
use Rattle.sysmem_room.specs.declared.outcome.Outcome.{Outcome}
use Rattle.sysmem_room.specs.declared.outcome.Outcome.TheVariants as outcomes
use Rattle.sysmem_room.specs.Refusals.{is_member}
use Rattle.sysmem_room.specs.Ruling.{RulingFacts, IsRuling}
use Rattle.sysmem_participants.specs.Held.{Held}

-- settings were chosen, and the node at the path is a member
abbrev pub IsChosenFor : List ℕ → FrozenFacts → Verdict → Type 0
IsChosenFor path f (verdicts.Chosen chosen) = is_member f chosen.selection path ≡ true
IsChosenFor path f _ = ⊥

-- the node at the path is there, with these constraints
abbrev pub Asks : FrozenFacts → List ℕ → Option Participant → Type 0
Asks f path asked =
    (i : ℕ) × (node_at f.tree.nodes path ≡ Some i) × (asks_at f.tree.nodes i ≡ asked)

-- the handle of a path that asks for this may be shown a ruling: a true claim for its platform, by
-- which its node is a member, over a tree with the constraints that it set
pub record IsShownAt (platform : PlatformFacts) (path : List ℕ) (asked : Option Participant)
    (r : RulingFacts) : Type 0 where
  pub right : IsRuling r
  pub is_for : r.frozen.platform ≡ platform
  pub chosen : IsChosenFor path r.frozen r.claim.verdict
  pub own : Asks r.frozen path asked

-- the constraints that a handle set, if it set any
abbrev pub asked_by : Held → Option Participant
asked_by h = (shown_after_all h.begun h.deeds).constraints

-- a handle may be shown a ruling
abbrev pub IsShownTo : Held → RulingFacts → Type 0
IsShownTo h r = IsShownAt h.platform h.path (asked_by h) r

-- a verdict chose this selection
abbrev pub IsSelected : Verdict → List ℕ → Type 0
IsSelected (verdicts.Chosen chosen) selection = selection ≡ chosen.selection
IsSelected _ selection = ⊥

-- a verdict chose these settings
abbrev pub IsSet : Verdict → Settings → Type 0
IsSet (verdicts.Chosen chosen) settings = settings ≡ chosen.settings
IsSet _ settings = ⊥

-- a verdict chose a selection of which the node at the path is no member
abbrev pub IsLeftOut : List ℕ → FrozenFacts → Verdict → Type 0
IsLeftOut path f (verdicts.Chosen chosen) = is_member f chosen.selection path ≡ false
IsLeftOut path f _ = ⊥

-- a true claim for the platform
pub record IsRulingFor (platform : PlatformFacts) (r : RulingFacts) : Type 0 where
  pub right : IsRuling r
  pub is_for : r.frozen.platform ≡ platform

-- a ruling isn't what the handle of a path that asks for this can have: it is for another platform,
-- or its node is a member over a tree without the constraints that it set
abbrev pub Disagree : PlatformFacts → List ℕ → Option Participant → RulingFacts → Type 0
Disagree platform path asked r =
    (r.frozen.platform ≢ platform)
    ⊎ (IsChosenFor path r.frozen r.claim.verdict × (Asks r.frozen path asked → ⊥))

-- how the handle of a path that asks for this is refused a view of a ruling: by a true claim for
-- its platform, or because the two disagree
abbrev pub IsRefusedBy : PlatformFacts → List ℕ → Option Participant → RulingFacts → Refusal
    → Type 0
IsRefusedBy platform path asked r refusals.ConstraintsIntersectionEmpty =
    IsRulingFor platform r × (r.claim.verdict ≡ verdicts.IntersectionEmpty)
IsRefusedBy platform path asked r refusals.TooManyGroupChildCombinations =
    IsRulingFor platform r × (r.claim.verdict ≡ verdicts.TooMany)
IsRefusedBy platform path asked r refusals.NotSelected =
    IsRulingFor platform r × IsLeftOut path r.frozen r.claim.verdict
IsRefusedBy platform path asked r refusals.Strange = Disagree platform path asked r
IsRefusedBy platform path asked r _ = ⊥

-- what the handle of a path that asks for this is told by what became of its domain, where it is
-- shown nothing
abbrev pub IsTold : PlatformFacts → List ℕ → Option Participant → Outcome → Refusal → Type 0
IsTold platform path asked (outcomes.Decided r) refusal = IsRefusedBy platform path asked r refusal
IsTold platform path asked outcomes.Failed refusal = refusal ≡ refusals.DomainFailed
IsTold platform path asked outcomes.NoMemory refusal = refusal ≡ refusals.NoMemory

-- a handle is told what it then knows became of its domain; or `Pending`, and then it knows nothing
abbrev pub IsToldBy : Held → Option Outcome → Refusal → Type 0
IsToldBy h known refusal = (refusal ≡ refusals.Pending → known ≡ None)
    × (refusal ≢ refusals.Pending
    → (o : Outcome) × (known ≡ Some o) × IsTold h.platform h.path (asked_by h) o refusal)

-- what a handle is told tells what became of its domain: what it knew of that, where it knew it
abbrev pub Tells : Held → Refusal → Type 0
Tells h refusal = refusal ≢ refusals.Pending
    → (o : Outcome) × IfSome h.known (λ k. k ≡ o) × IsTold h.platform h.path (asked_by h) o refusal
