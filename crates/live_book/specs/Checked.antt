-- What a node is told of its domain's verdict.
use Rattle.std.specs.Prelude.{ℕ, Bool, true, false, ◌&&◌, List, Option, Some, None, Result}
use Rattle.std.specs.Prelude.{Ok, Err, slice_get, if◌then◌else◌}
use Rattle.sysmem_alloc.specs.State.{State, verdict_of}
use Rattle.sysmem_merge.specs.declared.settings.Settings.{Settings}
use Rattle.sysmem_tree.specs.Domain.{is_selected}
use Rattle.sysmem_tree.specs.Node.{NodeFacts}
use Rattle.sysmem_tree.specs.declared.refusal.Refusal.{Refusal}
use Rattle.sysmem_tree.specs.declared.refusal.Refusal.TheVariants as refusals
use Rattle.sysmem_tree.specs.declared.state.NodeKind.{NodeKind}
use Rattle.sysmem_tree.specs.declared.state.NodeKind.TheVariants.{Collection}
use Rattle.verdict_claims.specs.declared.verdict.Verdict.{Verdict}
use Rattle.verdict_claims.specs.declared.verdict.Verdict.TheVariants as verdicts

-- the settings of a node that is selected, or why it is given none
abbrev pub settings_by : Bool → Option Verdict → Result Settings Refusal
settings_by selected None = Err refusals.Pending
settings_by selected (Some verdicts.Failed) = Err refusals.DomainFailed
settings_by selected (Some verdicts.NoMemory) = Err refusals.NoMemory
settings_by selected (Some verdicts.IntersectionEmpty) = Err refusals.ConstraintsIntersectionEmpty
settings_by selected (Some verdicts.TooMany) = Err refusals.TooManyGroupChildCombinations
settings_by true (Some (verdicts.Chosen chosen)) = Ok chosen.settings
settings_by false (Some (verdicts.Chosen chosen)) = Err refusals.NotSelected

abbrev pub is_collection : NodeKind → Bool
is_collection Collection = true
is_collection _ = false

abbrev pub settings_at : State → Option NodeFacts → Result Settings Refusal
settings_at b None = Err refusals.WrongState
settings_at b (Some n) = if is_collection n.state.kind && n.state.is_open
    then settings_by (is_selected b.tree.domains n) (verdict_of b n.domain)
    else Err refusals.WrongState

-- what node k is told: one that is no open collection a wrong state, else by the verdict
abbrev pub settings_at_node : State → ℕ → Result Settings Refusal
settings_at_node b k = settings_at b (slice_get b.tree.nodes k)

-- the choices of a verdict, or why there are none
abbrev pub selection_by : Option Verdict → Result (List ℕ) Refusal
selection_by None = Err refusals.Pending
selection_by (Some verdicts.Failed) = Err refusals.DomainFailed
selection_by (Some verdicts.NoMemory) = Err refusals.NoMemory
selection_by (Some verdicts.IntersectionEmpty) = Err refusals.ConstraintsIntersectionEmpty
selection_by (Some verdicts.TooMany) = Err refusals.TooManyGroupChildCombinations
selection_by (Some (verdicts.Chosen chosen)) = Ok chosen.selection

abbrev pub selection_at : State → Option NodeFacts → Result (List ℕ) Refusal
selection_at b None = Err refusals.WrongState
selection_at b (Some n) = selection_by (verdict_of b n.domain)

-- the choices of the selection that was chosen for the domain of node k, or why there are none
abbrev pub selection_at_node : State → ℕ → Result (List ℕ) Refusal
selection_at_node b k = selection_at b (slice_get b.tree.nodes k)
