-- What is true of the state of each legal history.
use Rattle.std.specs.Prelude.{◌≡◌, ◌≢◌, ◌+◌, ◌^◌, ◌<◌, ◌≤◌, ℕ, true, List, [], ◌∷◌, Option, Some}
use Rattle.std.specs.Prelude.{None, IfSome, length, map, filter, is_some, if◌then◌else◌}
use Rattle.std.specs.List.{AllByRecursion}
use Rattle.sysmem_counts.specs.declared.bounds.TheConstants.{BUFFER_COUNT_LIMIT}
use Rattle.sysmem_image.specs.Bounds.{IsInRange}
use Rattle.sysmem_merge.specs.declared.settings.Settings.{Settings}
use Rattle.negotiation_inputs.specs.Platform.{PlatformFacts}
use Rattle.sysmem_tree.specs.declared.domain.Decision.{Decision as Standing}
use Rattle.sysmem_tree.specs.declared.domain.Decision.TheVariants.{Undecided, Chosen, NoneChosen}
use Rattle.sysmem_tree.specs.Domain.{TreeFacts, HasDomain, IsSoundTree}
use Rattle.sysmem_tree.specs.Domain.{decision_of, is_ready, is_undecided}
use Rattle.sysmem_tree.specs.Forest.{Forest}
use Rattle.sysmem_tree.specs.Node.{NodeFacts}
use Rattle.sysmem_tree.specs.Selection.{IsSelection}
use Rattle.sysmem_tree.specs.Shape.{by_number, forest_of}
use Rattle.sysmem_tree.specs.Sublist.{IsSublist}
use Rattle.sysmem_alloc.specs.Decision.{DomainVerdict, choices_of, decision_for, settings_of}
use Rattle.sysmem_alloc.specs.State.{State, chosen_in}

-- no number is there twice
abbrev pub AreDistinct : List ℕ → Type 0
AreDistinct [] = Unit {0}
AreDistinct (x ∷ xs) = AllByRecursion (λ y. x ≢ y) xs × AreDistinct xs

-- the roots of the domains
abbrev pub roots_of : TreeFacts → List ℕ
roots_of t = map (λ d. d.root) t.domains

-- a domain may wait that is one of the tree's, ready and undecided
pub record MayWait (t : TreeFacts) (r : ℕ) : Type 0 where
  pub there : HasDomain t.nodes r
  pub ready : is_ready t r ≡ true
  pub undecided : is_undecided (decision_of t.domains r) ≡ true

-- what is decided is a domain of the tree that is ready
pub record IsOfReady (t : TreeFacts) (d : DomainVerdict) : Type 0 where
  pub there : HasDomain t.nodes d.domain
  pub ready : is_ready t d.domain ≡ true

-- the tree is sound; the domains that wait are ready and undecided, each once; and as many
-- wait or are decided as are ready
pub record IsSoundState (s : State) : Type 0 where
  pub tree : IsSoundTree s.tree
  pub waiting : AllByRecursion (MayWait s.tree) s.waiting
  pub once : AreDistinct s.waiting
  pub decided : AllByRecursion (IsOfReady s.tree) s.decisions
  pub count : length s.waiting + length s.decisions
      ≡ length (filter (is_ready s.tree) (roots_of s.tree))

-- what the tree has of a domain by what was entered for it
abbrev pub standing_of : Option DomainVerdict → Standing
standing_of None = Undecided
standing_of (Some d) = if is_some (choices_of d.verdict) then Chosen else NoneChosen

-- settings that fit their types, with a count from 1 to 128 and a heap of the platform
pub record AreSettingsOn (platform : PlatformFacts) (s : Settings) : Type 0 where
  pub some : 1 ≤ s.count
  pub few : s.count ≤ BUFFER_COUNT_LIMIT
  pub heap : s.place.heap < length platform.heaps
  pub size : s.size_bytes < 2 ^ 64
  pub bounds : IsInRange s.bounds

-- what a decision chose: such settings, for a selection of its domain
pub record IsDecisionOn (platform : PlatformFacts) (nodes : List NodeFacts)
    (d : DomainVerdict) : Type 0 where
  pub settings : IfSome (settings_of d.verdict) (AreSettingsOn platform)
  pub selects : IfSome (choices_of d.verdict)
      (λ cs. (e : Forest ℕ) × IsSelection (forest_of by_number nodes d.domain []) cs e)

-- the decisions that were entered agree with the tree: each domain has there what was entered for
-- it, which is at most one decision; what was chosen is a selection of the tree; and who is
-- accepted is some of those whom the decisions chose, in their order
pub record AgreesWithTree (platform : PlatformFacts) (s : State) : Type 0 where
  pub standing : (r : ℕ) → decision_of s.tree.domains r ≡ standing_of (decision_for s.decisions r)
  pub once : AreDistinct (map (λ d. d.domain) s.decisions)
  pub chosen : AllByRecursion (IsDecisionOn platform s.tree.nodes) s.decisions
  pub accepted : IsSublist s.accepted (chosen_in s.tree.nodes s.decisions)
