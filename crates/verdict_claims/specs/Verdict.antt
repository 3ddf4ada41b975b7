-- Verdicts, and when they are optimal.
use Rattle.std.specs.Prelude.{◌≡◌, ◌<◌, ◌≤◌, ℕ, true, List, ◌++◌, Option, Some, None}
use Rattle.std.specs.Prelude.{All, is_none, option_map}
use Rattle.sysmem_counts.specs.Counts.{IsCounted}
use Rattle.sysmem_merge.specs.declared.settings.Settings.{Settings}
use Rattle.sysmem_merge.specs.Best.{IsBest}
use Rattle.offer_fits.specs.Demands.{counts_asked}
use Rattle.sysmem_merge.specs.Settings.{CoversOn, Meets, MeetsLoosely, MeetsAs}
use Rattle.negotiation_inputs.specs.Platform.{PlatformFacts}
use Rattle.sysmem_tree.specs.Forest.{Forest, choices, settled, count}
use Rattle.sysmem_tree.specs.Node.{NodeFacts}
use Rattle.sysmem_tree.specs.Selection.{IsSelection, IsEarlierSelection}
use Rattle.sysmem_tree.specs.Shape.{Member, shape_of}
use Rattle.verdict_claims.specs.declared.verdict.TheConstants.{MOST_SELECTIONS}
use Rattle.verdict_claims.specs.declared.verdict.Verdict.{Verdict}
use Rattle.verdict_claims.specs.declared.verdict.Verdict.TheVariants as verdicts
use Rattle.verdict_claims.specs.Base.{BaseFacts, Terms, terms_of}
use Rattle.verdict_claims.specs.Members.{participants}

-- which settings meet members, and which of them are best for them, differs
-- between initial and attached domains
abbrev pub Meeting : Type 1
Meeting = List Member → Settings → Type 0

-- no settings meet the members of a selection of the forest, however its groups choose
abbrev pub IsForestUnmet : Meeting → Forest Member → Type 0
IsForestUnmet Met d = (selection : List ℕ) (e : Forest Member) (t : Settings)
    → IsSelection d selection e → ¬ (Met (settled e) t)

-- nor those of a selection that is earlier than the choices
abbrev pub IsUnmetBefore : Meeting → Forest Member → List ℕ → Type 0
IsUnmetBefore Met d choices = (other : List ℕ) (e : Forest Member) (t : Settings)
    → IsSelection d other e → IsEarlierSelection other choices → ¬ (Met (settled e) t)

-- a selection with the best settings for its members, where no earlier one is met
pub record IsChosen (Met Best : Meeting) (d : Forest Member) (selection : List ℕ)
    (s : Settings) : Type 0 where
  pub members : Forest Member
  pub selects : IsSelection d selection members
  pub best : Best (settled members) s
  pub first : IsUnmetBefore Met d selection

-- a verdict is right for a forest: too many exactly where there are more selections than a decision
-- goes through; else the first selection that is met, with the best settings for it, or none where
-- none is. What failed or wanted memory isn't.
abbrev pub IsRight : Meeting → Meeting → Forest Member → Verdict → Type 0
IsRight Met Best d (verdicts.Chosen chosen) =
    (count d ≤ MOST_SELECTIONS) × IsChosen Met Best d chosen.selection chosen.settings
IsRight Met Best d verdicts.IntersectionEmpty = (count d ≤ MOST_SELECTIONS) × IsForestUnmet Met d
IsRight Met Best d verdicts.TooMany = MOST_SELECTIONS < count d
IsRight Met Best d verdicts.Failed = ⊥
IsRight Met Best d verdicts.NoMemory = ⊥

-- of an attached domain: the settings of its terms and no others, where each participant among the
-- members accepts them and the count suits them together with those accepted before
pub record MeetsFixed (platform : PlatformFacts) (terms : Terms) (ms : List Member)
    (s : Settings) : Type 0 where
  pub same : s ≡ terms.settings
  pub covers : All (CoversOn platform s) (participants ms)
  pub counted : IsCounted (counts_asked (participants (terms.accepted ++ ms))) s.count

-- settings meet members: of an initial domain, which has no terms, the participants among them
abbrev pub MeetsFor : PlatformFacts → Option Terms → Meeting
MeetsFor platform None = λ ms s. Meets platform (participants ms) s
MeetsFor platform (Some terms) = MeetsFixed platform terms

-- the same but for the names of the image, as long as more members may come
abbrev pub MeetsLooselyFor : PlatformFacts → Option Terms → Meeting
MeetsLooselyFor platform None = λ ms s. MeetsLoosely platform (participants ms) s
MeetsLooselyFor platform (Some terms) = MeetsFixed platform terms

-- the best of the settings that meet members; where there are terms, all that do are theirs
abbrev pub IsBestFor : PlatformFacts → Option Terms → Meeting
IsBestFor platform None = λ ms s. IsBest true platform (participants ms) s
IsBestFor platform (Some terms) = MeetsFixed platform terms

-- settings meet what choices have settled: with the names of the image where no
-- group is left, else but for them
abbrev pub MeetsSettled : PlatformFacts → Option Terms → Forest Member → Settings → Type 0
MeetsSettled platform None d t = MeetsAs (is_none (choices d)) platform (participants (settled d)) t
MeetsSettled platform (Some terms) d t = MeetsFixed platform terms (settled d) t

-- the verdict of a domain of this shape is optimal: of an initial one, or of an attached one on
-- these terms
abbrev pub IsOptimal : PlatformFacts → Option Terms → Forest Member → Verdict → Type 0
IsOptimal platform terms = IsRight (MeetsFor platform terms) (IsBestFor platform terms)

-- of a domain of a tree
abbrev pub IsOptimalIn : PlatformFacts → List NodeFacts → ℕ → Option BaseFacts → Verdict → Type 0
IsOptimalIn platform nodes domain base =
    IsOptimal platform (option_map (terms_of nodes) base) (shape_of nodes domain)

-- two verdicts are equal in kind, selection and settings, whatever proves them
abbrev pub IsSameAnswer : Verdict → Verdict → Type 0
IsSameAnswer (verdicts.Chosen a) (verdicts.Chosen b) =
    (a.selection ≡ b.selection) × (a.settings ≡ b.settings)
IsSameAnswer verdicts.IntersectionEmpty verdicts.IntersectionEmpty = Unit {0}
IsSameAnswer verdicts.TooMany verdicts.TooMany = Unit {0}
IsSameAnswer verdicts.Failed verdicts.Failed = Unit {0}
IsSameAnswer verdicts.NoMemory verdicts.NoMemory = Unit {0}
IsSameAnswer v w = ⊥
