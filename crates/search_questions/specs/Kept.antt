-- For which participants that stands which a search keeps of them.
use Rattle.std.specs.Prelude.{◌≤◌, ◌<◌, ◌+◌, ◌*◌, ◌^◌, ◌↔◌, ◌++◌, ℕ, List, [], All, IsTrue}
use Rattle.std.specs.Prelude.{Option, Some, None, length}
use Rattle.sysmem_counts.specs.Bounds as counts
use Rattle.sysmem_counts.specs.Tally.{sum_of}
use Rattle.sysmem_merge.specs.declared.settings.Settings.{Settings}
use Rattle.offer_fits.specs.Demands.{counts_asked}
use Rattle.sysmem_merge.specs.Settings.{CoversOn}
use Rattle.sysmem_merge.specs.Share.{IsShareOf}
use Rattle.sysmem_merge.specs.Sum.{SumsUp}
use Rattle.sysmem_merge.specs.declared.sum.TheConstants.{MOST_ADDED}
use Rattle.verdict_claims.specs.Base.{BaseFacts}
use Rattle.verdict_claims.specs.Matter.{Matter}
use Rattle.negotiation_inputs.specs.Participant.{Participant}
use Rattle.negotiation_inputs.specs.Platform.{PlatformFacts}
use Rattle.search_questions.specs.declared.kept.PrefixSum.{PrefixSum}
use Rattle.search_questions.specs.declared.kept.PrefixSum.TheVariants as kept_as
use Rattle.search_questions.specs.declared.kept.ChoiceShare.{ChoiceShare}
use Rattle.search_questions.specs.declared.kept.ChoiceShare.TheVariants as part_as
use Rattle.search_questions.specs.declared.on_base.OnBase.{OnBase}
use Rattle.verdict_claims.specs.Asked.{asked_in}
use Rattle.sysmem_tree.specs.Node.{NodeFacts}

-- what is asked of the number of buffers by participants and by those accepted before them, and
-- whether each of the participants accepts the settings
pub record TakesBase (platform : PlatformFacts) (settings : Settings) (earlier : List Participant)
    (kept : OnBase) (ps : List Participant) : Type 0 where
  pub counts : counts.IsTallyOf kept.counts (counts_asked earlier ++ counts_asked ps)
  pub small : sum_of kept.counts ≤ (length earlier + length ps) * 2 ^ 33
  pub accept : IsTrue kept.all_accept ↔ All (CoversOn platform settings) ps

-- what is kept of a prefix stands for these participants: without a base their sum, else how they
-- take it behind those accepted before
abbrev pub IsKeptOf : PlatformFacts → List NodeFacts → Option BaseFacts → PrefixSum → List Participant
    → Type 0
IsKeptOf platform nodes None (kept_as.Sum sum) ps = SumsUp sum platform ps
IsKeptOf platform nodes (Some base) (kept_as.OnBase kept) ps =
    TakesBase platform base.settings (asked_in nodes base.accepted) kept ps
IsKeptOf platform nodes _ _ ps = ⊥

-- of a matter
abbrev pub IsKeptFor : Matter → PrefixSum → List Participant → Type 0
IsKeptFor m = IsKeptOf m.platform m.nodes m.base

-- what is kept of one choice stands for these participants, whatever was accepted before
abbrev pub IsPart : PlatformFacts → Option BaseFacts → ChoiceShare → List Participant → Type 0
IsPart platform None (part_as.Share share) ps = IsShareOf share platform ps
IsPart platform (Some base) (part_as.OnBase kept) ps = TakesBase platform base.settings [] kept ps
IsPart platform _ _ ps = ⊥

-- of a matter
abbrev pub IsPartFor : Matter → ChoiceShare → List Participant → Type 0
IsPartFor m = IsPart m.platform m.base

-- one participant more fits
abbrev pub HasRoom : ChoiceShare → Type 0
HasRoom (part_as.Share share) = share.sum.added < MOST_ADDED
HasRoom (part_as.OnBase kept) = sum_of kept.counts < 2 ^ 62

-- the participants of both fit together
abbrev pub HaveRoom : PrefixSum → ChoiceShare → Type 0
HaveRoom (kept_as.Sum sum) (part_as.Share share) = sum.added + share.sum.added ≤ MOST_ADDED
HaveRoom (kept_as.OnBase above) (part_as.OnBase kept) =
    sum_of above.counts + sum_of kept.counts < 2 ^ 62
HaveRoom _ _ = Unit {0}

-- the pairs up to so many are joined; on a base there are none to join
abbrev pub HasPairs : PrefixSum → ℕ → Type 0
HasPairs (kept_as.Sum sum) n = n ≤ sum.joined
HasPairs (kept_as.OnBase kept) n = Unit {0}
