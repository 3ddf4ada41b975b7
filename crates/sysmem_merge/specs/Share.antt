-- What the participants of one choice ask for.
use Rattle.std.specs.Prelude.{List}
use Rattle.sysmem_merge.specs.Sum.{IsWhole, SumFacts, SumsUp}
use Rattle.negotiation_inputs.specs.Participant.{Participant}
use Rattle.negotiation_inputs.specs.Platform.{PlatformFacts}

-- their sum
pub record ShareFacts : Type 0 where
  pub sum : SumFacts

-- the share is that of these participants on the platform, of each pair too
pub record IsShareOf (share : ShareFacts) (platform : PlatformFacts)
    (ps : List Participant) : Type 0 where
  pub sums : SumsUp share.sum platform ps
  pub whole : IsWhole platform share.sum
