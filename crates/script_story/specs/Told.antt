-- What becomes of domains, as reports say it.
use Rattle.std.specs.Prelude.{◌≡◌, ◌⊎◌, ℕ, All, Contains, List, [], false}
use Rattle.certificate_text.specs.Paths.{path_text}
use Rattle.negotiation_inputs.specs.Platform.{PlatformFacts}
use Rattle.script_reading.specs.Script.{CallFacts}
use Rattle.script_replay.specs.Events.{EventFacts, FateFacts, HappensTo, becomes, pending}
use Rattle.script_replay.specs.Events.{events_text, fate_seen, fate_text}
use Rattle.script_replay.specs.Outcome.{anyhow}
use Rattle.script_replay.specs.Report.{Certified, IsReport}
use Rattle.script_replay.specs.State.{RunState}
use Rattle.script_story.specs.Became.{became_of}
use Rattle.script_story.specs.Paths.{path_at}
use Rattle.script_story.specs.declared.outcome.Outcome.{Outcome}
use Rattle.script_story.specs.declared.story.Became.TheVariants.{Pending}
use Rattle.script_story.specs.declared.story.Domain.{Domain}
use Rattle.script_story.specs.declared.story.Node.{Node}
use Rattle.script_story.specs.declared.story.Story.{Story}
use Rattle.std.specs.String.{string_bytes}

-- this becomes of the domain at the path with this text
pub record BecomesOn (events : List EventFacts) (path : List ℕ) (fate : FateFacts) : Type 0 where
  pub root : List ℕ
  pub at : path_text root ≡ path
  pub event : Contains events (becomes root fate)

-- this becomes of the domain at a path, and a report says so
pub record IsSaidOn (platform : PlatformFacts) (events : List EventFacts) (path : List ℕ)
    (what : Outcome) : Type 0 where
  pub becomes : BecomesOn events path (fate_seen what.fate)
  pub said : string_bytes what.said ≡ fate_text platform (fate_seen what.fate)

-- where these calls are made on a new collection, and no memory is refused to them, this becomes of
-- the domain at a path, and their report, which has the lines of what happens, says so
pub record IsReportedOn (platform : PlatformFacts) (rs : List CallFacts) (path : List ℕ)
    (what : Outcome) : Type 0 where
  pub events : List EventFacts
  pub last : RunState
  pub decisions : List Certified
  pub happens : HappensTo platform rs (anyhow platform) events last
  pub report : IsReport platform rs (events_text platform events) decisions false
  pub says : IsSaidOn platform events path what

-- nothing is told of a domain yet
abbrev pub IsUntold : Domain → Type 0
IsUntold domain = (fate_seen domain.told.fate ≡ pending) × (string_bytes domain.told.said ≡ [])
    × (domain.became ≡ Pending)

-- a domain keeps what becomes of it at a path, told as a report says it
pub record IsKept (platform : PlatformFacts) (events : List EventFacts) (path : List ℕ)
    (domain : Domain) : Type 0 where
  pub told : IsSaidOn platform events path domain.told
  pub became : domain.became ≡ became_of (fate_seen domain.told.fate)

-- what is told of a domain became of it, or nothing is
abbrev pub IsTold : PlatformFacts → List EventFacts → List Node → Domain → Type 0
IsTold platform events nodes domain =
    IsUntold domain ⊎ IsKept platform events (path_at nodes domain.root) domain

-- so it is of all domains
abbrev pub AreTold : PlatformFacts → List EventFacts → Story → Type 0
AreTold platform events story =
    All (IsTold platform events story.nodes.items) story.domains.items
