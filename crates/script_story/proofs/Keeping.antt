-- What is told of a domain is what became of it.
use Rattle.std.proofs.Common.{◌≡◌, ◌<◌, inr, ℕ, List, false, length, get_or, map, sym, ◌∙◌, ap, subst}
use Rattle.std.proofs.lemmas.List.{get_or-map, length-map}
use Rattle.std.specs.Prelude.{Contains}
use Rattle.std.specs.String.{string_bytes}
use Rattle.certificate_text.specs.Paths.{path_text}
use Rattle.negotiation_inputs.specs.Platform.{PlatformFacts}
use Rattle.script_reading.specs.Script.{CallFacts}
use Rattle.script_replay.specs.Events.{EventFacts, FateFacts, HappensTo, becomes, event_seen, events_text, fate_seen, fate_text}
use Rattle.script_replay.specs.declared.event.Event.{Event}
use Rattle.script_replay.specs.Replayed.{LeavesIn}
use Rattle.script_replay.specs.Outcome.{anyhow}
use Rattle.script_replay.specs.Report.{Certified, IsReport}
use Rattle.script_replay.specs.State.{RunState, first_run_state}
use Rattle.script_replay.proofs.CallerLemmas.{goes_platform}
use Rattle.script_story.specs.Became.{became_of}
use Rattle.script_story.specs.Paths.{path_at}
use Rattle.script_story.specs.Told.{BecomesOn, IsReportedOn, IsSaidOn, IsTold}
use Rattle.script_story.specs.declared.outcome.Outcome.{Outcome}
use Rattle.script_story.specs.declared.story.Domain.{Domain}
use Rattle.script_story.specs.declared.story.Node.{Node}

-- what stands in a list of events is one of what happened
pub event_there : (list : List Event) (events : List EventFacts) (i : ℕ) (one : Event) → map event_seen list ≡ events → i < length list → one ≡ get_or list i one → Contains events (event_seen one)
event_there list events i one same below is =
    subst (λ (all : List EventFacts). Contains all (event_seen one)) same
    (i, subst (λ n. i < n) (sym (length-map list event_seen)) below, get_or-map event_seen list i one (event_seen one) below ∙ ap event_seen (sym is))

-- what becomes of a domain is said of it
pub said_as : (platform : PlatformFacts) (events : List EventFacts) (path : List ℕ) (fate : FateFacts) (what : Outcome) → BecomesOn events path fate → fate_seen what.fate ≡ fate → string_bytes what.said ≡ fate_text platform fate
    → IsSaidOn platform events path what
said_as platform events path fate what on same said = record {
  becomes = subst (λ f. BecomesOn events path f) (sym same) on;
  said = said ∙ ap (fate_text platform) (sym same);
}

-- so it is kept of its domain
pub told_as : (platform : PlatformFacts) (events : List EventFacts) (nodes : List Node) (old next : Domain) (root path : List ℕ) (fate : FateFacts) (what : Outcome) → path ≡ path_text root → path ≡ path_at nodes old.root
    → fate_seen what.fate ≡ fate → string_bytes what.said ≡ fate_text platform fate → next.root ≡ old.root → next.told ≡ what → next.became ≡ became_of (fate_seen what.fate) → Contains events (becomes root fate) → IsTold platform events nodes next
told_as platform events nodes old next root path fate what here at same said rooted told became has = inr (record {
  told = subst (λ w. IsSaidOn platform events (path_at nodes next.root) w) (sym told)
      (said_as platform events (path_at nodes next.root) fate what (record { root = root; at = sym here ∙ (at ∙ ap (path_at nodes) (sym rooted)); event = has }) same said);
  became = became ∙ ap (λ (w : Outcome). became_of (fate_seen w.fate)) (sym told);
})

-- what is said of calls to which no memory was refused
pub reported_on : (platform : PlatformFacts) (rs : List CallFacts) (text : List ℕ) (events : List EventFacts) (last : RunState) (decisions : List Certified) (path : List ℕ) (what : Outcome) → text ≡ events_text platform events
    → last.starved ≡ false → HappensTo platform rs (anyhow platform) events last → IsReport platform rs text decisions last.starved → IsSaidOn platform events path what → IsReportedOn platform rs path what
reported_on platform rs text events last decisions path what same fed happens report says = record {
  events = events;
  last = last;
  decisions = decisions;
  happens = happens;
  report = subst (λ b. IsReport platform rs (events_text platform events) decisions b) fed (subst (λ t. IsReport platform rs t decisions last.starved) same report);
  says = says;
}

-- a replay leaves its platform
pub leaves_platform : (platform : PlatformFacts) (rs : List CallFacts) (text : List ℕ) (last : RunState) → LeavesIn platform rs text last → last.platform ≡ platform
leaves_platform platform rs text last leaves =
    ap (λ (s : RunState). s.platform) (sym leaves.stands) ∙ goes_platform 1 (first_run_state platform) leaves.report.last rs leaves.report.lines leaves.decisions leaves.report.goes
