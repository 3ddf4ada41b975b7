-- The certificate of what happens, one event after another and of all.
use Rattle.std.proofs.Common.{◌≡◌, ◌<◌, ◌≤◌, ℕ, ◌+◌, ◌++◌, List, [], ◌∷◌, Bool, true, false, Option, Some, None, Ok, take, length, get_or, map, refl, sym, ◌∙◌, ap, subst}
use Rattle.std.proofs.lemmas.List.{map-append, take_all, take_more}
use Rattle.std.proofs.lemmas.List.Elements.{filter_map-append}
use Rattle.std.specs.Io.KnownBytes.{Appends}
use Rattle.std.specs.Prelude.{IfSome}
use Rattle.byte_transfer.specs.Transfer.{ReadsToLimit}
use Rattle.certificate_pieces.specs.Texts.{pieces_text}
use Rattle.certificate_text.specs.Told.{decision_data}
use Rattle.negotiation_inputs.specs.Platform.{PlatformFacts}
use Rattle.serde_json.specs.Data.{Data}
use Rattle.serde_json.specs.Written.{compact_text}
use Rattle.script_reading.specs.Text.{IsValue, Outcome, longest}
use Rattle.script_replay.specs.Among.{decided_in, decision_in}
use Rattle.script_replay.specs.Events.{EventFacts, event_seen, events_text}
use Rattle.script_replay.specs.Outcome.{ReportFacts, reported}
use Rattle.script_replay.specs.Proving.{AreProved}
use Rattle.script_replay.specs.Report.{Certified}
use Rattle.script_replay.specs.State.{RunState, first_run_state}
use Rattle.script_replay.specs.declared.event.Event.{Event}
use Rattle.script_replay.proofs.Decided.{gave_decided, happens_reported}
use Rattle.script_replay.proofs.EventLines.{happens_platform}
use Rattle.script_run.specs.Certificate.{CertifiesTo, IsCertifiedBy, texts_of}
use Rattle.script_run.proofs.CallerLemmas.{runs-input}
use Rattle.script_run.proofs.OneCertified.{certificate_said}
use Rattle.script_run.proofs.Spelling.{spells}
use Rattle.report_json.specs.Certified.{HappensIn, WritesCertificate, outcome_of}

-- the decisions before an event, and the one that it is, if it is one
pub certified_more : (platform : PlatformFacts) (events : List Event) (i : ℕ) (one : Event) (old new : List (List ℕ)) → i < length events → one ≡ get_or events i one
    → old ≡ texts_of platform (decided_in (map event_seen (take i events))) → new ≡ old ++ texts_of platform (decided_in (event_seen one ∷ []))
    → new ≡ texts_of platform (decided_in (map event_seen (take (i + 1) events)))
certified_more platform events i one old new below is before more =
    let here = take_more events i one below ∙ ap (λ (x : Event). take i events ++ x ∷ []) (sym is) in
    let seen = ap (map event_seen) here ∙ map-append event_seen (take i events) (one ∷ []) in
    let first = decided_in (map event_seen (take i events)) in
    let last = decided_in (event_seen one ∷ []) in
    let all = ap decided_in seen ∙ filter_map-append decision_in (map event_seen (take i events)) (event_seen one ∷ []) in
    more ∙ (ap (λ (ts : List (List ℕ)). ts ++ texts_of platform last) before
    ∙ (sym (map-append (λ (c : Certified). compact_text (decision_data platform c.0 c.1)) first last) ∙ ap (texts_of platform) (sym all)))

-- at the end they are all decisions
pub certified_all : (platform p : PlatformFacts) (events : List Event) (i : ℕ) (seen : List EventFacts) (pieces : List (List ℕ)) → length events ≤ i → map event_seen events ≡ seen → p ≡ platform
    → pieces ≡ texts_of p (decided_in (map event_seen (take i events))) → pieces ≡ texts_of platform (decided_in seen)
certified_all platform p events i seen pieces all same lends is =
    is ∙ (ap (λ (es : List Event). texts_of p (decided_in (map event_seen es))) (take_all i events all) ∙ (ap (λ (es : List EventFacts). texts_of p (decided_in es)) same ∙ ap (λ (q : PlatformFacts). texts_of q (decided_in seen)) lends))

-- of what happens where the calls of a script are made, that is the certificate of a report
certified_value : (d : Data) (bytes : List ℕ) (events : List EventFacts) (last : RunState) (pieces : List (List ℕ)) → Outcome IsValue bytes (Ok d) → HappensIn d events last
    → pieces ≡ texts_of last.platform (decided_in events) → (text : List ℕ) × CertifiesTo bytes (Ok (record { text = text; certificate = pieces_text pieces; starved = last.starved }))
certified_value d bytes events last pieces spelled h is =
    let platform = h.script.platform in
    let rs = h.script.calls in
    let same = happens_platform 1 (first_run_state platform) last rs h.happens.happened h.happens.decisions h.happens.happens in
    let text = ap pieces_text (is ∙ ap (λ (p : PlatformFacts). texts_of p (decided_in events)) same) ∙ certificate_said platform (decided_in events) in
    let certified : IsCertifiedBy (pieces_text pieces) platform (decided_in events) = record { text = text; proved = gave_decided platform rs AreProved events last h.happens } in
    let told = happens_reported platform rs AreProved (IsCertifiedBy (pieces_text pieces) platform) events last h.happens certified in
    let report : ReportFacts = record { text = events_text platform events; starved = last.starved } in
    (events_text platform events, spells (IsCertifiedBy (pieces_text pieces)) bytes d (Ok d) (Ok report) refl spelled (reported h.script report h.read told))

-- what was written of an input, if it is known
writes_input : (had : Option (List ℕ)) (text certificate : List ℕ) (fed starved : Bool) (before after : Option (List ℕ)) → fed ≡ starved → Appends before after certificate
    → IfSome had (λ input. CertifiesTo input (Ok (record { text = text; certificate = certificate; starved = fed }))) → IfSome had (λ input. WritesCertificate input starved before after)
writes_input None text certificate fed starved before after same written runs = tt
writes_input (Some input) text certificate fed starved before after same written runs =
    subst (λ (b : Bool). WritesCertificate input b before after) same (record { text = text; certificate = certificate; certified = runs; written = written })

-- and it was written of the input that was read
pub certified_input : (old new : Option (List ℕ)) (bytes : List ℕ) (d : Data) (events : List EventFacts) (last : RunState) (pieces : List (List ℕ)) (starved : Bool) (before after : Option (List ℕ))
    → ReadsToLimit longest old new bytes → Outcome IsValue bytes (Ok d) → HappensIn d events last → pieces ≡ texts_of last.platform (decided_in events) → last.starved ≡ starved → Appends before after (pieces_text pieces)
    → IfSome old (λ input. WritesCertificate input starved before after)
certified_input old new bytes d events last pieces starved before after read spelled h is fed written =
    let one = certified_value d bytes events last pieces spelled h is in
    let runs = runs-input (IsCertifiedBy (pieces_text pieces)) old new bytes (Ok (record { text = one.0; starved = last.starved })) read one.1 in
    writes_input old one.0 (pieces_text pieces) last.starved starved before after fed written runs

-- how a run ends tells whether memory was refused
pub starved_as : (a b : Bool) → outcome_of a ≡ outcome_of b → a ≡ b
starved_as true true same = refl
starved_as true false same = absurd (cc)
starved_as false true same = absurd (cc)
starved_as false false same = refl
