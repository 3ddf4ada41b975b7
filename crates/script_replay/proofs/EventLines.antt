-- The lines of what happens are those of a report.
use Rattle.std.proofs.Common.{◌≡◌, ℕ, ◌+◌, ◌++◌, List, [], ◌∷◌, Option, Some, None, refl, sym, ◌∙◌, ap, subst}
use Rattle.std.specs.Prelude.{map}
use Rattle.std.proofs.lemmas.List.Concat.{flat_map-append}
use Rattle.sysmem_alloc.specs.Decision.{answer_of}
use Rattle.sysmem_image.specs.declared.size.Corner.{Corner}
use Rattle.verdict_claims.specs.declared.verdict.Verdict.{Verdict}
use Rattle.verdict_claims.specs.declared.verdict.Verdict.TheVariants.{Chosen, IntersectionEmpty, TooMany, Failed, NoMemory}
use Rattle.negotiation_inputs.specs.Platform.{PlatformFacts}
use Rattle.sysmem_tree.specs.Domain.{TreeFacts, newly_failed}
use Rattle.sysmem_tree.specs.Path.{path_of}
use Rattle.script_reading.specs.Script.{CallFacts}
use Rattle.script_replay.specs.Events.{CanBeShown, EventFacts, FateFacts, Happens, becomes, events_text, failed, failed_events, fate_text, line_of, pending, pending_events, shows, verdict_text}
use Rattle.script_replay.specs.Events as happening
use Rattle.script_replay.specs.Lines.{domain_line}
use Rattle.script_replay.specs.Report.{Certified, Goes, IsReport, Tells, call_lines, chose, decision_lines, domain_lines, failed_lines, none_meet, pending_in, pending_lines, too_many, wants_memory, with_decision}
use Rattle.script_replay.specs.Report as reports
use Rattle.script_replay.specs.State.{RunState, collection_tree}
use Rattle.script_replay.proofs.CallerLemmas.{goes_platform, replies_platform}

-- the lines of domains of which a word is said
domains_told : (platform : PlatformFacts) (t : TreeFacts) (fate : FateFacts) (rs : List ℕ)
    → events_text platform (map (λ r. becomes (path_of t.nodes r) fate) rs) ≡ domain_lines t (fate_text platform fate) rs
domains_told platform t fate [] = refl
domains_told platform t fate (r ∷ rs) = ap (λ ts. domain_line (path_of t.nodes r) (fate_text platform fate) ++ ts) (domains_told platform t fate rs)

failed_told : (platform : PlatformFacts) (old new : TreeFacts) → events_text platform (failed_events old new) ≡ failed_lines old new
failed_told platform old new = domains_told platform new failed (newly_failed old new)

-- a decision can be told where it can be shown
tells_shown : (platform : PlatformFacts) (v : Option Verdict) (k : Corner) → CanBeShown v k → Tells platform v (verdict_text platform v k)
tells_shown platform (Some (Chosen chosen)) k is = chose chosen k is
tells_shown platform (Some IntersectionEmpty) k is = none_meet
tells_shown platform (Some TooMany) k is = too_many
tells_shown platform (Some Failed) k is = absurd is
tells_shown platform (Some NoMemory) k is = absurd is
tells_shown platform None k is = wants_memory

-- an event, with domains that it makes fail and what happens then
front_told : (platform : PlatformFacts) (e : EventFacts) (old new : TreeFacts) (events : List EventFacts)
    → events_text platform ((e ∷ failed_events old new) ++ events) ≡ (line_of platform e ++ failed_lines old new) ++ events_text platform events
front_told platform e old new events =
    flat_map-append (line_of platform) (e ∷ failed_events old new) events
    ∙ ap (λ ts. (line_of platform e ++ ts) ++ events_text platform events) (failed_told platform old new)

-- the lines of what happens go so
pub goes_told : (number : ℕ) (s t : RunState) (rs : List CallFacts) (events : List EventFacts) (cs : List Certified) → Happens number s rs events cs t
    → Goes number s rs (events_text s.platform events) cs t
goes_told _ _ _ _ _ _ (happening.stays number s) = reports.stays number s
goes_told _ _ _ _ _ _ (happening.calls number s answered t r rs reply events cs idle replied rest) =
    let same = replies_platform s answered r reply replied in
    let later = subst (λ (p : PlatformFacts). Goes (number + 1) answered rs (events_text p events) cs t) same (goes_told (number + 1) answered t rs events cs rest) in
    subst (λ ts. Goes number s (r ∷ rs) ts cs t) (sym (front_told s.platform (happening.called number r reply) (collection_tree s) (collection_tree answered) events))
    (reports.calls number s answered t r rs reply (events_text s.platform events) cs idle replied later)
goes_told _ _ _ _ _ _ (happening.decides number s t c rs _ events cs allowed (shows k shown) rest) =
    let later = goes_told number (with_decision s (answer_of c)) t rs events cs rest in
    subst (λ ts. Goes number s rs ts (reports.certified s c ∷ cs) t)
    (sym (front_told s.platform (becomes (path_of (collection_tree s).nodes c.domain) (happening.decided c.claim k)) (collection_tree s) (collection_tree (with_decision s (answer_of c))) events))
    (reports.decides number s t c rs (verdict_text s.platform (answer_of c).verdict k) (events_text s.platform events) cs allowed (tells_shown s.platform (answer_of c).verdict k shown) later)

-- the platform stays
pub happens_platform : (number : ℕ) (s t : RunState) (rs : List CallFacts) (events : List EventFacts) (cs : List Certified) → Happens number s rs events cs t → t.platform ≡ s.platform
happens_platform number s t rs events cs happens = goes_platform number s t rs (events_text s.platform events) cs (goes_told number s t rs events cs happens)

-- a text of events, and the lines of domains without a verdict
pub ends_told : (platform : PlatformFacts) (s : RunState) (before after : List EventFacts) → after ≡ before ++ pending_events s.book
    → events_text platform after ≡ events_text platform before ++ pending_lines s.book
ends_told platform s before after is =
    ap (events_text platform) is ∙ (flat_map-append (line_of platform) before (pending_events s.book)
    ∙ ap (λ ts. events_text platform before ++ ts) (domains_told platform s.book.tree pending (pending_in s.book)))
