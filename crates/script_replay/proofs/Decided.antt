-- The decisions among what happens are those that were taken, and the report has its lines.
use Rattle.std.proofs.Common.{◌≡◌, ℕ, ◌++◌, List, [], ◌∷◌, map, refl, sym, ◌∙◌, ap, subst, append-nil}
use Rattle.std.proofs.lemmas.List.Elements.{filter_map-append}
use Rattle.negotiation_inputs.specs.Platform.{PlatformFacts}
use Rattle.sysmem_alloc.specs.Decision.{answer_of}
use Rattle.sysmem_tree.specs.Domain.{TreeFacts, newly_failed}
use Rattle.sysmem_tree.specs.Path.{path_of}
use Rattle.script_reading.specs.Script.{CallFacts}
use Rattle.script_replay.specs.Among.{decided_in, decision_in}
use Rattle.script_replay.specs.Events as happening
use Rattle.script_replay.specs.Events.{EventFacts, Happens, HappensTo, becomes, call_events, calls, decides, decision_events, events_text, failed, pending, pending_events, shows, stays}
use Rattle.script_replay.specs.Report.{Certified, Gave, IsReported, certified, pending_in, with_decision}
use Rattle.script_replay.specs.State.{RunState, collection_tree, first_run_state}
use Rattle.script_replay.proofs.EventLines.{ends_told, goes_told}

-- domains that fail are not decided
none_failed : (t : TreeFacts) (roots : List ℕ) → decided_in (map (λ r. becomes (path_of t.nodes r) failed) roots) ≡ []
none_failed t [] = refl
none_failed t (r ∷ roots) = none_failed t roots

-- nor those without a verdict
none_pending : (t : TreeFacts) (roots : List ℕ) → decided_in (map (λ r. becomes (path_of t.nodes r) pending) roots) ≡ []
none_pending t [] = refl
none_pending t (r ∷ roots) = none_pending t roots

-- the decisions among what happens are those that were taken
happens_decided : (number : ℕ) (s t : RunState) (rs : List CallFacts) (events : List EventFacts) (cs : List Certified) → Happens number s rs events cs t → decided_in events ≡ cs
happens_decided _ _ _ _ _ _ (stays number s) = refl
happens_decided _ _ _ _ _ _ (calls number s answered t r rs reply events cs idle replied rest) =
    filter_map-append decision_in (call_events number s r reply answered) events
    ∙ (ap (λ ds. ds ++ decided_in events) (none_failed (collection_tree answered) (newly_failed (collection_tree s) (collection_tree answered))) ∙ happens_decided _ answered t rs events cs rest)
happens_decided _ _ _ _ _ _ (decides number s t c rs _ events cs allowed (shows k shown) rest) =
    let after = collection_tree (with_decision s (answer_of c)) in
    filter_map-append decision_in (decision_events s c (happening.decided c.claim k)) events
    ∙ (ap (λ ds. (certified s c ∷ ds) ++ decided_in events) (none_failed after (newly_failed (collection_tree s) after)) ∙ ap (λ ds. certified s c ∷ ds) (happens_decided number (with_decision s (answer_of c)) t rs events cs rest))

-- so it is to the end
decided_are : (platform : PlatformFacts) (rs : List CallFacts) (says : Gave) (events : List EventFacts) (last : RunState) → (h : HappensTo platform rs says events last) → decided_in events ≡ h.decisions
decided_are platform rs says events last h =
    let rest = ap (λ ds. decided_in h.happened ++ ds) (none_pending last.book.tree (pending_in last.book)) ∙ append-nil (decided_in h.happened) in
    ap decided_in h.put ∙ (filter_map-append decision_in h.happened (pending_events last.book) ∙ (rest ∙ happens_decided 1 (first_run_state platform) last rs h.happened h.decisions h.happens))

-- what the decider says of its decisions is true of those among what happens
pub gave_decided : (platform : PlatformFacts) (rs : List CallFacts) (says : Gave) (events : List EventFacts) (last : RunState) → HappensTo platform rs says events last → says (decided_in events)
gave_decided platform rs says events last h = subst says (sym (decided_are platform rs says events last h)) h.gave

-- the lines of what happens are a report, of whose decisions all is true that is true of those among what happens
pub happens_reported : (platform : PlatformFacts) (rs : List CallFacts) (says other : Gave) (events : List EventFacts) (last : RunState) → HappensTo platform rs says events last → other (decided_in events)
    → IsReported platform rs other (events_text platform events) last.starved
happens_reported platform rs says other events last h is = record {
  decisions = h.decisions;
  report = record {
    last = last;
    lines = events_text platform h.happened;
    goes = goes_told 1 (first_run_state platform) last rs h.happened h.decisions h.happens;
    done = h.done;
    put = ends_told platform last h.happened events h.put;
    memory = refl;
  };
  gave = subst other (decided_are platform rs says events last h) is;
}
