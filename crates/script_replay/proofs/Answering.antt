-- How a reply answers a call, from what the runner's functions say.
use Rattle.std.proofs.Common.{◌≡◌, ℕ, ◌+◌, ◌++◌, ◌||◌, List, [], ◌∷◌, Bool, true, false, Option, Some, None, Ok, Err, refl, ◌∙◌, ap, subst, append_assoc}
use Rattle.serde_json.specs.Data.{Data}
use Rattle.sysmem_alloc.specs.Book.{BookFacts, entered}
use Rattle.sysmem_alloc.specs.Entry.{Acted}
use Rattle.sysmem_alloc.specs.State.{next_ready}
use Rattle.record_reading.specs.declared.fault.Fault.{Fault}
use Rattle.record_reading.specs.declared.fault.Code.{Code}
use Rattle.record_reading.specs.declared.fault.Code.TheVariants.{WantOfMemory}
use Rattle.record_reading.specs.Faults.{lack_of}
use Rattle.negotiation_inputs.specs.Participant.{Participant}
use Rattle.record_reading.specs.Reading.{participant_of, participant_with}
use Rattle.negotiation_inputs.specs.Platform.{PlatformFacts}
use Rattle.sysmem_tree.specs.declared.refusal.Refusal.{Refusal}
use Rattle.sysmem_tree.specs.declared.refusal.Refusal.TheVariants as refusals
use Rattle.sysmem_tree.specs.ActionKind.{Deed}
use Rattle.sysmem_tree.specs.ActionKind as deeds
use Rattle.sysmem_tree.specs.Tree.{applied}
use Rattle.script_reading.specs.Call.{ActFacts, states}
use Rattle.script_reading.specs.Script.{CallFacts}
use Rattle.script_replay.specs.declared.reply.Reply.{Reply}
use Rattle.script_replay.specs.declared.reply.Reply.TheVariants.{Accepted, Refused, Misread, Skipped}
use Rattle.script_replay.specs.Answer.{AsksFor, to_set, Replies, skips, misreads, starves, lacks, refuses, accepts, is_want}
use Rattle.script_replay.specs.Events.{EventFacts, call_events, called, calls, failed_events}
use Rattle.script_replay.specs.Report.{Gave}
use Rattle.script_replay.specs.Steps.{GoesIn, RepliesIn}
use Rattle.script_replay.specs.State.{RunState, collection_tree, names_given, node_named, unmade}
use Rattle.script_replay.proofs.Following.{state_at}
use Rattle.script_replay.proofs.CallerLemmas.{replies_platform}

pub skipped_as : (s t : RunState) (r : CallFacts) → node_named s r ≡ None → t ≡ unmade s r.act → Replies s r Skipped t
skipped_as s t r none e = rw e (skips none)

-- a refusal leaves the book
pub refused_as : (old b : BookFacts) (names : List (Option ℕ)) (starved : Bool) (t : RunState) (r : CallFacts) (k : ℕ) (deed : Deed) (refusal : Refusal) → node_named (state_at old names starved) r ≡ Some k
    → AsksFor r.act deed → applied old.state.tree k deed ≡ Err refusal → b ≡ old → t ≡ state_at b (names ++ names_given r.act None) starved → Replies (state_at old names starved) r (Refused refusal) t
refused_as old b names starved t r k deed refusal here asks why same e =
    rw (e ∙ ap (λ (x : BookFacts). state_at x (names ++ names_given r.act None) starved) same) (refuses k deed refusal here asks why)

pub accepted_as : (old b : BookFacts) (names : List (Option ℕ)) (starved : Bool) (t : RunState) (r : CallFacts) (k made : ℕ) (deed : Deed) → node_named (state_at old names starved) r ≡ Some k
    → AsksFor r.act deed → applied old.state.tree k deed ≡ Ok (record { tree = b.state.tree; node = made }) → b ≡ entered old (Acted k deed)
    → t ≡ state_at b (names ++ names_given r.act (Some made)) starved → Replies (state_at old names starved) r Accepted t
accepted_as old b names starved t r k made deed here asks done same e =
    rw (e ∙ ap (λ (x : BookFacts). state_at x (names ++ names_given r.act (Some made)) starved) same) (accepts k made deed b.state.tree here asks done)

or_true : (b : Bool) → (b || true) ≡ true
or_true true = refl
or_true false = refl

or_false : (b : Bool) → (b || false) ≡ b
or_false true = refl
or_false false = refl

starves_for_want : (code : Code) → is_want code ≡ true → code ≡ WantOfMemory
starves_for_want WantOfMemory e = refl
starves_for_want _ e = absurd (cc)

by_code : (s t : RunState) (r : CallFacts) (k : ℕ) (d : Data) (fault : Fault) (b : Bool) → node_named s r ≡ Some k → r.act ≡ states (Some d)
    → ((fault.code ≡ WantOfMemory → ⊥) → participant_of d ≡ Err fault) → (fault.code ≡ WantOfMemory → participant_with (lack_of fault) d ≡ Err fault)
    → is_want fault.code ≡ b → t ≡ record s { starved = s.starved || is_want fault.code }
    → Replies s r (Misread fault) t
by_code s t r k d fault true here act said wanting g e =
    let all : (s.starved || is_want fault.code) ≡ true = rw g (or_true s.starved) in
    let want : fault.code ≡ WantOfMemory = starves_for_want fault.code g in
    rw (e, all) (starves k d fault here act want (wanting want))
by_code s t r k d fault false here act said wanting g e =
    let all : (s.starved || is_want fault.code) ≡ s.starved = rw g (or_false s.starved) in
    rw (e, all) (misreads k d fault here act (said (λ (want : fault.code ≡ WantOfMemory). absurd (cc (g, ap is_want want)))))

pub asks_set : (act : ActFacts) (d : Data) (asked shared : Participant) → act ≡ states (Some d) → participant_of d ≡ Ok asked → shared ≡ asked → AsksFor act (deeds.sets (Some shared))
asks_set act d asked shared e read same = rw (e, same) (to_set d asked read)

-- a fault for want of memory starves, and every other one is what is wrong with the record
pub misread_as : (s t : RunState) (r : CallFacts) (k : ℕ) (d : Data) (fault : Fault) → node_named s r ≡ Some k → r.act ≡ states (Some d)
    → ((fault.code ≡ WantOfMemory → ⊥) → participant_of d ≡ Err fault) → (fault.code ≡ WantOfMemory → participant_with (lack_of fault) d ≡ Err fault)
    → t ≡ record s { starved = s.starved || is_want fault.code }
    → Replies s r (Misread fault) t
misread_as s t r k d fault here act said wanting e = by_code s t r k d fault (is_want fault.code) here act said wanting refl e

-- a reply with the domains that the call made fail
pub replies_as : (number : ℕ) (s : RunState) (r : CallFacts) (t : RunState) (before between after : List EventFacts) (reply : Reply)
    → Replies s r reply t → between ≡ before ++ called number r reply ∷ [] → after ≡ between ++ failed_events (collection_tree s) (collection_tree t) → RepliesIn number s r t before after
replies_as number s r t before between after reply answered e f = record {
  reply = reply;
  replies = answered;
  put = f ∙ (ap (λ ts. ts ++ failed_events (collection_tree s) (collection_tree t)) e ∙ append_assoc before (called number r reply ∷ []) (failed_events (collection_tree s) (collection_tree t)));
}

-- with what follows they are what a call makes
pub takes_as : (number : ℕ) (s : RunState) (r : CallFacts) (mid t : RunState) (before between after : List EventFacts) (H K : PlatformFacts → Gave) → next_ready s.book ≡ None
    → RepliesIn number s r mid before between → ((k : ℕ) → GoesIn k mid [] t between after (H mid.platform) (K mid.platform)) → GoesIn number s (r ∷ []) t before after (H s.platform) (K s.platform)
takes_as number s r mid t before between after H K idle replied followed =
    let on = subst (λ p. GoesIn (number + 1) mid [] t between after (H p) (K p)) (replies_platform s mid r replied.reply replied.replies) (followed (number + 1)) in
    record {
      events = call_events number s r replied.reply mid ++ on.events;
      decisions = on.decisions;
      goes = calls number s mid t r [] replied.reply on.events on.decisions idle replied.replies on.goes;
      put = on.put ∙ (ap (λ ts. ts ++ on.events) replied.put ∙ append_assoc before (call_events number s r replied.reply mid) on.events);
      gave = on.gave;
    }

-- constraints that were read but for which memory was refused
pub lacks_as : (s t : RunState) (r : CallFacts) (k : ℕ) (d : Data) (asked : Participant) → node_named s r ≡ Some k → r.act ≡ states (Some d) → participant_of d ≡ Ok asked
    → t ≡ record s { starved = true } → Replies s r (Refused refusals.NoMemory) t
lacks_as s t r k d asked here act read e = rw e (lacks k d asked here act read)
