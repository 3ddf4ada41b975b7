-- What a call answers, where memory isn't refused, and that memory which was refused stays so.
use Rattle.std.proofs.Common.{◌≡◌, ℕ, ◌+◌, ◌||◌, List, Bool, true, false, Option, Some, None, Result, Ok, Err, refl, sym, ◌∙◌, ap}
use Rattle.record_reading.specs.Reading.{participant_of}
use Rattle.record_reading.specs.declared.fault.Fault.{Fault}
use Rattle.script_reading.specs.Call.{ActFacts, duplicates, binds, states, creates_group, creates_child, has_all_children, attaches_token, releases, closes, checks, waits}
use Rattle.script_reading.specs.Script.{CallFacts}
use Rattle.script_replay.specs.Answer.{AsksFor, to_duplicate, to_create_group, to_bind, to_create_child, to_complete, to_set_none, to_set, to_attach_token, to_release, to_close, AsksVerdict, to_check, to_wait, Replies, skips, misreads, starves, lacks, refuses, accepts, tells, told}
use Rattle.script_replay.specs.Report.{Certified, Goes, calls, decides, stays, with_decision}
use Rattle.script_replay.specs.State.{RunState, acted, collection_tree, node_named, unmade}
use Rattle.script_replay.specs.declared.reply.Reply.{Reply}
use Rattle.script_replay.specs.declared.reply.Reply.TheVariants.{Accepted, Refused, Misread, Skipped}
use Rattle.sysmem_alloc.specs.Decision.{answer_of}
use Rattle.sysmem_alloc.specs.Entry.{Acted}
use Rattle.negotiation_inputs.specs.Participant.{Participant}
use Rattle.sysmem_tree.specs.ActionKind.{Deed}
use Rattle.sysmem_tree.specs.ActionKind as deeds
use Rattle.sysmem_tree.specs.Tree.{Applied, applied}
use Rattle.sysmem_tree.specs.declared.refusal.Refusal.{Refusal}

absurd_true : {A : Type 0} → true ≡ false → A
absurd_true e = absurd (cc)

-- a test that isn't true is false
not_true : (b c : Bool) → (b ≡ true → c ≡ true) → c ≡ false → b ≡ false
not_true false c h e = refl
not_true true c h e = absurd_true (sym (h refl) ∙ e)

pub or_right : (b c : Bool) → (b || c) ≡ false → c ≡ false
or_right false c e = e
or_right true c e = absurd_true e

-- what an action answers on a node
act_on : RunState → CallFacts → ℕ → Deed → Result Applied Refusal → Reply × RunState
act_on s r k deed (Ok after) = (Accepted, acted s r.act (Acted k deed) after.node)
act_on s r k deed (Err refusal) = (Refused refusal, unmade s r.act)

-- what making it answers
made_on : RunState → CallFacts → ℕ → Deed → Reply × RunState
made_on s r k deed = act_on s r k deed (applied (collection_tree s) k deed)

-- what reading constraints and setting them answers
set_on : RunState → CallFacts → ℕ → Result Participant Fault → Reply × RunState
set_on s r k (Ok asked) = made_on s r k (deeds.sets (Some asked))
set_on s r k (Err fault) = (Misread fault, s)

-- what a call answers on a node, where memory is not refused
answer_at : RunState → CallFacts → ℕ → ActFacts → Reply × RunState
answer_at s r k (duplicates name) = made_on s r k deeds.duplicates
answer_at s r k binds = made_on s r k deeds.binds
answer_at s r k (states None) = made_on s r k (deeds.sets None)
answer_at s r k (states (Some d)) = set_on s r k (participant_of d)
answer_at s r k (creates_group name) = made_on s r k deeds.creates_group
answer_at s r k (creates_child name) = made_on s r k deeds.creates_child
answer_at s r k has_all_children = made_on s r k deeds.has_all_children
answer_at s r k (attaches_token name) = made_on s r k deeds.attaches_token
answer_at s r k releases = made_on s r k deeds.releases
answer_at s r k closes = made_on s r k deeds.closes
answer_at s r k checks = (told s.book k, s)
answer_at s r k waits = (told s.book k, s)

pub answer_for : RunState → CallFacts → Option ℕ → Reply × RunState
answer_for s r None = (Skipped, unmade s r.act)
answer_for s r (Some k) = answer_at s r k r.act

asked_for : (s : RunState) (r : CallFacts) (k : ℕ) (act : ActFacts) (deed : Deed) → AsksFor act deed → answer_at s r k act ≡ made_on s r k deed
unfolding answer_at set_on
asked_for s r k _ _ (to_duplicate name) = refl
asked_for s r k _ _ (to_create_group name) = refl
asked_for s r k _ _ to_bind = refl
asked_for s r k _ _ (to_create_child name) = refl
asked_for s r k _ _ to_complete = refl
asked_for s r k _ _ to_set_none = refl
asked_for s r k _ _ (to_set d asked read) = rw read refl
asked_for s r k _ _ (to_attach_token name) = refl
asked_for s r k _ _ to_release = refl
asked_for s r k _ _ to_close = refl

told_for : (s : RunState) (r : CallFacts) (k : ℕ) (act : ActFacts) → AsksVerdict act → answer_at s r k act ≡ (told s.book k, s)
unfolding answer_at
told_for s r k _ to_check = refl
told_for s r k _ to_wait = refl

-- a call answers this, where memory is not refused
pub is_answer : (s : RunState) (r : CallFacts) (reply : Reply) (t : RunState) → Replies s r reply t → t.starved ≡ false → (reply, t) ≡ answer_for s r (node_named s r)
unfolding answer_for answer_at made_on act_on set_on
is_answer s r _ _ (skips none) e = rw none refl
is_answer s r _ _ (misreads k d fault here act read) e = rw (here, act, read) refl
is_answer s r _ _ (starves k d fault here act want lack) e = absurd_true e
is_answer s r _ _ (lacks k d asked here act read) e = absurd_true e
is_answer s r _ _ (refuses k deed refusal here asks why) e = rw (here, asked_for s r k r.act deed asks, why) refl
is_answer s r _ _ (accepts k made deed tree here asks done) e = rw (here, asked_for s r k r.act deed asks) (sym (ap (act_on s r k deed) done))
is_answer s r _ _ (tells k here asks) e = rw (here, told_for s r k r.act asks) refl

-- memory that was refused stays so
answer_starves : (s t : RunState) (r : CallFacts) (reply : Reply) → Replies s r reply t → s.starved ≡ true → t.starved ≡ true
answer_starves s _ r _ (skips none) e = e
answer_starves s _ r _ (misreads k d fault here act read) e = e
answer_starves s _ r _ (starves k d fault here act want lack) e = refl
answer_starves s _ r _ (lacks k d asked here act read) e = refl
answer_starves s _ r _ (refuses k deed refusal here asks why) e = e
answer_starves s _ r _ (accepts k made deed tree here asks done) e = e
answer_starves s _ r _ (tells k here asks) e = e

starves_on : (number : ℕ) (s t : RunState) (rs : List CallFacts) (a : List ℕ) (cs : List Certified) → Goes number s rs a cs t → s.starved ≡ true → t.starved ≡ true
starves_on _ _ _ _ _ _ (stays number s) e = e
starves_on _ _ _ _ _ _ (calls number s answered t r rs reply text cs idle replied rest) e = starves_on (number + 1) answered t rs text cs rest (answer_starves s answered r reply replied e)
starves_on _ _ _ _ _ _ (decides number s t c rs what text cs allowed said rest) e = starves_on number (with_decision s (answer_of c)) t rs text cs rest (rw e refl)

-- what leads to a state that isn't starved, isn't either
pub unstarved_before : (number : ℕ) (s t : RunState) (rs : List CallFacts) (a : List ℕ) (cs : List Certified) → Goes number s rs a cs t → t.starved ≡ false → s.starved ≡ false
unstarved_before number s t rs a cs goes e = not_true s.starved t.starved (starves_on number s t rs a cs goes) e
