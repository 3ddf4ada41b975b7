-- What follows a reply: decisions, one after the other, and what they and the call made fail.
use Rattle.std.proofs.Common.{◌≡◌, ◌≤◌, ℕ, suc, ◌+◌, ◌++◌, ◌||◌, Bool, true, false, not, List, [], ◌∷◌, length, length-append, Option, get_or, sym, ◌∙◌, ap, subst, arith, append-nil, append_assoc}
use Rattle.std.specs.Prelude.{is_none}
use Rattle.sysmem_alloc.specs.Book.{BookFacts, IsBook, entered}
use Rattle.sysmem_alloc.specs.Decision.{Claimed, DomainVerdict, answer_of, choices_of}
use Rattle.sysmem_alloc.specs.Entry.{Decided}
use Rattle.sysmem_alloc.specs.Laws.{FewEntries}
use Rattle.negotiation_inputs.specs.Platform.{PlatformFacts}
use Rattle.sysmem_tree.specs.Domain.{TreeFacts, IsSoundTree}
use Rattle.sysmem_tree.specs.Path.{path_of}
use Rattle.script_reading.specs.Script.{CallFacts}
use Rattle.script_replay.specs.declared.reply.Reply.{Reply}
use Rattle.script_replay.specs.Answer.{Replies, skips, misreads, starves, lacks, refuses, accepts, tells}
use Rattle.script_replay.specs.Events.{EventFacts, FateFacts, Happens, IsDecidedBy, becomes, call_events, decision_events, failed_events}
use Rattle.script_replay.specs.Events as happening
use Rattle.script_replay.specs.Marks.{AreMarksOf, failed_at}
use Rattle.script_replay.specs.Report.{Certified, Gave, certified, with_decision}
use Rattle.script_replay.specs.Steps.{DecidesIn, EntersIn, GoesIn}
use Rattle.script_replay.specs.State.{RunState, collection_tree}
use Rattle.script_replay.proofs.EventLines.{happens_platform}
use Rattle.script_replay.proofs.Failures.{marks_same, marks_acted, marks_decided}

-- the domains that had failed before a call are marks for what the call made fail
pub answered_marks : (s t : RunState) (r : CallFacts) (reply : Reply) (marks : List Bool) → IsSoundTree (collection_tree s) → ((k : ℕ) → get_or marks k false ≡ failed_at (collection_tree s) k)
    → Replies s r reply t → AreMarksOf (collection_tree s) (collection_tree t) marks
answered_marks s _ r _ marks sound marked (skips none) = marks_same (collection_tree s) marks marked
answered_marks s _ r _ marks sound marked (misreads k d fault here act read) = marks_same (collection_tree s) marks marked
answered_marks s _ r _ marks sound marked (starves k d fault here act want lack) = marks_same (collection_tree s) marks marked
answered_marks s _ r _ marks sound marked (lacks k d asked here act read) = marks_same (collection_tree s) marks marked
answered_marks s _ r _ marks sound marked (refuses k deed refusal here asks why) = marks_same (collection_tree s) marks marked
answered_marks s _ r _ marks sound marked (accepts k made deed tree here asks done) =
    rw done (marks_acted (collection_tree s) k deed (record { tree = tree; node = made }) marks sound marked done)
answered_marks s _ r _ marks sound marked (tells k here asks) = marks_same (collection_tree s) marks marked

-- what is the other of a test has that as its other
pub turned : (a b : Bool) → a ≡ not b → b ≡ not a
turned a true e = sym (ap not e)
turned a false e = sym (ap not e)

-- a decision with what it makes fail
pub enters_as : (s t : RunState) (c : Claimed) (fate : FateFacts) (path : List ℕ) (before between after : List EventFacts) (marks : List Bool)
    → IsDecidedBy c.claim fate → path ≡ path_of (collection_tree s).nodes c.domain → between ≡ before ++ becomes path fate ∷ []
    → ((n : ℕ) → get_or marks n false ≡ failed_at (collection_tree s) n)
    → ((old : TreeFacts) → AreMarksOf old (collection_tree t) marks → after ≡ between ++ failed_events old (collection_tree t)) → t ≡ with_decision s (answer_of c) → EntersIn s t c before after
enters_as s t c fate path before between after marks decided here added marked failed is = record {
  fate = fate;
  decided = decided;
  entered = is;
  put = all ∙ (ap (λ ts. ts ++ more) (added ∙ ap (λ (p : List ℕ). before ++ becomes p fate ∷ []) here)
      ∙ append_assoc before (becomes (path_of (collection_tree s).nodes c.domain) fate ∷ []) more);
} where
  d : DomainVerdict
  d = answer_of c

  more : List EventFacts
  more = failed_events (collection_tree s) (collection_tree (with_decision s d))

  all : after ≡ between ++ more
  all = (subst (λ (x : RunState). (old : TreeFacts) → AreMarksOf old (collection_tree x) marks → after ≡ between ++ failed_events old (collection_tree x)) is failed)
      (collection_tree s) (marks_decided (collection_tree s) d.domain (choices_of d.verdict) marks marked)

-- how a script stands with this book
abbrev pub state_at : BookFacts → List (Option ℕ) → Bool → RunState
state_at b names starved = record { platform = b.platform; book = b.state; names = names; starved = starved }

-- a decision that was entered, with whether memory was refused to it
pub entered_as : (old b : BookFacts) (names : List (Option ℕ)) (starved wants : Bool) (t : RunState) (c : Claimed) → t ≡ state_at b names (starved || wants) → b ≡ entered old (Decided c)
    → wants ≡ is_none (answer_of c).verdict → t ≡ with_decision (state_at old names starved) (answer_of c)
entered_as old b names starved wants t c is same short =
    is ∙ (ap (λ (x : BookFacts). state_at x names (starved || wants)) same ∙ ap (λ (w : Bool). state_at (entered old (Decided c)) names (starved || w)) short)

-- a book's history is one entry longer by it
pub one_longer : (old new : BookFacts) (c : Claimed) → new ≡ entered old (Decided c) → length new.history ≡ length old.history + 1
one_longer old new c is = ap (λ (b : BookFacts). length b.history) is ∙ length-append old.history (Decided c ∷ [])

-- and has at most 639
pub few_in : FewEntries → (b : BookFacts) → IsBook b → length b.history ≤ 639
few_in few b is = few b.platform b.history is.legal

-- calls and decisions, and others that go on from there
pub happens_on : (number : ℕ) (s t u : RunState) (rs qs : List CallFacts) (a b : List EventFacts) (cs ds : List Certified) → Happens number s rs a cs t → Happens (number + length rs) t qs b ds u
    → Happens number s (rs ++ qs) (a ++ b) (cs ++ ds) u
happens_on _ _ _ u _ qs _ b _ ds (happening.stays number s) on = let z : number + 0 ≡ number = omega arith in subst (λ k. Happens k s qs b ds u) z on
happens_on _ _ _ u _ qs _ b _ ds (happening.calls number s answered t r rs reply events cs idle replied rest) on =
    let z : number + suc (length rs) ≡ (number + 1) + length rs = omega arith in
    subst (λ es. Happens number s (r ∷ rs ++ qs) es (cs ++ ds) u) (sym (append_assoc (call_events number s r reply answered) events b))
    (happening.calls number s answered u r (rs ++ qs) reply (events ++ b) (cs ++ ds) idle replied (happens_on (number + 1) answered t u rs qs events b cs ds rest (subst (λ k. Happens k t qs b ds u) z on)))
happens_on _ _ _ u _ qs _ b _ ds (happening.decides number s t c rs fate events cs allowed decided rest) on =
    subst (λ es. Happens number s (rs ++ qs) es (certified s c ∷ cs ++ ds) u) (sym (append_assoc (decision_events s c fate) events b))
    (happening.decides number s u c (rs ++ qs) fate (events ++ b) (cs ++ ds) allowed decided (happens_on number (with_decision s (answer_of c)) t u rs qs events b cs ds rest on))

-- the same of what happens after others
pub goes_in : (number : ℕ) (s t u : RunState) (rs qs : List CallFacts) (before now next : List EventFacts) (G H K : Gave) → GoesIn number s rs t before now G H → GoesIn (number + length rs) t qs u now next H K
    → GoesIn number s (rs ++ qs) u before next G K
goes_in number s t u rs qs before now next G H K first on = record {
  events = first.events ++ on.events;
  decisions = first.decisions ++ on.decisions;
  goes = happens_on number s t u rs qs first.events on.events first.decisions on.decisions first.goes on.goes;
  put = on.put ∙ (ap (λ ts. ts ++ on.events) first.put ∙ append_assoc before first.events on.events);
  gave = λ cs g. subst K (append_assoc cs first.decisions on.decisions) (on.gave (cs ++ first.decisions) (first.gave cs g));
}

pub starts : (number : ℕ) (s : RunState) (before : List EventFacts) (G : Gave) → GoesIn number s [] s before before G G
starts number s before G = record { events = []; decisions = []; goes = happening.stays number s; put = sym (append-nil before); gave = λ cs g. subst G (sym (append-nil cs)) g }

one_decision : (number : ℕ) (s t : RunState) (before after : List EventFacts) (G H : Gave) → DecidesIn s t before after G H → GoesIn number s [] t before after G H
one_decision number s t before after G H d = record {
  events = decision_events s d.claimed d.enters.fate ++ [];
  decisions = certified s d.claimed ∷ [];
  goes = happening.decides number s t d.claimed [] d.enters.fate [] [] d.allowed d.enters.decided (subst (λ x. Happens number x [] [] [] t) d.enters.entered (happening.stays number t));
  put = d.enters.put ∙ ap (λ ts. before ++ ts) (sym (append-nil (decision_events s d.claimed d.enters.fate)));
  gave = d.gave;
}

-- one decision more
pub one_more : (s t u : RunState) (before now next : List EventFacts) (G : Gave) (H K : PlatformFacts → Gave) → DecidesIn t u now next (H t.platform) (K t.platform)
    → ((number : ℕ) → GoesIn number s [] t before now G (H s.platform)) → (number : ℕ) → GoesIn number s [] u before next G (K s.platform)
one_more s t u before now next G H K d on number =
    let first = on number in
    let same = happens_platform number s t [] first.events first.decisions first.goes in
    goes_in number s t u [] [] before now next G (H s.platform) (K s.platform) first
    (one_decision (number + 0) t u now next (H s.platform) (K s.platform) (subst (λ p. DecidesIn t u now next (H p) (K p)) same d))
