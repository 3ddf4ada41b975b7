-- The calls so far, and one more.
use Rattle.std.proofs.Common.{◌≡◌, ℕ, ◌+◌, ◌<◌, ◌≤◌, ◌++◌, List, [], ◌∷◌, None, false, drop, map, length, get_or, refl, sym, ◌∙◌, ap, subst, arith, append-nil, append_assoc, length-append}
use Rattle.std.proofs.lemmas.List.{at_drop_more, at_drop_all, drop-map, length-map}
use Rattle.sysmem_alloc.specs.Book.{BookFacts}
use Rattle.sysmem_alloc.specs.State.{State as BookState, next_ready}
use Rattle.negotiation_inputs.specs.Platform.{PlatformFacts}
use Rattle.script_reading.specs.declared.call.Call.{Call}
use Rattle.script_reading.specs.Script.{CallFacts}
use Rattle.script_reading.specs.Seen.{call_seen}
use Rattle.script_replay.specs.declared.decider.Objection.{Objection}
use Rattle.script_replay.specs.Replayed.{LeavesIn}
use Rattle.script_replay.specs.Events.{EventFacts, HappensTo, events_text, pending_events}
use Rattle.script_replay.specs.Report.{Gave, IsReport, IsReported, pending_lines}
use Rattle.script_replay.specs.Steps.{GoesIn}
use Rattle.script_replay.specs.State.{RunState, first_run_state}
use Rattle.script_replay.specs.Stop.{IsStopped, Objects, StopsIn}
use Rattle.script_replay.proofs.Following.{goes_in, starts}
use Rattle.script_replay.proofs.EventLines.{ends_told, goes_told, happens_platform}
use Rattle.script_replay.proofs.Stopping.{stops_behind}

-- the calls before this place were made, and lead to a state in which no domain waits
pub record Reaches (platform : PlatformFacts) (rs : List CallFacts) (place : ℕ) (s : RunState) (events : List EventFacts) (old new : Gave) : Type 0 where
  pub made : List CallFacts
  pub split : rs ≡ made ++ drop place rs
  pub many : length made ≡ place
  pub goes : GoesIn 1 (first_run_state platform) made s [] events old new
  pub idle : next_ready s.book ≡ None

pub reaches-start : (platform : PlatformFacts) (rs : List CallFacts) (s : RunState) (events : List EventFacts) (G : Gave) → s ≡ first_run_state platform → events ≡ [] → Reaches platform rs 0 s events G G
reaches-start platform rs s events G is empty = subst (λ x. Reaches platform rs 0 x events G G) (sym is) (subst (λ ts. Reaches platform rs 0 (first_run_state platform) ts G G) (sym empty) (record {
  made = [];
  split = refl;
  many = refl;
  goes = starts 1 (first_run_state platform) [] G;
  idle = refl;
}))

-- the platform is the first state's
pub reached-platform : (platform : PlatformFacts) (rs : List CallFacts) (place : ℕ) (s : RunState) (events : List EventFacts) (G H : Gave) → Reaches platform rs place s events G H → s.platform ≡ platform
reached-platform platform rs place s events G H reached = happens_platform 1 (first_run_state platform) s reached.made reached.goes.events reached.goes.decisions reached.goes.goes

pub reaches-take : (platform : PlatformFacts) (rs : List CallFacts) (place : ℕ) (s t : RunState) (r : CallFacts) (before after : List EventFacts) (G : Gave) (H K : PlatformFacts → Gave)
    → drop place rs ≡ r ∷ drop (place + 1) rs → GoesIn (place + 1) s (r ∷ []) t before after (H s.platform) (K s.platform) → next_ready t.book ≡ None
    → Reaches platform rs place s before G (H platform) → Reaches platform rs (place + 1) t after G (K platform)
reaches-take platform rs place s t r before after G H K here taken idle reached =
    let number : place + 1 ≡ 1 + length reached.made = omega (arith, reached.many) in
    let same = reached-platform platform rs place s before G (H platform) reached in
    record {
      made = reached.made ++ r ∷ [];
      split = reached.split ∙ (ap (λ qs. reached.made ++ qs) here ∙ sym (append_assoc reached.made (r ∷ []) (drop (place + 1) rs)));
      many = length-append reached.made (r ∷ []) ∙ ap (λ n. n + 1) reached.many;
      goes = goes_in 1 (first_run_state platform) s t reached.made (r ∷ []) [] before after G (H platform) (K platform) reached.goes
          (subst (λ n. GoesIn n s (r ∷ []) t before after (H platform) (K platform)) number (subst (λ p. GoesIn (place + 1) s (r ∷ []) t before after (H p) (K p)) same taken));
      idle = idle;
    }

-- an objection after them
pub reaches-stop : (platform : PlatformFacts) (rs : List CallFacts) (place : ℕ) (s t : RunState) (r : CallFacts) (before : List EventFacts) (G : Gave) (H K : PlatformFacts → Gave) (objects : Objects) (o : Objection)
    → drop place rs ≡ r ∷ drop (place + 1) rs → t.starved ≡ false → StopsIn (place + 1) s (r ∷ []) t (H s.platform) (K s.platform) objects o
    → Reaches platform rs place s before G (H platform) → IsStopped platform rs G (K platform) objects o
reaches-stop platform rs place s t r before G H K objects o here fed stops reached =
    let number : place + 1 ≡ 1 + length reached.made = omega (arith, reached.many) in
    let same = reached-platform platform rs place s before G (H platform) reached in
    record {
      last = t;
      stops = stops_behind (first_run_state platform) s t rs reached.made (r ∷ []) (drop (place + 1) rs) [] before G (H platform) (K platform) objects o (reached.split ∙ ap (λ qs. reached.made ++ qs) here) reached.goes
          (subst (λ n. StopsIn n s (r ∷ []) t (H platform) (K platform) objects o) number (subst (λ p. StopsIn (place + 1) s (r ∷ []) t (H p) (K p) objects o) same stops));
      fed = fed;
    }

-- the call at a place, and the calls after it
pub drop-call_seen : (calls : List Call) (place : ℕ) (call : Call) → place < length calls → call ≡ get_or calls place call
    → drop place (map call_seen calls) ≡ call_seen call ∷ drop (place + 1) (map call_seen calls)
drop-call_seen calls place call within e =
    drop-map call_seen place calls ∙ (at_drop_more (λ (l : List Call). map call_seen l) calls place call within
    ∙ (ap (λ (c : Call). call_seen c ∷ map call_seen (drop (place + 1) calls)) (sym e) ∙ ap (λ (l : List CallFacts). call_seen call ∷ l) (sym (drop-map call_seen (place + 1) calls))))

-- after all calls, these were made
reaches-all : (platform : PlatformFacts) (calls : List Call) (place : ℕ) (s : RunState) (events : List EventFacts) (G H : Gave) → length calls ≤ place
    → Reaches platform (map call_seen calls) place s events G H → GoesIn 1 (first_run_state platform) (map call_seen calls) s [] events G H
reaches-all platform calls place s events G H all reached =
    let none : drop place (map call_seen calls) ≡ [] = at_drop_all (λ (l : List CallFacts). l) (map call_seen calls) place (rw length-map all) in
    let whole : reached.made ≡ map call_seen calls = sym (append-nil reached.made) ∙ (ap (λ qs. reached.made ++ qs) (sym none) ∙ sym reached.split) in
    subst (λ qs. GoesIn 1 (first_run_state platform) qs s [] events G H) whole reached.goes

-- after all calls the report ends
report_at : (platform : PlatformFacts) (calls : List Call) (s : RunState) (before after : List EventFacts) (G H : Gave) (text : List ℕ) → next_ready s.book ≡ None
    → (goes : GoesIn 1 (first_run_state platform) (map call_seen calls) s [] before G H) → after ≡ before ++ pending_events s.book → text ≡ events_text platform after
    → IsReport platform (map call_seen calls) text goes.decisions s.starved
report_at platform calls s before after G H text idle goes e f = record {
  last = s;
  lines = events_text platform goes.events;
  goes = goes_told 1 (first_run_state platform) s (map call_seen calls) goes.events goes.decisions goes.goes;
  done = idle;
  put = f ∙ (ends_told platform s before after e ∙ ap (λ es. events_text platform es ++ pending_lines s.book) goes.put);
  memory = refl;
}

pub reaches-end : (platform : PlatformFacts) (calls : List Call) (place : ℕ) (s : RunState) (before after : List EventFacts) (G H : Gave) (text : List ℕ) → length calls ≤ place → G []
    → Reaches platform (map call_seen calls) place s before G H → after ≡ before ++ pending_events s.book → text ≡ events_text platform after
    → IsReported platform (map call_seen calls) H text s.starved
reaches-end platform calls place s before after G H text all given reached e f =
    let goes = reaches-all platform calls place s before G H all reached in
    record {
      decisions = goes.decisions;
      report = report_at platform calls s before after G H text reached.idle goes e f;
      gave = goes.gave [] given;
    }

-- and the collection stands as the last of them left it
pub reaches-last : (platform : PlatformFacts) (calls : List Call) (place : ℕ) (s : RunState) (before after : List EventFacts) (G H : Gave) (text : List ℕ) → length calls ≤ place
    → Reaches platform (map call_seen calls) place s before G H → after ≡ before ++ pending_events s.book → text ≡ events_text platform after
    → LeavesIn platform (map call_seen calls) text s
unfolding report_at
reaches-last platform calls place s before after G H text all reached e f =
    let goes = reaches-all platform calls place s before G H all reached in
    record {
      decisions = goes.decisions;
      report = report_at platform calls s before after G H text reached.idle goes e f;
      stands = refl;
    }

-- that is what happened
pub reaches-all-events : (platform : PlatformFacts) (calls : List Call) (place : ℕ) (s : RunState) (before after : List EventFacts) (G H : Gave) → length calls ≤ place → G []
    → Reaches platform (map call_seen calls) place s before G H → after ≡ before ++ pending_events s.book
    → HappensTo platform (map call_seen calls) H after s
reaches-all-events platform calls place s before after G H all given reached e =
    let goes = reaches-all platform calls place s before G H all reached in
    record {
      decisions = goes.decisions;
      happened = goes.events;
      happens = goes.goes;
      done = reached.idle;
      put = e ∙ ap (λ es. es ++ pending_events s.book) goes.put;
      gave = goes.gave [] given;
    }

-- what is added for a book that was lent is added for the book
pub added_to : (b lent : BookFacts) (before after : List EventFacts) (s : RunState) → lent ≡ b → after ≡ before ++ pending_events lent.state → b.state ≡ s.book → after ≡ before ++ pending_events s.book
added_to b lent before after s same added is = added ∙ (ap (λ (x : BookFacts). before ++ pending_events x.state) same ∙ ap (λ (x : BookState). before ++ pending_events x) is)

-- a platform that was lent is that of the calls
pub platform_is : (platform p : PlatformFacts) (b lent : BookFacts) (rs : List CallFacts) (place : ℕ) (s : RunState) (events : List EventFacts) (G H : Gave) → lent ≡ b → p ≡ lent.platform → b.platform ≡ s.platform
    → Reaches platform rs place s events G H → p ≡ platform
platform_is platform p b lent rs place s events G H same lends is reached = lends ∙ (ap (λ (x : BookFacts). x.platform) same ∙ (is ∙ reached-platform platform rs place s events G H reached))

-- a text that begins empty is that of the events
pub text_is : (platform p : PlatformFacts) (events : List EventFacts) (start text : List ℕ) → start ≡ [] → p ≡ platform → text ≡ start ++ events_text p events → text ≡ events_text platform events
text_is platform p events start text empty same put = put ∙ (ap (λ ts. ts ++ events_text p events) empty ∙ ap (λ (q : PlatformFacts). events_text q events) same)
