-- Where decisions stop.
use Rattle.std.proofs.Common.{◌≡◌, ℕ, suc, arith, ◌+◌, ◌++◌, List, [], ◌∷◌, length, Some, None, Result, Err, refl, sym, ◌∙◌, ap, subst, append-nil, append_assoc}
use Rattle.std.specs.Prelude.{IfErr}
use Rattle.sysmem_alloc.specs.Decision.{answer_of}
use Rattle.sysmem_alloc.specs.State.{next_ready}
use Rattle.negotiation_inputs.specs.Platform.{PlatformFacts}
use Rattle.script_reading.specs.Script.{CallFacts}
use Rattle.script_replay.specs.declared.decider.Objection.{Objection}
use Rattle.script_replay.specs.declared.decider.Stop.{Stop}
use Rattle.script_replay.specs.declared.decider.Stop.TheVariants.{NoMemory, Refused}
use Rattle.script_replay.specs.Events.{EventFacts, events_text}
use Rattle.script_replay.specs.Report.{Certified, Gave, Goes, calls, call_lines, certified, decides, decision_lines, stays, with_decision}
use Rattle.script_replay.specs.Steps.{GoesIn, RepliesIn}
use Rattle.script_replay.specs.State.{RunState}
use Rattle.script_replay.specs.Stop.{IfObjects, Objects, StopsIn}
use Rattle.script_replay.proofs.EventLines.{goes_told}
use Rattle.script_replay.proofs.CallerLemmas.{goes_platform, replies_platform}

-- of an objection another holds
pub objects_so : (stop : Stop) (P Q : Objection → Type 0) → ((o : Objection) → P o → Q o) → IfObjects stop P → IfObjects stop Q
objects_so NoMemory P Q f h = tt
objects_so (Refused o) P Q f h = f o h

pub objects_both : (stop : Stop) (P Q R : Objection → Type 0) → ((o : Objection) → P o → Q o → R o) → IfObjects stop P → IfObjects stop Q → IfObjects stop R
objects_both NoMemory P Q R f h g = tt
objects_both (Refused o) P Q R f h g = f o h g

-- a stop that is passed on
pub passed_on : {T : Type 0} (result : Result T Stop) (stop : Stop) (P : Objection → Type 0) → result ≡ Err stop → IfObjects stop P → IfErr result (λ s. IfObjects s P)
passed_on result stop P is h = subst (λ r. IfErr r (λ s. IfObjects s P)) (sym is) h

-- where memory was refused, there is no objection
pub no_objection : {T : Type 0} (result : Result T Stop) (P : Objection → Type 0) → result ≡ Err NoMemory → IfErr result (λ s. IfObjects s P)
no_objection result P is = passed_on result NoMemory P is tt

-- a stop after which an objection is said alone where memory was not refused before
pub stopped_as : (result stop : Stop) (Fed : Type 0) (P Q : Objection → Type 0) → ((o : Objection) → Fed → P o → Q o) → IfObjects result (λ o. (stop ≡ Refused o) × Fed) → IfObjects stop P → IfObjects result Q
stopped_as NoMemory stop Fed P Q f a h = tt
stopped_as (Refused o) stop Fed P Q f a h = f o a.1 (subst (λ s. IfObjects s P) a.0 h)

-- at the first domain that waits now
pub stops_here : (s : RunState) (G H : Gave) (objects : Objects) (domain : ℕ) (o : Objection) → next_ready s.book ≡ Some domain → ((cs : List _) → G cs → H cs) → objects s.platform s.book domain o
    → (number : ℕ) → StopsIn number s [] s G H objects o
stops_here s G H objects domain o next kept object number = record {
  made = [];
  left = [];
  split = refl;
  lines = [];
  decisions = [];
  goes = stays number s;
  gave = λ cs g. subst H (sym (append-nil cs)) (kept cs g);
  domain = domain;
  next = next;
  object = object;
}

-- calls and decisions, and others that go on from there
goes_on : (number : ℕ) (s t u : RunState) (rs qs : List CallFacts) (a b : List ℕ) (cs ds : List Certified) → Goes number s rs a cs t → Goes (number + length rs) t qs b ds u
    → Goes number s (rs ++ qs) (a ++ b) (cs ++ ds) u
goes_on _ _ _ u _ qs _ b _ ds (stays number s) on = let z : number + 0 ≡ number = omega arith in subst (λ k. Goes k s qs b ds u) z on
goes_on _ _ _ u _ qs _ b _ ds (calls number s answered t r rs reply text cs idle replied rest) on =
    let z : number + suc (length rs) ≡ (number + 1) + length rs = omega arith in
    subst (λ ts. Goes number s (r ∷ rs ++ qs) ts (cs ++ ds) u) (sym (append_assoc (call_lines number s r reply answered) text b))
    (calls number s answered u r (rs ++ qs) reply (text ++ b) (cs ++ ds) idle replied (goes_on (number + 1) answered t u rs qs text b cs ds rest (subst (λ k. Goes k t qs b ds u) z on)))
goes_on _ _ _ u _ qs _ b _ ds (decides number s t c rs what text cs allowed said rest) on =
    subst (λ ts. Goes number s (rs ++ qs) ts (certified s c ∷ cs ++ ds) u) (sym (append_assoc (decision_lines s (answer_of c) what) text b))
    (decides number s u c (rs ++ qs) what (text ++ b) (cs ++ ds) allowed said (goes_on number (with_decision s (answer_of c)) t u rs qs text b cs ds rest on))

-- at one that waits after further decisions
pub stops_on : (s t u : RunState) (before now : List EventFacts) (G : Gave) (H K : PlatformFacts → Gave) (objects : Objects) (o : Objection) → ((number : ℕ) → GoesIn number s [] t before now G (H s.platform))
    → ((number : ℕ) → StopsIn number t [] u (H t.platform) (K t.platform) objects o) → (number : ℕ) → StopsIn number s [] u G (K s.platform) objects o
stops_on s t u before now G H K objects o goes stops number =
    let first = goes number in
    let told = goes_told number s t [] first.events first.decisions first.goes in
    let same = goes_platform number s t [] (events_text s.platform first.events) first.decisions told in
    let on = subst (λ p. StopsIn (number + 0) t [] u (H p) (K p) objects o) same (stops (number + 0)) in
    record {
      made = on.made;
      left = on.left;
      split = on.split;
      lines = events_text s.platform first.events ++ on.lines;
      decisions = first.decisions ++ on.decisions;
      goes = goes_on number s t u [] on.made (events_text s.platform first.events) on.lines first.decisions on.decisions told on.goes;
      gave = λ cs g. subst (K s.platform) (append_assoc cs first.decisions on.decisions) (on.gave (cs ++ first.decisions) (first.gave cs g));
      domain = on.domain;
      next = on.next;
      object = on.object;
    }

-- after a call
pub stops_after : (number : ℕ) (s mid u : RunState) (r : CallFacts) (before now : List EventFacts) (H K : PlatformFacts → Gave) (objects : Objects) (o : Objection) → next_ready s.book ≡ None → RepliesIn number s r mid before now
    → ((k : ℕ) → StopsIn k mid [] u (H mid.platform) (K mid.platform) objects o) → StopsIn number s (r ∷ []) u (H s.platform) (K s.platform) objects o
stops_after number s mid u r before now H K objects o idle replied stops =
    let on = subst (λ p. StopsIn (number + 1) mid [] u (H p) (K p) objects o) (replies_platform s mid r replied.reply replied.replies) (stops (number + 1)) in
    record {
      made = r ∷ on.made;
      left = on.left;
      split = ap (λ qs. r ∷ qs) on.split;
      lines = call_lines number s r replied.reply mid ++ on.lines;
      decisions = on.decisions;
      goes = calls number s mid u r on.made replied.reply on.lines on.decisions idle replied.replies on.goes;
      gave = on.gave;
      domain = on.domain;
      next = on.next;
      object = on.object;
    }

-- after the calls before it
pub stops_behind : (s t u : RunState) (rs made qs left : List CallFacts) (before now : List EventFacts) (G H K : Gave) (objects : Objects) (o : Objection) → rs ≡ made ++ (qs ++ left) → GoesIn 1 s made t before now G H
    → StopsIn (1 + length made) t qs u H K objects o → StopsIn 1 s rs u G K objects o
stops_behind s t u rs made qs left before now G H K objects o split first on = record {
  made = made ++ on.made;
  left = on.left ++ left;
  split = split ∙ (ap (λ xs. made ++ (xs ++ left)) on.split ∙ (ap (λ xs. made ++ xs) (append_assoc on.made on.left left) ∙ sym (append_assoc made on.made (on.left ++ left))));
  lines = events_text s.platform first.events ++ on.lines;
  decisions = first.decisions ++ on.decisions;
  goes = goes_on 1 s t u made on.made (events_text s.platform first.events) on.lines first.decisions on.decisions (goes_told 1 s t made first.events first.decisions first.goes) on.goes;
  gave = λ cs g. subst K (append_assoc cs first.decisions on.decisions) (on.gave (cs ++ first.decisions) (first.gave cs g));
  domain = on.domain;
  next = on.next;
  object = on.object;
}
