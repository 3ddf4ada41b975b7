-- The calls of a settled history come to what it is of.
use Rattle.std.proofs.Common.{◌≡◌, ℕ, ◌+◌, List, [], ◌∷◌, false, Some, None, Ok, refl, sym, ◌∙◌, ap, subst}
use Rattle.std.specs.Prelude.{is_none}
use Rattle.live_book.specs.Eager.{ArePrompt}
use Rattle.live_book.specs.Snapshot.{IsSettled, SnapshotFacts}
use Rattle.live_script.specs.Recurring.{AllAccepted, AreClaimed, ComesTo, Recurs}
use Rattle.live_script.specs.Script.{AreCallsOf}
use Rattle.live_script.proofs.Named.{IsNamed, acted_named, decided_named, first_named, is_made, named_node}
use Rattle.script_replay.proofs.CallerLemmas.{answer_for, has_verdict, is_answer, one_decision, or_right, unstarved_before}
use Rattle.node_names.specs.Names.{NamedNode}
use Rattle.script_reading.specs.Script.{CallFacts}
use Rattle.script_replay.specs.Answer.{Replies, accepts}
use Rattle.script_replay.specs.Report.{Certified, Goes, calls, decides, stays, with_decision}
use Rattle.script_replay.specs.State.{RunState, acted, first_run_state, node_named}
use Rattle.script_replay.specs.declared.reply.Reply.{Reply}
use Rattle.script_replay.specs.declared.reply.Reply.TheVariants.{Accepted}
use Rattle.sysmem_alloc.specs.Decision.{Claimed, DomainVerdict, answer_of}
use Rattle.sysmem_alloc.specs.Entry.{BookEntry, Acted, Decided}
use Rattle.sysmem_alloc.specs.History.{AreAllowed, after_entry, replay_from}
use Rattle.sysmem_alloc.specs.State.{next_ready}
use Rattle.verdict_claims.specs.Laws.{OneAnswer}

not_both : (s : RunState) (r : ℕ) {A : Type 0} → next_ready s.book ≡ None → next_ready s.book ≡ Some r → A
not_both s r none some = absurd (cc (none, some))

-- entries that may follow a state in which the names stand for the nodes
record Follows (s : RunState) (es : List BookEntry) : Type 0 where
  allowed : AreAllowed s.platform s.book es
  prompt : ArePrompt s.book es
  idle : next_ready (replay_from s.book es) ≡ None
  named : IsNamed s

-- what calls come to
abbrev Came : (number : ℕ) (s t : RunState) (es : List BookEntry) (rs : List CallFacts) (text : List ℕ) (cs : List Certified) → Goes number s rs text cs t → Type 0
Came number s t es rs text cs goes = AllAccepted number s t rs text cs goes × (t.book ≡ replay_from s.book es)

module _ (one : OneAnswer) where
  recur : (number : ℕ) (s t : RunState) (es : List BookEntry) (rs : List CallFacts) (text : List ℕ) (cs : List Certified) (names : List NamedNode) → Follows s es → AreClaimed es → AreCallsOf names es rs
      → (goes : Goes number s rs text cs t) → next_ready t.book ≡ None → t.starved ≡ false → Came number s t es rs text cs goes
  recur _ _ _ [] _ _ _ names f claimed own (stays number s) done fed = (tt, refl)
  recur _ _ _ [] _ _ _ names f claimed own (calls number s answered t r rs reply text cs idle replied rest) done fed = absurd own
  recur _ _ _ [] _ _ _ names f claimed own (decides number s t c rs what text cs allowed tells rest) done fed = not_both s c.domain f.idle allowed.0
  recur _ _ _ (Acted k deed ∷ es) _ _ _ names f claimed own (stays number s) done fed = absurd own
  recur _ _ _ (Acted k deed ∷ es) _ _ _ names f claimed own (decides number s t c [] what text cs allowed tells rest) done fed = absurd own
  recur _ _ _ (Acted k deed ∷ es) _ _ _ names f claimed own (decides number s t c (r ∷ rs) what text cs allowed tells rest) done fed = not_both s c.domain f.prompt.0 allowed.0
  recur _ _ _ (Acted k deed ∷ es) _ _ _ names f claimed own (calls number s answered t r rs reply text cs idle replied rest) done fed =
      let (after, did) = is_made _ f.allowed.0 in
      let here : node_named s r ≡ Some k = named_node s r k deed after f.named own.0.place did in
      let acted_on : RunState = acted s r.act (Acted k deed) after.node in
      let mine : Replies s r Accepted acted_on = accepts k after.node deed after.tree here own.0.asks did in
      let first : (reply, answered) ≡ answer_for s r (node_named s r) = is_answer s r reply answered replied (unstarved_before (number + 1) answered t rs text cs rest fed) in
      let well : s.starved ≡ false = unstarved_before number s t (r ∷ rs) _ cs (calls number s answered t r rs reply text cs idle replied rest) fed in
      let second : (Accepted, acted_on) ≡ answer_for s r (node_named s r) = is_answer s r Accepted acted_on mine well in
      let same : answered ≡ acted_on = ap (λ (p : Reply × RunState). p.1) (first ∙ sym second) in
      let next : Follows acted_on es = record { allowed = f.allowed.1; prompt = f.prompt.1; idle = f.idle; named = acted_named s r.act k deed after f.named own.0.asks did } in
      let on = recur (number + 1) answered t es rs text cs names (subst (λ (z : RunState). Follows z es) (sym same) next) claimed.1 own.1 rest done fed in
      ((ap (λ (p : Reply × RunState). p.0) (first ∙ sym second), on.0), on.1 ∙ ap (λ (z : RunState). replay_from z.book es) same)
  recur _ _ _ (Decided c ∷ es) _ _ _ names f claimed own (stays number s) done fed = not_both s c.domain done f.allowed.0.0
  recur _ _ _ (Decided c ∷ es) _ _ _ names f claimed own (calls number s answered t r rs reply text cs idle replied rest) done fed = not_both s c.domain idle f.allowed.0.0
  recur _ _ _ (Decided c ∷ es) _ _ _ names f claimed own (decides number s t d rs what text cs allowed tells rest) done fed =
      let other : is_none (answer_of d).verdict ≡ false = or_right s.starved (is_none (answer_of d).verdict) (unstarved_before number (with_decision s (answer_of d)) t rs text cs rest fed) in
      let same : answer_of d ≡ answer_of c = one_decision one s d c allowed f.allowed.0 other (has_verdict c.claim claimed.0) in
      let next : Follows (with_decision s (answer_of c)) es = record { allowed = f.allowed.1; prompt = f.prompt.1; idle = f.idle; named = decided_named s (answer_of c) f.named } in
      let on = recur number (with_decision s (answer_of d)) t es rs text cs names (subst (λ (z : DomainVerdict). Follows (with_decision s z) es) (sym same) next) claimed.1 own rest done fed in
      (on.0, on.1 ∙ ap (λ (z : DomainVerdict). replay_from (with_decision s z).book es) same)

  pub recurs : (s : SnapshotFacts) (rs : List CallFacts) → IsSettled s.platform s.history → AreCallsOf s.names s.history rs → Recurs s rs
  recurs s rs settled own claimed text cs report =
      let follows : Follows (first_run_state s.platform) s.history = record { allowed = settled.legal; prompt = settled.eager; idle = settled.idle; named = first_named s.platform } in
      let came = recur 1 (first_run_state s.platform) report.last s.history rs report.lines cs s.names follows claimed own report.goes report.done (sym report.memory) in
      record { accepted = came.0; state = came.1 }
