-- Calls have one report, where memory is not refused.
use Rattle.std.proofs.Common.{◌≡◌, ℕ, ◌+◌, ◌++◌, List, false, Option, Some, None, refl, sym, ◌∙◌, ap, subst}
use Rattle.std.specs.Prelude.{is_none}
use Rattle.sysmem_alloc.specs.Decision.{DomainVerdict, answer_of}
use Rattle.sysmem_alloc.specs.State.{next_ready}
use Rattle.sysmem_image.specs.Corners.{IsCorner}
use Rattle.sysmem_image.specs.Laws.{CornerIsLeast}
use Rattle.verdict_claims.specs.declared.verdict.Verdict.{Verdict}
use Rattle.verdict_claims.specs.Chosen.{ChosenFacts}
use Rattle.verdict_claims.specs.Laws.{OneAnswer}
use Rattle.negotiation_inputs.specs.Platform.{PlatformFacts}
use Rattle.script_reading.specs.Script.{CallFacts}
use Rattle.script_replay.specs.declared.reply.Reply.{Reply}
use Rattle.script_check.specs.Laws.{OneReport}
use Rattle.script_replay.specs.Lines.{chosen_text}
use Rattle.script_replay.specs.Report.{Certified, Tells, chose, none_meet, too_many, wants_memory, call_lines, with_decision, decision_lines, pending_lines, Goes, stays, calls, decides}
use Rattle.script_replay.proofs.CallerLemmas.{answer_for, is_answer, one_decision, or_right, unstarved_before}
use Rattle.script_replay.specs.State.{RunState, first_run_state, node_named}
use Rattle.script_check.proofs.OneCorner.{one_corner}

module _ (one : OneAnswer) (least : CornerIsLeast) where
  -- one line tells of a verdict
  one_telling : (platform : PlatformFacts) (v w : Option Verdict) (a b : List ℕ) → v ≡ w → Tells platform v a → Tells platform w b → a ≡ b
  one_telling platform _ _ _ _ e (chose chosen k x) (chose other m y) =
      let same : chosen ≡ other = cc in
      let there = subst (λ (c : ChosenFacts). IsCorner c.settings.offer c.settings.bounds m) (sym same) y in
      ap (λ (c : ChosenFacts). chosen_text platform c k) same ∙ ap (chosen_text platform other) (one_corner least chosen.settings.offer chosen.settings.bounds k m x there)
  one_telling platform _ _ _ _ e (chose chosen k x) none_meet = absurd (cc)
  one_telling platform _ _ _ _ e (chose chosen k x) too_many = absurd (cc)
  one_telling platform _ _ _ _ e (chose chosen k x) wants_memory = absurd (cc)
  one_telling platform _ _ _ _ e none_meet (chose other m y) = absurd (cc)
  one_telling platform _ _ _ _ e none_meet none_meet = refl
  one_telling platform _ _ _ _ e none_meet too_many = absurd (cc)
  one_telling platform _ _ _ _ e none_meet wants_memory = absurd (cc)
  one_telling platform _ _ _ _ e too_many (chose other m y) = absurd (cc)
  one_telling platform _ _ _ _ e too_many none_meet = absurd (cc)
  one_telling platform _ _ _ _ e too_many too_many = refl
  one_telling platform _ _ _ _ e too_many wants_memory = absurd (cc)
  one_telling platform _ _ _ _ e wants_memory (chose other m y) = absurd (cc)
  one_telling platform _ _ _ _ e wants_memory none_meet = absurd (cc)
  one_telling platform _ _ _ _ e wants_memory too_many = absurd (cc)
  one_telling platform _ _ _ _ e wants_memory wants_memory = refl

  joined : (a b c d : List ℕ) → a ≡ b → c ≡ d → a ++ c ≡ b ++ d
  joined a b c d e f = cc

  not_both : (s : RunState) (r : ℕ) → next_ready s.book ≡ None → next_ready s.book ≡ Some r → ⊥
  not_both s r none some = absurd (cc)

  -- the same calls lead on to one state and give one text, as far as domains that wait are
  -- decided and memory is not refused
  one_way : (number : ℕ) (s t u : RunState) (rs : List CallFacts) (a b : List ℕ) (cs ds : List Certified) → Goes number s rs a cs t → Goes number s rs b ds u
      → next_ready t.book ≡ None → next_ready u.book ≡ None → t.starved ≡ false → u.starved ≡ false → (t ≡ u) × (a ≡ b)
  one_way _ _ _ _ _ _ _ _ _ (stays number s) (stays _ _) x y e f = (refl, refl)
  one_way _ _ _ _ _ _ _ _ _ (stays number s) (decides _ _ u c _ what text ds allowed said rest) x y e f = absurd (not_both s c.domain x allowed.0)
  one_way _ _ _ _ _ _ _ _ _ (decides number s t c _ what text cs allowed said rest) (stays _ _) x y e f = absurd (not_both s c.domain y allowed.0)
  one_way _ _ _ _ _ _ _ _ _ (calls number s mid t r rs reply text cs idle replied rest) (decides _ _ u c _ what text' ds allowed said rest') x y e f = absurd (not_both s c.domain idle allowed.0)
  one_way _ _ _ _ _ _ _ _ _ (decides number s t c _ what text cs allowed said rest) (calls _ _ mid u r rs reply text' ds idle replied rest') x y e f = absurd (not_both s c.domain idle allowed.0)
  one_way _ _ _ _ _ _ _ _ _ (calls number s mid t r rs reply text cs idle replied rest) (calls _ _ mid' u _ _ reply' text' ds idle' replied' rest') x y e f =
      let first : (reply, mid) ≡ answer_for s r (node_named s r) = is_answer s r reply mid replied (unstarved_before (number + 1) mid t rs text cs rest e) in
      let second : (reply', mid') ≡ answer_for s r (node_named s r) = is_answer s r reply' mid' replied' (unstarved_before (number + 1) mid' u rs text' ds rest' f) in
      let same_reply : reply ≡ reply' = ap (λ (p : Reply × RunState). p.0) (first ∙ sym second) in
      let same_mid : mid' ≡ mid = ap (λ (p : Reply × RunState). p.1) (second ∙ sym first) in
      let there : Goes (number + 1) mid rs text' ds u = subst (λ (m : RunState). Goes (number + 1) m rs text' ds u) same_mid rest' in
      let (ends, rests) = one_way (number + 1) mid t u rs text text' cs ds rest there x y e f in (
        ends,
        joined (call_lines number s r reply mid) (call_lines number s r reply' mid') text text'
            (ap (λ (z : Reply). call_lines number s r z mid) same_reply ∙ ap (λ (m : RunState). call_lines number s r reply' m) (sym same_mid)) rests,
      )
  one_way _ _ _ _ _ _ _ _ _ (decides number s t c rs what text cs allowed said rest) (decides _ _ u c' _ what' text' ds allowed' said' rest') x y e f =
      let short : is_none (answer_of c).verdict ≡ false = or_right s.starved (is_none (answer_of c).verdict) (unstarved_before number (with_decision s (answer_of c)) t rs text cs rest e) in
      let short' : is_none (answer_of c').verdict ≡ false = or_right s.starved (is_none (answer_of c').verdict) (unstarved_before number (with_decision s (answer_of c')) u rs text' ds rest' f) in
      let same : answer_of c ≡ answer_of c' = one_decision one s c c' allowed allowed' short short' in
      let telling : what ≡ what' = one_telling s.platform (answer_of c).verdict (answer_of c').verdict what what' (ap (λ (z : DomainVerdict). z.verdict) same) said said' in
      let there : Goes number (with_decision s (answer_of c)) rs text' ds u = subst (λ (z : DomainVerdict). Goes number (with_decision s z) rs text' ds u) (sym same) rest' in
      let (ends, rests) = one_way number (with_decision s (answer_of c)) t u rs text text' cs ds rest there x y e f in
      (ends, joined (decision_lines s (answer_of c) what) (decision_lines s (answer_of c') what') text text' (ap (λ (z : DomainVerdict). decision_lines s z what) same ∙ ap (decision_lines s (answer_of c')) telling) rests)

  pub one_report : OneReport
  one_report platform rs a b cs ds x y =
      let (ends, lines) = one_way 1 (first_run_state platform) x.last y.last rs x.lines y.lines cs ds x.goes y.goes x.done y.done (sym x.memory) (sym y.memory) in
      x.put ∙ (joined x.lines y.lines (pending_lines x.last.book) (pending_lines y.last.book) lines (ap (λ (s : RunState). pending_lines s.book) ends) ∙ sym y.put)
