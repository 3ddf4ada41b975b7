-- A verdict stays.
use Rattle.std.proofs.Common.{◌≡◌, ℕ, Bool, true, false, not, ◌&&◌, ◌==◌, List, [], ◌∷◌, ◌++◌, Option, Some, None, Result, Ok, Err, refl, sym, ◌∙◌, ap, subst, rules, tests}
use Rattle.std.specs.Prelude.{option_map, unwrap_or, if◌then◌else◌}
use Rattle.std.specs.List.{AllByRecursion}
use Rattle.list_lemmas.proofs.CallerLemmas.{and_parts}
use Rattle.verdict_claims.specs.declared.verdict.Verdict.{Verdict}
use Rattle.verdict_claims.specs.declared.verdict.Verdict.TheVariants as verdicts
use Rattle.sysmem_tree.specs.declared.refusal.Refusal.{Refusal}
use Rattle.sysmem_tree.specs.Domain.{TreeFacts, HasDomain, has_failed, host_node, is_complete, is_host_selected, is_ready}
use Rattle.sysmem_tree.specs.Laws.{FailedStays, OneForest, ReadyStays}
use Rattle.sysmem_tree.specs.Tree.{Applied, applied}
use Rattle.negotiation_inputs.specs.Platform.{PlatformFacts}
use Rattle.sysmem_alloc.specs.Decision.{DomainVerdict, answer_of, choices_of, decision_for}
use Rattle.sysmem_alloc.specs.Entry.{BookEntry, Acted, Decided, tree_entry}
use Rattle.sysmem_alloc.specs.History.{after_answer, after_entry, replay, Allows, IsLegal}
use Rattle.sysmem_alloc.specs.Laws.{LegalIsSound, VerdictStays}
use Rattle.sysmem_alloc.specs.Sound.{IsOfReady}
use Rattle.sysmem_alloc.specs.State.{State, first_state, verdict_of}
use Rattle.sysmem_tree.proofs.CallerLemmas.{accepted}
use Rattle.sysmem_alloc.proofs.Entering.{replay_push}
use Rattle.sysmem_alloc.proofs.Lists.{all_each}
use Rattle.sysmem_alloc.proofs.Onward.{all_keep}
use Rattle.sysmem_alloc.proofs.Stepping.{accepts, tree_of_entry}
use Rattle.sysmem_alloc.proofs.Trees.{acted_there, decided_there}

-- the decision of a domain stays when another is entered
entered_front : (ds : List DomainVerdict) (x : DomainVerdict) (r : ℕ) (d : DomainVerdict) → decision_for ds r ≡ Some d → decision_for (ds ++ x ∷ []) r ≡ Some d
entered_front [] x r d is = absurd (cc)
entered_front (y ∷ ds) x r d is = by (y.domain == r) is (entered_front ds x r d) where
  by : (b : Bool) → (if b then Some y else decision_for ds r) ≡ Some d → (decision_for ds r ≡ Some d → decision_for (ds ++ x ∷ []) r ≡ Some d)
      → (if b then Some y else decision_for (ds ++ x ∷ []) r) ≡ Some d
  by true e rest = e
  by false e rest = rest e

pub decision_stays : (s : State) (e : BookEntry) (r : ℕ) (d : DomainVerdict) → decision_for s.decisions r ≡ Some d → decision_for (after_entry s e).decisions r ≡ Some d
decision_stays s (Acted i deed) r d is = by (applied s.tree i deed) where
  by : (o : Result Applied Refusal) → decision_for (after_answer s o).decisions r ≡ Some d
  by (Ok made) = is
  by (Err refusal) = is
decision_stays s (Decided c) r d is = entered_front s.decisions (answer_of c) r d is

-- what was decided is ready
decided_ready : (t : TreeFacts) (ds : List DomainVerdict) (r : ℕ) (d : DomainVerdict) → AllByRecursion (IsOfReady t) ds → decision_for ds r ≡ Some d → is_ready t r ≡ true
decided_ready t [] r d all is = absurd (cc)
decided_ready t (x ∷ ds) r d all is = by (x.domain == r) refl is (decided_ready t ds r d all.1) where
  by : (b : Bool) → (x.domain == r) ≡ b → (if b then Some x else decision_for ds r) ≡ Some d → (decision_for ds r ≡ Some d → is_ready t r ≡ true) → is_ready t r ≡ true
  by true own e rest = let same : x.domain ≡ r = search (rules, tests, own) in subst (λ k. is_ready t k ≡ true) same all.0.ready
  by false own e rest = rest e

-- and so hasn't failed
pub ready_unfailed : (t : TreeFacts) (r : ℕ) → is_ready t r ≡ true → has_failed t r ≡ false
ready_unfailed t r ready =
    let (_, rest) = and_parts (is_complete t.nodes r) (not (has_failed t r) && is_host_selected t.domains (host_node t.nodes r)) ready in
    by (has_failed t r) (and_parts (not (has_failed t r)) (is_host_selected t.domains (host_node t.nodes r)) rest).0 where
      by : (b : Bool) → not b ≡ true → b ≡ false
      by true e = absurd (cc)
      by false e = refl

-- a verdict, by whether the domain failed and by what was entered
abbrev pub shown : Bool → Option DomainVerdict → Option Verdict
shown failed o = if failed then Some verdicts.Failed else option_map (λ (d : DomainVerdict). unwrap_or d.verdict verdicts.NoMemory) o

-- a domain is there after an entry
pub there_after : (s : State) (e : BookEntry) (r : ℕ) → HasDomain s.tree.nodes r → HasDomain (after_entry s e).tree.nodes r
there_after s (Acted i deed) r has = by (applied s.tree i deed) refl where
  by : (o : Result Applied Refusal) → applied s.tree i deed ≡ o → HasDomain (after_answer s o).tree.nodes r
  by (Err refusal) is = has
  by (Ok made) is = let (n, ok) = accepted s.tree i deed made is in subst (λ (t : TreeFacts). HasDomain t.nodes r) ok.tree (acted_there s.tree i n deed r ok.there has)
there_after s (Decided c) r has = decided_there s.tree c.domain (choices_of (answer_of c).verdict) r has

-- one entry
verdict_after : LegalIsSound → ReadyStays → FailedStays → OneForest → (platform : PlatformFacts) (es : List BookEntry) (e : BookEntry) (r : ℕ) (v : Verdict) → IsLegal platform es
    → Allows platform (replay es) e → HasDomain (replay es).tree.nodes r → verdict_of (replay es) r ≡ Some v → verdict_of (after_entry (replay es) e) r ≡ Some v
verdict_after sound ready_stays failed_stays one platform es e r v legal ok has is = by (has_failed (replay es).tree r) refl (decision_for (replay es).decisions r) refl is where
  failed : has_failed (replay es).tree r ≡ true → has_failed (after_entry (replay es) e).tree r ≡ true
  failed f =
      let state = sound platform es legal in
      ap (λ (t : TreeFacts). has_failed t r) (tree_of_entry (replay es) e) ∙ failed_stays (replay es).tree (tree_entry e) r state.tree (accepts one platform (replay es) e state ok) has f

  unfailed : (d : DomainVerdict) → decision_for (replay es).decisions r ≡ Some d → has_failed (after_entry (replay es) e).tree r ≡ false
  unfailed d entered =
      let state = sound platform es legal in
      let now = decided_ready (replay es).tree (replay es).decisions r d state.decided entered in
      ap (λ (t : TreeFacts). has_failed t r) (tree_of_entry (replay es) e)
      ∙ ready_unfailed _ r (ready_stays (replay es).tree (tree_entry e) r state.tree (accepts one platform (replay es) e state ok) has now)

  by : (b : Bool) → has_failed (replay es).tree r ≡ b → (o : Option DomainVerdict) → decision_for (replay es).decisions r ≡ o → shown b o ≡ Some v
      → shown (has_failed (after_entry (replay es) e).tree r) (decision_for (after_entry (replay es) e).decisions r) ≡ Some v
  by true f o entered now = ap (λ b. shown b (decision_for (after_entry (replay es) e).decisions r)) (failed f) ∙ now
  by false f None entered now = absurd (cc)
  by false f (Some d) entered now =
      ap (λ b. shown b (decision_for (after_entry (replay es) e).decisions r)) (unfailed d entered) ∙ (ap (shown false) (decision_stays (replay es) e r d entered) ∙ now)

pub verdict_stays : LegalIsSound → ReadyStays → FailedStays → OneForest → VerdictStays
verdict_stays sound ready_stays failed_stays one platform es fs r v legal has is =
    (all_keep platform (λ _. Unit {0}) (λ gs. Has (replay gs)) step es fs legal (all_each (λ _. Unit {0}) fs (λ _. tt)) (has, is)).1 where
      Has : State → Type 0
      Has s = HasDomain s.tree.nodes r × (verdict_of s r ≡ Some v)

      step : (gs : List BookEntry) (e : BookEntry) → IsLegal platform gs → Allows platform (replay gs) e → Unit {0} → Has (replay gs) → Has (replay (gs ++ e ∷ []))
      step gs e before ok any now = subst Has (sym (replay_push first_state gs e))
          (there_after (replay gs) e r now.0, verdict_after sound ready_stays failed_stays one platform gs e r v before ok now.0 now.1)
