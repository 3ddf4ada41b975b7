-- Each decision of a legal history is negotiated as the headline says.
use Rattle.std.proofs.Common.{◌≡◌, ◌⊎◌, inl, inr, ℕ, true, false, List, [], ◌∷◌, ◌++◌, Option, Some, None, refl, sym, ◌∙◌, ap, subst}
use Rattle.std.specs.Prelude.{option_map, unwrap_or}
use Rattle.std.proofs.lemmas.List.{append_assoc}
use Rattle.negotiation_inputs.specs.Platform.{PlatformFacts}
use Rattle.sysmem_tree.specs.Domain.{TreeFacts, HasDomain, is_ready}
use Rattle.sysmem_tree.specs.Forest.{Forest, count}
use Rattle.sysmem_tree.specs.Laws.{ForestStays, OneForest, ReadyStays}
use Rattle.sysmem_tree.specs.Shape.{Member, shape_of}
use Rattle.verdict_claims.specs.declared.certificate.Claim.{Claim}
use Rattle.verdict_claims.specs.declared.certificate.Proof.{Proof}
use Rattle.verdict_claims.specs.declared.verdict.Verdict.{Verdict}
use Rattle.verdict_claims.specs.declared.verdict.Verdict.TheVariants as verdicts
use Rattle.verdict_claims.specs.Base.{Terms}
use Rattle.verdict_claims.specs.declared.certificate.Proof.TheVariants as proves
use Rattle.verdict_claims.specs.Check.{IsProof, VerdictPasses}
use Rattle.verdict_claims.specs.Laws.{OneAnswer, TestsAreExact}
use Rattle.verdict_claims.specs.Verdict.{IsOptimal, IsSameAnswer}
use Rattle.sysmem_alloc.specs.Book.{book_of}
use Rattle.sysmem_alloc.specs.Claims.{HasProof, IsRightClaim}
use Rattle.sysmem_alloc.specs.Decision.{DomainVerdict, answer_of, decision_for}
use Rattle.sysmem_alloc.specs.Entry.{BookEntry, Decided, tree_entry}
use Rattle.sysmem_alloc.specs.Headline.{GetsAnswer, Headline, IsAsSaid, IsNegotiated, shape_in, terms_in, history_with}
use Rattle.sysmem_alloc.specs.History.{Allows, IsLegal, NoEarlyClose, SameCalls, after_entry, replay}
use Rattle.sysmem_alloc.specs.Laws.{BaseIsGiven, Confluence, DecisionsHaveProofs, LegalAgrees, LegalIsSound}
use Rattle.sysmem_alloc.specs.Sound.{IsSoundState, MayWait}
use Rattle.sysmem_alloc.specs.State.{State, base_of, first_state, verdict_of}
use Rattle.sysmem_alloc.proofs.Agreeing.{entered_last, none_for}
use Rattle.sysmem_alloc.proofs.Entering.{allowed_push, replay_push}
use Rattle.sysmem_alloc.proofs.Lasting.{decision_stays, ready_unfailed, shown, there_after}
use Rattle.sysmem_alloc.proofs.Lists.{all_each}
use Rattle.sysmem_alloc.proofs.Next.{first_waits}
use Rattle.sysmem_alloc.proofs.Onward.{all_keep, allowed_split}
use Rattle.sysmem_alloc.proofs.Split.{gave}
use Rattle.sysmem_alloc.proofs.Stepping.{accepts, tree_of_entry}

-- what an optimal verdict says
as_said : (platform : PlatformFacts) (terms : Option Terms) (d : Forest Member) (v : Verdict) → IsOptimal platform terms d v → IsAsSaid platform terms d v
as_said platform None d (verdicts.Chosen chosen) (few, is) = record {
  few = few;
  members = is.members;
  selects = is.selects;
  own = λ k x below. record { heap = is.best.meets.loosely.heap; has = is.best.meets.loosely.sound.place.heap; covers = is.best.meets.loosely.covers k x below };
  counted = is.best.meets.loosely.counted;
  best = is.best;
  first = is.first;
}
as_said platform (Some terms) d (verdicts.Chosen chosen) (few, is) = record {
  few = few;
  members = is.members;
  selects = is.selects;
  own = is.best.covers;
  counted = is.best.counted;
  best = is.best;
  first = is.first;
}
as_said platform None d verdicts.IntersectionEmpty is = is
as_said platform (Some terms) d verdicts.IntersectionEmpty is = is
as_said platform None d verdicts.TooMany is = is
as_said platform (Some terms) d verdicts.TooMany is = is
as_said platform terms d verdicts.Failed is = is
as_said platform terms d verdicts.NoMemory is = is

-- ---- what passes

-- too many selections have no proof but nothing
many_bare : (platform : PlatformFacts) (terms : Option Terms) (d : Forest Member) (v : Verdict) (p : Proof) → v ≡ verdicts.TooMany → IsProof platform terms d v p → p ≡ proves.Nothing
many_bare platform terms d verdicts.TooMany proves.Nothing many is = refl
many_bare platform terms d verdicts.TooMany (proves.Choice certificate) many is = absurd is
many_bare platform terms d verdicts.TooMany (proves.Empty items) many is = absurd is
many_bare platform terms d (verdicts.Chosen chosen) p many is = absurd (cc)
many_bare platform terms d verdicts.IntersectionEmpty p many is = absurd (cc)
many_bare platform terms d verdicts.Failed p many is = absurd (cc)
many_bare platform terms d verdicts.NoMemory p many is = absurd (cc)

-- a proof of a claim's verdict, the claim's own where it came with one
record Proved (platform : PlatformFacts) (terms : Option Terms) (d : Forest Member) (c : Claim) : Type 0 where
  proof : Proof
  passes : VerdictPasses platform terms d c.verdict proof
  own : HasProof c → proof ≡ c.proof

-- ---- what stays from the decision on

-- the domain is there, ready, and of this shape
record IsThere (s : State) (r : ℕ) (d : Forest Member) : Type 0 where
  there : HasDomain s.tree.nodes r
  ready : is_ready s.tree r ≡ true
  shape : shape_in s r ≡ d

-- the same, and this was decided of it
record WasDecided (s : State) (d : Forest Member) (v : DomainVerdict) : Type 0 where
  is : IsThere s v.domain d
  entered : decision_for s.decisions v.domain ≡ Some v

-- the verdict that is shown of a domain that is ready
verdict_shown : (s : State) (v : DomainVerdict) → is_ready s.tree v.domain ≡ true → decision_for s.decisions v.domain ≡ Some v
    → verdict_of s v.domain ≡ Some (unwrap_or v.verdict verdicts.NoMemory)
verdict_shown s v ready entered = ap (λ b. shown b (decision_for s.decisions v.domain)) (ready_unfailed s.tree v.domain ready) ∙ ap (shown false) entered

module _ (sound : LegalIsSound) (agrees : LegalAgrees) (stays : ForestStays) (ready_stays : ReadyStays) (one : OneForest) where
  there_on : (platform : PlatformFacts) (s : State) (e : BookEntry) (r : ℕ) (d : Forest Member) → IsSoundState s → Allows platform s e → IsThere s r d → IsThere (after_entry s e) r d
  there_on platform s e r d state ok is =
      let taken = accepts one platform s e state ok in
      record {
        there = there_after s e r is.there;
        ready = ap (λ (t : TreeFacts). is_ready t r) (tree_of_entry s e) ∙ ready_stays s.tree (tree_entry e) r state.tree taken is.there is.ready;
        shape = ap (λ (t : TreeFacts). shape_of t.nodes r) (tree_of_entry s e) ∙ ((stays s.tree (tree_entry e) r state.tree.tree taken is.there is.ready).shape ∙ is.shape);
      }

  -- the decision itself
  decided_now : (platform : PlatformFacts) (es : List BookEntry) (r : ℕ) (c : Claim) → IsLegal platform es → Allows platform (replay es) (Decided (record { domain = r; claim = Some c }))
      → WasDecided (after_entry (replay es) (Decided (record { domain = r; claim = Some c }))) (shape_in (replay es) r) (answer_of (record { domain = r; claim = Some c }))
  decided_now platform es r c legal ok =
      let state = sound platform es legal in
      let waits : MayWait (replay es).tree r = first_waits (replay es).tree (replay es).waiting r state.waiting ok.0 in
      record {
        is = there_on platform (replay es) (Decided (record { domain = r; claim = Some c })) r (shape_in (replay es) r) state ok (record { there = waits.there; ready = waits.ready; shape = refl });
        entered = entered_last (replay es).decisions (answer_of (record { domain = r; claim = Some c })) (none_for platform (replay es) r (agrees platform es legal) waits.undecided);
      }

  -- and all that is entered after it
  decided_at_end : (platform : PlatformFacts) (es : List BookEntry) (r : ℕ) (c : Claim) (fs : List BookEntry) → IsLegal platform (history_with es r c fs)
      → WasDecided (replay (history_with es r c fs)) (shape_in (replay es) r) (answer_of (record { domain = r; claim = Some c }))
  decided_at_end platform es r c fs legal =
      let e : BookEntry = Decided (record { domain = r; claim = Some c }) in
      let (before, now) = allowed_split platform first_state es (e ∷ fs) legal in
      let same : (es ++ e ∷ []) ++ fs ≡ es ++ e ∷ fs = append_assoc es (e ∷ []) fs in
      subst (λ (hs : List BookEntry). Has (replay hs)) same
      (all_keep platform (λ _. Unit {0}) (λ hs. Has (replay hs)) step (es ++ e ∷ []) fs (subst (IsLegal platform) (sym same) legal) (all_each (λ _. Unit {0}) fs (λ _. tt))
      (subst Has (sym (replay_push first_state es e)) (decided_now platform es r c before now.0))) where
        Has : State → Type 0
        Has s = WasDecided s (shape_in (replay es) r) (answer_of (record { domain = r; claim = Some c }))

        step : (gs : List BookEntry) (e : BookEntry) → IsLegal platform gs → Allows platform (replay gs) e → Unit {0} → Has (replay gs) → Has (replay (gs ++ e ∷ []))
        step gs e before ok any now = subst Has (sym (replay_push first_state gs e)) (record {
          is = there_on platform (replay gs) e r (shape_in (replay es) r) (sound platform gs before) ok now.is;
          entered = decision_stays (replay gs) e r (answer_of (record { domain = r; claim = Some c })) now.entered;
        })

  module _ (given : BaseIsGiven) (have_proofs : DecisionsHaveProofs) (exact : TestsAreExact) (one_answer : OneAnswer) (confluence : Confluence) where
    -- other histories with the same calls
    same_answer : (platform : PlatformFacts) (es : List BookEntry) (r : ℕ) (c : Claim) (fs : List BookEntry) → IsLegal platform (history_with es r c fs) → (all : List BookEntry) → r ≡ 0
        → IsLegal platform all → SameCalls (history_with es r c fs) all → NoEarlyClose (history_with es r c fs) → NoEarlyClose all → GetsAnswer c.verdict (replay all)
    same_answer platform es r c fs legal all initial legal' calls early late =
        let a : DomainVerdict = answer_of (record { domain = r; claim = Some c }) in
        let ended = decided_at_end platform es r c fs legal in
        let alike = confluence platform (history_with es r c fs) all legal legal' calls early late in
        record {
          ready = sym alike.ready.ready ∙ subst (λ k. is_ready (replay (history_with es r c fs)).tree k ≡ true) initial ended.is.ready;
          same = λ w is decided.
              let g = gave (replay all) 0 w is decided in
              alike.answer a g.decision c.verdict w (subst (λ k. decision_for (replay (history_with es r c fs)).decisions k ≡ Some a) initial ended.entered) g.entered refl g.verdict;
        }

    -- a proof that passes: the claim's own, where it came with one
    proved : (platform : PlatformFacts) (es : List BookEntry) (r : ℕ) (c : Claim) (fs : List BookEntry) → IsLegal platform (history_with es r c fs)
        → IsRightClaim platform (replay es).tree.nodes r (base_of (replay es) r) c → Proved platform (terms_in (replay es) r) (shape_in (replay es) r) c
    proved platform es r c fs legal right = by right.proved where
      d : Forest Member
      d = shape_in (replay es) r

      terms : Option Terms
      terms = terms_in (replay es) r

      passes : (p : Proof) → IsProof platform terms d c.verdict p → VerdictPasses platform terms d c.verdict p
      passes p is = ((exact platform terms d).verdict c.verdict p).1 (right.optimal, is)

      by : (c.proof ≡ proves.Nothing) ⊎ IsProof platform terms d c.verdict c.proof → Proved platform terms d c
      by (inr is) = record { proof = c.proof; passes = passes c.proof is; own = λ has. refl }
      by (inl bare) =
          let (p, is) = have_proofs platform es fs r c legal in
          record { proof = p; passes = passes p is.proved; own = λ has. many_bare platform terms d c.verdict p (has bare) is.proved ∙ sym bare }

    pub headline : Headline
    headline platform es r c fs legal =
        let parts = allowed_split platform first_state es (Decided (record { domain = r; claim = Some c }) ∷ fs) legal in
        let right : IsRightClaim platform (replay es).tree.nodes r (base_of (replay es) r) c = parts.1.0.1 in
        let terms : Option Terms = terms_in (replay es) r in
        let d : Forest Member = shape_in (replay es) r in
        let passing : Proved platform terms d c = proved platform es r c fs legal right in
        let ended = decided_at_end platform es r c fs legal in
        let waits : MayWait (replay es).tree r = first_waits (replay es).tree (replay es).waiting r (sound platform es parts.0).waiting parts.1.0.0 in
        record {
          there = waits.there;
          given = given platform es r parts.0 parts.1.0.0;
          said = as_said platform terms d c.verdict right.optimal;
          proof = passing.proof;
          passes = passing.passes;
          certified = passing.own;
          sound = λ v other takes. as_said platform terms d v (((exact platform terms d).verdict v other).0 takes).0;
          one = λ v other takes. one_answer platform terms d c.verdict v right.optimal (((exact platform terms d).verdict v other).0 takes).0;
          stays = verdict_shown (replay (history_with es r c fs)) (answer_of (record { domain = r; claim = Some c })) ended.is.ready ended.entered;
          shape = ended.is.shape;
          interleaved = same_answer platform es r c fs legal;
        }
