-- The domain that is to be decided next stays so.
use Rattle.std.proofs.Common.{◌≡◌, ℕ, List, [], ◌∷◌, ◌++◌, ◌<◌, length, Option, Some, None, Result, Ok, Err, slice_get, refl, sym, ◌∙◌, ap, subst}
use Rattle.std.specs.Prelude.{All, IfSome, IsOk, IsSomeAnd, is_some, option_and_then, option_map, unwrap_or}
use Rattle.std.specs.List.{AllByRecursion, cons_option}
use Rattle.std.proofs.lemmas.List.Concat.{flat_map-cons}
use Rattle.std.proofs.lemmas.List.Elements.{All-append, All-cons, All-filter, All-head, All-nil, All-tail}
use Rattle.std.proofs.lemmas.Option.{same_Some, slice_get_within}
use Rattle.sysmem_merge.specs.declared.settings.Settings.{Settings}
use Rattle.verdict_claims.specs.declared.certificate.Claim.{Claim}
use Rattle.verdict_claims.specs.declared.verdict.Verdict.{Verdict}
use Rattle.verdict_claims.specs.Base.{BaseFacts, terms_of}
use Rattle.verdict_claims.specs.Check.{IsProof}
use Rattle.verdict_claims.specs.Claim.{IsTrueClaim}
use Rattle.verdict_claims.specs.Members.{members_at}
use Rattle.verdict_claims.specs.Verdict.{IsOptimal, IsOptimalIn}
use Rattle.negotiation_inputs.specs.Platform.{PlatformFacts}
use Rattle.sysmem_tree.specs.declared.refusal.Refusal.{Refusal}
use Rattle.sysmem_tree.specs.ActionKind.{Deed}
use Rattle.sysmem_tree.specs.Domain.{TreeFacts, HasDomain, host_node}
use Rattle.sysmem_tree.specs.Node.{NodeFacts}
use Rattle.sysmem_tree.specs.Nodes.{IsTree}
use Rattle.sysmem_tree.specs.History as trees
use Rattle.sysmem_tree.specs.Laws.{ForestStays, IsSameDomain}
use Rattle.sysmem_tree.specs.Members.{MembersStay, shown_at}
use Rattle.sysmem_tree.specs.Shape.{Member, members_of, participants_of, shape_of}
use Rattle.sysmem_tree.specs.Sublist.{IsSublist, ended, taken, left_out}
use Rattle.sysmem_tree.specs.Tree.{Applied, applied}
use Rattle.sysmem_alloc.specs.Decision.{DomainVerdict, choices_of, settings_for}
use Rattle.sysmem_alloc.specs.Entry.{BookEntry, Acted, Decided}
use Rattle.sysmem_alloc.specs.History.{after_answer, after_entry, replay, Allows, IsAction, IsLegal}
use Rattle.sysmem_alloc.specs.Laws.{LegalAgrees, LegalIsSound, NextStays, StaysNext}
use Rattle.sysmem_alloc.specs.Sound.{IsOfReady, IsSoundState, MayWait}
use Rattle.sysmem_alloc.specs.State.{State, first_state, next_ready, newly_ready, base_of, chosen_by, chosen_in, open_in, kept_for, after_action}
use Rattle.sysmem_tree.proofs.CallerLemmas.{accepted}
use Rattle.sysmem_alloc.proofs.Entering.{allowed_push, replay_push}
use Rattle.sysmem_alloc.proofs.Hosts.{base_stays}
use Rattle.sysmem_alloc.proofs.Onward.{all_keep}

still_first : (waiting more : List ℕ) (r : ℕ) → slice_get waiting 0 ≡ Some r → slice_get (waiting ++ more) 0 ≡ Some r
still_first [] more r is = absurd (cc)
still_first (x ∷ rest) more r is = is

pub still_kept : (waiting old new : List ℕ) (r : ℕ) → slice_get waiting 0 ≡ Some r → kept_for waiting old new ≡ old
still_kept [] old new r is = absurd (cc)
still_kept (x ∷ rest) old new r is = refl

pub first_waits : (t : TreeFacts) (waiting : List ℕ) (r : ℕ) → AllByRecursion (MayWait t) waiting → slice_get waiting 0 ≡ Some r → MayWait t r
first_waits t [] r all is = absurd (cc)
first_waits t (x ∷ rest) r all is = subst (MayWait t) (same_Some x r is) all.0

pub within : (nodes : List NodeFacts) (r : ℕ) → HasDomain nodes r → r < length nodes
within nodes r has = by (slice_get nodes r) refl has where
  by : (o : Option NodeFacts) → slice_get nodes r ≡ o → IsSomeAnd o (λ n. n.domain ≡ r) → r < length nodes
  by None is h = absurd h
  by (Some n) is h = slice_get_within nodes r n is

-- what all have, some of them have
pub all_sub : (P : ℕ → Type 0) (xs ys : List ℕ) → IsSublist xs ys → All P ys → All P xs
all_sub P _ _ ended all = all
all_sub P _ _ (taken x xs ys p) all = All-cons P x xs (All-head P x ys all) (all_sub P xs ys p (All-tail P x ys all))
all_sub P _ _ (left_out x xs ys p) all = all_sub P xs ys p (All-tail P x ys all)

-- who was chosen shows what it did
chosen_shown : MembersStay → (old new : List NodeFacts) → IsTree old → IsTree new → (ds : List DomainVerdict)
    → AllByRecursion (λ (d : DomainVerdict). HasDomain old d.domain × HasDomain new d.domain × IsSameDomain old new d.domain) ds → All (λ i. shown_at new i ≡ shown_at old i) (chosen_in old ds)
chosen_shown law old new tree tree' [] all = All-nil (λ i. shown_at new i ≡ shown_at old i)
chosen_shown law old new tree tree' (d ∷ ds) all = subst (All (λ i. shown_at new i ≡ shown_at old i)) (sym (flat_map-cons (chosen_by old) d ds))
    (All-append (λ i. shown_at new i ≡ shown_at old i) (chosen_by old d) (chosen_in old ds) (by (choices_of d.verdict)) (chosen_shown law old new tree tree' ds all.1)) where
      by : (o : Option (List ℕ)) → All (λ i. shown_at new i ≡ shown_at old i) (unwrap_or (option_map (participants_of old d.domain) o) [])
      by None = All-nil (λ i. shown_at new i ≡ shown_at old i)
      by (Some cs) = All-filter (λ i. is_some (option_and_then (λ (n : NodeFacts). n.constraints) (slice_get old i))) (λ i. shown_at new i ≡ shown_at old i) (members_of old d.domain cs)
          (law old new d.domain cs tree tree' all.0.0 all.0.1 all.0.2)

same_members : (old new : List NodeFacts) (ns : List ℕ) → All (λ i. shown_at new i ≡ shown_at old i) ns → members_at new ns ≡ members_at old ns
same_members old new [] all = refl
same_members old new (n ∷ ns) all = ap (λ o. cons_option o (members_at new ns)) (All-head (λ i. shown_at new i ≡ shown_at old i) n ns all)
    ∙ ap (cons_option (shown_at old n)) (same_members old new ns (All-tail (λ i. shown_at new i ≡ shown_at old i) n ns all))

-- a base that a state gives has its accepted participants
has_accepted : (s : State) (r : ℕ) → IfSome (base_of s r) (λ (b : BaseFacts). b.accepted ≡ s.accepted)
has_accepted s r = by (host_node s.tree.nodes r) where
  with' : (o : Option Settings) → IfSome (option_map (λ (settings : Settings). record { settings = settings; accepted = s.accepted }) o) (λ (b : BaseFacts). b.accepted ≡ s.accepted)
  with' None = tt
  with' (Some t) = refl

  by : (o : Option NodeFacts)
      → IfSome (option_and_then (λ (host : NodeFacts). option_map (λ (settings : Settings). record { settings = settings; accepted = s.accepted }) (settings_for s.decisions host.domain)) o)
      (λ (b : BaseFacts). b.accepted ≡ s.accepted)
  by None = tt
  by (Some host) = with' (settings_for s.decisions host.domain)

same_terms : (old new : List NodeFacts) (acc : List ℕ) (o : Option BaseFacts) → IfSome o (λ b. b.accepted ≡ acc) → members_at new acc ≡ members_at old acc → option_map (terms_of new) o ≡ option_map (terms_of old) o
same_terms old new acc None has same = refl
same_terms old new acc (Some b) has same =
    ap (λ (ms : List Member). Some (record { settings = b.settings; accepted = ms })) (ap (members_at new) has ∙ (same ∙ ap (members_at old) (sym has)))

-- what is optimal for a domain stays so where its shape and its terms do
still_optimal : (platform : PlatformFacts) (s u : State) (r : ℕ) (v : Verdict) → base_of u r ≡ base_of s r → shape_of u.tree.nodes r ≡ shape_of s.tree.nodes r
    → option_map (terms_of u.tree.nodes) (base_of s r) ≡ option_map (terms_of s.tree.nodes) (base_of s r) → IsOptimalIn platform s.tree.nodes r (base_of s r) v → IsOptimalIn platform u.tree.nodes r (base_of u r) v
still_optimal platform s u r v base shape terms h =
    subst (λ t. IsOptimal platform t (shape_of u.tree.nodes r) v) (sym (ap (option_map (terms_of u.tree.nodes)) base ∙ terms))
    (subst (λ d. IsOptimal platform (option_map (terms_of s.tree.nodes) (base_of s r)) d v) (sym shape) h)

-- and what is true of it
still_true : (platform : PlatformFacts) (s u : State) (r : ℕ) (c : Claim) → base_of u r ≡ base_of s r → shape_of u.tree.nodes r ≡ shape_of s.tree.nodes r
    → option_map (terms_of u.tree.nodes) (base_of s r) ≡ option_map (terms_of s.tree.nodes) (base_of s r) → IsTrueClaim platform s.tree.nodes r (base_of s r) c → IsTrueClaim platform u.tree.nodes r (base_of u r) c
still_true platform s u r c base shape terms h = record {
  optimal = still_optimal platform s u r c.verdict base shape terms h.optimal;
  proved = subst (λ t. IsProof platform t (shape_of u.tree.nodes r) c.verdict c.proof) (sym (ap (option_map (terms_of u.tree.nodes)) base ∙ terms))
      (subst (λ d. IsProof platform (option_map (terms_of s.tree.nodes) (base_of s r)) d c.verdict c.proof) (sym shape) h.proved);
}

-- of the decisions before an action and after it
each_stays : (old new : TreeFacts) (ds : List DomainVerdict) → AllByRecursion (IsOfReady old) ds → AllByRecursion (IsOfReady new) ds → ((d : DomainVerdict) → IsOfReady old d → IsSameDomain old.nodes new.nodes d.domain)
    → AllByRecursion (λ (d : DomainVerdict). HasDomain old.nodes d.domain × HasDomain new.nodes d.domain × IsSameDomain old.nodes new.nodes d.domain) ds
each_stays old new [] a b same = tt
each_stays old new (d ∷ ds) a b same = ((a.0.there, b.0.there, same d a.0), each_stays old new ds a.1 b.1 same)

stays_at : MembersStay → ForestStays → (s : State) (i : ℕ) (deed : Deed) (r : ℕ) → IsSoundState s → IsSublist s.accepted (chosen_in s.tree.nodes s.decisions) → MayWait s.tree r
    → trees.Accepts s.tree (trees.Acted i deed) → next_ready s ≡ Some r
    → IsSameDomain s.tree.nodes (trees.after_answer s.tree (applied s.tree i deed)).nodes r → (o : Result Applied Refusal) → applied s.tree i deed ≡ o → IsSoundState (after_answer s o) → StaysNext s (after_answer s o) r
stays_at law stays s i deed r sound some waits ok first same (Err refusal) is later = absurd (not_refused (applied s.tree i deed) refusal ok is) where
  not_refused : (o : Result Applied Refusal) (refusal : Refusal) → IsOk o → o ≡ Err refusal → ⊥
  not_refused (Ok made) refusal h e = absurd (cc)
  not_refused (Err other) refusal h e = absurd (cc)
stays_at law stays s i deed r sound some waits ok first same (Ok made) is later =
    let (n, fine) = accepted s.tree i deed made is in
    let kept = still_kept s.waiting s.accepted (open_in made.tree.nodes s.decisions) r first in
    let own = subst (λ o. IsSameDomain s.tree.nodes (trees.after_answer s.tree o).nodes r) is same in
    let base = base_stays s (after_action s made.tree) i n deed r sound.tree.tree fine.there (within s.tree.nodes r waits.there) fine.tree refl kept in
    let each = each_stays s.tree made.tree s.decisions sound.decided later.decided
    (λ d ready. subst (λ o. IsSameDomain s.tree.nodes (trees.after_answer s.tree o).nodes d.domain) is (stays s.tree (trees.Acted i deed) d.domain sound.tree.tree ok ready.there ready.ready)) in
    let shown = all_sub (λ k. shown_at made.tree.nodes k ≡ shown_at s.tree.nodes k) s.accepted (chosen_in s.tree.nodes s.decisions) some
    (chosen_shown law s.tree.nodes made.tree.nodes sound.tree.tree later.tree.tree s.decisions each) in
    let terms = same_terms s.tree.nodes made.tree.nodes s.accepted (base_of s r) (has_accepted s r) (same_members s.tree.nodes made.tree.nodes s.accepted shown) in
    record {
      next = still_first s.waiting (newly_ready s.tree made.tree) r first;
      domain = own;
      base = base;
      terms = ap (option_map (terms_of made.tree.nodes)) base ∙ terms;
      optimal = λ platform v. still_optimal platform s (after_action s made.tree) r v base own.shape terms;
      claims = λ platform c. still_true platform s (after_action s made.tree) r c base own.shape terms;
    }

-- one action
acted_stays : LegalIsSound → LegalAgrees → ForestStays → MembersStay → (platform : PlatformFacts) (es : List BookEntry) (i : ℕ) (deed : Deed) (r : ℕ) → IsLegal platform es
    → Allows platform (replay es) (Acted i deed) → next_ready (replay es) ≡ Some r → StaysNext (replay es) (after_entry (replay es) (Acted i deed)) r
acted_stays sound agrees stays law platform es i deed r legal ok first =
    let state = sound platform es legal in
    let waits = first_waits (replay es).tree (replay es).waiting r state.waiting first in
    let later = subst IsSoundState (replay_push first_state es (Acted i deed)) (sound platform (es ++ Acted i deed ∷ []) (allowed_push platform first_state es (Acted i deed) legal ok)) in
    stays_at law stays (replay es) i deed r state (agrees platform es legal).accepted waits ok first (stays (replay es).tree (trees.Acted i deed) r state.tree.tree ok waits.there waits.ready) (applied (replay es).tree i deed) refl later

-- it stays as it is where nothing is entered, and through two steps where it does through each
stays_now : (s : State) (r : ℕ) → next_ready s ≡ Some r → StaysNext s s r
stays_now s r first = record {
  next = first;
  domain = record { forest = refl; shape = refl; members = λ cs. refl };
  base = refl;
  terms = refl;
  optimal = λ platform v h. h;
  claims = λ platform c h. h;
}

stays_on : (old mid new : State) (r : ℕ) → StaysNext old mid r → StaysNext mid new r → StaysNext old new r
stays_on old mid new r a b = record {
  next = b.next;
  domain = record { forest = b.domain.forest ∙ a.domain.forest; shape = b.domain.shape ∙ a.domain.shape; members = λ cs. b.domain.members cs ∙ a.domain.members cs };
  base = b.base ∙ a.base;
  terms = b.terms ∙ a.terms;
  optimal = λ platform v h. b.optimal platform v (a.optimal platform v h);
  claims = λ platform c h. b.claims platform c (a.claims platform c h);
}

pub next_stays : LegalIsSound → LegalAgrees → ForestStays → MembersStay → NextStays
next_stays sound agrees stays law platform es fs r legal acts first =
    all_keep platform IsAction (λ gs. StaysNext (replay es) (replay gs) r) step es fs legal acts (stays_now (replay es) r first) where
      step : (gs : List BookEntry) (e : BookEntry) → IsLegal platform gs → Allows platform (replay gs) e → IsAction e → StaysNext (replay es) (replay gs) r
          → StaysNext (replay es) (replay (gs ++ e ∷ [])) r
      step gs (Decided c) before ok act now = absurd act
      step gs (Acted i deed) before ok act now = subst (λ s. StaysNext (replay es) s r) (sym (replay_push first_state gs (Acted i deed)))
          (stays_on (replay es) (replay gs) (after_entry (replay gs) (Acted i deed)) r now (acted_stays sound agrees stays law platform gs i deed r before ok now.next))
