-- The state of a legal history is sound.
use Rattle.std.proofs.Common.{◌≡◌, ◌≢◌, ℕ, Bool, true, false, List, [], ◌∷◌, ◌++◌, length, drop, Option, Some, None, Result, Ok, Err, slice_get, refl, sym, ◌∙◌, ap, subst, arith, length-append, append-nil}
use Rattle.std.specs.Prelude.{IsOk, IfSome}
use Rattle.std.proofs.lemmas.Option.{same_Some}
use Rattle.std.specs.List.{AllByRecursion}
use Rattle.verdict_claims.specs.declared.certificate.Claim.{Claim}
use Rattle.verdict_claims.specs.declared.verdict.Verdict.{Verdict}
use Rattle.verdict_claims.specs.declared.verdict.Verdict.TheVariants as verdicts
use Rattle.verdict_claims.specs.Base.{BaseFacts}
use Rattle.verdict_claims.specs.Verdict.{IsOptimalIn}
use Rattle.negotiation_inputs.specs.Platform.{PlatformFacts}
use Rattle.sysmem_tree.specs.declared.refusal.Refusal.{Refusal}
use Rattle.sysmem_tree.specs.ActionKind.{Deed, kind_of}
use Rattle.sysmem_tree.specs.Domain.{TreeFacts, HasDomain, IsSoundTree, decision_of, is_ready}
use Rattle.sysmem_tree.specs.Forest.{Forest}
use Rattle.sysmem_tree.specs.History as trees
use Rattle.sysmem_tree.specs.Laws.{SoundStays, ReadyStays, OneForest, MapsOfLogs}
use Rattle.sysmem_tree.specs.Node.{NodeFacts}
use Rattle.sysmem_tree.specs.Selection.{IsSelection}
use Rattle.sysmem_tree.specs.Shape.{by_number, forest_of}
use Rattle.sysmem_tree.specs.Tree.{Applied, applied, decided}
use Rattle.sysmem_alloc.specs.Claims.{IsRightClaim}
use Rattle.sysmem_alloc.specs.Decision.{DomainVerdict, answer_of, choices_of, verdict_in}
use Rattle.sysmem_alloc.specs.Entry.{BookEntry, Acted, Decided, tree_entry}
use Rattle.sysmem_alloc.specs.History.{after_answer, after_entry, replay_from, replay, Allows, AreAllowed, IsLegal}
use Rattle.sysmem_alloc.specs.Sound.{AreDistinct, IsOfReady, IsSoundState, MayWait, roots_of}
use Rattle.sysmem_alloc.specs.State.{State, first_state, newly_ready, after_action, open_in, base_of}
use Rattle.sysmem_tree.proofs.CallerLemmas.{accepted, decision_acted, decision_by, IsAccepted}
use Rattle.sysmem_alloc.proofs.Advance.{Follows, advance}
use Rattle.sysmem_alloc.proofs.Lists.{all_append, all_weaken}
use Rattle.sysmem_alloc.proofs.Relabelled.{by_numbers}
use Rattle.sysmem_alloc.proofs.Trees.{acted_there, decided_there, added, acted_roots, decided_roots, added_unready}

-- the verdict of a right claim is optimal
pub claims_optimal : (platform : PlatformFacts) (nodes : List NodeFacts) (r : ℕ) (base : Option BaseFacts) (claim : Option Claim) → IfSome claim (IsRightClaim platform nodes r base)
    → IfSome (verdict_in claim) (IsOptimalIn platform nodes r base)
claims_optimal platform nodes r base None h = tt
claims_optimal platform nodes r base (Some c) h = h.optimal

-- what a verdict chose is a selection of the domain's forest
pub selects : OneForest → (platform : PlatformFacts) (nodes : List NodeFacts) (r : ℕ) (base : Option BaseFacts) (verdict : Option Verdict) → IfSome verdict (IsOptimalIn platform nodes r base)
    → IfSome (choices_of verdict) (λ cs. (e : Forest ℕ) × IsSelection (forest_of by_number nodes r []) cs e)
selects one platform nodes r base None h = tt
selects one platform nodes r base (Some (verdicts.Chosen chosen)) h = by_numbers nodes r (one nodes r) chosen.selection h.1.members h.1.selects
selects one platform nodes r base (Some verdicts.IntersectionEmpty) h = tt
selects one platform nodes r base (Some verdicts.TooMany) h = tt
selects one platform nodes r base (Some verdicts.Failed) h = tt
selects one platform nodes r base (Some verdicts.NoMemory) h = tt

may_decide : (t : TreeFacts) (waiting : List ℕ) (r : ℕ) → AllByRecursion (MayWait t) waiting → slice_get waiting 0 ≡ Some r → MayWait t r
may_decide t [] r all is = absurd (cc)
may_decide t (x ∷ rest) r all is = subst (MayWait t) (same_Some x r is) all.0

-- the tree accepts what a book allows
pub accepts : OneForest → (platform : PlatformFacts) (s : State) (e : BookEntry) → IsSoundState s → Allows platform s e → trees.Accepts s.tree (tree_entry e)
accepts one platform s (Acted i deed) sound ok = ok
accepts one platform s (Decided c) sound ok =
    let w = may_decide s.tree s.waiting c.domain sound.waiting ok.0 in
    let optimal = claims_optimal platform s.tree.nodes c.domain (base_of s c.domain) c.claim ok.1 in
    record { there = w.there; ready = w.ready; undecided = w.undecided; selects = selects one platform s.tree.nodes c.domain (base_of s c.domain) (answer_of c).verdict optimal }

pub tree_of_entry : (s : State) (e : BookEntry) → (after_entry s e).tree ≡ trees.after_entry s.tree (tree_entry e)
tree_of_entry s (Acted i deed) = by (applied s.tree i deed) where
  by : (o : Result Applied Refusal) → (after_answer s o).tree ≡ trees.after_answer s.tree o
  by (Ok made) = refl
  by (Err refusal) = refl
tree_of_entry s (Decided c) = refl

module _ (sound_stays : SoundStays) (ready_stays : ReadyStays) where
  -- an action
  acted_follows : (t : TreeFacts) (i : ℕ) (deed : Deed) (made : Applied) (n : NodeFacts) → IsSoundTree t → applied t i deed ≡ Ok made → IsAccepted t i deed made n
      → Follows t made.tree (added (kind_of deed) (length t.nodes))
  acted_follows t i deed made n sound is ok =
      let let_in : IsOk (applied t i deed) = subst IsOk (sym is) refl in
      record {
        before = sound;
        after = subst (λ o. IsSoundTree (trees.after_answer t o)) is (sound_stays t (trees.Acted i deed) sound let_in);
        roots = subst (λ (x : TreeFacts). roots_of x ≡ roots_of t ++ added (kind_of deed) (length t.nodes)) ok.tree (acted_roots t n (kind_of deed));
        unready = subst (λ (x : TreeFacts). AllByRecursion (λ r. is_ready x r ≡ false) (added (kind_of deed) (length t.nodes))) ok.tree (added_unready t i n deed);
        there = λ r has. subst (λ (x : TreeFacts). HasDomain x.nodes r) ok.tree (acted_there t i n deed r ok.there has);
        ready = λ r has now. subst (λ o. is_ready (trees.after_answer t o) r ≡ true) is (ready_stays t (trees.Acted i deed) r sound let_in has now);
        undecided = λ r _. subst (λ (x : TreeFacts). decision_of x.domains r ≡ decision_of t.domains r) ok.tree (decision_acted t n r (kind_of deed));
      }

  still_ready : (t u : TreeFacts) (added : List ℕ) → Follows t u added → (d : DomainVerdict) → IsOfReady t d → IsOfReady u d
  still_ready t u added f d r = record { there = f.there d.domain r.there; ready = f.ready d.domain r.there r.ready }

  acted_sound : (s : State) (i : ℕ) (deed : Deed) (made : Applied) → IsSoundState s → applied s.tree i deed ≡ Ok made → IsSoundState (after_action s made.tree)
  acted_sound s i deed made sound is =
      let (n, ok) = accepted s.tree i deed made is in
      let f = acted_follows s.tree i deed made n sound.tree is ok in
      let same : (r : ℕ) → decision_of made.tree.domains r ≡ decision_of s.tree.domains r
      = λ r. subst (λ (x : TreeFacts). decision_of x.domains r ≡ decision_of s.tree.domains r) ok.tree (decision_acted s.tree n r (kind_of deed)) in
      let on = advance s.tree made.tree (added (kind_of deed) (length s.tree.nodes)) s.waiting f
      (all_weaken (MayWait s.tree) (λ r. MayWait s.tree r × (decision_of made.tree.domains r ≡ decision_of s.tree.domains r)) s.waiting (λ r w. (w, same r)) sound.waiting) sound.once in
      record {
        tree = f.after;
        waiting = on.waits;
        once = on.once;
        decided = all_weaken (IsOfReady s.tree) (IsOfReady made.tree) s.decisions (still_ready s.tree made.tree (added (kind_of deed) (length s.tree.nodes)) f) sound.decided;
        count = omega (arith, on.count, sound.count, length-append s.waiting (newly_ready s.tree made.tree));
      }

  -- a decision
  decided_follows : (t : TreeFacts) (r : ℕ) (choices : Option (List ℕ)) → IsSoundTree t → trees.Accepts t (trees.Decided r choices) → Follows t (decided t r choices) []
  decided_follows t r choices sound ok = record {
    before = sound;
    after = sound_stays t (trees.Decided r choices) sound ok;
    roots = decided_roots t r choices ∙ sym (append-nil (roots_of t));
    unready = tt;
    there = λ k has. decided_there t r choices k has;
    ready = λ k has now. ready_stays t (trees.Decided r choices) k sound ok has now;
    undecided = λ k unready. decision_by t r k choices (λ same. not_both (is_ready t r) ok.ready (subst (λ x. is_ready t x ≡ false) same unready));
  } where
    not_both : (b : Bool) → b ≡ true → b ≡ false → ⊥
    not_both b on off = absurd (cc)

  decided_sound : (s : State) (d : DomainVerdict) (choices : Option (List ℕ)) (waiting accepted : List ℕ) → IsSoundState s → s.waiting ≡ waiting → slice_get waiting 0 ≡ Some d.domain
      → trees.Accepts s.tree (trees.Decided d.domain choices)
      → IsSoundState (record { tree = decided s.tree d.domain choices; decisions = s.decisions ++ d ∷ []; waiting = drop 1 waiting ++ newly_ready s.tree (decided s.tree d.domain choices); accepted = accepted })
  decided_sound s d choices [] accepted sound is first ok = absurd (cc)
  decided_sound s d choices (x ∷ rest) accepted sound is first ok =
      let t : TreeFacts = s.tree in
      let u : TreeFacts = decided s.tree d.domain choices in
      let own : x ≡ d.domain = same_Some x d.domain first in
      let f = decided_follows t d.domain choices sound.tree ok in
      let waits : AllByRecursion (MayWait t) (x ∷ rest) = subst (AllByRecursion (MayWait t)) is sound.waiting in
      let once : AreDistinct (x ∷ rest) = subst AreDistinct is sound.once in
      let on = advance t u [] rest f (both t u x rest (λ r other. decision_by t d.domain r choices (λ same. other (own ∙ sym same))) waits.1 once.0) once.1 in
      record {
        tree = f.after;
        waiting = on.waits;
        once = on.once;
        decided = all_append (IsOfReady u) s.decisions (d ∷ []) (all_weaken (IsOfReady t) (IsOfReady u) s.decisions (still_ready t u [] f) sound.decided)
            (record { there = f.there d.domain ok.there; ready = f.ready d.domain ok.there ok.ready }, tt);
        count = omega (arith, on.count, sound.count, ap length is, length-append rest (newly_ready t u), length-append s.decisions (d ∷ []));
      } where
        both : (t u : TreeFacts) (x : ℕ) (rest : List ℕ) → ((r : ℕ) → x ≢ r → decision_of u.domains r ≡ decision_of t.domains r) → AllByRecursion (MayWait t) rest → AllByRecursion (λ y. x ≢ y) rest
            → AllByRecursion (λ r. MayWait t r × (decision_of u.domains r ≡ decision_of t.domains r)) rest
        both t u x [] same waits apart = tt
        both t u x (r ∷ rest) same waits apart = ((waits.0, same r apart.0), both t u x rest same waits.1 apart.1)

  -- each step keeps the state sound
  pub sound_step : OneForest → (platform : PlatformFacts) (s : State) (e : BookEntry) → IsSoundState s → Allows platform s e → IsSoundState (after_entry s e)
  sound_step one platform s (Acted i deed) sound ok = by (applied s.tree i deed) refl ok where
    by : (o : Result Applied Refusal) → applied s.tree i deed ≡ o → IsOk o → IsSoundState (after_answer s o)
    by (Ok made) is h = acted_sound s i deed made sound is
    by (Err refusal) is h = absurd (cc)
  sound_step one platform s (Decided c) sound ok =
      let d : DomainVerdict = answer_of c in
      decided_sound s d (choices_of d.verdict) s.waiting (open_in (decided s.tree d.domain (choices_of d.verdict)).nodes (s.decisions ++ d ∷ [])) sound refl ok.0
      (accepts one platform s (Decided c) sound ok)

  pub sound_from : OneForest → (platform : PlatformFacts) (s : State) (es : List BookEntry) → IsSoundState s → AreAllowed platform s es → IsSoundState (replay_from s es)
  sound_from one platform s [] sound all = sound
  sound_from one platform s (e ∷ es) sound all = sound_from one platform (after_entry s e) es (sound_step one platform s e sound all.0) all.1

-- the state of a root token is sound
pub sound_first : MapsOfLogs → IsSoundState first_state
sound_first made = record { tree = (made [] tt).sound; waiting = tt; once = tt; decided = tt; count = refl }

pub sound_replay : SoundStays → ReadyStays → OneForest → MapsOfLogs → (platform : PlatformFacts) (es : List BookEntry) → IsLegal platform es → IsSoundState (replay es)
sound_replay stays ready one made platform es legal = sound_from stays ready one platform first_state es (sound_first made) legal
