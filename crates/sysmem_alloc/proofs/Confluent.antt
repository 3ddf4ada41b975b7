-- Histories with the same calls give the initial domain one answer.
use Rattle.std.proofs.Common.{◌≡◌, ◌⊎◌, ℕ, ◌==◌, Bool, true, false, List, [], ◌∷◌, ◌++◌, Option, Some, None, Result, Ok, Err, slice_get, refl, sym, ◌∙◌, ap, subst, rules, tests, inl, inr}
use Rattle.std.specs.Prelude.{IfSome, IsSomeAnd, map, option_map, option_and_then, if◌then◌else◌}
use Rattle.std.proofs.lemmas.Option.{same_Some}
use Rattle.std.specs.List.{AllByRecursion}
use Rattle.verdict_claims.specs.declared.verdict.Verdict.{Verdict}
use Rattle.verdict_claims.specs.Base.{terms_of}
use Rattle.verdict_claims.specs.Laws.{OneAnswer}
use Rattle.verdict_claims.specs.Verdict.{IsOptimal, IsOptimalIn}
use Rattle.negotiation_inputs.specs.Platform.{PlatformFacts}
use Rattle.sysmem_tree.specs.declared.refusal.Refusal.{Refusal}
use Rattle.sysmem_tree.specs.Domain.{TreeFacts, HasDomain, host_node, is_ready}
use Rattle.sysmem_tree.specs.History as trees
use Rattle.sysmem_tree.specs.Laws.{ForestStays, OneForest, SoundStays, ReadyStays, MapsOfLogs, SameReady, SameInitial, IsSameDomain}
use Rattle.sysmem_tree.specs.Laws as laws
use Rattle.sysmem_tree.specs.Node.{NodeFacts}
use Rattle.sysmem_tree.specs.Path.{at_path}
use Rattle.sysmem_tree.specs.Shape.{shape_of}
use Rattle.sysmem_tree.specs.Step.{IsInitial}
use Rattle.sysmem_tree.specs.Tree.{Applied, applied}
use Rattle.sysmem_alloc.specs.Decision.{DomainVerdict, answer_of, decision_for, settings_for}
use Rattle.sysmem_alloc.specs.Entry.{BookEntry, Acted, Decided, tree_entry}
use Rattle.sysmem_alloc.specs.History.{after_answer, after_entry, replay_from, replay, Allows, AreAllowed, IsLegal}
use Rattle.sysmem_alloc.specs.Laws.{InitialShape, Confluence}
use Rattle.sysmem_alloc.specs.Sound.{IsOfReady, IsSoundState}
use Rattle.sysmem_alloc.specs.State.{State, first_state, base_of}
use Rattle.sysmem_alloc.proofs.Stepping.{accepts, claims_optimal, tree_of_entry, sound_step, sound_first}

-- the tree of a history's state is the tree that its entries for the tree lead to
pub tree_of_replay : (s : State) (es : List BookEntry) → (replay_from s es).tree ≡ trees.replay_from s.tree (map tree_entry es)
tree_of_replay s [] = refl
tree_of_replay s (e ∷ es) = tree_of_replay (after_entry s e) es ∙ ap (λ t. trees.replay_from t (map tree_entry es)) (tree_of_entry s e)

-- the decision of a domain is one of the decisions
pub of_decisions : (P : DomainVerdict → Type 0) (ds : List DomainVerdict) (r : ℕ) (d : DomainVerdict) → AllByRecursion P ds → decision_for ds r ≡ Some d → P d × (d.domain ≡ r)
of_decisions P [] r d all is = absurd (cc)
of_decisions P (x ∷ ds) r d all is = by (x.domain == r) refl (of_decisions P ds r d all.1) is where
  by : (b : Bool) → (x.domain == r) ≡ b → (decision_for ds r ≡ Some d → P d × (d.domain ≡ r)) → (if b then Some x else decision_for ds r) ≡ Some d → P d × (d.domain ≡ r)
  by true own rest h =
      let same : x ≡ d = same_Some x d h in
      let mine : x.domain ≡ r = search (rules, tests, own) in
      (subst P same all.0, ap (λ (z : DomainVerdict). z.domain) (sym same) ∙ mine)
  by false own rest h = rest h

-- of a domain with one more decision: the one that it had, or this
pub decision_push : (ds : List DomainVerdict) (e : DomainVerdict) (r : ℕ) (d : DomainVerdict) → decision_for (ds ++ e ∷ []) r ≡ Some d → (decision_for ds r ≡ Some d) ⊎ ((e ≡ d) × (e.domain ≡ r))
decision_push [] e r d is = by (e.domain == r) refl is where
  by : (b : Bool) → (e.domain == r) ≡ b → (if b then Some e else None) ≡ Some d → (None ≡ Some d) ⊎ ((e ≡ d) × (e.domain ≡ r))
  by true own h = let mine : e.domain ≡ r = search (rules, tests, own) in inr (same_Some e d h, mine)
  by false own h = inl h
decision_push (x ∷ ds) e r d is = by (x.domain == r) (decision_push ds e r d) is where
  by : (b : Bool) → (decision_for (ds ++ e ∷ []) r ≡ Some d → (decision_for ds r ≡ Some d) ⊎ ((e ≡ d) × (e.domain ≡ r)))
      → (if b then Some x else decision_for (ds ++ e ∷ []) r) ≡ Some d → ((if b then Some x else decision_for ds r) ≡ Some d) ⊎ ((e ≡ d) × (e.domain ≡ r))
  by true rest h = inl h
  by false rest h = rest h

-- each verdict that was entered for the initial domain is optimal for it as it is now
abbrev pub IsRight : PlatformFacts → State → Type 0
IsRight platform s = (d : DomainVerdict) (v : Verdict) → decision_for s.decisions 0 ≡ Some d → d.verdict ≡ Some v → IsOptimal platform None (shape_of s.tree.nodes 0) v

-- the initial domain has no host, and so no base
no_host : (nodes : List NodeFacts) → IsSomeAnd (slice_get nodes 0) (λ n. (n.birth ≡ None) × (n.domain ≡ 0)) → host_node nodes 0 ≡ None
no_host nodes root = by (slice_get nodes 0) root where
  by : (o : Option NodeFacts) → IsSomeAnd o (λ n. (n.birth ≡ None) × (n.domain ≡ 0)) → option_and_then (λ (n : NodeFacts). option_and_then (λ b. slice_get nodes b.parent) n.birth) o ≡ None
  by None h = absurd h
  by (Some n) h = ap (option_and_then (λ b. slice_get nodes b.parent)) h.0

no_base : (s : State) → IsSoundState s → base_of s 0 ≡ None
no_base s sound = ap (option_and_then (λ host. option_map (λ settings. record { settings = settings; accepted = s.accepted }) (settings_for s.decisions host.domain))) (no_host s.tree.nodes sound.tree.tree.root)

-- what was decided keeps its shape
shape_kept : ForestStays → OneForest → (platform : PlatformFacts) (s : State) (e : BookEntry) → IsSoundState s → Allows platform s e → HasDomain s.tree.nodes 0 → is_ready s.tree 0 ≡ true
    → shape_of (after_entry s e).tree.nodes 0 ≡ shape_of s.tree.nodes 0
shape_kept stays one platform s e sound ok has ready =
    ap (λ (t : TreeFacts). shape_of t.nodes 0) (tree_of_entry s e) ∙ (stays s.tree (tree_entry e) 0 sound.tree.tree (accepts one platform s e sound ok) has ready).shape

same_domain : (s : State) (d : DomainVerdict) → IsOfReady s.tree d × (d.domain ≡ 0) → HasDomain s.tree.nodes 0 × (is_ready s.tree 0 ≡ true)
same_domain s d h = (subst (HasDomain s.tree.nodes) h.1 h.0.there, subst (λ r. is_ready s.tree r ≡ true) h.1 h.0.ready)

right_kept : ForestStays → OneForest → (platform : PlatformFacts) (s : State) (e : BookEntry) → IsSoundState s → Allows platform s e → IsRight platform s
    → (d : DomainVerdict) (v : Verdict) → decision_for s.decisions 0 ≡ Some d → d.verdict ≡ Some v → IsOptimal platform None (shape_of (after_entry s e).tree.nodes 0) v
right_kept stays one platform s e sound ok right d v has is =
    let (there, ready) = same_domain s d (of_decisions (IsOfReady s.tree) s.decisions 0 d sound.decided has) in
    subst (λ shape. IsOptimal platform None shape v) (sym (shape_kept stays one platform s e sound ok there ready)) (right d v has is)

right_step : ForestStays → OneForest → (platform : PlatformFacts) (s : State) (e : BookEntry) → IsSoundState s → Allows platform s e → IsRight platform s → IsRight platform (after_entry s e)
right_step stays one platform s (Acted i deed) sound ok right = λ d v has is. right_kept stays one platform s (Acted i deed) sound ok right d v (same d has) is where
  same : (d : DomainVerdict) → decision_for (after_entry s (Acted i deed)).decisions 0 ≡ Some d → decision_for s.decisions 0 ≡ Some d
  same d has = by (applied s.tree i deed) has where
    by : (o : Result Applied Refusal) → decision_for (after_answer s o).decisions 0 ≡ Some d → decision_for s.decisions 0 ≡ Some d
    by (Ok made) h = h
    by (Err refusal) h = h
right_step stays one platform s (Decided c) sound ok right = λ d v has is. elim (decision_push s.decisions (answer_of c) 0 d has) [
  | inl before ↦ right_kept stays one platform s (Decided c) sound ok right d v before is
  | inr (same, own) ↦ now d v same own is
] where
  e : DomainVerdict
  e = answer_of c

  now : (d : DomainVerdict) (v : Verdict) → e ≡ d → e.domain ≡ 0 → d.verdict ≡ Some v → IsOptimal platform None (shape_of (after_entry s (Decided c)).tree.nodes 0) v
  now d v same own is =
      let w = accepts one platform s (Decided c) sound ok in
      let right_now = claims_optimal platform s.tree.nodes e.domain (base_of s e.domain) c.claim ok.1 in
      let there : HasDomain s.tree.nodes 0 = subst (HasDomain s.tree.nodes) own w.there in
      let ready : is_ready s.tree 0 ≡ true = subst (λ r. is_ready s.tree r ≡ true) own w.ready in
      let verdict : e.verdict ≡ Some v = ap (λ (z : DomainVerdict). z.verdict) same ∙ is in
      let optimal : IsOptimalIn platform s.tree.nodes e.domain (base_of s e.domain) v = subst (λ o. IfSome o (IsOptimalIn platform s.tree.nodes e.domain (base_of s e.domain))) verdict right_now in
      let first : IsOptimalIn platform s.tree.nodes 0 (base_of s 0) v = subst (λ r. IsOptimalIn platform s.tree.nodes r (base_of s r) v) own optimal in
      let alone : IsOptimal platform None (shape_of s.tree.nodes 0) v = subst (λ b. IsOptimal platform (option_map (terms_of s.tree.nodes) b) (shape_of s.tree.nodes 0) v) (no_base s sound) first in
      subst (λ shape. IsOptimal platform None shape v) (sym (shape_kept stays one platform s (Decided c) sound ok there ready)) alone

-- what is known of the end of a legal history
pub record Ends (platform : PlatformFacts) (s : State) (es : List BookEntry) : Type 0 where
  pub accepted : trees.AreAccepted s.tree (map tree_entry es)
  pub right : IsRight platform (replay_from s es)

module _ (sound_stays : SoundStays) (ready_stays : ReadyStays) (stays : ForestStays) (one : OneForest) where
  ends : (platform : PlatformFacts) (s : State) (es : List BookEntry) → IsSoundState s → AreAllowed platform s es → IsRight platform s → Ends platform s es
  ends platform s [] sound all right = record { accepted = tt; right = right }
  ends platform s (e ∷ es) sound all right =
      let on = ends platform (after_entry s e) es (sound_step sound_stays ready_stays one platform s e sound all.0) all.1 (right_step stays one platform s e sound all.0 right) in
      record {
        accepted = (accepts one platform s e sound all.0, subst (λ t. trees.AreAccepted t (map tree_entry es)) (tree_of_entry s e) on.accepted);
        right = on.right;
      }

  ends_first : MapsOfLogs → (platform : PlatformFacts) (es : List BookEntry) → IsLegal platform es → Ends platform first_state es
  ends_first made platform es legal = ends platform first_state es (sound_first made) legal (λ d v has is. absurd (cc))

  pub initial_shape : MapsOfLogs → laws.InitialShape → InitialShape
  initial_shape made law p q es fs a b same =
      let same_es = tree_of_replay first_state es in
      let same_fs = tree_of_replay first_state fs in
      subst (λ t. SameInitial t (replay fs).tree) (sym same_es) (subst (λ u. SameInitial (trees.replay (map tree_entry es)) u) (sym same_fs)
      (law (map tree_entry es) (map tree_entry fs) (ends_first made p es a).accepted (ends_first made q fs b).accepted
      (λ path initial. same path (subst (λ (t : TreeFacts). IsInitial (at_path t.nodes) path) (sym same_es) initial))))

  pub confluent : MapsOfLogs → laws.Confluence → OneAnswer → Confluence
  confluent made law answer platform es fs a b calls early late =
      let ends_es = ends_first made platform es a in
      let ends_fs = ends_first made platform fs b in
      let both = law (map tree_entry es) (map tree_entry fs) ends_es.accepted ends_fs.accepted calls early late in
      let ready : SameReady (replay es).tree (replay fs).tree = subst (λ t. SameReady t (replay fs).tree) (sym (tree_of_replay first_state es))
      (subst (λ u. SameReady (trees.replay (map tree_entry es)) u) (sym (tree_of_replay first_state fs)) both) in
      record {
        ready = ready;
        answer = λ d e v w has_d has_e is_v is_w. answer platform None (shape_of (replay fs).tree.nodes 0) v w
            (subst (λ shape. IsOptimal platform None shape v) ready.shape (ends_es.right d v has_d is_v)) (ends_fs.right e w has_e is_w);
      }
