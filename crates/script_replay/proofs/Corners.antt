-- The corner of decided settings: there is one.
use Rattle.std.proofs.Common.{◌≡◌, ℕ, ◌==◌, Bool, true, false, List, [], ◌∷◌, ◌++◌, Option, Some, None, Result, Ok, Err, refl, sym, ap, subst}
use Rattle.std.specs.Prelude.{IfSome, option_map, option_and_then, if◌then◌else◌}
use Rattle.std.proofs.lemmas.Option.{same_Some}
use Rattle.sysmem_alloc.specs.Book.{BookFacts, IsBook}
use Rattle.sysmem_alloc.proofs.CallerLemmas.{claims_optimal}
use Rattle.sysmem_alloc.specs.Decision.{DomainVerdict, answer_of, decision_for, settings_for, settings_of}
use Rattle.sysmem_alloc.specs.Entry.{BookEntry, Acted, Decided}
use Rattle.sysmem_alloc.specs.History.{Allows, AreAllowed, after_answer, after_entry, replay_from}
use Rattle.sysmem_alloc.specs.State.{State, base_of, first_state}
use Rattle.sysmem_image.specs.Laws.{NoCorner}
use Rattle.sysmem_merge.specs.declared.settings.Settings.{Settings}
use Rattle.sysmem_merge.specs.Best.{IsBest}
use Rattle.verdict_claims.specs.declared.verdict.Verdict.{Verdict}
use Rattle.verdict_claims.specs.declared.verdict.Verdict.TheVariants.{Chosen, IntersectionEmpty, TooMany, Failed, NoMemory}
use Rattle.verdict_claims.specs.Base.{BaseFacts, terms_of}
use Rattle.verdict_claims.specs.Chosen.{ChosenFacts}
use Rattle.verdict_claims.specs.Members.{participants}
use Rattle.verdict_claims.specs.Verdict.{IsBestFor, IsOptimalIn}
use Rattle.negotiation_inputs.specs.Participant.{Participant}
use Rattle.negotiation_inputs.specs.Platform.{PlatformFacts}
use Rattle.sysmem_tree.specs.declared.refusal.Refusal.{Refusal}
use Rattle.sysmem_tree.specs.Domain.{host_node}
use Rattle.sysmem_tree.specs.Node.{NodeFacts}
use Rattle.sysmem_tree.specs.Shape.{Member}
use Rattle.sysmem_tree.specs.Tree.{Applied, applied}
use Rattle.script_replay.specs.Deciding.{HasCorner}

-- the best settings have a corner, since they hold an image
best_corner : NoCorner → (platform : PlatformFacts) (ps : List Participant) (s : Settings) → IsBest true platform ps s → HasCorner s
best_corner none platform ps s best field refused =
    let sound = best.meets.loosely.sound in
    none field s.offer s.bounds refused sound.fit.holds.image sound.fit.holds.bounds.admitted sound.fit.holds.bounds.large sound.fit.holds.bounds.required

-- all settings that were chosen have one
abbrev HaveCorners : State → Type 0
HaveCorners s = (r : ℕ) (x : Settings) → settings_for s.decisions r ≡ Some x → HasCorner x

-- so have those on which an attached domain is decided
base_corner : (s : State) (r : ℕ) (base : BaseFacts) → HaveCorners s → base_of s r ≡ Some base → HasCorner base.settings
base_corner s r base all is = by (host_node s.tree.nodes r) is where
  given : (o : Option Settings) → option_map (λ (x : Settings). record { settings = x; accepted = s.accepted }) o ≡ Some base → o ≡ Some base.settings
  given None e = absurd (cc)
  given (Some x) e = ap (option_map (λ (b : BaseFacts). b.settings)) e

  by : (o : Option NodeFacts) → option_and_then (λ (host : NodeFacts). option_map (λ (x : Settings). record { settings = x; accepted = s.accepted }) (settings_for s.decisions host.domain)) o ≡ Some base → HasCorner base.settings
  by None e = absurd (cc)
  by (Some host) e = all host.domain base.settings (given (settings_for s.decisions host.domain) e)

-- and so has what is chosen next
pub chosen_corner : NoCorner → (platform : PlatformFacts) (s : State) (r : ℕ) (chosen : ChosenFacts) → HaveCorners s
    → IsOptimalIn platform s.tree.nodes r (base_of s r) (Chosen chosen) → HasCorner chosen.settings
chosen_corner none platform s r chosen all optimal = by (base_of s r) refl _ optimal.1.best where
  by : (o : Option BaseFacts) → base_of s r ≡ o → (ms : List Member) → IsBestFor platform (option_map (terms_of s.tree.nodes) o) ms chosen.settings → HasCorner chosen.settings
  by None is ms best = best_corner none platform (participants ms) chosen.settings best
  by (Some base) is ms best = subst HasCorner (sym best.same) (base_corner s r base all is)

-- the settings of one decision more are those of the earlier ones or its own
pushed : (ds : List DomainVerdict) (d : DomainVerdict) (r : ℕ) (x : Settings) (P : Type 0) → (settings_for ds r ≡ Some x → P) → (settings_of d.verdict ≡ Some x → P)
    → settings_for (ds ++ d ∷ []) r ≡ Some x → P
pushed [] d r x P old own is = by (d.domain == r) is where
  by : (b : Bool) → option_and_then (λ (e : DomainVerdict). settings_of e.verdict) (if b then Some d else None) ≡ Some x → P
  by true e = own e
  by false e = absurd (cc)
pushed (e ∷ ds) d r x P old own is = by (λ h. pushed ds d r x P h own) (e.domain == r) old is where
  by : ((settings_for ds r ≡ Some x → P) → settings_for (ds ++ d ∷ []) r ≡ Some x → P) → (b : Bool) → (option_and_then (λ (z : DomainVerdict). settings_of z.verdict) (if b then Some e else decision_for ds r) ≡ Some x → P)
      → option_and_then (λ (z : DomainVerdict). settings_of z.verdict) (if b then Some e else decision_for (ds ++ d ∷ []) r) ≡ Some x → P
  by on true h i = h i
  by on false h i = on h i

decided_corners : NoCorner → (platform : PlatformFacts) (s : State) (d : DomainVerdict) → HaveCorners s → IfSome d.verdict (IsOptimalIn platform s.tree.nodes d.domain (base_of s d.domain))
    → (x : Settings) → settings_of d.verdict ≡ Some x → HasCorner x
decided_corners none platform s d all optimal x is = by d.verdict optimal is where
  by : (v : Option Verdict) → IfSome v (IsOptimalIn platform s.tree.nodes d.domain (base_of s d.domain)) → settings_of v ≡ Some x → HasCorner x
  by None o e = absurd (cc)
  by (Some (Chosen chosen)) o e = subst HasCorner (same_Some chosen.settings x e) (chosen_corner none platform s d.domain chosen all o)
  by (Some IntersectionEmpty) o e = absurd (cc)
  by (Some TooMany) o e = absurd (cc)
  by (Some Failed) o e = absurd (cc)
  by (Some NoMemory) o e = absurd (cc)

entry_corners : NoCorner → (platform : PlatformFacts) (s : State) (e : BookEntry) → Allows platform s e → HaveCorners s → HaveCorners (after_entry s e)
entry_corners none platform s (Acted i deed) ok all = by (applied s.tree i deed) where
  by : (o : Result Applied Refusal) → HaveCorners (after_answer s o)
  by (Ok made) = all
  by (Err refusal) = all
entry_corners none platform s (Decided c) ok all = λ r x is.
    let optimal = claims_optimal platform s.tree.nodes c.domain (base_of s c.domain) c.claim ok.1 in
    pushed s.decisions (answer_of c) r x (HasCorner x) (all r x) (decided_corners none platform s (answer_of c) all optimal x) is

corners_from : NoCorner → (platform : PlatformFacts) (s : State) (es : List BookEntry) → AreAllowed platform s es → HaveCorners s → HaveCorners (replay_from s es)
corners_from none platform s [] ok all = all
corners_from none platform s (e ∷ es) ok all = corners_from none platform (after_entry s e) es ok.1 (entry_corners none platform s e ok.0 all)

no_settings : HaveCorners first_state
no_settings r x e = absurd (cc)

pub book_corners : NoCorner → (b : BookFacts) → IsBook b → (r : ℕ) (x : Settings) → settings_for b.state.decisions r ≡ Some x → HasCorner x
book_corners none b is = subst HaveCorners (sym is.replayed) (corners_from none b.platform first_state b.history is.legal no_settings)
