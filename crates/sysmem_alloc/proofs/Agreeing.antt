-- The decisions of a legal history agree with its tree.
use Rattle.std.proofs.Common.{◌≡◌, ◌≢◌, ℕ, zero, suc, ◌+◌, ◌==◌, Bool, true, false, List, [], ◌∷◌, ◌++◌, Option, Some, None, Result, Ok, Err, slice_get, refl, sym, ◌∙◌, ap, subst, arith, inl, inr, eq-eqb}
use Rattle.std.specs.Prelude.{IsOk, IfSome, IsSomeAnd, filter, map, is_some, option_map, option_and_then, if◌then◌else◌}
use Rattle.std.proofs.lemmas.Bool.{cases_eq, ne_eqb}
use Rattle.std.proofs.lemmas.List.{map-append}
use Rattle.std.proofs.lemmas.Option.{same_Some, slice_get_within}
use Rattle.std.specs.List.{AllByRecursion}
use Rattle.sysmem_merge.specs.declared.settings.Settings.{Settings}
use Rattle.sysmem_merge.specs.Settings.{MeetsLoosely}
use Rattle.verdict_claims.specs.declared.verdict.Verdict.{Verdict}
use Rattle.verdict_claims.specs.declared.verdict.Verdict.TheVariants as verdicts
use Rattle.verdict_claims.specs.Base.{BaseFacts}
use Rattle.verdict_claims.specs.Verdict.{IsOptimalIn}
use Rattle.negotiation_inputs.specs.Platform.{PlatformFacts}
use Rattle.sysmem_tree.specs.declared.domain.Decision.{Decision as Standing}
use Rattle.sysmem_tree.specs.declared.domain.Decision.TheVariants.{Undecided, Chosen, NoneChosen}
use Rattle.sysmem_tree.specs.declared.domain.Domain.{Domain}
use Rattle.sysmem_tree.specs.declared.refusal.Refusal.{Refusal}
use Rattle.sysmem_tree.specs.ActionKind.{Deed, kind_of}
use Rattle.sysmem_tree.specs.Domain.{TreeFacts, HasDomain, AreDomains, decision_of, host_node, is_undecided, roots_from}
use Rattle.sysmem_tree.specs.Forest.{Forest, relabel}
use Rattle.sysmem_tree.specs.History as trees
use Rattle.sysmem_tree.specs.Laws.{ForestStays, OneForest, IsSameDomain}
use Rattle.sysmem_tree.specs.Node.{NodeFacts}
use Rattle.sysmem_tree.specs.Selection.{IsSelection}
use Rattle.sysmem_tree.specs.Shape.{Member, by_number, forest_of}
use Rattle.sysmem_tree.specs.Sublist.{IsSublist, ended, taken, left_out}
use Rattle.sysmem_tree.specs.Tree.{Applied, applied, decided, decided_domain}
use Rattle.sysmem_alloc.specs.Decision.{Claimed, DomainVerdict, answer_of, choices_of, decision_for, settings_for, settings_of}
use Rattle.sysmem_alloc.specs.Entry.{BookEntry, Acted, Decided}
use Rattle.sysmem_alloc.specs.History.{after_answer, after_entry, replay_from, replay, Allows, AreAllowed, IsLegal}
use Rattle.sysmem_alloc.specs.Laws.{LegalIsSound, LegalAgrees}
use Rattle.sysmem_alloc.specs.Sound.{AgreesWithTree, AreDistinct, AreSettingsOn, IsDecisionOn, IsOfReady, IsSoundState, roots_of, standing_of}
use Rattle.book_events.specs.Open.{is_open}
use Rattle.sysmem_alloc.specs.State.{State, first_state, after_action, base_of, chosen_in, kept_for, open_in}
use Rattle.sysmem_tree.proofs.CallerLemmas.{accepted, decision_acted, decision_by}
use Rattle.sysmem_alloc.proofs.Choosing.{same_chosen}
use Rattle.sysmem_alloc.proofs.Entering.{allowed_push, replay_push}
use Rattle.sysmem_alloc.proofs.Lists.{all_append, all_weaken, apart_append}
use Rattle.sysmem_alloc.proofs.Stepping.{accepts, claims_optimal, selects}
use Rattle.sysmem_alloc.proofs.Trees.{root_among}

-- who passes a test is some of all
sub_filter : (p : ℕ → Bool) (xs : List ℕ) → IsSublist (filter p xs) xs
sub_filter p [] = ended
sub_filter p (x ∷ xs) = by (p x) (sub_filter p xs) where
  by : (b : Bool) → IsSublist (filter p xs) xs → IsSublist (if b then x ∷ filter p xs else filter p xs) (x ∷ xs)
  by true rest = taken x (filter p xs) xs rest
  by false rest = left_out x (filter p xs) xs rest

all_both : {X : Type 0} (P Q : X → Type 0) (xs : List X) → AllByRecursion P xs → AllByRecursion Q xs → AllByRecursion (λ x. P x × Q x) xs
all_both P Q [] a b = tt
all_both P Q (x ∷ xs) a b = ((a.0, b.0), all_both P Q xs a.1 b.1)

-- a decision is entered with its domain
entered_own : (x : Standing) (ds : List Domain) (r k : ℕ) → slice_get (map (λ (d : Domain). d.root) ds) k ≡ Some r → decision_of (map (decided_domain r x) ds) r ≡ x
entered_own x [] r k at = absurd (cc)
entered_own x (d ∷ ds) r zero at =
    let own : (d.root == r) ≡ true = eq-eqb d.root r (same_Some d.root r at) in
    let kept : (decided_domain r x d).root ≡ d.root = ap (λ b. (if b then record d { decision = x } else d).root) own in
    let new : (decided_domain r x d).decision ≡ x = ap (λ b. (if b then record d { decision = x } else d).decision) own in
    ap (λ k. if k == r then (decided_domain r x d).decision else decision_of (map (decided_domain r x) ds) r) kept
    ∙ (ap (λ b. if b then (decided_domain r x d).decision else decision_of (map (decided_domain r x) ds) r) own ∙ new)
entered_own x (d ∷ ds) r (suc k) at = by (d.root == r) refl (entered_own x ds r k at) where
  by : (b : Bool) → (d.root == r) ≡ b → decision_of (map (decided_domain r x) ds) r ≡ x
      → (if (if b then record d { decision = x } else d).root == r then (if b then record d { decision = x } else d).decision else decision_of (map (decided_domain r x) ds) r) ≡ x
  by true is rest = ap (λ b. if b then x else decision_of (map (decided_domain r x) ds) r) is
  by false is rest = ap (λ b. if b then d.decision else decision_of (map (decided_domain r x) ds) r) is ∙ rest

decided_own : (t : TreeFacts) (r : ℕ) (choices : Option (List ℕ)) → AreDomains t → HasDomain t.nodes r → decision_of (decided t r choices).domains r ≡ (if is_some choices then Chosen else NoneChosen)
decided_own t r choices domains has = either choices (root_among t r domains has) where
  either : (o : Option (List ℕ)) → (k : ℕ) × (slice_get (roots_of t) k ≡ Some r) → decision_of (decided t r o).domains r ≡ (if is_some o then Chosen else NoneChosen)
  either None (k, at) = entered_own NoneChosen t.domains r k at
  either (Some cs) (k, at) = entered_own Chosen t.domains r k at

-- the decision of a domain, with one more entered
pub entered_last : (ds : List DomainVerdict) (d : DomainVerdict) → decision_for ds d.domain ≡ None → decision_for (ds ++ d ∷ []) d.domain ≡ Some d
entered_last [] d none = ap (λ b. if b then Some d else None) (eq-eqb d.domain d.domain refl)
entered_last (x ∷ ds) d none = by (x.domain == d.domain) none (entered_last ds d) where
  by : (b : Bool) → (if b then Some x else decision_for ds d.domain) ≡ None → (decision_for ds d.domain ≡ None → decision_for (ds ++ d ∷ []) d.domain ≡ Some d)
      → (if b then Some x else decision_for (ds ++ d ∷ []) d.domain) ≡ Some d
  by true e rest = absurd (cc)
  by false e rest = rest e

entered_other : (ds : List DomainVerdict) (d : DomainVerdict) (r : ℕ) → r ≢ d.domain → decision_for (ds ++ d ∷ []) r ≡ decision_for ds r
entered_other [] d r other = ap (λ b. if b then Some d else None) (ne_eqb d.domain r (λ e. other (sym e)))
entered_other (x ∷ ds) d r other = ap (λ o. if x.domain == r then Some x else o) (entered_other ds d r other)

-- where none is entered, all are of other domains
pub none_entered : (ds : List DomainVerdict) (r : ℕ) → decision_for ds r ≡ None → AllByRecursion (λ (d : DomainVerdict). d.domain ≢ r) ds
none_entered [] r none = tt
none_entered (x ∷ ds) r none = by (x.domain == r) refl none (none_entered ds r) where
  by : (b : Bool) → (x.domain == r) ≡ b → (if b then Some x else decision_for ds r) ≡ None → (decision_for ds r ≡ None → AllByRecursion (λ (d : DomainVerdict). d.domain ≢ r) ds) → AllByRecursion (λ (d : DomainVerdict). d.domain ≢ r) (x ∷ ds)
  by true is e rest = absurd (cc)
  by false is e rest = ((λ same. (let own : (x.domain == r) ≡ true = eq-eqb x.domain r same in absurd (cc))), rest e)

undecided_none : (o : Option DomainVerdict) → is_undecided (standing_of o) ≡ true → o ≡ None
undecided_none None e = refl
undecided_none (Some d) e = absurd (by (is_some (choices_of d.verdict)) e) where
  by : (b : Bool) → is_undecided (if b then Chosen else NoneChosen) ≡ true → ⊥
  by true e = absurd (cc)
  by false e = absurd (cc)

-- for a domain that is undecided none was entered
pub none_for : (platform : PlatformFacts) (s : State) (r : ℕ) → AgreesWithTree platform s → is_undecided (decision_of s.tree.domains r) ≡ true → decision_for s.decisions r ≡ None
none_for platform s r agrees open' = undecided_none (decision_for s.decisions r) (ap is_undecided (sym (agrees.standing r)) ∙ open')

-- settings of a decision are some on the platform
pub settings_fit : (platform : PlatformFacts) (nodes : List NodeFacts) (ds : List DomainVerdict) (r : ℕ) → AllByRecursion (IsDecisionOn platform nodes) ds → IfSome (settings_for ds r) (AreSettingsOn platform)
settings_fit platform nodes [] r all = tt
settings_fit platform nodes (d ∷ ds) r all = by (d.domain == r) (settings_fit platform nodes ds r all.1) where
  by : (b : Bool) → IfSome (settings_for ds r) (AreSettingsOn platform) → IfSome (option_and_then (λ (x : DomainVerdict). settings_of x.verdict) (if b then Some d else decision_for ds r)) (AreSettingsOn platform)
  by true rest = all.0.settings
  by false rest = rest

-- what meets participants is some on the platform
met_fit : (platform : PlatformFacts) (ps : List _) (t : Settings) → MeetsLoosely platform ps t → AreSettingsOn platform t
met_fit platform ps t m = record {
  some = m.counted.some;
  few = m.counted.limit;
  heap = slice_get_within platform.heaps t.place.heap m.heap m.sound.place.heap;
  size = m.sound.fit.fits;
  bounds = m.sound.fit.holds.bounds.in_range;
}

-- the base that a state gives has settings of a decision
based : (platform : PlatformFacts) (s : State) (r : ℕ) → AllByRecursion (IsDecisionOn platform s.tree.nodes) s.decisions → IfSome (base_of s r) (λ (b : BaseFacts). AreSettingsOn platform b.settings)
based platform s r all = by (host_node s.tree.nodes r) where
  with' : (o : Option Settings) → IfSome o (AreSettingsOn platform)
      → IfSome (option_map (λ (settings : Settings). record { settings = settings; accepted = s.accepted }) o) (λ (b : BaseFacts). AreSettingsOn platform b.settings)
  with' None h = tt
  with' (Some t) h = h

  by : (o : Option NodeFacts)
      → IfSome (option_and_then (λ (host : NodeFacts). option_map (λ (settings : Settings). record { settings = settings; accepted = s.accepted }) (settings_for s.decisions host.domain)) o)
      (λ (b : BaseFacts). AreSettingsOn platform b.settings)
  by None = tt
  by (Some host) = with' (settings_for s.decisions host.domain) (settings_fit platform s.tree.nodes s.decisions host.domain all)

-- the settings of an optimal verdict are some on the platform
optimal_fit : (platform : PlatformFacts) (nodes : List NodeFacts) (r : ℕ) (base : Option BaseFacts) (verdict : Option Verdict) → IfSome base (λ b. AreSettingsOn platform b.settings)
    → IfSome verdict (IsOptimalIn platform nodes r base) → IfSome (settings_of verdict) (AreSettingsOn platform)
optimal_fit platform nodes r base None given h = tt
optimal_fit platform nodes r None (Some (verdicts.Chosen chosen)) given h = met_fit platform _ chosen.settings h.1.best.meets.loosely
optimal_fit platform nodes r (Some b) (Some (verdicts.Chosen chosen)) given h = subst (AreSettingsOn platform) (sym h.1.best.same) given
optimal_fit platform nodes r base (Some verdicts.IntersectionEmpty) given h = tt
optimal_fit platform nodes r base (Some verdicts.TooMany) given h = tt
optimal_fit platform nodes r base (Some verdicts.Failed) given h = tt
optimal_fit platform nodes r base (Some verdicts.NoMemory) given h = tt

-- a domain that stays has the forest by numbers that it had
same_numbers : (old new : List NodeFacts) (r : ℕ) → OneForest → IsSameDomain old new r → forest_of by_number new r [] ≡ forest_of by_number old r []
same_numbers old new r one same = sym (one new r).numbers ∙ (ap (relabel (λ (l : ℕ × Member). l.0)) same.forest ∙ (one old r).numbers)

-- and a decision of it is one still
still_decided : (platform : PlatformFacts) (old new : List NodeFacts) (d : DomainVerdict) → OneForest → IsSameDomain old new d.domain → IsDecisionOn platform old d → IsDecisionOn platform new d
still_decided platform old new d one same is = record {
  settings = is.settings;
  selects = subst (λ f. IfSome (choices_of d.verdict) (λ cs. (e : Forest ℕ) × IsSelection f cs e)) (sym (same_numbers old new d.domain one same)) is.selects;
}

-- who is accepted is some of the chosen still
still_accepted : (old new : List NodeFacts) (ds : List DomainVerdict) (waiting acc : List ℕ) → chosen_in new ds ≡ chosen_in old ds → IsSublist acc (chosen_in old ds)
    → IsSublist (kept_for waiting acc (open_in new ds)) (chosen_in new ds)
still_accepted old new ds [] acc same is = sub_filter (is_open new) (chosen_in new ds)
still_accepted old new ds (w ∷ ws) acc same is = subst (IsSublist acc) (sym same) is

module _ (stays : ForestStays) (one : OneForest) (platform : PlatformFacts) where
  -- the decisions' domains stay
  pub decided_stay : (s : State) (e : trees.HistoryEntry) (u : TreeFacts) → trees.after_entry s.tree e ≡ u → IsSoundState s → trees.Accepts s.tree e
      → AllByRecursion (λ (d : DomainVerdict). IsSameDomain s.tree.nodes u.nodes d.domain) s.decisions
  decided_stay s e u is sound ok = all_weaken (IsOfReady s.tree) (λ (d : DomainVerdict). IsSameDomain s.tree.nodes u.nodes d.domain) s.decisions
      (λ d ready. subst (λ (x : TreeFacts). IsSameDomain s.tree.nodes x.nodes d.domain) is (stays s.tree e d.domain sound.tree.tree ok ready.there ready.ready)) sound.decided

  all_still : (s : State) (u : TreeFacts) → AgreesWithTree platform s → AllByRecursion (λ (d : DomainVerdict). IsSameDomain s.tree.nodes u.nodes d.domain) s.decisions → AllByRecursion (IsDecisionOn platform u.nodes) s.decisions
  all_still s u agrees same = all_weaken (λ (d : DomainVerdict). IsSameDomain s.tree.nodes u.nodes d.domain × IsDecisionOn platform s.tree.nodes d) (IsDecisionOn platform u.nodes) s.decisions
      (λ d h. still_decided platform s.tree.nodes u.nodes d one h.0 h.1) (all_both (λ (d : DomainVerdict). IsSameDomain s.tree.nodes u.nodes d.domain) (IsDecisionOn platform s.tree.nodes) s.decisions same agrees.chosen)

  -- after an action
  acted_agrees : (s : State) (i : ℕ) (deed : Deed) (made : Applied) → IsSoundState s → AgreesWithTree platform s → applied s.tree i deed ≡ Ok made → AgreesWithTree platform (after_action s made.tree)
  acted_agrees s i deed made sound agrees is =
      let (n, ok) = accepted s.tree i deed made is in
      let let_in : IsOk (applied s.tree i deed) = subst IsOk (sym is) refl in
      let same = decided_stay s (trees.Acted i deed) made.tree (ap (trees.after_answer s.tree) is) sound let_in in
      record {
        standing = λ r. subst (λ (x : TreeFacts). decision_of x.domains r ≡ decision_of s.tree.domains r) ok.tree (decision_acted s.tree n r (kind_of deed)) ∙ agrees.standing r;
        once = agrees.once;
        chosen = all_still s made.tree agrees same;
        accepted = still_accepted s.tree.nodes made.tree.nodes s.decisions s.waiting s.accepted (same_chosen s.tree.nodes made.tree.nodes s.decisions (one s.tree.nodes) same) agrees.accepted;
      }

  -- after a decision
  decided_agrees : (s : State) (e : Claimed) → IsSoundState s → AgreesWithTree platform s → Allows platform s (Decided e) → AgreesWithTree platform (after_entry s (Decided e))
  decided_agrees s e sound agrees ok =
      let d : DomainVerdict = answer_of e in
      let optimal = claims_optimal platform s.tree.nodes d.domain (base_of s d.domain) e.claim ok.1 in
      let u : TreeFacts = decided s.tree d.domain (choices_of d.verdict) in
      let fine = accepts one platform s (Decided e) sound ok in
      let same = decided_stay s (trees.Decided d.domain (choices_of d.verdict)) u refl sound fine in
      let own = stays s.tree (trees.Decided d.domain (choices_of d.verdict)) d.domain sound.tree.tree fine fine.there fine.ready in
      let none = none_for platform s d.domain agrees fine.undecided in
      let new : IsDecisionOn platform s.tree.nodes d = record {
        settings = optimal_fit platform s.tree.nodes d.domain (base_of s d.domain) d.verdict (based platform s d.domain agrees.chosen) optimal;
        selects = selects one platform s.tree.nodes d.domain (base_of s d.domain) d.verdict optimal;
      } in
      record {
        standing = λ r. elim (cases_eq r d.domain) [
          | inl is ↦ subst (λ k. decision_of u.domains k ≡ standing_of (decision_for (s.decisions ++ d ∷ []) k)) (sym is)
              (decided_own s.tree d.domain (choices_of d.verdict) sound.tree.domains fine.there ∙ ap standing_of (sym (entered_last s.decisions d none)))
          | inr other ↦ decision_by s.tree d.domain r (choices_of d.verdict) other ∙ (agrees.standing r ∙ ap standing_of (sym (entered_other s.decisions d r other)))
        ];
        once = subst AreDistinct (sym (map-append (λ (x : DomainVerdict). x.domain) s.decisions (d ∷ []))) (apart_append (map (λ (x : DomainVerdict). x.domain) s.decisions) (d.domain ∷ []) agrees.once (tt, tt)
            (apart_last s.decisions (none_entered s.decisions d.domain none)));
        chosen = all_append (IsDecisionOn platform u.nodes) s.decisions (d ∷ []) (all_still s u agrees same) (still_decided platform s.tree.nodes u.nodes d one own new, tt);
        accepted = sub_filter (is_open u.nodes) (chosen_in u.nodes (s.decisions ++ d ∷ []));
      } where
        apart_last : (ds : List DomainVerdict) → AllByRecursion (λ (x : DomainVerdict). x.domain ≢ e.domain) ds → AllByRecursion (λ x. AllByRecursion (λ y. x ≢ y) (e.domain ∷ [])) (map (λ (x : DomainVerdict). x.domain) ds)
        apart_last [] a = tt
        apart_last (x ∷ ds) a = ((a.0, tt), apart_last ds a.1)

  -- each step keeps it
  agrees_step : (s : State) (e : BookEntry) → IsSoundState s → AgreesWithTree platform s → Allows platform s e → AgreesWithTree platform (after_entry s e)
  agrees_step s (Acted i deed) sound agrees ok = by (applied s.tree i deed) refl ok where
    by : (o : Result Applied Refusal) → applied s.tree i deed ≡ o → IsOk o → AgreesWithTree platform (after_answer s o)
    by (Ok made) is h = acted_agrees s i deed made sound agrees is
    by (Err refusal) is h = absurd (cc)
  agrees_step s (Decided e) sound agrees ok = decided_agrees s e sound agrees ok

-- the state of a root token agrees
agrees_first : (platform : PlatformFacts) → AgreesWithTree platform first_state
agrees_first platform = record { standing = λ r. by (0 == r); once = tt; chosen = tt; accepted = ended } where
  by : (b : Bool) → (if b then Undecided else Undecided) ≡ Undecided
  by true = refl
  by false = refl

-- from a legal history on
agrees_from : LegalIsSound → ForestStays → OneForest → (platform : PlatformFacts) (done es : List BookEntry) → IsLegal platform done → AgreesWithTree platform (replay done)
    → AreAllowed platform (replay done) es → AgreesWithTree platform (replay_from (replay done) es)
agrees_from sound stays one platform done [] legal agrees all = agrees
agrees_from sound stays one platform done (e ∷ es) legal agrees all =
    let next : replay (done ++ e ∷ []) ≡ after_entry (replay done) e = replay_push first_state done e in
    subst (λ s. AgreesWithTree platform (replay_from s es)) next
    (agrees_from sound stays one platform (done ++ e ∷ []) es (allowed_push platform first_state done e legal all.0)
    (subst (AgreesWithTree platform) (sym next) (agrees_step stays one platform (replay done) e (sound platform done legal) agrees all.0))
    (subst (λ s. AreAllowed platform s es) (sym next) all.1))

pub legal_agrees : LegalIsSound → ForestStays → OneForest → LegalAgrees
legal_agrees sound stays one platform es legal = agrees_from sound stays one platform [] es tt (agrees_first platform) legal
