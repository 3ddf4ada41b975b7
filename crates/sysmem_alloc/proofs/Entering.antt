-- What stands for a book after one more entry.
use Rattle.std.proofs.Common.{◌≡◌, ◌≢◌, ◌≤◌, ℕ, ◌+◌, Bool, false, not, ◌&&◌, List, [], ◌∷◌, ◌++◌, length, drop, Option, Some, None, Ok, get_or, slice_get, refl, sym, ◌∙◌, ap, subst, arith, append-nil, length-append}
use Rattle.std.specs.Prelude.{IsOk, filter, map, option_map, unwrap_or}
use Rattle.std.specs.List.{AllByRecursion, filter_map}
use Rattle.std.proofs.lemmas.List.{map-append}
use Rattle.std.proofs.lemmas.List.Elements.{filter_map-append}
use Rattle.book_events.specs.declared.entry.Entry.{Entry}
use Rattle.book_events.specs.declared.entry.Entry.TheVariants as entries
use Rattle.negotiation_inputs.specs.Participant.{Participant}
use Rattle.negotiation_inputs.specs.Platform.{PlatformFacts}
use Rattle.sysmem_tree.specs.declared.action.ActionKind.{ActionKind}
use Rattle.sysmem_tree.specs.ActionKind.{Deed, kind_of}
use Rattle.sysmem_tree.specs.Completing.{can_make_ready}
use Rattle.sysmem_tree.specs.Domain.{TreeFacts, is_ready}
use Rattle.sysmem_tree.specs.History as trees
use Rattle.sysmem_tree.specs.Laws.{ForestStays, OneForest, IsSameDomain}
use Rattle.sysmem_tree.specs.Node.{NodeFacts}
use Rattle.sysmem_tree.specs.Tree.{Applied, applied, decided}
use Rattle.sysmem_alloc.specs.Book.{BookFacts, IsBook, entered, kept_book}
use Rattle.sysmem_alloc.specs.Decision.{Claimed, DomainVerdict, answer_of, choices_of}
use Rattle.sysmem_alloc.specs.Entry.{BookEntry, Acted, Decided, entry_in, decision_in}
use Rattle.sysmem_alloc.specs.History.{after_answer, after_entry, replay_from, Allows, AreAllowed}
use Rattle.sysmem_alloc.specs.Laws.{LegalIsSound}
use Rattle.sysmem_alloc.specs.Marks.{if_ready, ready_at, ready_unmarked}
use Rattle.sysmem_alloc.specs.Sound.{IsOfReady, IsSoundState, roots_of}
use Rattle.book_events.specs.Open.{is_open}
use Rattle.sysmem_alloc.specs.State.{State, first_state, newly_ready, chosen_in, open_in, kept_for}
use Rattle.sysmem_alloc.proofs.Choosing.{same_chosen, same_filter}
use Rattle.sysmem_alloc.proofs.Counting.{few_waiting}
use Rattle.sysmem_alloc.proofs.Lists.{all_each, all_weaken}
use Rattle.sysmem_alloc.proofs.Marking.{newly_unmarked}
use Rattle.sysmem_alloc.proofs.Newly.{acted_newly}
use Rattle.sysmem_alloc.proofs.Setting.{IsSetTo, StandsIn, entry_keeps, all_stand, read_later, read_made}
use Rattle.sysmem_alloc.proofs.Stepping.{accepts}
use Rattle.sysmem_alloc.proofs.Trees.{decided_roots}

-- one more entry
pub replay_push : (s : State) (es : List BookEntry) (e : BookEntry) → replay_from s (es ++ e ∷ []) ≡ after_entry (replay_from s es) e
replay_push s [] e = refl
replay_push s (x ∷ es) e = replay_push (after_entry s x) es e

pub allowed_push : (platform : PlatformFacts) (s : State) (es : List BookEntry) (e : BookEntry) → AreAllowed platform s es → Allows platform (replay_from s es) e → AreAllowed platform s (es ++ e ∷ [])
allowed_push platform s [] e all ok = (ok, tt)
allowed_push platform s (x ∷ es) e all ok = (all.0, allowed_push platform (after_entry s x) es e all.1 ok)

pub book_push : (b : BookFacts) (e : BookEntry) → IsBook b → Allows b.platform b.state e → IsBook (entered b e)
book_push b e is ok = record {
  legal = allowed_push b.platform first_state b.history e is.legal (subst (λ s. Allows b.platform s e) is.replayed ok);
  replayed = ap (λ s. after_entry s e) is.replayed ∙ sym (replay_push first_state b.history e);
}

-- the state of a book is sound
pub state_sound : LegalIsSound → (b : BookFacts) → IsBook b → IsSoundState b.state
state_sound sound b is = subst IsSoundState (sym is.replayed) (sound b.platform b.history is.legal)

-- there is room for those who wait after an entry
pub room_after : LegalIsSound → (b : BookFacts) (e : BookEntry) → IsBook b → Allows b.platform b.state e → length (after_entry b.state e).waiting ≤ 128
room_after sound b e is ok = omega (arith, few_waiting (after_entry b.state e) (state_sound sound (entered b e) (book_push b e is ok)))

same_state : (t : TreeFacts) (ds ds' : List DomainVerdict) (w w' a a' : List ℕ) → ds ≡ ds' → w ≡ w' → a ≡ a'
    → ◌≡◌ {A = State} (record { tree = t; decisions = ds; waiting = w; accepted = a }) (record { tree = t; decisions = ds'; waiting = w'; accepted = a' })
same_state t ds ds' w w' a a' d e f =
    ap (λ x. record { tree = t; decisions = x; waiting = w; accepted = a }) d
    ∙ (ap (λ x. record { tree = t; decisions = ds'; waiting = x; accepted = a }) e ∙ ap (λ x. record { tree = t; decisions = ds'; waiting = w'; accepted = x }) f)

same_book : (platform : PlatformFacts) (h h' : List BookEntry) (s s' : State) → h ≡ h' → s ≡ s'
    → ◌≡◌ {A = BookFacts} (record { platform = platform; history = h; state = s }) (record { platform = platform; history = h'; state = s' })
same_book platform h h' s s' e f = ap (λ x. record { platform = platform; history = x; state = s }) e ∙ ap (λ x. record { platform = platform; history = h'; state = x }) f

-- the entries, and one more, read from a later tree
read_push : (platform : PlatformFacts) (t u : TreeFacts) (raw : List Entry) (x : Entry) (e : BookEntry) (waiting : List ℕ) (marks : List Bool) → IsBook (kept_book platform t raw waiting marks)
    → ((k : ℕ) (c : Option Participant) → IsSetTo t.nodes k c → IsSetTo u.nodes k c) → entry_in u.nodes x ≡ e
    → map (entry_in u.nodes) (raw ++ x ∷ []) ≡ map (entry_in t.nodes) raw ++ e ∷ []
read_push platform t u raw x e waiting marks is keeps read =
    map-append (entry_in u.nodes) raw (x ∷ [])
    ∙ (ap (λ ys. ys ++ entry_in u.nodes x ∷ []) (read_later t.nodes u.nodes keeps raw
    (subst (λ (s : State). AllByRecursion (StandsIn s.tree.nodes) (map (entry_in t.nodes) raw)) (sym is.replayed) (all_stand platform first_state (map (entry_in t.nodes) raw) is.legal)))
    ∙ ap (λ y. map (entry_in t.nodes) raw ++ y ∷ []) read)

pub no_decision : (raw : List Entry) (x : Entry) → decision_in x ≡ None → filter_map decision_in (raw ++ x ∷ []) ≡ filter_map decision_in raw
no_decision raw x none = filter_map-append decision_in raw (x ∷ []) ∙ (ap (λ ys. filter_map decision_in raw ++ ys) (at (decision_in x) refl none) ∙ append-nil (filter_map decision_in raw)) where
  at : (o : Option DomainVerdict) → decision_in x ≡ o → o ≡ None → filter_map decision_in (x ∷ []) ≡ []
  at None is e = rw is refl
  at (Some d) is e = absurd (cc)

pub one_decision : (raw : List Entry) (x : Entry) (d : DomainVerdict) → decision_in x ≡ Some d → filter_map decision_in (raw ++ x ∷ []) ≡ filter_map decision_in raw ++ d ∷ []
one_decision raw x d is = filter_map-append decision_in raw (x ∷ []) ∙ ap (λ ys. filter_map decision_in raw ++ ys) one where
  one : filter_map decision_in (x ∷ []) ≡ d ∷ []
  one = rw is refl

-- who is accepted, by the domains that wait and by marks of the nodes that were open
abbrev kept_in : List NodeFacts → List DomainVerdict → List ℕ → List Bool → List ℕ
kept_in nodes ds waiting marks = kept_for waiting (filter (λ i. get_or marks i false) (chosen_in nodes ds)) (open_in nodes ds)

-- where the marks are of those open now, or none waits, those open now are accepted
opened : (nodes : List NodeFacts) (ds : List DomainVerdict) (waiting : List ℕ) (now : List Bool) → (waiting ≢ [] → (k : ℕ) → get_or now k false ≡ is_open nodes k) → kept_in nodes ds waiting now ≡ open_in nodes ds
opened nodes ds [] now taken = refl
opened nodes ds (r ∷ rs) now taken =
    same_filter (λ i. get_or now i false) (is_open nodes) (chosen_in nodes ds) (all_each (λ i. get_or now i false ≡ is_open nodes i) (chosen_in nodes ds) (taken (λ e. absurd (cc))))

-- after an action as it says
accepted_kept : (old new : List NodeFacts) (ds : List DomainVerdict) (waiting newly later : List ℕ) (marks now : List Bool) → chosen_in new ds ≡ chosen_in old ds → later ≡ waiting ++ newly
    → (waiting ≡ [] → later ≢ [] → (k : ℕ) → get_or now k false ≡ is_open new k) → (waiting ≢ [] → now ≡ marks)
    → kept_in new ds later now ≡ kept_for waiting (kept_in old ds waiting marks) (open_in new ds)
accepted_kept old new ds [] newly later marks now same grown taken kept = opened new ds later now (taken refl)
accepted_kept old new ds (r ∷ rs) newly later marks now same grown taken kept =
    ap (λ ws. kept_in new ds ws now) grown
    ∙ (ap (λ (ms : List Bool). filter (λ i. get_or ms i false) (chosen_in new ds)) (kept (λ e. absurd (cc))) ∙ ap (filter (λ i. get_or marks i false)) same)

module _ (sound : LegalIsSound) (stays : ForestStays) (one : OneForest) where
  -- an action leaves those whom the decisions chose
  pub acted_chosen : (platform : PlatformFacts) (t : TreeFacts) (raw : List Entry) (waiting : List ℕ) (marks : List Bool) (i : ℕ) (deed : Deed) (made : Applied)
      → IsBook (kept_book platform t raw waiting marks) → applied t i deed ≡ Ok made → chosen_in made.tree.nodes (filter_map decision_in raw) ≡ chosen_in t.nodes (filter_map decision_in raw)
  acted_chosen platform t raw waiting marks i deed made is ok =
      let state = state_sound sound (kept_book platform t raw waiting marks) is in
      let let_in : IsOk (applied t i deed) = subst IsOk (sym ok) refl in
      same_chosen t.nodes made.tree.nodes (filter_map decision_in raw) (one t.nodes)
      (all_weaken (IsOfReady t) (λ (d : DomainVerdict). IsSameDomain t.nodes made.tree.nodes d.domain) (filter_map decision_in raw)
      (λ d r. subst (λ o. IsSameDomain t.nodes (trees.after_answer t o).nodes d.domain) ok (stays t (trees.Acted i deed) d.domain state.tree.tree let_in r.there r.ready)) state.decided)

  -- an action
  pub acted_kept : (platform : PlatformFacts) (t : TreeFacts) (raw : List Entry) (waiting later : List ℕ) (marks now : List Bool) (i : ℕ) (deed : Deed) (made : Applied)
      → IsBook (kept_book platform t raw waiting marks) → applied t i deed ≡ Ok made → later ≡ waiting ++ newly_ready t made.tree
      → (waiting ≡ [] → later ≢ [] → (k : ℕ) → get_or now k false ≡ is_open made.tree.nodes k) → (waiting ≢ [] → now ≡ marks)
      → kept_book platform made.tree (raw ++ entries.Acted i (kind_of deed) ∷ []) later now ≡ entered (kept_book platform t raw waiting marks) (Acted i deed)
  acted_kept platform t raw waiting later marks now i deed made is ok grown taken kept =
      let b : BookFacts = kept_book platform t raw waiting marks in
      let ds : List DomainVerdict = filter_map decision_in raw in
      let x : Entry = entries.Acted i (kind_of deed) in
      let chosen : chosen_in made.tree.nodes ds ≡ chosen_in t.nodes ds = acted_chosen platform t raw waiting marks i deed made is ok in
      let none : filter_map decision_in (raw ++ x ∷ []) ≡ ds = no_decision raw x refl in
      same_book platform (map (entry_in made.tree.nodes) (raw ++ x ∷ [])) (map (entry_in t.nodes) raw ++ Acted i deed ∷ [])
      (kept_book platform made.tree (raw ++ x ∷ []) later now).state (after_entry b.state (Acted i deed))
      (read_push platform t made.tree raw x (Acted i deed) waiting marks is (λ k c h. subst (λ o. IsSetTo (after_answer b.state o).tree.nodes k c) ok (entry_keeps b.state (Acted i deed) k c h)) (read_made t i deed made ok))
      (same_state made.tree (filter_map decision_in (raw ++ x ∷ [])) ds later (waiting ++ newly_ready t made.tree)
      (kept_in made.tree.nodes (filter_map decision_in (raw ++ x ∷ [])) later now) (kept_for waiting (kept_in t.nodes ds waiting marks) (open_in made.tree.nodes ds))
      none grown (ap (λ es. kept_in made.tree.nodes es later now) none ∙ accepted_kept t.nodes made.tree.nodes ds waiting (newly_ready t made.tree) later marks now chosen grown taken kept)
      ∙ ap (after_answer b.state) (sym ok))

-- a decision
pub decided_kept : (platform : PlatformFacts) (t : TreeFacts) (raw : List Entry) (waiting later : List ℕ) (marks now : List Bool) (x : Entry) (e : Claimed)
    → IsBook (kept_book platform t raw waiting marks) → decision_in x ≡ Some (answer_of e) → ((nodes : List NodeFacts) → entry_in nodes x ≡ Decided e)
    → later ≡ drop 1 waiting ++ newly_ready t (decided t e.domain (choices_of (answer_of e).verdict))
    → ((k : ℕ) → get_or now k false ≡ is_open (decided t e.domain (choices_of (answer_of e).verdict)).nodes k)
    → kept_book platform (decided t e.domain (choices_of (answer_of e).verdict)) (raw ++ x ∷ []) later now ≡ entered (kept_book platform t raw waiting marks) (Decided e)
decided_kept platform t raw waiting later marks now x e is decides read grown taken =
    let d : DomainVerdict = answer_of e in
    let b : BookFacts = kept_book platform t raw waiting marks in
    let u : TreeFacts = decided t d.domain (choices_of d.verdict) in
    let ds : List DomainVerdict = filter_map decision_in raw in
    let more : filter_map decision_in (raw ++ x ∷ []) ≡ ds ++ d ∷ [] = one_decision raw x d decides in
    same_book platform (map (entry_in u.nodes) (raw ++ x ∷ [])) (map (entry_in t.nodes) raw ++ Decided e ∷ [])
    (kept_book platform u (raw ++ x ∷ []) later now).state (after_entry b.state (Decided e))
    (read_push platform t u raw x (Decided e) waiting marks is (λ k c h. entry_keeps b.state (Decided e) k c h) (read u.nodes))
    (same_state u (filter_map decision_in (raw ++ x ∷ [])) (ds ++ d ∷ []) later (drop 1 waiting ++ newly_ready t u)
    (kept_in u.nodes (filter_map decision_in (raw ++ x ∷ [])) later now) (open_in u.nodes (ds ++ d ∷ []))
    more grown (ap (λ es. kept_in u.nodes es later now) more ∙ opened u.nodes (ds ++ d ∷ []) later now (λ some. taken)))

-- who is newly ready, by marks of those who were
marked_at : (t : TreeFacts) (marks : List Bool) → ((k : ℕ) → get_or marks k false ≡ ready_at t k) → (j r : ℕ) → slice_get (roots_of t) j ≡ Some r
    → get_or marks (0 + j) false ≡ is_ready t r
marked_at t marks all j r here =
    let z : j ≡ 0 + j = omega arith in
    subst (λ k. get_or marks k false ≡ is_ready t r) z (all j ∙ ap (λ o. unwrap_or (option_map (is_ready t) o) false) here)

pub decided_newly : (t : TreeFacts) (r : ℕ) (choices : Option (List ℕ)) (marks : List Bool) → ((k : ℕ) → get_or marks k false ≡ ready_at t k)
    → newly_ready t (decided t r choices) ≡ ready_unmarked (decided t r choices) marks 0 (roots_of (decided t r choices))
decided_newly t r choices marks all =
    let u : TreeFacts = decided t r choices in
    let roots : roots_of u ≡ roots_of t ++ [] = decided_roots t r choices ∙ sym (append-nil (roots_of t)) in
    ap (filter (λ k. is_ready u k && not (is_ready t k))) roots
    ∙ (newly_unmarked u (is_ready t) marks 0 (roots_of t) [] (marked_at t marks all) tt ∙ ap (ready_unmarked u marks 0) (sym roots))

-- all that is to be shown of a book after an action
pub record Shows (b c : BookFacts) : Type 0 where
  pub book : IsBook c
  pub is : c ≡ b

pub acted_room : LegalIsSound → (platform : PlatformFacts) (t : TreeFacts) (raw : List Entry) (waiting : List ℕ) (marks : List Bool) (i : ℕ) (kind : ActionKind) (deed : Deed)
    (made : Applied) (unready : Option ℕ) → IsBook (kept_book platform t raw waiting marks) → applied t i deed ≡ Ok made → kind ≡ kind_of deed → unready ≡ can_make_ready t i kind
    → length waiting + length (if_ready made.tree unready) ≤ 128
acted_room sound platform t raw waiting marks i kind deed made unready is ok same_kind asked =
    let b : BookFacts = kept_book platform t raw waiting marks in
    let room : length (waiting ++ newly_ready t made.tree) ≤ 128 = subst (λ o. length (after_answer b.state o).waiting ≤ 128) ok (room_after sound b (Acted i deed) is (subst IsOk (sym ok) refl)) in
    let same : length (newly_ready t made.tree) ≡ length (if_ready made.tree unready) = ap length (acted_newly t i kind deed made unready (state_sound sound b is).tree ok same_kind asked) in
    omega (arith, room, same, length-append waiting (newly_ready t made.tree))

pub acted_shows : LegalIsSound → ForestStays → OneForest → (platform : PlatformFacts) (t : TreeFacts) (raw new : List Entry) (waiting later : List ℕ) (marks now : List Bool) (i : ℕ) (kind : ActionKind) (deed : Deed)
    (made : Applied) (unready : Option ℕ) → IsBook (kept_book platform t raw waiting marks) → applied t i deed ≡ Ok made → kind ≡ kind_of deed → unready ≡ can_make_ready t i kind
    → new ≡ raw ++ entries.Acted i kind ∷ [] → later ≡ waiting ++ if_ready made.tree unready
    → (waiting ≡ [] → later ≢ [] → (k : ℕ) → get_or now k false ≡ is_open made.tree.nodes k) → (waiting ≢ [] → now ≡ marks)
    → Shows (entered (kept_book platform t raw waiting marks) (Acted i deed)) (kept_book platform made.tree new later now)
acted_shows sound stays one platform t raw new waiting later marks now i kind deed made unready is ok same_kind asked pushed grown taken kept =
    let b : BookFacts = kept_book platform t raw waiting marks in
    let raws : new ≡ raw ++ entries.Acted i (kind_of deed) ∷ [] = pushed ∙ ap (λ k. raw ++ entries.Acted i k ∷ []) same_kind in
    let laters : later ≡ waiting ++ newly_ready t made.tree = grown ∙ ap (λ ys. waiting ++ ys) (sym (acted_newly t i kind deed made unready (state_sound sound b is).tree ok same_kind asked)) in
    let same : kept_book platform made.tree new later now ≡ entered b (Acted i deed) =
    ap (λ es. kept_book platform made.tree es later now) raws ∙ acted_kept sound stays one platform t raw waiting later marks now i deed made is ok laters taken kept in
    record { book = subst IsBook (sym same) (book_push b (Acted i deed) is (subst IsOk (sym ok) refl)); is = same }

-- and after a decision
pub decided_room : LegalIsSound → (platform : PlatformFacts) (t : TreeFacts) (raw : List Entry) (waiting : List ℕ) (marks were : List Bool) (e : Claimed)
    → (is : IsBook (kept_book platform t raw waiting marks)) → Allows platform (kept_book platform t raw waiting marks).state (Decided e) → ((k : ℕ) → get_or were k false ≡ ready_at t k)
    → length (drop 1 waiting) + length (ready_unmarked (decided t e.domain (choices_of (answer_of e).verdict)) were 0 (roots_of (decided t e.domain (choices_of (answer_of e).verdict)))) ≤ 128
decided_room sound platform t raw waiting marks were e is ok marked =
    let d : DomainVerdict = answer_of e in
    let b : BookFacts = kept_book platform t raw waiting marks in
    let u : TreeFacts = decided t d.domain (choices_of d.verdict) in
    let room : length (drop 1 waiting ++ newly_ready t u) ≤ 128 = room_after sound b (Decided e) is ok in
    let same : length (newly_ready t u) ≡ length (ready_unmarked u were 0 (roots_of u)) = ap length (decided_newly t d.domain (choices_of d.verdict) were marked) in
    omega (arith, room, same, length-append (drop 1 waiting) (newly_ready t u))

pub decided_shows : (platform : PlatformFacts) (t u : TreeFacts) (raw new : List Entry) (waiting later : List ℕ) (marks now were : List Bool) (x : Entry) (e : Claimed)
    → IsBook (kept_book platform t raw waiting marks) → Allows platform (kept_book platform t raw waiting marks).state (Decided e)
    → decision_in x ≡ Some (answer_of e) → ((nodes : List NodeFacts) → entry_in nodes x ≡ Decided e) → u ≡ decided t e.domain (choices_of (answer_of e).verdict) → new ≡ raw ++ x ∷ []
    → ((k : ℕ) → get_or were k false ≡ ready_at t k) → later ≡ drop 1 waiting ++ ready_unmarked u were 0 (roots_of u) → ((k : ℕ) → get_or now k false ≡ is_open u.nodes k)
    → Shows (entered (kept_book platform t raw waiting marks) (Decided e)) (kept_book platform u new later now)
decided_shows platform t u raw new waiting later marks now were x e is ok decides read tree pushed marked grown taken =
    let d : DomainVerdict = answer_of e in
    let b : BookFacts = kept_book platform t raw waiting marks in
    let v : TreeFacts = decided t d.domain (choices_of d.verdict) in
    let grown' : later ≡ drop 1 waiting ++ ready_unmarked v were 0 (roots_of v) = subst (λ (w : TreeFacts). later ≡ drop 1 waiting ++ ready_unmarked w were 0 (roots_of w)) tree grown in
    let laters : later ≡ drop 1 waiting ++ newly_ready t v = grown' ∙ ap (λ ys. drop 1 waiting ++ ys) (sym (decided_newly t d.domain (choices_of d.verdict) were marked)) in
    let opens : (k : ℕ) → get_or now k false ≡ is_open v.nodes k = subst (λ (w : TreeFacts). (k : ℕ) → get_or now k false ≡ is_open w.nodes k) tree taken in
    let same : kept_book platform u new later now ≡ entered b (Decided e) =
    ap (λ w. kept_book platform w new later now) tree ∙ (ap (λ es. kept_book platform v es later now) pushed ∙ decided_kept platform t raw waiting later marks now x e is decides read laters opens) in
    record { book = subst IsBook (sym same) (book_push b (Decided e) is ok); is = same }

-- a decision may be entered in the tree
pub may_enter : LegalIsSound → OneForest → (b : BookFacts) (e : Claimed) → IsBook b → Allows b.platform b.state (Decided e) → trees.IsDecidable b.state.tree e.domain (choices_of (answer_of e).verdict)
may_enter sound one b e is ok = accepts one b.platform b.state (Decided e) (state_sound sound b is) ok
