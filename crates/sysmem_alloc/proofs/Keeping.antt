-- The participants that the decisions chose, as a book keeps them.
use Rattle.std.proofs.Common.{◌≡◌, ◌≤◌, ℕ, ◌+◌, Bool, List, [], ◌∷◌, ◌++◌, length, Option, Some, None, Ok, refl, sym, ◌∙◌, ap, subst, arith, append-nil, length-append}
use Rattle.std.specs.Prelude.{All, IfSome, IsSome}
use Rattle.std.specs.List.{AllByRecursion, filter_map}
use Rattle.std.proofs.lemmas.List.Concat.{flat_map-append}
use Rattle.book_events.specs.declared.entry.Entry.{Entry}
use Rattle.book_events.specs.declared.entry.Entry.TheVariants as entries
use Rattle.negotiation_inputs.specs.Platform.{PlatformFacts}
use Rattle.sysmem_tree.specs.declared.action.ActionKind.{ActionKind}
use Rattle.sysmem_tree.specs.ActionKind.{Deed}
use Rattle.sysmem_tree.specs.Domain.{TreeFacts, HasDomain}
use Rattle.sysmem_tree.specs.Forest.{Forest}
use Rattle.sysmem_tree.specs.History as trees
use Rattle.sysmem_tree.specs.Laws.{ForestStays, OneForest, IsSameDomain}
use Rattle.sysmem_tree.specs.Members.{MembersStandOnce}
use Rattle.sysmem_tree.specs.Nodes.{HasNode}
use Rattle.sysmem_tree.specs.Selection.{IsPrefix, IsSelection}
use Rattle.sysmem_tree.specs.Shape.{by_number, forest_of}
use Rattle.sysmem_tree.specs.Tree.{Applied, applied, decided}
use Rattle.sysmem_alloc.specs.Accepted.{IsChosenIn}
use Rattle.sysmem_alloc.specs.Book.{BookFacts, IsBook, entered, kept_book}
use Rattle.sysmem_alloc.specs.Decision.{Claimed, DomainVerdict, answer_of, choices_of}
use Rattle.sysmem_alloc.specs.Entry.{Decided, decision_in}
use Rattle.sysmem_alloc.specs.History.{Allows}
use Rattle.sysmem_alloc.specs.Laws.{LegalIsSound, LegalAgrees}
use Rattle.sysmem_alloc.specs.Sound.{IsOfReady}
use Rattle.sysmem_alloc.specs.State.{State, chosen_by, chosen_in}
use Rattle.sysmem_tree.proofs.CallerLemmas.{few_different}
use Rattle.sysmem_alloc.proofs.Agreeing.{decided_stay}
use Rattle.sysmem_alloc.proofs.Apart.{entered_once}
use Rattle.sysmem_alloc.proofs.Choosing.{same_chosen}
use Rattle.sysmem_alloc.proofs.Entering.{acted_chosen, book_push, may_enter, no_decision, one_decision, state_sound}
use Rattle.sysmem_alloc.proofs.GivenBases.{all_once, all_there}
use Rattle.sysmem_alloc.proofs.Lists.{all_append, all_weaken}
use Rattle.sysmem_alloc.proofs.Stepping.{accepts}

-- they are nodes of the tree, and at most 128
module _ (sound : LegalIsSound) (law : MembersStandOnce) (b : BookFacts) (is : IsBook b) where
  there : AllByRecursion (λ (d : DomainVerdict). HasDomain b.state.tree.nodes d.domain) b.state.decisions
  there = all_weaken (IsOfReady b.state.tree) (λ (d : DomainVerdict). HasDomain b.state.tree.nodes d.domain) b.state.decisions (λ d h. h.there) (state_sound sound b is).decided

  pub chosen_there : All (HasNode b.state.tree.nodes) (chosen_in b.state.tree.nodes b.state.decisions)
  chosen_there = all_there law b.state.tree.nodes (state_sound sound b is).tree.tree b.state.decisions there

  pub few_chosen : LegalAgrees → length (chosen_in b.state.tree.nodes b.state.decisions) ≤ 128
  few_chosen agrees =
      let tree = (state_sound sound b is).tree.tree in
      let once = all_once law b.state.tree.nodes tree b.state.decisions there (entered_once agrees b is) in
      let few = few_different (chosen_in b.state.tree.nodes b.state.decisions) (length b.state.tree.nodes) once chosen_there in
      omega (arith, few, tree.few)

-- a decision adds those whom it chooses
module _ (sound : LegalIsSound) (stays : ForestStays) (one : OneForest) (b : BookFacts) (e : Claimed) (is : IsBook b) (ok : Allows b.platform b.state (Decided e)) where
  pub decided_chosen : chosen_in (decided b.state.tree e.domain (choices_of (answer_of e).verdict)).nodes (b.state.decisions ++ answer_of e ∷ [])
      ≡ chosen_in b.state.tree.nodes b.state.decisions ++ chosen_by b.state.tree.nodes (answer_of e)
  decided_chosen =
      let d : DomainVerdict = answer_of e in
      let s : State = b.state in
      let u : TreeFacts = decided s.tree d.domain (choices_of d.verdict) in
      let state = state_sound sound b is in
      let fine = accepts one b.platform s (Decided e) state ok in
      let same = decided_stay stays one b.platform s (trees.Decided d.domain (choices_of d.verdict)) u refl state fine in
      let own : IsSameDomain s.tree.nodes u.nodes d.domain = stays s.tree (trees.Decided d.domain (choices_of d.verdict)) d.domain state.tree.tree fine fine.there fine.ready in
      same_chosen s.tree.nodes u.nodes (s.decisions ++ d ∷ []) (one s.tree.nodes) (all_append (λ (x : DomainVerdict). IsSameDomain s.tree.nodes u.nodes x.domain) s.decisions (d ∷ []) same (own, tt))
      ∙ (flat_map-append (chosen_by s.tree.nodes) s.decisions (d ∷ []) ∙ ap (λ xs. chosen_in s.tree.nodes s.decisions ++ xs) (append-nil (chosen_by s.tree.nodes d)))

  -- for whom there is room
  pub chosen_room : LegalAgrees → MembersStandOnce → length (chosen_in b.state.tree.nodes b.state.decisions) + length (chosen_by b.state.tree.nodes (answer_of e)) ≤ 128
  chosen_room agrees law =
      let few : length (chosen_in (decided b.state.tree e.domain (choices_of (answer_of e).verdict)).nodes (b.state.decisions ++ answer_of e ∷ [])) ≤ 128 =
      few_chosen sound law (entered b (Decided e)) (book_push b (Decided e) is ok) agrees in
      let same = ap length decided_chosen in
      omega (arith, few, same, length-append (chosen_in b.state.tree.nodes b.state.decisions) (chosen_by b.state.tree.nodes (answer_of e)))

  -- and whose choices lead on in the domain
  pub chosen_leads : IsChosenIn b.state.tree.nodes (answer_of e)
  chosen_leads = let fine = may_enter sound one b e is ok in record { there = fine.there; prefix = leads (choices_of (answer_of e).verdict) fine.selects } where
    leads : (o : Option (List ℕ)) → IfSome o (λ cs. (f : Forest ℕ) × IsSelection (forest_of by_number b.state.tree.nodes e.domain []) cs f)
        → IfSome o (λ cs. IsPrefix (forest_of by_number b.state.tree.nodes e.domain []) cs)
    leads None h = tt
    leads (Some cs) h = subst IsSome (sym h.1.leads) refl

-- what is kept of them after an action is what was kept
pub kept_acted : LegalIsSound → ForestStays → OneForest → (platform : PlatformFacts) (t : TreeFacts) (raw new : List Entry) (waiting : List ℕ) (marks : List Bool) (i : ℕ) (kind : ActionKind) (deed : Deed) (made : Applied)
    (kept : List ℕ) → IsBook (kept_book platform t raw waiting marks) → applied t i deed ≡ Ok made → new ≡ raw ++ entries.Acted i kind ∷ []
    → kept ≡ chosen_in t.nodes (filter_map decision_in raw) → kept ≡ chosen_in made.tree.nodes (filter_map decision_in new)
kept_acted sound stays one platform t raw new waiting marks i kind deed made kept is ok pushed was =
    was ∙ sym (ap (λ es. chosen_in made.tree.nodes (filter_map decision_in es)) pushed
    ∙ (ap (chosen_in made.tree.nodes) (no_decision raw (entries.Acted i kind) refl) ∙ acted_chosen sound stays one platform t raw waiting marks i deed made is ok))

-- and after a decision
pub kept_decided : LegalIsSound → ForestStays → OneForest → (platform : PlatformFacts) (t u : TreeFacts) (raw new : List Entry) (waiting : List ℕ) (marks : List Bool) (x : Entry) (e : Claimed) (kept more : List ℕ)
    → IsBook (kept_book platform t raw waiting marks) → Allows platform (kept_book platform t raw waiting marks).state (Decided e) → decision_in x ≡ Some (answer_of e)
    → u ≡ decided t e.domain (choices_of (answer_of e).verdict) → new ≡ raw ++ x ∷ [] → kept ≡ chosen_in t.nodes (filter_map decision_in raw) → more ≡ kept ++ chosen_by t.nodes (answer_of e)
    → more ≡ chosen_in u.nodes (filter_map decision_in new)
kept_decided sound stays one platform t u raw new waiting marks x e kept more is ok decides tree pushed was grown =
    let v : TreeFacts = decided t e.domain (choices_of (answer_of e).verdict) in
    grown ∙ (ap (λ xs. xs ++ chosen_by t.nodes (answer_of e)) was
    ∙ sym (ap (λ (w : TreeFacts). chosen_in w.nodes (filter_map decision_in new)) tree
    ∙ (ap (λ es. chosen_in v.nodes (filter_map decision_in es)) pushed
    ∙ (ap (chosen_in v.nodes) (one_decision raw x (answer_of e) decides) ∙ decided_chosen sound stays one (kept_book platform t raw waiting marks) e is ok))))
