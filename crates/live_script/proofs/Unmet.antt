-- The list of what is asked in a domain of which it is told has no settings.
use Rattle.std.proofs.Common.{◌≡◌, ◌++◌, ◌==◌, ◌&&◌, ◌||◌, ℕ, Bool, true, false, true≢false, List, [], ◌∷◌, Option, Some, None, slice_get, refl, sym, ◌∙◌, ap, subst}
use Rattle.std.specs.Prelude.{IsPermutation, is_none, is_some, not, option_map}
use Rattle.std.specs.List.{list_any}
use Rattle.std.proofs.lemmas.Bool.{eqb-true}
use Rattle.std.proofs.lemmas.List.{append_assoc}
use Rattle.std.proofs.lemmas.Option.{slice_get_within}
use Rattle.live_book.specs.Snapshot.{HasLedTo, SnapshotFacts}
use Rattle.live_script.specs.Laws.{ToldAreUnmet}
use Rattle.live_script.specs.Refusing.{asked_of, asking_in, has_group, is_emptied, is_empty, is_told}
use Rattle.live_script.proofs.Homes.{asked_by_homes, homes, homes_are_members, plain_forest}
use Rattle.sysmem_alloc.specs.Decision.{verdict_in}
use Rattle.sysmem_alloc.specs.Entry.{BookEntry, Acted, Decided}
use Rattle.sysmem_alloc.specs.Headline.{Headline, IsAsSaid, history_with, shape_in, terms_in}
use Rattle.sysmem_alloc.specs.History.{IsLegal, replay}
use Rattle.sysmem_alloc.specs.Laws.{LegalIsSound, NumbersStay}
use Rattle.sysmem_alloc.specs.State.{State, base_of}
use Rattle.sysmem_merge.specs.Best.{IsUnmet}
use Rattle.sysmem_proof.proofs.CallerLemmas.{asked_of_settled, meets_in_order}
use Rattle.negotiation_inputs.specs.Participant.{Participant}
use Rattle.negotiation_inputs.specs.Platform.{PlatformFacts}
use Rattle.sysmem_tree.specs.Domain.{HasDomain, TreeFacts, host_number}
use Rattle.sysmem_tree.specs.Forest.{settled}
use Rattle.sysmem_tree.specs.Laws.{AreStill, OneForest, OnePath}
use Rattle.sysmem_tree.specs.Node.{NodeFacts}
use Rattle.sysmem_tree.specs.Nodes.{IsTree}
use Rattle.sysmem_tree.specs.Path.{path_of}
use Rattle.sysmem_tree.specs.Shape.{by_path, shape_of}
use Rattle.sysmem_tree.specs.declared.node.Birth.{Birth}
use Rattle.sysmem_tree.proofs.CallerLemmas.{there}
use Rattle.verdict_claims.specs.Asked.{asked_in}
use Rattle.verdict_claims.specs.Base.{BaseFacts, IsGivenBase, terms_of}
use Rattle.verdict_claims.specs.Members.{participants}
use Rattle.verdict_claims.specs.Verdict.{IsForestUnmet, MeetsFor}
use Rattle.verdict_claims.specs.declared.certificate.Claim.{Claim}
use Rattle.verdict_claims.specs.declared.verdict.Verdict.{Verdict}
use Rattle.verdict_claims.specs.declared.verdict.Verdict.TheVariants as verdicts

-- the decision that emptied a domain
record Emptied (r : ℕ) (all : List BookEntry) : Type 0 where
  before : List BookEntry
  claim : Claim
  after : List BookEntry
  is : all ≡ history_with before r claim after
  empty : claim.verdict ≡ verdicts.IntersectionEmpty

is_emptying : (v : Verdict) → is_empty (Some v) ≡ true → v ≡ verdicts.IntersectionEmpty
is_emptying verdicts.IntersectionEmpty is = refl
is_emptying (verdicts.Chosen chosen) is = absurd (cc is)
is_emptying verdicts.TooMany is = absurd (cc is)
is_emptying verdicts.Failed is = absurd (cc is)
is_emptying verdicts.NoMemory is = absurd (cc is)

emptied : (r : ℕ) (all : List BookEntry) → list_any (is_emptied r) all ≡ true → Emptied r all
emptied r [] is = absurd (cc is)
emptied r (e ∷ es) is = at e is (emptied r es) where
  behind : (e : BookEntry) → Emptied r es → Emptied r (e ∷ es)
  behind e rest = record { before = e ∷ rest.before; claim = rest.claim; after = rest.after; is = ap (λ xs. e ∷ xs) rest.is; empty = rest.empty }

  at : (e : BookEntry) → (is_emptied r e || list_any (is_emptied r) es) ≡ true → (list_any (is_emptied r) es ≡ true → Emptied r es) → Emptied r (e ∷ es)
  at (Acted k deed) is rest = behind (Acted k deed) (rest is)
  at (Decided c) is rest = by (c.domain == r) refl c.claim refl is where
    by : (b : Bool) → (c.domain == r) ≡ b → (o : Option Claim) → c.claim ≡ o → ((b && is_empty (verdict_in o)) || list_any (is_emptied r) es) ≡ true → Emptied r (Decided c ∷ es)
    by false home o claim is = behind (Decided c) (rest is)
    by true home None claim is = behind (Decided c) (rest is)
    by true home (Some own) claim is = here (is_empty (Some own.verdict)) refl is where
      same : Decided c ≡ Decided (record { domain = r; claim = Some own })
      same = ap (λ d. Decided (record { domain = d; claim = c.claim })) (eqb-true c.domain r home) ∙ ap (λ o. Decided (record { domain = r; claim = o })) claim

      here : (t : Bool) → is_empty (Some own.verdict) ≡ t → (t || list_any (is_emptied r) es) ≡ true → Emptied r (Decided c ∷ es)
      here true empty is = record { before = []; claim = own; after = es; is = ap (λ e. e ∷ es) same; empty = is_emptying own.verdict empty }
      here false empty is = behind (Decided c) (rest is)

-- what isn't attached is decided on no terms
no_terms : (platform : PlatformFacts) (nodes : List NodeFacts) (r : ℕ) (o : Option BaseFacts) → host_number nodes r ≡ None → IsGivenBase platform nodes r o → option_map (terms_of nodes) o ≡ None
no_terms platform nodes r None free given = refl
no_terms platform nodes r (Some base) free given = absurd (true≢false (sym given.0 ∙ ap is_some free))

is_free : (o : Option ℕ) → is_none o ≡ true → o ≡ None
is_free None is = refl
is_free (Some k) is = absurd (cc is)

told_parts : (a b c : Bool) → ((a && not b) && c) ≡ true → (a ≡ true) × (b ≡ false) × (c ≡ true)
told_parts true false c is = (refl, refl, is)
told_parts true true c is = absurd (cc is)
told_parts false b c is = absurd (cc is)

module _ (headline : Headline) (stays : NumbersStay) (sound : LegalIsSound) (one_path : OnePath) (one_forest : OneForest) where
  -- of a history with that decision
  unmet : (platform : PlatformFacts) (es : List BookEntry) (r : ℕ) (c : Claim) (fs : List BookEntry) → IsLegal platform (history_with es r c fs) → c.verdict ≡ verdicts.IntersectionEmpty
      → (nodes : List NodeFacts) → nodes ≡ (replay (history_with es r c fs)).tree.nodes → host_number nodes r ≡ None → has_group nodes r ≡ false → IsUnmet true platform (asked_in nodes (asking_in nodes r))
  unmet platform es r c fs legal empty nodes same free plain t met =
      let old : List NodeFacts = (replay es).tree.nodes in
      let n = headline platform es r c fs legal in
      let still : AreStill old (replay (history_with es r c fs)).tree.nodes = stays platform es (Decided (record { domain = r; claim = Some c }) ∷ fs) legal in
      let has : HasDomain nodes r = subst (λ (ns : List NodeFacts). HasDomain ns r) (sym same) (still.root r n.there) in
      let tree : IsTree nodes = subst IsTree (sym same) (sound platform (history_with es r c fs) legal).tree.tree in
      let (m, here, _) = there (λ (z : NodeFacts). z.domain ≡ r) (slice_get old r) n.there in
      let birth = still.birth r (slice_get_within old r m here) in
      let free' : host_number old r ≡ None = ap (option_map (λ (b : Birth). b.parent)) (sym birth) ∙ (ap (λ (ns : List NodeFacts). host_number ns r) (sym same) ∙ free) in
      let terms : terms_in (replay es) r ≡ None = no_terms platform old r (base_of (replay es) r) free' n.given in
      let said : IsAsSaid platform (terms_in (replay es) r) (shape_in (replay es) r) verdicts.IntersectionEmpty = subst (IsAsSaid platform (terms_in (replay es) r) (shape_in (replay es) r)) empty n.said in
      let early : IsForestUnmet (MeetsFor platform None) (shape_in (replay es) r) = subst (λ o. IsForestUnmet (MeetsFor platform o) (shape_in (replay es) r)) terms said.1 in
      let late : IsForestUnmet (MeetsFor platform None) (shape_of nodes r) = subst (IsForestUnmet (MeetsFor platform None)) (sym n.shape ∙ ap (λ (ns : List NodeFacts). shape_of ns r) (sym same)) early in
      let order : IsPermutation (asked_in nodes (homes nodes r)) (participants (settled (shape_of nodes r))) =
      asked_of_settled nodes tree one_path r has (one_forest nodes r) [] (homes nodes r) (homes_are_members nodes r tree has plain) (shape_of nodes r) refl in
      late [] (shape_of nodes r) t (record { leads = refl; whole = plain_forest by_path nodes r (path_of nodes r) has plain })
      (meets_in_order platform t (asked_in nodes (asking_in nodes r)) (participants (settled (shape_of nodes r)))
      (subst (λ (ps : List Participant). IsPermutation ps (participants (settled (shape_of nodes r)))) (asked_by_homes nodes r) order) met)

  -- of what a history and further entries lead to
  unmet_behind : (s : SnapshotFacts) (later : List BookEntry) (r : ℕ) → IsLegal s.platform (s.history ++ later) → s.tree ≡ (replay (s.history ++ later)).tree → is_told s r ≡ true
      → IsUnmet true s.platform (asked_of s r)
  unmet_behind s later r legal tree told =
      let parts = told_parts (is_none (host_number s.tree.nodes r)) (has_group s.tree.nodes r) (list_any (is_emptied r) s.history) told in
      let e = emptied r s.history parts.2 in
      let all : s.history ++ later ≡ history_with e.before r e.claim (e.after ++ later) =
      ap (λ xs. xs ++ later) e.is ∙ append_assoc e.before (Decided (record { domain = r; claim = Some e.claim }) ∷ e.after) later in
      unmet s.platform e.before r e.claim (e.after ++ later) (subst (IsLegal s.platform) all legal) e.empty s.tree.nodes
      (ap (λ (t : TreeFacts). t.nodes) tree ∙ ap (λ (es : List BookEntry). (replay es).tree.nodes) all) (is_free (host_number s.tree.nodes r) parts.0) parts.1

  -- of a copy, to whose tree its history has led
  pub led_are_unmet : (s : SnapshotFacts) (r : ℕ) → HasLedTo s.platform s.history s.tree → is_told s r ≡ true → IsUnmet true s.platform (asked_of s r)
  led_are_unmet s r led told = unmet_behind s led.later r led.legal led.is told

  pub told_are_unmet : ToldAreUnmet
  told_are_unmet c s r book copy told =
      unmet_behind s copy.part.later r (subst (λ (p : PlatformFacts). IsLegal p (s.history ++ copy.part.later)) (sym copy.platform) (subst (IsLegal c.book.platform) copy.part.split book.legal))
      (copy.tree ∙ (ap (λ (b : State). b.tree) book.replayed ∙ ap (λ (es : List BookEntry). (replay es).tree) copy.part.split)) told
