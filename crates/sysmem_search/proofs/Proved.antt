-- What proves a verdict, by what was refuted from no choices on.
use Rattle.std.proofs.Common.{◌≡◌, ◌≤◌, ℕ, List, [], ◌++◌, Option, is_some, length, sym, ◌∙◌, ap, subst}
use Rattle.std.specs.Prelude.{IfSome}
use Rattle.sysmem_merge.specs.declared.settings.Settings.{Settings}
use Rattle.negotiation_inputs.specs.Platform.{PlatformFacts}
use Rattle.verdict_claims.specs.Base.{BaseFacts}
use Rattle.verdict_claims.specs.Certificate.{IsCertificate, IsRefutation, RefutesEarlier, RefuseBeforeFor}
use Rattle.verdict_claims.specs.CertificateFacts.{CertificateFacts}
use Rattle.verdict_claims.specs.Conflict.{IsConflictFor}
use Rattle.conflict_finding.specs.Found.{IsBestChoice}
use Rattle.verdict_claims.specs.Matter.{Matter, forest, terms}
use Rattle.verdict_claims.specs.Verdict.{IsChosen, IsForestUnmet, IsUnmetBefore}
use Rattle.verdict_claims.specs.declared.refutation.Item.{Item}
use Rattle.sysmem_search.specs.Cut.{AreCut, IsCut}
use Rattle.search_questions.specs.Question.{MeetsOf, IsBestOf}
use Rattle.sysmem_search.specs.Refuting.{AddsRefutation}
use Rattle.search_questions.specs.Standing.{Standing}
use Rattle.search_questions.proofs.CallerLemmas.{prefix_of_numbers}
use Rattle.sysmem_tree.specs.Forest.{Forest, settled}
use Rattle.sysmem_tree.specs.LayoutLaws.{FewChoices}
use Rattle.sysmem_tree.specs.Node.{NodeFacts}
use Rattle.sysmem_tree.specs.Nodes.{IsTree}
use Rattle.sysmem_tree.specs.Selection.{IsPrefix, IsSelection, after}
use Rattle.sysmem_tree.specs.Shape.{Member}

abbrev matter_of : PlatformFacts → List NodeFacts → ℕ → Option BaseFacts → Matter
matter_of platform nodes domain base = record { platform = platform; nodes = nodes; domain = domain; base = base }

module _ (m : Matter) where
  -- what has the parts of a matter is that matter
  pub of_parts : (platform : PlatformFacts) (nodes : List NodeFacts) (domain : ℕ) (base : Option BaseFacts)
      → platform ≡ m.platform → nodes ≡ m.nodes → domain ≡ m.domain → base ≡ m.base → matter_of platform nodes domain base ≡ m
  of_parts platform nodes domain base p n d b = ap (λ x. matter_of x nodes domain base) p ∙ (ap (λ x. matter_of m.platform x domain base) n
      ∙ (ap (λ x. matter_of m.platform m.nodes x base) d ∙ ap (λ x. matter_of m.platform m.nodes m.domain x) b))

  abbrev start : Standing
  start = record { matter = m; choices = [] }

  -- what can't be met from no choices on
  pub unmet_at_start : (q : Standing) → q ≡ start → IsForestUnmet (MeetsOf m) (forest m) → IfSome (after (forest q.matter) q.choices) (λ d. IsForestUnmet (MeetsOf q.matter) d)
  unmet_at_start q is unmet = subst (λ (s : Standing). IfSome (after (forest s.matter) s.choices) (λ d. IsForestUnmet (MeetsOf s.matter) d)) (sym is) unmet

  -- is refuted by what refutes all that goes on from there
  pub refuted_all : (q : Standing) (old new items : List Item) → q ≡ start → old ≡ [] → items ≡ new → IfSome (after (forest q.matter) q.choices) (λ d. AddsRefutation q.matter d old new)
      → IsRefutation m.platform (terms m) (forest m) items
  refuted_all q old new items is empty same h =
      let adds = subst (λ (s : Standing). IfSome (after (forest s.matter) s.choices) (λ d. AddsRefutation s.matter d old new)) is h in
      subst (IsRefutation m.platform (terms m) (forest m)) (sym (same ∙ (adds.items ∙ ap (λ xs. xs ++ adds.refutation) empty))) adds.refutes

  -- and that ends where it can
  pub refuted_cut : (q : Standing) (old new items : List Item) → q ≡ start → old ≡ [] → items ≡ new → IfSome (after (forest q.matter) q.choices) (λ d. AddsRefutation q.matter d old new)
      → IsCut m (forest m) items
  refuted_cut q old new items is empty same h =
      let adds = subst (λ (s : Standing). IfSome (after (forest s.matter) s.choices) (λ d. AddsRefutation s.matter d old new)) is h in
      subst (IsCut m (forest m)) (sym (same ∙ (adds.items ∙ ap (λ xs. xs ++ adds.refutation) empty))) adds.cut

  module _ (selection selected : List ℕ) (s : Settings) (same : selection ≡ selected) (chosen : IsChosen (MeetsOf m) (IsBestOf m) (forest m) selected s) where
    prefix : IsPrefix (forest m) selection
    prefix = subst (IsPrefix (forest m)) (sym same) (ap is_some chosen.selects.leads)

    -- a selection has at most 128 choices
    pub few_selected : FewChoices → IsTree m.nodes → length selection ≤ 128
    few_selected few tree = few m.nodes m.domain selection tree (prefix_of_numbers m.nodes m.domain selection prefix)

    -- each of them can be made
    pub selected_prefix : (q : Standing) → q ≡ start → IsPrefix (forest q.matter) selection
    selected_prefix q is = subst (λ (x : Standing). IsPrefix (forest x.matter) selection) (sym is) prefix

    -- nothing earlier is met
    pub selected_unmet : (q : Standing) → q ≡ start → IsUnmetBefore (MeetsOf q.matter) (forest q.matter) selection
    selected_unmet q is = subst (λ (x : Standing). IsUnmetBefore (MeetsOf x.matter) (forest x.matter) selection) (sym is)
        (subst (IsUnmetBefore (MeetsOf m) (forest m)) (sym same) chosen.first)

    -- the settings are the best for it
    pub selected_best : (t : Settings) → t ≡ s → IsBestChoice m.platform (terms m) (forest m) selection t
    selected_best t settings_same = subst (λ x. IsBestChoice m.platform (terms m) (forest m) selection x) (sym settings_same)
        (subst (λ xs. IsBestChoice m.platform (terms m) (forest m) xs s) (sym same) (record { members = chosen.members; selects = chosen.selects; best = chosen.best }))

    -- so refutations of what is earlier, and lines before the settings, are a certificate
    pub certified : (q : Standing) (t : Settings) (certificate : CertificateFacts) → q ≡ start → t ≡ s
        → RefutesEarlier (IsConflictFor q.matter.platform (terms q.matter)) (forest q.matter) selection certificate.earlier
        → ((members : Forest Member) → IsSelection (forest m) selection members → RefuseBeforeFor m.platform (terms m) (settled members) t certificate)
        → IsCertificate m.platform (terms m) (forest m) selected s certificate
    certified q t certificate is settings_same earlier before = record {
      members = chosen.members;
      selects = chosen.selects;
      earlier = subst (λ xs. RefutesEarlier (IsConflictFor m.platform (terms m)) (forest m) xs certificate.earlier) same
          (subst (λ (x : Standing). RefutesEarlier (IsConflictFor x.matter.platform (terms x.matter)) (forest x.matter) selection certificate.earlier) is earlier);
      before = subst (λ x. RefuseBeforeFor m.platform (terms m) (settled chosen.members) x certificate) settings_same
          (before chosen.members (subst (λ xs. IsSelection (forest m) xs chosen.members) (sym same) chosen.selects));
    }

    -- of which each refutation ends where it can
    pub certified_cut : (q : Standing) → q ≡ start → (certificate : CertificateFacts) → AreCut q.matter (forest q.matter) selection certificate.earlier
        → AreCut m (forest m) selected certificate.earlier
    certified_cut q is certificate cut = subst (λ xs. AreCut m (forest m) xs certificate.earlier) same
        (subst (λ (x : Standing). AreCut x.matter (forest x.matter) selection certificate.earlier) is cut)
