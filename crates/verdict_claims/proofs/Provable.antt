-- Each optimal verdict on a domain of a tree has a proof.
use Rattle.std.proofs.Common.{ℕ, List, [], Option, Some, None, arith}
use Rattle.std.specs.Prelude.{option_map}
use Rattle.list_lemmas.proofs.CallerLemmas.{slice_get_some}
use Rattle.negotiation_inputs.specs.Platform.{PlatformFacts}
use Rattle.sysmem_tree.specs.Domain.{HasDomain}
use Rattle.sysmem_tree.specs.Forest.{Forest}
use Rattle.sysmem_tree.specs.Laws.{OnePath, OneForest}
use Rattle.sysmem_tree.specs.Members.{MembersStandOnce}
use Rattle.sysmem_tree.specs.Node.{NodeFacts}
use Rattle.sysmem_tree.specs.Nodes.{IsTree}
use Rattle.sysmem_tree.specs.Shape.{Member, shape_of}
use Rattle.verdict_claims.specs.declared.certificate.Proof.{Proof}
use Rattle.verdict_claims.specs.declared.certificate.Proof.TheVariants as proves
use Rattle.verdict_claims.specs.declared.verdict.Verdict.{Verdict}
use Rattle.verdict_claims.specs.declared.verdict.Verdict.TheVariants as verdicts
use Rattle.verdict_claims.specs.Base.{BaseFacts, Terms, IsGivenBase, terms_of}
use Rattle.verdict_claims.specs.Check.{IsProof}
use Rattle.verdict_claims.specs.Laws.{OptimalHasProof}
use Rattle.verdict_claims.specs.Verdict.{IsOptimal}
use Rattle.verdict_claims.proofs.Certifying.{certified}
use Rattle.verdict_claims.proofs.Refutable.{Apart, FitTerms, refuted}
use Rattle.verdict_claims.proofs.SettledNodes.{stand_for, no_pairs}

-- of forests
proved : (platform : PlatformFacts) (terms : Option Terms) (d : Forest Member) (v : Verdict) → FitTerms platform terms → Apart terms d → IsOptimal platform terms d v
    → (proof : Proof) × IsProof platform terms d v proof
proved platform terms d (verdicts.Chosen chosen) fit apart optimal = let c = certified platform terms d chosen.selection chosen.settings fit apart optimal.1 in (proves.Choice c.0, c.1)
proved platform terms d verdicts.IntersectionEmpty fit apart optimal = let r = refuted platform terms fit d apart optimal.1 in (proves.Empty r.0, r.1)
proved platform terms d verdicts.TooMany fit apart optimal = (proves.Nothing, tt)
proved platform terms d verdicts.Failed fit apart optimal = absurd optimal
proved platform terms d verdicts.NoMemory fit apart optimal = absurd optimal

module _ (one_path : OnePath) (one_forest : OneForest) (members : MembersStandOnce) where
  -- who is settled in a domain of a tree, and who was accepted before
  -- elsewhere, have paths of their own
  apart_in : (nodes : List NodeFacts) (domain : ℕ) (tree : IsTree nodes) (there : HasDomain nodes domain) (platform : PlatformFacts) (base : Option BaseFacts)
      → IsGivenBase platform nodes domain base → Apart (option_map (terms_of nodes) base) (shape_of nodes domain)
  apart_in nodes domain tree there platform None given cs e leads =
      (stand_for nodes tree one_path domain there (one_forest nodes domain) cs (members nodes domain cs tree there) [] (λ k d below. absurd (omega (arith, below))) no_pairs e leads).apart
  apart_in nodes domain tree there platform (Some base) given cs e leads =
      (stand_for nodes tree one_path domain there (one_forest nodes domain) cs (members nodes domain cs tree there) base.accepted given.1.elsewhere given.1.once e leads).apart

  fit_in : (nodes : List NodeFacts) (domain : ℕ) (platform : PlatformFacts) (base : Option BaseFacts) → IsGivenBase platform nodes domain base → FitTerms platform (option_map (terms_of nodes) base)
  fit_in nodes domain platform None given = tt
  fit_in nodes domain platform (Some base) given = (slice_get_some platform.heaps base.settings.place.heap given.1.heap, given.1.few)

  pub optimal_has_proof : OptimalHasProof
  optimal_has_proof platform nodes domain base v tree there given optimal =
      proved platform (option_map (terms_of nodes) base) (shape_of nodes domain) v (fit_in nodes domain platform base given) (apart_in nodes domain tree there platform base given) optimal
