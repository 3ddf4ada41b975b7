-- A claim is true exactly where it is right and has its proof.
use Rattle.std.proofs.Common.{◌≡◌, ◌⊎◌, inl, inr, ℕ, List, Option, refl, sym, subst}
use Rattle.verdict_claims.specs.declared.certificate.Claim.{Claim}
use Rattle.verdict_claims.specs.declared.certificate.Proof.{Proof}
use Rattle.verdict_claims.specs.declared.certificate.Proof.TheVariants as proves
use Rattle.verdict_claims.specs.declared.verdict.Verdict.{Verdict}
use Rattle.verdict_claims.specs.declared.verdict.Verdict.TheVariants as verdicts
use Rattle.verdict_claims.specs.Base.{BaseFacts}
use Rattle.verdict_claims.specs.Claim.{IsProofIn, IsTrueClaim}
use Rattle.negotiation_inputs.specs.Platform.{PlatformFacts}
use Rattle.sysmem_tree.specs.Node.{NodeFacts}
use Rattle.sysmem_alloc.specs.Claims.{HasProof, IsRightClaim}
use Rattle.sysmem_alloc.specs.Laws.{ProvedClaimsAreTrue}

module _ (platform : PlatformFacts) (nodes : List NodeFacts) (domain : ℕ) (base : Option BaseFacts) where
  -- what nothing proves is that there are too many selections
  bare_many : (verdict : Verdict) (proof : Proof) → IsProofIn platform nodes domain base verdict proof → proof ≡ proves.Nothing → verdict ≡ verdicts.TooMany
  bare_many (verdicts.Chosen chosen) (proves.Choice certificate) is bare = absurd (cc)
  bare_many (verdicts.Chosen chosen) (proves.Empty items) is bare = absurd is
  bare_many (verdicts.Chosen chosen) proves.Nothing is bare = absurd is
  bare_many verdicts.IntersectionEmpty (proves.Choice certificate) is bare = absurd is
  bare_many verdicts.IntersectionEmpty (proves.Empty items) is bare = absurd (cc)
  bare_many verdicts.IntersectionEmpty proves.Nothing is bare = absurd is
  bare_many verdicts.TooMany proof is bare = refl
  bare_many verdicts.Failed proof is bare = absurd is
  bare_many verdicts.NoMemory proof is bare = absurd is

  pub true_has_proof : (claim : Claim) → IsTrueClaim platform nodes domain base claim → HasProof claim
  true_has_proof claim is bare = bare_many claim.verdict claim.proof is.proved bare

  pub true_is_right : (claim : Claim) → IsTrueClaim platform nodes domain base claim → IsRightClaim platform nodes domain base claim
  true_is_right claim is = record { optimal = is.optimal; proved = inr is.proved }

  -- that there are too many needs no more
  proved_by : (verdict : Verdict) (proof : Proof) → (proof ≡ proves.Nothing → verdict ≡ verdicts.TooMany)
      → (proof ≡ proves.Nothing) ⊎ IsProofIn platform nodes domain base verdict proof → IsProofIn platform nodes domain base verdict proof
  proved_by verdict proof has (inl bare) =
      subst (λ v. IsProofIn platform nodes domain base v proof) (sym (has bare)) (subst (IsProofIn platform nodes domain base verdicts.TooMany) (sym bare) tt)
  proved_by verdict proof has (inr proved) = proved

  pub proved_is_true : (claim : Claim) → IsRightClaim platform nodes domain base claim → HasProof claim → IsTrueClaim platform nodes domain base claim
  proved_is_true claim right has = record { optimal = right.optimal; proved = proved_by claim.verdict claim.proof has right.proved }

pub proved_claims_are_true : ProvedClaimsAreTrue
proved_claims_are_true platform nodes domain base claim = (
  (λ is. (true_is_right platform nodes domain base claim is, true_has_proof platform nodes domain base claim is)),
  (λ both. proved_is_true platform nodes domain base claim both.0 both.1),
)
