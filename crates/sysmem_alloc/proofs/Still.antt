-- What was frozen, and what it still is.
use Rattle.std.proofs.Common.{◌≡◌, ◌⊎◌, inl, inr, ℕ, List, Option, Some, sym, subst, ◌∙◌, ap}
use Rattle.std.specs.Prelude.{option_map}
use Rattle.sysmem_alloc.specs.Book.{BookFacts, book_of}
use Rattle.sysmem_alloc.specs.Claims.{IsBare, IsRightClaim}
use Rattle.sysmem_alloc.specs.Frozen.{FrozenFacts, IsStill}
use Rattle.sysmem_alloc.specs.Laws.{FitsClaim, FitIsRight, FitStays, NextStays}
use Rattle.sysmem_alloc.specs.State.{base_of}
use Rattle.verdict_claims.specs.declared.certificate.Claim.{Claim}
use Rattle.verdict_claims.specs.Base.{Terms, terms_of}
use Rattle.verdict_claims.specs.Check.{IsProof}
use Rattle.verdict_claims.specs.Claim.{IsTrueClaim}
use Rattle.verdict_claims.specs.Verdict.{IsOptimal}
use Rattle.negotiation_inputs.specs.Platform.{PlatformFacts}
use Rattle.sysmem_tree.specs.Forest.{Forest}
use Rattle.sysmem_tree.specs.Shape.{Member, shape_of}

pub fit_stays : NextStays → FitStays
fit_stays law platform es fs f legal acts still =
    let stays = law platform es fs f.domain legal acts still.next in
    record { next = stays.next; platform = still.platform; shape = stays.domain.shape ∙ still.shape; terms = stays.terms ∙ still.terms }

-- what is said of a platform, terms and a shape goes over to the book
goes_over : (P : PlatformFacts → Option Terms → Forest Member → Type 0) (b : BookFacts) (f : FrozenFacts) → IsStill b f → P f.platform (option_map (terms_of f.tree.nodes) f.base) (shape_of f.tree.nodes f.domain)
    → P b.platform (option_map (terms_of b.state.tree.nodes) (base_of b.state f.domain)) (shape_of b.state.tree.nodes f.domain)
goes_over P b f still h =
    subst (P b.platform (option_map (terms_of b.state.tree.nodes) (base_of b.state f.domain))) (sym still.shape)
    (subst (λ (t : Option Terms). P b.platform t (shape_of f.tree.nodes f.domain)) (sym still.terms)
    (subst (λ (p : PlatformFacts). P p (option_map (terms_of f.tree.nodes) f.base) (shape_of f.tree.nodes f.domain)) (sym still.platform) h))

pub fit_is_right : FitIsRight
fit_is_right b f c still = record {
  proved = λ h. record { optimal = optimal h.optimal; proved = is_proved h.proved };
  right = λ h. record { optimal = optimal h.optimal; proved = elim h.proved [ inl bare ↦ inl bare | inr proof ↦ inr (is_proved proof) ] };
} where
  optimal : IsOptimal f.platform (option_map (terms_of f.tree.nodes) f.base) (shape_of f.tree.nodes f.domain) c.verdict
      → IsOptimal b.platform (option_map (terms_of b.state.tree.nodes) (base_of b.state f.domain)) (shape_of b.state.tree.nodes f.domain) c.verdict
  optimal h = goes_over (λ p t d. IsOptimal p t d c.verdict) b f still h

  is_proved : IsProof f.platform (option_map (terms_of f.tree.nodes) f.base) (shape_of f.tree.nodes f.domain) c.verdict c.proof
      → IsProof b.platform (option_map (terms_of b.state.tree.nodes) (base_of b.state f.domain)) (shape_of b.state.tree.nodes f.domain) c.verdict c.proof
  is_proved h = goes_over (λ p t d. IsProof p t d c.verdict c.proof) b f still h

-- a claim that is true of what was frozen is right for the book
pub still_right : (b : BookFacts) (f : FrozenFacts) (c : Claim) → IsStill b f → IsTrueClaim f.platform f.tree.nodes f.domain f.base c → IsRightClaim b.platform b.state.tree.nodes f.domain (base_of b.state f.domain) c
still_right b f c still is =
    let held = (fit_is_right b f c still).proved is in
    record { optimal = held.optimal; proved = inr held.proved }
