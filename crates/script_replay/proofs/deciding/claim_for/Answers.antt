use Rattle.std.proofs.Common.{◌≡◌, true, inl, refl, sym, ◌∙◌, subst}
use Rattle.sysmem_alloc.specs.Claims.{IsRightClaim}
use Rattle.sysmem_alloc.specs.State.{base_of}
use Rattle.verdict_claims.specs.declared.certificate.Claim.{Claim}
use Rattle.verdict_claims.specs.declared.certificate.Proof.TheVariants.{Nothing}
use Rattle.sysmem_tree.specs.Domain.{TreeFacts, is_ready}
use Rattle.script_replay.proofs.CallerLemmas.{claim_as}
use Rattle.script_replay.proofs.deciding.claim_for.Goals as goal

pub search-requires-clause-ready : goal.search-requires-clause-ready
search-requires-clause-ready c = subst (λ (t : TreeFacts). is_ready t c.args.domain ≡ true) (sym c.tree.ensures) c.requires.waits.ready

pub returns : goal.returns
returns c =
    let claim : Claim = record { verdict = c.in-Ok-search.found.verdict; proof = Nothing } in (
      c.requires.next,
      claim_as IsRightClaim c.platform-platform.result.now c.args.book.now.platform c.tree.result.now c.args.book.now.state.tree c.args.domain _ (base_of c.args.book.now.state c.args.domain)
          claim _ c.platform-platform.ensures.platform c.tree.ensures (c.as_ref.ensures.value ∙ c.in-Ok.ensures.base) (sym c.in-Ok-new.ensures.ok)
          (record { optimal = c.in-Ok-search.ensures.optimal; proved = inl refl }),
    )
