-- What was decided has a certificate.
use Rattle.std.proofs.Common.{◌∷◌, Some, refl}
use Rattle.list_lemmas.proofs.CallerLemmas.{of_some}
use Rattle.verdict_claims.specs.Laws.{OptimalHasProof}
use Rattle.sysmem_alloc.specs.Book.{book_of}
use Rattle.sysmem_alloc.specs.Entry.{Decided}
use Rattle.sysmem_alloc.specs.History.{replay}
use Rattle.sysmem_alloc.specs.Laws.{BaseIsGiven, DecisionsHaveProofs, LegalIsSound}
use Rattle.sysmem_alloc.specs.Sound.{MayWait}
use Rattle.sysmem_alloc.specs.State.{first_state, next_ready, base_of}
use Rattle.sysmem_alloc.proofs.GivenBases.{next_waits}
use Rattle.sysmem_alloc.proofs.Onward.{allowed_split}

pub decisions_have_proofs : LegalIsSound → BaseIsGiven → OptimalHasProof → DecisionsHaveProofs
decisions_have_proofs sound given proves platform es fs r c legal =
    let parts = allowed_split platform first_state es (Decided (record { domain = r; claim = Some c }) ∷ fs) legal in
    let next = parts.1.0.0 in
    let right = parts.1.0.1 in
    let waits = of_some (MayWait (replay es).tree) (next_ready (replay es)) r next
    (next_waits sound (book_of platform es) (record { legal = parts.0; replayed = refl })) in
    let proof = proves platform (replay es).tree.nodes r (base_of (replay es) r) c.verdict (sound platform es parts.0).tree.tree waits.there
    (given platform es r parts.0 next) right.optimal in
    (proof.0, record { optimal = right.optimal; proved = proof.1 })
