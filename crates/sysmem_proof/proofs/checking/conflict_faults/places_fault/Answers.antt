-- Lines for all places that name participants.
use Rattle.std.proofs.Common.{length, ◌∙◌, ap, subst, sym}
use Rattle.std.specs.List.{AllZip}
use Rattle.sysmem_memory.specs.Listed.{places_of}
use Rattle.verdict_claims.specs.Conflict.{RefusesPlace}
use Rattle.verdict_claims.specs.Roll.{listed}
use Rattle.sysmem_proof.proofs.Telling.{untrue_lines}
use Rattle.sysmem_proof.proofs.checking.conflict_faults.places_fault.Goals as goal

pub refuse_places-requires : goal.refuse_places-requires
refuse_places-requires c = c.all_named.ensures.0 c.if-not-all_named.false

pub returns-then-not-refuse_places : goal.returns-then-not-refuse_places
returns-then-not-refuse_places c = untrue_lines _ (listed c.args.roll.now) _ c.args.lines.now c.refuse_places.result
    (c.if-lines-count_places.false ∙ (c.count_places.ensures ∙ ap (λ hs. length (places_of hs)) c.heaps.ensures.heaps)) (c.all_named.ensures.0 c.if-not-all_named.false) c.if-not-refuse_places.true
    (λ zip. c.refuse_places.ensures.1 (subst (λ hs. AllZip (RefusesPlace (listed c.args.roll.now)) (places_of hs) c.args.lines.now) (sym c.heaps-2.ensures.heaps) zip))
