use Rattle.std.proofs.lemmas.Bool.{both_ways}
use Rattle.sysmem_image.proofs.Meets.{suits_from}
use Rattle.sysmem_image.proofs.keeping.suits.Goals as goal

pub returns-then-sides : goal.returns-then-sides
returns-then-sides c =
    let same = suits_from c.args.offer.now c.args.bounds.now c.own_alignment-width.result.0 c.own_alignment-width.result.1 c.own_row_divisor.result c.own_alignment-width.ensures.width c.own_alignment-width.ensures.height c.own_row_divisor.ensures.value in
    (λ test. same.0 (c.divides_size-sides.ensures.0 c.if-sides.true, c.divides-row.ensures.0 test), λ suits. c.divides-row.ensures.1 (same.1 suits).1)

pub returns-else-sides : goal.returns-else-sides
returns-else-sides c =
    let same = suits_from c.args.offer.now c.args.bounds.now c.own_alignment-width.result.0 c.own_alignment-width.result.1 c.own_row_divisor.result c.own_alignment-width.ensures.width c.own_alignment-width.ensures.height c.own_row_divisor.ensures.value in
    (λ test. absurd (cc), λ suits. absurd (both_ways c.divides_size-sides.result c.if-sides.false (c.divides_size-sides.ensures.1 (same.1 suits).0)))
