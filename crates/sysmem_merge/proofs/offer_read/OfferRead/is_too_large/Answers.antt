use Rattle.std.proofs.Common.{arith, ◌↔◌, IsTrue, false, nat_lt}
use Rattle.sysmem_counts.specs.declared.field.Field.TheVariants.{MaxSizeBytes}
use Rattle.sysmem_merge.specs.Offers.{bounds_asked}
use Rattle.sysmem_merge.specs.Reasons.{IsOfferLine}
use Rattle.sysmem_merge.proofs.OfferReading.{for_own, size_test}
use Rattle.sysmem_merge.proofs.offer_read.OfferRead.is_too_large.Goals as goal

pub returns-in_default-least_row : goal.returns-in_default-least_row
returns-in_default-least_row c = λ o ds read.
    let k = c.args.self.now in
    for_own (λ p. IsTrue false ↔ IsOfferLine MaxSizeBytes p ds) o ds k read
    (λ own. (λ no. absurd (cc no), λ line. absurd (c.in_default-least_row.ensures.none (bounds_asked k.offer ds) own.bounds line.1)))

pub returns : goal.returns
returns c = λ o ds read.
    let k = c.args.self.now in
    for_own (λ p. IsTrue (nat_lt c.from-2.result c.max-2.result) ↔ IsOfferLine MaxSizeBytes p ds) o ds k read
    (λ own.
    let es = bounds_asked k.offer ds in
    let sides = c.in-Some.ensures.least k.offer es own.bounds in
    size_test k.offer ds k c.in-Some.width c.in-Some.height c.in-Some-least_row.row c.wide_image_bytes-bytes.result c.max-2.result c.from-2.result own (omega arith) sides
    (c.in-Some-least_row.ensures.least es c.in-Some.height own.bounds sides) (c.in-Some.ensures.some k.offer es own.bounds) (c.in-Some-least_row.ensures.some es own.bounds)
    c.wide_image_bytes-bytes.ensures (omega arith) c.from-2.ensures)
