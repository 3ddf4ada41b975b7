use Rattle.std.proofs.Common.{◌↔◌, IsTrue}
use Rattle.sysmem_merge.specs.Offers.{has_format, has_colour, bounds_asked}
use Rattle.sysmem_merge.specs.Reasons.{IsOfferLine}
use Rattle.sysmem_merge.proofs.OfferReading.{any_fails, for_own, line_else}
use Rattle.sysmem_merge.proofs.offer_read.OfferRead.is_line.Goals as goal

pub returns-in-PixelFormat : goal.returns-in-PixelFormat
returns-in-PixelFormat c = λ o ds read. rw c.in-PixelFormat.is (any_fails (has_format o) ds c.args.self.now.format_refused read.format)

pub returns-in-ColorSpaces : goal.returns-in-ColorSpaces
returns-in-ColorSpaces c = λ o ds read. rw c.in-ColorSpaces.is (any_fails (has_colour o) ds c.args.self.now.colour_refused read.colour)

pub returns-in_default : goal.returns-in_default
returns-in_default c = λ o ds read.
    let k = c.args.self.now in
    for_own (λ p. IsTrue c.is_line.result ↔ IsOfferLine c.args.field p ds) o ds k read
    (λ own.
    let exact = c.is_line.ensures (bounds_asked k.offer ds) own.bounds in
    let else = line_else c.args.field k.offer ds c.in_default.not-PixelFormat c.in_default.not-ColorSpaces c.in_default.not-MaxSizeBytes in
    (λ yes. else.0 (exact.0 yes), λ line. exact.1 (else.1 line)))
