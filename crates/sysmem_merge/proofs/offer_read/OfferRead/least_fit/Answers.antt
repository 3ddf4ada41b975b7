use Rattle.sysmem_counts.specs.declared.field.Field.TheVariants.{PixelFormat, ColorSpaces}
use Rattle.sysmem_merge.specs.Offers.{has_format, has_colour}
use Rattle.sysmem_merge.proofs.OfferReading.{any_fails}
use Rattle.sysmem_merge.proofs.offer_read.OfferRead.least_fit.Goals as goal
use Rattle.sysmem_merge.proofs.offer_read.OfferRead.least_fit.Goals.{then-self-via-then-self, then-self-via-else-self+then-self-2}

pub returns-then-self-clause-none : goal.returns-then-self-clause-none
returns-then-self-clause-none c = λ o ds read.
    let k = c.args.self.now in
    elim c.then-self.branch [
      | then-self-via-then-self w ↦ (PixelFormat, (any_fails (has_format o) ds k.format_refused read.format).0 w.if-self.true)
      | then-self-via-else-self+then-self-2 w ↦ (ColorSpaces, (any_fails (has_colour o) ds k.colour_refused read.colour).0 w.if-self-2.true)
    ]
