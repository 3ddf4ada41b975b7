-- The nearest of three.
use Rattle.std.proofs.Common.{ap, ◌∙◌}
use Rattle.flat_negotiation.specs.Own.{TakeImage, TakeItsFormat, TakePair, or_else}
use Rattle.flat_negotiation.proofs.Images.{image-in}
use Rattle.flat_negotiation.proofs.taking.own_offer.Goals as goal

pub returns : goal.returns
returns c =
    let platform = c.args.platform.now in
    let ps = c.args.asked.now in
    let pairs = c.pairs-pairs.result.now in
    let colours = c.colours-colours.result.now in
    record {
      whole = c.first_image-whole.result;
      whole_is = image-in platform.pairs pairs platform.colours colours (λ pair colour. TakeImage ps pair colour) c.first_image-whole.result c.pairs-pairs.ensures.pairs c.colours-colours.ensures.colours c.first_image-whole.ensures;
      pair = c.first_image-pair.result;
      pair_is = image-in platform.pairs pairs platform.colours colours (λ pair colour. TakePair ps pair colour) c.first_image-pair.result c.pairs-pairs.ensures.pairs c.colours-colours.ensures.colours c.first_image-pair.ensures;
      format = c.first_image-format.result;
      format_is = image-in platform.pairs pairs platform.colours colours (λ pair colour. TakeItsFormat ps pair colour) c.first_image-format.result c.pairs-pairs.ensures.pairs c.colours-colours.ensures.colours c.first_image-format.ensures;
      nearest = c.or_else-2.ensures ∙ ap (λ o. or_else c.first_image-whole.result o) c.or_else.ensures;
    }
