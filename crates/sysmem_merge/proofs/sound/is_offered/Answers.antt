use Rattle.std.proofs.Common.{◌&&◌, Contains, Decides, sym, subst}
use Rattle.std.proofs.lemmas.List.Elements.{contains_decides, Decides-contains}
use Rattle.sysmem_formats.specs.contracts.colour_space.ColourSpacePartialEq.TheImpl as colour
use Rattle.sysmem_formats.specs.contracts.offer.PairPartialEq.TheImpl as pair
use Rattle.sysmem_merge.proofs.SoundSettings.{offered_test}
use Rattle.negotiation_inputs.proofs.CallerLemmas.{same_pair, same_colour}
use Rattle.sysmem_merge.proofs.sound.is_offered.Goals as goal
use Rattle.negotiation_inputs.specs.Platform.{offers_of}

pub returns-then-has_pair : goal.returns-then-has_pair
returns-then-has_pair c =
    subst (λ b. Decides (b && c.contains-has_colour.result) (Contains (offers_of c.args.platform.now) c.args.offer.now)) c.if-has_pair.true
    (offered_test c.args.platform.now c.args.offer.now c.pairs.result.now c.colours.result.now _ _ c.contains-has_pair.result c.contains-has_colour.result c.in-Image.is c.pairs.ensures.pairs c.colours.ensures.colours
    (Decides-contains c.pairs.result.now _ c.contains-has_pair.result (contains_decides pair.ghosts.eq same_pair c.pairs.result.now _ c.contains-has_pair.result c.contains-has_pair.ensures.cases))
    (Decides-contains c.colours.result.now _ c.contains-has_colour.result (contains_decides colour.ghosts.eq same_colour c.colours.result.now _ c.contains-has_colour.result c.contains-has_colour.ensures.cases)))

pub returns-else-has_pair : goal.returns-else-has_pair
returns-else-has_pair c =
    subst (λ b. Decides b (Contains (offers_of c.args.platform.now) c.args.offer.now)) (sym c.if-has_pair.false)
    (subst (λ b. Decides (b && c.contains-has_colour.result) (Contains (offers_of c.args.platform.now) c.args.offer.now)) c.if-has_pair.false
    (offered_test c.args.platform.now c.args.offer.now c.pairs.result.now c.colours.result.now _ _ c.contains-has_pair.result c.contains-has_colour.result c.in-Image.is c.pairs.ensures.pairs c.colours.ensures.colours
    (Decides-contains c.pairs.result.now _ c.contains-has_pair.result (contains_decides pair.ghosts.eq same_pair c.pairs.result.now _ c.contains-has_pair.result c.contains-has_pair.ensures.cases))
    (Decides-contains c.colours.result.now _ c.contains-has_colour.result (contains_decides colour.ghosts.eq same_colour c.colours.result.now _ c.contains-has_colour.result c.contains-has_colour.ensures.cases))))
