-- The first to which they come so near.
use Rattle.std.proofs.Common.{arith}
use Rattle.std.proofs.lemmas.Option.{slice_get-get_or}
use Rattle.sysmem_formats.specs.declared.modifier.Modifier.TheVariants.{Linear}
use Rattle.sysmem_formats.specs.declared.offer.Pair.{Pair}
use Rattle.sysmem_formats.specs.declared.pixel_format.PixelFormat.TheVariants.{R8G8B8A8}
use Rattle.flat_negotiation.specs.Nearness.{Take}
use Rattle.flat_negotiation.specs.Own.{InSome}
use Rattle.flat_negotiation.proofs.Lists.{no-first, none-more}
use Rattle.flat_negotiation.proofs.taking.first_image.Goals as goal

abbrev some_pair : Pair
some_pair = record { format = R8G8B8A8; modifier = Linear }

pub returns-in-Some : goal.returns-in-Some
returns-in-Some c = (
  record {
    index = c.loop-index.index;
    here = slice_get-get_or c.args.pairs.now c.loop-index.index some_pair c.loop-index-test.true;
    holds = (c.in-Some.colour, c.in-Some.ensures);
    before = c.loop-index.invariant;
  },
  c.in-Some.ensures,
)

pub loop-index-preserved : goal.loop-index-preserved
loop-index-preserved c =
    none-more (InSome (Take c.args.near c.args.asked.now) c.args.colours.now) c.args.pairs.now c.loop-index.index _ (slice_get-get_or c.args.pairs.now c.loop-index.index some_pair c.loop-index-test.true)
    (λ some. no-first (Take c.args.near c.args.asked.now _) c.args.colours.now c.in_default.ensures some) c.loop-index.invariant

pub returns : goal.returns
returns c = record { none = λ k other below there. c.loop-index.invariant k other (omega (arith, below)) there }
