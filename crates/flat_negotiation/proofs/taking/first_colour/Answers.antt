-- The first to which they come so near.
use Rattle.std.proofs.Common.{arith, sym, ◌∙◌, true≢false}
use Rattle.std.proofs.lemmas.Option.{slice_get-get_or}
use Rattle.sysmem_formats.specs.declared.colour_space.ColourSpace.TheVariants.{Srgb}
use Rattle.flat_negotiation.specs.Nearness.{Take}
use Rattle.flat_negotiation.proofs.Lists.{none-more}
use Rattle.flat_negotiation.proofs.taking.first_colour.Goals as goal

pub returns-then-take : goal.returns-then-take
returns-then-take c = record {
  index = c.loop-index.index;
  here = slice_get-get_or c.args.colours.now c.loop-index.index Srgb c.loop-index-test.true;
  holds = c.take.ensures.0 c.if-take.true;
  before = c.loop-index.invariant;
}

pub loop-index-preserved : goal.loop-index-preserved
loop-index-preserved c =
    none-more (Take c.args.near c.args.asked.now c.args.pair) c.args.colours.now c.loop-index.index _ (slice_get-get_or c.args.colours.now c.loop-index.index Srgb c.loop-index-test.true)
    (λ near. true≢false (sym (c.take.ensures.1 near) ∙ c.if-take.false)) c.loop-index.invariant

pub returns : goal.returns
returns c = record { none = λ k other below there. c.loop-index.invariant k other (omega (arith, below)) there }
