use Rattle.std.proofs.Common.{ap, ◌∙◌, ◌==◌}
use Rattle.sysmem_merge.proofs.ColourBits.{named_bits, format_bit, modifier_bit}
use Rattle.sysmem_merge.proofs.colours.Colours.names.Goals as goal

pub returns : goal.returns
returns c = record {
  colours = λ colour. ap (λ bit. bit == 1) (named_bits c.listed-listed.result.bits c.from.result c.from-2.result c.listed-listed.ensures.small colour) ∙ c.listed-listed.ensures.is colour;
  format = format_bit c.listed-listed.result.bits c.from.result c.from-2.result c.listed-listed.ensures.small c.args.format c.from.ensures;
  modifier = modifier_bit c.listed-listed.result.bits c.from.result c.from-2.result c.listed-listed.ensures.small c.args.format c.args.modifier c.from.ensures c.from-2.ensures;
}
