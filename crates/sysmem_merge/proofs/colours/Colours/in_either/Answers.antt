use Rattle.sysmem_merge.specs.Pairs.{colour_bit}
use Rattle.sysmem_merge.proofs.ColourBits.{bit_of_either}
use Rattle.sysmem_merge.proofs.colours.Colours.in_either.Goals as goal

pub returns : goal.returns
returns c = record {
  colours = λ colour. bit_of_either c.args.self.now.bits c.args.other.now.bits (colour_bit colour);
  format = bit_of_either c.args.self.now.bits c.args.other.now.bits 8;
  modifier = bit_of_either c.args.self.now.bits c.args.other.now.bits 9;
}
