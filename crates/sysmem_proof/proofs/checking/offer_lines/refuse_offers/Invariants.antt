-- The offers that are left want the lines that are left; the line before refuses
-- the offer before, if there is one.
use Rattle.std.proofs.Common.{◌≡◌, ◌-◌, drop, get_or}
use Rattle.std.specs.Prelude.{◌↔◌, ◌≢◌}
use Rattle.std.specs.List.{AllZip}
use Rattle.sysmem_formats.specs.declared.offer.Offer.TheVariants.{NoImage}
use Rattle.negotiation_inputs.specs.Platform.{offers_of}
use Rattle.verdict_claims.specs.Conflict.{RefusesOffer}
use Rattle.verdict_claims.specs.Line.{LineFacts}
use Rattle.verdict_claims.specs.Roll.{listed}
use Rattle.sysmem_proof.proofs.checking.offer_lines.refuse_offers.Given as goal

abbrev pub invariant-loop-index : goal.invariant-loop-index
invariant-loop-index l = record {
  left : AllZip (RefusesOffer l.whole (listed l.roll)) (offers_of l.platform) l.lines
      ↔ AllZip (RefusesOffer l.whole (listed l.roll)) (drop l.index (offers_of l.platform)) (drop l.index l.lines);
  before : l.earlier ≢ NoImage → (line : LineFacts) → line ≡ get_or l.lines (l.index - 1) line → RefusesOffer l.whole (listed l.roll) l.earlier line;
}
