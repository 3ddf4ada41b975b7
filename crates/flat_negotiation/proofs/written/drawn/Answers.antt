-- There is a smallest image, and it lies in the size.
use Rattle.std.proofs.Common.{arith}
use Rattle.flat_negotiation.proofs.Corners.{lies_within, some_corner}
use Rattle.flat_negotiation.proofs.written.drawn.Goals as goal

pub returns-in-Ok : goal.returns-in-Ok
returns-in-Ok c =
    let inside = lies_within c.args.pair c.args.colour c.args.settings.now c.in-Ok.corner c.requires c.in-Ok.ensures.corner in
    record {
      corner = c.in-Ok.corner;
      smallest = c.in-Ok.ensures.corner;
      laid = c.laid.ensures;
      within = omega (arith, inside, c.laid.ensures.layout.bytes);
    }

pub returns-in-Err : goal.returns-in-Err
returns-in-Err c = absurd (some_corner c.no_corner.ensures c.args.pair c.args.colour c.args.settings.now c.in-Err.field-0 c.requires c.in-Err.ensures.none)
