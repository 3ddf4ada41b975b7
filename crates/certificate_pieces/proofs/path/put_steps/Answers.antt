use Rattle.std.proofs.Common.{◌++◌, ◌∷◌, decimal}
use Rattle.certificate_pieces.proofs.Spelled.{step_told}
use Rattle.certificate_pieces.proofs.ToldLemmas.{told_then}
use Rattle.certificate_pieces.proofs.path.put_steps.Goals as goal

pub loop-ordinal-preserved : goal.loop-ordinal-preserved
loop-ordinal-preserved g c =
    let now = c.loop-ordinal.invariant in
    record {
      told = now.told ++ 47 ∷ decimal c.from.result;
      has = told_then now.has (told_then c.put_byte.ensures c.put_number.ensures);
      whole = step_told c.args.ordinals.now c.loop-ordinal.ordinal-index c.from.result now.told c.loop-ordinal-test.true c.from.ensures now.whole;
    }
