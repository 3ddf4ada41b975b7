use Rattle.std.proofs.Common.{arith}
use Rattle.std.specs.Int.{◌∣◌}
use Rattle.std.proofs.lemmas.Nat.Gcd.{dvd_of_mod-eq-zero}
use Rattle.sysmem_image.proofs.Divide.{least_multiple}
use Rattle.sysmem_image.proofs.read.least_above.Goals as goal

pub returns-clause-least : goal.returns-clause-least
returns-clause-least c =
    let m = c.next_multiple_of in
    let multiple : c.args.divisor ∣ m.result = rw (← c.from-2.ensures) (dvd_of_mod-eq-zero c.from-2.result m.ensures.multiple) in
    record {
      multiple = multiple;
      from = omega arith;
      above = omega arith;
      least = λ k p low other. least_multiple c.args.divisor c.max.result m.result k multiple (omega arith) p (omega arith);
    }
