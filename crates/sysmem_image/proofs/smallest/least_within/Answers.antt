use Rattle.std.proofs.Common.{◌≤◌, arith}
use Rattle.std.specs.Int.{◌∣◌}
use Rattle.std.proofs.lemmas.Nat.Gcd.{dvd_of_mod-eq-zero}
use Rattle.sysmem_image.proofs.Divide.{least_multiple}
use Rattle.sysmem_image.proofs.smallest.least_within.Goals as goal

pub returns-then-least-from-clause-ok : goal.returns-then-least-from-clause-ok
returns-then-least-from-clause-ok c =
    let m = c.next_multiple_of-least in
    let multiple : c.args.divisor ∣ m.result = rw (← c.from-2.ensures) (dvd_of_mod-eq-zero c.from-2.result m.ensures.multiple) in
    record {
      multiple = multiple;
      from = omega arith;
      above = omega arith;
      least = λ k p low other. least_multiple c.args.divisor c.max-from.result m.result k multiple (omega arith) p (omega arith);
    }

pub returns-else-least-from-clause-none : goal.returns-else-least-from-clause-none
returns-else-least-from-clause-none c = λ k p low other.
    let m = c.next_multiple_of-least in
    let multiple : c.args.divisor ∣ m.result = rw (← c.from-2.ensures) (dvd_of_mod-eq-zero c.from-2.result m.ensures.multiple) in
    let up_to : m.result ≤ k = least_multiple c.args.divisor c.max-from.result m.result k multiple (omega arith) p (omega arith) in
    omega arith
