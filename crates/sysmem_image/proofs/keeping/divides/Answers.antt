use Rattle.std.proofs.Common.{◌%◌}
use Rattle.std.proofs.lemmas.Bool.{eqb-true, eq-eqb}
use Rattle.std.proofs.lemmas.Nat.Gcd.{dvd_of_mod-eq-zero, mod-eq-zero_of_dvd}
use Rattle.sysmem_image.proofs.keeping.divides.Goals as goal

pub returns : goal.returns
returns c = (λ test. dvd_of_mod-eq-zero c.args.a (eqb-true (c.args.b % c.args.a) 0 test), λ divides. eq-eqb (c.args.b % c.args.a) 0 (mod-eq-zero_of_dvd c.args.a divides))
