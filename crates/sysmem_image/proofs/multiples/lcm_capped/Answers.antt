use Rattle.std.proofs.Common.{◌≡◌, ◌*◌, ◌/◌, ◌≤◌, subst, sym, arith}
use Rattle.std.specs.Int.{◌∣◌}
use Rattle.std.proofs.Math.Nat.{one-dvd}
use Rattle.std.proofs.lemmas.Nat.Gcd.{dvd_refl}
use Rattle.sysmem_image.specs.Multiples.{IsLcm}
use Rattle.sysmem_image.proofs.Divide.{lcm_of_multiple, lcm_from_gcd, lcm_some, lcm_above}
use Rattle.sysmem_image.proofs.multiples.lcm_capped.Goals as goal
use Rattle.sysmem_image.proofs.multiples.lcm_capped.Goals.{then-a-b-via-then-a-b, then-a-b-via-else-a-b+then-b-eq1}

pub returns-then-least-from-clause-some : goal.returns-then-least-from-clause-some
returns-then-least-from-clause-some c =
    let g = c.gcd-shared in
    let e : c.args.a / g.result * c.args.b ≡ c.from.result * c.from-2.result = cc in
    subst (λ m. IsLcm c.args.a c.args.b m) e (lcm_from_gcd c.args.a c.args.b g.result g.ensures.some g.ensures.left g.ensures.right g.ensures.joins)

pub returns-then-least-from-clause-positive : goal.returns-then-least-from-clause-positive
returns-then-least-from-clause-positive c =
    let g = c.gcd-shared in
    let e : c.args.a / g.result * c.args.b ≡ c.from.result * c.from-2.result = cc in
    subst (λ m. 1 ≤ m) e (lcm_some c.args.a c.args.b g.result c.requires.a_some c.requires.b_some g.ensures.left)

pub returns-else-least-from-clause-none : goal.returns-else-least-from-clause-none
returns-else-least-from-clause-none c =
    let g = c.gcd-shared in
    let e : c.args.a / g.result * c.args.b ≡ c.from.result * c.from-2.result = cc in
    lcm_above c.args.a c.args.b (c.args.a / g.result * c.args.b) (lcm_from_gcd c.args.a c.args.b g.result g.ensures.some g.ensures.left g.ensures.right g.ensures.joins) (omega (arith, e))

pub returns-then-a-b-clause-some : goal.returns-then-a-b-clause-some
returns-then-a-b-clause-some c = elim c.then-a-b.branch [
  | then-a-b-via-then-a-b w ↦ lcm_of_multiple c.args.a c.args.b (subst (λ z. z ∣ c.args.a) w.if-a-b.true (dvd_refl c.args.a))
  | then-a-b-via-else-a-b+then-b-eq1 w ↦ lcm_of_multiple c.args.a c.args.b (subst (λ z. z ∣ c.args.a) (sym w.if-b-eq1.true) (one-dvd c.args.a))
]
