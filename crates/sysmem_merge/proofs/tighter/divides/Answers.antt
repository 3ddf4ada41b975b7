use Rattle.std.proofs.Common.{inl, inr, subst, sym}
use Rattle.std.specs.Int.{◌∣◌}
use Rattle.std.proofs.Math.Nat.{one-dvd}
use Rattle.std.proofs.lemmas.Nat.Gcd.{dvd_refl}
use Rattle.sysmem_merge.proofs.tighter.divides.Goals as goal

pub returns-then-a-b : goal.returns-then-a-b
returns-then-a-b c seen = elim c.if-a-b.either [
  | inl one ↦ subst (λ n. n ∣ c.args.b) (sym one) (one-dvd c.args.b)
  | inr same ↦ subst (λ n. c.args.a ∣ n) same.1 (dvd_refl c.args.a)
]
