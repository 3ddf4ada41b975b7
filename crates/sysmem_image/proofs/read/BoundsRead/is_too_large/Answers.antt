use Rattle.std.proofs.Common.{◌≡◌, ◌<◌, inl, inr, true, arith, rules}
use Rattle.std.specs.Prelude.{nat_lt}
use Rattle.sysmem_image.proofs.KeptLines.{max_line}
use Rattle.sysmem_image.proofs.read.BoundsRead.is_too_large.Goals as goal

pub returns-then-width-from : goal.returns-then-width-from
returns-then-width-from c = λ o es read.
    let line = max_line o es c.args.self.now c.in-Some.width c.in-Some.height read (c.in-Some.ensures.least o es read) (c.in-Some.ensures.some o es read) in
    (λ _. line.0 (inl (omega arith)), λ _. search (rules, c.if-width-from.true))

pub returns-else-width-from : goal.returns-else-width-from
returns-else-width-from c = λ o es read.
    let line = max_line o es c.args.self.now c.in-Some.width c.in-Some.height read (c.in-Some.ensures.least o es read) (c.in-Some.ensures.some o es read) in (
      λ test. line.0 (inr (let above : c.from-else-width-from.result < c.in-Some.height = search (rules, test) in omega arith)),
      λ both. elim (line.1 both) as (λ _. nat_lt c.from-else-width-from.result c.in-Some.height ≡ true) [
        | inl wide ↦ absurd (let no : ⊥ = omega (arith, wide, c.if-width-from.false) in no)
        | inr high ↦ let above : c.from-else-width-from.result < c.in-Some.height = omega (arith, high) in search (rules, above)
      ],
    )
