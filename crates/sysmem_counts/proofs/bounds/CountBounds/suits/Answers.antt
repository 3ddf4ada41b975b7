use Rattle.std.proofs.Common.{arith, ap, ◌≤◌, rules}
use Rattle.sysmem_counts.proofs.Counts.{needed_le, suits_between, suits_within}
use Rattle.sysmem_counts.proofs.bounds.CountBounds.suits.Goals as goal

pub returns-then-needed-from : goal.returns-then-needed-from
returns-then-needed-from c ps stands =
    let is = c.needed.ensures ps stands in
    let kept = ap (λ t. t.maximum) c.self.view_is in (
      λ t. let within : c.args.count ≤ c.min-most.result = search (rules, t) in
          suits_between c.args.self.now ps c.args.count stands (omega (arith, is, c.from.ensures, c.if-needed-from.true))
          (omega (arith, within, c.min-most.ensures, kept)) (omega (arith, within, c.min-most.ensures)),
      λ suits. let within : c.args.count ≤ c.min-most.result = omega (arith, c.min-most.ensures, kept, suits_within c.args.self.now ps c.args.count stands suits, suits.limit) in
          search (rules, within),
    )

pub returns-else-needed-from : goal.returns-else-needed-from
returns-else-needed-from c ps stands = (
  λ t. absurd (let enough : c.needed.result ≤ c.from.result = search (rules, t) in omega (arith, enough, c.if-needed-from.false)),
  λ suits. absurd (omega (arith, c.needed.ensures ps stands, c.from.ensures, needed_le ps c.args.count suits, c.if-needed-from.false)),
)
