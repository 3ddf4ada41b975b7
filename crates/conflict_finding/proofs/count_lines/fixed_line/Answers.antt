-- A count that doesn't suit has one of the two lines.
use Rattle.sysmem_counts.specs.Counts.{IsCounted}
use Rattle.conflict_finding.proofs.FirstKinds.{too_few, too_many}
use Rattle.conflict_finding.proofs.FirstOnes.{other_line, unsuited}
use Rattle.conflict_finding.proofs.count_lines.fixed_line.Goals as goal

pub returns-else-is_fixed_line-clause-line : goal.returns-else-is_fixed_line-clause-line
returns-else-is_fixed_line-clause-line c = λ ps tally.
    let found = c.fixed_count_lines.ensures.some c.args.count ps c.requires (unsuited c.suits.result (IsCounted ps c.args.count) c.if-suits.false (c.suits.ensures ps tally)) in
    other_line c.args.count ps c.is_fixed_line.result c.if-is_fixed_line.false (c.is_fixed_line.ensures ps tally) found.0 found.1

pub returns-then-is_fixed_line-clause-first : goal.returns-then-is_fixed_line-clause-first
returns-then-is_fixed_line-clause-first c = λ ps tally. too_few c.args.count ps ((c.is_fixed_line.ensures ps tally).0 c.if-is_fixed_line.true)

pub returns-else-is_fixed_line-clause-first : goal.returns-else-is_fixed_line-clause-first
returns-else-is_fixed_line-clause-first c = λ ps tally.
    let found = c.fixed_count_lines.ensures.some c.args.count ps c.requires (unsuited c.suits.result (IsCounted ps c.args.count) c.if-suits.false (c.suits.ensures ps tally)) in
    too_many c.args.count ps c.is_fixed_line.result c.if-is_fixed_line.false (c.is_fixed_line.ensures ps tally)
    (other_line c.args.count ps c.is_fixed_line.result c.if-is_fixed_line.false (c.is_fixed_line.ensures ps tally) found.0 found.1)
