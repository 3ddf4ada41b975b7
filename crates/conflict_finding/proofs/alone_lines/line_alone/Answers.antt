-- The line that is kept names him too.
use Rattle.conflict_finding.proofs.KeptLines.{is_kept, kept_for}
use Rattle.conflict_finding.proofs.alone_lines.line_alone.Goals as goal

pub returns-in-Some-clause-line : goal.returns-in-Some-clause-line
returns-in-Some-clause-line c = kept_for c.args.tree.now.nodes c.in-Some.kept.now c.args.node c.number_of-number.result c.args.field c.in_ok-shared.shared c.in-Some.ensures.number c.number_of-number.ensures.number
    (c.in-Some.ensures.names c.args.tree.now.nodes c.requires.alone) c.in_ok-shared.ensures

pub returns-clause-alone : goal.returns-clause-alone
returns-clause-alone c = c.keep.ensures c.args.tree.now.nodes
    (is_kept c.args.tree.now.nodes c.args.node c.number_of-number.result c.args.field c.in_ok-line.line c.in_ok-again.again c.number_of-number.ensures.number c.in_ok-line.ensures c.in_ok-again.ensures)
    c.requires.alone
