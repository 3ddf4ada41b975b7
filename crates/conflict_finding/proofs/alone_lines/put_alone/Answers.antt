-- The path that is kept is his, and what is made may be kept.
use Rattle.std.proofs.Common.{◌++◌, refl, ◌∙◌, ap}
use Rattle.verdict_claims.specs.Line.{LineFacts}
use Rattle.conflict_finding.proofs.KeptLines.{is_kept, path_kept}
use Rattle.conflict_finding.proofs.alone_lines.put_alone.Goals as goal

pub returns-in-Some-clause-paths : goal.returns-in-Some-clause-paths
returns-in-Some-clause-paths c = c.in_ok-join.ensures ∙ ap (λ ps. c.args.paths.now ++ ps) (c.nodes.ensures
    ∙ path_kept c.args.tree.now.nodes c.in-Some.kept.now c.args.node c.number_of-number.result c.args.field c.in-Some.ensures.number c.number_of-number.ensures.number (c.in-Some.ensures.names c.args.tree.now.nodes c.requires.alone))

pub returns-clause-paths : goal.returns-clause-paths
returns-clause-paths c = c.in_ok-join-2.ensures ∙ ap (λ ps. c.args.paths.now ++ ps) (c.nodes-2.ensures ∙ ap (λ (l : LineFacts). l.nodes) c.in_ok-line.ensures)

pub returns-clause-alone : goal.returns-clause-alone
returns-clause-alone c = c.keep.ensures c.args.tree.now.nodes
    (is_kept c.args.tree.now.nodes c.args.node c.number_of-number.result c.args.field c.in_ok-line.line c.in_ok-line.line c.number_of-number.ensures.number c.in_ok-line.ensures refl) c.requires.alone
