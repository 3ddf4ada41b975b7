-- The line that was put names them, at the place behind all.
use Rattle.std.proofs.Common.{IfSome, [], ◌∷◌, ◌++◌, ◌∙◌, ap, length, subst}
use Rattle.conflict_finding.specs.Whom.{NamesThose}
use Rattle.conflict_finding.proofs.NamingLines.{headed_is, pushed_on}
use Rattle.conflict_finding.proofs.whom.push_line_of.Goals as goal

pub returns-then-name_same-clause-line : goal.returns-then-name_same-clause-line
returns-then-name_same-clause-line c =
    let nodes = c.args.those.now.tree.now.nodes in
    let ns = c.args.those.now.nodes.now in
    let one = subst (λ o. IfSome o (NamesThose nodes ns c.args.lines.now)) c.in-Some.is c.requires.named in
    c.in_ok-push_headed.ensures.more one.line one.there ∙ ap (λ l. c.args.lines.now ++ l ∷ []) (headed_is nodes ns c.args.lines.now c.in-Some.named c.args.field c.args.whom one (c.name_same.ensures c.if-name_same.true))

pub returns-then-name_same-clause-named : goal.returns-then-name_same-clause-named
returns-then-name_same-clause-named c =
    let nodes = c.args.those.now.tree.now.nodes in
    let ns = c.args.those.now.nodes.now in
    let one = subst (λ o. IfSome o (NamesThose nodes ns c.args.lines.now)) c.in-Some.is c.requires.named in
    pushed_on nodes ns c.args.lines.now _ _ c.args.field c.args.whom _ (c.in_ok-push_headed.ensures.more one.line one.there) (headed_is nodes ns c.args.lines.now c.in-Some.named c.args.field c.args.whom one (c.name_same.ensures c.if-name_same.true)) (ap length c.as_slice-place.ensures)

pub returns-clause-named : goal.returns-clause-named
returns-clause-named c =
    pushed_on c.args.those.now.tree.now.nodes c.args.those.now.nodes.now c.args.lines.now _ _ c.args.field c.args.whom _ c.in_ok-push.ensures.more c.in_ok-line.ensures.line (ap length c.as_slice-place.ensures)
