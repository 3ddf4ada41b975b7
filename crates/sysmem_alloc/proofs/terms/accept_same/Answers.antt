-- See Fitting.antt.
use Rattle.std.proofs.Common.{◌≡◌, ◌≢◌, ◌↔◌, ◌<◌, ℕ, length, get_or, nat_eq, IsTrue, Bool, true, false, sym, ◌∙◌, ap, subst, arith, rules, tests}
use Rattle.verdict_claims.specs.Members.{member_at}
use Rattle.sysmem_alloc.proofs.Fitting.{at_end, differs, item_at, lacks}
use Rattle.sysmem_alloc.proofs.terms.accept_same.Goals as goal
use Rattle.sysmem_alloc.proofs.terms.accept_same.Goals.{then-at-accepted-via-then-at-accepted, then-at-accepted-via-else-at-accepted+then-not-shows_same}

pub returns-then-at-accepted : goal.returns-then-at-accepted
returns-then-at-accepted c =
    let item : get_or c.args.chosen.now c.loop-node.node-index 0 ≡ c.node-item.result = item_at c.args.chosen.now c.loop-node.node-index c.node-item.result c.loop-node-test.true c.node-item.is in
    let on : get_or c.args.marks.now (get_or c.args.chosen.now c.loop-node.node-index 0) false ≡ true =
    ap (λ (n : ℕ). get_or c.args.marks.now n false) (item ∙ sym c.number_of.ensures.number) ∙ c.if-not-marks-number_of.false in (
      λ no. absurd (cc),
      λ same. elim c.then-at-accepted.branch [
        | then-at-accepted-via-then-at-accepted w ↦
            absurd (lacks c.args.tree.now.nodes c.args.others.now.nodes c.args.marks.now c.args.chosen.now c.args.accepted.now c.requires.own_there c.requires.other_there c.loop-node.node-index c.loop-node.at
            c.loop-node-test.true (omega (arith, w.if-at-accepted.true)) on (c.loop-node.invariant.same.1 same))
        | then-at-accepted-via-else-at-accepted+then-not-shows_same w ↦
            let less : c.loop-node.at < length c.args.accepted.now = omega (arith, w.if-at-accepted.false) in
            let other : get_or c.args.accepted.now c.loop-node.at 0 ≡ w.index-accepted-at.result = item_at c.args.accepted.now c.loop-node.at w.index-accepted-at.result less w.index-accepted-at.is in
            let apart : member_at c.args.tree.now.nodes (get_or c.args.chosen.now c.loop-node.node-index 0) ≢ member_at c.args.others.now.nodes (get_or c.args.accepted.now c.loop-node.at 0) =
            λ e. (let yes = w.shows_same.ensures.1 (ap (member_at c.args.tree.now.nodes) (sym item) ∙ (e ∙ ap (member_at c.args.others.now.nodes) other)) in let no = w.if-not-shows_same.true in absurd (cc)) in
            absurd (differs c.args.tree.now.nodes c.args.others.now.nodes c.args.marks.now c.args.chosen.now c.args.accepted.now c.requires.own_there c.requires.other_there c.loop-node.node-index c.loop-node.at
            c.loop-node-test.true less on apart (c.loop-node.invariant.same.1 same))
      ],
    )

pub returns : goal.returns
returns c =
    let end = at_end c.args.tree.now.nodes c.args.others.now.nodes c.args.marks.now c.args.chosen.now c.args.accepted.now c.requires.own_there c.requires.other_there c.loop-node.node-index c.loop-node.at
    (nat_eq c.loop-node.at (length c.args.accepted.now)) (omega (arith, c.loop-node-test.false)) c.loop-node.invariant.within (λ yes. search (rules, tests, yes)) (λ same. search (rules, tests, same)) in
    (λ t. c.loop-node.invariant.same.0 (end.0 t), λ e. end.1 (c.loop-node.invariant.same.1 e))
