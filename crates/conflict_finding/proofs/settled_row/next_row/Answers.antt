-- One more node is in the row, where it was or at its end.
use Rattle.std.proofs.Common.{◌+◌, [], ◌∷◌, ◌∙◌, sym, ap, subst, arith, take, take_all}
use Rattle.std.specs.Prelude.{All, Contains}
use Rattle.sysmem_tree.specs.Nodes.{HasNode}
use Rattle.std.proofs.lemmas.List.Elements.{Contains-append_left, Contains-push}
use Rattle.conflict_finding.proofs.FirstOnes.{contained_at}
use Rattle.conflict_finding.proofs.SameOnes.{have_among, one_found, one_pushed}
use Rattle.conflict_finding.proofs.settled_row.next_row.Goals as goal
use Rattle.conflict_finding.proofs.settled_row.next_row.Goals.{then-not-stands_at+in_ok-push, else-not-stands_at}

pub places_in-places-requires : goal.places_in-places-requires
places_in-places-requires c = subst (All (HasNode c.args.tree.now.nodes)) (sym c.deref.ensures.value) (have_among (HasNode c.args.tree.now.nodes) _ c.args.nodes.now c.in_ok-next.ensures c.requires.there)

pub loop-node-preserved : goal.loop-node-preserved
loop-node-preserved c = elim c.if-not-stands_at.branch [
  | then-not-stands_at+in_ok-push w ↦
      let items = ap (λ v. v.items) w.next-is ∙ w.in_ok-push.ensures.items in record {
        among = one_pushed (Contains c.args.nodes.now) c.loop-node.next.items _ c.node-item.result items c.loop-node.invariant.among
            (contained_at c.args.nodes.now c.loop-node.node-index c.node-item.result c.loop-node-test.true c.node-item.is);
        all = one_found c.args.nodes.now c.loop-node.next.items _ c.loop-node.node-index c.node-item.result c.loop-node-test.true c.node-item.is
            (λ x has. subst (λ ys. Contains ys x) (sym items) (Contains-append_left c.loop-node.next.items (c.node-item.result ∷ []) x has))
            (subst (λ ys. Contains ys c.node-item.result) (sym items) (Contains-push c.loop-node.next.items c.node-item.result)) c.loop-node.invariant.all;
      }
  | else-not-stands_at w ↦ record {
    among = subst (λ v. All (Contains c.args.nodes.now) v.items) (sym w.next-is) c.loop-node.invariant.among;
    all = subst (λ v. All (Contains v.items) (take (c.loop-node.node-index + 1) c.args.nodes.now)) (sym w.next-is)
        (one_found c.args.nodes.now c.loop-node.next.items c.loop-node.next.items c.loop-node.node-index c.node-item.result c.loop-node-test.true c.node-item.is (λ x has. has)
        (subst (λ ys. Contains ys c.node-item.result) c.deref-in-loop-node.ensures.value (contained_at c.deref-in-loop-node.result.now _ c.node-item.result (c.stands_at.ensures.within w.if-not-stands_at.false) (c.stands_at.ensures.is w.if-not-stands_at.false)))
        c.loop-node.invariant.all);
  }
]

pub returns : goal.returns
returns c = record {
  among = c.loop-node.invariant.among;
  all = subst (All (Contains c.loop-node.next.items)) (take_all c.loop-node.node-index c.args.nodes.now (omega (arith, c.loop-node-test.false))) c.loop-node.invariant.all;
}
