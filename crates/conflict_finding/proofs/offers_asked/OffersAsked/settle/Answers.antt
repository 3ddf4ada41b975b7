-- What is known of the first in both rows stays.
use Rattle.std.proofs.Common.{◌≡◌, ◌≤◌, length, sym, subst, take, arith}
use Rattle.std.specs.Prelude.{All}
use Rattle.sysmem_tree.specs.Nodes.{HasNode}
use Rattle.conflict_finding.specs.OfferAsked.{IsOfferAsked}
use Rattle.conflict_finding.proofs.FrontReads.{all_written}
use Rattle.conflict_finding.proofs.SameOnes.{have_among}
use Rattle.conflict_finding.proofs.offers_asked.OffersAsked.settle.Goals as goal

pub next_row-requires-clause-row : goal.next_row-requires-clause-row
next_row-requires-clause-row c = subst (All (HasNode c.args.tree.now.nodes)) (sym c.deref.ensures.value) c.requires.asked.there

pub returns-clause-asked : goal.returns-clause-asked
returns-clause-asked c =
    let many : c.args.self.now.offers.len ≡ length c.cut_each.new.offers = omega (arith, c.cut_each.auto.offers, c.deref_mut.ensures.len) in
    record {
      there = have_among (HasNode c.args.tree.now.nodes) c.in_ok-next.next.items c.args.askers.now c.in_ok-next.ensures.among c.requires.askers.there;
      each = subst (All (IsOfferAsked c.args.tree.now.nodes c.in_ok-next.next.items)) (sym (all_written c.args.self.now.offers.len c.args.self.now.offers.items c.cut_each.new.offers many)) (c.cut_each.ensures c.args.tree.now.nodes c.args.self.now.row.items c.in_ok-next.next.items
          (subst (λ xs. take c.common_front-front.result c.args.self.now.row.items ≡ take c.common_front-front.result xs) c.deref-3.ensures.value
          (subst (λ xs. take c.common_front-front.result xs ≡ take c.common_front-front.result c.deref-3.result.now) c.deref-2.ensures.value c.common_front-front.ensures.same))
          (subst (λ xs. c.common_front-front.result ≤ length xs) c.deref-3.ensures.value c.common_front-front.ensures.few)
          (subst (All (IsOfferAsked c.args.tree.now.nodes c.args.self.now.row.items)) (sym c.deref_mut.ensures.value) c.requires.asked.each));
    }

pub returns-clause-settled : goal.returns-clause-settled
returns-clause-settled c = record { known = returns-clause-asked c; askers = c.args.askers.now; some = c.requires.askers; row = c.in_ok-next.ensures }
