-- One more is read.
use Rattle.std.proofs.Common.{sym, ◌∙◌, ap, subst, arith, length-append, take, take_all, length}
use Rattle.offer_fits.specs.Demands.{offer_demands}
use Rattle.sysmem_merge.specs.OfferRead.{IsOfferRead}
use Rattle.verdict_claims.specs.Members.{members_at, participants}
use Rattle.conflict_finding.specs.OfferAsked.{AreFrontReads}
use Rattle.conflict_finding.proofs.FirstOnes.{read_more}
use Rattle.conflict_finding.proofs.FrontReads.{push_read}
use Rattle.conflict_finding.proofs.offer_asked.read_more.Goals as goal

pub loop-index-preserved : goal.loop-index-preserved
loop-index-preserved c =
    let now = read_more c.args.tree.now.nodes c.args.row.now c.requires.there c.loop-index.index c.index-row-index.result (omega (arith, c.loop-index-test.true)) c.index-row-index.is _ c.constraints_of.ensures
    c.args.offer.now c.loop-index.read c.add_read.new.read c.loop-index.invariant.read c.add_read.ensures in
    record {
      many = ap length c.in_ok-push.ensures.items ∙ (length-append c.loop-index.reads.items _ ∙ omega (arith, c.loop-index.invariant.many));
      few = omega (arith, c.loop-index-test.true);
      reads = push_read c.args.tree.now.nodes c.args.row.now c.args.offer.now c.loop-index.reads.items _ c.add_read.new.read c.loop-index.index c.loop-index.invariant.many c.in_ok-push.ensures.items c.loop-index.invariant.reads now;
      read = now;
    }

pub returns-clause-read : goal.returns-clause-read
returns-clause-read c = subst (λ ns. IsOfferRead c.args.offer.now (offer_demands (participants (members_at c.args.tree.now.nodes ns))) c.loop-index.read)
    (take_all c.loop-index.index c.args.row.now (omega (arith, c.loop-index-test.false))) c.loop-index.invariant.read

pub loop-index-init : goal.loop-index-init
loop-index-init c = record {
  many = omega (arith, c.len-index.ensures, c.args.reads.now.ok);
  few = omega (arith, c.len-index.ensures, c.args.reads.now.ok, c.requires.few);
  reads = c.requires.reads;
  read = subst (λ k. IsOfferRead c.args.offer.now (offer_demands (participants (members_at c.args.tree.now.nodes (take k c.args.row.now)))) c.last_read-read.result)
      (ap length c.deref.ensures.value ∙ omega (arith, c.len-index.ensures, c.args.reads.now.ok))
      (c.last_read-read.ensures c.args.tree.now.nodes c.args.row.now (subst (AreFrontReads c.args.tree.now.nodes c.args.row.now c.args.offer.now) (sym c.deref.ensures.value) c.requires.reads));
}

pub returns-in_err-push-clause-reads : goal.returns-in_err-push-clause-reads
returns-in_err-push-clause-reads c = subst (AreFrontReads c.args.tree.now.nodes c.args.row.now c.args.offer.now) (sym c.in_err-push.ensures.items) c.loop-index.invariant.reads
