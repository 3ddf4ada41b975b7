-- The line before put once more, or another that is true of whom it names; without one they share the offer.
use Rattle.std.proofs.Common.{◌<◌, length, refl, sym, subst}
use Rattle.verdict_claims.specs.FirstConflict.{IsOfferLineGiven}
use Rattle.verdict_claims.specs.Members.{members_at, participants}
use Rattle.conflict_finding.specs.Reading.{IsReading}
use Rattle.conflict_finding.specs.Refusals.{HasLast, RefusesLast}
use Rattle.conflict_finding.proofs.FirstLines.{first_for_all}
use Rattle.conflict_finding.proofs.NamedLines.{one_refuses, these_refuse}
use Rattle.conflict_finding.proofs.NamingLines.{named_again, named_more}
use Rattle.conflict_finding.proofs.Sofar.{one_longer}
use Rattle.conflict_finding.proofs.TrueOfThose.{refusing, shared_offer}
use Rattle.conflict_finding.proofs.refusals.push_offer.Goals as goal

pub returns-then-again-clause-longer : goal.returns-then-again-clause-longer
returns-then-again-clause-longer c = λ _.
    one_longer c.args.lines.now _ (subst (λ lines. 0 < length lines) c.as_slice.ensures (c.in_ok-again.ensures.some c.if-again.true)) c.in_ok-push_again.ensures.more

pub returns-then-again-clause-more : goal.returns-then-again-clause-more
returns-then-again-clause-more c = λ ms stand _.
    let has : HasLast (IsOfferLineGiven c.args.those.now.whole ms c.args.offer.now) c.args.lines.now = subst (HasLast (IsOfferLineGiven c.args.those.now.whole ms c.args.offer.now)) c.as_slice.ensures
    (c.in_ok-again.ensures.line c.args.those.now.whole ms stand (subst (RefusesLast (IsOfferLineGiven c.args.those.now.whole ms) c.args.earlier.now) (sym c.as_slice.ensures) (c.requires.last ms stand)) c.if-again.true) in
    record { line = has.last; added = c.in_ok-push_again.ensures.more has.last has.there; is = has.is }

pub returns-then-again-clause-named : goal.returns-then-again-clause-named
returns-then-again-clause-named c =
    named_again c.args.those.now.tree.now.nodes c.args.those.now.nodes.now c.args.kept.now c.args.lines.now _ (subst (λ lines. 0 < length lines) c.as_slice.ensures (c.in_ok-again.ensures.some c.if-again.true))
    c.in_ok-push_again.ensures.more c.requires.named

pub returns-in_default-clause-share : goal.returns-in_default-clause-share
returns-in_default-clause-share c = λ ms stand _.
    let found = c.in_default.ensures.fit c.args.offer.now _ (subst (IsReading c.args.those.now.tree.now.nodes c.args.those.now.nodes.now c.args.offer.now) c.in-Read.is c.in_ok-field.ensures.reading) in
    (refl, shared_offer (members_at c.args.those.now.tree.now.nodes c.args.those.now.nodes.now) ms stand c.args.those.now.whole c.args.offer.now found.0 found.1 (c.in_default.ensures.named c.args.offer.now _ (subst (IsReading c.args.those.now.tree.now.nodes c.args.those.now.nodes.now c.args.offer.now) c.in-Read.is c.in_ok-field.ensures.reading)))

pub returns-in_ok-push-in-Refused-clause-named : goal.returns-in_ok-push-in-Refused-clause-named
returns-in_ok-push-in-Refused-clause-named c =
    named_more c.args.those.now.tree.now.nodes c.args.those.now.nodes.now c.args.kept.now c.args.lines.now _ _ c.in_ok-push-in-Refused.ensures.more c.requires.named

pub returns-in_ok-push-in-Refused-clause-more : goal.returns-in_ok-push-in-Refused-clause-more
returns-in_ok-push-in-Refused-clause-more c = λ ms stand _. record {
  line = _;
  added = c.in_ok-push-in-Refused.ensures.more;
  is = subst (IsOfferLineGiven c.args.those.now.whole ms c.args.offer.now) (sym c.in_ok-line_alone-in-Refused.ensures.line) (record {
    refuses = one_refuses c.args.those.now.tree.now.nodes c.args.those.now.nodes.now ms stand c.args.those.now.whole c.args.offer.now c.in-Refused.field c.in-Refused.node (subst (IsReading c.args.those.now.tree.now.nodes c.args.those.now.nodes.now c.args.offer.now) c.in-Refused.is c.in_ok-field.ensures.reading).0 (subst (IsReading c.args.those.now.tree.now.nodes c.args.those.now.nodes.now c.args.offer.now) c.in-Refused.is c.in_ok-field.ensures.reading).1;
    first = first_for_all (members_at c.args.those.now.tree.now.nodes c.args.those.now.nodes.now) ms stand c.args.those.now.whole c.args.offer.now c.in-Refused.field ((subst (IsReading c.args.those.now.tree.now.nodes c.args.those.now.nodes.now c.args.offer.now) c.in-Refused.is c.in_ok-field.ensures.reading).2 c.args.those.now.whole);
  });
}

pub returns-in_ok-push_line_of-in-Read-clause-more : goal.returns-in_ok-push_line_of-in-Read-clause-more
returns-in_ok-push_line_of-in-Read-clause-more c = λ ms stand _. record {
  line = _;
  added = c.in_ok-push_line_of-in-Read.ensures.line;
  is = let first = c.in-Some.ensures.first c.args.offer.now _ (subst (IsReading c.args.those.now.tree.now.nodes c.args.those.now.nodes.now c.args.offer.now) c.in-Read.is c.in_ok-field.ensures.reading) in record {
    refuses = these_refuse c.args.those.now.tree.now.nodes c.args.those.now.nodes.now ms stand c.args.those.now.whole c.args.offer.now c.in-Some.field c.whom_for.result
        (c.whom_for.ensures c.args.those.now.whole c.args.offer.now (participants ms) (refusing (members_at c.args.those.now.tree.now.nodes c.args.those.now.nodes.now) ms stand c.args.those.now.whole c.args.offer.now c.in-Some.field first.holds));
    first = first_for_all (members_at c.args.those.now.tree.now.nodes c.args.those.now.nodes.now) ms stand c.args.those.now.whole c.args.offer.now c.in-Some.field first;
  };
}
