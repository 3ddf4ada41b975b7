-- A decision is entered, or nothing has changed.
use Rattle.std.proofs.Common.{Some, ap, inl, refl, ◌∙◌, sym}
use Rattle.live_book.specs.declared.object.Object.TheVariants.{Collection}
use Rattle.live_calls.specs.Deciding.{enters, stays, enter_misused}
use Rattle.live_calls.proofs.deciding.enter_in.Goals as goal

pub returns-in_default : goal.returns-in_default
returns-in_default c = enter_misused (inl (λ b e. c.in_default.not-Collection b (cc e))) refl

pub returns-then-enter : goal.returns-then-enter
returns-then-enter c =
    enters c.in-Collection.collection c.args.decision (ap Some c.in-Collection.is) refl (c.enter.ensures.fits c.if-enter.true) (ap (λ x. Some (Collection x)) (c.enter.ensures.entered c.if-enter.true))

pub returns-else-enter : goal.returns-else-enter
returns-else-enter c =
    stays c.in-Collection.collection c.args.decision (ap Some c.in-Collection.is) refl (c.enter.ensures.stays c.if-enter.false)
    (ap (λ x. Some (Collection x)) (c.enter.ensures.unchanged c.if-enter.false) ∙ sym (ap Some c.in-Collection.is))
