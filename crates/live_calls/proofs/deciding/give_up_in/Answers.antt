-- What a collection is where a decision is given up.
use Rattle.std.proofs.Common.{◌∙◌, Some, ap, refl, subst, sym}
use Rattle.sysmem_alloc.specs.State.{next_ready}
use Rattle.live_book.specs.declared.object.Object.TheVariants.{Collection}
use Rattle.live_calls.specs.Deciding.{GivesUp, give_up_misused}
use Rattle.live_calls.proofs.GivenUp.{gave_up_by, gave_up_none}
use Rattle.live_calls.proofs.deciding.give_up_in.Goals as goal

pub returns-in_default : goal.returns-in_default
returns-in_default c = give_up_misused (λ b e. c.in_default.not-Collection b (cc e)) refl

pub returns-then-give_up : goal.returns-then-give_up
returns-then-give_up c =
    subst (λ b. GivesUp b (Some (Collection c.give_up.new.collection)) 0) (sym (ap Some c.in-Collection.is))
    (gave_up_by c.in-Collection.collection c.give_up.new.collection (next_ready c.in-Collection.collection.book.state) refl (sym c.if-give_up.true ∙ c.give_up.ensures.waits) c.give_up.ensures.entered)

pub returns-else-give_up : goal.returns-else-give_up
returns-else-give_up c =
    subst (λ b. GivesUp b (Some (Collection c.give_up.new.collection)) 6) (sym (ap Some c.in-Collection.is))
    (gave_up_none c.in-Collection.collection c.give_up.new.collection (next_ready c.in-Collection.collection.book.state) refl (sym c.if-give_up.false ∙ c.give_up.ensures.waits) c.give_up.ensures.none)
