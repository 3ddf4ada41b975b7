-- A name is text, of a collection's node.
use Rattle.std.proofs.Common.{Some, ap, refl, subst, sym}
use Rattle.live_book.specs.declared.object.Object.TheVariants.{Collection}
use Rattle.live_calls.specs.Naming.{SetsName, is_no_text, set_name_misused}
use Rattle.live_calls.proofs.naming.set_name_in.Goals as goal

pub returns-in_default : goal.returns-in_default
returns-in_default c = set_name_misused (λ b e. c.in_default.not-Collection b (cc e)) refl

pub returns-in-Ok : goal.returns-in-Ok
returns-in-Ok c =
    subst (λ o. SetsName c.args.node c.args.name.now o (Some (Collection c.name_by.new.collection)) c.name_by.result) (sym (ap Some c.in-Collection.is))
    (subst (λ n. SetsName c.args.node n (Some (Collection c.in-Collection.collection)) (Some (Collection c.name_by.new.collection)) c.name_by.result) c.in-Ok.ensures.cases.0 c.name_by.ensures)

pub returns-in-Err : goal.returns-in-Err
returns-in-Err c = is_no_text c.in-Err.ensures.cases.0 (sym (ap Some c.in-Collection.is))
