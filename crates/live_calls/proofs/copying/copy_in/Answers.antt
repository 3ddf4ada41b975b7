-- A copy of a collection is put into the handle.
use Rattle.std.proofs.Common.{Some, ap, refl, ◌∙◌}
use Rattle.live_calls.specs.Opening.{copies, copy_misused, copy_starves}
use Rattle.live_calls.proofs.copying.copy_in.Goals as goal

pub returns-in_default : goal.returns-in_default
returns-in_default c = copy_misused (λ b e. c.in_default.not-Collection b (cc e)) refl

pub returns-in-Ok : goal.returns-in-Ok
returns-in-Ok c =
    let (s, both) = c.in-Ok.ensures in
    copies c.in-Collection.collection s (ap Some c.in-Collection.is) (c.put.ensures ∙ ap Some both.0) both.1

pub returns-in-Err : goal.returns-in-Err
returns-in-Err c = copy_starves c.in-Collection.collection (ap Some c.in-Collection.is) refl
