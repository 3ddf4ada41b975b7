-- What the next decision is made from.
use Rattle.std.proofs.Common.{◌∙◌, Some, ap, refl}
use Rattle.sysmem_alloc.specs.Frozen.{frozen_of}
use Rattle.live_calls.specs.Deciding.{freezes, waits_none, freeze_starves, freeze_misused}
use Rattle.live_calls.proofs.Frozen.{frozen_some, frozen_none}
use Rattle.live_calls.proofs.deciding.freeze_in.Goals as goal

pub returns-in_default : goal.returns-in_default
returns-in_default c = freeze_misused (λ b e. c.in_default.not-Collection b (cc e)) refl

pub returns-in-Ok-Some : goal.returns-in-Ok-Some
returns-in-Ok-Some c =
    let made = rw c.in-Ok-Some.field-0-is at c.in-Ok-Some.ensures.boxed in
    let at = frozen_some (frozen_of c.in-Collection.collection.book) c.in-Ok-Some.frozen.value made in
    freezes c.in-Collection.collection at.0 (ap Some c.in-Collection.is) at.1.0 (c.put.ensures ∙ ap Some at.1.1)

pub returns-in-Ok-None : goal.returns-in-Ok-None
returns-in-Ok-None c =
    let made = rw c.in-Ok-None.field-0-is at c.in-Ok-None.ensures.boxed in
    waits_none c.in-Collection.collection (ap Some c.in-Collection.is) (frozen_none c.in-Collection.collection.book made) refl

pub returns-in-Err : goal.returns-in-Err
returns-in-Err c = freeze_starves c.in-Collection.collection (ap Some c.in-Collection.is) c.in-Err.ensures.waits refl
