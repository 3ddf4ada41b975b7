-- A new collection is put into the handle.
use Rattle.std.proofs.Common.{refl, subst}
use Rattle.live_book.specs.declared.object.Object.TheVariants.{Collection}
use Rattle.std.proofs.Common.{◌≡◌, Some}
use Rattle.live_calls.specs.Opening.{open_starves}
use Rattle.live_calls.proofs.Endings.{Put, opened_by}
use Rattle.live_calls.proofs.opening.open_for.Goals as goal

pub returns-in-Ok : goal.returns-in-Ok
returns-in-Ok c =
    opened_by c.args.limits c.args.held.now.value c.put_new.new.held.value c.args.platform.now c.put_new.result
    (subst (λ x. Put c.put_new.result (c.put_new.new.held.value ≡ Some (Collection x)) c.args.held.now.value c.put_new.new.held.value) c.in-Ok.ensures c.put_new.ensures)

pub returns-in-Err : goal.returns-in-Err
returns-in-Err c = open_starves c.args.platform.now refl refl
