-- A node of a collection is given a name, or not.
use Rattle.std.proofs.Common.{Some, ap, refl, subst, sym}
use Rattle.live_book.specs.declared.object.Object.TheVariants.{Collection}
use Rattle.live_calls.specs.Naming.{SetsName, sets_name, misnames}
use Rattle.live_calls.proofs.naming.name_by.Goals as goal

pub returns-in-Ok : goal.returns-in-Ok
returns-in-Ok c = sets_name c.args.collection.now refl c.in-Ok.ensures.some c.in-Ok.ensures.there (ap (λ x. Some (Collection x)) c.in-Ok.ensures.named)

pub returns-in-Err : goal.returns-in-Err
returns-in-Err c =
    subst (SetsName c.args.node c.args.name.now (Some (Collection c.args.collection.now)) (Some (Collection c.set_name.new.collection))) (sym c.misname_status.ensures)
    (misnames c.args.collection.now c.in-Err.why refl c.in-Err.ensures.misnamed (ap (λ x. Some (Collection x)) c.in-Err.ensures.unchanged))
