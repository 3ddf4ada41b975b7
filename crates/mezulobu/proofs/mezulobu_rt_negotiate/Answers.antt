-- The settings are told, or why there are none.
use Rattle.std.proofs.Common.{refl}
use Rattle.mezulobu.specs.Negotiated.{settles}
use Rattle.mezulobu.proofs.Endings.{ends_unsettled}
use Rattle.mezulobu.proofs.mezulobu_rt_negotiate.Goals as goal

pub returns-in-Ok : goal.returns-in-Ok
returns-in-Ok c = settles c.in-Ok.settled c.in-Ok.ensures.best c.settings_of.ensures refl

pub returns-in-Err : goal.returns-in-Err
returns-in-Err c =
    ends_unsettled c.args.platform.now c.args.participants.now c.args.settings.now c.args.refusal.now c.refusal_of.result c.status_of.result c.in-Err.unsettled c.in-Err.ensures.none
    c.refusal_of.ensures c.status_of.ensures
