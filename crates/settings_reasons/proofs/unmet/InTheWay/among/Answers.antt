-- They are among those who are asked.
use Rattle.std.proofs.Common.{refl}
use Rattle.settings_reasons.proofs.Participants.{asked_among}
use Rattle.settings_reasons.proofs.unmet.InTheWay.among.Goals as goal

pub returns-in-Some-clause-some : goal.returns-in-Some-clause-some
returns-in-Some-clause-some c =
    let way = rw c.in-Some.is at c.in_ok-participants.ensures.some in
    record { platform = refl; each = asked_among c.args.participants.now c.in-Some.participants.items way.among }
