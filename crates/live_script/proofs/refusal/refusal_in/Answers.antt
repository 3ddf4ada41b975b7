-- Of a copy.
use Rattle.std.proofs.Common.{Some, ap, refl, subst, sym}
use Rattle.live_script.specs.Refusing.{TellsRefusal, refusal_misused}
use Rattle.live_script.proofs.refusal.refusal_in.Goals as goal

pub returns-in_default : goal.returns-in_default
returns-in_default c = refusal_misused (λ s e. c.in_default.not-Snapshot s (cc e)) refl

pub returns : goal.returns
returns c = subst (λ o. TellsRefusal c.args.number o c.args.why.now c.refusal_at.new.why c.refusal_at.result) (sym (ap Some c.in-Snapshot.is)) c.refusal_at.ensures
