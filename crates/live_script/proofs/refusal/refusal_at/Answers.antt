-- Of the node's domain.
use Rattle.std.proofs.Common.{◌∙◌, refl, sym}
use Rattle.live_script.specs.Refusing.{has_no_node}
use Rattle.live_script.proofs.Telling.{none_there, told_at, untold_at}
use Rattle.live_script.proofs.refusal.refusal_at.Goals as goal

pub returns-in_default : goal.returns-in_default
returns-in_default c = has_no_node c.args.snapshot.now refl (none_there _ _ _ c.in_default.is c.node_of.ensures.some) refl

pub returns-then-is_told : goal.returns-then-is_told
returns-then-is_told c =
    told_at c.args.snapshot.now c.args.number c.in-Some.node c.domain_of-domain.result c.args.why.now c.tell.new.why c.tell.result c.in-Some.ensures.number c.in-Some.ensures.there c.domain_of-domain.ensures.domain
    (sym c.is_told.ensures ∙ c.if-is_told.true) c.tell.ensures

pub returns-else-is_told : goal.returns-else-is_told
returns-else-is_told c =
    untold_at c.args.snapshot.now c.args.number c.in-Some.node c.domain_of-domain.result c.args.why.now c.in-Some.ensures.number c.in-Some.ensures.there c.domain_of-domain.ensures.domain
    (sym c.is_told.ensures ∙ c.if-is_told.false)
