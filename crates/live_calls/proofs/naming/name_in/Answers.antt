-- What a node is called, where there is one.
use Rattle.std.proofs.Common.{◌∙◌, Some, ap, refl, subst, arith}
use Rattle.caller_buffers.specs.Filled.{Fits}
use Rattle.live_calls.specs.Naming.{tells_name, name_starves, has_no_node, name_misused}
use Rattle.live_calls.proofs.naming.name_in.Goals as goal

pub returns-in_default : goal.returns-in_default
returns-in_default c = name_misused (λ b e. c.in_default.not-Collection b (cc e)) refl refl

pub returns-then-node-nodes_in : goal.returns-then-node-nodes_in
returns-then-node-nodes_in c = has_no_node c.in-Collection.collection (ap Some c.in-Collection.is) (omega (arith, c.if-node-nodes_in.true, c.nodes_in.ensures)) refl refl

pub returns-in-Ok : goal.returns-in-Ok
returns-in-Ok c =
    tells_name c.in-Collection.collection c.fit.result (ap Some c.in-Collection.is) (omega (arith, c.if-node-nodes_in.false, c.nodes_in.ensures))
    (subst (λ t. Fits t c.args.text.now c.fit.new.text c.fit.new.size c.fit.result) (c.deref.ensures.value ∙ c.in-Ok.ensures) c.fit.ensures)

pub returns-in-Err : goal.returns-in-Err
returns-in-Err c = name_starves c.in-Collection.collection (ap Some c.in-Collection.is) (omega (arith, c.if-node-nodes_in.false, c.nodes_in.ensures)) refl refl
