-- One node more of the walk.
use Rattle.std.proofs.Common.{◌+◌, length, refl, sym, ap, subst, arith}
use Rattle.sysmem_proof.proofs.Gathering.{IsTaken, take_one, room_for}
use Rattle.sysmem_proof.proofs.checking.members.gather.Goals as goal
use Rattle.sysmem_tree.proofs.CallerLemmas.{gives_same}

pub loop-step-init : goal.loop-step-init
loop-step-init c = λ ns has.
    let (ms, has', few) = c.requires in
    let same = ap length (gives_same c.args.layout.now.places c.args.walk.end ms ns c.args.walk.at has' has) in
    record { rest = ns; same = refl; left = has; few = omega (arith, few, same); within = omega (arith, few, same) }

pub next_settled-requires : goal.next_settled-requires
next_settled-requires c = let (ms, has, few) = c.requires in let t = c.loop-step.invariant ms has in (t.rest, t.left)

pub push-requires : goal.push-requires
push-requires c = let (ms, has, few) = c.requires in room_for c.args.layout.now _ _ _ _ _ _ _ ms (c.loop-step.invariant ms has) c.next_settled.ensures.next c.in-Some.is

pub loop-step-preserved : goal.loop-step-preserved
loop-step-preserved c = λ ns has. subst (λ ms. IsTaken c.args.layout.now c.args.members.now ms c.next_settled.new.walk (c.loop-step._step + 1) ns) (sym c.push.ensures)
    (take_one c.args.layout.now _ _ _ _ _ _ _ ns (c.loop-step.invariant ns has) c.next_settled.ensures.next c.in-Some.is)
