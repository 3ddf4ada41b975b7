-- One move more, or none.
use Rattle.std.proofs.Common.{◌<◌, subst, sym, length, arith}
use Rattle.other_outcomes.specs.Moved.{IsMoved, one_more}
use Rattle.other_outcomes.proofs.moved.step.Goals as goal

pub returns-then-is_later : goal.returns-then-is_later
returns-then-is_later c = λ first moved.
    let later : c.args.from < c.args.to = search arith in
    let there : c.args.to < length c.args.calls.now = search arith in
    subst (IsMoved first) (sym c.in_ok-made.ensures) (one_more c.args.calls.now c.args.from c.args.to later there moved)

pub returns : goal.returns
returns c = λ first moved. subst (IsMoved first) (sym c.in_ok-same.ensures.items) moved
