-- One call less, or none.
use Rattle.std.proofs.Common.{◌<◌, subst, sym, length, arith}
use Rattle.other_outcomes.specs.Shorter.{IsShorter, one_less}
use Rattle.other_outcomes.proofs.ended_earlier.fewer.Goals as goal

pub returns-then-is_there : goal.returns-then-is_there
returns-then-is_there c = λ first shorter.
    let there : c.args.place < length c.args.calls.now = search arith in
    subst (IsShorter first) (sym c.in_ok-made.ensures) (one_less c.args.calls.now c.args.place there shorter)

pub returns : goal.returns
returns c = λ first shorter. subst (IsShorter first) (sym c.in_ok-same.ensures.items) shorter
