-- More participants take the base, or don't.
use Rattle.std.proofs.Common.{arith}
use Rattle.search_questions.proofs.Accepting.{takes_more}
use Rattle.search_questions.proofs.on_base.OnBase.join.Goals as goal

pub returns : goal.returns
returns c = λ platform settings earlier ps qs takes more. takes_more platform settings earlier c.args.self.now c.join.new.self c.args.more.now.all_accept ps qs takes
    (c.join.ensures.joined _ _ takes.counts more.counts) (omega (arith, c.join.ensures.sum, more.small)) more.accept
