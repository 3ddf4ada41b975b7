use Rattle.std.specs.Arc.{arc_value}
use Rattle.script_check.proofs.Checks.{right_taken, takes_one}
use Rattle.script_check.proofs.checking.CheckingDecider.decide.Goals as goal

pub returns-in-Ok-clause-gave : goal.returns-in-Ok-clause-gave
returns-in-Ok-clause-gave c =
    takes_one c.args.book.now.platform c.args.self.now.objects.now c.take.new.self.objects.now c.args.self.now.taken c.take.new.self.taken c.args.book.now.state c.args.domain (arc_value c.in-Ok.claim)
    c.in-Ok.ensures.takes c.in-Ok.ensures.more c.take.ensures.objects

pub returns-in-Ok-clause-allowed : goal.returns-in-Ok-clause-allowed
returns-in-Ok-clause-allowed c =
    (c.requires.next, right_taken c.args.book.now.platform c.args.book.now.state c.args.domain (arc_value c.in-Ok.claim) _ c.in-Ok.ensures.takes)
