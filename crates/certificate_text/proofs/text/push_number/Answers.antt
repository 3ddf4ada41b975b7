use Rattle.std.proofs.lemmas.Fmt.{decimal_digit}
use Rattle.certificate_text.proofs.Plain.{second_digit}
use Rattle.certificate_text.proofs.text.push_number.Goals as goal

pub returns-then-number-lt10 : goal.returns-then-number-lt10
returns-then-number-lt10 c = rw (decimal_digit c.args.number c.if-number-lt10.true) c.push_digit.ensures

pub returns-then-number-lt100 : goal.returns-then-number-lt100
returns-then-number-lt100 c =
    second_digit _ _ _ _ c.args.number c.if-number-lt10.false c.if-number-lt100.true c.in_ok-push_digit.ensures c.push_digit-then-number-lt100-2.ensures
