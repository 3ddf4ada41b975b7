use Rattle.std.proofs.Common.{sym}
use Rattle.std.proofs.lemmas.Fmt.{decimal_digit}
use Rattle.certificate_pieces.proofs.Spelled.{two_digits}
use Rattle.certificate_pieces.proofs.ToldLemmas.{told_as, told_then}
use Rattle.certificate_pieces.proofs.path.put_number.Goals as goal

pub returns-then-number-lt10 : goal.returns-then-number-lt10
returns-then-number-lt10 g c = told_as (sym (decimal_digit c.args.number c.if-number-lt10.true)) c.put_digit.ensures

pub returns-then-number-lt100 : goal.returns-then-number-lt100
returns-then-number-lt100 g c =
    told_as (two_digits c.args.number c.if-number-lt10.false c.if-number-lt100.true) (told_then c.put_digit-then-number-lt100.ensures c.put_digit-then-number-lt100-2.ensures)
