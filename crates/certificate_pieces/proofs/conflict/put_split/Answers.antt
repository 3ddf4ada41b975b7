use Rattle.certificate_pieces.proofs.Spelled.{split_told}
use Rattle.certificate_pieces.proofs.ToldLemmas.{told_as, told_then}
use Rattle.certificate_pieces.proofs.conflict.put_split.Goals as goal

pub returns : goal.returns
returns g c = told_as (split_told c.args.children) (told_then c.put.ensures (told_then c.put_number.ensures c.put_byte.ensures))
