use Rattle.std.proofs.Common.{refl}
use Rattle.certificate_pieces.proofs.Spelled.{short_told}
use Rattle.certificate_pieces.proofs.ToldLemmas.{told_as}
use Rattle.certificate_pieces.proofs.path.put_short.Goals as goal

pub returns : goal.returns
returns g c = told_as (short_told c.args.ordinals.now _ _ c.requires.many refl refl c.requires.first c.requires.second c.type_inv.ordinals) c.put.ensures
