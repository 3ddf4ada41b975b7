use Rattle.certificate_text.specs.Told.{item_data}
use Rattle.certificate_pieces.proofs.CallerLemmas.{lists_told}
use Rattle.certificate_pieces.proofs.ToldLemmas.{told_as}
use Rattle.certificate_pieces.proofs.conflict.RefutationTell.tell.Goals as goal

pub returns : goal.returns
returns g c = told_as (lists_told item_data _ _ c.items.ensures) c.put_list.ensures
