use Rattle.certificate_text.specs.Told.{refutation_data}
use Rattle.certificate_pieces.proofs.CallerLemmas.{lists_told}
use Rattle.certificate_pieces.proofs.ToldLemmas.{told_as}
use Rattle.certificate_pieces.proofs.conflict.EarlierChoicesTell.tell.Goals as goal

pub returns : goal.returns
returns g c = told_as (lists_told refutation_data _ _ c.refutations.ensures) c.put_list.ensures
