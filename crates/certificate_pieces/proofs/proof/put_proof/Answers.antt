use Rattle.std.proofs.Common.{ap, sym}
use Rattle.certificate_text.specs.Told.{item_data}
use Rattle.certificate_pieces.proofs.CallerLemmas.{lists_told}
use Rattle.certificate_pieces.proofs.ToldLemmas.{told_as, told_then}
use Rattle.certificate_pieces.specs.Texts.{proof_text}
use Rattle.certificate_pieces.proofs.proof.put_proof.Goals as goal

pub returns-in-Empty : goal.returns-in-Empty
returns-in-Empty g c =
    told_as (ap proof_text (sym c.in-Empty.is)) (told_then c.put.ensures (told_as (lists_told item_data _ _ c.items.ensures) c.put_list.ensures))
