use Rattle.std.proofs.Common.{ap}
use Rattle.serde_json.specs.Written.{compact_text}
use Rattle.certificate_text.specs.Told.{earlier_data, lines_data}
use Rattle.certificate_pieces.proofs.CallerLemmas.{lists_told}
use Rattle.certificate_pieces.proofs.ToldLemmas.{told_as, told_then}
use Rattle.certificate_pieces.proofs.proof.put_certificate.Goals as goal

pub returns : goal.returns
returns g c =
    told_then c.put.ensures (told_then (told_as (lists_told earlier_data _ _ c.earlier.ensures) c.put_list.ensures)
    (told_then c.put-2.ensures (told_then (told_as (ap (λ ls. compact_text (lines_data ls)) c.offers.ensures) c.put_lines.ensures)
    (told_then c.put-3.ensures (told_as (ap (λ ls. compact_text (lines_data ls)) c.places.ensures) c.put_lines-2.ensures)))))
