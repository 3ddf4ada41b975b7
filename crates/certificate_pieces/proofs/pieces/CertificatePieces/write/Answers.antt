use Rattle.std.proofs.Common.{[], map, ap, ◌∙◌}
use Rattle.certificate_pieces.specs.Texts.{decision_text, list_text}
use Rattle.certificate_pieces.proofs.ToldLemmas.{told_as, told_start, told_then}
use Rattle.certificate_pieces.proofs.pieces.CertificatePieces.write.Goals as goal

pub returns : goal.returns
returns g c =
    let list = told_as (ap (λ ds. list_text (map decision_text ds)) c.as_slice.ensures.value ∙ ap list_text c.self.view_is) c.put_list.ensures in
    let all = c.finish.ensures _ _ ((told_then list c.put.ensures).tells _ [] (told_start _ _ _ c.clear.ensures)) in
    record { written = all.written; front = all.front; worked = all.worked; failed = all.failed }
