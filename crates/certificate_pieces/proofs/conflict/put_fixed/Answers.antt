use Rattle.std.proofs.Common.{ap, ◌∙◌}
use Rattle.serde_json.specs.Written.{compact_text}
use Rattle.certificate_text.specs.Told.{path_data}
use Rattle.certificate_pieces.proofs.Spelled.{fixed_told}
use Rattle.certificate_pieces.proofs.ToldLemmas.{told_as, told_then}
use Rattle.certificate_pieces.proofs.conflict.put_fixed.Goals as goal

pub returns : goal.returns
returns g c =
    told_as (fixed_told c.args.field c.args.node.now)
    (told_then c.put.ensures (told_then (told_as (c.as_bytes.ensures.value ∙ c.name.ensures) c.put-2.ensures)
    (told_then c.put-3.ensures (told_then (told_as (ap (λ o. compact_text (path_data o)) c.ordinals.ensures) c.put_path.ensures) c.put-4.ensures))))
