use Rattle.std.proofs.Common.{ap, ◌∙◌}
use Rattle.serde_json.specs.Written.{compact_text}
use Rattle.sysmem_counts.specs.Field.{field_name}
use Rattle.certificate_text.specs.Told.{paths_data}
use Rattle.certificate_pieces.proofs.Spelled.{named_told}
use Rattle.certificate_pieces.proofs.ToldLemmas.{told_as, told_then}
use Rattle.certificate_pieces.proofs.conflict.put_line.Goals as goal

pub returns : goal.returns
returns g c = λ kind plain front.
    told_as (named_told kind c.args.line.now.field c.args.line.now.nodes plain)
    (told_then (told_as front c.put.ensures) (told_then (told_as (c.as_bytes.ensures.value ∙ c.name.ensures ∙ ap field_name c.field.ensures) c.put-2.ensures)
    (told_then c.put-3.ensures (told_then (told_as (ap (λ ns. compact_text (paths_data ns)) c.nodes.ensures) c.put_paths.ensures) c.put_byte.ensures))))
