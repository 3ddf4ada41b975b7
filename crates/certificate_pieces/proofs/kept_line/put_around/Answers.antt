use Rattle.std.proofs.Common.{codes, ap, ◌∙◌}
use Rattle.sysmem_counts.specs.Field.{field_name}
use Rattle.certificate_pieces.proofs.Spelled.{field_kind_plain, named_told}
use Rattle.certificate_pieces.proofs.ToldLemmas.{told_as, told_then, told_whole}
use Rattle.certificate_pieces.proofs.kept_line.put_around.Goals as goal

pub returns : goal.returns
returns c = λ works paths.
    told_whole _ _ _ _ _ c.requires (told_as (named_told (codes "field") c.args.line.now.field c.args.line.now.nodes field_kind_plain)
    (told_then c.put.ensures (told_then (told_as (c.as_bytes.ensures.value ∙ c.name.ensures ∙ ap field_name c.field.ensures) c.put-2.ensures)
    (told_then c.put-3.ensures (told_then (told_as paths c.put-4.ensures) c.put_byte.ensures))))) works
