use Rattle.std.proofs.Common.{ap, codes, refl, ◌∙◌}
use Rattle.serde_json.specs.Written.{compact_text}
use Rattle.certificate_text.specs.Told.{paths_data}
use Rattle.certificate_pieces.specs.Texts.{line_front}
use Rattle.certificate_pieces.proofs.Spelled.{field_kind_plain, front_told}
use Rattle.certificate_pieces.proofs.ToldLemmas.{told_as, told_then}
use Rattle.certificate_pieces.proofs.conflict.put_listed.Goals as goal

pub returns-then-not-keeps : goal.returns-then-not-keeps
returns-then-not-keeps g c = c.put_line.ensures (codes "field") field_kind_plain refl

pub returns : goal.returns
returns g c =
    told_as (front_told c.args.line.now.field c.args.line.now.nodes)
    (told_then (told_as (c.text.ensures ∙ (c.keeps.ensures c.if-not-keeps.false ∙ ap line_front c.field.ensures)) c.put.ensures)
    (told_then (told_as (ap (λ ns. compact_text (paths_data ns)) c.nodes.ensures) c.put_paths.ensures) c.put_byte.ensures))
