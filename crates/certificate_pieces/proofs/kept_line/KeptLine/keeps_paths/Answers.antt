use Rattle.std.proofs.Common.{ap, sym, ◌∙◌}
use Rattle.serde_json.specs.Written.{compact_text}
use Rattle.certificate_text.specs.Told.{paths_data}
use Rattle.certificate_pieces.proofs.ToldLemmas.{told_as, told_whole, works_so}
use Rattle.certificate_pieces.proofs.kept_line.KeptLine.keeps_paths.Goals as goal

pub returns : goal.returns
returns c = λ kept.
    told_whole _ _ _ _ _ c.clear.ensures (told_as (ap (λ ns. compact_text (paths_data ns)) c.nodes.ensures) c.put_paths.ensures) (sym c.is_failed.ensures ∙ works_so c.is_failed.result kept)
