use Rattle.std.proofs.Common.{◌∙◌}
use Rattle.certificate_pieces.proofs.ToldLemmas.{told_as, told_then, told_whole}
use Rattle.certificate_pieces.proofs.kept_front.put_front.Goals as goal

pub returns : goal.returns
returns c = λ works.
    told_whole _ _ _ _ _ c.requires (told_then c.put.ensures (told_then (told_as (c.as_bytes.ensures.value ∙ c.name.ensures) c.put-2.ensures) c.put-3.ensures)) works
