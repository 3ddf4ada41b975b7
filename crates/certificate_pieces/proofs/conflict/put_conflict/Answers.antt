use Rattle.std.proofs.Common.{codes, refl, ap, sym, ◌∙◌}
use Rattle.serde_json.specs.Written.{compact_text}
use Rattle.certificate_text.specs.Told.{conflict_data}
use Rattle.certificate_text.proofs.CallerLemmas.{count_plain}
use Rattle.certificate_pieces.proofs.Spelled.{offers_told, places_told}
use Rattle.certificate_pieces.proofs.ToldLemmas.{told_as, told_then}
use Rattle.certificate_pieces.proofs.conflict.put_conflict.Goals as goal

pub returns-in-Count : goal.returns-in-Count
returns-in-Count g c = told_as (ap (λ x. compact_text (conflict_data x)) (sym c.in-Count.is)) (c.put_line.ensures (codes "count") count_plain refl)

pub returns-in-Places : goal.returns-in-Places
returns-in-Places g c =
    told_as (places_told c.in-Places.lines ∙ ap (λ x. compact_text (conflict_data x)) (sym c.in-Places.is)) (told_then c.put.ensures (told_then c.put_lines.ensures c.put_byte.ensures))

pub returns-in-Offers : goal.returns-in-Offers
returns-in-Offers g c =
    told_as (offers_told c.in-Offers.lines ∙ ap (λ x. compact_text (conflict_data x)) (sym c.in-Offers.is)) (told_then c.put-in-Offers.ensures (told_then c.put_lines-in-Offers.ensures c.put_byte-in-Offers.ensures))
