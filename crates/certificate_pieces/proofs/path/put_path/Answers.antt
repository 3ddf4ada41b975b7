use Rattle.std.proofs.Common.{sym, ◌∙◌}
use Rattle.std.proofs.lemmas.Bool.{eqb-false, eqb-true}
use Rattle.certificate_pieces.proofs.Spelled.{path_told, root_told}
use Rattle.certificate_pieces.proofs.ToldLemmas.{told_as, told_then}
use Rattle.certificate_pieces.proofs.path.put_path.Goals as goal

pub returns-then-is_empty : goal.returns-then-is_empty
returns-then-is_empty g c = told_as (root_told c.args.ordinals.now (eqb-true _ _ (sym c.is_empty.ensures ∙ c.if-is_empty.true))) c.put.ensures

pub returns-then-is_short : goal.returns-then-is_short
returns-then-is_short g c = c.put_short.ensures

pub returns : goal.returns
returns g c =
    told_as (path_told c.args.ordinals.now (eqb-false _ _ (sym c.is_empty.ensures ∙ c.if-is_empty.false)) c.type_inv.ordinals)
    (told_then c.put_byte.ensures (told_then c.put_steps.ensures c.put_byte-2.ensures))
