-- What `==` calls equal is equal.
use Rattle.std.proofs.Common.{rules, ◌≡◌, Decides}
use Rattle.std.proofs.lemmas.Bool.Decides.{Decides-at}
use Rattle.sysmem_counts.specs.contracts.field.FieldPartialEq.TheImpl as field
use Rattle.sysmem_proof.proofs.checking.offer_lines.is_same_field.Goals as goal

pub returns : goal.returns
returns c =
    let same : Decides (field.ghosts.eq c.args.one c.args.other) (c.args.one ≡ c.args.other) = search rules in
    (Decides-at c.eq.result _ c.eq.ensures same).0
