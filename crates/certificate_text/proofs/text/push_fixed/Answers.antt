-- The one path is a list of its own.
use Rattle.std.proofs.Common.{◌++◌, [], ◌∷◌, codes, ap, ap₂, ◌∙◌}
use Rattle.verdict_claims.specs.declared.conflict.Conflict.TheVariants.{Fixed}
use Rattle.certificate_text.specs.Told.{conflict_data, named_data}
use Rattle.certificate_text.proofs.LineText.{fixed_plain, told_as}
use Rattle.certificate_text.proofs.text.push_fixed.Goals as goal

pub returns : goal.returns
returns c = told_as c.push_named.result c.args.out.now.items c.push_named.new.out.items (named_data (codes "fixed") c.args.field c.put.new.self) (conflict_data (Fixed c.args.field c.args.node.now))
    (ap (λ ns. named_data (codes "fixed") c.args.field ns) (c.in_ok-put.ensures.ok ∙ ap₂ (λ xs p. xs ++ p ∷ []) c.new-nodes.ensures c.ordinals.ensures)) (c.push_named.ensures fixed_plain)
