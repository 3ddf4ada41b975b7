-- A line that is the line before it.
use Rattle.std.proofs.Common.{◌≡◌, sym, ◌∙◌, subst}
use Rattle.verdict_claims.specs.Conflict.{RefusesOffer}
use Rattle.sysmem_proof.proofs.checking.offer_lines.is_as_before.Goals as goal

pub returns : goal.returns
returns c same whole ms refuses =
    let yes' = c.if-not-is_shared.false in
    let fields : c.args.before.now.field ≡ c.args.line.now.field = sym c.field-last.ensures ∙ (c.is_same_field.ensures c.if-not-is_same_field.false ∙ c.field-field.ensures) in
    let nodes : c.args.before.now.nodes ≡ c.args.line.now.nodes = sym c.nodes.ensures ∙ (c.is_same.ensures same ∙ c.nodes-2.ensures) in
    let one : c.args.before.now ≡ c.args.line.now = λ i. record { field = fields i; nodes = nodes i } in
    c.is_shared.ensures.shared yes' whole ms c.args.line.now (sym c.field-field.ensures)
    (subst (RefusesOffer whole ms c.args.earlier.now) one (refuses (c.is_shared.ensures.image yes')))
