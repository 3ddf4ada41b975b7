-- What is computed is the least.
use Rattle.std.proofs.Common.{refl}
use Rattle.std.proofs.lemmas.Bool.Decides.{Decides-at}
use Rattle.offer_fits.specs.Demands.{counts_asked, offer_demands}
use Rattle.verdict_claims.specs.Asked.{asked_in}
use Rattle.verdict_claims.proofs.Equal.{same_settings}
use Rattle.sysmem_proof.proofs.Meeting.{has_fit, has_count}
use Rattle.sysmem_proof.proofs.checking.settings_faults.is_least.Goals as goal

pub returns-in_default : goal.returns-in_default
returns-in_default c =
    let asked = asked_in c.args.tree.now.nodes c.args.nodes.now in
    absurd (has_fit c.args.platform.now c.args.settings.now asked c.offer_line_leaves_none.ensures c.requires.met
    (c.in_default.ensures.none c.args.settings.now.offer (offer_demands asked) c.read_nodes.ensures))

pub returns-in_default-least_count : goal.returns-in_default-least_count
returns-in_default-least_count c =
    let asked = asked_in c.args.tree.now.nodes c.args.nodes.now in
    absurd (has_count c.args.platform.now c.args.settings.now asked c.count_line_leaves_none.ensures c.requires.met c.in_default-least_count.field-0
    (c.in_default-least_count.ensures.line (counts_asked asked) c.count_nodes.ensures))

pub returns : goal.returns
returns c =
    let asked = asked_in c.args.tree.now.nodes c.args.nodes.now in
    let law = c.least_is_computed.ensures c.args.platform.now asked c.args.settings.now _ refl c.requires.met
    (c.in-Some.ensures.best c.args.settings.now.offer (offer_demands asked) c.read_nodes.ensures) (c.in-Ok.ensures.cases (counts_asked asked) c.count_nodes.ensures) in
    let same = Decides-at c.eq.result _ c.eq.ensures (same_settings c.args.settings.now _) in (
      λ is. law.0 (same.0 is),
      λ least. same.1 (law.1 least),
    )
