-- A tiled misfit is asked for.
use Rattle.std.proofs.Common.{sym, ap, ◌∙◌}
use Rattle.negotiation_inputs.specs.Asked.{asks_misfit}
use Rattle.negotiation_inputs.specs.declared.asked.AskedPair.{AskedPair}
use Rattle.negotiation_inputs.proofs.Refused.{misfit_asked}
use Rattle.negotiation_inputs.proofs.amiss.amiss_in_entry.Goals as goal

pub returns-then-asks_misfit : goal.returns-then-asks_misfit
returns-then-asks_misfit c =
    misfit_asked c.args.entry.now (sym (ap (λ (a : AskedPair). asks_misfit a.format a.modifier) c.pair_asked.ensures) ∙ sym c.asks_misfit.ensures ∙ c.if-asks_misfit.true)
