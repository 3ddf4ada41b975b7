-- The participant has what the struct states, or what the struct states is amiss.
use Rattle.std.proofs.Common.{subst, sym}
use Rattle.negotiation_inputs.specs.Amiss.{ParticipantAmiss}
use Rattle.flat_negotiation.specs.Said.{IsParticipantSaid, wishes_amiss}
use Rattle.flat_negotiation.proofs.said.participant_of.Goals as goal

pub returns-in-Ok-clause-said : goal.returns-in-Ok-clause-said
returns-in-Ok-clause-said c =
    subst (IsParticipantSaid c.args.flat.now) (sym c.in-Ok.ensures.made) (record {
      usage = c.usage_of.ensures;
      counts = c.counts_of.ensures;
      memory = c.in_ok-memory.ensures;
      entries = c.in_ok-entries.ensures.said;
      is = c.in-Ok.ensures.taken;
    })

pub returns-in-Err-clause-amiss : goal.returns-in-Err-clause-amiss
returns-in-Err-clause-amiss c =
    let entries = c.in_ok-entries.entries.items in
    wishes_amiss (record {
      usage = c.usage_of.result;
      usage_said = c.usage_of.ensures;
      entries = entries;
      entries_said = c.in_ok-entries.ensures.said;
      field = subst (λ m. ParticipantAmiss c.in-Err.field c.usage_of.result m entries) c.in_ok-memory.ensures c.in-Err.ensures.amiss;
    })
