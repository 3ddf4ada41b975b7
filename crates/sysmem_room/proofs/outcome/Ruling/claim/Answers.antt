use Rattle.std.proofs.Common.{◌∙◌, ap, subst, sym}
use Rattle.verdict_claims.specs.Claim.{IsTrueClaim}
use Rattle.sysmem_room.specs.Ruling.{RulingFacts, IsRuling}
use Rattle.sysmem_room.proofs.outcome.Ruling.claim.Goals as goal

pub returns-clause-right : goal.returns-clause-right
returns-clause-right c = subst (λ cl. IsTrueClaim c.args.self.now.frozen.platform c.args.self.now.frozen.tree.nodes c.args.self.now.frozen.domain c.args.self.now.frozen.base cl)
    (sym (c.deref.ensures ∙ ap (λ (r : RulingFacts). r.claim) c.self.view_is)) (subst IsRuling c.self.view_is c.self.invariant)
