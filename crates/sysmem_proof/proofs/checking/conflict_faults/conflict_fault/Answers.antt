-- Without a base there are no terms.
use Rattle.std.proofs.Common.{Option, sym, ◌∙◌, ap, subst}
use Rattle.std.specs.Prelude.{MatchResult, option_map}
use Rattle.verdict_claims.specs.Base.{BaseFacts, terms_of}
use Rattle.verdict_claims.specs.Conflict.{IsConflictFor}
use Rattle.verdict_claims.specs.Fault.{ConflictFaults}
use Rattle.sysmem_proof.proofs.checking.conflict_faults.conflict_fault.Goals as goal

pub returns-in-None : goal.returns-in-None
returns-in-None c = λ d leads.
    subst (λ (o : Option BaseFacts). MatchResult c.initial_conflict_fault.result (λ _. IsConflictFor c.args.checker.now.platform (option_map (terms_of c.args.checker.now.nodes) o) d c.args.conflict.now)
    (ConflictFaults c.args.checker.now.platform (option_map (terms_of c.args.checker.now.nodes) o) d c.args.conflict.now))
    (sym (ap (option_map (λ b. b.now)) c.in-None.is) ∙ c.base.ensures) (c.initial_conflict_fault.ensures d leads)
