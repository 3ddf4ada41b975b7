-- What is told of the checker's domain is told of this one.
use Rattle.std.proofs.Common.{subst}
use Rattle.std.specs.Prelude.{MatchResult, option_map}
use Rattle.verdict_claims.specs.Check.{VerdictPasses}
use Rattle.verdict_claims.specs.Matter.{Matter, forest, terms}
use Rattle.verdict_claims.specs.Fault.{VerdictFaults}
use Rattle.sysmem_proof.proofs.Claiming.{passes_true, true_passes}
use Rattle.sysmem_proof.proofs.claims.check.Goals as goal

pub returns-clause-cases : goal.returns-clause-cases
returns-clause-cases c = subst (λ (x : Matter). MatchResult c.claim_fault.result (λ _. VerdictPasses x.platform (terms x) (forest x) c.args.claim.now.verdict c.args.claim.now.proof)
    (VerdictFaults x.platform (terms x) (forest x) c.args.claim.now.verdict c.args.claim.now.proof)) c.new-checker.ensures c.claim_fault.ensures

pub returns-clause-optimal : goal.returns-clause-optimal
returns-clause-optimal c = passes_true c.args.platform.now c.args.tree.now.nodes c.args.domain (option_map (λ b. b.now) c.args.base) c.args.claim.now c.tests_are_exact.ensures c.claim_fault.result
    (subst (λ (x : Matter). MatchResult c.claim_fault.result (λ _. VerdictPasses x.platform (terms x) (forest x) c.args.claim.now.verdict c.args.claim.now.proof)
    (VerdictFaults x.platform (terms x) (forest x) c.args.claim.now.verdict c.args.claim.now.proof)) c.new-checker.ensures c.claim_fault.ensures)

pub returns-clause-accepted : goal.returns-clause-accepted
returns-clause-accepted c = true_passes c.args.platform.now c.args.tree.now.nodes c.args.domain (option_map (λ b. b.now) c.args.base) c.args.claim.now c.tests_are_exact.ensures c.faults_are_first.ensures c.claim_fault.result
    (subst (λ (x : Matter). MatchResult c.claim_fault.result (λ _. VerdictPasses x.platform (terms x) (forest x) c.args.claim.now.verdict c.args.claim.now.proof)
    (VerdictFaults x.platform (terms x) (forest x) c.args.claim.now.verdict c.args.claim.now.proof)) c.new-checker.ensures c.claim_fault.ensures)
