-- The terms are those of the base.
use Rattle.std.proofs.Common.{Option, sym, ap, subst}
use Rattle.std.specs.Prelude.{MatchResult, option_map}
use Rattle.negotiation_inputs.specs.Platform.{PlatformFacts}
use Rattle.verdict_claims.specs.Base.{Terms, terms_of}
use Rattle.verdict_claims.specs.Conflict.{IsConflictFor}
use Rattle.verdict_claims.specs.Fault.{ConflictFaults}
use Rattle.sysmem_proof.proofs.checking.conflict_faults.attached_conflict_fault.Goals as goal

pub returns : goal.returns
returns c = λ d leads.
    let k = c.args.checker.now in
    let t : Terms = terms_of k.nodes c.args.base.now in
    let told = c.fixed_conflict_fault.ensures t d (sym c.settings-settings.ensures) (c.settled-roll.ensures d leads) (c.with_accepted-wider.ensures d leads) in
    subst (λ (p : PlatformFacts). MatchResult c.fixed_conflict_fault.result (λ _. IsConflictFor p (option_map (terms_of k.nodes) k.base) d c.args.conflict.now) (ConflictFaults p (option_map (terms_of k.nodes) k.base) d c.args.conflict.now))
    c.platform.ensures
    (subst (λ (o : Option Terms). MatchResult c.fixed_conflict_fault.result (λ _. IsConflictFor c.platform.result.now o d c.args.conflict.now) (ConflictFaults c.platform.result.now o d c.args.conflict.now))
    (sym (ap (option_map (terms_of k.nodes)) c.requires.base)) told)
