-- What proves a verdict on a subject proves it on the domain that it is of.
use Rattle.std.proofs.Common.{sym, subst}
use Rattle.std.specs.Prelude.{option_map}
use Rattle.verdict_claims.specs.Claim.{IsProofIn}
use Rattle.verdict_claims.specs.Matter.{Matter}
use Rattle.verdict_claims.specs.Verdict.{IsOptimalIn}
use Rattle.verdict_claims.specs.declared.certificate.Proof.TheVariants as proves
use Rattle.verdict_claims.specs.declared.verdict.Verdict.TheVariants as verdicts
use Rattle.sysmem_search.specs.Cut.{IsCutProof}
use Rattle.search_questions.specs.Question.{IsOptimalOf, IsProofOf}
use Rattle.sysmem_search.proofs.proving.prove.Goals as goal

pub certify-requires : goal.certify-requires
certify-requires c = subst (λ (m : Matter). IsOptimalOf m (verdicts.Chosen c.in-Chosen.chosen)) (sym c.new-subject.ensures)
    (subst (IsOptimalIn c.args.platform.now c.args.tree.now.nodes c.args.domain (option_map (λ b. b.now) c.args.base)) c.in-Chosen.is c.requires.optimal)

pub refute-requires : goal.refute-requires
refute-requires c = subst (λ (m : Matter). IsOptimalOf m verdicts.IntersectionEmpty) (sym c.new-subject.ensures)
    (subst (IsOptimalIn c.args.platform.now c.args.tree.now.nodes c.args.domain (option_map (λ b. b.now) c.args.base)) c.in-IntersectionEmpty.is c.requires.optimal)

pub returns-in_ok-certify-in-Chosen-clause-proved : goal.returns-in_ok-certify-in-Chosen-clause-proved
returns-in_ok-certify-in-Chosen-clause-proved c =
    let proof = proves.Choice c.in_ok-certify-in-Chosen.field-0 in
    subst (λ v. IsProofIn c.args.platform.now c.args.tree.now.nodes c.args.domain (option_map (λ b. b.now) c.args.base) v proof) (sym c.in-Chosen.is)
    (subst (λ (m : Matter). IsProofOf m (verdicts.Chosen c.in-Chosen.chosen) proof) c.new-subject.ensures c.in_ok-certify-in-Chosen.ensures.proved)

pub returns-in_ok-certify-in-Chosen-clause-cut : goal.returns-in_ok-certify-in-Chosen-clause-cut
returns-in_ok-certify-in-Chosen-clause-cut c =
    let m : Matter = record { platform = c.args.platform.now; nodes = c.args.tree.now.nodes; domain = c.args.domain; base = option_map (λ b. b.now) c.args.base } in
    let proof = proves.Choice c.in_ok-certify-in-Chosen.field-0 in
    subst (λ v. IsCutProof m v proof) (sym c.in-Chosen.is)
    (subst (λ (m : Matter). IsCutProof m (verdicts.Chosen c.in-Chosen.chosen) proof) c.new-subject.ensures c.in_ok-certify-in-Chosen.ensures.cut)

pub returns-in_ok-refute-in-IntersectionEmpty-clause-proved : goal.returns-in_ok-refute-in-IntersectionEmpty-clause-proved
returns-in_ok-refute-in-IntersectionEmpty-clause-proved c =
    let proof = proves.Empty c.in_ok-refute-in-IntersectionEmpty.field-0 in
    subst (λ v. IsProofIn c.args.platform.now c.args.tree.now.nodes c.args.domain (option_map (λ b. b.now) c.args.base) v proof) (sym c.in-IntersectionEmpty.is)
    (subst (λ (m : Matter). IsProofOf m verdicts.IntersectionEmpty proof) c.new-subject.ensures c.in_ok-refute-in-IntersectionEmpty.ensures.proved)

pub returns-in_ok-refute-in-IntersectionEmpty-clause-cut : goal.returns-in_ok-refute-in-IntersectionEmpty-clause-cut
returns-in_ok-refute-in-IntersectionEmpty-clause-cut c =
    let m : Matter = record { platform = c.args.platform.now; nodes = c.args.tree.now.nodes; domain = c.args.domain; base = option_map (λ b. b.now) c.args.base } in
    let proof = proves.Empty c.in_ok-refute-in-IntersectionEmpty.field-0 in
    subst (λ v. IsCutProof m v proof) (sym c.in-IntersectionEmpty.is)
    (subst (λ (m : Matter). IsCutProof m verdicts.IntersectionEmpty proof) c.new-subject.ensures c.in_ok-refute-in-IntersectionEmpty.ensures.cut)
