-- Few enough selections, and a refutation of the domain's forest.
use Rattle.std.proofs.Common.{◌≡◌, Some, refl, sym, subst}
use Rattle.sysmem_tree.specs.Selection.{after, IsPrefix}
use Rattle.verdict_claims.specs.Matter.{forest, terms}
use Rattle.sysmem_proof.proofs.Claiming.{empty_told}
use Rattle.sysmem_proof.proofs.claims.empty_fault.Goals as goal

pub refutation_fault-requires : goal.refutation_fault-requires
refutation_fault-requires c = subst (IsPrefix (forest c.args.checker.now)) (sym c.new.ensures) refl

pub returns : goal.returns
returns c =
    let d = forest c.args.checker.now in
    empty_told c.args.checker.now.platform (terms c.args.checker.now) d _ c.args.refutation.now c.refutation_fault.result c.items.ensures (c.are_few.ensures.0 c.if-not-are_few.false)
    (c.refutation_fault.ensures.told d (subst (λ xs. after d xs ≡ Some d) (sym c.new.ensures) refl))
