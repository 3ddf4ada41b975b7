-- What is tested of those named.
use Rattle.std.proofs.Common.{[], ◌∷◌, refl}
use Rattle.std.specs.Prelude.{Any}
use Rattle.sysmem_merge.specs.Failing.{FailsOn}
use Rattle.verdict_claims.specs.Roll.{listed}
use Rattle.verdict_claims.proofs.OnRoll.{true_of}
use Rattle.sysmem_proof.proofs.checking.line_tests.is_failed_at.Goals as goal

pub returns : goal.returns
returns c = true_of (listed c.args.roll.now) (c.args.path.now ∷ []) (c.args.path.now ∷ []) c.args.field c.args.field (λ f ps. Any (FailsOn f c.args.platform.now c.args.settings.now) ps) c.fail_at.result
    refl refl c.requires c.fail_at.ensures
