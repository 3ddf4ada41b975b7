-- What is tested of those named.
use Rattle.std.proofs.Common.{refl}
use Rattle.sysmem_counts.specs.Counts.{IsFixedCountLine}
use Rattle.offer_fits.specs.Demands.{counts_asked}
use Rattle.verdict_claims.specs.Roll.{listed}
use Rattle.verdict_claims.proofs.OnRoll.{true_of}
use Rattle.sysmem_proof.proofs.checking.line_tests.is_fixed_count_line.Goals as goal

pub returns : goal.returns
returns c = true_of (listed c.args.roll.now) c.args.line.now.nodes c.args.line.now.nodes c.field.result c.args.line.now.field (λ f ps. IsFixedCountLine c.args.count f (counts_asked ps)) c.is_fixed_line.result
    refl c.field.ensures c.requires.named (c.is_fixed_line.ensures _ c.requires.counts)
