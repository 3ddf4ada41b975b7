-- One line more.
use Rattle.std.proofs.Common.{◌≡◌, true, refl, arith}
use Rattle.verdict_claims.specs.Fault.{AreNamed}
use Rattle.verdict_claims.specs.Roll.{listed}
use Rattle.sysmem_proof.proofs.Numbering.{all_more, one_lacks, all_whole}
use Rattle.sysmem_proof.proofs.checking.fixed_faults.all_named.Goals as goal

pub returns-then-not-names_behind : goal.returns-then-not-names_behind
returns-then-not-names_behind c = (
  λ is. absurd (cc),
  λ all. absurd (one_lacks (λ line. AreNamed (listed c.args.roll.now) line.nodes) c.args.lines.now c.loop-index.index c.index-lines-index.result c.loop-index-test.true c.index-lines-index.is
      (λ named. (let yes' : c.names_behind.result ≡ true = c.names_behind.ensures.1 named in let no' = c.if-not-names_behind.true in absurd (cc))) all),
)

pub loop-index-preserved : goal.loop-index-preserved
loop-index-preserved c = all_more (λ line. AreNamed (listed c.args.roll.now) line.nodes) c.args.lines.now c.loop-index.index c.index-lines-index.result c.loop-index-test.true c.index-lines-index.is
    c.loop-index.invariant (c.names_behind.ensures.0 c.if-not-names_behind.false)

pub returns : goal.returns
returns c = (λ is. all_whole (λ line. AreNamed (listed c.args.roll.now) line.nodes) c.args.lines.now c.loop-index.index (omega (arith, c.loop-index-test.false)) c.loop-index.invariant, λ all. refl)
