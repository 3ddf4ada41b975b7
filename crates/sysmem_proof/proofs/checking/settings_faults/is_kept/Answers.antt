-- The settings given, and what is asked of them.
use Rattle.verdict_claims.proofs.Equal.{equal_where, differ_where}
use Rattle.sysmem_proof.proofs.checking.settings_faults.is_kept.Goals as goal

pub returns-then-ne : goal.returns-then-ne
returns-then-ne c = (
  λ is. absurd (cc),
  λ (same, covers, counted). absurd (differ_where c.args.settings.now c.args.given.now c.ne.result c.ne.ensures c.if-ne.true same),
)

pub returns-then-accept_nodes : goal.returns-then-accept_nodes
returns-then-accept_nodes c = (
  λ is. (equal_where c.args.settings.now c.args.given.now c.ne.result c.ne.ensures c.if-ne.false, c.accept_nodes.ensures.0 c.if-accept_nodes.true, (c.suits.ensures _ c.count_nodes.ensures).0 is),
  λ (same, covers, counted). (c.suits.ensures _ c.count_nodes.ensures).1 counted,
)
