-- Each names another node.
use Rattle.verdict_claims.proofs.Rolls.{few_named}
use Rattle.sysmem_proof.proofs.roll.few_paths.Goals as goal

pub returns : goal.returns
returns c = λ paths named. few_named c.args.tree.now.nodes c.recall_sound.ensures.tree c.one_path.ensures c.args.domain c.requires.domain (c.one_forest.ensures c.args.tree.now.nodes c.args.domain)
    c.args.prefix.now c.args.accepted.now c.requires.there paths named
