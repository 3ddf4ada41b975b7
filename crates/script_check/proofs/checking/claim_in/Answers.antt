use Rattle.std.proofs.Common.{rules, ◌≡◌, refl, ◌∙◌}
use Rattle.serde_json.specs.View.{view}
use Rattle.sysmem_alloc.specs.State.{base_of}
use Rattle.verdict_claims.specs.Claim.{IsTrueClaim}
use Rattle.sysmem_tree.specs.Path.{path_of}
use Rattle.script_check.proofs.Checks.{claim_fails, said_as}
use Rattle.script_replay.proofs.CallerLemmas.{claim_as}
use Rattle.script_check.proofs.checking.claim_in.Goals as goal

pub returns-in-Ok-check-clause-takes : goal.returns-in-Ok-check-clause-takes
returns-in-Ok-check-clause-takes c =
    let same : c.in-Ok.read.0 ≡ c.args.path.now = c.is_same.ensures.0 (search rules) in
    record {
      says = said_as c.args.book.now.platform c.platform-platform.result.now (view c.args.object.now) c.in-Ok.read (path_of c.args.book.now.state.tree.nodes c.args.domain) c.platform-platform.ensures.platform c.in-Ok.ensures (same ∙ c.requires.path);
      true_of = claim_as IsTrueClaim c.platform-platform.result.now c.args.book.now.platform c.tree.result.now c.args.book.now.state.tree c.args.domain _ (base_of c.args.book.now.state c.args.domain)
          c.in-Ok.read.1 c.in-Ok.read.1 c.platform-platform.ensures.platform c.tree.ensures (c.as_ref.ensures.value ∙ c.in_ok-base.ensures.base) refl c.in-Ok-check.ensures.optimal;
    }

pub returns-clause-fails : goal.returns-clause-fails
returns-clause-fails c =
    let same : c.in-Ok.read.0 ≡ c.args.path.now = c.is_same.ensures.0 (search rules) in
    claim_fails c.args.book.now.platform c.platform-platform.result.now c.args.book.now.state c.tree.result.now c.args.domain (view c.args.object.now) c.in-Ok.read _ c.in-Err.no
    c.platform-platform.ensures.platform c.tree.ensures (c.as_ref.ensures.value ∙ c.in_ok-base.ensures.base) c.in-Ok.ensures (same ∙ c.requires.path) c.in-Err.ensures.cases
