-- What `==` calls equal is equal.
use Rattle.std.proofs.Common.{sym, ◌∙◌}
use Rattle.verdict_claims.proofs.CallerLemmas.{same_settings}
use Rattle.sysmem_alloc.proofs.terms.are_same_settings.Goals as goal

pub returns : goal.returns
returns c =
    let told = same_settings c.args.settings.now c.args.other.now in
    (λ t. told.0 (sym c.eq.ensures ∙ t), λ e. c.eq.ensures ∙ told.1 e)
