-- What `==` calls equal is equal.
use Rattle.std.proofs.lemmas.Bool.Decides.{Decides-at}
use Rattle.sysmem_sanitise.proofs.CallerLemmas.{same_pair}
use Rattle.verdict_claims.proofs.pair_lines.is_same_pair.Goals as goal

pub returns : goal.returns
returns c = (Decides-at c.eq.result _ c.eq.ensures (same_pair c.args.one.now c.args.other.now)).0
