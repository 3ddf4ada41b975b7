-- Of a root alone nothing is counted.
use Rattle.live_book.proofs.Quotas.{first_quota}
use Rattle.live_book.proofs.quota.quota_for.Goals as goal

pub returns-in-Some-clause-right : goal.returns-in-Some-clause-right
returns-in-Some-clause-right c = first_quota c.new.result c.new.ensures.offspring c.new.ensures.tops
