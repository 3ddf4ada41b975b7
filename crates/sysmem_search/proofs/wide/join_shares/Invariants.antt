-- The shares that were joined.
use Rattle.std.proofs.Common.{ℕ, length}
use Rattle.verdict_claims.specs.Matter.{Matter}
use Rattle.sysmem_search.specs.Wide.{AreFirstIn, IsFirstIn}
use Rattle.sysmem_search.proofs.wide.join_shares.Given as goal

abbrev pub invariant-loop-share : goal.invariant-loop-share
invariant-loop-share l = (m : Matter) (start : ℕ → ℕ) → AreFirstIn m start l.yielded → IsFirstIn m (start 0) (start (length l.yielded)) l.all.chosen
