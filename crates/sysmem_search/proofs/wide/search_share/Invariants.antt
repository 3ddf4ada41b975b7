-- The choices of the share that were gone through can't be met.
use Rattle.std.proofs.Common.{◌≡◌, ◌<◌, ◌≤◌, ℕ, []}
use Rattle.sysmem_search.specs.Wide.{IsUnmetAt}
use Rattle.sysmem_search.proofs.wide.search_share.Given as goal

abbrev pub invariant-loop-choice : goal.invariant-loop-choice
invariant-loop-choice g l = record {
  same : l.question ≡ record { matter = l.fn.subject; choices = [] };
  unmet : (c : ℕ) → l.from ≤ c → c < l.choice → IsUnmetAt l.fn.subject c;
}
