use Rattle.std.proofs.Common.{◌≡◌, ◌≤◌, take}
use Rattle.std.specs.Vec.{vec_capacity}
use Rattle.sysmem_tree.proofs.copying.copied_domains.Given as goal

-- the domains so far are copied, and there is room for the others
abbrev pub invariant-loop-domain : goal.invariant-loop-domain
invariant-loop-domain l = (l.copy.items ≡ take l.domain-index l.fn.domains) × (128 ≤ vec_capacity l.copy)
