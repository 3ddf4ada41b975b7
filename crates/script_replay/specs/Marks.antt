-- Domains by their places among the roots: which have failed, and which of them weren't marked.
use Rattle.std.specs.Prelude.{◌≡◌, ℕ, Bool, false, ◌&&◌, not, List, Option, Some, None}
use Rattle.std.specs.Prelude.{option_and_then, get_or, is_none, slice_get, if◌then◌else◌}
use Rattle.sysmem_alloc.specs.Sound.{roots_of}
use Rattle.sysmem_alloc.specs.State.{State, verdict_of}
use Rattle.sysmem_tree.specs.Domain.{TreeFacts, has_failed}
pub use Rattle.sysmem_tree.specs.Sweep.{failed_at}

-- the marks of the domains say which of them had failed in an earlier tree
abbrev pub AreMarksOf : TreeFacts → TreeFacts → List Bool → Type 0
AreMarksOf old t marks = (k r : ℕ) → slice_get (roots_of t) k ≡ Some r
    → get_or marks k false ≡ has_failed old r

-- the k-th domain, if it has failed and its mark isn't set
abbrev pub failed_unmarked_at : TreeFacts → List Bool → ℕ → Option ℕ
failed_unmarked_at t marks k = option_and_then
    (λ r. if has_failed t r && not (get_or marks k false) then Some r else None)
    (slice_get (roots_of t) k)

-- the k-th domain, if it has no verdict
abbrev pub pending_at : State → ℕ → Option ℕ
pending_at s k = option_and_then (λ r. if is_none (verdict_of s r) then Some r else None)
    (slice_get (roots_of s.tree) k)
