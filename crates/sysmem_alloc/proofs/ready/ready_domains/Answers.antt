-- A single domain is the one with index 0.
use Rattle.std.proofs.Common.{false, refl, replicate, slice_set, arith}
use Rattle.sysmem_alloc.specs.Marks.{ready_at}
use Rattle.book_events.proofs.CallerLemmas.{set_none, none_of, set_more, set_all}
use Rattle.sysmem_alloc.proofs.Marked.{ready_past}
use Rattle.sysmem_alloc.proofs.ready.ready_domains.Goals as goal

pub returns : goal.returns
returns c = set_all (ready_at c.args.tree.now) (slice_set (replicate 128 false) 0 c.is_ready_at.result) 1 (λ k more. ready_past c.args.tree.now 1 k (omega (arith, c.domain_count.ensures.number)) more)
    (set_more (ready_at c.args.tree.now) (replicate 128 false) 0 c.is_ready_at.result (omega arith) c.is_ready_at.ensures (set_none (ready_at c.args.tree.now) (replicate 128 false) refl none_of))
