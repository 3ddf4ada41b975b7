-- One domain after the other.
use Rattle.std.proofs.Common.{◌<◌, ◌+◌, ◌++◌, ℕ, List, Some, None, length, drop, sym, ◌∙◌, ap, arith, length-append}
use Rattle.sysmem_alloc.specs.Marks.{ready_unmarked}
use Rattle.sysmem_alloc.specs.Sound.{roots_of}
use Rattle.sysmem_alloc.proofs.Marked.{many_roots, unmarked_next, goes_over}
use Rattle.sysmem_alloc.proofs.ready.add_ready.Goals as goal

pub loop-index-preserved-in_default : goal.loop-index-preserved-in_default
loop-index-preserved-in_default c =
    let less : c.loop-index.index < length (roots_of c.args.tree.now) = omega (arith, c.loop-index-test.true, c.domain_count-index-end.ensures.number, many_roots c.args.tree.now) in
    let next = unmarked_next c.args.tree.now c.args.marks.now c.loop-index.index None less (sym c.newly_ready_at.ensures ∙ c.in_default.is) in
    record { all = ap (λ ys. c.loop-index.waiting.items ++ ys) (sym next) ∙ c.loop-index.invariant.all; reserved = c.loop-index.invariant.reserved }

pub push_reserved-requires : goal.push_reserved-requires
push_reserved-requires c =
    let less : c.loop-index.index < length (roots_of c.args.tree.now) = omega (arith, c.loop-index-test.true, c.domain_count-index-end.ensures.number, many_roots c.args.tree.now) in
    let next = unmarked_next c.args.tree.now c.args.marks.now c.loop-index.index (Some c.in-Some.domain) less (sym c.newly_ready_at.ensures ∙ c.in-Some.is) in
    let all = ap length c.loop-index.invariant.all in
    let left = ap length next in
    omega (
      arith,
      all,
      left,
      c.requires,
      c.loop-index.invariant.reserved,
      c.loop-index.waiting.ok,
      length-append c.loop-index.waiting.items (ready_unmarked c.args.tree.now c.args.marks.now c.loop-index.index (drop c.loop-index.index (roots_of c.args.tree.now))),
      length-append c.args.waiting.now.items (ready_unmarked c.args.tree.now c.args.marks.now 0 (roots_of c.args.tree.now)),
    )

pub loop-index-preserved : goal.loop-index-preserved
loop-index-preserved c =
    let less : c.loop-index.index < length (roots_of c.args.tree.now) = omega (arith, c.loop-index-test.true, c.domain_count-index-end.ensures.number, many_roots c.args.tree.now) in
    let next = unmarked_next c.args.tree.now c.args.marks.now c.loop-index.index (Some c.in-Some.domain) less (sym c.newly_ready_at.ensures ∙ c.in-Some.is) in
    let left : List ℕ = ready_unmarked c.args.tree.now c.args.marks.now (c.loop-index.index + 1) (drop (c.loop-index.index + 1) (roots_of c.args.tree.now)) in
    record {
      all = ap (λ xs. xs ++ left) c.push_reserved.ensures.items ∙ (goes_over c.loop-index.waiting.items left c.in-Some.domain ∙ (ap (λ ys. c.loop-index.waiting.items ++ ys) (sym next) ∙ c.loop-index.invariant.all));
      reserved = c.push_reserved.ensures.capacity ∙ c.loop-index.invariant.reserved;
    }
