-- One more is refused the place, or isn't.
use Rattle.std.proofs.Common.{◌≡◌, length, take, refl, sym, ◌∙◌, true, subst, arith}
use Rattle.std.specs.Prelude.{Any}
use Rattle.sysmem_memory.specs.PlaceTable.{refuses_by}
use Rattle.verdict_claims.specs.Roll.{asked_by, listed}
use Rattle.verdict_claims.proofs.OnRoll.{none_more, some_more, asked_whole}
use Rattle.sysmem_proof.proofs.Yielded.{comes, all_came}
use Rattle.sysmem_proof.proofs.asked.refuse_place.Goals as goal

pub returns-then-is_refused : goal.returns-then-is_refused
returns-then-is_refused c =
    let here = comes c.args.paths.now (c.into_iter-path-iterator.ensures.into_iter_gives ∙ c.iter-path-items.ensures) c.loop-path.yielded _ c.loop-path.yielded_by _ _ c.in-Some.path c.in-Some.is c.next.ensures.steps in (
      λ is. some_more (listed c.args.roll.now) (λ p. refuses_by c.args.field p.memory p.usage c.args.heap.now c.args.domain ≡ true) c.args.paths.now (length c.loop-path.yielded) c.in-Some.path.now _
          c.is_refused.result here.inside here.is c.at.ensures c.if-is_refused.true c.is_refused.ensures,
      λ any. refl,
    )

pub loop-path-preserved : goal.loop-path-preserved
loop-path-preserved c =
    let here = comes c.args.paths.now (c.into_iter-path-iterator.ensures.into_iter_gives ∙ c.iter-path-items.ensures) c.loop-path.yielded _ c.loop-path.yielded_by _ _ c.in-Some.path c.in-Some.is c.next.ensures.steps in
    subst (λ k. ¬ (Any (λ p. refuses_by c.args.field p.memory p.usage c.args.heap.now c.args.domain ≡ true) (asked_by (listed c.args.roll.now) (take k c.args.paths.now)))) (sym here.one_more)
    (none_more (listed c.args.roll.now) (λ p. refuses_by c.args.field p.memory p.usage c.args.heap.now c.args.domain ≡ true) c.args.paths.now (length c.loop-path.yielded) c.in-Some.path.now _
    c.is_refused.result here.inside here.is c.at.ensures c.if-is_refused.false c.is_refused.ensures c.loop-path.invariant)

pub returns : goal.returns
returns c =
    let all = all_came c.args.paths.now (c.into_iter-path-iterator.ensures.into_iter_gives ∙ c.iter-path-items.ensures) c.loop-path.yielded _ c.loop-path.yielded_by _ _ c.in-None.is c.next.ensures.steps in (
      λ is. absurd (cc),
      λ any. absurd (c.loop-path.invariant (subst (Any (λ p. refuses_by c.args.field p.memory p.usage c.args.heap.now c.args.domain ≡ true))
          (sym (asked_whole (listed c.args.roll.now) c.args.paths.now (length c.loop-path.yielded) (omega (arith, all)))) any)),
    )
