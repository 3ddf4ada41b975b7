-- One path more, and what is asked there.
use Rattle.std.proofs.Common.{◌≡◌, ℕ, Bor, Some, ◌∙◌, true, false, get_or, slice_set, length, take, refl, sym, ap, subst, arith}
use Rattle.std.specs.Prelude.{◌↔◌, Any, IsTrue, is_some, option_map}
use Rattle.std.proofs.lemmas.List.{length-set, length-take-le, take_all}
use Rattle.sysmem_counts.specs.Bounds.{IsTallyOf}
use Rattle.offer_fits.specs.Demands.{counts_asked}
use Rattle.negotiation_inputs.specs.Participant.{Participant}
use Rattle.sysmem_tree.specs.Path.{node_at}
use Rattle.verdict_claims.proofs.OnRoll.{asked_whole, counts_more, named_none, named_more, nobody_named, named_twice}
use Rattle.verdict_claims.proofs.Rolls.{some_mapped}
use Rattle.sysmem_proof.proofs.Seen.{none_seen, seen_before, not_seen, one_seen}
use Rattle.sysmem_proof.proofs.Yielded.{comes, all_came}
use Rattle.verdict_claims.specs.Fault.{AreNamed}
use Rattle.verdict_claims.specs.Roll.{asked_by, listed}
use Rattle.sysmem_proof.proofs.checking.names.counts_named.Goals as goal

pub loop-path-init : goal.loop-path-init
loop-path-init c = record {
  long = refl;
  named = named_none (listed c.args.roll.now);
  seen = none_seen c.args.roll.now.nodes 128;
  stands = c.new-counts.ensures.stands;
  few = omega (arith, c.new-counts.ensures.nothing);
}

pub returns-in_err-number-clause-none : goal.returns-in_err-number-clause-none
returns-in_err-number-clause-none c =
    let here = comes c.args.paths.now (c.into_iter-path-iterator.ensures.into_iter_gives ∙ c.iter-path-items.ensures) c.loop-path.yielded _ c.loop-path.yielded_by _ _ c.in-Some.path c.in-Some.is c.next.ensures.steps in
    rw c.from_residual.ensures (λ named. nobody_named (listed c.args.roll.now) c.args.paths.now (length c.loop-path.yielded) c.in-Some.path.now (is_some c.named_at.result) here.inside here.is
    (sym (some_mapped _ c.named_at.result) ∙ ap is_some c.named_at.ensures.asks) (ap is_some c.in_err-number.was) named)

pub returns-then-counted-number-clause-none : goal.returns-then-counted-number-clause-none
returns-then-counted-number-clause-none c =
    let here = comes c.args.paths.now (c.into_iter-path-iterator.ensures.into_iter_gives ∙ c.iter-path-items.ensures) c.loop-path.yielded _ c.loop-path.yielded_by _ _ c.in-Some.path c.in-Some.is c.next.ensures.steps in
    λ named. named_twice (listed c.args.roll.now) c.args.paths.now (length c.loop-path.yielded) c.in-Some.path.now true here.inside here.is refl
    (λ _. seen_before c.args.roll.now.nodes _ c.in-Some.path.now c.in_ok-number.number c.in_ok-number.ensures.at ((c.loop-path.invariant.seen c.in_ok-number.number).0 c.if-counted-number.true), λ _. refl)
    named

pub add_count-requires : goal.add_count-requires
add_count-requires c =
    let here = comes c.args.paths.now (c.into_iter-path-iterator.ensures.into_iter_gives ∙ c.iter-path-items.ensures) c.loop-path.yielded _ c.loop-path.yielded_by _ _ c.in-Some.path c.in-Some.is c.next.ensures.steps in
    let most = c.few_named.ensures (take (length c.loop-path.yielded) c.args.paths.now) c.loop-path.invariant.named in
    let long = length-take-le (length c.loop-path.yielded) c.args.paths.now (omega (arith, here.inside)) in
    omega (arith, most, long, here.inside, c.loop-path.invariant.few)

pub loop-path-preserved : goal.loop-path-preserved
loop-path-preserved c =
    let here = comes c.args.paths.now (c.into_iter-path-iterator.ensures.into_iter_gives ∙ c.iter-path-items.ensures) c.loop-path.yielded _ c.loop-path.yielded_by _ _ c.in-Some.path c.in-Some.is c.next.ensures.steps in
    record {
      long = length-set c.loop-path.counted c.in_ok-number.number true ∙ c.loop-path.invariant.long;
      named = subst (λ k. AreNamed (listed c.args.roll.now) (take k c.args.paths.now)) (sym here.one_more)
          (named_more (listed c.args.roll.now) c.args.paths.now (length c.loop-path.yielded) c.in-Some.path.now (is_some c.named_at.result) here.inside here.is c.loop-path.invariant.named
          (sym (some_mapped _ c.named_at.result) ∙ ap is_some c.named_at.ensures.asks) (ap is_some c.in_ok-number.was) false refl (
            λ is. absurd (cc),
            λ has. absurd (not_seen c.args.roll.now.nodes _ c.in-Some.path.now c.in_ok-number.number c.in_ok-number.ensures.at _ c.if-counted-number.false
                (c.loop-path.invariant.seen c.in_ok-number.number) has),
          ));
      seen = λ n. subst (λ k. IsTrue (get_or (slice_set c.loop-path.counted c.in_ok-number.number true) n false) ↔ Any (λ p. node_at c.args.roll.now.nodes p ≡ Some n) (take k c.args.paths.now)) (sym here.one_more)
          (one_seen c.args.roll.now.nodes c.args.paths.now (length c.loop-path.yielded) c.in-Some.path.now c.in_ok-number.number c.loop-path.counted here.inside here.is c.in_ok-number.ensures.at
          (omega (arith, c.loop-path.invariant.long, c.in_ok-number.ensures.few)) c.loop-path.invariant.seen n);
      stands = subst (IsTallyOf c.add_count.new.counts)
          (counts_more (listed c.args.roll.now) c.args.paths.now (length c.loop-path.yielded) c.in-Some.path.now (Some c.in_ok-number.asked.now) here.inside here.is
          (ap (option_map (λ (one : ℕ × Bor Participant). one.1.now)) (sym c.in_ok-number.was) ∙ c.named_at.ensures.asks)
          ∙ ap (λ k. counts_asked (asked_by (listed c.args.roll.now) (take k c.args.paths.now))) (sym here.one_more))
          (c.add_count.ensures.added _ c.loop-path.invariant.stands);
      few = omega (arith, c.add_count.ensures.grows, c.loop-path.invariant.few, here.one_more);
    }

pub returns-clause-named : goal.returns-clause-named
returns-clause-named c =
    let all = all_came c.args.paths.now (c.into_iter-path-iterator.ensures.into_iter_gives ∙ c.iter-path-items.ensures) c.loop-path.yielded _ c.loop-path.yielded_by _ _ c.in-None.is c.next.ensures.steps in
    subst (AreNamed (listed c.args.roll.now)) (take_all (length c.loop-path.yielded) c.args.paths.now (omega (arith, all))) c.loop-path.invariant.named

pub returns-clause-counts : goal.returns-clause-counts
returns-clause-counts c =
    let all = all_came c.args.paths.now (c.into_iter-path-iterator.ensures.into_iter_gives ∙ c.iter-path-items.ensures) c.loop-path.yielded _ c.loop-path.yielded_by _ _ c.in-None.is c.next.ensures.steps in
    subst (λ ps. IsTallyOf c.loop-path.counts (counts_asked ps)) (asked_whole (listed c.args.roll.now) c.args.paths.now (length c.loop-path.yielded) (omega (arith, all))) c.loop-path.invariant.stands
