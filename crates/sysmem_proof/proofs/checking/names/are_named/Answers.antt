-- One path more.
use Rattle.std.proofs.Common.{◌≡◌, Some, ◌∙◌, true, false, get_or, slice_set, length, take, refl, sym, ap, subst, arith}
use Rattle.std.specs.Prelude.{◌↔◌, Any, IsTrue, is_some}
use Rattle.std.proofs.lemmas.List.{length-set, take_all}
use Rattle.sysmem_tree.specs.Path.{node_at}
use Rattle.verdict_claims.proofs.OnRoll.{named_none, named_more, nobody_named, named_twice}
use Rattle.sysmem_proof.proofs.Seen.{none_seen, seen_before, not_seen, one_seen}
use Rattle.sysmem_proof.proofs.Yielded.{comes, all_came}
use Rattle.verdict_claims.specs.Fault.{AreNamed}
use Rattle.verdict_claims.specs.Roll.{listed}
use Rattle.sysmem_proof.proofs.checking.names.are_named.Goals as goal

pub loop-path-init : goal.loop-path-init
loop-path-init c = record { long = refl; named = named_none (listed c.args.roll.now); seen = none_seen c.args.roll.now.nodes 128 }

pub returns-in_default : goal.returns-in_default
returns-in_default c =
    let here = comes c.args.paths.now (c.into_iter-path-iterator.ensures.into_iter_gives ∙ c.iter-path-items.ensures) c.loop-path.yielded _ c.loop-path.yielded_by _ _ c.in-Some.path c.in-Some.is c.next.ensures.steps in (
      λ is. absurd (cc),
      λ named. absurd (nobody_named (listed c.args.roll.now) c.args.paths.now (length c.loop-path.yielded) c.in-Some.path.now (is_some c.number_of.result) here.inside here.is c.number_of.ensures.named
          (ap is_some c.in_default.is) named),
    )

pub returns-then-seen-number : goal.returns-then-seen-number
returns-then-seen-number c =
    let here = comes c.args.paths.now (c.into_iter-path-iterator.ensures.into_iter_gives ∙ c.iter-path-items.ensures) c.loop-path.yielded _ c.loop-path.yielded_by _ _ c.in-Some.path c.in-Some.is c.next.ensures.steps in (
      λ is. absurd (cc),
      λ named. absurd (named_twice (listed c.args.roll.now) c.args.paths.now (length c.loop-path.yielded) c.in-Some.path.now true here.inside here.is refl
          (λ _. seen_before c.args.roll.now.nodes _ c.in-Some.path.now c.in-Some-number_of.number c.in-Some-number_of.ensures.at ((c.loop-path.invariant.seen c.in-Some-number_of.number).0 c.if-seen-number.true), λ _. refl)
          named),
    )

pub loop-path-preserved : goal.loop-path-preserved
loop-path-preserved c =
    let here = comes c.args.paths.now (c.into_iter-path-iterator.ensures.into_iter_gives ∙ c.iter-path-items.ensures) c.loop-path.yielded _ c.loop-path.yielded_by _ _ c.in-Some.path c.in-Some.is c.next.ensures.steps in
    record {
      long = length-set c.loop-path.seen c.in-Some-number_of.number true ∙ c.loop-path.invariant.long;
      named = subst (λ k. AreNamed (listed c.args.roll.now) (take k c.args.paths.now)) (sym here.one_more)
          (named_more (listed c.args.roll.now) c.args.paths.now (length c.loop-path.yielded) c.in-Some.path.now (is_some c.number_of.result) here.inside here.is c.loop-path.invariant.named
          c.number_of.ensures.named (ap is_some c.in-Some-number_of.is) false refl (
            λ is. absurd (cc),
            λ has. absurd (not_seen c.args.roll.now.nodes _ c.in-Some.path.now c.in-Some-number_of.number c.in-Some-number_of.ensures.at _ c.if-seen-number.false
                (c.loop-path.invariant.seen c.in-Some-number_of.number) has),
          ));
      seen = λ n. subst (λ k. IsTrue (get_or (slice_set c.loop-path.seen c.in-Some-number_of.number true) n false) ↔ Any (λ p. node_at c.args.roll.now.nodes p ≡ Some n) (take k c.args.paths.now)) (sym here.one_more)
          (one_seen c.args.roll.now.nodes c.args.paths.now (length c.loop-path.yielded) c.in-Some.path.now c.in-Some-number_of.number c.loop-path.seen here.inside here.is c.in-Some-number_of.ensures.at
          (omega (arith, c.loop-path.invariant.long, c.in-Some-number_of.ensures.few)) c.loop-path.invariant.seen n);
    }

pub returns : goal.returns
returns c =
    let all = all_came c.args.paths.now (c.into_iter-path-iterator.ensures.into_iter_gives ∙ c.iter-path-items.ensures) c.loop-path.yielded _ c.loop-path.yielded_by _ _ c.in-None.is c.next.ensures.steps in (
      λ is. subst (AreNamed (listed c.args.roll.now)) (take_all (length c.loop-path.yielded) c.args.paths.now (omega (arith, all))) c.loop-path.invariant.named,
      λ named. refl,
    )
