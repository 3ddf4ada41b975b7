-- One more is silent, and at the end all are.
use Rattle.std.proofs.Common.{◌≡◌, ◌<◌, Bool, true, length, refl, sym, ◌∙◌, ap, subst, arith}
use Rattle.std.specs.List.{filter_map, list_any}
use Rattle.negotiation_inputs.specs.Participant.{Participant}
use Rattle.verdict_claims.specs.Members.{participants}
use Rattle.verdict_claims.specs.Roll.{asked_on, listed}
use Rattle.verdict_claims.proofs.Marked.{below, any_number, unnamed_too}
use Rattle.verdict_claims.proofs.SameColours.{SilentAt, silent_one, still_silent}
use Rattle.sysmem_proof.proofs.checking.offer_lines.is_unnamed.Goals as goal

pub returns-then-not-is_silent-2 : goal.returns-then-not-is_silent-2
returns-then-not-is_silent-2 c =
    let ps = filter_map (asked_on c.args.roll.now) (below (length c.args.roll.now.nodes)) in
    let qs = participants (listed c.args.roll.now) in
    let same : (p : Participant → Bool) → list_any p ps ≡ list_any p qs = λ p. any_number c.args.roll.now p ∙ ap (list_any p) (sym c.by_numbers.ensures) in
    let less : c.loop-number.number < length c.args.roll.now.nodes = omega (arith, c.node_count-number-end.ensures, c.loop-number-test.true) in (
      λ is. absurd (cc),
      λ line. (let here = silent_one c.args.roll.now c.args.field c.args.offer.now (length c.args.roll.now.nodes) c.loop-number.number less
          (unnamed_too qs ps (λ p. sym (same p)) c.args.field c.args.offer.now line) in
          let yes' : c.is_silent-in-loop-number.result ≡ true = c.is_silent-in-loop-number.ensures.1 (subst (SilentAt c.args.roll.now c.args.field c.args.offer.now) (sym c.at_number.ensures) here) in
          let no' = c.if-not-is_silent-2.true in absurd (cc)),
    )

pub loop-number-preserved : goal.loop-number-preserved
loop-number-preserved c = still_silent c.args.roll.now c.args.field c.args.offer.now c.loop-number.number _ c.at_number.ensures c.loop-number.invariant
    (c.is_silent-in-loop-number.ensures.0 c.if-not-is_silent-2.false)

pub returns : goal.returns
returns c =
    let many : c.loop-number.number ≡ length c.args.roll.now.nodes = omega (arith, c.node_count-number-end.ensures, c.loop-number-test.false, c.loop-number.auto.number-end) in
    let ps = filter_map (asked_on c.args.roll.now) (below c.loop-number.number) in
    let qs = participants (listed c.args.roll.now) in
    let same : (p : Participant → Bool) → list_any p ps ≡ list_any p qs = λ p. ap (λ k. list_any p (filter_map (asked_on c.args.roll.now) (below k))) many ∙ (any_number c.args.roll.now p ∙ ap (list_any p) (sym c.by_numbers.ensures)) in
    (λ is. unnamed_too ps qs same c.args.field c.args.offer.now c.loop-number.invariant, λ line. refl)
