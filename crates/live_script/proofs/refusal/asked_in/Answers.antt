-- One number after the other.
use Rattle.std.proofs.Common.{◌≡◌, ◌∙◌, ◌++◌, ◌∷◌, [], ap, arith, get_or, length, sym}
use Rattle.std.proofs.lemmas.List.{take_all}
use Rattle.live_script.proofs.Refusing.{known_few, known_more}
use Rattle.verdict_claims.specs.Asked.{asked_in, asks_at}
use Rattle.live_script.proofs.refusal.asked_in.Goals as goal

pub loop-number-preserved : goal.loop-number-preserved
loop-number-preserved c =
    let nodes = c.args.tree.now.nodes in
    let numbers = c.args.numbers.now in
    let k = c.loop-number.number-index in
    c.in_ok-add_asked.ensures
    ∙ (ap (λ ps. ps ++ asked_in nodes (get_or numbers k 0 ∷ [])) c.loop-number.invariant ∙ sym (known_more (asks_at nodes) numbers k 0 c.loop-number-test.true))

pub returns : goal.returns
returns c =
    let nodes = c.args.tree.now.nodes in
    let numbers = c.args.numbers.now in
    let same : c.loop-number.asked.items ≡ asked_in nodes numbers = c.loop-number.invariant ∙ ap (asked_in nodes) (take_all c.loop-number.number-index numbers c.loop-number-test.false) in
    record { asked = same; few = omega (arith, ap length same, known_few (asks_at nodes) numbers) }
