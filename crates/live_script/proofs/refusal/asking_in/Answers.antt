-- One node after the other.
use Rattle.std.proofs.Common.{◌≡◌, ◌≤◌, ◌∙◌, ◌++◌, ◌∷◌, [], ap, arith, false, length, slice_get, sym}
use Rattle.std.specs.Prelude.{if◌then◌else◌}
use Rattle.std.specs.Option.{option_map_or}
use Rattle.std.proofs.lemmas.List.{take_all}
use Rattle.live_script.specs.Refusing.{asking_in, asks_in}
use Rattle.live_script.proofs.Refusing.{asking_few, asking_more}
use Rattle.live_script.proofs.refusal.asking_in.Goals as goal

pub loop-number-preserved : goal.loop-number-preserved
loop-number-preserved c =
    let nodes = c.args.tree.now.nodes in
    let r = c.args.domain in
    let k = c.loop-number.number in
    record {
      numbers = c.in_ok-add_asking.ensures
          ∙ (ap (λ ks. ks ++ (if option_map_or (asks_in r) (slice_get nodes k) false then k ∷ [] else [])) c.loop-number.invariant.numbers ∙ sym (asking_more nodes r k));
      within = omega (arith, c.loop-number-test.true, c.node_count-number-end.ensures.number);
    }

pub returns : goal.returns
returns c =
    let nodes = c.args.tree.now.nodes in
    let r = c.args.domain in
    let all : length nodes ≤ c.loop-number.number = omega (arith, c.loop-number-test.false, c.node_count-number-end.ensures.number) in
    let same : c.loop-number.numbers.items ≡ asking_in nodes r = c.loop-number.invariant.numbers ∙ ap (λ ns. asking_in ns r) (take_all c.loop-number.number nodes all) in
    record {
      numbers = same;
      few = omega (arith, ap length same, asking_few nodes r, c.node_count-number-end.ensures.few);
    }
