-- `Strange` is answered of what ends a node only where the hold answered it.
use Rattle.std.proofs.Common.{◌≡◌, ◌≢◌, ◌∙◌, ℕ, rules, sym}
use Rattle.std.specs.Prelude.{option_map}
use Rattle.sysmem_tree.specs.declared.refusal.Refusal.TheVariants.{Strange}
use Rattle.sysmem_tree.specs.ActionKind.{deed_of, kind_of}
use Rattle.sysmem_room.specs.Agreeing.{IsOwn}
use Rattle.sysmem_room.specs.Log.{shown_by}
use Rattle.sysmem_room.specs.Refusals.{IsAnswer, IsDisputed, due}
use Rattle.sysmem_participants.proofs.Ended.{for_its_state, undisputed, was_strange}
use Rattle.sysmem_participants.proofs.ending.end.Goals as goal

pub returns-in-Err-clause-strange : goal.returns-in-Err-clause-strange
returns-in-Err-clause-strange g c = λ strange node own.
    let known = option_map (λ o. o.now) c.args.known in
    let kind = kind_of (deed_of c.args.action) in
    let state = (shown_by c.args.log.now).state in
    let told : c.in-Err.refusal ≢ Strange → IsAnswer (due known c.args.log.now.path state kind) known kind c.in-Err.refusal = search rules in
    let held : c.in-Err.refusal ≡ Strange → (node : ℕ) → IsOwn c.enter-entered.result.1.found c.args.log.now known node
    → IsDisputed c.enter-entered.result.1.found c.args.log.now.path state known kind node = search rules in
    let same = was_strange c.in-Err.refusal c.at_end.result (λ not_strange. for_its_state known c.args.log.now.path state kind c.in-Err.refusal c.requires.ends (told not_strange))
    c.at_end.ensures.same strange in
    undisputed c.enter-entered.result.1.found c.args.log.now.path state known kind node c.requires.ends (held same node own)

pub returns-in-Err-clause-own : goal.returns-in-Err-clause-own
returns-in-Err-clause-own g c = λ not_strange.
    let known = option_map (λ o. o.now) c.args.known in
    let held : c.in-Err.refusal ≢ Strange → (node : ℕ) × IsOwn c.enter-entered.result.1.found c.args.log.now known node = search rules in
    let (_, wrong) = c.at_end.ensures.told not_strange in
    held (λ strange. absurd (cc (sym wrong ∙ strange)))
