-- The entry at the place is the action.
use Rattle.std.proofs.Common.{refl, ◌≡◌, subst, rules, tests}
use Rattle.std.specs.Prelude.{Some, slice_get, ◌-◌}
use Rattle.std.proofs.lemmas.Option.{slice_get_read}
use Rattle.sysmem_alloc.specs.Entry.{deed_with}
use Rattle.verdict_claims.specs.Asked.{asks_at}
use Rattle.sysmem_tree.specs.ActionKind.{deed_of}
use Rattle.sysmem_tree.specs.Domain.{TreeFacts}
use Rattle.sysmem_room.proofs.Placing.{stepped}
use Rattle.sysmem_room.proofs.agreeing.step_back.Goals as goal

pub returns-then-is_same_action : goal.returns-then-is_same_action
returns-then-is_same_action c =
    let same : deed_with (asks_at c.tree-tree.result.now.nodes c.args.node) c.in-Acted.kind ≡ deed_of c.args.action.now = search rules in
    let own = subst (λ (t : TreeFacts). deed_with (asks_at t.nodes c.args.node) c.in-Acted.kind ≡ deed_of c.args.action.now) c.tree-tree.ensures same in
    let here : slice_get c.history.result.now (c.args.place - 1) ≡ Some c.in_ok-entry.entry.now =
    let found = c.in_ok-entry.ensures.lookup in slice_get_read c.history.result.now _ (c.args.place - 1) c.in_ok-entry.entry.now refl found.3.0 found.1 in
    let acted : c.in-Acted.acted ≡ c.args.node = search (rules, tests) in
    stepped c.args.book.now.state.tree.nodes c.history.result.now c.args.book.now.history c.args.places.now c.args.node c.in-Acted.acted c.args.place c.in-Acted.kind c.in_ok-entry.entry.now (deed_of c.args.action.now) c.earlier.result
    c.history.ensures.entries c.requires.places c.requires.some here c.in-Acted.is acted own c.earlier.ensures
