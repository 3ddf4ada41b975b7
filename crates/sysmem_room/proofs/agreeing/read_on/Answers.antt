use Rattle.std.proofs.Common.{refl, sym, ◌∙◌, ◌≡◌, [], ◌∷◌, rules, tests}
use Rattle.std.specs.Prelude.{Some, slice_get}
use Rattle.std.proofs.lemmas.Option.{slice_get_read}
use Rattle.sysmem_alloc.specs.Entry.{entry_in, deed_with}
use Rattle.verdict_claims.specs.Asked.{asks_at}
use Rattle.sysmem_tree.specs.ActionKind.{deed_of}
use Rattle.sysmem_room.specs.Agreeing.{own_deeds}
use Rattle.sysmem_room.proofs.Reading.{own_acted, reads, unread_other}
use Rattle.sysmem_room.proofs.agreeing.read_on.Goals as goal

pub returns-then-is_same_action-clause-read : goal.returns-then-is_same_action-clause-read
returns-then-is_same_action-clause-read c =
    let same : deed_with (asks_at c.args.tree.now.nodes c.args.node) c.in-Acted.kind ≡ deed_of c.in_ok-action.action.now = search rules in
    let here : slice_get c.args.actions.now c.args.at ≡ Some c.in_ok-action.action.now = let found = c.in_ok-action.ensures.lookup in slice_get_read c.args.actions.now _ c.args.at c.in_ok-action.action.now refl found.3.0 found.1 in
    let acted : c.in-Acted.acted ≡ c.args.node = search (rules, tests) in
    let own : own_deeds c.args.node (entry_in c.args.tree.now.nodes c.args.entry.now) ≡ deed_of c.in_ok-action.action.now ∷ [] = own_acted c.args.tree.now.nodes c.args.node c.in-Acted.acted c.in-Acted.kind c.args.entry.now (deed_of c.in_ok-action.action.now) c.in-Acted.is acted same in
    reads c.args.node (entry_in c.args.tree.now.nodes c.args.entry.now) c.args.actions.now c.args.at c.in_ok-action.action.now here own

pub returns-else-is_same_action-clause-unread : goal.returns-else-is_same_action-clause-unread
returns-else-is_same_action-clause-unread c = λ _.
    let asked = deed_with (asks_at c.args.tree.now.nodes c.args.node) c.in-Acted.kind in
    let here : slice_get c.args.actions.now c.args.at ≡ Some c.in_ok-action.action.now = let found = c.in_ok-action.ensures.lookup in slice_get_read c.args.actions.now _ c.args.at c.in_ok-action.action.now refl found.3.0 found.1 in
    let acted : c.in-Acted.acted ≡ c.args.node = search (rules, tests) in
    let own : own_deeds c.args.node (entry_in c.args.tree.now.nodes c.args.entry.now) ≡ asked ∷ [] = own_acted c.args.tree.now.nodes c.args.node c.in-Acted.acted c.in-Acted.kind c.args.entry.now asked c.in-Acted.is acted refl in
    unread_other c.args.node (entry_in c.args.tree.now.nodes c.args.entry.now) c.args.actions.now c.args.at c.in_ok-action.action.now asked own here
    (λ same. absurd (cc (sym (c.is_same_action.ensures.1 same) ∙ c.if-is_same_action.false)))
