use Rattle.std.proofs.lemmas.Option.{slice_get_within}
use Rattle.sysmem_tree.specs.ActionKind.{deed_of}
use Rattle.sysmem_tree.proofs.steps.Entering.{domain_room, entered, let_in}
use Rattle.sysmem_tree.proofs.tree.Tree.enter.Goals as goal

pub note-requires-clause-room : goal.note-requires-clause-room
note-requires-clause-room c = domain_room _ _ c.args.number (deed_of c.args.action) _ c.self.invariant.0 c.self.view_is c.requires c.kind.ensures

pub act-requires-clause-there : goal.act-requires-clause-there
act-requires-clause-there c = let (after, _, (n, ok)) = let_in _ _ c.args.number (deed_of c.args.action) c.self.view_is c.requires in slice_get_within _ _ _ ok.there

pub act-requires-clause-room : goal.act-requires-clause-room
act-requires-clause-room c = let (after, _, (n, ok)) = let_in _ _ c.args.number (deed_of c.args.action) c.self.view_is c.requires in ok.room

pub invariant_of-self : goal.invariant_of-self
invariant_of-self c =
    let (_, sound) = entered _ _ c.args.number _ (deed_of c.args.action) _ _ _ _ c.self.invariant.0 c.self.view_is c.requires c.deref.ensures.value c.kind.ensures c.note.ensures.domains
    c.act.ensures.nodes c.act.ensures.node in
    (sound, c.act.ensures.reserved, c.note.ensures.reserved)

pub returns : goal.returns
returns c =
    let (is, _) = entered _ _ c.args.number _ (deed_of c.args.action) _ _ _ _ c.self.invariant.0 c.self.view_is c.requires c.deref.ensures.value c.kind.ensures c.note.ensures.domains
    c.act.ensures.nodes c.act.ensures.node in
    is
