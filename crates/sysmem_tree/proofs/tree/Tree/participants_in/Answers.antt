-- See layouts/Picking.antt.
use Rattle.std.proofs.Common.{◌++◌, length, sym, ◌∙◌, ap, subst, arith}
use Rattle.std.specs.Prelude.{All}
use Rattle.sysmem_tree.specs.Domain.{IsSoundTree}
use Rattle.sysmem_tree.specs.Nodes.{HasNode}
use Rattle.sysmem_tree.specs.Shape.{participants_of}
use Rattle.sysmem_tree.proofs.layouts.Picking.{few_participants, participants_there}
use Rattle.sysmem_tree.proofs.tree.Tree.participants_in.Goals as goal

pub add_settled-requires-clause-room : goal.add_settled-requires-clause-room
add_settled-requires-clause-room c =
    let sound = subst IsSoundTree c.self.view_is c.self.invariant.0 in
    let (r, chosen) = c.requires.domain in
    let few = few_participants c.args.self.now.nodes r c.args.choices.now sound.tree chosen.there in
    let none = ap length c.in_ok-nodes.ensures.items in
    (r, chosen, omega (arith, few, none, c.in_ok-nodes.ensures.exact))

pub returns-clause-nodes : goal.returns-clause-nodes
returns-clause-nodes c = λ r chosen.
    c.add_settled.ensures.nodes r chosen ∙ ap (λ xs. xs ++ participants_of c.args.self.now.nodes r c.args.choices.now) c.in_ok-nodes.ensures.items

pub returns-clause-there : goal.returns-clause-there
returns-clause-there c =
    let sound = subst IsSoundTree c.self.view_is c.self.invariant.0 in
    let (r, chosen) = c.requires.domain in
    let found = c.add_settled.ensures.nodes r chosen ∙ ap (λ xs. xs ++ participants_of c.args.self.now.nodes r c.args.choices.now) c.in_ok-nodes.ensures.items in
    subst (All (HasNode c.args.self.now.nodes)) (sym found) (participants_there c.args.self.now.nodes r c.args.choices.now sound.tree chosen.there)
