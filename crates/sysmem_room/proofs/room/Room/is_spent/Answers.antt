-- The count of a child of the root is how many nodes are below it.
use Rattle.std.proofs.Common.{◌≡◌, ◌∙◌, ◌<◌, Some, ap, get_or, nat_le, rules, slice_get, subst, true}
use Rattle.std.specs.Prelude.{IfSome, is_some}
use Rattle.sysmem_alloc.specs.Book.{BookFacts}
use Rattle.sysmem_tree.specs.Nodes.{IsTree}
use Rattle.sysmem_tree.specs.Table.{makes}
use Rattle.node_limits.specs.Limits.{is_spent}
use Rattle.node_limits.proofs.CallerLemmas.{few_tops, spent_by_count}
use Rattle.sysmem_room.proofs.room.Room.is_spent.Goals as goal

pub below-requires : goal.below-requires
below-requires g c =
    let first : slice_get c.args.path.now 0 ≡ Some c.in-Some-Some.top.now = search rules in
    let tree : IsTree c.args.self.now.state.tree.nodes = search rules in
    subst (λ o. IfSome o (λ top. top < 128)) first (few_tops c.args.self.now.state.tree.nodes tree c.args.path.now c.requires)

pub returns-then-is_some : goal.returns-then-is_some
returns-then-is_some g c =
    let (_, _, _, _, _, _, _, counted) = c.self.invariant in
    let first : slice_get c.args.path.now 0 ≡ Some c.in-Some-Some.top.now = search rules in
    let tree : IsTree c.args.self.now.state.tree.nodes = search rules in
    let few : c.in-Some-Some.top.now < 128 = subst (λ o. IfSome o (λ top. top < 128)) first (few_tops c.args.self.now.state.tree.nodes tree c.args.path.now c.requires) in
    let limit : c.args.limits.offspring ≡ Some c.in-Some-Some.most = search rules in
    let made : is_some (makes c.args.kind) ≡ true = search rules in
    ap (nat_le c.in-Some-Some.most) c.below.ensures
    ∙ subst (λ (b : BookFacts). nat_le c.in-Some-Some.most (get_or c.self.inside.offspring.counts c.in-Some-Some.top.now 0) ≡ is_spent c.args.limits b.state.tree.nodes c.args.path.now c.args.kind) c.self.view_is
    (spent_by_count c.args.limits c.self.inside.book.state.tree.nodes c.self.inside.offspring.counts c.args.path.now c.args.kind c.in-Some-Some.most c.in-Some-Some.top.now counted few first limit made)
