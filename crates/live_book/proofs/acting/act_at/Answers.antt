-- What is counted is true of the nodes with the one that was made.
use Rattle.std.proofs.Common.{◌≡◌, ◌∙◌, ap, subst, sym}
use Rattle.std.specs.Prelude.{IfSome, option_map}
use Rattle.sysmem_tree.specs.ActionKind.{deed_of, kind_of}
use Rattle.sysmem_tree.specs.Domain.{TreeFacts}
use Rattle.sysmem_tree.specs.Nodes.{IsTree}
use Rattle.std.specs.Prelude.{slice_get}
use Rattle.live_book.specs.Quota.{HasPlace, limits_of, noted}
use Rattle.live_book.proofs.Quotas.{child_of_state, noted_if, place_if, unspent_where}
use Rattle.live_book.proofs.acting.act_at.Goals as goal

pub note-requires-clause-place : goal.note-requires-clause-place
note-requires-clause-place c =
    let tree : IsTree c.args.book.now.state.tree.nodes = subst (λ (t : TreeFacts). IsTree t.nodes) c.tree-tree.ensures c.recall_sound.ensures.tree in
    subst (λ i. IfSome c.args.quota.now (HasPlace i)) (sym c.number_of-number.ensures.number)
    (place_if c.one_path.ensures c.args.book.now.state.tree.nodes c.args.quota.now c.args.node tree c.requires.quota c.requires.there)

pub returns-clause-counted : goal.returns-clause-counted
returns-clause-counted c =
    let t = c.args.book.now.state.tree in
    let deed = deed_of c.args.action in
    let tree : IsTree t.nodes = subst (λ (u : TreeFacts). IsTree u.nodes) c.tree-tree.ensures c.recall_sound.ensures.tree in
    let grown : IsTree c.apply.new.self.state.tree.nodes = subst (λ (u : TreeFacts). IsTree u.nodes) c.tree-tree-2.ensures c.recall_sound-2.ensures.tree in
    let which : IfSome (slice_get t.nodes c.args.node) (λ n. c.state-child.result.children ≡ n.state.children) =
    child_of_state (slice_get t.nodes c.args.node) c.state-child.result (subst (λ (u : TreeFacts). IfSome (slice_get u.nodes c.args.node) (λ n. c.state-child.result ≡ n.state)) c.tree-tree.ensures c.state-child.ensures) in
    let new : c.note.new.quota ≡ option_map (noted (kind_of deed) c.args.node c.state-child.result.children c.number_of-made.result) c.args.quota.now =
    c.note.ensures
    ∙ (ap (λ k. option_map (noted k c.number_of-number.result c.state-child.result.children c.number_of-made.result) c.args.quota.now) c.kind-kind.ensures
    ∙ ap (λ i. option_map (noted (kind_of deed) i c.state-child.result.children c.number_of-made.result) c.args.quota.now) c.number_of-number.ensures.number) in
    noted_if c.one_path.ensures t c.args.node c.state-child.result.children c.number_of-made.result deed _ c.args.quota.now c.note.new.quota tree grown c.in_ok-done.ensures.still c.requires.there which
    c.number_of-made.ensures.number c.in_ok-done.ensures.accepted
    (unspent_where (limits_of c.args.quota.now) t c.args.node deed _ c.requires.within c.in_ok-done.ensures.accepted) c.requires.quota new
