use Rattle.std.proofs.Common.{◌∙◌, length, refl, arith}
use Rattle.std.proofs.lemmas.Option.{slice_get_read}
use Rattle.sysmem_tree.specs.ActionKind.{deed_of}
use Rattle.sysmem_tree.proofs.steps.Acting.{acts_alone, acts_and_makes, made_so}
use Rattle.sysmem_tree.proofs.nodes.Kids.{small}
use Rattle.sysmem_tree.proofs.tree.act.Goals as goal

pub act-requires : goal.act-requires
act-requires c =
    let here = slice_get_read c.args.nodes.now.items (length c.args.nodes.now.items) c.args.number c.index_mut.result.now refl c.requires.there c.index_mut.ensures.value in
    let few = small c.args.nodes.now.items c.requires.tree c.args.number c.index_mut.result.now here in
    let most = c.requires.tree.few in
    omega (arith, few, most)

pub returns-in_default-clause-nodes : goal.returns-in_default-clause-nodes
returns-in_default-clause-nodes c =
    acts_alone c.args.nodes.now.items c.args.number _ _ _ (deed_of c.args.action) c.requires.there c.index_mut.ensures.value c.index.ensures c.act.ensures
    (made_so c.args.nodes.now.items c.args.number _ c.index.result.now _ (deed_of c.args.action) _ (c.len-made.ensures ∙ c.args.nodes.now.ok.0) c.kind-kind.ensures c.next_child-child.ensures ∙ c.in_default.is)

pub returns-clause-nodes : goal.returns-clause-nodes
returns-clause-nodes c =
    acts_and_makes c.args.nodes.now.items _ c.args.number _ _ _ _ (deed_of c.args.action) c.requires.there c.index_mut.ensures.value c.index.ensures c.act.ensures
    (made_so c.args.nodes.now.items c.args.number _ c.index.result.now _ (deed_of c.args.action) _ (c.len-made.ensures ∙ c.args.nodes.now.ok.0) c.kind-kind.ensures c.next_child-child.ensures ∙ c.in-Some.is)
    c.push_reserved.ensures.items
