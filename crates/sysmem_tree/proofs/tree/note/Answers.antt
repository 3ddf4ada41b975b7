use Rattle.std.proofs.Common.{◌≡◌, length, arith}
use Rattle.sysmem_tree.proofs.steps.Acting.{all_written, note_close, note_release}
use Rattle.sysmem_tree.proofs.tree.note.Goals as goal

pub returns-in-Close-clause-domains : goal.returns-in-Close-clause-domains
returns-in-Close-clause-domains c =
    let many : c.args.domains.now.len ≡ length c.close_early.new.domains = omega (arith, c.close_early.auto.domains, c.deref_mut.ensures.len) in
    rw (all_written c.args.domains.now.len c.args.domains.now.items c.close_early.new.domains many)
    (note_close c.args.nodes.now c.args.domains.now.items _ _ _ c.args.number _ c.args.kind _ _ c.requires.there c.index-nodes-number.is c.in-Close.is c.domain-root.ensures
    c.deref.ensures.value c.is_ready.ensures c.if-not-is_ready.true c.deref_mut.ensures.value c.close_early.ensures)

pub returns-else-not-is_ready-clause-domains : goal.returns-else-not-is_ready-clause-domains
returns-else-not-is_ready-clause-domains c =
    note_release c.args.nodes.now c.args.domains.now.items _ c.args.number _ c.args.kind _ _ c.requires.there c.index-nodes-number.is c.in-Close.is c.domain-root.ensures
    c.deref.ensures.value c.is_ready.ensures c.if-not-is_ready.false
