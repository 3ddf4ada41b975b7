-- What is written of a decision is its path and its claim.
use Rattle.std.proofs.Common.{◌++◌, subst, sym}
use Rattle.book_events.specs.declared.entry.Entry.{Entry}
use Rattle.certificate_text.specs.Certificate.{HasTaken}
use Rattle.live_script.proofs.Entries.{certified_as}
use Rattle.live_script.proofs.Growing.{on_ok}
use Rattle.live_script.specs.Calls.{HasItsDomain}
use Rattle.sysmem_alloc.specs.Entry.{entry_in}
use Rattle.sysmem_tree.specs.Domain.{HasDomain, TreeFacts}
use Rattle.script_replay.proofs.CallerLemmas.{path_is}
use Rattle.live_script.proofs.certificate.put_entry.Goals as goal

pub root_of-requires : goal.root_of-requires
root_of-requires c =
    let nodes = c.args.snapshot.now.tree.nodes in
    subst (λ (t : TreeFacts). HasDomain t.nodes c.in-Decided.domain) (sym c.tree-tree.ensures) (subst (λ (e : Entry). HasItsDomain nodes (entry_in nodes e)) c.in-Decided.is c.requires)

pub returns : goal.returns
returns c decisions taken =
    let tree = c.args.snapshot.now.tree in
    let path = path_is c.tree-tree.result.now tree c.root_of.result c.in-Decided.domain c.in_ok-path.path c.tree-tree.ensures c.root_of.ensures.node c.in_ok-path.ensures.path in
    let own = certified_as c.platform.result.now c.args.snapshot.now.platform tree.nodes c.in_ok-path.path c.args.entry.now c.in-Decided.domain c.in-Decided.claim _ c.platform.ensures path c.claim_in.ensures c.in-Decided.is in
    on_ok c.put.result (λ put. subst (λ ds. HasTaken c.put.new.self (decisions ++ ds)) own put) (c.put.ensures decisions taken)
