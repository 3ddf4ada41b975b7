-- The layout is the domain's.
use Rattle.sysmem_tree.proofs.tree.Tree.add_participants.Goals as goal

pub add_settled-requires-clause-room : goal.add_settled-requires-clause-room
add_settled-requires-clause-room c = (c.args.domain, record { there = c.requires.domain; lays = c.layout-layout.ensures.lays; prefix = c.requires.prefix }, c.requires.room)

pub returns-clause-nodes : goal.returns-clause-nodes
returns-clause-nodes c = c.add_settled.ensures.nodes c.args.domain (record { there = c.requires.domain; lays = c.layout-layout.ensures.lays; prefix = c.requires.prefix })
