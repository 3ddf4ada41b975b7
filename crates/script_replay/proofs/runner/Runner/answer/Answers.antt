use Rattle.std.proofs.Common.{sym}
use Rattle.script_replay.specs.Answer.{to_duplicate, to_create_group, to_bind, to_create_child, to_complete, to_attach_token, to_release, to_close, to_check, to_wait, tells}
use Rattle.script_replay.proofs.Answering.{skipped_as}
use Rattle.script_replay.proofs.runner.Runner.answer.Goals as goal

pub returns-in_default : goal.returns-in_default
returns-in_default c = skipped_as _ _ _ (cc) c.in_ok-keep_name.ensures

pub act-requires-clause-asks : goal.act-requires-clause-asks
act-requires-clause-asks c = rw c.in-Duplicate.is (to_duplicate _)

pub act-requires-in-CreateGroup-clause-asks : goal.act-requires-in-CreateGroup-clause-asks
act-requires-in-CreateGroup-clause-asks c = rw c.in-CreateGroup.is (to_create_group _)

pub act-requires-in-Bind-clause-asks : goal.act-requires-in-Bind-clause-asks
act-requires-in-Bind-clause-asks c = rw c.in-Bind.is to_bind

pub act-requires-in-CreateChild-clause-asks : goal.act-requires-in-CreateChild-clause-asks
act-requires-in-CreateChild-clause-asks c = rw c.in-CreateChild.is (to_create_child _)

pub act-requires-in-AllChildrenPresent-clause-asks : goal.act-requires-in-AllChildrenPresent-clause-asks
act-requires-in-AllChildrenPresent-clause-asks c = rw c.in-AllChildrenPresent.is to_complete

pub act-requires-in-AttachToken-clause-asks : goal.act-requires-in-AttachToken-clause-asks
act-requires-in-AttachToken-clause-asks c = rw c.in-AttachToken.is (to_attach_token _)

pub act-requires-in-Release-clause-asks : goal.act-requires-in-Release-clause-asks
act-requires-in-Release-clause-asks c = rw c.in-Release.is to_release

pub act-requires-in-Close-clause-asks : goal.act-requires-in-Close-clause-asks
act-requires-in-Close-clause-asks c = rw c.in-Close.is to_close

pub returns-in-Check : goal.returns-in-Check
returns-in-Check c = rw c.told.ensures (tells c.in-Some.node (sym c.in-Some.ensures.node) (rw c.in-Check.is to_check))

pub returns-in-Wait : goal.returns-in-Wait
returns-in-Wait c = rw c.told-in-Wait.ensures (tells c.in-Some.node (sym c.in-Some.ensures.node) (rw c.in-Wait.is to_wait))
