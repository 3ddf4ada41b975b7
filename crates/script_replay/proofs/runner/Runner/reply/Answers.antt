use Rattle.script_replay.specs.Runner.{state_of}
use Rattle.script_replay.proofs.Answering.{replies_as}
use Rattle.script_replay.proofs.Since.{since_added}
use Rattle.script_replay.proofs.Told.{sound_of}
use Rattle.script_replay.proofs.runner.Runner.reply.Goals as goal

pub returns : goal.returns
returns c =
    let sound = sound_of c.legal_is_sound.ensures c.args.self.now.book c.recall_legal.ensures in
    let failed = since_added (state_of c.args.self.now) (state_of c.answer.new.self) _ c.in_ok-reply.reply c.tree.result.now c.tree-2.result.now c.failed_before-had_failed.result _ _ sound c.tree.ensures c.tree-2.ensures
    c.failed_before-had_failed.ensures.marks c.failed_before-had_failed.ensures.asks c.in_ok-reply.ensures c.in_ok-add_failed_since.ensures.some c.in_ok-add_failed_since.ensures.none in
    replies_as _ (state_of c.args.self.now) _ (state_of c.answer.new.self) _ _ _ c.in_ok-reply.reply c.in_ok-reply.ensures c.in_ok-add_call.ensures failed
