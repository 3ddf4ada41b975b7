use Rattle.sysmem_tree.specs.ActionKind.{deed_of}
use Rattle.script_replay.proofs.Answering.{refused_as, accepted_as}
use Rattle.script_replay.proofs.Growing.{still_there}
use Rattle.script_replay.proofs.runner.Runner.act.Goals as goal

pub invariant_of-self : goal.invariant_of-self
invariant_of-self c = record {
  there = still_there c.args.self.now.book.state.tree.nodes c.apply.new.self.state.tree.nodes c.args.self.now.names.items c.apply.ensures.still.grows c.args.self.now.there;
}

pub keep_name-requires : goal.keep_name-requires
keep_name-requires c = c.in-Ok.ensures.there

pub returns-in_ok-keep_name-in-Ok : goal.returns-in_ok-keep_name-in-Ok
returns-in_ok-keep_name-in-Ok c =
    accepted_as c.args.self.now.book c.apply.new.self c.args.self.now.names.items c.args.self.now.starved _ _ c.args.node c.in-Ok.done.node (deed_of c.args.action) c.requires.named c.requires.asks
    c.in-Ok.ensures.accepted c.in-Ok.ensures.entered c.in_ok-keep_name-in-Ok.ensures

pub returns-in_ok-keep_name-in-Err : goal.returns-in_ok-keep_name-in-Err
returns-in_ok-keep_name-in-Err c =
    refused_as c.args.self.now.book c.apply.new.self c.args.self.now.names.items c.args.self.now.starved _ _ c.args.node (deed_of c.args.action) c.in-Err.refusal c.requires.named c.requires.asks
    c.in-Err.ensures.refused c.in-Err.ensures.unchanged c.in_ok-keep_name-in-Err.ensures
