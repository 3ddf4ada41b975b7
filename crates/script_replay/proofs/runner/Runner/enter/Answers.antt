use Rattle.std.proofs.Common.{sym, ◌∙◌, ap}
use Rattle.std.specs.Arc.{arc_value}
use Rattle.std.specs.Prelude.{is_some, length, option_map}
use Rattle.sysmem_alloc.specs.Book.{BookFacts}
use Rattle.sysmem_alloc.specs.Decision.{Claimed}
use Rattle.script_replay.specs.Runner.{state_of}
use Rattle.script_replay.proofs.Following.{entered_as, one_longer, turned}
use Rattle.script_replay.proofs.CallerLemmas.{none_mapped}
use Rattle.script_replay.proofs.Growing.{still_there}
use Rattle.script_replay.proofs.Told.{if_unmapped}
use Rattle.script_replay.proofs.runner.Runner.enter.Goals as goal

pub decide-requires-clause-right : goal.decide-requires-clause-right
decide-requires-clause-right c = if_unmapped (λ shared. arc_value shared) _ c.args.claim c.requires.1

pub invariant_of-self : goal.invariant_of-self
invariant_of-self c = record {
  there = still_there c.args.self.now.book.state.tree.nodes c.decide.new.self.state.tree.nodes c.args.self.now.names.items c.decide.ensures.still.grows c.args.self.now.there;
}

pub returns-clause-state : goal.returns-clause-state
returns-clause-state c =
    let d : Claimed = record { domain = c.args.domain; claim = option_map (λ shared. arc_value shared) c.args.claim } in
    let none = none_mapped (λ shared. arc_value shared) c.args.claim in
    entered_as c.args.self.now.book c.decide.new.self c.args.self.now.names.items c.args.self.now.starved c.is_none-wants.result (state_of c.keep_want.new.self) d c.keep_want.ensures.state c.decide.ensures.entered
    (turned (is_some c.args.claim) c.is_none-wants.result c.is_none-wants.ensures ∙ (sym none ∙ sym (none_mapped (λ x. x.verdict) d.claim)))

pub returns-clause-grows : goal.returns-clause-grows
returns-clause-grows c =
    let d : Claimed = record { domain = c.args.domain; claim = option_map (λ shared. arc_value shared) c.args.claim } in
    ap (λ (b : BookFacts). length b.history) c.keep_want.ensures.book ∙ one_longer c.args.self.now.book c.decide.new.self d c.decide.ensures.entered
