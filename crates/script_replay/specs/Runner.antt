-- What the runner stands for.
use Rattle.script_replay.specs.declared.runner.Runner.{Runner}
use Rattle.script_replay.specs.State.{RunState}

abbrev pub state_of : Runner → RunState
state_of r = record {
  platform = r.book.platform;
  book = r.book.state;
  names = r.names.items;
  starved = r.starved;
}
