-- Those of the nodes so far.
use Rattle.std.proofs.Common.{◌≡◌, ◌≤◌, length, take}
use Rattle.live_script.specs.Refusing.{asking_in}
use Rattle.live_script.proofs.refusal.asking_in.Given as goal

abbrev pub invariant-loop-number : goal.invariant-loop-number
invariant-loop-number l = record {
  numbers : l.numbers.items ≡ asking_in (take l.number l.tree.nodes) l.domain;
  within : l.number ≤ length l.tree.nodes;
}
