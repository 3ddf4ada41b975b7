-- What is asked by those so far.
use Rattle.std.proofs.Common.{◌≡◌, take}
use Rattle.verdict_claims.specs.Asked.{asked_in}
use Rattle.live_script.proofs.refusal.asked_in.Given as goal

abbrev pub invariant-loop-number : goal.invariant-loop-number
invariant-loop-number l = l.asked.items ≡ asked_in l.tree.nodes (take l.number-index l.numbers)
