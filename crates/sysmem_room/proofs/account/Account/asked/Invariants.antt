use Rattle.std.proofs.Common.{◌≡◌, None, drop}
use Rattle.std.specs.Prelude.{option_map}
use Rattle.sysmem_room.proofs.Asking.{asked_after}
use Rattle.sysmem_room.proofs.account.Account.asked.Given as goal

abbrev pub invariant-loop-action : goal.invariant-loop-action
invariant-loop-action l = asked_after (option_map (λ one. one.now) l.asked) (drop l.action-index l.action-items) ≡ asked_after None l.action-items
