-- No action has a place yet.
use Rattle.std.proofs.Common.{ℕ}
use Rattle.std.proofs.lemmas.List.{length-replicate}
use Rattle.node_limits.proofs.CallerLemmas.{none_yet}
use Rattle.sysmem_room.proofs.Placing.{none_placed}
use Rattle.sysmem_room.proofs.places.Places.new.Goals as goal

pub returns : goal.returns
returns c =
    let nodes = length-replicate {A = ℕ} 128 0 in
    none_placed _ nodes (length-replicate {A = ℕ} 640 0) nodes nodes (none_yet 128) (none_yet 128) (none_yet 128)
