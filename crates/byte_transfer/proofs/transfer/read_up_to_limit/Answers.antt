use Rattle.std.proofs.Common.{ℕ, ◌+◌, ◌-◌, ◌≤◌, length, length-take, vec_len, arith}
use Rattle.byte_transfer.proofs.TransferLemmas.{ReadsFew-then}
use Rattle.byte_transfer.proofs.transfer.read_up_to_limit.Goals as goal

pub returns-in_err-extend_from_slice-clause-few : goal.returns-in_err-extend_from_slice-clause-few
returns-in_err-extend_from_slice-clause-few g c =
    let bound = c.in-Ok.ensures.bound in
    let room : length c.read.new.buf ≤ c.args.limit + 1 - vec_len c.loop-chunk.bytes = omega (arith, length-take {A = ℕ}, c.read.auto.buf) in
    ReadsFew-then c.args.limit _ _ _ c.loop-chunk.bytes.items c.read.new.buf c.in-Ok.count c.loop-chunk.invariant.taken c.in-Ok.ensures.bytes.0 bound.0 (omega (arith, bound.0, room))
