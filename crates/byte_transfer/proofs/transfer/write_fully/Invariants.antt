-- What was written and what is left are the bytes, and the writer has not failed.
use Rattle.std.proofs.Common.{◌≡◌, ◌++◌, List, ℕ, length}
use Rattle.std.specs.Io.KnownBytes.{Appends}
use Rattle.byte_transfer.proofs.transfer.write_fully.Given as goal

abbrev pub invariant-loop-rest : goal.invariant-loop-rest
invariant-loop-rest g l = record {
  front : List ℕ;
  parts : front ++ l.rest ≡ l.bytes;
  written : Appends (g.W.Sink.contents l.fn.writer) (g.W.Sink.contents l.writer) front;
  unfailed : g.W.Sink.failures l.writer ≡ g.W.Sink.failures l.fn.writer;
}

abbrev pub decreases-loop-rest : goal.decreases-loop-rest
decreases-loop-rest g l = length l.rest
