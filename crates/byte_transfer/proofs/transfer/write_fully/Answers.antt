use Rattle.std.proofs.Common.{◌∙◌, ◌++◌, take}
use Rattle.byte_transfer.proofs.KnownBytes.{Appends-then}
use Rattle.byte_transfer.proofs.TransferLemmas.{WritesFront-kept, parts-then}
use Rattle.byte_transfer.proofs.transfer.write_fully.Goals as goal

pub returns-in_default-clause-front : goal.returns-in_default-clause-front
returns-in_default-clause-front g c =
    let kept = c.loop-rest.invariant in
    WritesFront-kept _ _ _ kept.front _ _ kept.parts kept.written c.in_default.ensures.bytes

pub loop-rest-preserved : goal.loop-rest-preserved
loop-rest-preserved g c =
    let kept = c.loop-rest.invariant in
    let rest = c.loop-rest.rest.now in
    record {
      front = kept.front ++ take c.in-Ok.count rest;
      parts = parts-then kept.front rest _ c.in-Ok.count kept.parts;
      written = Appends-then _ _ _ kept.front _ kept.written c.in-Ok.ensures.bytes;
      unfailed = c.in-Ok.ensures.worked ∙ kept.unfailed;
    }
