-- One line more.
use Rattle.verdict_claims.specs.Conflict.{RefusesPlace}
use Rattle.verdict_claims.specs.Fault.{AreNamed}
use Rattle.verdict_claims.specs.Roll.{listed}
use Rattle.sysmem_proof.proofs.Numbering.{at_line}
use Rattle.sysmem_proof.proofs.Past.{in_heap, past_listed}
use Rattle.sysmem_proof.proofs.checking.place_lines.past_place.Goals as goal

pub is_place_line-requires : goal.is_place_line-requires
is_place_line-requires c = at_line (λ line. AreNamed (listed c.args.roll.now) line.nodes) c.args.lines.now c.args.at c.index-lines-at.result c.if-at-lines.false c.index-lines-at.is c.requires

pub returns : goal.returns
returns c = λ p ps one two. past_listed (RefusesPlace (listed c.args.roll.now)) c.args.lines.now c.args.has p ps c.args.at c.index-lines-at.result c.if-not-has.false c.if-at-lines.false c.index-lines-at.is
    ((in_heap (listed c.args.roll.now) c.args.heap.now c.args.domain p c.index-lines-at.result c.is_place_line.result one two c.is_place_line.ensures).0 c.if-not-is_place_line.false)
