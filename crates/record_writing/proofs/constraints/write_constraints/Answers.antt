-- What is written is read as what it was made of.
use Rattle.std.proofs.Common.{ap, ◌∙◌}
use Rattle.record_reading.specs.Reading.Constraints.{participant_of}
use Rattle.record_writing.proofs.constraints.write_constraints.Goals as goal

pub returns-clause-read_back : goal.returns-clause-read_back
returns-clause-read_back c = ap participant_of c.in_ok-value.ensures.written ∙ c.written_is_read.ensures.participants c.args.constraints.now c.in_ok-value.ensures.is c.in_ok-value.ensures.in_range
