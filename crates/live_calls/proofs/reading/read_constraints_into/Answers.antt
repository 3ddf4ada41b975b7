-- What a record states is put into the handle.
use Rattle.std.proofs.Common.{◌≡◌, Some}
use Rattle.live_calls.specs.Behind.{constraints_in}
use Rattle.live_calls.proofs.Unread.{read_by, unread_by}
use Rattle.record_reading.specs.Reading.{participant_of}
use Rattle.live_calls.proofs.reading.read_constraints_into.Goals as goal

pub returns-in-Ok : goal.returns-in-Ok
returns-in-Ok c = read_by participant_of (λ p. constraints_in c.put_shared.new.held.value ≡ Some p) c.args.bytes.now c.args.held.now.value c.put_shared.new.held.value c.args.code.now c.in-Ok.constraints c.put_shared.result c.in-Ok.ensures.read c.put_shared.ensures

pub returns-in-Err : goal.returns-in-Err
returns-in-Err c = unread_by participant_of (λ p. constraints_in c.args.held.now.value ≡ Some p) c.args.bytes.now c.args.held.now.value c.args.code.now c.tell_unread.new.code c.in-Err.unread c.tell_unread.result c.in-Err.ensures.unread c.tell_unread.ensures
