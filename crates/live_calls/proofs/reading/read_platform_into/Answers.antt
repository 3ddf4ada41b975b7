-- What a record states is put into the handle.
use Rattle.std.proofs.Common.{◌≡◌, Some}
use Rattle.live_book.specs.declared.object.Object.TheVariants.{Platform}
use Rattle.live_calls.proofs.Unread.{read_by, unread_by}
use Rattle.record_reading.specs.Reading.{platform_of}
use Rattle.live_calls.proofs.reading.read_platform_into.Goals as goal

pub returns-in-Ok : goal.returns-in-Ok
returns-in-Ok c = read_by platform_of (λ p. c.put_new.new.held.value ≡ Some (Platform p)) c.args.bytes.now c.args.held.now.value c.put_new.new.held.value c.args.code.now c.in-Ok.platform c.put_new.result c.in-Ok.ensures.read c.put_new.ensures

pub returns-in-Err : goal.returns-in-Err
returns-in-Err c = unread_by platform_of (λ p. c.args.held.now.value ≡ Some (Platform p)) c.args.bytes.now c.args.held.now.value c.args.code.now c.tell_unread.new.code c.in-Err.unread c.tell_unread.result c.in-Err.ensures.unread c.tell_unread.ensures
