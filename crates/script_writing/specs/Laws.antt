-- How what is written is read.
use Rattle.std.specs.Prelude.{◌≡◌, Some}
use Rattle.script_reading.specs.Call.{form_of}
use Rattle.script_writing.specs.Call.{StatesRecord, WrittenCall, call_data, form_written}

-- the object of a call is read as the call
abbrev pub CallsAreRead : Type 0
CallsAreRead = (c : WrittenCall) → StatesRecord c.act → form_of (call_data c) ≡ Some (form_written c)
