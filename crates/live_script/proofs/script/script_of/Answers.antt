-- The text that is written is the script, unless it is longer than a script may be.
use Rattle.std.proofs.Common.{◌<◌, ◌≤◌, arith, length, subst}
use Rattle.live_book.specs.Snapshot.{IsSettled}
use Rattle.live_script.specs.Script.{ReadsBack, calls_told}
use Rattle.live_script.proofs.Told.{reads_back, too_long}
use Rattle.node_names.specs.Names.{AreNames}
use Rattle.script_reading.specs.Text.{longest}
use Rattle.script_writing.specs.Script.{IsScriptText}
use Rattle.live_script.proofs.script.script_of.Goals as goal

pub returns-then-len-gt-LONGEST : goal.returns-then-len-gt-LONGEST
returns-then-len-gt-LONGEST c =
    let text = c.in_ok-text.text in
    let long : longest < length text.items = omega (arith, c.if-len-gt-LONGEST.true, c.len.ensures, text.ok) in
    record { script = tt; long = λ _. too_long c.args.snapshot.now text.items c.in_ok-text.ensures.text long }

pub returns : goal.returns
returns c =
    let s = c.args.snapshot.now in
    let text = c.in_ok-text.text in
    let settled : IsSettled s.platform s.history = record { legal = c.recall_settled.ensures.settled.legal; eager = c.recall_settled.ensures.settled.eager; idle = c.recall_settled.ensures.settled.idle } in
    let script : IsScriptText s.platform (calls_told s.names 1 s.history) text.items = c.in_ok-text.ensures.text in
    let short : length text.items ≤ longest = omega (arith, c.if-len-gt-LONGEST.false, c.len.ensures, text.ok) in
    let back : ReadsBack s text.items =
    reads_back s text.items (subst AreNames c.names.ensures c.recall_names.ensures) settled (c.few_entries.ensures s.platform s.history settled.legal) c.in_ok-text.ensures.read script short in
    record { script = record { told = script.is; back = back; recurs = c.settled_calls_recur.ensures s back.calls settled back.own }; long = tt }
