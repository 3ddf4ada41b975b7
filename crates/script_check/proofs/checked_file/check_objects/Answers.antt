use Rattle.std.proofs.Common.{◌<◌, ◌≤◌, length, map, ◌∙◌, ap, sym, subst, arith}
use Rattle.std.specs.String.{string_bytes}
use Rattle.serde_json.specs.View.{view}
use Rattle.script_reading.specs.Seen.{call_seen}
use Rattle.script_check.specs.Checked.{Answers}
use Rattle.script_check.proofs.Checks.{all_accepted, more_left, stopped_at}
use Rattle.script_check.proofs.checked_file.check_objects.Goals as goal

pub returns-in-Ok-2 : goal.returns-in-Ok-2
returns-in-Ok-2 c =
    let same = c.report_of.ensures.given ∙ ap (map view) c.new-checking.ensures.objects in
    let less : c.report_of.new.decider.taken < length c.args.objects.now = omega (arith, c.if-taken-objects.true, c.taken.ensures.taken) in
    let said = rw (c.in_ok-platform.ensures, c.deref.ensures.value) at c.in-Ok.ensures.report in
    subst (Answers c.args.script.now.platform (map call_seen c.args.script.now.calls.items) (map view c.args.objects.now)) (sym c.one_too_many.ensures)
    (more_left c.args.script.now.platform (map call_seen c.args.script.now.calls.items) c.args.objects.now c.report_of.new.decider.objects.now c.report_of.new.decider.taken same (string_bytes c.in-Ok.report.text)
    c.in-Ok.report.starved c.if-report_of.false said less)

pub returns-in-Ok-3 : goal.returns-in-Ok-3
returns-in-Ok-3 c =
    let same = c.report_of.ensures.given ∙ ap (map view) c.new-checking.ensures.objects in
    let all : length c.args.objects.now ≤ c.report_of.new.decider.taken = omega (arith, c.if-taken-objects.false, c.taken.ensures.taken) in
    let said = rw (c.in_ok-platform.ensures, c.deref.ensures.value) at c.in-Ok.ensures.report in
    all_accepted c.args.script.now.platform (map call_seen c.args.script.now.calls.items) c.args.objects.now c.report_of.new.decider.objects.now c.report_of.new.decider.taken same (string_bytes c.in-Ok.report.text)
    c.in-Ok.report.starved c.if-report_of.false said all

pub returns-in-Err-Refused : goal.returns-in-Err-Refused
returns-in-Err-Refused c =
    let same = c.report_of.ensures.given ∙ ap (map view) c.new-checking.ensures.objects in
    let stops = rw (c.in-Err-Refused.field-0-is, c.in_ok-platform.ensures, c.deref.ensures.value) at c.in-Err-Refused.ensures.stops in
    stopped_at c.args.script.now.platform (map call_seen c.args.script.now.calls.items) c.args.objects.now c.new-checking.result.objects.now c.report_of.new.decider.objects.now c.new-checking.result.taken
    c.report_of.new.decider.taken _ _ (cc (c.in-Err-Refused.objection-is)) c.new-checking.ensures.objects c.new-checking.ensures.taken same stops
