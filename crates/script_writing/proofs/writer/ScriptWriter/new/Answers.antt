-- A script is begun with its platform.
use Rattle.std.proofs.Common.{◌≡◌, ◌++◌, ◌∙◌, Ok, ap, ap₂, codes, subst, sym}
use Rattle.std.specs.String.{string_bytes}
use Rattle.serde_json.specs.Written.{compact_text}
use Rattle.record_reading.specs.Reading.{platform_of}
use Rattle.script_writing.specs.Script.{IsPlain, IsSpelled}
use Rattle.script_writing.proofs.Growing.{begun_taken}
use Rattle.script_writing.proofs.Plain.{plain_platform}
use Rattle.script_writing.proofs.writer.ScriptWriter.new.Goals as goal

pub put_record-requires : goal.put_record-requires
put_record-requires c = subst IsPlain (sym c.in_ok-record.ensures.written) (plain_platform c.args.platform.now)

pub returns : goal.returns
returns c =
    let p = c.args.platform.now in
    let written = c.in_ok-record.ensures.written in
    begun_taken (string_bytes c.push_str.new.self) p
    (c.in_ok-push_str.ensures.bytes ∙ ap (λ s. s ++ codes ",\n\"calls\":[") (c.in_ok-put_record.ensures.text ∙ ap₂ (λ a b. a ++ b) c.in_ok-text.ensures.ok (ap compact_text written)))
    (subst IsSpelled written c.in_ok-put_record.ensures.spelled) (subst (λ d. platform_of d ≡ Ok p) written c.in_ok-record.ensures.read_back)
