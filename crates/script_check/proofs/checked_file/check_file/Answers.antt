use Rattle.std.proofs.lemmas.Result.{err_from_is_err_and}
use Rattle.std.specs.String.{string_bytes}
use Rattle.serde_json.specs.View.{view}
use Rattle.script_reading.specs.Seen.{script_seen}
use Rattle.script_check.proofs.CheckedLemmas.{check-no, check-no-script, check-part, check-refused, check-unspelled, check-yes, not_caused, same_count}
use Rattle.script_check.proofs.checked_file.check_file.Goals as goal

pub returns-in_err-value-clause-checked : goal.returns-in_err-value-clause-checked
returns-in_err-value-clause-checked g c =
    let failed = err_from_is_err_and c.from_residual-in_err-value.result c.from_residual-in_err-value.ensures.1 in
    let said = rw c.deref.ensures.value at c.in_err-value.ensures in
    check-unspelled _ c.in_err-value.field-0.0 _ _ _ _ c.in_ok-bytes.bytes.items (cc (failed.1, failed.2)) c.in_ok-bytes.ensures.bytes said

pub returns-in_err-script-clause-checked : goal.returns-in_err-script-clause-checked
returns-in_err-script-clause-checked g c =
    let failed = err_from_is_err_and c.from_residual-in_err-script.result c.from_residual-in_err-script.ensures.1 in
    let spells = rw c.deref.ensures.value at c.in_ok-value.ensures in
    check-no-script _ c.in_err-script.field-0.0 _ _ _ _ c.in_ok-bytes.bytes.items (view c.in_ok-value.value) (cc (failed.1, failed.2)) c.in_ok-bytes.ensures.bytes spells c.in_err-script.ensures

pub returns-in_err-answered-clause-checked : goal.returns-in_err-answered-clause-checked
returns-in_err-answered-clause-checked g c =
    let failed = err_from_is_err_and c.from_residual-in_err-answered.result c.from_residual-in_err-answered.ensures.1 in
    let spells = rw c.deref.ensures.value at c.in_ok-value.ensures in
    let why = rw c.deref-2.ensures.value at c.in_err-answered.ensures.fault in
    check-refused _ _ _ _ c.in_ok-bytes.bytes.items c.in_ok-certificate.certificate.items (view c.in_ok-value.value) (script_seen c.in_ok-script.script)
    c.in_ok-bytes.ensures.bytes spells c.in_ok-script.ensures c.in_ok-certificate.ensures.bytes
    _ c.in_err-answered.field-0.0 _ (cc (failed.1, failed.2)) why

pub returns-in_err-write_fully-clause-checked : goal.returns-in_err-write_fully-clause-checked
returns-in_err-write_fully-clause-checked g c =
    let failed = err_from_is_err_and c.from_residual-in_err-write_fully.result c.from_residual-in_err-write_fully.ensures.1 in
    let spells = rw c.deref.ensures.value at c.in_ok-value.ensures in
    let holds = rw c.deref-2.ensures.value at c.in_ok-answered.ensures.answer in
    let front = rw c.as_bytes.ensures.value at c.in_err-write_fully.ensures.front in
    check-part _ _ _ _ c.in_ok-bytes.bytes.items c.in_ok-certificate.certificate.items (view c.in_ok-value.value) (script_seen c.in_ok-script.script)
    c.in_ok-bytes.ensures.bytes spells c.in_ok-script.ensures c.in_ok-certificate.ensures.bytes
    _ _ c.in_ok-answered.answered.answer (string_bytes c.in_ok-answered.answered.text) holds _ (cc (failed.1, failed.2)) front

pub returns-in_err-write_fully-clause-read_fault : goal.returns-in_err-write_fully-clause-read_fault
returns-in_err-write_fully-clause-read_fault g c =
    let failed = err_from_is_err_and c.from_residual-in_err-write_fully.result c.from_residual-in_err-write_fully.ensures.1 in
    not_caused _ _ _ _ _ (λ is. absurd (cc (failed.1, failed.2))) (same_count _ _ _ (λ is. absurd (cc)) c.in_ok-bytes.ensures.cause) (same_count _ _ _ (λ is. absurd (cc)) c.in_ok-certificate.ensures.cause)

pub returns-in-Yes-clause-checked : goal.returns-in-Yes-clause-checked
returns-in-Yes-clause-checked g c =
    let spells = rw c.deref.ensures.value at c.in_ok-value.ensures in
    let holds = rw c.deref-2.ensures.value at c.in_ok-answered.ensures.answer in
    let written = rw c.as_bytes.ensures.value at c.in_ok-write_fully.ensures.written in
    check-yes _ _ _ _ c.in_ok-bytes.bytes.items c.in_ok-certificate.certificate.items (view c.in_ok-value.value) (script_seen c.in_ok-script.script)
    c.in_ok-bytes.ensures.bytes spells c.in_ok-script.ensures c.in_ok-certificate.ensures.bytes
    _ _ c.in_ok-answered.answered.answer (string_bytes c.in_ok-answered.answered.text) holds c.in-Yes.is written

pub returns-in-Yes-clause-read_fault : goal.returns-in-Yes-clause-read_fault
returns-in-Yes-clause-read_fault g c =
    not_caused _ _ _ _ _ (λ is. absurd (cc)) (same_count _ _ _ (λ is. absurd (cc)) c.in_ok-bytes.ensures.cause) (same_count _ _ _ (λ is. absurd (cc)) c.in_ok-certificate.ensures.cause)

pub returns-clause-checked : goal.returns-clause-checked
returns-clause-checked g c =
    let spells = rw c.deref.ensures.value at c.in_ok-value.ensures in
    let holds = rw c.deref-2.ensures.value at c.in_ok-answered.ensures.answer in
    let written = rw c.as_bytes.ensures.value at c.in_ok-write_fully.ensures.written in
    check-no _ _ _ _ c.in_ok-bytes.bytes.items c.in_ok-certificate.certificate.items (view c.in_ok-value.value) (script_seen c.in_ok-script.script)
    c.in_ok-bytes.ensures.bytes spells c.in_ok-script.ensures c.in_ok-certificate.ensures.bytes
    _ _ c.in_ok-answered.answered.answer (string_bytes c.in_ok-answered.answered.text) _ holds c.in-No.is written

pub returns-clause-read_fault : goal.returns-clause-read_fault
returns-clause-read_fault g c =
    not_caused _ _ _ _ _ (λ is. absurd (cc)) (same_count _ _ _ (λ is. absurd (cc)) c.in_ok-bytes.ensures.cause) (same_count _ _ _ (λ is. absurd (cc)) c.in_ok-certificate.ensures.cause)
