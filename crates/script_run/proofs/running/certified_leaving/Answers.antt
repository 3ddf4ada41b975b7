use Rattle.std.proofs.Common.{◌≡◌, Ok, ap, ◌∙◌}
use Rattle.std.proofs.lemmas.List.Elements.{All-nil}
use Rattle.certificate_pieces.specs.Texts.{pieces_text}
use Rattle.script_replay.specs.Proving.{AreProved, IsProved}
use Rattle.script_run.specs.Certificate.{IsCertifiedBy, texts_of}
use Rattle.script_replay.specs.Outcome.{report_seen}
use Rattle.script_run.proofs.CallerLemmas.{runs-so}
use Rattle.script_run.proofs.OneCertified.{certificate_said}
use Rattle.script_run.proofs.Spelling.{fault-so}
use Rattle.script_run.proofs.running.certified_leaving.Goals as goal

pub report_leaving-requires : goal.report_leaving-requires
report_leaving-requires c = λ platform. (c.in-Ok.ensures, All-nil IsProved)

pub returns-in-Err : goal.returns-in-Err
returns-in-Err c = fault-so _ _ c.in-Err.fault c.in-Err.ensures

pub returns : goal.returns
returns c =
    let pieces = c.report_leaving.new.decider.pieces in
    runs-so (λ platform cs. (pieces ≡ texts_of platform cs) × AreProved cs) (IsCertifiedBy (pieces_text c.finish.result)) c.args.bytes.items
    (Ok (report_seen c.in-Ok-report_leaving.report)) (λ platform cs held. record { text = ap pieces_text (c.finish.ensures ∙ held.0) ∙ certificate_said platform cs; proved = held.1 }) c.in-Ok-report_leaving.ensures
