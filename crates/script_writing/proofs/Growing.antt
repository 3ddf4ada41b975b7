-- A script that grows, call by call.
use Rattle.std.proofs.Common.{◌≡◌, ℕ, Bool, true, false, List, [], ◌∷◌, ◌++◌, codes, Option, Some, None, Result, Ok, Err, OnOk, IsUtf8, option_map, refl, sym, ap, ◌∙◌, subst, append_assoc, append-nil}
use Rattle.std.specs.Prelude.{IfSome, if◌then◌else◌}
use Rattle.std.specs.List.{AllByRecursion}
use Rattle.serde_json.specs.Data.{Data}
use Rattle.serde_json.specs.Read.{read}
use Rattle.serde_json.specs.Written.{comma_if, compact_text}
use Rattle.negotiation_inputs.specs.Platform.{PlatformFacts}
use Rattle.record_reading.specs.Reading.{platform_of}
use Rattle.record_laws.specs.Sparse.{platform_written}
use Rattle.script_writing.specs.Call.{IsRecord, WrittenCall, call_text, stated_by}
use Rattle.script_writing.specs.Script.{Begun, HasTaken, IsCallSpelled, IsPlain, IsScriptText, IsSpelled, calls_text, script_text}
use Rattle.script_writing.proofs.Plain.{plain_participant}
use Rattle.script_writing.proofs.Texts.{script_read}

pub on_ok : {E P : Type 0} (r : Result (Unit {0}) E) → P → OnOk r P
on_ok (Ok u) p = p
on_ok (Err e) p = tt

-- what a call states is plain
pub plain_stated : {V : Type 0} (f : V → Data) (o : Option V) (d : Option Data) → option_map f o ≡ d → IfSome d IsRecord → IfSome o (λ v. IsPlain (f v))
plain_stated f None d e h = tt
plain_stated f (Some v) d e h =
    let own : IsRecord (f v) = subst (λ x. IfSome x IsRecord) (sym e) h in
    subst IsPlain (sym own.1) (plain_participant own.0)

-- a script's beginning
pub begun_taken : (text : List ℕ) (p : PlatformFacts) → text ≡ (codes "{\"platform\":" ++ compact_text (platform_written p)) ++ codes ",\n\"calls\":[" → IsSpelled (platform_written p) → platform_of (platform_written p) ≡ Ok p
    → HasTaken (record { text = text; later = false }) p []
begun_taken text p is spelled stated = record {
  text = λ more.
      let b = compact_text (platform_written p) in
      ap (λ s. s ++ calls_text false more) is ∙ append_assoc (codes "{\"platform\":" ++ b) (codes ",\n\"calls\":[") (calls_text false more)
      ∙ append_assoc (codes "{\"platform\":") b (codes ",\n\"calls\":[" ++ calls_text false more);
  spelled = spelled;
  stated = stated;
  calls_spelled = tt;
}

all_more : (P : WrittenCall → Type 0) (cs : List WrittenCall) (c : WrittenCall) → AllByRecursion P cs → P c → AllByRecursion P (cs ++ c ∷ [])
all_more P [] c all one = (one, tt)
all_more P (d ∷ cs) c all one = (all.0, all_more P cs c all.1 one)

line_begun : (later : Bool) → (if later then codes ",\n" else codes "\n") ≡ comma_if later ++ codes "\n"
line_begun true = refl
line_begun false = refl

regroup : (a b c d e : List ℕ) → ((a ++ (b ++ c)) ++ d) ++ e ≡ a ++ (b ++ (c ++ (d ++ e)))
regroup a b c d e = simp append_assoc

-- one call more
pub more_taken : (w : Begun) (text line : List ℕ) (p : PlatformFacts) (cs : List WrittenCall) (c : WrittenCall) → HasTaken w p cs → line ≡ (if w.later then codes ",\n" else codes "\n") → text ≡ (w.text ++ line) ++ call_text c
    → IfSome (stated_by c.act) IsSpelled → HasTaken (record { text = text; later = true }) p (cs ++ c ∷ [])
more_taken w text line p cs c taken begun is spelled = record {
  text = λ more.
      ap (λ s. s ++ calls_text true more) (is ∙ ap (λ l. (w.text ++ l) ++ call_text c) (begun ∙ line_begun w.later))
      ∙ regroup w.text (comma_if w.later) (codes "\n") (call_text c) (calls_text true more)
      ∙ taken.text (c ∷ more) ∙ ap (script_text p) (sym (append_assoc cs (c ∷ []) more));
  spelled = taken.spelled;
  stated = taken.stated;
  calls_spelled = all_more IsCallSpelled cs c taken.calls_spelled spelled;
}

-- its end
pub finished : (w : Begun) (text : List ℕ) (p : PlatformFacts) (cs : List WrittenCall) → HasTaken w p cs → text ≡ w.text ++ codes "]}\n" → IsUtf8 text → IsScriptText p cs text
finished w text p cs taken is utf8 =
    let whole : text ≡ script_text p cs = is ∙ taken.text [] ∙ ap (script_text p) (append-nil cs) in
    record { is = whole; utf8 = utf8; stated = taken.stated; spelled = λ names. ap read whole ∙ script_read p cs taken.spelled taken.calls_spelled names }
