-- One decision more in a certificate, and with its proof.
use Rattle.std.proofs.Common.{◌≡◌, ℕ, ◌++◌, List, [], ◌∷◌, Option, sym, ◌∙◌, ap}
use Rattle.std.proofs.lemmas.List.{map-append}
use Rattle.certificate_text.specs.Told.{decision_data}
use Rattle.serde_json.specs.Data.{Data}
use Rattle.serde_json.specs.Written.{compact_text}
use Rattle.verdict_claims.specs.declared.certificate.Claim.{Claim}
use Rattle.negotiation_inputs.specs.Platform.{PlatformFacts}
use Rattle.certificate_pieces.specs.Texts.{pieces_text}
use Rattle.certificate_pieces.proofs.CallerLemmas.{list_told}
use Rattle.script_run.specs.Certificate.{certificate_of, texts_of}
use Rattle.script_replay.specs.Report.{Certified}

-- the texts of decisions with one more, however it was lent
pub text_push : (platform p : PlatformFacts) (cs : List Certified) (path given : List ℕ) (claim : Option Claim) (old new : List (List ℕ)) → p ≡ platform → given ≡ path → old ≡ texts_of platform cs
    → new ≡ old ++ compact_text (decision_data p given claim) ∷ [] → new ≡ texts_of platform (cs ++ (path, claim) ∷ [])
text_push platform p cs path given claim old new a b taken more =
    let one : Certified = (path, claim) in
    let same : decision_data p given claim ≡ decision_data platform path claim = ap (λ (q : PlatformFacts). decision_data q given claim) a ∙ ap (λ (g : List ℕ). decision_data platform g claim) b in
    more ∙ ap (λ (ts : List (List ℕ)). ts ++ compact_text (decision_data p given claim) ∷ []) taken ∙ ap (λ (x : Data). texts_of platform cs ++ compact_text x ∷ []) same
    ∙ sym (map-append (λ (c : Certified). compact_text (decision_data platform c.0 c.1)) cs (one ∷ []))

-- the texts of decisions make up their certificate
pub certificate_said : (platform : PlatformFacts) (cs : List Certified) → pieces_text (texts_of platform cs) ≡ certificate_of platform cs
certificate_said platform cs = ap (λ (s : List ℕ). s ++ 10 ∷ []) (list_told (λ (c : Certified). decision_data platform c.0 c.1) cs)
