-- The texts of which a certificate is made.
use Rattle.std.specs.Prelude.{ℕ, List, [], ◌∷◌, ◌++◌, Bool, true, false, Option, Some, None, codes, option_map}
use Rattle.std.specs.Arc.{arc_value}
use Rattle.serde_json.specs.Written.{comma_if, compact_text}
use Rattle.sysmem_counts.specs.Field.{field_name}
use Rattle.sysmem_counts.specs.declared.field.Field.{Field}
use Rattle.verdict_claims.specs.declared.certificate.Claim.{Claim}
use Rattle.verdict_claims.specs.declared.certificate.Proof.{Proof}
use Rattle.verdict_claims.specs.declared.certificate.Proof.TheVariants as proves
use Rattle.verdict_claims.specs.declared.verdict.Verdict.{Verdict}
use Rattle.verdict_claims.specs.declared.verdict.Verdict.TheVariants as verdicts
use Rattle.negotiation_inputs.specs.Platform.{PlatformFacts}
use Rattle.serde_json.specs.Data.{Data}
use Rattle.certificate_text.specs.Told.{claim_data, earlier_data, lines_data, list_data, path_data, refutation_data}
use Rattle.certificate_pieces.specs.declared.decision.Decision.{Decision}

-- texts with a comma between two, and the bracket behind them
abbrev pub joined : Bool → List (List ℕ) → List ℕ
joined later [] = 93 ∷ []
joined later (text ∷ texts) = comma_if later ++ (text ++ joined true texts)

-- a list of texts
abbrev pub list_text : List (List ℕ) → List ℕ
list_text texts = 91 ∷ joined false texts

-- `{"KIND":"`
abbrev pub named_front : List ℕ → List ℕ
named_front kind = 123 ∷ 34 ∷ (kind ++ 34 ∷ 58 ∷ 34 ∷ [])

-- what stands before the paths of a line: `{"field":"usage","nodes":`
abbrev pub line_front : Field → List ℕ
line_front field = named_front (codes "field") ++ (field_name field ++ codes "\",\"nodes\":")

-- the members that prove a verdict, each behind a comma
abbrev pub proof_text : Proof → List ℕ
proof_text (proves.Choice certificate) =
    codes ",\"earlier\":" ++ (compact_text (list_data earlier_data certificate.earlier)
    ++ (codes ",\"offers\":" ++ (compact_text (lines_data certificate.offers)
    ++ (codes ",\"places\":" ++ compact_text (lines_data certificate.places)))))
proof_text (proves.Empty items) = codes ",\"refutation\":" ++ compact_text (refutation_data items)
proof_text proves.Nothing = []

-- what was decided by a claim, or where memory was refused to it, and what proves it
abbrev pub verdict_of : Option Claim → Verdict
verdict_of (Some claim) = claim.verdict
verdict_of None = verdicts.NoMemory

abbrev pub proof_of : Option Claim → Proof
proof_of (Some claim) = claim.proof
proof_of None = proves.Nothing

-- a verdict with nothing that proves it
abbrev pub bare_data : PlatformFacts → List ℕ → Verdict → Data
bare_data platform path verdict = claim_data platform path verdict proves.Nothing

-- `{"domain":"/0"`
abbrev pub head_text : List ℕ → List ℕ
head_text path = codes "{\"domain\":" ++ compact_text (path_data path)

-- a decision: the proof between the text before it and the text behind
abbrev pub decision_text : Decision → List ℕ
decision_text d = d.head.items
    ++ (proof_text (proof_of (option_map (λ shared. arc_value shared) d.claim)) ++ d.tail.items)

-- decisions as one list, and a newline
abbrev pub pieces_text : List (List ℕ) → List ℕ
pieces_text texts = list_text texts ++ 10 ∷ []
