-- What is kept of a line.
use Rattle.std.specs.Prelude.{◌≡◌, ℕ, List, IfSome}
use Rattle.serde_json.specs.Written.{compact_text}
use Rattle.verdict_claims.specs.Line.{LineFacts}
use Rattle.certificate_text.specs.Told.{line_data, paths_data}
use Rattle.certificate_pieces.specs.Texts.{line_front}
use Rattle.certificate_pieces.specs.declared.kept_front.KeptFront.TheInside.{Inside as Front}
use Rattle.certificate_pieces.specs.declared.kept_line.KeptLine.TheInside.{Inside}

-- the texts that are kept
pub record KeptTexts : Type 0 where
  pub paths : List ℕ
  pub text : List ℕ

-- they are those of a line
pub record AreOf (paths text : List ℕ) (line : LineFacts) : Type 0 where
  pub of_paths : paths ≡ compact_text (paths_data line.nodes)
  pub of_line : text ≡ compact_text (line_data line)

-- the texts that are kept are those of the line that is kept
abbrev pub IsOfLine : Inside → Type 0
IsOfLine k = IfSome k.line (AreOf k.paths.waiting.items k.text.waiting.items)

-- the text that is kept is that of the field that is kept
abbrev pub IsOfField : Front → Type 0
IsOfField k = IfSome k.field (λ field. k.text.waiting.items ≡ line_front field)
