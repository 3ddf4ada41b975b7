-- What a clause sees of the writer, and its fields.
use Rattle.std.specs.Prelude.{◌≡◌, ℕ, ◌++◌, List, [], Option, IfSome, true, false, length, nat_le}
use Rattle.json.specs.Lex.{tokens}
use Rattle.json.specs.Print.{print, ends_value, ArePrintable}
use Rattle.json.specs.Token.{Token}
use Rattle.json.specs.Written.{Written}
use Rattle.serde_json.specs.Written.{compact_text}
use Rattle.verdict_claims.specs.Line.{LineFacts}
use Rattle.verdict_claims.specs.PathList.{numbers_of}
use Rattle.certificate_text.specs.Told.{line_data, paths_data}
use Rattle.certificate_text.specs.declared.json_writer.Writer.TheInside.{Inside}
use Rattle.certificate_text.specs.declared.text.WrittenLine.{WrittenLine}

-- the tokens are those that a reader finds in the whole text
abbrev pub out_view : Inside → Written
out_view w =
    record { before = []; tokens = tokens (w.done.items ++ print w.behind.tokens); spare = 0 }

-- the whole text is a print of some tokens, and both of its parts end as those do
pub record IsOut (w : Inside) : Type 0 where
  pub before : w.behind.before ≡ []
  pub printed : List Token
  pub printable : ArePrintable printed
  pub text : w.done.items ++ print w.behind.tokens ≡ print printed
  pub place : ends_value w.behind.tokens ≡ ends_value printed

-- the text of a line, and that of its paths
pub record IsLineText (paths text : List ℕ) (line : LineFacts) : Type 0 where
  pub nodes_told : paths ≡ compact_text (paths_data line.nodes)
  pub line_told : text ≡ compact_text (line_data line)

-- what is kept of a line that was put: its text, and that of its paths
abbrev pub IsTold : WrittenLine → Type 0
IsTold told = IsLineText told.paths.items told.text.items told.line

-- a line is the one that is kept of those with few paths, or of those with many
pub record IsKept (few many : Option WrittenLine) (line : LineFacts) : Type 0 where
  pub of_few : nat_le (length (numbers_of line.nodes)) 4 ≡ true
      → IfSome few (λ told. told.line ≡ line)
  pub of_many : nat_le (length (numbers_of line.nodes)) 4 ≡ false
      → IfSome many (λ told. told.line ≡ line)
