-- The text that a run on threads writes: a line for each domain, and that of an audit. Each ends
-- with a newline.
use Rattle.std.specs.Prelude.{◌≡◌, ℕ, ◌++◌, ◌||◌, Bool, true, false, List, [], codes, IsTrue}
use Rattle.std.specs.Fmt.{decimal}
use Rattle.sysmem_image.specs.declared.size.Corner.{Corner}
use Rattle.sysmem_image.specs.Corners.{IsCorner}
use Rattle.verdict_claims.specs.Chosen.{ChosenFacts}
use Rattle.negotiation_inputs.specs.Platform.{PlatformFacts}
use Rattle.sysmem_participants.specs.declared.faults.Audit.{Audit}
use Rattle.script_replay.specs.Lines.{chosen_text, domain_line}

-- what the line of a domain can say of it, and whether that is that memory was refused
pub data Says : Bool → List ℕ → Type 0 where
  waits : Says false (codes "pending")
  chose : (platform : PlatformFacts) (chosen : ChosenFacts) (k : Corner)
      → IsCorner chosen.settings.offer chosen.settings.bounds k
      → Says false (chosen_text platform chosen k)
  none_meet : Says false (codes "empty")
  too_many : Says false (codes "too_many")
  has_failed : Says false (codes "failed")
  wants_memory : Says true (codes "no_memory")

-- the line of the domain at this path was put after a text; whether it says that memory was
-- refused
pub record HasLine (starved : Bool) (path before after : List ℕ) : Type 0 where
  pub what : List ℕ
  pub says : Says starved what
  pub put : after ≡ before ++ domain_line path what

-- lines of domains and nothing else, the first for `/`; whether one says that memory was refused
pub data AreLines : Bool → List ℕ → Type 0 where
  first : (starved : Bool) (what : List ℕ) → Says starved what
      → AreLines starved (domain_line [] what)
  one_more : (starved more : Bool) (text path what : List ℕ) → AreLines starved text
      → Says more what → AreLines (starved || more) (text ++ domain_line path what)

-- `audit nodes 3 actions 5 decisions 1`
abbrev pub audit_line : Audit → List ℕ
audit_line a =
    codes "audit nodes " ++ (decimal a.nodes ++ (codes " actions " ++ (decimal a.actions
    ++ (codes " decisions " ++ (decimal a.decisions ++ codes "\n")))))

-- lines of domains, and then the line of an audit; whether a domain's says that memory was refused
pub record IsText (starved : Bool) (text : List ℕ) : Type 0 where
  pub lines : List ℕ
  pub audit : Audit
  pub are_lines : AreLines starved lines
  pub put : text ≡ lines ++ audit_line audit

-- such a text, beside whether memory was refused: where a line says so, it was
pub record IsTold (starved : Bool) (text : List ℕ) : Type 0 where
  pub says : Bool
  pub is_text : IsText says text
  pub was : IsTrue says → IsTrue starved
