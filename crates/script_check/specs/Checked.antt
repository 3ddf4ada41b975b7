-- What the objects of a certificate answer, taken one after the other as the decisions of a script.
use Rattle.std.specs.Prelude.{◌≡◌, ◌++◌, ℕ, List, [], ◌∷◌, Option, Some, None, false, option_map, ⊤}
use Rattle.std.specs.List.{AllZip}
use Rattle.certificate_text.specs.Said.{claim_said}
use Rattle.serde_json.specs.Data.{Data}
use Rattle.script_reading.specs.Script.{CallFacts}
use Rattle.sysmem_alloc.specs.Claims.{HasProof}
use Rattle.sysmem_alloc.specs.State.{State as BookState, base_of, next_ready}
use Rattle.verdict_claims.specs.Base.{terms_of}
use Rattle.verdict_claims.specs.Claim.{IsTrueClaim}
use Rattle.verdict_claims.specs.Fault.{Fails, Faults, First, VerdictFaults}
use Rattle.verdict_claims.specs.declared.certificate.Claim.{Claim}
use Rattle.verdict_claims.specs.declared.no.No.TheVariants.{WrongShape}
use Rattle.negotiation_inputs.specs.Platform.{PlatformFacts}
use Rattle.sysmem_tree.specs.Path.{path_of}
use Rattle.sysmem_tree.specs.Shape.{shape_of}
use Rattle.script_check.specs.declared.checked_file.CheckAnswer.{CheckAnswer}
use Rattle.script_check.specs.declared.checked_file.CheckAnswer.TheVariants as answers
use Rattle.script_check.specs.declared.checking.ClaimFault.{ClaimFault}
use Rattle.script_check.specs.declared.checking.ClaimFault.TheVariants as claims
use Rattle.script_replay.specs.declared.decider.Objection.{Objection}
use Rattle.script_replay.specs.Report.{Certified, Goes, IsReported}
use Rattle.script_replay.specs.State.{RunState, first_run_state}

-- an object makes the claim that was taken as a decision, with its
-- proof, for the domain at its path
pub record IsOf (platform : PlatformFacts) (object : Data) (c : Certified) : Type 0 where
  pub claim : Claim
  pub says : claim_said platform object ≡ Some (c.0, claim)
  pub taken : c.1 ≡ Some claim
  pub proved : HasProof claim

-- the decisions of a report in which memory is not refused are the claims of
-- these objects, one after the other
pub record AreTaken (platform : PlatformFacts) (rs : List CallFacts)
    (objects : List Data) : Type 0 where
  pub text : List ℕ
  pub report : IsReported platform rs (AllZip (IsOf platform) objects) text false

-- what fails first of what an object says, for the domain that this node roots: it says nothing, it
-- is about another domain, or the first test that its claim fails
abbrev pub SaidFails : PlatformFacts → BookState → ℕ → Option (List ℕ × Claim) → Faults
SaidFails platform b r None why = why ≡ WrongShape
SaidFails platform b r (Some c) why =
    First (c.0 ≡ path_of b.tree.nodes r) (Fails (c.0 ≡ path_of b.tree.nodes r) WrongShape)
    (VerdictFaults platform (option_map (terms_of b.tree.nodes) (base_of b r))
    (shape_of b.tree.nodes r) c.1.verdict c.1.proof) why

abbrev pub ClaimFails : PlatformFacts → BookState → ℕ → Data → Faults
ClaimFails platform b r one = SaidFails platform b r (claim_said platform one)

-- the same of the next object, which may be missing
abbrev pub NextFails : PlatformFacts → BookState → ℕ → List Data → Faults
NextFails platform b r [] why = why ≡ WrongShape
NextFails platform b r (one ∷ left) why = ClaimFails platform b r one why

-- what is said where the next object fails: the path of the domain, and the first that fails
pub record FailsNext (left : List Data) (platform : PlatformFacts) (b : BookState) (r : ℕ)
    (objection : Objection) : Type 0 where
  pub path : objection.path ≡ path_of b.tree.nodes r
  pub no : NextFails platform b r left objection.no

-- some of the calls are made, with the claims of the first objects as decisions, where memory is
-- not refused; then the next object fails at the first domain that waits
pub record FailsAtDomain (platform : PlatformFacts) (rs : List CallFacts) (objects : List Data)
    (objection : Objection) : Type 0 where
  pub made : List CallFacts
  pub rest : List CallFacts
  pub in_order : rs ≡ made ++ rest
  pub taken : List Data
  pub left : List Data
  pub split : objects ≡ taken ++ left
  pub lines : List ℕ
  pub decisions : List Certified
  pub last : RunState
  pub goes : Goes 1 (first_run_state platform) made lines decisions last
  pub are_of : AllZip (IsOf platform) taken decisions
  pub fed : last.starved ≡ false
  pub domain : ℕ
  pub next : next_ready last.book ≡ Some domain
  pub fails : FailsNext left platform last.book domain objection

-- the answer where more objects are there than decisions
abbrev pub too_many : CheckAnswer
too_many = answers.No (record { no = WrongShape; path = [] })

-- what a certificate's objects answer for calls on a platform: yes, the first that fails, or
-- that more are there than decisions
pub data Answers (platform : PlatformFacts) (rs : List CallFacts)
    (objects : List Data) : CheckAnswer → Type 0 where
  accepts : AreTaken platform rs objects → Answers platform rs objects answers.Yes
  objects_to : (objection : Objection) → FailsAtDomain platform rs objects objection
      → Answers platform rs objects (answers.No objection)
  has_more : (taken left : List Data) (object : Data) → objects ≡ taken ++ object ∷ left
      → AreTaken platform rs taken → Answers platform rs objects too_many

-- ---- what the parts of the checker say

-- the claim of an object is true of the domain that this node roots, and is about it
pub record TakesClaim (platform : PlatformFacts) (b : BookState) (r : ℕ) (object : Data)
    (claim : Claim) : Type 0 where
  pub says : claim_said platform object ≡ Some (path_of b.tree.nodes r, claim)
  pub true_of : IsTrueClaim platform b.tree.nodes r (base_of b r) claim

-- what holds of the test that fails, if it is one
abbrev pub IfFails : ClaimFault → Faults → Type 0
IfFails claims.NoMemory faults = ⊤
IfFails (claims.Fails why) faults = faults why
