-- The lines of a report: of each call, of domains that it makes fail, of decisions
-- that follow; and what was decided.
use Rattle.std.specs.Prelude.{◌≡◌, ℕ, ◌+◌, ◌++◌, ◌||◌, List, [], ◌∷◌, Bool, Option, Some, None}
use Rattle.std.specs.Prelude.{codes, filter, flat_map, is_none}
use Rattle.sysmem_alloc.specs.Decision.{Claimed, DomainVerdict, answer_of, choices_of}
use Rattle.sysmem_alloc.specs.Entry.{Decided}
use Rattle.sysmem_alloc.specs.History.{Allows}
use Rattle.sysmem_alloc.specs.Sound.{roots_of}
use Rattle.sysmem_alloc.specs.State.{State as BookState, after_decision, next_ready, verdict_of}
use Rattle.sysmem_image.specs.declared.size.Corner.{Corner}
use Rattle.sysmem_image.specs.Corners.{IsCorner}
use Rattle.verdict_claims.specs.Chosen.{ChosenFacts}
use Rattle.verdict_claims.specs.declared.certificate.Claim.{Claim}
use Rattle.verdict_claims.specs.declared.verdict.Verdict.{Verdict}
use Rattle.verdict_claims.specs.declared.verdict.Verdict.TheVariants.{Chosen, IntersectionEmpty}
use Rattle.verdict_claims.specs.declared.verdict.Verdict.TheVariants.{TooMany}
use Rattle.negotiation_inputs.specs.Platform.{PlatformFacts}
use Rattle.sysmem_tree.specs.Domain.{TreeFacts, newly_failed}
use Rattle.sysmem_tree.specs.Path.{path_of}
use Rattle.sysmem_tree.specs.Tree as trees
use Rattle.script_reading.specs.Script.{CallFacts}
use Rattle.script_replay.specs.declared.reply.Reply.{Reply}
use Rattle.script_replay.specs.Answer.{Replies}
use Rattle.script_replay.specs.Lines.{call_line, chosen_text, domain_line}
use Rattle.script_replay.specs.State.{RunState, first_run_state, collection_tree}

-- the lines that say this of domains, by their roots
abbrev pub domain_lines : TreeFacts → List ℕ → List ℕ → List ℕ
domain_lines t what roots = flat_map (λ r. domain_line (path_of t.nodes r) what) roots

-- of the domains that have failed in the new tree and hadn't in the old one, in
-- order of creation of their roots
abbrev pub failed_lines : TreeFacts → TreeFacts → List ℕ
failed_lines old new = domain_lines new (codes "failed") (newly_failed old new)

-- what the line of a decision says of its domain
pub data Tells (platform : PlatformFacts) : Option Verdict → List ℕ → Type 0 where
  chose : (chosen : ChosenFacts) (k : Corner)
      → IsCorner chosen.settings.offer chosen.settings.bounds k
      → Tells platform (Some (Chosen chosen)) (chosen_text platform chosen k)
  none_meet : Tells platform (Some IntersectionEmpty) (codes "empty")
  too_many : Tells platform (Some TooMany) (codes "too_many")
  wants_memory : Tells platform None (codes "no_memory")

-- a decision was entered
abbrev pub with_decision : RunState → DomainVerdict → RunState
with_decision s d = record s {
  book =
      after_decision s.book d (trees.decided (collection_tree s) d.domain (choices_of d.verdict));
  starved = s.starved || is_none d.verdict;
}

-- the lines of a decision: its own, and those of the domains that it makes fail
abbrev pub decision_lines : RunState → DomainVerdict → List ℕ → List ℕ
decision_lines s d what = domain_line (path_of (collection_tree s).nodes d.domain) what
    ++ failed_lines (collection_tree s) (collection_tree (with_decision s d))

-- what is certified of a decision: the path of its domain's root, and its
-- claim, or none where memory was wanted
abbrev pub Certified : Type 0
Certified = List ℕ × Option Claim

abbrev pub certified : RunState → Claimed → Certified
certified s c = (path_of (collection_tree s).nodes c.domain, c.claim)

-- the lines of a call: its own, and those of the domains that it makes fail
abbrev pub call_lines : ℕ → RunState → CallFacts → Reply → RunState → List ℕ
call_lines number s r reply t =
    call_line number r reply ++ failed_lines (collection_tree s) (collection_tree t)

-- calls from a state to another, each numbered and made where no domain waits; and decisions, each
-- of the first domain that waits, as the book allows it: their lines, and what was decided
pub data Goes : ℕ → RunState → List CallFacts → List ℕ → List Certified → RunState → Type 0 where
  stays : (number : ℕ) (s : RunState) → Goes number s [] [] [] s
  calls : (number : ℕ) (s answered t : RunState) (r : CallFacts) (rs : List CallFacts)
      (reply : Reply)
      (text : List ℕ) (cs : List Certified)
      → next_ready s.book ≡ None → Replies s r reply answered
      → Goes (number + 1) answered rs text cs t
      → Goes number s (r ∷ rs) (call_lines number s r reply answered ++ text) cs t
  decides : (number : ℕ) (s t : RunState) (c : Claimed) (rs : List CallFacts) (what text : List ℕ)
      (cs : List Certified) → Allows s.platform s.book (Decided c)
      → Tells s.platform (answer_of c).verdict what
      → Goes number (with_decision s (answer_of c)) rs text cs t
      → Goes number s rs (decision_lines s (answer_of c) what ++ text) (certified s c ∷ cs) t

-- the domains without a verdict, in order of creation of their roots
abbrev pub pending_in : BookState → List ℕ
pending_in b = filter (λ r. is_none (verdict_of b r)) (roots_of b.tree)

-- the last lines of a report
abbrev pub pending_lines : BookState → List ℕ
pending_lines b = domain_lines b.tree (codes "pending") (pending_in b)

-- the report of calls on a new collection, what was decided, and whether memory was refused: all
-- calls are made, and no domain waits
pub record IsReport (platform : PlatformFacts) (rs : List CallFacts) (text : List ℕ)
    (cs : List Certified) (starved : Bool) : Type 0 where
  pub last : RunState
  pub lines : List ℕ
  pub goes : Goes 1 (first_run_state platform) rs lines cs last
  pub done : next_ready last.book ≡ None
  pub put : text ≡ lines ++ pending_lines last.book
  pub memory : starved ≡ last.starved

-- what a decider says of the decisions that it took
abbrev pub Gave : Type 1
Gave = List Certified → Type 0

-- a report of calls, with decisions of which this is said
pub record IsReported (platform : PlatformFacts) (rs : List CallFacts) (says : Gave) (text : List ℕ)
    (starved : Bool) : Type 0 where
  pub decisions : List Certified
  pub report : IsReport platform rs text decisions starved
  pub gave : says decisions
