-- How a collection stands with its domains, and what actions and decisions make of it.
use Rattle.std.specs.Prelude.{ℕ, ◌++◌, ◌&&◌, not, List, [], ◌∷◌, Option, Some, map}
use Rattle.std.specs.Prelude.{filter, flat_map, option_map, option_and_then, unwrap_or}
use Rattle.std.specs.Prelude.{slice_get, drop, if◌then◌else◌}
use Rattle.book_events.specs.Open.{is_open}
use Rattle.verdict_claims.specs.declared.verdict.Verdict.{Verdict}
use Rattle.verdict_claims.specs.declared.verdict.Verdict.TheVariants as verdicts
use Rattle.verdict_claims.specs.Base.{BaseFacts}
use Rattle.sysmem_tree.specs.Domain.{TreeFacts, has_failed, host_node, is_ready}
use Rattle.sysmem_tree.specs.Node.{NodeFacts}
use Rattle.sysmem_tree.specs.Shape.{participants_of}
use Rattle.sysmem_tree.specs.Tree.{first_tree}
use Rattle.sysmem_alloc.specs.Decision.{DomainVerdict, choices_of, decision_for, settings_for}

-- the tree; the decisions in their order; the domains that wait for one, in the order in which
-- they became ready; and the participants that are accepted for the first of them or, while none
-- waits, those whose collection is open
pub record State : Type 0 where
  pub tree : TreeFacts
  pub decisions : List DomainVerdict
  pub waiting : List ℕ
  pub accepted : List ℕ

-- the state of a root token
abbrev pub first_state : State
first_state = record { tree = first_tree; decisions = []; waiting = []; accepted = [] }

-- the domain that is to be decided next
abbrev pub next_ready : State → Option ℕ
next_ready s = slice_get s.waiting 0

-- the verdict of a domain, none before it has one
abbrev pub verdict_of : State → ℕ → Option Verdict
verdict_of s r =
    if has_failed s.tree r then Some verdicts.Failed
    else option_map (λ d. unwrap_or d.verdict verdicts.NoMemory) (decision_for s.decisions r)

-- the domains that one event made ready, in order of creation of their roots: those that
-- are ready now and weren't before
abbrev pub newly_ready : TreeFacts → TreeFacts → List ℕ
newly_ready old new =
    filter (λ r. is_ready new r && not (is_ready old r)) (map (λ d. d.root) new.domains)

-- the participants of what a decision chose, in pre-order
abbrev pub chosen_by : List NodeFacts → DomainVerdict → List ℕ
chosen_by nodes d =
    unwrap_or (option_map (participants_of nodes d.domain) (choices_of d.verdict)) []

-- the participants of the collection's Chosen domains, in the order of the decisions
abbrev pub chosen_in : List NodeFacts → List DomainVerdict → List ℕ
chosen_in nodes ds = flat_map (chosen_by nodes) ds

-- those of them whose collection is still open
abbrev pub open_in : List NodeFacts → List DomainVerdict → List ℕ
open_in nodes ds = filter (is_open nodes) (chosen_in nodes ds)

-- as long as a domain waits, the participants that were accepted for the first one are kept
abbrev pub kept_for : List ℕ → List ℕ → List ℕ → List ℕ
kept_for [] old new = new
kept_for (r ∷ rs) old new = old

-- after an action that made this tree
abbrev pub after_action : State → TreeFacts → State
after_action s t = record {
  tree = t;
  decisions = s.decisions;
  waiting = s.waiting ++ newly_ready s.tree t;
  accepted = kept_for s.waiting s.accepted (open_in t.nodes s.decisions);
}

-- after a decision of the first domain that waits, which made this
-- tree: what is accepted is taken anew
abbrev pub after_decision : State → DomainVerdict → TreeFacts → State
after_decision s d t = record {
  tree = t;
  decisions = s.decisions ++ d ∷ [];
  waiting = drop 1 s.waiting ++ newly_ready s.tree t;
  accepted = open_in t.nodes (s.decisions ++ d ∷ []);
}

-- what the first domain that waits is decided on: an attached one on the settings of its host's
-- domain and the accepted participants
abbrev pub base_of : State → ℕ → Option BaseFacts
base_of s r = option_and_then
    (λ host. option_map (λ settings. record { settings = settings; accepted = s.accepted })
    (settings_for s.decisions host.domain))
    (host_node s.tree.nodes r)
