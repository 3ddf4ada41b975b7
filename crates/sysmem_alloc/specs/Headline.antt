-- The headline: what each decision of a legal history says of its domain.
use Rattle.std.specs.Prelude.{◌≡◌, ◌≤◌, ◌<◌, ◌++◌, ℕ, true, List, ◌∷◌, Option, Some, None, All}
use Rattle.std.specs.Prelude.{option_map}
use Rattle.sysmem_counts.specs.Counts.{IsCounted}
use Rattle.offer_fits.specs.Demands.{counts_asked}
use Rattle.sysmem_merge.specs.Settings.{CoversOn}
use Rattle.negotiation_inputs.specs.Participant.{Participant}
use Rattle.negotiation_inputs.specs.Platform.{PlatformFacts}
use Rattle.sysmem_tree.specs.Domain.{HasDomain, is_ready}
use Rattle.sysmem_tree.specs.Forest.{Forest, count, settled}
use Rattle.sysmem_tree.specs.Selection.{IsSelection}
use Rattle.sysmem_tree.specs.Shape.{Member, shape_of}
use Rattle.verdict_claims.specs.declared.certificate.Claim.{Claim}
use Rattle.verdict_claims.specs.declared.certificate.Proof.{Proof}
use Rattle.verdict_claims.specs.declared.verdict.TheConstants.{MOST_SELECTIONS}
use Rattle.verdict_claims.specs.declared.verdict.Verdict.{Verdict}
use Rattle.verdict_claims.specs.declared.verdict.Verdict.TheVariants as verdicts
use Rattle.verdict_claims.specs.Base.{Terms, terms_of, IsGivenBase}
use Rattle.verdict_claims.specs.Check.{VerdictPasses}
use Rattle.verdict_claims.specs.Chosen.{ChosenFacts}
use Rattle.verdict_claims.specs.Members.{participants}
use Rattle.verdict_claims.specs.Verdict.{IsBestFor, IsForestUnmet, IsOptimal, IsSameAnswer}
use Rattle.verdict_claims.specs.Verdict.{IsUnmetBefore, MeetsFor}
use Rattle.sysmem_alloc.specs.Claims.{HasProof}
use Rattle.sysmem_alloc.specs.Decision.{IsDecision}
use Rattle.sysmem_alloc.specs.Entry.{BookEntry, Decided}
use Rattle.sysmem_alloc.specs.History.{IsLegal, NoEarlyClose, SameCalls, replay}
use Rattle.sysmem_alloc.specs.State.{State, base_of, verdict_of}

-- what a domain is decided on in a state: its shape, and of an attached one its terms
abbrev pub shape_in : State → ℕ → Forest Member
shape_in s r = shape_of s.tree.nodes r

abbrev pub terms_in : State → ℕ → Option Terms
terms_in s r = option_map (terms_of s.tree.nodes) (base_of s r)

-- what the checker tests of a verdict with its proof, of the domain in that state
abbrev pub Passes : PlatformFacts → State → ℕ → Verdict → Proof → Type 0
Passes platform s r = VerdictPasses platform (terms_in s r) (shape_in s r)

-- whose counts are counted: the members', in an attached domain with those accepted before
abbrev pub counted_with : Option Terms → List Member → List Participant
counted_with None ms = participants ms
counted_with (Some terms) ms = participants (terms.accepted ++ ms)

-- a history with this decision in it
abbrev pub history_with : List BookEntry → ℕ → Claim → List BookEntry → List BookEntry
history_with es r c fs = es ++ Decided (record { domain = r; claim = Some c }) ∷ fs

-- of the selection that was chosen, each participant alone accepts the settings and the count suits
-- all; the settings are the best for them; and no settings meet an earlier selection
pub record IsFirstAndBest (platform : PlatformFacts) (terms : Option Terms) (d : Forest Member)
    (chosen : ChosenFacts) : Type 0 where
  pub few : count d ≤ MOST_SELECTIONS
  pub members : Forest Member
  pub selects : IsSelection d chosen.selection members
  pub own : All (CoversOn platform chosen.settings) (participants (settled members))
  pub counted : IsCounted (counts_asked (counted_with terms (settled members)))
      chosen.settings.count
  pub best : IsBestFor platform terms (settled members) chosen.settings
  pub first : IsUnmetBefore (MeetsFor platform terms) d chosen.selection

-- what a verdict says of a domain of this shape
abbrev pub IsAsSaid : PlatformFacts → Option Terms → Forest Member → Verdict → Type 0
IsAsSaid platform terms d (verdicts.Chosen chosen) = IsFirstAndBest platform terms d chosen
IsAsSaid platform terms d verdicts.IntersectionEmpty =
    (count d ≤ MOST_SELECTIONS) × IsForestUnmet (MeetsFor platform terms) d
IsAsSaid platform terms d verdicts.TooMany = MOST_SELECTIONS < count d
IsAsSaid platform terms d _ = ⊥

-- in this state the initial domain is ready, and a verdict that it has, unless memory was wanted,
-- is this answer
pub record GetsAnswer (v : Verdict) (s : State) : Type 0 where
  pub ready : is_ready s.tree 0 ≡ true
  pub same : (w : Verdict) → verdict_of s 0 ≡ Some w → IsDecision w → IsSameAnswer v w

-- domain r, decided with this claim after es and before fs: on a base exactly where it is attached;
-- it is as the verdict says; a proof of the verdict passes the checker, the claim's own where it
-- came with one; any verdict that passes is as it says, and this answer; at the history's end the
-- domain has this verdict, and the shape of which it was said; and each legal history with the same
-- calls, in neither of which a node is closed before the initial domain's decision, leaves that one
-- ready for this answer
pub record IsNegotiated (platform : PlatformFacts) (es : List BookEntry) (r : ℕ) (c : Claim)
    (fs : List BookEntry) : Type 0 where
  pub there : HasDomain (replay es).tree.nodes r
  pub given : IsGivenBase platform (replay es).tree.nodes r (base_of (replay es) r)
  pub said : IsAsSaid platform (terms_in (replay es) r) (shape_in (replay es) r) c.verdict
  pub proof : Proof
  pub passes : Passes platform (replay es) r c.verdict proof
  pub certified : HasProof c → proof ≡ c.proof
  pub sound : (v : Verdict) (p : Proof) → Passes platform (replay es) r v p
      → IsAsSaid platform (terms_in (replay es) r) (shape_in (replay es) r) v
  pub one : (v : Verdict) (p : Proof) → Passes platform (replay es) r v p
      → IsSameAnswer c.verdict v
  pub stays : verdict_of (replay (history_with es r c fs)) r ≡ Some c.verdict
  pub shape : shape_in (replay (history_with es r c fs)) r ≡ shape_in (replay es) r
  pub interleaved : (all : List BookEntry) → r ≡ 0 → IsLegal platform all
      → SameCalls (history_with es r c fs) all
      → NoEarlyClose (history_with es r c fs) → NoEarlyClose all
      → GetsAnswer c.verdict (replay all)

-- each decision of a legal history is so negotiated
abbrev pub Headline : Type 0
Headline = (platform : PlatformFacts) (es : List BookEntry) (r : ℕ) (c : Claim)
    (fs : List BookEntry) → IsLegal platform (history_with es r c fs)
    → IsNegotiated platform es r c fs

-- a history has a decision of domain r with this verdict, which is optimal, on what it was decided
-- on, for the domain as it is at the history's end too
pub record HasNegotiated (platform : PlatformFacts) (all : List BookEntry) (r : ℕ)
    (v : Verdict) : Type 0 where
  pub before : List BookEntry
  pub claim : Claim
  pub after : List BookEntry
  pub is : all ≡ history_with before r claim after
  pub verdict : claim.verdict ≡ v
  pub negotiated : IsNegotiated platform before r claim after
  pub optimal : IsOptimal platform (terms_in (replay before) r) (shape_in (replay all) r) v

-- each verdict that a domain has at the end of a legal history, unless the domain failed or memory
-- was wanted, is of a decision that is so negotiated
abbrev pub VerdictsAreNegotiated : Type 0
VerdictsAreNegotiated = (platform : PlatformFacts) (all : List BookEntry) (r : ℕ) (v : Verdict)
    → IsLegal platform all → verdict_of (replay all) r ≡ Some v → IsDecision v
    → HasNegotiated platform all r v
