-- How it ends that somebody is told who is in the way.
use Rattle.std.proofs.Common.{◌≡◌, ◌≢◌, ◌<◌, ◌≤◌, ℕ, zero, suc, List, [], ◌∷◌, length, slice_get, Option, Some, None, true, false, true≢false, refl, sym, ◌∙◌, ap, subst, inl, inr, arith}
use Rattle.std.specs.Prelude.{◌⊎◌, IfSome, is_some}
use Rattle.std.proofs.lemmas.Bool.{cases_lt}
use Rattle.flat_negotiation.specs.Blame.{IsBlamed}
use Rattle.flat_negotiation.specs.Refusals.{flat_refusal}
use Rattle.flat_negotiation.specs.Unsettled.{AreUnmet}
use Rattle.flat_negotiation.specs.declared.flat.FlatRefusal.{FlatRefusal}
use Rattle.flat_negotiation.specs.declared.unsettled.Refusal.{Refusal}
use Rattle.flat_negotiation.specs.declared.unsettled.Unsettled.{Unsettled}
use Rattle.flat_negotiation.specs.declared.unsettled.Unsettled.TheVariants as why
use Rattle.live_book.specs.Snapshot.{SnapshotFacts}
use Rattle.live_book.specs.declared.object.Object.TheVariants.{Snapshot}
use Rattle.live_script.specs.Refusing.{TellsRefusal, TellsWho, asking_in, by_number, is_told, isnt_told, tells_refusal, tells_who, who_starves}
use Rattle.sysmem_tree.specs.Node.{NodeFacts}
use Rattle.verdict_claims.specs.Asked.{asked_in}

-- of the list of a domain
pub who_told : (s : SnapshotFacts) (r : ℕ) (ks : List ℕ) (before after : FlatRefusal) (status : ℕ) (u : Unsettled) → ks ≡ asking_in s.tree.nodes r → AreUnmet s.platform (asked_in s.tree.nodes ks) u
    → ((refusal : Refusal) → u ≡ why.Unmet refusal → (status ≡ 0) × (after ≡ by_number ks (flat_refusal before.struct_size (why.Unmet refusal)))) → (u ≡ why.NoMemory → (status ≡ 4) × (after ≡ before))
    → TellsWho s r before after status
who_told s r ks before after status why.NoMemory same unmet tells starves = let both = starves refl in subst (TellsWho s r before after) (sym both.0) (who_starves both.1)
who_told s r ks before after status (why.Unmet refusal) same unmet tells starves =
    let both = tells refusal refl in
    subst (TellsWho s r before after) (sym both.0)
    (tells_who refusal (subst (λ (js : List ℕ). IsBlamed s.platform (asked_in s.tree.nodes js) refusal) same unmet) (both.1 ∙ ap (λ (js : List ℕ). by_number js (flat_refusal before.struct_size (why.Unmet refusal))) same))
who_told s r ks before after status (why.Platform amiss) same unmet tells starves = absurd unmet
who_told s r ks before after status (why.Participant who amiss) same unmet tells starves = absurd unmet
who_told s r ks before after status why.TooMany same unmet tells starves = absurd unmet

is_there : (xs : List NodeFacts) (i : ℕ) → i < length xs → slice_get xs i ≢ None
is_there [] i less none = omega (arith, less)
is_there (x ∷ xs) zero less none = cc none
is_there (x ∷ xs) (suc i) less none = is_there xs i (omega (arith, less)) none

-- there is a node, of a domain
at_node : (s : SnapshotFacts) (k node r : ℕ) (P : Type 0) → node ≡ k → node < length s.tree.nodes → IfSome (slice_get s.tree.nodes node) (λ n. r ≡ n.domain) → ((n : NodeFacts) → slice_get s.tree.nodes k ≡ Some n → r ≡ n.domain → P) → P
at_node s k node r P same there domain then = by (slice_get s.tree.nodes node) refl domain where
  by : (o : Option NodeFacts) → slice_get s.tree.nodes node ≡ o → IfSome o (λ n. r ≡ n.domain) → P
  by (Some n) at is = then n (ap (slice_get s.tree.nodes) (sym same) ∙ at) is
  by None at is = absurd (is_there s.tree.nodes node there at)

-- of which it is told
pub told_at : (s : SnapshotFacts) (k node r : ℕ) (before after : FlatRefusal) (status : ℕ) → node ≡ k → node < length s.tree.nodes → IfSome (slice_get s.tree.nodes node) (λ n. r ≡ n.domain) → is_told s r ≡ true
    → TellsWho s r before after status → TellsRefusal k (Some (Snapshot s)) before after status
told_at s k node r before after status same there domain told who =
    at_node s k node r (TellsRefusal k (Some (Snapshot s)) before after status) same there domain
    (λ n at is. tells_refusal s n status refl at (ap (is_told s) (sym is) ∙ told) (subst (λ (d : ℕ). TellsWho s d before after status) is who))

-- or it isn't
pub untold_at : (s : SnapshotFacts) (k node r : ℕ) (before : FlatRefusal) → node ≡ k → node < length s.tree.nodes → IfSome (slice_get s.tree.nodes node) (λ n. r ≡ n.domain) → is_told s r ≡ false
    → TellsRefusal k (Some (Snapshot s)) before before 6
untold_at s k node r before same there domain untold =
    at_node s k node r (TellsRefusal k (Some (Snapshot s)) before before 6) same there domain (λ n at is. isnt_told s n refl at (ap (is_told s) (sym is) ∙ untold) refl)

-- there is no node
pub none_there : {A : Type 0} (o : Option A) (k n : ℕ) → o ≡ None → (k < n → is_some o ≡ true) → n ≤ k
none_there o k n none some = by (cases_lt k n) where
  by : (k < n) ⊎ (n ≤ k) → n ≤ k
  by (inl less) = absurd (true≢false (sym (some less) ∙ ap is_some none))
  by (inr most) = most
