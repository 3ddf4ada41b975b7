-- What a history names, its tree has.
use Rattle.std.proofs.Common.{◌≡◌, ◌<◌, ◌≤◌, ◌+◌, ◌++◌, ℕ, zero, suc, Bool, true, false, List, [], ◌∷◌, length, Some, Result, Ok, Err, slice_get, refl, sym, ◌∙◌, ap, subst, arith, append_assoc}
use Rattle.std.specs.Prelude.{if◌then◌else◌, is_some}
use Rattle.std.specs.List.{AllByRecursion}
use Rattle.std.proofs.lemmas.Option.{same_Some}
use Rattle.live_book.specs.Snapshot.{HasLedTo}
use Rattle.live_script.proofs.Named.{decided_long, is_made}
use Rattle.live_script.proofs.Told.{nodes_long, within}
use Rattle.live_script.specs.Script.{nodes_then}
use Rattle.negotiation_inputs.specs.Platform.{PlatformFacts}
use Rattle.sysmem_alloc.specs.Decision.{Claimed, answer_of, choices_of}
use Rattle.sysmem_alloc.specs.Entry.{BookEntry, Acted, Decided}
use Rattle.sysmem_alloc.specs.History.{AreAllowed, IsLegal, after_answer, after_entry, replay, replay_from}
use Rattle.sysmem_alloc.specs.Laws.{LegalIsSound, NumbersStay}
use Rattle.sysmem_alloc.specs.Sound.{MayWait}
use Rattle.sysmem_alloc.specs.State.{State, first_state, next_ready}
use Rattle.sysmem_tree.specs.ActionKind.{Deed, kind_of}
use Rattle.sysmem_tree.specs.Domain.{HasDomain, TreeFacts}
use Rattle.sysmem_tree.specs.Table.{makes}
use Rattle.sysmem_tree.specs.Tree.{Applied, applied}
use Rattle.sysmem_tree.specs.declared.refusal.Refusal.{Refusal}

-- ---- nodes are never fewer

at_least : (n : ℕ) (made : Bool) → n ≤ (if made then n + 1 else n)
at_least n true = omega arith
at_least n false = omega arith

entry_grows : (s : State) (e : BookEntry) → length s.tree.nodes ≤ length (after_entry s e).tree.nodes
entry_grows s (Acted k deed) = by (applied s.tree k deed) refl where
  by : (a : Result Applied Refusal) → applied s.tree k deed ≡ a → length s.tree.nodes ≤ length (after_answer s (applied s.tree k deed)).tree.nodes
  by (Ok after) did =
      let long : length (after_entry s (Acted k deed)).tree.nodes ≡ nodes_then (length s.tree.nodes) deed = nodes_long s k deed after did in
      let more : length s.tree.nodes ≤ nodes_then (length s.tree.nodes) deed = at_least (length s.tree.nodes) (is_some (makes (kind_of deed))) in
      subst (λ m. length s.tree.nodes ≤ m) (sym long) more
  by (Err refusal) did =
      let same : length s.tree.nodes ≡ length (after_answer s (applied s.tree k deed)).tree.nodes = sym (ap (λ (a : Result Applied Refusal). length (after_answer s a).tree.nodes) did) in
      omega (arith, same)
entry_grows s (Decided c) =
    let same : length (after_entry s (Decided c)).tree.nodes ≡ length s.tree.nodes = decided_long s.tree c.domain (choices_of (answer_of c).verdict) in
    omega (arith, same)

grows : (s : State) (es : List BookEntry) → length s.tree.nodes ≤ length (replay_from s es).tree.nodes
grows s [] = omega arith
grows s (e ∷ es) =
    let one : length s.tree.nodes ≤ length (after_entry s e).tree.nodes = entry_grows s e in
    let rest : length (after_entry s e).tree.nodes ≤ length (replay_from (after_entry s e) es).tree.nodes = grows (after_entry s e) es in
    omega (arith, one, rest)

node_from : (p : PlatformFacts) (s : State) (es later : List BookEntry) (i k : ℕ) (deed : Deed) → AreAllowed p s (es ++ later) → slice_get es i ≡ Some (Acted k deed) → k < length (replay_from s (es ++ later)).tree.nodes
node_from p s [] later i k deed allowed at = absurd (cc at)
node_from p s (e ∷ es) later zero k deed allowed at =
    let own : AreAllowed p s (Acted k deed ∷ (es ++ later)) = subst (λ (x : BookEntry). AreAllowed p s (x ∷ (es ++ later))) (same_Some e (Acted k deed) at) allowed in
    let (after, did) = is_made (applied s.tree k deed) own.0 in
    let here : k < length s.tree.nodes = within s k deed after did in
    let more : length s.tree.nodes ≤ length (replay_from s (e ∷ (es ++ later))).tree.nodes = grows s (e ∷ (es ++ later)) in
    omega (arith, here, more)
node_from p s (e ∷ es) later (suc i) k deed allowed at = node_from p (after_entry s e) es later i k deed allowed.1 at

-- the node of an action
pub node_there : (p : PlatformFacts) (es : List BookEntry) (t : TreeFacts) (i k : ℕ) (deed : Deed) → HasLedTo p es t → slice_get es i ≡ Some (Acted k deed) → k < length t.nodes
node_there p es t i k deed led at = subst (λ (x : TreeFacts). k < length x.nodes) (sym led.is) (node_from p first_state es led.later i k deed led.legal at)

-- ---- domains

legal_front : (p : PlatformFacts) (s : State) (es fs : List BookEntry) → AreAllowed p s (es ++ fs) → AreAllowed p s es
legal_front p s [] fs all = tt
legal_front p s (e ∷ es) fs all = (all.0, legal_front p (after_entry s e) es fs all.1)

-- a decision, and what is before it and behind it
record Split (p : PlatformFacts) (s : State) (es : List BookEntry) (r : ℕ) : Type 0 where
  front : List BookEntry
  back : List BookEntry
  is : es ≡ front ++ back
  next : next_ready (replay_from s front) ≡ Some r

split : (p : PlatformFacts) (s : State) (es : List BookEntry) (i : ℕ) (c : Claimed) → AreAllowed p s es → slice_get es i ≡ Some (Decided c) → Split p s es c.domain
split p s [] i c allowed at = absurd (cc at)
split p s (e ∷ es) zero c allowed at =
    let own : AreAllowed p s (Decided c ∷ es) = subst (λ (x : BookEntry). AreAllowed p s (x ∷ es)) (same_Some e (Decided c) at) allowed in
    record { front = []; back = e ∷ es; is = refl; next = own.0.0 }
split p s (e ∷ es) (suc i) c allowed at =
    let rest = split p (after_entry s e) es i c allowed.1 at in
    record { front = e ∷ rest.front; back = rest.back; is = ap (λ xs. e ∷ xs) rest.is; next = rest.next }

first_waits : (t : TreeFacts) (rs : List ℕ) (r : ℕ) → AllByRecursion (MayWait t) rs → slice_get rs 0 ≡ Some r → MayWait t r
first_waits t [] r all at = absurd (cc at)
first_waits t (q ∷ rs) r all at = subst (MayWait t) (same_Some q r at) all.0

module _ (sound : LegalIsSound) (stay : NumbersStay) where
  -- the domain of a decision
  pub domain_there : (p : PlatformFacts) (es : List BookEntry) (t : TreeFacts) (i : ℕ) (c : Claimed) → HasLedTo p es t → slice_get es i ≡ Some (Decided c) → HasDomain t.nodes c.domain
  domain_there p es t i c led at =
      let parts = split p first_state es i c (legal_front p first_state es led.later led.legal) at in
      let whole : es ++ led.later ≡ parts.front ++ (parts.back ++ led.later) = ap (λ xs. xs ++ led.later) parts.is ∙ append_assoc parts.front parts.back led.later in
      let legal : IsLegal p (parts.front ++ (parts.back ++ led.later)) = subst (IsLegal p) whole led.legal in
      let waits = first_waits (replay parts.front).tree (replay parts.front).waiting c.domain (sound p parts.front (legal_front p first_state parts.front (parts.back ++ led.later) legal)).waiting parts.next in
      let there : HasDomain (replay (parts.front ++ (parts.back ++ led.later))).tree.nodes c.domain = (stay p parts.front (parts.back ++ led.later) legal).root c.domain waits.there in
      subst (λ (x : TreeFacts). HasDomain x.nodes c.domain) (sym (led.is ∙ ap (λ xs. (replay xs).tree) whole)) there
