-- Attached domains: the settings are given.
use Rattle.std.proofs.Common.{◌≡◌, ◌⊎◌, inl, inr, arith, ℕ, ◌<◌, ◌≤◌, true, List, [], ◌∷◌, ◌++◌, Option, Some, None, IsSomeAnd, IfSome, All, sym, ◌∙◌, subst}
use Rattle.std.proofs.lemmas.List.Elements.{All-head, All-tail}
use Rattle.std.proofs.lemmas.Option.{same_Some}
use Rattle.list_lemmas.proofs.CallerLemmas.{Any-not_All, All-some, some_map}
use Rattle.sysmem_counts.proofs.CallerLemmas.{counted_some}
use Rattle.sysmem_counts.specs.Counts.{IsCounted, IsFixedCountLine, greatest}
use Rattle.sysmem_counts.specs.declared.constraints.CountConstraints.{CountConstraints}
use Rattle.sysmem_counts.specs.declared.field.Field.{Field}
use Rattle.sysmem_counts.specs.declared.field.Field.TheVariants.{MinBufferCount, MaxBufferCount, PixelFormat, ColorSpaces, MinSizeBytes, MaxSizeBytes}
use Rattle.sysmem_image.specs.declared.bounds.ImageBounds.{ImageBounds}
use Rattle.sysmem_image.specs.Bounds.{IsTighter, KeepsField}
use Rattle.sysmem_memory.proofs.CallerLemmas.{none_refuses}
use Rattle.sysmem_memory.specs.Heap.{HeapFacts}
use Rattle.sysmem_memory.specs.PlaceTable.{refuses_by}
use Rattle.sysmem_merge.specs.declared.settings.Settings.{Settings}
use Rattle.offer_fits.specs.Demands.{counts_asked, offer_demand}
use Rattle.offer_fits.specs.Offers.{entry_bounds}
use Rattle.sysmem_merge.specs.Settings.{Covers, CoversOn}
use Rattle.negotiation_inputs.specs.Participant.{Participant}
use Rattle.negotiation_inputs.specs.Platform.{PlatformFacts}
use Rattle.sysmem_tree.specs.Forest.{Forest, settled}
use Rattle.sysmem_tree.specs.Shape.{Member}
use Rattle.sysmem_tree.specs.Sublist.{IsSublist}
use Rattle.verdict_claims.specs.Base.{Terms}
use Rattle.verdict_claims.specs.declared.conflict.Conflict.{Conflict}
use Rattle.verdict_claims.specs.declared.conflict.Conflict.TheVariants.{Count, Places, Offers, Fixed}
use Rattle.verdict_claims.specs.Conflict.{IsFixedConflict}
use Rattle.sysmem_merge.specs.Failing.{FailsIn, FailsOn}
use Rattle.verdict_claims.specs.Members.{participants}
use Rattle.verdict_claims.specs.Verdict.{IsForestUnmet, MeetsFixed}
use Rattle.verdict_claims.proofs.Growing.{settled_grows, sub_itself, sub_both}
use Rattle.verdict_claims.proofs.Naming.{named_of}

-- a number that none of these is above isn't below the greatest
greatest_up_to : (f : CountConstraints → ℕ) (ps : List CountConstraints) (n : ℕ) → All (λ p. f p ≤ n) ps → greatest f ps ≤ n
greatest_up_to f [] n all = omega arith
greatest_up_to f (p ∷ ps) n all = omega (arith, All-head (λ p. f p ≤ n) p ps all, greatest_up_to f ps n (All-tail (λ p. f p ≤ n) p ps all))

-- a count that a line refuses doesn't suit
pub count_clash : (field : Field) (ps : List CountConstraints) (count : ℕ) → IsFixedCountLine count field ps → ¬ (IsCounted ps count)
count_clash MinBufferCount ps count line c = omega (arith, line, c.some, c.together, greatest_up_to (λ p. p.min_buffer_count) ps count c.minimum)
count_clash MaxBufferCount ps count line c =
    Any-not_All (λ p. p.max_buffer_count < count) (λ p. count ≤ p.max_buffer_count) ps (λ p low high. omega (arith, low, high)) line c.maximum
count_clash _ ps count line c = absurd line

bounds_clash : (field : Field) (a : ImageBounds) (o : Option ImageBounds) → IsSomeAnd o (λ b. ¬ (KeepsField field a b)) → IfSome o (IsTighter a) → ⊥
bounds_clash field a None fails keeps = fails
bounds_clash field a (Some b) fails keeps = fails (λ f is. keeps f)

bounds_or_place : (field : Field) (heap : HeapFacts) (s : Settings) (p : Participant) → IsSomeAnd (entry_bounds s.offer (offer_demand p)) (λ b. ¬ (KeepsField field s.bounds b))
    ⊎ (refuses_by field p.memory p.usage heap s.place.coherency ≡ true) → Covers heap s p → ⊥
bounds_or_place field heap s p fails c = elim fails as (λ _. ⊥) [
  | inl bounds ↦ bounds_clash field s.bounds (entry_bounds s.offer (offer_demand p)) bounds c.fit.offer.bounds
  | inr refuses ↦ cc (refuses, none_refuses p.memory p.usage heap s.place.coherency c.place field)
]

-- settings that fail a participant in some field aren't accepted by it
fails_clash : (field : Field) (heap : HeapFacts) (s : Settings) (p : Participant) → FailsIn field heap s p → ¬ (Covers heap s p)
fails_clash PixelFormat heap s p fails c = cc (fails, c.fit.offer.format)
fails_clash ColorSpaces heap s p fails c = cc (fails, c.fit.offer.colour)
fails_clash MinSizeBytes heap s p fails c = omega (arith, fails, c.fit.min_size)
fails_clash MaxSizeBytes heap s p fails c = omega (arith, fails, c.fit.max_size)
fails_clash field heap s p fails c = bounds_or_place field heap s p fails c

pub fails_on_clash : (field : Field) (platform : PlatformFacts) (s : Settings) (p : Participant) → FailsOn field platform s p → CoversOn platform s p → ⊥
fails_on_clash field platform s p f c = fails_clash field f.heap s p f.fails (subst (λ h. Covers h s p) (same_Some c.heap f.heap (sym c.has ∙ f.has)) c.covers)

-- a conflict of some members of an attached domain leaves none to more
fixed_clash : (platform : PlatformFacts) (terms : Terms) (d : Forest Member) (c : Conflict) (all : List Member) (t : Settings) → IsFixedConflict platform terms d c → IsSublist (settled d) all → ¬ (MeetsFixed platform terms all t)
fixed_clash platform terms d (Count line) all t conflict among met =
    let these = named_of (terms.accepted ++ settled d) (terms.accepted ++ all) line.nodes conflict.0
    (sub_both terms.accepted terms.accepted (settled d) all (sub_itself terms.accepted) among) conflict.1 in
    count_clash line.field (counts_asked conflict.0) terms.settings.count conflict.2
    (subst (λ (x : Settings). IsCounted (counts_asked conflict.0) x.count) met.same
    (counted_some (counts_asked conflict.0) (counts_asked (participants (terms.accepted ++ all))) t.count
    (some_map (λ p. p.counts) conflict.0 (participants (terms.accepted ++ all)) these) met.counted))
fixed_clash platform terms d (Fixed field node) all t conflict among met =
    let these = named_of (settled d) all (node ∷ []) conflict.0 among conflict.1 in
    Any-not_All (FailsOn field platform terms.settings) (CoversOn platform terms.settings) conflict.0 (fails_on_clash field platform terms.settings) conflict.2
    (All-some (CoversOn platform terms.settings) conflict.0 (participants all) these
    (subst (λ x. All (CoversOn platform x) (participants all)) met.same met.covers))
fixed_clash platform terms d (Places lines) all t conflict among met = conflict
fixed_clash platform terms d (Offers lines) all t conflict among met = conflict

-- a conflict of an attached domain is true
pub fixed_conflict_unmet : (platform : PlatformFacts) (terms : Terms) (d : Forest Member) (c : Conflict) → IsFixedConflict platform terms d c → IsForestUnmet (MeetsFixed platform terms) d
fixed_conflict_unmet platform terms d c conflict sel e t s = fixed_clash platform terms d c (settled e) t conflict (settled_grows sel d e s.leads)

-- and it leaves none to what is settled
pub fixed_conflict_leaves_none : (platform : PlatformFacts) (terms : Terms) (d : Forest Member) (c : Conflict) → IsFixedConflict platform terms d c → (t : Settings) → ¬ (MeetsFixed platform terms (settled d) t)
fixed_conflict_leaves_none platform terms d c conflict t = fixed_clash platform terms d c (settled d) t conflict (sub_itself (settled d))
