-- A conflict leaves no settings to any selection that goes on from where it stands.
use Rattle.std.proofs.Common.{◌≡◌, inl, inr, ℕ, Bool, true, false, List, [], ◌∷◌, Option, Some, None, All, Contains, is_none, refl, sym, ap, subst}
use Rattle.std.specs.List.{AllZip}
use Rattle.std.proofs.lemmas.List.Elements.{All-nil, All-cons, All-contains}
use Rattle.sysmem_memory.proofs.CallerLemmas.{listed_is_place}
use Rattle.sysmem_memory.specs.Listed.{HeapPlace, places_of}
use Rattle.sysmem_memory.specs.Place.{IsPlace}
use Rattle.sysmem_merge.specs.declared.settings.Settings.{Settings}
use Rattle.offer_fits.specs.Demands.{offer_demands}
use Rattle.sysmem_merge.specs.Laws.{OfferLineLeavesNone, PlaceLineLeavesNone, CountLineLeavesNone, UnnamedLineLeavesNone}
use Rattle.sysmem_merge.specs.Reasons.{IsUnnamedLine}
use Rattle.sysmem_merge.specs.Settings.{MeetsLoosely, MeetsAs}
use Rattle.negotiation_inputs.specs.Platform.{PlatformFacts, offers_of}
use Rattle.sysmem_tree.specs.Forest.{Forest, choices, settled}
use Rattle.sysmem_tree.specs.Selection.{IsSelection}
use Rattle.sysmem_tree.specs.Shape.{Member}
use Rattle.sysmem_tree.specs.Sublist.{IsSublist}
use Rattle.verdict_claims.specs.Line.{LineFacts}
use Rattle.verdict_claims.specs.declared.conflict.Conflict.{Conflict}
use Rattle.verdict_claims.specs.declared.conflict.Conflict.TheVariants.{Count, Places, Offers, Fixed}
use Rattle.verdict_claims.specs.Conflict.{RefusesPlace, RefusesOffer, IsConflict}
use Rattle.verdict_claims.specs.Members.{participants}
use Rattle.verdict_claims.specs.Verdict.{IsForestUnmet, MeetsFor}
use Rattle.verdict_claims.proofs.Growing.{settled_grows, sub_itself}
use Rattle.verdict_claims.proofs.Naming.{named_of}
use Rattle.verdict_claims.proofs.Walks.{whole_alone}

-- a line for each of a list: one for each element
zip_at : {X : Type 0} (R : X → LineFacts → Type 0) (xs : List X) (lines : List LineFacts) → AllZip R xs lines → All (λ x. (line : LineFacts) × R x line) xs
zip_at R [] [] zip = All-nil (λ x. (line : LineFacts) × R x line)
zip_at R [] (y ∷ ys) zip = absurd zip
zip_at R (x ∷ xs) [] zip = absurd zip
zip_at R (x ∷ xs) (y ∷ ys) zip = All-cons (λ x. (line : LineFacts) × R x line) x xs (y, zip.0) (zip_at R xs ys zip.1)

pub zip_has : {X : Type 0} (R : X → LineFacts → Type 0) (xs : List X) (lines : List LineFacts) (x : X) → AllZip R xs lines → Contains xs x → (line : LineFacts) × R x line
zip_has R xs lines x zip has = All-contains (λ x. (line : LineFacts) × R x line) xs x (zip_at R xs lines zip) has

-- settings that meet participants meet them but for the names
pub loosely : (whole : Bool) (platform : PlatformFacts) (ms : List Member) (t : Settings) → MeetsAs whole platform (participants ms) t → MeetsLoosely platform (participants ms) t
loosely true platform ms t met = met.loosely
loosely false platform ms t met = met

-- what is true of settings, by the laws of merging and of places
pub record LineLaws : Type 0 where
  pub offer : OfferLineLeavesNone
  pub place : PlaceLineLeavesNone
  pub count : CountLineLeavesNone
  pub unnamed : UnnamedLineLeavesNone

module _ (laws : LineLaws) (platform : PlatformFacts) where
  -- what nobody names isn't the offer of settings that meet the participants with the names
  unnamed_clash : (strict : Bool) (all : List Member) (t : Settings) (line : LineFacts) → strict ≡ true → IsUnnamedLine line.field t.offer (offer_demands (participants all))
      → ¬ (MeetsAs strict platform (participants all) t)
  unnamed_clash true all t line is unnamed met = laws.unnamed platform (participants all) line.field t unnamed met
  unnamed_clash false all t line is unnamed met = absurd (cc (is))

  -- an offer that a line refuses to some members isn't that of settings which meet more
  pub offer_refused : (whole strict : Bool) (some all : List Member) (line : LineFacts) (t : Settings) → IsSublist some all
      → (whole ≡ true → (some ≡ all) × (strict ≡ true)) → RefusesOffer whole some t.offer line → ¬ (MeetsAs strict platform (participants all) t)
  offer_refused whole strict some all line t among same refuses met =
      let these = named_of some all line.nodes refuses.0 among refuses.1 in
      elim refuses.2 as (λ _. ⊥) [
        | inl true' ↦ laws.offer strict platform refuses.0 (participants all) line.field t these true' met
        | inr unnamed ↦ unnamed_clash strict all t line (same unnamed.0).1
            (subst (λ ms. IsUnnamedLine line.field t.offer (offer_demands (participants ms))) (same unnamed.0).0 unnamed.1) met
      ]

  -- a place that a line refuses to some members isn't that of settings which meet more
  pub place_refused : (strict : Bool) (some all : List Member) (p : HeapPlace) (line : LineFacts) (t : Settings) → IsSublist some all
      → IsPlace platform.heaps t.place p.heap → p.place ≡ t.place → RefusesPlace some p line → ¬ (MeetsAs strict platform (participants all) t)
  place_refused strict some all p line t among here same refuses met =
      let these = named_of some all line.nodes refuses.0 among refuses.1 in
      laws.place strict platform refuses.0 (participants all) line.field p.heap t these here (rw (sym same) refuses.2) met

  -- a conflict of some members leaves none to more
  conflict_clash : (d : Forest Member) (c : Conflict) → IsConflict platform d c → (strict : Bool) (all : List Member) (t : Settings) → IsSublist (settled d) all
      → (is_none (choices d) ≡ true → (settled d ≡ all) × (strict ≡ true)) → ¬ (MeetsAs strict platform (participants all) t)
  conflict_clash d (Count line) conflict strict all t among same met =
      laws.count strict platform conflict.0 (participants all) line.field (named_of (settled d) all line.nodes conflict.0 among conflict.1) conflict.2 t met
  conflict_clash d (Places lines) conflict strict all t among same met =
      let m : MeetsLoosely platform (participants all) t = loosely strict platform all t met in
      let p : HeapPlace = record { place = t.place; heap = m.heap } in
      let line = zip_has (RefusesPlace (settled d)) (places_of platform.heaps) lines p conflict ((listed_is_place platform.heaps t.place m.heap).0 m.sound.place) in
      place_refused strict (settled d) all p line.0 t among m.sound.place refl line.1 met
  conflict_clash d (Offers lines) conflict strict all t among same met =
      let m : MeetsLoosely platform (participants all) t = loosely strict platform all t met in
      let line = zip_has (RefusesOffer (is_none (choices d)) (settled d)) (offers_of platform) lines t.offer conflict m.sound.offer in
      offer_refused (is_none (choices d)) strict (settled d) all line.0 t among same line.1 met
  conflict_clash d (Fixed field node) conflict strict all t among same met = conflict

  -- where no group is left, the members of a selection are what is settled
  same_end : (d e : Forest Member) (cs : List ℕ) → IsSelection d cs e → is_none (choices d) ≡ true → settled d ≡ settled e
  same_end d e cs s whole = by (choices d) refl whole where
    by : (o : Option (List (Forest Member))) → choices d ≡ o → is_none o ≡ true → settled d ≡ settled e
    by None is none = ap settled (whole_alone d e cs is s).1
    by (Some es) is none = absurd (cc (none))

  -- a conflict of an initial domain is true
  pub conflict_unmet : (d : Forest Member) (c : Conflict) → IsConflict platform d c → IsForestUnmet (MeetsFor platform None) d
  conflict_unmet d c conflict sel e t s =
      conflict_clash d c conflict true (settled e) t (settled_grows sel d e s.leads) (λ whole. (same_end d e sel s whole, refl))

  -- and it leaves none to what is settled
  pub conflict_leaves_none : (d : Forest Member) (c : Conflict) → IsConflict platform d c → (t : Settings) → ¬ (MeetsAs (is_none (choices d)) platform (participants (settled d)) t)
  conflict_leaves_none d c conflict t = conflict_clash d c conflict (is_none (choices d)) (settled d) t (sub_itself (settled d)) (λ whole. (refl, whole))
