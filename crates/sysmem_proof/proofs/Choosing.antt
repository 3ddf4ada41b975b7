-- A choice fails as its parts do, in their order.
use Rattle.std.proofs.Common.{◌≡◌, inl, inr, ℕ, true, List, Option, Some, None, sym, ap, subst}
use Rattle.std.specs.Prelude.{◌↔◌, MatchResult, Ok, Err, Result, option_map}
use Rattle.sysmem_merge.specs.declared.settings.Settings.{Settings}
use Rattle.negotiation_inputs.specs.Platform.{PlatformFacts, offers_of}
use Rattle.sysmem_tree.specs.Forest.{Forest, settled}
use Rattle.sysmem_tree.specs.Node.{NodeFacts}
use Rattle.sysmem_tree.specs.Selection.{IsSelection}
use Rattle.sysmem_tree.specs.Shape.{Member}
use Rattle.verdict_claims.specs.declared.no.No.{No}
use Rattle.verdict_claims.specs.Base.{BaseFacts, Terms, terms_of}
use Rattle.verdict_claims.specs.Certificate.{HasNoLines, HoldBefore, RefutesEarlier, RefusePlacesBefore, RefuseBefore, RefuseBeforeFor}
use Rattle.verdict_claims.specs.CertificateFacts.{CertificateFacts}
use Rattle.verdict_claims.specs.Check.{ChoicePasses, IsLeastAt, IsLeastFor}
use Rattle.sysmem_proof.specs.Choice.{FormFaults, SelectedFaults, SelectedPasses}
use Rattle.verdict_claims.specs.Conflict.{IsConflictFor, RefusesOffer}
use Rattle.verdict_claims.specs.Fault.{AreFew, ChoiceFaults, EarlierFaults, Faults, HasFittingLines, IsSelected, LinesFaults, NoFault, PlacesFault, SettingsFaults}
use Rattle.verdict_claims.specs.Line.{LineFacts}
use Rattle.verdict_claims.specs.Members.{participants}
use Rattle.verdict_claims.specs.Verdict.{MeetsFixed}
use Rattle.verdict_claims.specs.declared.refutation.Item.{Item}

module _ (platform : PlatformFacts) (d : Forest Member) (selection : List ℕ) (s : Settings) (certificate : CertificateFacts) where
  module _ (terms : Option Terms) (e : Forest Member) (selects : IsSelection d selection e) where
    -- its settings
    settings_only : (terms : Option Terms) (ms : List Member) (others : Faults) (why : No) → SettingsFaults platform terms ms s NoFault why → SettingsFaults platform terms ms s others why
    settings_only None ms others why (inl f) = inl f
    settings_only None ms others why (inr (met, inl f)) = inr (met, inl f)
    settings_only None ms others why (inr (met, inr (least, f))) = absurd f
    settings_only (Some t) ms others why (inl f) = inl f
    settings_only (Some t) ms others why (inr (met, f)) = absurd f

    settings_then : (terms : Option Terms) (ms : List Member) (others : Faults) (why : No) → IsLeastFor platform terms ms s → others why → SettingsFaults platform terms ms s others why
    settings_then None ms others why least f = inr (least.meets, inr (least, f))
    settings_then (Some t) ms others why least f = inr (least, f)

    pub settings_fail : (why : No) → SettingsFaults platform terms (settled e) s NoFault why → SelectedFaults platform terms d selection s certificate why
    settings_fail why f = record { members = e; selects = selects; fault = settings_only terms (settled e) _ why f }

    module _ (least : IsLeastFor platform terms (settled e) s) where
      -- what is earlier
      pub earlier_fails : (why : No) → EarlierFaults platform terms d selection certificate.earlier why → SelectedFaults platform terms d selection s certificate why
      earlier_fails why f = record { members = e; selects = selects; fault = settings_then terms (settled e) _ why least (inl f) }

      module _ (earlier : RefutesEarlier (IsConflictFor platform terms) d selection certificate.earlier) where
        -- the lines
        pub lines_fail : (why : No) → LinesFaults platform terms (settled e) s certificate why → SelectedFaults platform terms d selection s certificate why
        lines_fail why f = record { members = e; selects = selects; fault = settings_then terms (settled e) _ why least (inr (earlier, f)) }

        pub all_pass : RefuseBeforeFor platform terms (settled e) s certificate → SelectedPasses platform terms d selection s certificate
        all_pass before = (
          record { members = e; selects = selects; least = least },
          record { members = e; selects = selects; earlier = earlier; before = before },
        )

  -- the form comes first
  pub form_fails : (terms : Option Terms) (why : No) → FormFaults terms d selection certificate why → ChoiceFaults platform terms d selection s certificate why
  form_fails terms why (inl f) = inl f
  form_fails terms why (inr (few, inl f)) = inr (few, inl f)
  form_fails terms why (inr (few, inr (selected, f))) = inr (few, inr (selected, inl f))

  pub then_fails : (terms : Option Terms) (why : No) → AreFew d × IsSelected d selection × HasFittingLines terms certificate → SelectedFaults platform terms d selection s certificate why
      → ChoiceFaults platform terms d selection s certificate why
  then_fails terms why (few, selected, fitting) f = inr (few, inr (selected, inr (fitting, f)))

-- the lines for offers, and then those for places
pub lines_both : {A : Type 0} (platform : PlatformFacts) (ms : List Member) (s : Settings) (certificate : CertificateFacts) (offers places : List LineFacts) (result : Result A No) → offers ≡ certificate.offers → places ≡ certificate.places
    → HoldBefore (RefusesOffer true ms) (offers_of platform) s.offer offers → MatchResult result (λ _. RefusePlacesBefore platform ms s places) (PlacesFault platform ms s places)
    → MatchResult result (λ _. RefuseBefore platform ms s certificate) (LinesFaults platform None ms s certificate)
lines_both {A} platform ms s certificate offers places result one two held told = by result (subst (λ ls. MatchResult result (λ _. RefusePlacesBefore platform ms s ls) (PlacesFault platform ms s ls)) two told) where
  here : HoldBefore (RefusesOffer true ms) (offers_of platform) s.offer certificate.offers
  here = subst (HoldBefore (RefusesOffer true ms) (offers_of platform) s.offer) one held

  by : (r : Result A No) → MatchResult r (λ _. RefusePlacesBefore platform ms s certificate.places) (PlacesFault platform ms s certificate.places)
      → MatchResult r (λ _. RefuseBefore platform ms s certificate) (LinesFaults platform None ms s certificate)
  by (Ok x) f = record { offers = here; places = f }
  by (Err why) f = inr (here, f)

-- the lines of a choice come last, or what is earlier does where it has none
module _ {A : Type 0} (platform : PlatformFacts) (d : Forest Member) (selection : List ℕ) (s : Settings) (certificate : CertificateFacts) (e : Forest Member) (selects : IsSelection d selection e) where
  abbrev Whole : Option Terms → Result A No → Type 0
  Whole terms result = MatchResult result (λ _. SelectedPasses platform terms d selection s certificate) (SelectedFaults platform terms d selection s certificate)

  pub lines_told : (terms : Option Terms) (result : Result A No) → None ≡ terms → IsLeastFor platform None (settled e) s → RefutesEarlier (IsConflictFor platform terms) d selection certificate.earlier
      → MatchResult result (λ _. RefuseBefore platform (settled e) s certificate) (LinesFaults platform None (settled e) s certificate) → Whole terms result
  lines_told terms result none least earlier told =
      subst (λ t. RefutesEarlier (IsConflictFor platform t) d selection certificate.earlier → Whole t result) none (λ earlier. by result earlier told) earlier where
        by : (r : Result A No) → RefutesEarlier (IsConflictFor platform None) d selection certificate.earlier
            → MatchResult r (λ _. RefuseBefore platform (settled e) s certificate) (LinesFaults platform None (settled e) s certificate) → Whole None r
        by (Ok x) r f = all_pass platform d selection s certificate None e selects least r f
        by (Err why) r f = lines_fail platform d selection s certificate None e selects least r why f

  pub earlier_told : (terms : Option Terms) (given : Terms) (result : Result A No) → Some given ≡ terms → IsLeastFor platform (Some given) (settled e) s → HasFittingLines terms certificate
      → MatchResult result (λ _. RefutesEarlier (IsConflictFor platform terms) d selection certificate.earlier) (EarlierFaults platform terms d selection certificate.earlier) → Whole terms result
  earlier_told terms given result some least fitting told =
      subst (λ t. HasFittingLines t certificate → MatchResult result (λ _. RefutesEarlier (IsConflictFor platform t) d selection certificate.earlier) (EarlierFaults platform t d selection certificate.earlier)
      → Whole t result) some (λ fitting told. by result fitting told) fitting told where
        by : (r : Result A No) → HasFittingLines (Some given) certificate
            → MatchResult r (λ _. RefutesEarlier (IsConflictFor platform (Some given)) d selection certificate.earlier) (EarlierFaults platform (Some given) d selection certificate.earlier) → Whole (Some given) r
        by (Ok x) fitting f = all_pass platform d selection s certificate (Some given) e selects least f fitting
        by (Err why) fitting f = earlier_fails platform d selection s certificate (Some given) e selects least why f

-- the form, and then the rest
pub form_then : {A : Type 0} (platform : PlatformFacts) (terms : Option Terms) (d : Forest Member) (selection : List ℕ) (s : Settings) (certificate : CertificateFacts) (result : Result A No)
    → AreFew d × IsSelected d selection × HasFittingLines terms certificate → MatchResult result (λ _. SelectedPasses platform terms d selection s certificate) (SelectedFaults platform terms d selection s certificate)
    → MatchResult result (λ _. ChoicePasses platform terms d selection s certificate) (ChoiceFaults platform terms d selection s certificate)
form_then platform terms d selection s certificate (Ok x) form f = (form.0, f.0, f.1)
form_then platform terms d selection s certificate (Err why) form f = then_fails platform d selection s certificate terms why form f

-- whether a certificate has lines only where there are some to have
pub fitting_none : (nodes : List NodeFacts) (base : Option BaseFacts) (certificate : CertificateFacts) → None ≡ base → HasFittingLines (option_map (terms_of nodes) base) certificate
fitting_none nodes base certificate is = subst (λ b. HasFittingLines (option_map (terms_of nodes) b) certificate) is tt

pub fitting_some : (nodes : List NodeFacts) (base : Option BaseFacts) (b : BaseFacts) (certificate : CertificateFacts) → Some b ≡ base → HasNoLines certificate ↔ HasFittingLines (option_map (terms_of nodes) base) certificate
fitting_some nodes base b certificate is = subst (λ x. HasNoLines certificate ↔ HasFittingLines (option_map (terms_of nodes) x) certificate) is ((λ h. h), (λ h. h))

-- what is told of the settings of a choice, by what they are read from
module _ (platform p : PlatformFacts) (d : Forest Member) (selection : List ℕ) (s t : Settings) (certificate : CertificateFacts) (e : Forest Member) (selects : IsSelection d selection e) (one : p ≡ platform) (two : t ≡ s) where
  pub initial_fails : (terms : Option Terms) (why : No) → None ≡ terms → SettingsFaults p None (settled e) t NoFault why → SelectedFaults platform terms d selection s certificate why
  initial_fails terms why none f = subst (λ x. SelectedFaults platform x d selection s certificate why) none (settings_fail platform d selection s certificate None e selects why
      (subst (λ (x : Settings). SettingsFaults platform None (settled e) x NoFault why) two (subst (λ x. SettingsFaults x None (settled e) t NoFault why) one f)))

  pub least_told : IsLeastAt p (participants (settled e)) t → IsLeastAt platform (participants (settled e)) s
  least_told least = subst (λ (x : Settings). IsLeastAt platform (participants (settled e)) x) two (subst (λ x. IsLeastAt x (participants (settled e)) t) one least)

  pub attached_fails : (terms : Option Terms) (given : Terms) (why : No) → Some given ≡ terms → SettingsFaults p (Some given) (settled e) t NoFault why → SelectedFaults platform terms d selection s certificate why
  attached_fails terms given why some f = subst (λ x. SelectedFaults platform x d selection s certificate why) some (settings_fail platform d selection s certificate (Some given) e selects why
      (subst (λ (x : Settings). SettingsFaults platform (Some given) (settled e) x NoFault why) two (subst (λ x. SettingsFaults x (Some given) (settled e) t NoFault why) one f)))

  pub kept_told : (given : Terms) → MeetsFixed p given (settled e) t → MeetsFixed platform given (settled e) s
  kept_told given met = subst (λ (x : Settings). MeetsFixed platform given (settled e) x) two (subst (λ x. MeetsFixed x given (settled e) t) one met)

  -- the lines
  pub lines_read : {A : Type 0} (ms : List Member) (result : Result A No) → ms ≡ settled e → MatchResult result (λ _. RefuseBefore p ms t certificate) (LinesFaults p None ms t certificate)
      → MatchResult result (λ _. RefuseBefore platform (settled e) s certificate) (LinesFaults platform None (settled e) s certificate)
  lines_read ms result three told =
      subst (λ xs. MatchResult result (λ _. RefuseBefore platform xs s certificate) (LinesFaults platform None xs s certificate)) three
      (subst (λ (x : Settings). MatchResult result (λ _. RefuseBefore platform ms x certificate) (LinesFaults platform None ms x certificate)) two
      (subst (λ x. MatchResult result (λ _. RefuseBefore x ms t certificate) (LinesFaults x None ms t certificate)) one told))

-- what is told of earlier selections
pub earlier_read : {A : Type 0} (platform : PlatformFacts) (terms : Option Terms) (d : Forest Member) (xs selection : List ℕ) (rs earlier : List (List (List Item))) (result : Result A No) → xs ≡ selection → rs ≡ earlier
    → MatchResult result (λ _. RefutesEarlier (IsConflictFor platform terms) d xs rs) (EarlierFaults platform terms d xs rs)
    → MatchResult result (λ _. RefutesEarlier (IsConflictFor platform terms) d selection earlier) (EarlierFaults platform terms d selection earlier)
earlier_read platform terms d xs selection rs earlier result one two told =
    subst (λ x. MatchResult result (λ _. RefutesEarlier (IsConflictFor platform terms) d selection x) (EarlierFaults platform terms d selection x)) two
    (subst (λ x. MatchResult result (λ _. RefutesEarlier (IsConflictFor platform terms) d x rs) (EarlierFaults platform terms d x rs)) one told)

-- what is earlier, of an initial domain
pub earlier_wrong : (platform : PlatformFacts) (terms : Option Terms) (d : Forest Member) (selection : List ℕ) (s : Settings) (certificate : CertificateFacts) (e : Forest Member) → IsSelection d selection e
    → None ≡ terms → IsLeastAt platform (participants (settled e)) s → (xs : List ℕ) (rs : List (List (List Item))) (why : No) → xs ≡ selection → rs ≡ certificate.earlier
    → EarlierFaults platform terms d xs rs why → SelectedFaults platform terms d selection s certificate why
earlier_wrong platform terms d selection s certificate e selects none least xs rs why one two f =
    subst (λ t. EarlierFaults platform t d selection certificate.earlier why → SelectedFaults platform t d selection s certificate why) none
    (λ f. earlier_fails platform d selection s certificate None e selects least why f)
    (subst (λ x. EarlierFaults platform terms d selection x why) two (subst (λ x. EarlierFaults platform terms d x rs why) one f))

pub earlier_holds : (platform : PlatformFacts) (terms : Option Terms) (d : Forest Member) (selection : List ℕ) (certificate : CertificateFacts) (xs : List ℕ) (rs : List (List (List Item))) → xs ≡ selection
    → rs ≡ certificate.earlier → RefutesEarlier (IsConflictFor platform terms) d xs rs → RefutesEarlier (IsConflictFor platform terms) d selection certificate.earlier
earlier_holds platform terms d selection certificate xs rs one two h =
    subst (λ x. RefutesEarlier (IsConflictFor platform terms) d selection x) two (subst (λ x. RefutesEarlier (IsConflictFor platform terms) d x rs) one h)

-- the terms of a domain without a base, and with one
pub no_terms : (nodes : List NodeFacts) (base : Option BaseFacts) → base ≡ None → None ≡ option_map (terms_of nodes) base
no_terms nodes base is = sym (ap (option_map (terms_of nodes)) is)

pub some_terms : (nodes : List NodeFacts) (base : Option BaseFacts) (b : BaseFacts) → base ≡ Some b → Some (terms_of nodes b) ≡ option_map (terms_of nodes) base
some_terms nodes base b is = sym (ap (option_map (terms_of nodes)) is)
