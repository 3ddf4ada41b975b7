-- What `==` calls equal is equal.
use Rattle.std.proofs.Common.{rules, ◌≡◌, ◌≢◌, ◌⊎◌, inl, inr, Bool, true, false, not, refl, sym, ◌∙◌, ap, Decides}
use Rattle.std.proofs.lemmas.Bool.Decides.{Decides-and, Decides-at, Decides-like, Decides-eqb}
use Rattle.sysmem_formats.specs.contracts.offer.OfferPartialEq.TheImpl as offer
use Rattle.sysmem_formats.specs.declared.offer.Offer.{Offer}
use Rattle.sysmem_formats.specs.declared.offer.Offer.TheVariants.{NoImage, Image}
use Rattle.sysmem_memory.specs.contracts.place.PlacePartialEq.TheImpl as place
use Rattle.sysmem_memory.specs.declared.place.Place.{Place}
use Rattle.sysmem_merge.specs.contracts.settings.Settings.{the_type as settings_type}
use Rattle.sysmem_merge.specs.contracts.settings.SettingsPartialEq.TheImpl as settings
use Rattle.sysmem_merge.specs.declared.settings.Settings.{Settings}
use Rattle.verdict_claims.specs.Chosen.{ChosenFacts}
use Rattle.sysmem_sanitise.proofs.CallerLemmas.{same_bounds, same_colour, same_pair}

-- a test that tells one fact tells each that is true with it
told : {P Q : Type 0} (r : Bool) → Decides r P → (P → Q) → (Q → P) → Decides r Q
told r parts to from = Decides-like r to from parts

pub same_offer : (a b : Offer) → Decides (offer.ghosts.eq a b) (a ≡ b)
same_offer NoImage NoImage = (λ e. refl, λ e. refl)
same_offer NoImage (Image q d) = (λ e. cc, λ e. cc)
same_offer (Image p c) NoImage = (λ e. cc, λ e. cc)
same_offer (Image p c) (Image q d) =
    let parts = Decides-and _ _ (same_pair p q) (same_colour c d) in
    told (offer.ghosts.eq (Image p c) (Image q d)) parts (λ e. cc) (λ e. (cc, cc))

true_false : (u : Bool) → u ≡ true → u ≡ false → ⊥
true_false true a b = cc (b)
true_false false a b = cc (a)

-- so offers are equal or not
pub offer_cases : (a b : Offer) → (a ≡ b) ⊎ (a ≢ b)
offer_cases a b = by (offer.ghosts.eq a b) refl where
  by : (t : Bool) → offer.ghosts.eq a b ≡ t → (a ≡ b) ⊎ (a ≢ b)
  by true is = inl ((same_offer a b).0 is)
  by false is = inr (λ same. true_false (offer.ghosts.eq a b) ((same_offer a b).1 same) is)

same_place : (a b : Place) → Decides (place.ghosts.eq a b) (a ≡ b)
same_place a b = search rules

pub same_settings : (a b : Settings) → Decides (settings.ghosts.eq a b) (a ≡ b)
same_settings a b =
    let parts = Decides-and _ _ (same_offer a.offer b.offer) (Decides-and _ _ (same_place a.place b.place) (Decides-and _ _ (Decides-eqb a.count b.count)
    (Decides-and _ _ (Decides-eqb a.size_bytes b.size_bytes) (same_bounds a.bounds b.bounds)))) in
    told (settings.ghosts.eq a b) parts (λ p. settings_type.to_one a b (cc))
    (λ e. (ap (λ (x : Settings). x.offer) e, (ap (λ (x : Settings). x.place) e, (ap (λ (x : Settings). x.count) e, (ap (λ (x : Settings). x.size_bytes) e, ap (λ (x : Settings). x.bounds) e)))))

not_no : (t u : Bool) → t ≡ not u → t ≡ false → u ≡ true
not_no t true is no' = refl
not_no t false is no' = absurd (cc (is, no'))

not_yes : (t u : Bool) → t ≡ not u → t ≡ true → u ≡ false
not_yes t true is yes' = absurd (cc (is, yes'))
not_yes t false is yes' = refl

-- where they aren't told to differ they are equal
pub equal_where : (a b : Settings) (t : Bool) → t ≡ not (settings.ghosts.eq a b) → t ≡ false → a ≡ b
equal_where a b t is no' = (same_settings a b).0 (not_no t (settings.ghosts.eq a b) is no')

pub differ_where : (a b : Settings) (t : Bool) → t ≡ not (settings.ghosts.eq a b) → t ≡ true → a ≢ b
differ_where a b t is yes' same = true_false (settings.ghosts.eq a b) ((same_settings a b).1 same) (not_yes t (settings.ghosts.eq a b) is yes')

-- what chose is equal where its selections are and its settings are told to be
pub same_chosen : (a b : ChosenFacts) (x y : Settings) (t : Bool) → a.selection ≡ b.selection → t ≡ settings.ghosts.eq x y → x ≡ a.settings → y ≡ b.settings → Decides t (a ≡ b)
same_chosen a b x y t selection is one two =
    Decides-like t (λ e i. record { selection = selection i; settings = (sym one ∙ (e ∙ two)) i }) (λ e. one ∙ (ap (λ (c : ChosenFacts). c.settings) e ∙ sym two))
    (Decides-at t (settings.ghosts.eq x y) is (same_settings x y))
