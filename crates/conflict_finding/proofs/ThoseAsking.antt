-- What those who ask something of offers ask is what all ask.
use Rattle.std.proofs.Common.{◌≡◌, ◌≤◌, ◌<◌, ℕ, ◌+◌, Bool, true, false, List, [], ◌∷◌, ◌++◌, length, Option, Some, None, take, get_or, slice_get, refl, sym, ◌∙◌, ap, subst, append-nil, arith}
use Rattle.std.specs.Prelude.{◌||◌, ◌==◌, not, All, IfSome, filter, is_some, option_map}
use Rattle.std.specs.Option.{option_map_or}
use Rattle.std.specs.List.{cons_option, list_any}
use Rattle.std.proofs.lemmas.Bool.{eqb-true, ne_eqb}
use Rattle.std.proofs.lemmas.List.Elements.{All-nil, All-cons, All-head, All-tail, All-append, filter-append, filter_map-append}
use Rattle.sysmem_formats.specs.declared.offer.Offer.{Offer}
use Rattle.sysmem_formats.specs.declared.offer.Offer.TheVariants.{NoImage, Image}
use Rattle.sysmem_image.specs.declared.entry.Entry.{Entry}
use Rattle.sysmem_image.specs.Read.{AreRead}
use Rattle.sysmem_merge.specs.declared.offer_read.OfferRead.{OfferRead}
use Rattle.offer_fits.specs.Demands.{OfferDemand, offer_demand, offer_demands}
use Rattle.sysmem_merge.specs.OfferRead.{IsOfferRead}
use Rattle.offer_fits.specs.Offers.{has_format, has_colour, bounds_asked, entry_bounds, names_format, names_modifier, names_colour}
use Rattle.sysmem_image.specs.Entries.{effective, first_match, takes_colour}
use Rattle.negotiation_inputs.specs.Participant.{Participant}
use Rattle.sysmem_tree.specs.Node.{NodeFacts}
use Rattle.sysmem_tree.specs.Nodes.{HasNode}
use Rattle.verdict_claims.specs.Members.{participants, member_at, members_at}
use Rattle.conflict_finding.specs.Askers.{asks_offers, is_asker}
use Rattle.conflict_finding.proofs.AskedNodes.{asked_more, asked_one, node_there}

-- who asks nothing has no entries, and takes any size
record Asks_nothing (d : OfferDemand) : Type 0 where
  entries : d.entries ≡ []
  least : d.min_size_bytes ≡ 0
  greatest : d.max_size_bytes ≡ 18446744073709551615

both_false : (a b : Bool) → (a || b) ≡ false → (a ≡ false) × (b ≡ false)
both_false false b is = (refl, is)
both_false true b is = absurd (cc)

no_number : (n m : ℕ) → not (n == m) ≡ false → n ≡ m
no_number n m is = by (n == m) refl is where
  by : (t : Bool) → (n == m) ≡ t → not t ≡ false → n ≡ m
  by true at no' = eqb-true n m at
  by false at no' = absurd (cc)

no_entries : (es : List Entry) → not (length es == 0) ≡ false → es ≡ []
no_entries [] no' = refl
no_entries (e ∷ es) no' = absurd (cc (no', ap not (ne_eqb (length (e ∷ es)) 0 (λ same. omega (arith, same)))))

asks_nothing : (d : OfferDemand) → asks_offers d ≡ false → Asks_nothing d
asks_nothing d no' =
    let (front, c) = both_false (not (length d.entries == 0) || not (d.min_size_bytes == 0)) (not (d.max_size_bytes == 18446744073709551615)) no' in
    let (a, b) = both_false (not (length d.entries == 0)) (not (d.min_size_bytes == 0)) front in
    record { entries = no_entries d.entries a; least = no_number d.min_size_bytes 0 b; greatest = no_number d.max_size_bytes 18446744073709551615 c }

-- one more who asks something, or doesn't
filter_in : (p : Participant) (ps : List Participant) → is_asker p ≡ true → filter is_asker (p ∷ ps) ≡ p ∷ filter is_asker ps
filter_in p ps is = rw is refl

filter_out : (p : Participant) (ps : List Participant) → is_asker p ≡ false → filter is_asker (p ∷ ps) ≡ filter is_asker ps
filter_out p ps is = rw is refl

-- what those have who ask something and each has who asks nothing, all have
pub all_take : (P : Participant → Type 0) → ((p : Participant) → is_asker p ≡ false → P p) → (ps : List Participant) → All P (filter is_asker ps) → All P ps
all_take P own [] all = All-nil P
all_take P own (p ∷ ps) all = by (is_asker p) refl (all_take P own ps) where
  by : (t : Bool) → is_asker p ≡ t → (All P (filter is_asker ps) → All P ps) → All P (p ∷ ps)
  by true is rest = let here : All P (p ∷ filter is_asker ps) = subst (All P) (filter_in p ps is) all in
      All-cons P p ps (All-head P p (filter is_asker ps) here) (rest (All-tail P p (filter is_asker ps) here))
  by false is rest = All-cons P p ps (own p is) (rest (subst (All P) (filter_out p ps is) all))

module _ (Q : OfferDemand → Type 0) where
  each_in : ((d : OfferDemand) → asks_offers d ≡ false → Q d) → (ps : List Participant) → All Q (offer_demands (filter is_asker ps)) → All Q (offer_demands ps)
  each_in own [] all = All-nil Q
  each_in own (p ∷ ps) all = by (is_asker p) refl (each_in own ps) where
    by : (t : Bool) → is_asker p ≡ t → (All Q (offer_demands (filter is_asker ps)) → All Q (offer_demands ps)) → All Q (offer_demands (p ∷ ps))
    by true is rest = let here : All Q (offer_demand p ∷ offer_demands (filter is_asker ps)) = subst (λ qs. All Q (offer_demands qs)) (filter_in p ps is) all in
        All-cons Q (offer_demand p) (offer_demands ps) (All-head Q (offer_demand p) (offer_demands (filter is_asker ps)) here) (rest (All-tail Q (offer_demand p) (offer_demands (filter is_asker ps)) here))
    by false is rest = All-cons Q (offer_demand p) (offer_demands ps) (own (offer_demand p) is) (rest (subst (λ qs. All Q (offer_demands qs)) (filter_out p ps is) all))

  each_back : (ps : List Participant) → All Q (offer_demands ps) → All Q (offer_demands (filter is_asker ps))
  each_back [] all = All-nil Q
  each_back (p ∷ ps) all = by (is_asker p) refl (each_back ps (All-tail Q (offer_demand p) (offer_demands ps) all)) where
    by : (t : Bool) → is_asker p ≡ t → All Q (offer_demands (filter is_asker ps)) → All Q (offer_demands (filter is_asker (p ∷ ps)))
    by true is rest = subst (λ qs. All Q (offer_demands qs)) (sym (filter_in p ps is)) (All-cons Q (offer_demand p) (offer_demands (filter is_asker ps)) (All-head Q (offer_demand p) (offer_demands ps) all) rest)
    by false is rest = subst (λ qs. All Q (offer_demands qs)) (sym (filter_out p ps is)) rest

any_same : (g : OfferDemand → Bool) → ((d : OfferDemand) → asks_offers d ≡ false → g d ≡ false) → (ps : List Participant)
    → list_any g (offer_demands (filter is_asker ps)) ≡ list_any g (offer_demands ps)
any_same g own [] = refl
any_same g own (p ∷ ps) = by (is_asker p) refl (any_same g own ps) where
  by : (t : Bool) → is_asker p ≡ t → list_any g (offer_demands (filter is_asker ps)) ≡ list_any g (offer_demands ps) → list_any g (offer_demands (filter is_asker (p ∷ ps))) ≡ list_any g (offer_demands (p ∷ ps))
  by true is rest = ap (λ qs. list_any g (offer_demands qs)) (filter_in p ps is) ∙ ap (λ t. g (offer_demand p) || t) rest
  by false is rest = ap (λ qs. list_any g (offer_demands qs)) (filter_out p ps is) ∙ (rest ∙ ap (λ t. t || list_any g (offer_demands ps)) (sym (own (offer_demand p) is)))

bounds_same : (o : Offer) (ps : List Participant) → bounds_asked o (offer_demands (filter is_asker ps)) ≡ bounds_asked o (offer_demands ps)
bounds_same o [] = refl
bounds_same o (p ∷ ps) = by (is_asker p) refl (bounds_same o ps) where
  by : (t : Bool) → is_asker p ≡ t → bounds_asked o (offer_demands (filter is_asker ps)) ≡ bounds_asked o (offer_demands ps)
      → bounds_asked o (offer_demands (filter is_asker (p ∷ ps))) ≡ bounds_asked o (offer_demands (p ∷ ps))
  by true is rest = ap (λ qs. bounds_asked o (offer_demands qs)) (filter_in p ps is) ∙ ap (λ bs. cons_option (entry_bounds o (offer_demand p)) bs) rest
  by false is rest = ap (λ qs. bounds_asked o (offer_demands qs)) (filter_out p ps is)
      ∙ (rest ∙ ap (λ (es : List Entry). cons_option (option_map (effective o) (first_match o es)) (bounds_asked o (offer_demands ps))) (sym (asks_nothing (offer_demand p) is).entries))

module _ (o : Offer) where
  -- who asks nothing takes each offer, and names none
  has_each : (d : OfferDemand) → asks_offers d ≡ false → not (has_format o d) ≡ false
  has_each d no' = ap (λ (es : List Entry). not (length es == 0 || is_some (first_match o es))) (asks_nothing d no').entries

  takes_each : (d : OfferDemand) → asks_offers d ≡ false → not (has_colour o d) ≡ false
  takes_each d no' = ap (λ (es : List Entry). not (option_map_or (takes_colour o) (first_match o es) true)) (asks_nothing d no').entries

  no_format : (d : OfferDemand) → asks_offers d ≡ false → names_format (first_match o d.entries) ≡ false
  no_format d no' = ap (λ (es : List Entry). names_format (first_match o es)) (asks_nothing d no').entries

  no_modifier : (d : OfferDemand) → asks_offers d ≡ false → names_modifier (first_match o d.entries) ≡ false
  no_modifier d no' = ap (λ (es : List Entry). names_modifier (first_match o es)) (asks_nothing d no').entries

  by_none : (f : Offer) → names_colour f None ≡ false
  by_none NoImage = refl
  by_none (Image pair colour) = refl

  no_colour : (d : OfferDemand) → asks_offers d ≡ false → names_colour o (first_match o d.entries) ≡ false
  no_colour d no' = ap (λ (es : List Entry). names_colour o (first_match o es)) (asks_nothing d no').entries ∙ by_none o

  pub has_format_too : (p : Participant) → is_asker p ≡ false → has_format o (offer_demand p) ≡ true
  has_format_too p no' = ap (λ (es : List Entry). length es == 0 || is_some (first_match o es)) (asks_nothing (offer_demand p) no').entries

  pub has_colour_too : (p : Participant) → is_asker p ≡ false → has_colour o (offer_demand p) ≡ true
  has_colour_too p no' = ap (λ (es : List Entry). option_map_or (takes_colour o) (first_match o es) true) (asks_nothing (offer_demand p) no').entries

  -- so what is read of the others is read of all
  pub read_of_all : (ps : List Participant) (read : OfferRead) → IsOfferRead o (offer_demands (filter is_asker ps)) read → IsOfferRead o (offer_demands ps) read
  read_of_all ps read r = record {
    offer = r.offer;
    bounds = subst (λ bs. AreRead o bs read.bounds) (bounds_same o ps) r.bounds;
    format = r.format ∙ any_same (λ d. not (has_format o d)) has_each ps;
    colour = r.colour ∙ any_same (λ d. not (has_colour o d)) takes_each ps;
    format_named = r.format_named ∙ any_same (λ d. names_format (first_match o d.entries)) no_format ps;
    modifier_named = r.modifier_named ∙ any_same (λ d. names_modifier (first_match o d.entries)) no_modifier ps;
    colour_named = r.colour_named ∙ any_same (λ d. names_colour o (first_match o d.entries)) no_colour ps;
    sizes = record {
      low = λ size. (
        λ le. each_in (λ d. d.min_size_bytes ≤ size) (λ d no'. (let none = (asks_nothing d no').least in omega (arith, none))) ps ((r.sizes.low size).0 le),
        λ all. (r.sizes.low size).1 (each_back (λ d. d.min_size_bytes ≤ size) ps all),
      );
      high = λ size small. (
        λ le. each_in (λ d. size ≤ d.max_size_bytes) (λ d no'. (let most = (asks_nothing d no').greatest in omega (arith, most, small))) ps ((r.sizes.high size small).0 le),
        λ all. (r.sizes.high size small).1 (each_back (λ d. size ≤ d.max_size_bytes) ps all),
      );
    };
  }

-- those so far who ask something, with one more or without
module _ (nodes : List NodeFacts) (ns : List ℕ) (k n : ℕ) (inside : k < length ns) (here : n ≡ get_or ns k n) (there : All (HasNode nodes) ns) (o : Option Participant)
    (asks : IfSome (slice_get nodes n) (λ x. o ≡ x.constraints)) (t : Bool) (is : t ≡ option_map_or is_asker o false) where
  one_of_all : filter is_asker (participants (members_at nodes (take k ns))) ++ filter is_asker (cons_option o []) ≡ filter is_asker (participants (members_at nodes (take (k + 1) ns)))
  one_of_all = sym (filter-append is_asker (participants (members_at nodes (take k ns))) (cons_option o [])) ∙ ap (filter is_asker) (asked_more nodes ns k n inside here there o asks)

  pub ask_more : t ≡ true → (some : List ℕ) → participants (members_at nodes some) ≡ filter is_asker (participants (members_at nodes (take k ns)))
      → participants (members_at nodes (some ++ n ∷ [])) ≡ filter is_asker (participants (members_at nodes (take (k + 1) ns)))
  ask_more yes' some so = ap participants (filter_map-append (member_at nodes) some (n ∷ []))
      ∙ (filter_map-append (λ m. m.constraints) (members_at nodes some) (members_at nodes (n ∷ []))
      ∙ (ap (λ ps. participants (members_at nodes some) ++ ps) (asked_one nodes n o (node_there nodes ns k n inside here there) asks ∙ sym (kept o (sym is ∙ yes')))
      ∙ (ap (λ ps. ps ++ filter is_asker (cons_option o [])) so ∙ one_of_all))) where
        kept : (u : Option Participant) → option_map_or is_asker u false ≡ true → filter is_asker (cons_option u []) ≡ cons_option u []
        kept None e = absurd (cc)
        kept (Some p) e = filter_in p [] e

  pub ask_past : t ≡ false → (some : List ℕ) → participants (members_at nodes some) ≡ filter is_asker (participants (members_at nodes (take k ns)))
      → participants (members_at nodes some) ≡ filter is_asker (participants (members_at nodes (take (k + 1) ns)))
  ask_past no' some so = so ∙ (sym (append-nil (filter is_asker (participants (members_at nodes (take k ns)))))
      ∙ (ap (λ ps. filter is_asker (participants (members_at nodes (take k ns))) ++ ps) (sym (left_out o (sym is ∙ no'))) ∙ one_of_all)) where
        left_out : (u : Option Participant) → option_map_or is_asker u false ≡ false → filter is_asker (cons_option u []) ≡ []
        left_out None e = refl
        left_out (Some p) e = filter_out p [] e

pub one_pushed : (P : ℕ → Type 0) (xs new : List ℕ) (x : ℕ) → new ≡ xs ++ x ∷ [] → All P xs → P x → All P new
one_pushed P xs new x is all own = subst (All P) (sym is) (All-append P xs (x ∷ []) all (All-cons P x [] own (All-nil P)))
