-- What a name names.
use Rattle.std.proofs.Common.{rules, ◌≡◌, ℕ, Bool, true, false, List, [], ◌∷◌, Option, Some, None, refl, sym, ap, ◌∙◌, ◌↔◌}
use Rattle.std.specs.Prelude.{cond}
use Rattle.std.specs.Bool.{Decides}
use Rattle.std.proofs.lemmas.Slice.Eq.{bytes_eq-Decides}
use Rattle.list_lemmas.proofs.Each.{found_own}
use Rattle.list_lemmas.specs.Each.{ListsEach}
use Rattle.sysmem_formats.specs.declared.colour_space.ColourSpace.{ColourSpace}
use Rattle.sysmem_formats.specs.declared.colour_space.TheConstants.ColourSpace.{ALL as colours}
use Rattle.sysmem_formats.specs.declared.modifier.Modifier.{Modifier}
use Rattle.sysmem_formats.specs.declared.modifier.TheConstants.Modifier.{ALL as modifiers}
use Rattle.sysmem_formats.specs.declared.pixel_format.PixelFormat.{PixelFormat}
use Rattle.sysmem_formats.specs.declared.pixel_format.TheConstants.PixelFormat.{ALL as formats}
use Rattle.sysmem_formats.specs.Names.{format_name, modifier_name, colour_name}
use Rattle.sysmem_memory.specs.declared.domain.CoherencyDomain.{CoherencyDomain}
use Rattle.sysmem_memory.specs.declared.domain.TheConstants.CoherencyDomain.{ALL as domains}
use Rattle.sysmem_memory.specs.Domain.{domain_name}
use Rattle.record_reading.specs.Reading.Names.{find_named, format_named, modifier_named, colour_named, domain_named}

-- a test that doesn't hold takes the other branch
not_first : {A : Type 0} (b : Bool) (P : Type 0) (x y : A) → Decides b P → (P → ⊥) → cond b x y ≡ y
not_first true P x y decides none = absurd (none (decides.0 refl))
not_first false P x y decides none = refl

-- a name that none has
none_named : {X : Type 0} (name_of : X → List ℕ) (xs : List X) (name : List ℕ) → ((x : X) → name ≡ name_of x → ⊥) → find_named name_of xs name ≡ None
none_named name_of [] name none = refl
none_named name_of (x ∷ xs) name none =
    not_first _ _ _ _ (bytes_eq-Decides (name_of x) name) (λ e. none x (sym e)) ∙ none_named name_of xs name none

-- what is found for exactly its own name is the one that has the name,
-- where each is found by its own name
pub named_by : {X : Type 0} (name_of : X → List ℕ) (xs : List X) (name : List ℕ) (found : Option X)
    → ((x : X) → find_named name_of xs (name_of x) ≡ Some x) → ((x : X) → (found ≡ Some x) ↔ (name ≡ name_of x)) → found ≡ find_named name_of xs name
named_by name_of xs name (Some x) own exact = sym (ap (find_named name_of xs) ((exact x).0 refl) ∙ own x)
named_by {X} name_of xs name None own exact = sym (none_named name_of xs name (λ x e. let h : None ≡ Some x = (exact x).1 e in absurd (cc)))

-- each is listed once
listed_formats : ListsEach format_name formats
listed_formats x = search rules

listed_modifiers : ListsEach modifier_name modifiers
listed_modifiers x = search rules

listed_colours : ListsEach colour_name colours
listed_colours x = search rules

listed_domains : ListsEach domain_name domains
listed_domains x = search rules

-- each is found by its own name
own_format : (x : PixelFormat) → find_named format_name formats (format_name x) ≡ Some x
own_format x = found_own format_name formats listed_formats x

own_modifier : (x : Modifier) → find_named modifier_name modifiers (modifier_name x) ≡ Some x
own_modifier x = found_own modifier_name modifiers listed_modifiers x

own_colour : (x : ColourSpace) → find_named colour_name colours (colour_name x) ≡ Some x
own_colour x = found_own colour_name colours listed_colours x

own_domain : (x : CoherencyDomain) → find_named domain_name domains (domain_name x) ≡ Some x
own_domain x = found_own domain_name domains listed_domains x

pub format_found : (name : List ℕ) (found : Option PixelFormat) → ((x : PixelFormat) → (found ≡ Some x) ↔ (name ≡ format_name x)) → found ≡ format_named name
unfolding format_named
format_found name found exact = named_by format_name formats name found own_format exact

pub modifier_found : (name : List ℕ) (found : Option Modifier) → ((x : Modifier) → (found ≡ Some x) ↔ (name ≡ modifier_name x)) → found ≡ modifier_named name
unfolding modifier_named
modifier_found name found exact = named_by modifier_name modifiers name found own_modifier exact

pub colour_found : (name : List ℕ) (found : Option ColourSpace) → ((x : ColourSpace) → (found ≡ Some x) ↔ (name ≡ colour_name x)) → found ≡ colour_named name
unfolding colour_named
colour_found name found exact = named_by colour_name colours name found own_colour exact

pub domain_found : (name : List ℕ) (found : Option CoherencyDomain) → ((x : CoherencyDomain) → (found ≡ Some x) ↔ (name ≡ domain_name x)) → found ≡ domain_named name
unfolding domain_named
domain_found name found exact = named_by domain_name domains name found own_domain exact

pub own_format_name : (x : PixelFormat) → format_named (format_name x) ≡ Some x
unfolding format_named
own_format_name x = own_format x

pub own_modifier_name : (x : Modifier) → modifier_named (modifier_name x) ≡ Some x
unfolding modifier_named
own_modifier_name x = own_modifier x

pub own_colour_name : (x : ColourSpace) → colour_named (colour_name x) ≡ Some x
unfolding colour_named
own_colour_name x = own_colour x

pub own_domain_name : (x : CoherencyDomain) → domain_named (domain_name x) ≡ Some x
unfolding domain_named
own_domain_name x = own_domain x
