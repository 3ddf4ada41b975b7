-- The field that a name names.
use Rattle.std.proofs.Common.{rules, ◌≡◌, ℕ, true, List, Option, Some, sym, ap, ◌∙◌, ◌↔◌, bytes_eq}
use Rattle.std.proofs.lemmas.Slice.Eq.{bytes_eq-Decides}
use Rattle.serde_json.specs.Data.{Data}
use Rattle.serde_json.specs.Find.{as_str}
use Rattle.sysmem_counts.specs.declared.field.Field.{Field}
use Rattle.sysmem_counts.specs.declared.field.TheConstants.Field.{ALL as all_fields}
use Rattle.list_lemmas.proofs.Each.{found_own}
use Rattle.list_lemmas.specs.Each.{ListsEach}
use Rattle.sysmem_counts.specs.Field.{field_name}
use Rattle.record_reading.specs.Reading.Names.{find_named}
use Rattle.sysmem_sanitise.proofs.CallerLemmas.{named_by}
use Rattle.certificate_text.specs.Fields.{field_named}
use Rattle.certificate_text.specs.Reading.{◌>>=◌, at_key, named_at}

-- each is listed once
listed_fields : ListsEach field_name all_fields
listed_fields f = search rules

-- each is found by its own name
own_field : (f : Field) → find_named field_name all_fields (field_name f) ≡ Some f
own_field f = found_own field_name all_fields listed_fields f

pub own_name : (f : Field) → field_named (field_name f) ≡ Some f
unfolding field_named
own_name f = own_field f

pub field_found : (name : List ℕ) (found : Option Field) → ((f : Field) → (found ≡ Some f) ↔ (name ≡ field_name f)) → found ≡ field_named name
unfolding field_named
field_found name found exact = named_by field_name all_fields name found own_field exact

-- the field whose name is the text at a key
pub named_so : (key : List ℕ) (d : Data) (name : List ℕ) (f : Field) → Some name ≡ at_key key as_str d → bytes_eq (field_name f) name ≡ true → Some f ≡ named_at key field_named d
named_so key d name f here same = sym (own_name f) ∙ ap field_named ((bytes_eq-Decides (field_name f) name).0 same) ∙ ap (λ o. o >>= field_named) here
