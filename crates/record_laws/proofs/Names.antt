-- Each name names what it is the name of.
use Rattle.std.proofs.Common.{rules, ◌≡◌, ℕ, List, Option, Some, None, Ok, refl, ap}
use Rattle.std.specs.Prelude.{ok_or}
use Rattle.serde_json.specs.Data.{string}
use Rattle.sysmem_counts.specs.declared.field.Field.{Field}
use Rattle.sysmem_formats.specs.declared.modifier.Modifier.{Modifier}
use Rattle.sysmem_formats.specs.declared.pixel_format.PixelFormat.{PixelFormat}
use Rattle.sysmem_formats.specs.Names.{format_name, modifier_name}
use Rattle.record_reading.specs.declared.fault.Code.TheVariants.{UnknownName}
use Rattle.record_reading.specs.Faults.{wrong}
use Rattle.record_reading.specs.Reading.Fields.{named}
use Rattle.record_reading.specs.Reading.Names.{format_named, modifier_named, choice_named}
use Rattle.record_laws.specs.Records.{choice}

pub named_stated : {X : Type 0} (find : List ℕ → Option X) (field : Field) (name : List ℕ) (x : X) → find name ≡ Some x → named find field (string name) ≡ Ok x
named_stated find field name x is = ap (λ o. ok_or o (wrong UnknownName field)) is

pub format_choice : (field : Field) (f : Option PixelFormat) → named (choice_named format_named) field (choice format_name f) ≡ Ok f
unfolding format_named
format_choice field None = refl
format_choice field (Some f) = search rules

pub modifier_choice : (field : Field) (m : Option Modifier) → named (choice_named modifier_named) field (choice modifier_name m) ≡ Ok m
unfolding modifier_named
modifier_choice field None = refl
modifier_choice field (Some m) = search rules
