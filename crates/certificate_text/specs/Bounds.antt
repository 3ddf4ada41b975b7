-- The bounds of settings as JSON data.
use Rattle.std.specs.Prelude.{ℕ, List, [], ◌∷◌, codes, if◌then◌else◌}
use Rattle.serde_json.specs.Data.{Data, number, unsigned, object, Members, no_members, member, put}
use Rattle.sysmem_counts.specs.Field.{field_name}
use Rattle.sysmem_image.specs.declared.bounds.ImageBounds.{ImageBounds}
use Rattle.sysmem_image.specs.Fields.{Bound, all_bounds, field_of, is_size, value}
use Rattle.sysmem_image.specs.Fields as side

-- a whole number
abbrev pub count_data : ℕ → Data
count_data n = number (unsigned n)

-- `{"height":H,"width":W}`
abbrev pub size_data : ℕ → ℕ → Data
size_data width height = object (member (codes "height") (count_data height)
    (member (codes "width") (count_data width) no_members))

-- the value of a field: both sides of a size, or a number
abbrev pub bound_data : ImageBounds → Bound → Data
bound_data b f =
    if is_size f then size_data (value f side.Width b) (value f side.Height b)
    else count_data (value f side.Width b)

-- these fields, each under its name and in the order of the names
abbrev pub bounds_members : ImageBounds → List Bound → Members
bounds_members b [] = no_members
bounds_members b (f ∷ fs) = put (field_name (field_of f)) (bound_data b f) (bounds_members b fs)

-- all fields of bounds
abbrev pub bounds_data : ImageBounds → Data
bounds_data b = object (bounds_members b all_bounds)
