-- Paths as texts.
use Rattle.std.specs.Prelude.{ℕ, zero, suc, ◌+◌, ◌-◌, ◌*◌, ◌++◌, ◌&&◌, ◌==◌, min, List}
use Rattle.std.specs.Prelude.{[], ◌∷◌, Option, Some, None, codes, nat_le}
use Rattle.std.specs.Prelude.{option_and_then, option_map, if◌then◌else◌}
use Rattle.std.specs.Fmt.{decimal}
use Rattle.sysmem_counts.specs.Bounds.{most_number}

-- `/0/1`: each ordinal after a slash
abbrev pub steps_text : List ℕ → List ℕ
steps_text [] = []
steps_text (ordinal ∷ path) = (codes "/" ++ decimal ordinal) ++ steps_text path

-- `/` for the root, else its steps
abbrev pub path_text : List ℕ → List ℕ
path_text [] = codes "/"
path_text (ordinal ∷ path) = steps_text (ordinal ∷ path)

-- an ordinal with a further digit: none follows a 0. What is above 32 bits is read as their
-- greatest number, where no child is
abbrev pub with_digit : Option ℕ → ℕ → Option ℕ
with_digit None digit = Some digit
with_digit (Some zero) digit = None
with_digit (Some (suc n)) digit = Some (min (10 * suc n + digit) most_number)

-- the same of a byte
abbrev pub with_byte : Option ℕ → ℕ → Option ℕ
with_byte ordinal c = if nat_le 48 c && nat_le c 57 then with_digit ordinal (c - 48) else None

-- the ordinals of a text that goes on with an ordinal, of which so much was read
abbrev pub steps_said : Option ℕ → List ℕ → Option (List ℕ)
steps_said ordinal [] = option_map (λ n. n ∷ []) ordinal
steps_said ordinal (c ∷ text) =
    if c == 47
    then option_and_then (λ n. option_map (λ path. n ∷ path) (steps_said None text)) ordinal
    else option_and_then (λ n. steps_said (Some n) text) (with_byte ordinal c)

-- what stands after the first slash: nothing for the root
abbrev pub path_behind : List ℕ → Option (List ℕ)
path_behind [] = Some []
path_behind (c ∷ text) = steps_said None (c ∷ text)

-- the path of a text
abbrev pub path_said : List ℕ → Option (List ℕ)
path_said [] = None
path_said (c ∷ text) = if c == 47 then path_behind text else None
