-- Names of tokens and of actors.
use Rattle.std.specs.Prelude.{ℕ, ◌∷◌, ◌++◌, [], ◌&&◌, ◌||◌, Bool, List, length, nat_eq, nat_le}
use Rattle.std.specs.Prelude.{bytes_eq, codes, if◌then◌else◌}
use Rattle.std.specs.List.{list_all, list_any}

-- an ASCII letter or digit, `_` or `-`
abbrev pub is_name_byte : ℕ → Bool
is_name_byte b = (nat_le 97 b && nat_le b 122) || (nat_le 65 b && nat_le b 90)
    || (nat_le 48 b && nat_le b 57) || nat_eq b 95 || nat_eq b 45

-- a name has 1 to 32 of them
abbrev pub is_name : List ℕ → Bool
is_name text = nat_le 1 (length text) && nat_le (length text) 32 && list_all is_name_byte text

-- a name among others
abbrev pub is_among : List ℕ → List (List ℕ) → Bool
is_among name names = list_any (bytes_eq name) names

-- the actors, and one that may be among them
abbrev pub with_actor : List (List ℕ) → List ℕ → List (List ℕ)
with_actor actors actor = if is_among actor actors then actors else actors ++ actor ∷ []

-- the token that each script begins with
abbrev pub root : List ℕ
root = codes "root"

-- the actor of a call that names none
abbrev pub main_actor : List ℕ
main_actor = codes "main"
