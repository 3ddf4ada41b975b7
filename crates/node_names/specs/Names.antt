-- Names of nodes.
use Rattle.std.specs.Prelude.{◌≡◌, ◌≢◌, ◌==◌, ℕ, zero, suc, ◌&&◌, ◌||◌, not, Bool, true, false, List, [], ◌∷◌, ◌++◌}
use Rattle.std.specs.Prelude.{Option, filter, find, option_map, length, nat_eq, nat_le, bytes_eq, codes, unwrap_or}
use Rattle.std.specs.Prelude.{if◌then◌else◌}
use Rattle.std.specs.Fmt.{decimal}
use Rattle.std.specs.List.{AllByRecursion, list_all, list_any}

-- a node's number, and the name that it was given
pub record NamedNode : Type 0 where
  pub node : ℕ
  pub name : List ℕ

-- the name of a node that was given none: `root`, or `n` and its number
abbrev pub own_name : ℕ → List ℕ
own_name zero = codes "root"
own_name (suc k) = codes "n" ++ decimal (suc k)

-- an ASCII digit
abbrev pub is_digit : ℕ → Bool
is_digit b = nat_le 48 b && nat_le b 57

-- an ASCII letter or digit, `_` or `-`
abbrev pub is_name_byte : ℕ → Bool
is_name_byte b = (nat_le 97 b && nat_le b 122) || (nat_le 65 b && nat_le b 90) || is_digit b
    || nat_eq b 95 || nat_eq b 45

-- `n` and digits
abbrev pub is_numbered : List ℕ → Bool
is_numbered [] = false
is_numbered (b ∷ bs) = nat_eq b 110 && list_all is_digit bs

-- 1 to 32 such bytes, which aren't what a node is called that was given no name
abbrev pub is_name : List ℕ → Bool
is_name name = nat_le 1 (length name) && nat_le (length name) 32 && list_all is_name_byte name
    && not (bytes_eq name (codes "root")) && not (is_numbered name)

-- no node and no name are the same
pub record Differ (a b : NamedNode) : Type 0 where
  pub node : a.node ≢ b.node
  pub name : a.name ≢ b.name

-- each is a name, each node has one, and no two have the same
abbrev pub AreNames : List NamedNode → Type 0
AreNames [] = Unit {0}
AreNames (n ∷ ns) = (is_name n.name ≡ true) × AllByRecursion (Differ n) ns × AreNames ns

-- the name that a node was given, if it was
abbrev pub given_name : List NamedNode → ℕ → Option (List ℕ)
given_name ns k = option_map (λ n. n.name) (find (λ n. n.node == k) ns)

-- what a node is called
abbrev pub name_of : List NamedNode → ℕ → List ℕ
name_of ns k = unwrap_or (given_name ns k) (own_name k)

-- another node has the name
abbrev pub is_taken : List NamedNode → ℕ → List ℕ → Bool
is_taken ns k name = list_any (λ n. not (n.node == k) && bytes_eq n.name name) ns

-- the names after a node was given one: those of the others, and this one behind them
abbrev pub with_name : List NamedNode → ℕ → List ℕ → List NamedNode
with_name ns k name =
    filter (λ n. not (n.node == k)) ns ++ record { node = k; name = name } ∷ []
