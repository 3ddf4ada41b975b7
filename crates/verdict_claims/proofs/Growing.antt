-- What is settled by choices stays so.
use Rattle.std.proofs.Common.{◌≡◌, ℕ, zero, suc, List, [], ◌∷◌, ◌++◌, Option, Some, None, slice_get, map, subst}
use Rattle.std.specs.Prelude.{option_and_then}
use Rattle.std.specs.Option.{MatchOption}
use Rattle.std.specs.Bool.{⊤}
use Rattle.std.specs.List.{AllByRecursion}
use Rattle.std.proofs.lemmas.Option.{same_Some, none-some, option_and_then_some}
use Rattle.sysmem_tree.specs.Forest.{Forest, Empty, Plain, Group, each, kids_else_rest, choices, settled}
use Rattle.sysmem_tree.specs.Selection.{after}
use Rattle.sysmem_tree.specs.Sublist.{IsSublist, ended, taken, left_out}

-- lists with some elements left out
pub sub_itself : {X : Type 0} (xs : List X) → IsSublist xs xs
sub_itself [] = ended
sub_itself (x ∷ xs) = taken x xs xs (sub_itself xs)

pub sub_none : {X : Type 0} (xs : List X) → IsSublist [] xs
sub_none [] = ended
sub_none (x ∷ xs) = left_out x [] xs (sub_none xs)

pub sub_trans : {X : Type 0} {xs ys zs : List X} → IsSublist xs ys → IsSublist ys zs → IsSublist xs zs
sub_trans a ended = a
sub_trans a (left_out z _ zs b) = left_out z _ zs (sub_trans a b)
sub_trans (taken x xs _ a) (taken _ _ zs b) = taken x xs zs (sub_trans a b)
sub_trans (left_out _ xs _ a) (taken z _ zs b) = left_out z xs zs (sub_trans a b)

pub sub_both : {X : Type 0} (as' bs cs ds : List X) → IsSublist as' bs → IsSublist cs ds → IsSublist (as' ++ cs) (bs ++ ds)
sub_both _ _ cs ds ended b = b
sub_both _ _ cs ds (taken x xs ys a) b = taken x (xs ++ cs) (ys ++ ds) (sub_both xs ys cs ds a b)
sub_both _ _ cs ds (left_out x xs ys a) b = left_out x (xs ++ cs) (ys ++ ds) (sub_both xs ys cs ds a b)

module _ {A : Type 0} where
  abbrev Keeps : Forest A → Forest A → Type 0
  Keeps d e = IsSublist (settled d) (settled e)

  abbrev EachKeeps : Forest A → Option (List (Forest A)) → Type 0
  EachKeeps d o = MatchOption o ⊤ (AllByRecursion (Keeps d))

  map_all : (P Q : Forest A → Type 0) (f : Forest A → Forest A) → ((x : Forest A) → P x → Q (f x)) → (xs : List (Forest A)) → AllByRecursion P xs → AllByRecursion Q (map f xs)
  map_all P Q f step [] all = tt
  map_all P Q f step (x ∷ xs) all = (step x all.0, map_all P Q f step xs all.1)

  of_each : (P : Forest A → Type 0) → ((x : Forest A) → P x) → (xs : List (Forest A)) → AllByRecursion P xs
  of_each P all [] = tt
  of_each P all (x ∷ xs) = (all x, of_each P all xs)

  keeps_in : (n : A) (kids rest : Forest A) (ks rs : Option (List (Forest A))) → EachKeeps kids ks → EachKeeps rest rs
      → EachKeeps (Plain n kids rest) (kids_else_rest (λ k. Plain n k rest) (λ r. Plain n kids r) ks rs)
  keeps_in n kids rest (Some ks) rs a b = map_all (Keeps kids) (Keeps (Plain n kids rest)) (λ k. Plain n k rest)
      (λ k h. taken n (settled kids ++ settled rest) (settled k ++ settled rest) (sub_both (settled kids) (settled k) (settled rest) (settled rest) h (sub_itself (settled rest)))) ks a
  keeps_in n kids rest None (Some rs) a b = map_all (Keeps rest) (Keeps (Plain n kids rest)) (λ r. Plain n kids r)
      (λ r h. taken n (settled kids ++ settled rest) (settled kids ++ settled r) (sub_both (settled kids) (settled kids) (settled rest) (settled r) (sub_itself (settled kids)) h)) rs b
  keeps_in n kids rest None None a b = tt

  keeps : (d : Forest A) → EachKeeps d (choices d)
  keeps Empty = tt
  keeps (Plain n kids rest) = keeps_in n kids rest (choices kids) (choices rest) (keeps kids) (keeps rest)
  keeps (Group n kids rest) = map_all (λ kid. Unit {0}) (Keeps (Group n kids rest)) (λ kid. Plain n kid rest)
      (λ kid h. taken n (settled rest) (settled kid ++ settled rest) (sub_both [] (settled kid) (settled rest) (settled rest) (sub_none (settled kid)) (sub_itself (settled rest))))
      (each kids) (of_each (λ kid. Unit {0}) (λ kid. tt) (each kids))

  -- what each of a list has, the one at a place has
  pub all_at : (P : Forest A → Type 0) (es : List (Forest A)) (c : ℕ) (e : Forest A) → slice_get es c ≡ Some e → AllByRecursion P es → P e
  all_at P [] c e here all = absurd (none-some e here)
  all_at P (x ∷ es) zero e here all = subst P (same_Some x e here) all.0
  all_at P (x ∷ es) (suc c) e here all = all_at P es c e here all.1

  keeps_at : (d : Forest A) (es : List (Forest A)) (c : ℕ) (e : Forest A) → choices d ≡ Some es → slice_get es c ≡ Some e → Keeps d e
  keeps_at d es c e open' here = all_at (Keeps d) es c e here (subst (EachKeeps d) open' (keeps d))

  -- choices only add to what is settled
  pub settled_grows : (cs : List ℕ) (d e : Forest A) → after d cs ≡ Some e → IsSublist (settled d) (settled e)
  settled_grows [] d e leads = subst (λ x. IsSublist (settled d) (settled x)) (same_Some d e leads) (sub_itself (settled d))
  settled_grows (c ∷ cs) d e leads =
      option_and_then_some (λ x. after x cs) (option_and_then (λ ys. slice_get ys c) (choices d)) e leads (λ x hx hc.
      option_and_then_some (λ ys. slice_get ys c) (choices d) x hx (λ ys hy ha.
      sub_trans (keeps_at d ys c x hy ha) (settled_grows cs x e hc)))
