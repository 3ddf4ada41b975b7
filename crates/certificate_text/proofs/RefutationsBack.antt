-- Lines, conflicts, refutations and certificates are read of what is told of them.
use Rattle.std.proofs.Common.{◌≡◌, ℕ, ◌-◌, ◌^◌, ◌≤◌, List, [], ◌∷◌, map, All, Option, Some, codes, option_map, refl, ap, ◌∙◌, arith, le-leb}
use Rattle.std.proofs.lemmas.List.Elements.{All-head, All-tail, All-cons}
use Rattle.serde_json.specs.Data.{Data}
use Rattle.serde_json.specs.Find.{get, as_str}
use Rattle.serde_json.specs.View.{items_of}
use Rattle.sysmem_counts.specs.declared.field.Field.{Field}
use Rattle.verdict_claims.specs.declared.conflict.Conflict.{Conflict}
use Rattle.verdict_claims.specs.declared.conflict.Conflict.TheVariants.{Count, Places, Offers, Fixed}
use Rattle.verdict_claims.specs.declared.refutation.Item.{Item}
use Rattle.verdict_claims.specs.declared.refutation.Item.TheVariants.{Split, Leaf}
use Rattle.verdict_claims.specs.Line.{LineFacts}
use Rattle.certificate_text.specs.Bounds.{count_data}
use Rattle.certificate_text.specs.CanBeRead.{HasSteps, NamesNodes, IsReadableConflict, IsReadableItem, IsReadableRefutation}
use Rattle.certificate_text.specs.Fields.{field_named}
use Rattle.certificate_text.specs.Reading.{◌>>=◌, is_object_of, number_to, each_said, list_said, at_key, named_at}
use Rattle.certificate_text.specs.Said.{node_said, named_said, line_said, fixed_by, conflict_said, item_said, refutation_said, earlier_said}
use Rattle.certificate_text.specs.Told.{list_data, path_data, paths_data, field_data, line_data, lines_data, conflict_data, item_data, refutation_data, earlier_data}
use Rattle.certificate_text.proofs.Names.{own_name}
use Rattle.certificate_text.proofs.PathsBack.{path_back}

-- what is said first, and what is said with it
pub first : {A B : Type 0} (r : Option A) (x : A) (next : A → Option B) (o : Option B) → r ≡ Some x → next x ≡ o → (r >>= next) ≡ o
first r x next o is rest = ap (λ r. r >>= next) is ∙ rest

-- each item is read, where each can be
pub each_back : {A : Type 0} (told : A → Data) (said : Data → Option A) (P : A → Type 0) → ((x : A) → P x → said (told x) ≡ Some x)
    → (xs : List A) → All P xs → list_said said (list_data told xs) ≡ Some xs
each_back told said P back [] each = refl
each_back told said P back (x ∷ xs) each =
    first (said (told x)) x _ _ (back x (All-head P x xs each))
    (first (each_said said (items_of (map told xs))) xs _ _ (each_back told said P back xs (All-tail P x xs each)) refl)

-- what stands at a key is read
pub at_back : {A : Type 0} (key : List ℕ) (said : Data → Option A) (d e : Data) (x : A) → get key d ≡ Some e → said e ≡ Some x → at_key key said d ≡ Some x
at_back key said d e x stands is = first (get key d) e said (Some x) stands is

pub number_back : (most n : ℕ) → n ≤ most → number_to most (count_data n) ≡ Some n
number_back most n fits = rw (le-leb n most fits) refl

-- ---- lines and conflicts

-- a field and nodes under their keys
named_back : (kind : List ℕ) (d : Data) (field : Field) (nodes : List (List ℕ)) → is_object_of 2 d ≡ Some tt → get kind d ≡ Some (field_data field)
    → get (codes "nodes") d ≡ Some (paths_data nodes) → All HasSteps nodes → named_said kind d ≡ Some (record { field = field; nodes = nodes })
named_back kind d field nodes two at_kind at_nodes steps =
    first (is_object_of 2 d) tt _ _ two
    (first (named_at kind field_named d) field _ _ (ap (λ e. (e >>= as_str) >>= field_named) at_kind ∙ own_name field)
    (first (at_key (codes "nodes") (list_said node_said) d) nodes _ _
    (at_back (codes "nodes") (list_said node_said) d (paths_data nodes) nodes at_nodes (each_back path_data node_said HasSteps path_back nodes steps)) refl))

pub line_back : (line : LineFacts) → NamesNodes line → line_said (line_data line) ≡ Some line
line_back line names = named_back (codes "field") (line_data line) line.field line.nodes refl refl refl names

pub lines_back : (lines : List LineFacts) → All NamesNodes lines → list_said line_said (lines_data lines) ≡ Some lines
lines_back lines each = each_back line_data line_said NamesNodes line_back lines each

one_node : (node : List ℕ) → HasSteps node → All HasSteps (node ∷ [])
one_node node steps = All-cons HasSteps node [] steps (λ k d within. absurd (omega (arith, within)))

pub conflict_back : (c : Conflict) → IsReadableConflict c → conflict_said (conflict_data c) ≡ Some c
conflict_back (Count line) can = ap (option_map Count) (named_back (codes "count") (conflict_data (Count line)) line.field line.nodes refl refl refl can)
conflict_back (Fixed field node) can =
    ap (λ o. o >>= (λ line. fixed_by line.field line.nodes)) (named_back (codes "fixed") (conflict_data (Fixed field node)) field (node ∷ []) refl refl refl (one_node node can))
conflict_back (Places lines) can = ap (option_map Places) (lines_back lines can)
conflict_back (Offers lines) can = ap (option_map Offers) (lines_back lines can)

-- ---- refutations

leaf_back : (c : Conflict) → IsReadableConflict c → item_said (item_data (Leaf c)) ≡ Some (Leaf c)
leaf_back (Count line) can = ap (option_map Leaf) (conflict_back (Count line) can)
leaf_back (Fixed field node) can = ap (option_map Leaf) (conflict_back (Fixed field node) can)
leaf_back (Places lines) can = ap (option_map Leaf) (conflict_back (Places lines) can)
leaf_back (Offers lines) can = ap (option_map Leaf) (conflict_back (Offers lines) can)

item_back : (i : Item) → IsReadableItem i → item_said (item_data i) ≡ Some i
item_back (Split n) can = first (number_to (2 ^ 64 - 1) (count_data n)) n (λ n. Some (Split n)) _ (number_back (2 ^ 64 - 1) n can) refl
item_back (Leaf conflict) can = leaf_back conflict can

pub refutation_back : (items : List Item) → IsReadableRefutation items → refutation_said (refutation_data items) ≡ Some items
refutation_back items each = each_back item_data item_said IsReadableItem item_back items each

pub earlier_back : (refutations : List (List Item)) → All IsReadableRefutation refutations → earlier_said (earlier_data refutations) ≡ Some refutations
earlier_back refutations each = each_back refutation_data refutation_said IsReadableRefutation refutation_back refutations each
