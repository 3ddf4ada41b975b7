-- The nodes after an action, as they are written.
use Rattle.std.proofs.Common.{◌≡◌, ℕ, ◌<◌, Bool, true, false, List, [], ◌∷◌, ◌++◌, length, Option, Some, None, map, option_map, slice_get, slice_set, take, drop, get_or, refl, sym, ◌∙◌, ap, subst, append-nil}
use Rattle.std.specs.Prelude.{IfSome, Result, Ok, Err, if◌then◌else◌}
use Rattle.std.specs.Result.{result_err}
use Rattle.std.proofs.Math.Seq.{take-append_seam}
use Rattle.std.proofs.lemmas.Option.{slice_get_read, same_Some}
use Rattle.sysmem_tree.specs.declared.action.ActionKind.{ActionKind}
use Rattle.sysmem_tree.specs.declared.action.ActionKind.TheVariants.{Close}
use Rattle.sysmem_tree.specs.declared.domain.Domain.{Domain}
use Rattle.sysmem_tree.specs.declared.refusal.Refusal.{Refusal}
use Rattle.sysmem_tree.specs.declared.state.NodeState.{NodeState}
use Rattle.sysmem_tree.specs.ActionKind.{Deed, kind_of}
use Rattle.sysmem_tree.specs.Domain.{TreeFacts, is_ready}
use Rattle.sysmem_tree.specs.Node.{NodeFacts}
use Rattle.sysmem_tree.specs.Table.{makes}
use Rattle.sysmem_tree.specs.Tree.{Applied, closed_early, domains_after, new_node, nodes_made, nodes_after, node_after}

-- what holds of what is there
pub if_some : {X : Type 0} (P : X → Type 0) (o : Option X) (x : X) → o ≡ Some x → P x → IfSome o P
if_some P o x is holds = subst (λ r. IfSome r P) (sym is) holds

none_made : (number i : ℕ) (n : NodeFacts) (kind : ActionKind) (s : Option NodeState) → option_map (new_node number i n kind) s ≡ None → nodes_made number i n kind s ≡ []
none_made number i n _ None is = refl
none_made number i n _ (Some s) is = absurd (cc)

one_made : (number i : ℕ) (n t : NodeFacts) (kind : ActionKind) (s : Option NodeState) → option_map (new_node number i n kind) s ≡ Some t → nodes_made number i n kind s ≡ t ∷ []
one_made number i n t _ None is = absurd (cc)
one_made number i n t k (Some s) is = ap (λ x. x ∷ []) (same_Some (new_node number i n k s) t is)

-- where the node alone is written
pub acts_alone : (nodes : List NodeFacts) (i : ℕ) (x y m : NodeFacts) (deed : Deed) → i < length nodes → x ≡ get_or nodes i x → y ≡ get_or nodes i y
    → m ≡ node_after deed x → option_map (new_node (length nodes) i y (kind_of deed)) (makes (kind_of deed)) ≡ None
    → IfSome (slice_get nodes i) (λ n. slice_set nodes i m ≡ nodes_after nodes i n deed)
acts_alone nodes i x y m deed within at_x at_y is none =
    let here = slice_get_read nodes (length nodes) i x refl within at_x in
    let same : y ≡ x = same_Some y x (sym (slice_get_read nodes (length nodes) i y refl within at_y) ∙ here) in
    let gone = none_made (length nodes) i x (kind_of deed) (makes (kind_of deed)) (ap (λ z. option_map (new_node (length nodes) i z (kind_of deed)) (makes (kind_of deed))) (sym same) ∙ none) in
    if_some (λ n. slice_set nodes i m ≡ nodes_after nodes i n deed) (slice_get nodes i) x here
    (ap (slice_set nodes i) is ∙ (sym (append-nil (slice_set nodes i (node_after deed x))) ∙ ap (λ zs. slice_set nodes i (node_after deed x) ++ zs) (sym gone)))

-- where it makes one
pub acts_and_makes : (nodes items : List NodeFacts) (i : ℕ) (x y m t : NodeFacts) (deed : Deed) → i < length nodes → x ≡ get_or nodes i x → y ≡ get_or nodes i y
    → m ≡ node_after deed x → option_map (new_node (length nodes) i y (kind_of deed)) (makes (kind_of deed)) ≡ Some t → items ≡ slice_set nodes i m ++ t ∷ []
    → IfSome (slice_get nodes i) (λ n. items ≡ nodes_after nodes i n deed)
acts_and_makes nodes items i x y m t deed within at_x at_y is one put =
    let here = slice_get_read nodes (length nodes) i x refl within at_x in
    let same : y ≡ x = same_Some y x (sym (slice_get_read nodes (length nodes) i y refl within at_y) ∙ here) in
    let born = one_made (length nodes) i x t (kind_of deed) (makes (kind_of deed)) (ap (λ z. option_map (new_node (length nodes) i z (kind_of deed)) (makes (kind_of deed))) (sym same) ∙ one) in
    if_some (λ n. items ≡ nodes_after nodes i n deed) (slice_get nodes i) x here
    (put ∙ (ap (λ z. slice_set nodes i z ++ t ∷ []) is ∙ ap (λ zs. slice_set nodes i (node_after deed x) ++ zs) (sym born)))

-- what isn't refused is accepted
pub not_refused : (r : Result Applied Refusal) → result_err r ≡ None → (after : Applied) × (r ≡ Ok after)
not_refused (Ok after) none = (after, refl)
not_refused (Err refusal) none = absurd (cc)

-- what a call that makes a node was asked for, and answered
pub made_so : (nodes : List NodeFacts) (i many : ℕ) (n : NodeFacts) (kind : ActionKind) (deed : Deed) (o : Option NodeFacts) → many ≡ length nodes → kind ≡ kind_of deed
    → o ≡ option_map (new_node many i n kind) (makes kind) → option_map (new_node (length nodes) i n (kind_of deed)) (makes (kind_of deed)) ≡ o
made_so nodes i many n kind deed o long is given =
    sym (given ∙ (ap (λ z. option_map (new_node z i n kind) (makes kind)) long ∙ ap (λ z. option_map (new_node (length nodes) i n z) (makes z)) is))

-- a vector whose items were all written has what was written
pub all_written : {X : Type 0} (many : ℕ) (xs new : List X) → many ≡ length new → take many (new ++ drop (length new) xs) ≡ new
all_written many xs new same = rw same (take-append_seam new (drop (length new) xs))

-- a close in a domain that isn't ready
pub note_close : (nodes : List NodeFacts) (ds seen now new : List Domain) (i root : ℕ) (kind : ActionKind) (b : Bool) (x : NodeFacts) → i < length nodes → x ≡ get_or nodes i x
    → kind ≡ Close → root ≡ x.domain → seen ≡ ds → b ≡ is_ready (record { nodes = nodes; domains = seen }) root → b ≡ false → now ≡ ds → new ≡ map (closed_early root) now
    → IfSome (slice_get nodes i) (λ n. new ≡ domains_after (record { nodes = nodes; domains = ds }) n kind)
note_close nodes ds seen now new i root kind b x within read is home same ready unmet was put =
    let here = slice_get_read nodes (length nodes) i x refl within read in
    let t : TreeFacts = record { nodes = nodes; domains = ds } in
    let unready : is_ready t x.domain ≡ false =
    ap (is_ready t) (sym home) ∙ (ap (λ z. is_ready (record { nodes = nodes; domains = z }) root) (sym same) ∙ (sym ready ∙ unmet)) in
    if_some (λ n. new ≡ domains_after t n kind) (slice_get nodes i) x here
    (put ∙ (ap (map (closed_early root)) was ∙ (ap (λ z. map (closed_early z) ds) home
    ∙ (ap (λ z. if z then ds else map (closed_early x.domain) ds) (sym unready) ∙ ap (domains_after t x) (sym is)))))

-- and in one that is
pub note_release : (nodes : List NodeFacts) (ds seen : List Domain) (i root : ℕ) (kind : ActionKind) (b : Bool) (x : NodeFacts) → i < length nodes → x ≡ get_or nodes i x
    → kind ≡ Close → root ≡ x.domain → seen ≡ ds → b ≡ is_ready (record { nodes = nodes; domains = seen }) root → b ≡ true
    → IfSome (slice_get nodes i) (λ n. ds ≡ domains_after (record { nodes = nodes; domains = ds }) n kind)
note_release nodes ds seen i root kind b x within read is home same ready met =
    let here = slice_get_read nodes (length nodes) i x refl within read in
    let t : TreeFacts = record { nodes = nodes; domains = ds } in
    let fine : is_ready t x.domain ≡ true =
    ap (is_ready t) (sym home) ∙ (ap (λ z. is_ready (record { nodes = nodes; domains = z }) root) (sym same) ∙ (sym ready ∙ met)) in
    if_some (λ n. ds ≡ domains_after t n kind) (slice_get nodes i) x here
    (ap (λ z. if z then ds else map (closed_early x.domain) ds) (sym fine) ∙ ap (domains_after t x) (sym is))
