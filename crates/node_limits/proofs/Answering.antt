-- What an action is answered within limits.
use Rattle.std.proofs.Common.{◌≡◌, ℕ, Bool, true, false, ◌&&◌, List, [], ◌∷◌, None, Result, Ok, Err, refl, ◌∙◌, ap}
use Rattle.std.specs.Prelude.{is_some, option_map, unwrap_or, nat_le}
use Rattle.std.specs.Result.{result_err}
use Rattle.sysmem_tree.specs.declared.action.ActionKind.{ActionKind}
use Rattle.sysmem_tree.specs.declared.refusal.Refusal.{Refusal}
use Rattle.sysmem_tree.specs.declared.refusal.Refusal.TheVariants.{TooManyNodes}
use Rattle.sysmem_tree.specs.Node.{NodeFacts}
use Rattle.sysmem_tree.specs.Table.{makes}
use Rattle.sysmem_tree.specs.Tree.{Applied}
use Rattle.node_limits.specs.declared.limits.Limits.{Limits}
use Rattle.node_limits.specs.Limits.{is_full, is_spent, offspring, unless_spent}

-- too many nodes, where the tree refuses it for nothing
pub refused_beyond : (spent : Bool) (r : Result Applied Refusal) → spent ≡ true → result_err r ≡ None → unless_spent spent r ≡ Err TooManyNodes
refused_beyond true (Ok after) is none = refl
refused_beyond true (Err refusal) is none = absurd (cc)
refused_beyond false r is none = absurd (cc)

-- the tree's own answer, where the limits aren't spent
pub free_answer : (spent : Bool) (r : Result Applied Refusal) → spent ≡ false → unless_spent spent r ≡ r
free_answer true r is = absurd (cc)
free_answer false (Ok after) is = refl
free_answer false (Err refusal) is = refl

-- or where the tree refuses it
pub refused_answer : (spent : Bool) (r : Result Applied Refusal) → is_some (result_err r) ≡ true → unless_spent spent r ≡ r
refused_answer spent (Ok after) some = absurd (cc)
refused_answer true (Err refusal) some = refl
refused_answer false (Err refusal) some = refl

-- what is accepted within limits is accepted, and they weren't spent
pub accepted_within : (spent : Bool) (r : Result Applied Refusal) (after : Applied) → unless_spent spent r ≡ Ok after → (r ≡ Ok after) × (spent ≡ false)
accepted_within true (Ok other) after is = absurd (cc)
accepted_within true (Err refusal) after is = absurd (cc)
accepted_within false (Ok other) after is = (is, refl)
accepted_within false (Err refusal) after is = absurd (cc)

-- what makes no node spends none
pub unspent_by : (limits : Limits) (nodes : List NodeFacts) (path : List ℕ) (kind : ActionKind) → is_some (makes kind) ≡ false → is_spent limits nodes path kind ≡ false
unspent_by limits nodes [] act none = refl
unspent_by limits nodes (top ∷ rest) act none = ap (λ b. b && is_full limits nodes top) none

-- no limits are never spent
pub unlimited : (limits : Limits) (nodes : List NodeFacts) (path : List ℕ) (kind : ActionKind) → limits.offspring ≡ None → is_spent limits nodes path kind ≡ false
unlimited limits nodes [] act none = refl
unlimited limits nodes (top ∷ rest) act none =
    ap (λ o. is_some (makes act) && unwrap_or (option_map (λ most. nat_le most (offspring nodes top)) o) false) none ∙ never (is_some (makes act)) where
      never : (b : Bool) → (b && false) ≡ false
      never true = refl
      never false = refl
