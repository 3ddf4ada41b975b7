-- Marks that are set one after the other, and that past the last node none is open.
use Rattle.std.proofs.Common.{◌≡◌, ◌≤◌, ◌<◌, ℕ, zero, suc, ◌+◌, Bool, false, List, [], ◌∷◌, length, replicate, None, get_or, slice_get, slice_set, sym, ◌∙◌, ap, refl, arith, inl, inr}
use Rattle.std.specs.Prelude.{option_map, unwrap_or}
use Rattle.std.proofs.lemmas.Bool.{cases_eq, cases_lt}
use Rattle.std.proofs.lemmas.Grind.{get_or-set_at}
use Rattle.std.proofs.lemmas.List.{get_or-set_other, length-set}
use Rattle.sysmem_tree.specs.Node.{NodeFacts}
use Rattle.book_events.specs.Open.{is_open}

-- the marks before i are set by a test, the others aren't set
pub record AreSet (f : ℕ → Bool) (marks : List Bool) (i : ℕ) : Type 0 where
  pub long : length marks ≡ 128
  pub before : (k : ℕ) → k < i → get_or marks k false ≡ f k
  pub behind : (k : ℕ) → i ≤ k → get_or marks k false ≡ false

none_marked : (many k : ℕ) → get_or (replicate many false) k false ≡ false
none_marked zero k = refl
none_marked (suc many) zero = refl
none_marked (suc many) (suc k) = none_marked many k

-- where no mark is set, those before the first are set by any test
pub set_none : (f : ℕ → Bool) (marks : List Bool) → length marks ≡ 128 → ((k : ℕ) → get_or marks k false ≡ false) → AreSet f marks 0
set_none f marks long none = record { long = long; before = λ k less. absurd (omega (arith, less)); behind = λ k _. none k }

-- of 128 marks that are all false, and of those that aren't there, none is set
pub none_of : (k : ℕ) → get_or (replicate 128 false) k false ≡ false
none_of k = none_marked 128 k

-- one mark more is set by the test
pub set_more : (f : ℕ → Bool) (marks : List Bool) (i : ℕ) (b : Bool) → i < 128 → b ≡ f i → AreSet f marks i → AreSet f (slice_set marks i b) (i + 1)
set_more f marks i b small is s = record {
  long = length-set marks i b ∙ s.long;
  before = λ k less. elim (cases_eq k i) [
    | inl e ↦ get_or-set_at marks i k b false e (omega (arith, small, s.long)) ∙ (is ∙ ap f (sym e))
    | inr other ↦ get_or-set_other marks i k b false other ∙ s.before k (omega (arith, less, other))
  ];
  behind = λ k more. get_or-set_other marks i k b false (λ e. omega (arith, e, more)) ∙ s.behind k (omega (arith, more));
}

-- where the test fails from i on, each mark is what the test says
pub set_all : (f : ℕ → Bool) (marks : List Bool) (i : ℕ) → ((k : ℕ) → i ≤ k → f k ≡ false) → AreSet f marks i → (k : ℕ) → get_or marks k false ≡ f k
set_all f marks i past s k = elim (cases_lt k i) [ inl less ↦ s.before k less | inr more ↦ s.behind k more ∙ sym (past k more) ]

-- a list has no item past its end
pub past_end : {X : Type 0} (xs : List X) (k : ℕ) → length xs ≤ k → slice_get xs k ≡ None
past_end [] k more = refl
past_end (x ∷ xs) zero more = absurd (omega (arith, more))
past_end (x ∷ xs) (suc k) more = past_end xs k (omega (arith, more))

-- no number from the list's length on is that of an open node
pub open_past : (nodes : List NodeFacts) (many k : ℕ) → length nodes ≤ many → many ≤ k → is_open nodes k ≡ false
open_past nodes many k few more = ap (λ o. unwrap_or (option_map (λ (n : NodeFacts). n.state.is_open) o) false) (past_end nodes k (omega (arith, few, more)))
