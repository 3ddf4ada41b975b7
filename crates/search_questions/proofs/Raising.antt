-- Counts of lists with a property, put together.
use Rattle.std.proofs.Common.{◌≡◌, ◌≢◌, ◌⊎◌, ℕ, zero, suc, ◌+◌, ◌<◌, List, [], ◌∷◌, ◌++◌, length, map, min, refl, sym, ◌∙◌, ap, subst, arith, inl, inr, length-append}
use Rattle.std.specs.Prelude.{Contains, slice_index_or}
use Rattle.std.specs.List.{AllByRecursion}
use Rattle.std.proofs.lemmas.List.{length-map}
use Rattle.std.proofs.lemmas.List.Elements.{Contains-append_left, Contains-append_right}
use Rattle.search_questions.specs.Visits.{AllDiffer, IsRaised}

-- what holds of each
pub each_weaken : (P Q : List ℕ → Type 0) (ps : List (List ℕ)) → ((q : List ℕ) → P q → Q q) → AllByRecursion P ps → AllByRecursion Q ps
each_weaken P Q [] h all = tt
each_weaken P Q (p ∷ ps) h all = (h p all.0, each_weaken P Q ps h all.1)

each_append : (P : List ℕ → Type 0) (ps qs : List (List ℕ)) → AllByRecursion P ps → AllByRecursion P qs → AllByRecursion P (ps ++ qs)
each_append P [] qs a b = b
each_append P (p ∷ ps) qs a b = (a.0, each_append P ps qs a.1 b)

each_after : (P Q : List ℕ → Type 0) (c : ℕ) (qs : List (List ℕ)) → ((q : List ℕ) → P q → Q (c ∷ q)) → AllByRecursion P qs → AllByRecursion Q (map (λ q. c ∷ q) qs)
each_after P Q c [] h all = tt
each_after P Q c (q ∷ qs) h all = (h q all.0, each_after P Q c qs h all.1)

-- lists that differ, together and behind one choice
differ_append : (ps qs : List (List ℕ)) → AllDiffer ps → AllDiffer qs → AllByRecursion (λ p. AllByRecursion (λ q. p ≢ q) qs) ps → AllDiffer (ps ++ qs)
differ_append [] qs a b h = b
differ_append (p ∷ ps) qs a b h = (each_append (λ q. p ≢ q) ps qs a.0 h.0, differ_append ps qs a.1 b h.1)

same_rest : (c : ℕ) (p q : List ℕ) → c ∷ p ≡ c ∷ q → p ≡ q
same_rest c p q e = cc

differ_after : (c : ℕ) (ps : List (List ℕ)) → AllDiffer ps → AllDiffer (map (λ q. c ∷ q) ps)
differ_after c [] h = tt
differ_after c (p ∷ ps) h = (each_after (λ q. p ≢ q) (λ q. c ∷ p ≢ q) c ps (λ q other e. other (same_rest c p q e)) h.0, differ_after c ps h.1)

-- none of the first begins with the choice
apart : (P : List ℕ → Type 0) (c : ℕ) (ps qs : List (List ℕ)) → ((q : List ℕ) → P (c ∷ q) → ⊥) → AllByRecursion P ps → AllByRecursion (λ p. AllByRecursion (λ q. p ≢ q) (map (λ q. c ∷ q) qs)) ps
apart P c ps qs off all = each_weaken P (λ p. AllByRecursion (λ q. p ≢ q) (map (λ q. c ∷ q) qs)) ps (λ p is. each_after (λ q. Unit {0}) (λ q. p ≢ q) c qs (λ q u e. off q (subst P e is)) (units qs)) all where
  units : (qs : List (List ℕ)) → AllByRecursion (λ q. Unit {0}) qs
  units [] = tt
  units (q ∷ qs) = (tt, units qs)

at_after : (c k : ℕ) (qs : List (List ℕ)) (q : List ℕ) → slice_index_or (map (λ x. c ∷ x) qs) k (c ∷ q) ≡ c ∷ slice_index_or qs k q
at_after c k [] q = refl
at_after c zero (x ∷ qs) q = refl
at_after c (suc k) (x ∷ qs) q = at_after c k qs q

has_after : (c : ℕ) (qs : List (List ℕ)) (q : List ℕ) → Contains qs q → Contains (map (λ x. c ∷ x) qs) (c ∷ q)
has_after c qs q (k, less, is) = (k, subst (λ n. k < n) (sym (length-map qs (λ x. c ∷ x))) less, at_after c k qs q ∙ ap (λ x. c ∷ x) is)

-- the same lists under another name of the property
pub raised_as : (P Q : List ℕ → Type 0) (m n : ℕ) → ((q : List ℕ) → P q → Q q) → ((q : List ℕ) → Q q → P q) → IsRaised P m n → IsRaised Q m n
raised_as P Q m n to from r = record {
  lists = r.lists;
  different = r.different;
  each = each_weaken P Q r.lists to r.each;
  all = λ q is. r.all q (from q is);
  many = r.many;
}

-- the empty list alone
pub raised_once : (P : List ℕ → Type 0) (m n : ℕ) → P [] → ((q : List ℕ) → P q → q ≡ []) → n ≡ min (m + 1) 18446744073709551615 → IsRaised P m n
raised_once P m n none only is = record {
  lists = [] ∷ [];
  different = (tt, tt);
  each = (none, tt);
  all = λ q p. (0, omega arith, sym (only q p));
  many = is;
}

-- first lists of which none begins with a choice, then lists behind that choice
pub raised_more : (P Q R : List ℕ → Type 0) (c m n k : ℕ) → ((q : List ℕ) → P q → R q) → ((q : List ℕ) → Q q → R (c ∷ q)) → ((q : List ℕ) → P (c ∷ q) → ⊥)
    → ((q : List ℕ) → R q → P q ⊎ ((rest : List ℕ) × (q ≡ c ∷ rest) × Q rest)) → IsRaised P m n → IsRaised Q n k → IsRaised R m k
raised_more P Q R c m n k first second off split r s = record {
  lists = r.lists ++ map (λ q. c ∷ q) s.lists;
  different = differ_append r.lists (map (λ q. c ∷ q) s.lists) r.different (differ_after c s.lists s.different) (apart P c r.lists s.lists off r.each);
  each = each_append R r.lists (map (λ q. c ∷ q) s.lists) (each_weaken P R r.lists first r.each) (each_after Q R c s.lists second s.each);
  all = λ q is. elim (split q is) [
    | inl p ↦ Contains-append_left r.lists (map (λ q. c ∷ q) s.lists) q (r.all q p)
    | inr on ↦ Contains-append_right r.lists (map (λ q. c ∷ q) s.lists) q (subst (Contains (map (λ q. c ∷ q) s.lists)) (sym on.1) (has_after c s.lists on.0 (s.all on.0 on.2)))
  ];
  many = sum (length r.lists) (length s.lists) (length (r.lists ++ map (λ q. c ∷ q) s.lists)) (length-append r.lists (map (λ q. c ∷ q) s.lists) ∙ ap (λ x. length r.lists + x) (length-map s.lists (λ q. c ∷ q))) r.many s.many;
} where
  sum : (a b both : ℕ) → both ≡ a + b → n ≡ min (m + a) 18446744073709551615 → k ≡ min (n + b) 18446744073709551615 → k ≡ min (m + both) 18446744073709551615
  sum a b both is one two = omega (arith, is, one, two)
