-- Paths are read of the numbers that stand for them.
use Rattle.std.proofs.Common.{◌≡◌, ℕ, suc, ◌<◌, ◌≤◌, ◌+◌, ◌⊎◌, inl, inr, true, false, Result, Ok, Err, OnOk, nat_le, get_or, List, [], ◌∷◌, ◌++◌, length, take, drop, refl, sym, ◌∙◌, ap, arith, append-nil, length-append}
use Rattle.std.proofs.lemmas.List.{append_assoc, take_at, drop_at, drop_more, take_more, take-append-drop}
use Rattle.std.proofs.lemmas.Bool.{le-leb, lt-leb}
use Rattle.std.proofs.lemmas.Bool.Decides.{leb_tells}
use Rattle.std.specs.Prelude.{is_err}
use Rattle.verdict_claims.specs.PathList.{numbers_of, with_step, paths_from, paths_in, AreOfPaths}

-- the steps of the first path are read, and then the others
first_read : (path : List ℕ) (paths : List (List ℕ)) → paths_in (numbers_of paths) ≡ paths → paths_from (length path) (path ++ numbers_of paths) ≡ path ∷ paths
first_read [] [] are = refl
first_read [] (p ∷ ps) are = ap (λ xs. [] ∷ xs) are
first_read (n ∷ path) paths are = ap (with_step n) (first_read path paths are)

read_back : (paths : List (List ℕ)) → paths_in (numbers_of paths) ≡ paths
read_back [] = refl
read_back (path ∷ paths) = first_read path paths (read_back paths)

-- the numbers of one path more
one_more : (paths : List (List ℕ)) (path : List ℕ) → numbers_of (paths ++ path ∷ []) ≡ (numbers_of paths ++ length path ∷ []) ++ path
one_more [] path = ap (λ xs. length path ∷ xs) (append-nil path)
one_more (p ∷ ps) path = ap (λ xs. length p ∷ xs) (ap (λ xs. p ++ xs) (one_more ps path)
    ∙ (sym (append_assoc p (numbers_of ps ++ length path ∷ []) path) ∙ ap (λ xs. xs ++ path) (sym (append_assoc p (numbers_of ps) (length path ∷ [])))))

-- one path more, behind numbers of paths
pub added : (numbers : List ℕ) (path : List ℕ) → AreOfPaths numbers → paths_in ((numbers ++ length path ∷ []) ++ path) ≡ paths_in numbers ++ path ∷ []
added numbers path are = ap (λ xs. paths_in ((xs ++ length path ∷ []) ++ path)) are ∙ (ap paths_in (sym (one_more (paths_in numbers) path)) ∙ read_back (paths_in numbers ++ path ∷ []))

pub added_are : (numbers : List ℕ) (path : List ℕ) → AreOfPaths numbers → AreOfPaths ((numbers ++ length path ∷ []) ++ path)
added_are numbers path are = ap (λ xs. (xs ++ length path ∷ []) ++ path) are ∙ (sym (one_more (paths_in numbers) path) ∙ ap numbers_of (sym (added numbers path are)))

-- the numbers of one list of paths behind those of another
numbers_behind : (ps qs : List (List ℕ)) → numbers_of (ps ++ qs) ≡ numbers_of ps ++ numbers_of qs
numbers_behind [] qs = refl
numbers_behind (p ∷ ps) qs = ap (λ xs. length p ∷ xs) (ap (λ xs. p ++ xs) (numbers_behind ps qs) ∙ sym (append_assoc p (numbers_of ps) (numbers_of qs)))

module _ (one two : List ℕ) (first : AreOfPaths one) (second : AreOfPaths two) where
  together : one ++ two ≡ numbers_of (paths_in one ++ paths_in two)
  together = ap (λ xs. xs ++ two) first ∙ (ap (λ xs. numbers_of (paths_in one) ++ xs) second ∙ sym (numbers_behind (paths_in one) (paths_in two)))

  pub joined : paths_in (one ++ two) ≡ paths_in one ++ paths_in two
  joined = ap paths_in together ∙ read_back (paths_in one ++ paths_in two)

  pub joined_are : AreOfPaths (one ++ two)
  joined_are = together ∙ ap numbers_of (sym joined)

-- the paths of a list without long ones
pub short_alone : (numbers : List ℕ) (shared paths : List (List ℕ)) → length shared ≡ 0 → paths_in numbers ++ shared ≡ paths → paths_in numbers ≡ paths
short_alone numbers [] paths e are = sym (append-nil (paths_in numbers)) ∙ are
short_alone numbers (p ∷ ps) paths e are = absurd (omega (arith, e))

-- what stands behind the first of some numbers of paths: that many
-- steps, and numbers of the other paths
pub record Begins (many : ℕ) (behind : List ℕ) : Type 0 where
  pub path : List ℕ
  pub paths : List (List ℕ)
  pub many_is : many ≡ length path
  pub behind_is : behind ≡ path ++ numbers_of paths

pub begins : (many : ℕ) (behind : List ℕ) → AreOfPaths (many ∷ behind) → Begins many behind
begins many behind are = by (paths_in (many ∷ behind)) are where
  by : (paths : List (List ℕ)) → (many ∷ behind) ≡ numbers_of paths → Begins many behind
  by [] e = absurd (cc)
  by (path ∷ paths) e = record { path = path; paths = paths; many_is = cc (e); behind_is = cc (e) }

module _ (many : ℕ) (behind : List ℕ) (are : AreOfPaths (many ∷ behind)) where
  b : Begins many behind
  b = begins many behind are

  -- there are as many steps
  pub has_steps : many ≤ length behind
  has_steps = let is : length behind ≡ length b.path + length (numbers_of b.paths) = ap length b.behind_is ∙ length-append b.path (numbers_of b.paths) in omega (arith, is, b.many_is)

  others_are : drop many behind ≡ numbers_of b.paths
  others_are = ap (drop many) b.behind_is ∙ drop_at b.path (numbers_of b.paths) many (sym b.many_is)

  -- what is left stands for the other paths
  pub others : AreOfPaths (drop many behind)
  others = others_are ∙ ap numbers_of (sym (read_back b.paths) ∙ ap paths_in (sym others_are))

  -- the first path is that of these steps
  pub first_and_others : paths_in (many ∷ behind) ≡ take many behind ∷ paths_in (drop many behind)
  first_and_others = ap paths_in (ap (λ n. n ∷ behind) b.many_is ∙ ap (λ xs. length b.path ∷ xs) b.behind_is) ∙ (read_back (b.path ∷ b.paths)
      ∙ (ap (λ p. p ∷ b.paths) (sym (ap (take many) b.behind_is ∙ take_at b.path (numbers_of b.paths) many (sym b.many_is)))
      ∙ ap (λ ps. take many behind ∷ ps) (sym (ap paths_in others_are ∙ read_back b.paths))))

-- how many numbers there are, of paths that are shared and of others before them
pub many_numbers : (numbers : List ℕ) (shared : List (List ℕ)) → AreOfPaths numbers → length (numbers_of (paths_in numbers ++ shared)) ≡ length numbers + length (numbers_of shared)
many_numbers numbers shared are = ap length (numbers_behind (paths_in numbers) shared)
    ∙ (length-append (numbers_of (paths_in numbers)) (numbers_of shared) ∙ ap (λ k. k + length (numbers_of shared)) (ap length (sym are)))

-- a path more has its steps, and a number that says how many they are
pub numbers_more : (paths : List (List ℕ)) (path : List ℕ) → length (numbers_of (paths ++ path ∷ [])) ≡ length (numbers_of paths) + suc (length path)
numbers_more paths path =
    let one : length (path ++ []) ≡ length path = ap length (append-nil path) in
    let behind : length (numbers_of (paths ++ path ∷ [])) ≡ length (numbers_of paths ++ numbers_of (path ∷ [])) = ap length (numbers_behind paths (path ∷ [])) in
    let both : length (numbers_of paths ++ numbers_of (path ∷ [])) ≡ length (numbers_of paths) + length (numbers_of (path ∷ [])) = length-append (numbers_of paths) (numbers_of (path ∷ [])) in
    omega (arith, one, behind, both)

-- the first of some paths have no more numbers than all
pub numbers_front : (paths : List (List ℕ)) (k : ℕ) → length (numbers_of (take k paths)) ≤ length (numbers_of paths)
numbers_front paths k =
    let all : length (numbers_of (take k paths ++ drop k paths)) ≡ length (numbers_of paths) = ap (λ ps. length (numbers_of ps)) (take-append-drop k paths) in
    let behind : length (numbers_of (take k paths ++ drop k paths)) ≡ length (numbers_of (take k paths) ++ numbers_of (drop k paths)) = ap length (numbers_behind (take k paths) (drop k paths)) in
    let both : length (numbers_of (take k paths) ++ numbers_of (drop k paths)) ≡ length (numbers_of (take k paths)) + length (numbers_of (drop k paths)) = length-append (numbers_of (take k paths)) (numbers_of (drop k paths)) in
    omega (arith, all, behind, both)

-- a list that has no length
pub none_left : {A : Type 0} (xs : List A) → length xs ≡ 0 → xs ≡ []
none_left [] e = refl
none_left (x ∷ xs) e = absurd (cc)

-- two tests of what fits are the same
pub same_test : (one room all most more : ℕ) → all ≡ one + more → more + room ≡ most → nat_le one room ≡ nat_le all most
same_test one room all most more with_more is = by (leb_tells one room) where
  by : ((nat_le one room ≡ true) × (one ≤ room)) ⊎ ((nat_le one room ≡ false) × (room < one)) → nat_le one room ≡ nat_le all most
  by (inl (so, few)) = so ∙ sym (le-leb all most (omega (arith, few, with_more, is)))
  by (inr (not_so, many)) = not_so ∙ sym (lt-leb all most (omega (arith, many, with_more, is)))

-- one path more in front of what is the same
pub one_same : (paths left behind all : List (List ℕ)) (i : ℕ) (path other : List ℕ) → i < length paths → path ≡ get_or paths i path → path ≡ other → left ≡ other ∷ behind
    → (drop i paths ≡ left → paths ≡ all) → drop (i + 1) paths ≡ behind → paths ≡ all
one_same paths left behind all i path other inside here same is so rest =
    so (drop_more paths i path inside ∙ (ap (λ p. p ∷ drop (i + 1) paths) (sym here ∙ same) ∙ (ap (λ ps. other ∷ ps) rest ∙ sym is)))

-- the numbers of the first paths and of one more
pub numbers_next : (paths : List (List ℕ)) (i : ℕ) (path : List ℕ) → i < length paths → path ≡ get_or paths i path → length (numbers_of (take (i + 1) paths)) ≡ length (numbers_of (take i paths)) + suc (length path)
numbers_next paths i path inside here = ap (λ ps. length (numbers_of ps)) (take_more paths i path inside ∙ ap (λ p. take i paths ++ p ∷ []) (sym here)) ∙ numbers_more (take i paths) path

-- the first paths with one more, behind others
pub one_behind : (front paths list : List (List ℕ)) (i : ℕ) (path : List ℕ) → i < length paths → path ≡ get_or paths i path → list ≡ front ++ take i paths → list ++ path ∷ [] ≡ front ++ take (i + 1) paths
one_behind front paths list i path inside here is =
    ap (λ ps. ps ++ path ∷ []) is ∙ (append_assoc front (take i paths) (path ∷ []) ∙ ap (λ ps. front ++ ps) (sym (take_more paths i path inside ∙ ap (λ p. take i paths ++ p ∷ []) (sym here))))

-- what holds of a value holds where nothing is refused
pub where_ok : {A E P : Type 0} (r : Result A E) → is_err r ≡ false → OnOk r P → P
where_ok (Ok x) is holds = holds
where_ok (Err e) is holds = absurd (cc is)
