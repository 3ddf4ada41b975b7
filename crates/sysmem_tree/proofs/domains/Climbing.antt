-- One pass over the domains, from the last to the first, meets all that are above one of them.
use Rattle.std.proofs.Common.{◌≡◌, ◌≢◌, ◌<◌, ◌≤◌, ◌+◌, ◌==◌, ◌&&◌, ◌||◌, ℕ, zero, suc, Bool, true, false, List, [], ◌∷◌, length, Option, Some, None, map, option_map, get_or, ◌-◌, slice_get, refl, sym, ◌∙◌, ap, arith, rules, tests, ◌⊎◌, inl, inr}
use Rattle.std.specs.Prelude.{IsSomeAnd, option_and_then, if◌then◌else◌}
use Rattle.std.proofs.lemmas.Option.{same_Some, slice_get_within, slice_get-get_or}
use Rattle.std.proofs.lemmas.Bool.{cases_eq}
use Rattle.sysmem_tree.specs.declared.domain.Domain.{Domain}
use Rattle.sysmem_tree.specs.declared.node.Birth.{Birth}
use Rattle.sysmem_tree.specs.Domain.{TreeFacts, AreDomains, roots_from, decision_of, fails, has_failed, host_node, is_host_lost, is_lost, was_closed_early}
use Rattle.sysmem_tree.specs.Node.{NodeFacts}
use Rattle.sysmem_tree.specs.Nodes.{IsTree}
use Rattle.sysmem_tree.specs.Sweep.{is_lost_by}
use Rattle.sysmem_tree.specs.Tree.{new_domain}
use Rattle.sysmem_tree.proofs.nodes.Kids.{parent_of}
use Rattle.sysmem_tree.proofs.domains.Readiness.{home_root}
use Rattle.sysmem_tree.proofs.domains.Soundness.{root_there}
use Rattle.sysmem_tree.proofs.steps.Steps.{domain_up}
use Rattle.sysmem_tree.proofs.domains.Upwards.{fails_within, failed_here, failed_nowhere, failed_above}

-- the climb from domain r has come to this host: its domain stands before this index, and whether
-- that was decided without the host, or it or one above it fails, decides
pub record IsClimbed (t : TreeFacts) (r index : ℕ) (h : NodeFacts) : Type 0 where
  pub many : ℕ
  pub below : h.domain < many
  pub decides : has_failed t r ≡ (is_lost t.domains h || fails_within many t h.domain)
  pub place : ℕ
  pub one : Domain
  pub left : place < index
  pub here : slice_get t.domains place ≡ Some one
  pub own : one.root ≡ h.domain

-- a number is less than another, or it, or more
pub nat_cases : (a b : ℕ) → (a < b) ⊎ ((a ≡ b) ⊎ (b < a))
nat_cases zero zero = inr (inl refl)
nat_cases zero (suc b) = inl (omega arith)
nat_cases (suc a) zero = inr (inr (omega arith))
nat_cases (suc a) (suc b) = elim (nat_cases a b) [
  | inl less ↦ inl (omega (arith, less))
  | inr (inl same) ↦ inr (inl (ap suc same))
  | inr (inr more) ↦ inr (inr (omega (arith, more)))
]

-- the last of so many domains
abbrev pub last_of : ℕ → List Domain → Domain
last_of many ds = get_or ds (many - 1) (new_domain 0)

last_at : (many : ℕ) (ds : List Domain) → 0 < many → many ≤ length ds → slice_get ds (many - 1) ≡ Some (last_of many ds)
last_at many ds some all = slice_get-get_or ds (many - 1) (new_domain 0) (omega (arith, some, all))

-- roots rise
abbrev pub Rising : List Domain → Type 0
Rising ds = (i j : ℕ) (d e : Domain) → slice_get ds i ≡ Some d → slice_get ds j ≡ Some e → i < j → d.root < e.root

roots_rise : (s : ℕ) (nodes : List NodeFacts) (i j x y : ℕ) → slice_get (roots_from s nodes) i ≡ Some x → slice_get (roots_from s nodes) j ≡ Some y → i < j → x < y
roots_rise s [] i j x y a b less = absurd (cc)
roots_rise s (n ∷ nodes) i j x y a b less = at (n.domain == s) (λ k l c d more. roots_rise (s + 1) nodes k l x y c d more) i j a b less where
  at : (own : Bool) → ((k l : ℕ) → slice_get (roots_from (s + 1) nodes) k ≡ Some x → slice_get (roots_from (s + 1) nodes) l ≡ Some y → k < l → x < y)
      → (i j : ℕ) → slice_get (if own then s ∷ roots_from (s + 1) nodes else roots_from (s + 1) nodes) i ≡ Some x
      → slice_get (if own then s ∷ roots_from (s + 1) nodes else roots_from (s + 1) nodes) j ≡ Some y → i < j → x < y
  at true rest i zero a b less = absurd (omega (arith, less))
  at true rest zero (suc j) a b less =
      let (m, is, _) = root_there (s + 1) nodes j y b in
      omega (arith, is, same_Some s x a)
  at true rest (suc i) (suc j) a b less = rest i j a b (omega (arith, less))
  at false rest i j a b less = rest i j a b less

pub root_at : (ds : List Domain) (k : ℕ) (d : Domain) → slice_get ds k ≡ Some d → slice_get (map (λ (x : Domain). x.root) ds) k ≡ Some d.root
root_at [] k d e = absurd (cc)
root_at (x ∷ ds) zero d e = ap (option_map (λ (x : Domain). x.root)) e
root_at (x ∷ ds) (suc k) d e = root_at ds k d e

pub rising : (t : TreeFacts) → AreDomains t → Rising t.domains
rising t domains i j d e a b less =
    roots_rise 0 t.nodes i j d.root e.root (ap (λ rs. slice_get rs i) (sym domains) ∙ root_at t.domains i d a) (ap (λ rs. slice_get rs j) (sym domains) ∙ root_at t.domains j e b) less

-- each root is listed
pub root_listed : (s : ℕ) (nodes : List NodeFacts) (m r : ℕ) → r ≡ s + m → IsSomeAnd (slice_get nodes m) (λ n. n.domain ≡ r) → (k : ℕ) × (slice_get (roots_from s nodes) k ≡ Some r)
root_listed s [] m r is own = absurd own
root_listed s (n ∷ nodes) zero r is own =
    let same : s ≡ r = omega (arith, is) in
    let mine : (n.domain == s) ≡ true = let e : n.domain ≡ s = own ∙ sym same in search (rules, tests, e) in
    (0, ap (λ b. slice_get (if b then s ∷ roots_from (s + 1) nodes else roots_from (s + 1) nodes) 0) mine ∙ ap Some same)
root_listed s (n ∷ nodes) (suc m) r is own =
    let (k, at) = root_listed (s + 1) nodes m r (omega (arith, is)) own in
    by (n.domain == s) k at where
      by : (b : Bool) (k : ℕ) → slice_get (roots_from (s + 1) nodes) k ≡ Some r → (k : ℕ) × (slice_get (if b then s ∷ roots_from (s + 1) nodes else roots_from (s + 1) nodes) k ≡ Some r)
      by true k at = (suc k, at)
      by false k at = (k, at)

pub domain_at : (ds : List Domain) (k r : ℕ) → slice_get (map (λ (x : Domain). x.root) ds) k ≡ Some r → (d : Domain) × (slice_get ds k ≡ Some d) × (d.root ≡ r)
domain_at [] k r e = absurd (cc)
domain_at (d ∷ ds) zero r e = (d, refl, same_Some d.root r e)
domain_at (d ∷ ds) (suc k) r e = domain_at ds k r e

-- where the roots rise, the one entry of a root says whether it was
-- closed early and what was decided
differs : (a b : ℕ) → a < b → (a == b) ≡ false
differs a b less = by (a == b) refl where
  by : (c : Bool) → (a == b) ≡ c → (a == b) ≡ false
  by true e = absurd (let same : a ≡ b = search (rules, tests, e) in omega (arith, same, less))
  by false e = e

alike : (a b : ℕ) → a ≡ b → (a == b) ≡ true
alike a b e = search (rules, tests, e)

tail_rises : (x : Domain) (ds : List Domain) → Rising (x ∷ ds) → Rising ds
tail_rises x ds up i j d e a b less = up (suc i) (suc j) d e a b (omega (arith, less))

pub decision_here : (ds : List Domain) (k r : ℕ) (d : Domain) → Rising ds → slice_get ds k ≡ Some d → d.root ≡ r → decision_of ds r ≡ d.decision
decision_here [] k r d up at own = absurd (cc)
decision_here (x ∷ ds) zero r d up at own =
    let is : x ≡ d = same_Some x d at in
    ap (λ b. if b then x.decision else decision_of ds r) (alike x.root r (ap (λ (z : Domain). z.root) is ∙ own)) ∙ ap (λ (z : Domain). z.decision) is
decision_here (x ∷ ds) (suc k) r d up at own =
    ap (λ b. if b then x.decision else decision_of ds r) (differs x.root r (omega (arith, own, up 0 (suc k) x d refl at (omega arith))))
    ∙ decision_here ds k r d (tail_rises x ds up) at own

none_closed : (ds : List Domain) (r : ℕ) → ((k : ℕ) (e : Domain) → slice_get ds k ≡ Some e → r < e.root) → was_closed_early ds r ≡ false
none_closed [] r over = refl
none_closed (x ∷ ds) r over =
    let other : (x.root == r) ≡ false = by (x.root == r) refl in
    ap (λ b. (b && x.is_closed_early) || was_closed_early ds r) other ∙ none_closed ds r (λ k e at. over (suc k) e at) where
      by : (c : Bool) → (x.root == r) ≡ c → (x.root == r) ≡ false
      by true e = absurd (let same : x.root ≡ r = search (rules, tests, e) in omega (arith, same, over 0 x refl))
      by false e = e

or_none : (b : Bool) → (b || false) ≡ b
or_none true = refl
or_none false = refl

pub closed_here : (ds : List Domain) (k r : ℕ) (d : Domain) → Rising ds → slice_get ds k ≡ Some d → d.root ≡ r → was_closed_early ds r ≡ d.is_closed_early
closed_here [] k r d up at own = absurd (cc)
closed_here (x ∷ ds) zero r d up at own =
    let is : x ≡ d = same_Some x d at in
    let root : x.root ≡ r = ap (λ (z : Domain). z.root) is ∙ own in
    ap (λ b. (b && x.is_closed_early) || was_closed_early ds r) (alike x.root r root)
    ∙ (ap (λ b. x.is_closed_early || b) (none_closed ds r (λ k e here. let more = up 0 (suc k) x e refl here (omega arith) in omega (arith, more, root)))
    ∙ (or_none x.is_closed_early ∙ ap (λ (z : Domain). z.is_closed_early) is))
closed_here (x ∷ ds) (suc k) r d up at own =
    ap (λ b. (b && x.is_closed_early) || was_closed_early ds r) (differs x.root r (omega (arith, own, up 0 (suc k) x d refl at (omega arith))))
    ∙ closed_here ds k r d (tail_rises x ds up) at own

-- a host is a node made before the root that hangs on it
pub hosted : (nodes : List NodeFacts) → IsTree nodes → (r : ℕ) (h : NodeFacts) → host_node nodes r ≡ Some h → (k : ℕ) × (k < r) × (r < length nodes) × (slice_get nodes k ≡ Some h)
hosted nodes tree r h up = by (slice_get nodes r) refl up where
  born : (z : NodeFacts) → slice_get nodes r ≡ Some z → (b : Option Birth) → z.birth ≡ b → option_and_then (λ (x : Birth). slice_get nodes x.parent) b ≡ Some h
      → (k : ℕ) × (k < r) × (r < length nodes) × (slice_get nodes k ≡ Some h)
  born z at None is e = absurd (cc)
  born z at (Some b) is e = (b.parent, parent_of nodes tree r z b at is, slice_get_within nodes r z at, e)

  by : (o : Option NodeFacts) → slice_get nodes r ≡ o → option_and_then (λ (n : NodeFacts). option_and_then (λ (x : Birth). slice_get nodes x.parent) n.birth) o ≡ Some h
      → (k : ℕ) × (k < r) × (r < length nodes) × (slice_get nodes k ≡ Some h)
  by None is e = absurd (cc)
  by (Some z) is e = born z is z.birth refl e

or_both : (a b : Bool) → a ≡ false → b ≡ false → (a || b) ≡ false
or_both true b e f = absurd (cc)
or_both false b e f = f

or_first : (a b : Bool) → a ≡ true → (a || b) ≡ true
or_first true b e = refl
or_first false b e = absurd (cc)

or_second : (a b : Bool) → b ≡ true → (a || b) ≡ true
or_second true b e = refl
or_second false b e = e

or_skip : (a b : Bool) → a ≡ false → (a || b) ≡ b
or_skip true b e = absurd (cc)
or_skip false b e = refl

module _ (t : TreeFacts) (tree : IsTree t.nodes) (domains : AreDomains t) where
  -- a host's domain is below the root that hangs on it, and listed
  climbed : (r d many less : ℕ) (h : NodeFacts) → host_node t.nodes d ≡ Some h → d < many → less + 1 ≡ many → has_failed t r ≡ fails_within many t d → was_closed_early t.domains d ≡ false
      → (bound : ℕ) → ((k : ℕ) (e : Domain) → slice_get t.domains k ≡ Some e → e.root < d → k < bound) → IsClimbed t r bound h
  climbed r d many less h up below count is closed bound before =
      let (k, older, _, at) = hosted t.nodes tree d h up in
      let low = domain_up t.nodes tree (k + 1) k h (omega arith) at in
      let (place, listed) = root_listed 0 t.nodes h.domain h.domain (omega arith) (home_root t.nodes tree (k + 1) k h (omega arith) at) in
      let (e, here, own) = domain_at t.domains place h.domain (ap (λ rs. slice_get rs place) domains ∙ listed) in
      record {
        many = less;
        below = omega (arith, low, older, below, count);
        decides = lost (is_lost t.domains h) refl;
        place = place;
        one = e;
        left = before place e here (omega (arith, own, low, older));
        here = here;
        own = own;
      } where
        fails_by : fails t d ≡ is_lost t.domains h
        fails_by = or_skip (was_closed_early t.domains d) (is_host_lost t.domains (host_node t.nodes d)) closed ∙ ap (is_host_lost t.domains) up

        lost : (b : Bool) → is_lost t.domains h ≡ b → has_failed t r ≡ (is_lost t.domains h || fails_within less t h.domain)
        lost true e =
            sym (failed_here t many d (has_failed t r) is (omega (arith, below)) (fails_by ∙ e)) ∙ sym (or_first (is_lost t.domains h) (fails_within less t h.domain) e)
        lost false e =
            failed_above t many less d (has_failed t r) h is count (fails_by ∙ e) up ∙ sym (or_skip (is_lost t.domains h) (fails_within less t h.domain) e)

  -- the climb starts at the host of a domain that wasn't closed early
  pub climb_starts : (r : ℕ) (h : NodeFacts) (closed : Bool) → closed ≡ was_closed_early t.domains r → closed ≡ false → host_node t.nodes r ≡ Some h → IsClimbed t r (length t.domains) h
  climb_starts r h closed is unmet up =
      let (_, _, within, _) = hosted t.nodes tree r h up in
      climbed r r 128 127 h up (omega (arith, within, tree.few)) refl refl (sym is ∙ unmet) (length t.domains) (λ k e at less. slice_get_within t.domains k e at)

  module _ (r left : ℕ) (h : NodeFacts) (root : ℕ) (so : IsClimbed t r left h) (some : 0 < left) (all : left ≤ length t.domains) (is_root : root ≡ h.domain) where
    -- the entry of another domain is passed
    pub climb_passes : (last_of left t.domains).root ≢ root → IsClimbed t r (left - 1) h
    climb_passes other = by (cases_eq so.place (left - 1)) where
      by : (so.place ≡ left - 1) ⊎ (so.place ≢ left - 1) → IsClimbed t r (left - 1) h
      by (inl same) =
          let is : (last_of left t.domains) ≡ so.one = same_Some (last_of left t.domains) so.one (sym (last_at left t.domains some all) ∙ (ap (slice_get t.domains) (sym same) ∙ so.here)) in
          let own : (last_of left t.domains).root ≡ root = ap (λ (z : Domain). z.root) is ∙ (so.own ∙ sym is_root) in
          absurd (other own)
      by (inr elsewhere) = record {
        many = so.many;
        below = so.below;
        decides = so.decides;
        place = so.place;
        one = so.one;
        left = omega (arith, so.left, some, elsewhere);
        here = so.here;
        own = so.own;
      }

  module _ (r left : ℕ) (h : NodeFacts) (root : ℕ) (so : IsClimbed t r left h) (some : 0 < left) (all : left ≤ length t.domains) (is_root : root ≡ h.domain)
      (met_root : (last_of left t.domains).root ≡ root) where
    own : (last_of left t.domains).root ≡ h.domain
    own = met_root ∙ is_root

    closed_is : was_closed_early t.domains h.domain ≡ (last_of left t.domains).is_closed_early
    closed_is = closed_here t.domains (left - 1) h.domain (last_of left t.domains) (rising t domains) (last_at left t.domains some all) own

    lost_is : is_lost t.domains h ≡ is_lost_by (last_of left t.domains).decision h
    lost_is =
        ap (λ x. is_lost_by x h) (decision_here t.domains (left - 1) h.domain (last_of left t.domains) (rising t domains) (last_at left t.domains some all) own)

    -- at its entry: closed early
    pub climb_closed : (last_of left t.domains).is_closed_early ≡ true → true ≡ has_failed t r
    climb_closed e =
        sym (so.decides ∙ or_second (is_lost t.domains h) (fails_within so.many t h.domain)
        (sym (failed_here t so.many h.domain (fails_within so.many t h.domain) refl (omega (arith, so.below)) (or_first (was_closed_early t.domains h.domain) _ (closed_is ∙ e)))))

    -- or decided without the host
    pub climb_lost : (lost : Bool) → lost ≡ is_lost_by (last_of left t.domains).decision h → lost ≡ true → true ≡ has_failed t r
    climb_lost lost is met = sym (so.decides ∙ or_first (is_lost t.domains h) (fails_within so.many t h.domain) (lost_is ∙ (sym is ∙ met)))

    -- or neither, and those above it decide
    decides_above : (lost : Bool) → lost ≡ is_lost_by (last_of left t.domains).decision h → lost ≡ false → has_failed t r ≡ fails_within so.many t h.domain
    decides_above lost is unmet = so.decides ∙ or_skip (is_lost t.domains h) (fails_within so.many t h.domain) (lost_is ∙ (sym is ∙ unmet))

    -- where it has no host, none fails
    pub climb_ends : (lost : Bool) → lost ≡ is_lost_by (last_of left t.domains).decision h → lost ≡ false
        → (last_of left t.domains).is_closed_early ≡ false → host_node t.nodes (last_of left t.domains).root ≡ None → false ≡ has_failed t r
    climb_ends lost is unmet unclosed top =
        let none : host_node t.nodes h.domain ≡ None = ap (host_node t.nodes) (sym own) ∙ top in
        failed_nowhere t so.many h.domain (has_failed t r) (decides_above lost is unmet)
        (or_both (was_closed_early t.domains h.domain) (is_host_lost t.domains (host_node t.nodes h.domain)) (closed_is ∙ unclosed) (ap (is_host_lost t.domains) none)) none

    -- and else the climb goes on to its host
    pub climb_goes_on : (lost : Bool) (above : NodeFacts) → lost ≡ is_lost_by (last_of left t.domains).decision h → lost ≡ false
        → (last_of left t.domains).is_closed_early ≡ false → host_node t.nodes (last_of left t.domains).root ≡ Some above → IsClimbed t r (left - 1) above
    climb_goes_on lost above is unmet unclosed up = by so.many so.below (decides_above lost is unmet) where
      before : (k : ℕ) (e : Domain) → slice_get t.domains k ≡ Some e → e.root < h.domain → k < left - 1
      before k e here less = elim (nat_cases k (left - 1)) [
        | inl first ↦ first
        | inr (inl same) ↦ absurd (omega (arith, less, own, ap (λ (z : Domain). z.root) (same_Some e (last_of left t.domains) (sym here ∙ (ap (slice_get t.domains) same ∙ (last_at left t.domains some all))))))
        | inr (inr later) ↦ absurd (omega (arith, less, own, rising t domains (left - 1) k (last_of left t.domains) e (last_at left t.domains some all) here later))
      ]

      by : (many : ℕ) → h.domain < many → has_failed t r ≡ fails_within many t h.domain → IsClimbed t r (left - 1) above
      by zero below whole = absurd (omega (arith, below))
      by (suc many) below whole = climbed r h.domain (suc many) many above (ap (host_node t.nodes) (sym own) ∙ up) below (omega arith) whole (closed_is ∙ unclosed) (left - 1) before
