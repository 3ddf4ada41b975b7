-- Whether a domain, or one above it, fails, step by step upwards.
use Rattle.std.proofs.Common.{◌≡◌, ◌<◌, ◌+◌, ℕ, zero, suc, Bool, true, false, ◌||◌, [], Option, Some, None, option_map, refl, sym, ◌∙◌, ap, arith}
use Rattle.std.specs.Prelude.{unwrap_or}
use Rattle.std.specs.List.{list_any}
use Rattle.sysmem_tree.specs.Domain.{TreeFacts, up_from, fails, host_node}
use Rattle.sysmem_tree.specs.Node.{NodeFacts}

-- whether one of so many domains upwards fails by itself
abbrev pub fails_within : ℕ → TreeFacts → ℕ → Bool
fails_within many t r = list_any (fails t) (up_from many t.nodes r)

or_true : (a b : Bool) → a ≡ true → true ≡ (a || b)
or_true true b is = refl
or_true false b is = absurd (cc)

or_false : (a b : Bool) → a ≡ false → (a || b) ≡ b
or_false true b is = absurd (cc)
or_false false b is = refl

-- whether one above does, of so many, where this is the host
abbrev pub above : ℕ → TreeFacts → Option NodeFacts → Bool
above many t host = list_any (fails t) (unwrap_or (option_map (λ one. up_from many t.nodes one.domain) host) [])

-- where this one does, one of them does
pub failed_here : (t : TreeFacts) (many r : ℕ) (whole : Bool) → whole ≡ fails_within many t r → 0 < many → fails t r ≡ true → true ≡ whole
failed_here t zero r whole is some here = absurd (omega (arith, some))
failed_here t (suc many) r whole is some here = or_true (fails t r) (above many t (host_node t.nodes r)) here ∙ sym is

-- where this one doesn't, and is the last, none does
pub failed_nowhere : (t : TreeFacts) (many r : ℕ) (whole : Bool) → whole ≡ fails_within many t r → fails t r ≡ false → host_node t.nodes r ≡ None → false ≡ whole
failed_nowhere t zero r whole is here top = sym is
failed_nowhere t (suc many) r whole is here top =
    sym (is ∙ (or_false (fails t r) (above many t (host_node t.nodes r)) here ∙ ap (above many t) top))

above_same : (t : TreeFacts) (many less r : ℕ) (whole : Bool) (host : NodeFacts) → whole ≡ fails_within (suc many) t r → less ≡ many → fails t r ≡ false
    → host_node t.nodes r ≡ Some host → whole ≡ fails_within less t host.domain
above_same t many less r whole host is same here up =
    is ∙ (or_false (fails t r) (above many t (host_node t.nodes r)) here ∙ (ap (above many t) up ∙ ap (λ k. fails_within k t host.domain) (sym same)))

-- where this one doesn't, those above it decide
pub failed_above : (t : TreeFacts) (many less r : ℕ) (whole : Bool) (host : NodeFacts) → whole ≡ fails_within many t r → less + 1 ≡ many → fails t r ≡ false
    → host_node t.nodes r ≡ Some host → whole ≡ fails_within less t host.domain
failed_above t zero less r whole host is count here up = absurd (omega (arith, count))
failed_above t (suc many) less r whole host is count here up = above_same t many less r whole host is (omega (arith, count)) here up
