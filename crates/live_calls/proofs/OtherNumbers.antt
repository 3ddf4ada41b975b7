-- Numbers that no action has.
use Rattle.std.proofs.Common.{◌≡◌, ◌≢◌, ◌≤◌, ℕ, zero, suc, None, refl, sym, arith}
use Rattle.std.proofs.lemmas.Option.{slice_get_past}
use Rattle.live_calls.specs.Numbers.{action_at, actions}

pub other_number : (n : ℕ) → n ≢ 1 → n ≢ 2 → n ≢ 3 → n ≢ 4 → n ≢ 5 → n ≢ 6 → n ≢ 7 → n ≢ 8 → n ≢ 9 → None ≡ action_at n
other_number zero a b c d e f g h i = refl
other_number (suc n) a b c d e f g h i =
    let past : 9 ≤ n = omega (arith, a, b, c, d, e, f, g, h, i) in
    sym (slice_get_past actions n past)
