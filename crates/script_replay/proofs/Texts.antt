-- Texts that are put after one another.
use Rattle.std.proofs.Common.{◌≡◌, ℕ, ◌++◌, List, refl, ◌∙◌, append_assoc}

pub three : (t a b c x y z : List ℕ) → a ≡ t ++ x → b ≡ a ++ y → c ≡ b ++ z → c ≡ t ++ (x ++ y ++ z)
three t a b c x y z e f g = rw (g, f, e, append_assoc, append_assoc) (rw append_assoc refl)

pub four : (t a b c d w x y z : List ℕ) → a ≡ t ++ w → b ≡ a ++ x → c ≡ b ++ y → d ≡ c ++ z → d ≡ t ++ (w ++ x ++ y ++ z)
four t a b c d w x y z e f g h = h ∙ rw (three t a b c w x y e f g, append_assoc) refl

pub five : (t a b c d e v w x y z : List ℕ) → a ≡ t ++ v → b ≡ a ++ w → c ≡ b ++ x → d ≡ c ++ y → e ≡ d ++ z → e ≡ t ++ (v ++ w ++ x ++ y ++ z)
five t a b c d e v w x y z ea eb ec ed ee = ee ∙ rw (four t a b c d v w x y ea eb ec ed, append_assoc) refl

-- of which the first stands in two parts
pub ended : (t a b c d front path gap what end : List ℕ) → a ≡ t ++ (front ++ path) → b ≡ a ++ gap → c ≡ b ++ what → d ≡ c ++ end → d ≡ t ++ (front ++ path ++ gap ++ what ++ end)
ended t a b c d front path gap what end ea eb ec ed = rw (ed, ec, eb, ea) (simp append_assoc refl)
