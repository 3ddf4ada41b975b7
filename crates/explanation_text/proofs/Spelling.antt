-- Words as HTML spells them have no character that is markup.
use Rattle.std.proofs.Common.{◌&&◌, nat_lt, true≢false, ◌≡◌, ◌∙◌, ◌==◌, ◌||◌, ◌++◌, ℕ, Bool, true, false, refl, sym, ap, ap₂, cond, List, [], ◌∷◌, codes, encode_utf8, encode_utf8_all, map, Result, Ok, Err}
use Rattle.std.specs.Prelude.{OnOk}
use Rattle.std.proofs.lemmas.List.{append_assoc, append-nil}
use Rattle.std.proofs.lemmas.Bool.{ltb-true}
use Rattle.std.proofs.lemmas.Str.{encode_ascii, encodes-append}
use Rattle.std.specs.List.{list_all}
use Rattle.std.specs.Str.{NoCharPasses, NonePass}
use Rattle.explanation_text.specs.Spelled.{is_markup, spelled, spelling}

none_append : (p : ℕ → Bool) (xs ys : List ℕ) → NonePass p xs → NonePass p ys → NonePass p (xs ++ ys)
none_append p [] ys h k = k
none_append p (x ∷ xs) ys h k = (h.0, none_append p xs ys h.1 k)

-- two texts without such a character are none together
together : (p : ℕ → Bool) (a b : List ℕ) → NoCharPasses p a → NoCharPasses p b → NoCharPasses p (a ++ b)
together p a b h k = (h.0 ++ k.0, encodes-append h.0 k.0 ∙ ap₂ (λ x y. x ++ y) h.1 k.1, none_append p h.0 k.0 h.2 k.2)

-- what holds where a call is done
pub ok_map : {A E P Q : Type 0} (r : Result A E) → (P → Q) → OnOk r P → OnOk r Q
ok_map (Ok x) f h = f h
ok_map (Err e) f h = tt

-- the characters of a text in ASCII are its bytes
ascii : (cs : List ℕ) → list_all (λ c. nat_lt c 128) cs ≡ true → encode_utf8_all cs ≡ cs
ascii [] each = refl
ascii (c ∷ cs) each = go (nat_lt c 128) refl each (λ rest. ascii cs rest)
  where
    go : (b : Bool) → nat_lt c 128 ≡ b → (b && list_all (λ x. nat_lt x 128) cs) ≡ true
        → (list_all (λ x. nat_lt x 128) cs ≡ true → encode_utf8_all cs ≡ cs) → encode_utf8_all (c ∷ cs) ≡ c ∷ cs
    go true small rest below = ap₂ (λ x y. x ++ y) (encode_ascii c (ltb-true c 128 small)) (below rest)
    go false small rest below = absurd (true≢false (sym rest))

-- a character that is left as it is
plain : (c : ℕ) → (c == 60) ≡ false → (c == 62) ≡ false → (c == 34) ≡ false → (c == 39) ≡ false → NoCharPasses is_markup (encode_utf8 c)
plain c lt gt quote tick = (c ∷ [], append-nil (encode_utf8 c), (rw (lt, gt, quote, tick) refl, tt))

spelling_inert : (c : ℕ) → NoCharPasses is_markup (spelling c)
spelling_inert c = by_amp (c == 38)
  where
    by_tick : (b : Bool) → (c == 39) ≡ b → (c == 60) ≡ false → (c == 62) ≡ false → (c == 34) ≡ false
        → NoCharPasses is_markup (cond b (codes "&#39;") (encode_utf8 c))
    by_tick true is lt gt quote = (codes "&#39;", ascii (codes "&#39;") refl, (refl, (refl, (refl, (refl, (refl, tt))))))
    by_tick false is lt gt quote = plain c lt gt quote is

    by_quote : (b : Bool) → (c == 34) ≡ b → (c == 60) ≡ false → (c == 62) ≡ false
        → NoCharPasses is_markup (cond b (codes "&quot;") (cond (c == 39) (codes "&#39;") (encode_utf8 c)))
    by_quote true is lt gt = (codes "&quot;", ascii (codes "&quot;") refl, (refl, (refl, (refl, (refl, (refl, (refl, tt)))))))
    by_quote false is lt gt = by_tick (c == 39) refl lt gt is

    by_gt : (b : Bool) → (c == 62) ≡ b → (c == 60) ≡ false
        → NoCharPasses is_markup (cond b (codes "&gt;") (cond (c == 34) (codes "&quot;") (cond (c == 39) (codes "&#39;") (encode_utf8 c))))
    by_gt true is lt = (codes "&gt;", ascii (codes "&gt;") refl, (refl, (refl, (refl, (refl, tt)))))
    by_gt false is lt = by_quote (c == 34) refl lt is

    by_lt : (b : Bool) → (c == 60) ≡ b
        → NoCharPasses is_markup (cond b (codes "&lt;") (cond (c == 62) (codes "&gt;") (cond (c == 34) (codes "&quot;") (cond (c == 39) (codes "&#39;") (encode_utf8 c)))))
    by_lt true is = (codes "&lt;", ascii (codes "&lt;") refl, (refl, (refl, (refl, (refl, tt)))))
    by_lt false is = by_gt (c == 62) refl is

    by_amp : (b : Bool)
        → NoCharPasses is_markup (cond b (codes "&amp;") (cond (c == 60) (codes "&lt;") (cond (c == 62) (codes "&gt;") (cond (c == 34) (codes "&quot;") (cond (c == 39) (codes "&#39;") (encode_utf8 c))))))
    by_amp true = (codes "&amp;", ascii (codes "&amp;") refl, (refl, (refl, (refl, (refl, (refl, tt))))))
    by_amp false = by_lt (c == 60) refl

pub inert : (cs : List ℕ) → NoCharPasses is_markup (spelled cs)
inert [] = ([], refl, tt)
inert (c ∷ cs) = together is_markup (spelling c) (spelled cs) (spelling_inert c) (inert cs)

-- one character more
pub spelled_push : (cs : List ℕ) (c : ℕ) → spelled (cs ++ c ∷ []) ≡ spelled cs ++ spelling c
spelled_push [] c = append-nil (spelling c)
spelled_push (x ∷ xs) c = ap (λ rest. spelling x ++ rest) (spelled_push xs c) ∙ sym (append_assoc (spelling x) (spelled xs) (spelling c))

-- as they are, each
pub map_same : (cs : List ℕ) → map (λ c. c) cs ≡ cs
map_same [] = refl
map_same (c ∷ cs) = ap (λ rest. c ∷ rest) (map_same cs)
