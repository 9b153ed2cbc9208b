-- What one more byte of input adds to the digits and to the bytes that they spell.
use Rattle.std.proofs.Common.{◌≡◌, ℕ, ◌+◌, ◌*◌, Bool, true, false, cond, List, [], ◌∷◌, ◌++◌}
use Rattle.std.proofs.Common.{length, refl, sym, ◌∙◌, ap, arith, Option, Some, None}
use Rattle.std.specs.Prelude.{not, is_some, ◌||◌}
use Rattle.std.specs.List.{filter_map, take_while, position_from, cons_option}
use Rattle.std.proofs.lemmas.List.Sums.{take_while-cons}
use Rattle.std.proofs.lemmas.List.{append-nil}
use Rattle.std.proofs.lemmas.List.Elements.{filter_map-append}
use Rattle.ddcmp_explain.specs.Digits.{hex_value, is_blank, is_readable, first_unexpected, digits}
use Rattle.ddcmp_explain.specs.Digits.{pairs, left_over}

pub none-some : {n : ℕ} → ◌≡◌ {A = Option ℕ} None (Some n) → ⊥
none-some h = cc

some-none : {n : ℕ} → ◌≡◌ {A = Option ℕ} (Some n) None → ⊥
some-none h = cc

-- a place that was found lies among what was searched, and what follows doesn't matter
found-more : (p : ℕ → Bool) (i : ℕ) (s t : List ℕ) (n : ℕ) → position_from p i s ≡ Some n
    → position_from p i (s ++ t) ≡ Some n
found-more p i [] t n e = absurd (none-some e)
found-more p i (x ∷ s) t n e = at (p x) (found-more p (i + 1) s t n) e
  where
    at : (b : Bool)
        → (position_from p (i + 1) s ≡ Some n → position_from p (i + 1) (s ++ t) ≡ Some n)
        → cond b (Some i) (position_from p (i + 1) s) ≡ Some n
        → cond b (Some i) (position_from p (i + 1) (s ++ t)) ≡ Some n
    at true ih e = e
    at false ih e = ih e

none-more : (p : ℕ → Bool) (i : ℕ) (s t : List ℕ) → position_from p i s ≡ None
    → position_from p i (s ++ t) ≡ position_from p (i + length s) t
none-more p i [] t e = ap (λ n. position_from p n t) (omega arith)
none-more p i (x ∷ s) t e = at (p x) (none-more p (i + 1) s t) e
  where
    at : (b : Bool)
        → (position_from p (i + 1) s ≡ None
        → position_from p (i + 1) (s ++ t) ≡ position_from p (i + 1 + length s) t)
        → cond b (Some i) (position_from p (i + 1) s) ≡ None
        → cond b (Some i) (position_from p (i + 1) (s ++ t))
        ≡ position_from p (i + length (x ∷ s)) t
    at true ih e = absurd (some-none e)
    at false ih e = ih e ∙ ap (λ n. position_from p n t) (omega arith)

pub readable-more : (seen : List ℕ) (b : ℕ) → first_unexpected seen ≡ None → is_readable b ≡ true
    → first_unexpected (seen ++ b ∷ []) ≡ None
unfolding first_unexpected
readable-more seen b e h = none-more (λ c. not (is_readable c)) 0 seen (b ∷ []) e ∙ rw h refl

pub unexpected-here : (seen : List ℕ) (b : ℕ) → first_unexpected seen ≡ None → is_readable b ≡ false
    → first_unexpected (seen ++ b ∷ []) ≡ Some (length seen)
unfolding first_unexpected
unexpected-here seen b e h =
    none-more (λ c. not (is_readable c)) 0 seen (b ∷ []) e ∙ rw h (ap Some (omega arith))

pub unexpected-more : (s t : List ℕ) (n : ℕ) → first_unexpected s ≡ Some n
    → first_unexpected (s ++ t) ≡ Some n
unfolding first_unexpected
unexpected-more s t n e = found-more (λ c. not (is_readable c)) 0 s t n e

pub unexpected-none : first_unexpected [] ≡ None
unfolding first_unexpected
unexpected-none = refl

pub digits-none : digits [] ≡ []
unfolding digits
digits-none = refl

abbrev unexpected : ℕ → Bool
unexpected c = not (is_readable c)

-- what was read to its end is kept whole, and then what follows
while-more : (i : ℕ) (s t : List ℕ) → position_from unexpected i s ≡ None
    → take_while is_readable (s ++ t) ≡ s ++ take_while is_readable t
while-more i [] t e = refl
while-more i (x ∷ s) t e =
    take_while-cons is_readable x (s ++ t) ∙ at (is_readable x) (while-more (i + 1) s t) e
  where
    at : (b : Bool)
        → (position_from unexpected (i + 1) s ≡ None
        → take_while is_readable (s ++ t) ≡ s ++ take_while is_readable t)
        → cond (not b) (Some i) (position_from unexpected (i + 1) s) ≡ None
        → cond b (x ∷ take_while is_readable (s ++ t)) [] ≡ x ∷ (s ++ take_while is_readable t)
    at true ih e = ap (λ r. x ∷ r) (ih e)
    at false ih e = absurd (some-none e)

-- what was read up to an unexpected byte stays, whatever follows
while-found : (i : ℕ) (s t : List ℕ) (n : ℕ) → position_from unexpected i s ≡ Some n
    → take_while is_readable (s ++ t) ≡ take_while is_readable s
while-found i [] t n e = absurd (none-some e)
while-found i (x ∷ s) t n e =
    take_while-cons is_readable x (s ++ t) ∙ at (is_readable x) (while-found (i + 1) s t n) e
    ∙ sym (take_while-cons is_readable x s)
  where
    at : (b : Bool)
        → (position_from unexpected (i + 1) s ≡ Some n
        → take_while is_readable (s ++ t) ≡ take_while is_readable s)
        → cond (not b) (Some i) (position_from unexpected (i + 1) s) ≡ Some n
        → cond b (x ∷ take_while is_readable (s ++ t)) [] ≡ cond b (x ∷ take_while is_readable s) []
    at true ih e = ap (λ r. x ∷ r) (ih e)
    at false ih e = refl

while-all : (s : List ℕ) → first_unexpected s ≡ None → take_while is_readable s ≡ s
unfolding first_unexpected
while-all s e =
    ap (take_while is_readable) (sym (append-nil s)) ∙ while-more 0 s [] e ∙ append-nil s

-- the digits of an input that goes on
pub digits-more : (s t : List ℕ) → first_unexpected s ≡ None
    → digits (s ++ t) ≡ digits s ++ digits t
unfolding digits first_unexpected
digits-more s t e =
    ap (filter_map hex_value) (while-more 0 s t e)
    ∙ filter_map-append hex_value s (take_while is_readable t)
    ∙ ap (λ x. filter_map hex_value x ++ filter_map hex_value (take_while is_readable t))
    (sym (while-all s e))

pub digits-found : (s t : List ℕ) (n : ℕ) → first_unexpected s ≡ Some n → digits (s ++ t) ≡ digits s
unfolding digits first_unexpected
digits-found s t n e = ap (filter_map hex_value) (while-found 0 s t n e)

while-one : (b : ℕ) → is_readable b ≡ true → take_while is_readable (b ∷ []) ≡ b ∷ []
while-one b r = take_while-cons is_readable b [] ∙ ap (λ x. cond x (b ∷ []) []) r

while-not : (b : ℕ) → is_readable b ≡ false → take_while is_readable (b ∷ []) ≡ []
while-not b r = take_while-cons is_readable b [] ∙ ap (λ x. cond x (b ∷ []) []) r

one-digit : (b : ℕ) (o : Option ℕ) → hex_value b ≡ o
    → filter_map hex_value (b ∷ []) ≡ cons_option o []
one-digit b o e = ap (λ x. cons_option x []) e

pub digits-blank : (b : ℕ) → is_readable b ≡ true → hex_value b ≡ None → digits (b ∷ []) ≡ []
unfolding digits
digits-blank b r e = ap (filter_map hex_value) (while-one b r) ∙ one-digit b None e

pub digits-unexpected : (b : ℕ) → is_readable b ≡ false → digits (b ∷ []) ≡ []
unfolding digits
digits-unexpected b r = ap (filter_map hex_value) (while-not b r)

pub digits-digit : (b v : ℕ) → is_readable b ≡ true → hex_value b ≡ Some v
    → digits (b ∷ []) ≡ v ∷ []
unfolding digits
digits-digit b v r e = ap (filter_map hex_value) (while-one b r) ∙ one-digit b (Some v) e

-- one more digit is left over, or completes a byte
pub pairs-held : (d : List ℕ) (v : ℕ) → left_over d ≡ []
    → (pairs (d ++ v ∷ []) ≡ pairs d) × (left_over (d ++ v ∷ []) ≡ v ∷ [])
pairs-held [] v e = (refl, refl)
pairs-held (h ∷ []) v e = let e' : ◌≡◌ {A = List ℕ} (h ∷ []) [] = e in cc
pairs-held (h ∷ l ∷ d) v e = let r = pairs-held d v e in (ap (λ t. (h * 16 + l) ∷ t) r.0, r.1)

pub pairs-whole : (d : List ℕ) (high v : ℕ) → left_over d ≡ high ∷ []
    → (pairs (d ++ v ∷ []) ≡ pairs d ++ (high * 16 + v) ∷ []) × (left_over (d ++ v ∷ []) ≡ [])
pairs-whole [] high v e = let e' : ◌≡◌ {A = List ℕ} [] (high ∷ []) = e in cc
pairs-whole (h ∷ []) high v e = let s : h ≡ high = cc in (ap (λ x. (x * 16 + v) ∷ []) s, refl)
pairs-whole (h ∷ l ∷ d) high v e = let r = pairs-whole d high v e in
    (ap (λ t. (h * 16 + l) ∷ t) r.0, r.1)

pub readable-digit : (b v : ℕ) → hex_value b ≡ Some v → is_readable b ≡ true
readable-digit b v e = ap (λ o. is_blank b || is_some o) e ∙ or-true (is_blank b)
  where
    or-true : (x : Bool) → (x || true) ≡ true
    or-true true = refl
    or-true false = refl

pub readable-blank : (b : ℕ) → is_blank b ≡ true → is_readable b ≡ true
readable-blank b e = ap (λ x. x || is_some (hex_value b)) e

pub readable-neither : (b : ℕ) → is_blank b ≡ false → hex_value b ≡ None → is_readable b ≡ false
readable-neither b e h = ap (λ x. x || is_some (hex_value b)) e ∙ ap is_some h
