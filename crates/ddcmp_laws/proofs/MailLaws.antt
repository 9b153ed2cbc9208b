-- Which lines of a text are messages.
use Rattle.std.proofs.Common.{◌≡◌, ◌∙◌, ap, sym, refl, ℕ, zero, suc, Bool, true, false, cond}
use Rattle.std.proofs.Common.{List, [], ◌∷◌, ◌++◌, append_assoc, append-nil, arith}
use Rattle.std.proofs.Common.{option_to_list, ◌+◌, ◌/◌, ◌%◌}
use Rattle.std.specs.Prelude.{◌==◌, if◌then◌else◌, codes, decimal, slice_index, nat_lt}
use Rattle.std.specs.Fmt.{digits, digits_onto, digit_glyph}
use Rattle.hex.specs.Hex.{encode_with, encode_lower, lower_digits}
use Rattle.ddcmp_laws.specs.MailLines.{after_word, lines_from, mails_in, mails_of}

-- ---- bytes of a line

abbrev pub is_plain : List ℕ → Bool
is_plain [] = true
is_plain (byte ∷ rest) = if byte == 10 then false else is_plain rest

pub plain_more : (xs ys : List ℕ) → is_plain xs ≡ true → is_plain ys ≡ true
    → is_plain (xs ++ ys) ≡ true
plain_more [] ys p q = q
plain_more (x ∷ xs) ys p q = by (x == 10) p (λ e. plain_more xs ys e q)
  where
    by : (feed : Bool) → cond feed false (is_plain xs) ≡ true
        → (is_plain xs ≡ true → is_plain (xs ++ ys) ≡ true)
        → cond feed false (is_plain (xs ++ ys)) ≡ true
    by true e more = e
    by false e more = more e

plain_one : (x : ℕ) (xs : List ℕ) → (x == 10) ≡ false → is_plain xs ≡ true
    → is_plain (x ∷ xs) ≡ true
plain_one x xs e p = ap (λ b. cond b false (is_plain xs)) e ∙ p

-- ---- digits

digit_plain : (d : ℕ) → (digit_glyph false d == 10) ≡ false
digit_plain d = by (nat_lt d 10)
  where
    by : (low : Bool) → (cond low (48 + d) (87 + d) == 10) ≡ false
    by true = grind arith
    by false = grind arith

digits_plain : (k n : ℕ) (acc : List ℕ) → is_plain acc ≡ true
    → is_plain (digits_onto k 10 false n acc) ≡ true
digits_plain zero n acc p = p
digits_plain (suc k) n acc p =
    let more = digit_glyph false (n % 10) ∷ acc in
    let q : is_plain more ≡ true =
    plain_one (digit_glyph false (n % 10)) acc (digit_plain (n % 10)) p in
    by (n / 10 == 0) more q (digits_plain k (n / 10) more q)
  where
    by : (last : Bool) (more : List ℕ) → is_plain more ≡ true
        → is_plain (digits_onto k 10 false (n / 10) more) ≡ true
        → is_plain (cond last more (digits_onto k 10 false (n / 10) more)) ≡ true
    by true more q r = q
    by false more q r = r

pub decimal_plain : (n : ℕ) → is_plain (decimal n) ≡ true
unfolding digits
decimal_plain n = digits_plain 64 n [] refl

index_plain : (t : List ℕ) (k : ℕ) → is_plain t ≡ true → (slice_index t k == 10) ≡ false
index_plain [] k p = refl
index_plain (x ∷ t) zero p = by (x == 10) p
  where
    by : (feed : Bool) → cond feed false (is_plain t) ≡ true → feed ≡ false
    by true e = cc
    by false e = refl
index_plain (x ∷ t) (suc k) p = by (x == 10) p (index_plain t k)
  where
    by : (feed : Bool) → cond feed false (is_plain t) ≡ true
        → (is_plain t ≡ true → (slice_index t k == 10) ≡ false)
        → (slice_index t k == 10) ≡ false
    by true e more = cc
    by false e more = more e

pub hex_plain : (message : List ℕ) → is_plain (encode_lower message) ≡ true
unfolding encode_with
hex_plain [] = refl
hex_plain (byte ∷ rest) =
    let high = slice_index lower_digits (byte / 16) in
    let low = slice_index lower_digits (byte % 16) in
    plain_one high (low ∷ encode_lower rest) (index_plain lower_digits (byte / 16) refl)
    (plain_one low (encode_lower rest) (index_plain lower_digits (byte % 16) refl)
    (hex_plain rest))

-- ---- lines

lines_more : (front xs ys : List ℕ)
    → (left : List ℕ) × (lines_from front (xs ++ ys) ≡ lines_from front xs ++ lines_from left ys)
unfolding lines_from
lines_more front [] ys = (front, refl)
lines_more front (x ∷ xs) ys =
    by (x == 10) (lines_more [] xs ys) (lines_more (front ++ x ∷ []) xs ys)
  where
    by : (feed : Bool)
        → ((left : List ℕ) × (lines_from [] (xs ++ ys) ≡ lines_from [] xs ++ lines_from left ys))
        → ((left : List ℕ) × (lines_from (front ++ x ∷ []) (xs ++ ys)
        ≡ lines_from (front ++ x ∷ []) xs ++ lines_from left ys))
        → (left : List ℕ) × (cond feed (front ∷ lines_from [] (xs ++ ys))
        (lines_from (front ++ x ∷ []) (xs ++ ys))
        ≡ cond feed (front ∷ lines_from [] xs) (lines_from (front ++ x ∷ []) xs)
        ++ lines_from left ys)
    by true p q = (p.0, ap (λ ls. front ∷ ls) p.1)
    by false p q = q

line_first : (front body rest : List ℕ) → is_plain body ≡ true
    → lines_from front (body ++ 10 ∷ rest) ≡ (front ++ body) ∷ lines_from [] rest
unfolding lines_from
line_first front [] rest p = ap (λ l. l ∷ lines_from [] rest) (sym (append-nil front))
line_first front (x ∷ body) rest p = by (x == 10) p (line_first (front ++ x ∷ []) body rest)
  where
    by : (feed : Bool) → cond feed false (is_plain body) ≡ true
        → (is_plain body ≡ true → lines_from (front ++ x ∷ []) (body ++ 10 ∷ rest)
        ≡ ((front ++ x ∷ []) ++ body) ∷ lines_from [] rest)
        → cond feed (front ∷ lines_from [] (body ++ 10 ∷ rest))
        (lines_from (front ++ x ∷ []) (body ++ 10 ∷ rest))
        ≡ (front ++ x ∷ body) ∷ lines_from [] rest
    by true e more = cc
    by false e more =
        more e
        ∙ ap (λ l. l ∷ lines_from [] rest) (append_assoc front (x ∷ []) body)

mails_more : (xs ys : List (List ℕ)) → mails_of (xs ++ ys) ≡ mails_of xs ++ mails_of ys
unfolding mails_of
mails_more [] ys = refl
mails_more (x ∷ xs) ys =
    ap (λ ms. option_to_list (after_word (codes "mail ") x) ++ ms) (mails_more xs ys)
    ∙ sym (append_assoc (option_to_list (after_word (codes "mail ") x)) (mails_of xs) (mails_of ys))

-- what begins a text begins its messages
pub mails_first : (xs ys : List ℕ)
    → (rest : List (List ℕ)) × (mails_in xs ++ rest ≡ mails_in (xs ++ ys))
mails_first xs ys =
    let m = lines_more [] xs ys in (
      mails_of (lines_from m.0 ys),
      sym (ap mails_of m.1 ∙ mails_more (lines_from [] xs) (lines_from m.0 ys)),
    )

-- A text of whole lines, with these messages.
abbrev pub Tells : List ℕ → List (List ℕ) → Type 0
Tells text messages = (rest : List ℕ) → mails_in (text ++ rest) ≡ messages ++ mails_in rest

pub tells_more : (x y : List ℕ) (ms ns : List (List ℕ)) → Tells x ms → Tells y ns
    → Tells (x ++ y) (ms ++ ns)
tells_more x y ms ns p q rest =
    ap mails_in (append_assoc x y rest)
    ∙ p (y ++ rest)
    ∙ ap (λ zs. ms ++ zs) (q rest)
    ∙ sym (append_assoc ms ns (mails_in rest))

pub tells_line : (body : List ℕ) → is_plain body ≡ true
    → Tells (body ++ 10 ∷ []) (option_to_list (after_word (codes "mail ") body))
unfolding mails_of
tells_line body p rest =
    ap mails_in (append_assoc body (10 ∷ []) rest) ∙ ap mails_of (line_first [] body rest p)

pub tells_all : (text : List ℕ) (messages : List (List ℕ)) → Tells text messages
    → mails_in text ≡ messages
unfolding mails_of lines_from
tells_all text messages t =
    ap mails_in (sym (append-nil text)) ∙ t [] ∙ append-nil messages
