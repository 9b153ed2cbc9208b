-- One changed byte changes the check.
use Rattle.std.proofs.Common.{◌≡◌, ◌≢◌, ℕ, zero, suc, ◌+◌, ◌*◌, ◌/◌, ◌%◌, ◌^◌, ◌<◌, Bool, true}
use Rattle.std.proofs.Common.{false, cond, List, [], ◌∷◌, ◌++◌, get_or, refl, sym, ◌∙◌, ap, arith}
use Rattle.std.proofs.Common.{append_assoc, bit_xor}
use Rattle.std.specs.Prelude.{◌==◌}
use Rattle.std.proofs.lemmas.Nat.{xor_block, xor_lt, xor_comm}
use Rattle.std.proofs.lemmas.List.{append-nil}
use Rattle.std.specs.Int.Bits.{xor_zero_r, xor_self, xor_assoc}
use Rattle.std.proofs.lemmas.Bool.Decides.{nat_tests}
use Rattle.ddcmp_num.specs.Check.{check_of}
use Rattle.ddcmp_num.proofs.Division.{divisor_register, next, turns, turned, next-bound}
use Rattle.ddcmp_num.proofs.Division.{register_of, check_of-register, register-length, number-bound}

-- an odd register gets its top bit, and an even one does not
odd_high : (r : ℕ) → r < 2 ^ 16 → bit_xor (r / 2) divisor_register ≡ 32768 + bit_xor (r / 2) 8193
odd_high r h =
    ap (λ t. bit_xor t divisor_register) low
    ∙ xor_block 15 0 1 (r / 2) 8193 (omega arith) (omega arith)
  where
    low : r / 2 ≡ 0 * 2 ^ 15 + r / 2
    low = omega arith

xor_cancel : (a b c : ℕ) → bit_xor a c ≡ bit_xor b c → a ≡ b
xor_cancel a b c e =
    sym (xor_zero_r a) ∙ ap (bit_xor a) (sym (xor_self c)) ∙ sym (xor_assoc a c c)
    ∙ ap (λ t. bit_xor t c) e
    ∙ xor_assoc b c c ∙ ap (bit_xor b) (xor_self c) ∙ xor_zero_r b

chosen_once : (x y : Bool) (r s : ℕ) → r < 2 ^ 16 → s < 2 ^ 16
    → cond x (bit_xor (r / 2) divisor_register) (r / 2)
    ≡ cond y (bit_xor (s / 2) divisor_register) (s / 2) → (x ≡ y) × (r / 2 ≡ s / 2)
chosen_once true true r s h k e = (refl, xor_cancel (r / 2) (s / 2) divisor_register e)
chosen_once true false r s h k e = absurd (omega (arith, odd_high r h))
chosen_once false true r s h k e = absurd (omega (arith, odd_high s k))
chosen_once false false r s h k e = (refl, e)

parity : (r s : ℕ) → (r % 2 == 1) ≡ (s % 2 == 1) → r / 2 ≡ s / 2 → r ≡ s
parity r s e h = let p : r % 2 ≡ s % 2 = grind (arith, nat_tests) in omega arith

next_once : (r s : ℕ) → r < 2 ^ 16 → s < 2 ^ 16 → next r ≡ next s → r ≡ s
unfolding next
next_once r s h k e =
    let c = chosen_once (r % 2 == 1) (s % 2 == 1) r s h k e in
    parity r s c.0 c.1

turns_once : (n r s : ℕ) → r < 2 ^ 16 → s < 2 ^ 16 → turns n r ≡ turns n s → r ≡ s
unfolding turns
turns_once zero r s h k e = e
turns_once (suc n) r s h k e =
    next_once r s h k (turns_once n (next r) (next s) (next-bound r h) (next-bound s k) e)

check-bound : (text : List ℕ) → check_of text < 2 ^ 16
check-bound text =
    let l = register-length text in
    omega (arith, check_of-register text, number-bound (register_of text), ap (λ k. 2 ^ k) l)

-- other checks stay other, whatever byte follows
pub push_once : (s t : List ℕ) (b : ℕ) → b < 2 ^ 8 → check_of (s ++ b ∷ []) ≡ check_of (t ++ b ∷ [])
    → check_of s ≡ check_of t
push_once s t b h e =
    xor_cancel (check_of s) (check_of t) b
    (turns_once 8 _ _ (xor_lt 16 (check_of s) b (check-bound s) (omega arith))
    (xor_lt 16 (check_of t) b (check-bound t) (omega arith))
    (turned s (check_of s) b refl h ∙ e ∙ sym (turned t (check_of t) b refl h)))

pub byte_once : (s : List ℕ) (a b : ℕ) → a < 2 ^ 8 → b < 2 ^ 8
    → check_of (s ++ a ∷ []) ≡ check_of (s ++ b ∷ []) → a ≡ b
byte_once s a b h k e =
    let c =
    turns_once 8 _ _ (xor_lt 16 (check_of s) a (check-bound s) (omega arith))
    (xor_lt 16 (check_of s) b (check-bound s) (omega arith))
    (turned s (check_of s) a refl h ∙ e ∙ sym (turned s (check_of s) b refl k)) in
    xor_cancel a b (check_of s) (xor_comm a (check_of s) ∙ c ∙ xor_comm (check_of s) b)

abbrev pub AreBytes : List ℕ → Type 0
AreBytes [] = Unit {0}
AreBytes (b ∷ bs) = (b < 2 ^ 8) × AreBytes bs

pub one_byte : (back front front' : List ℕ) → AreBytes back
    → check_of (front ++ back) ≡ check_of (front' ++ back) → check_of front ≡ check_of front'
one_byte [] front front' all e =
    ap check_of (sym (append-nil front)) ∙ e ∙ ap check_of (append-nil front')
one_byte (b ∷ back) front front' all e =
    push_once front front' b all.0
    (one_byte back (front ++ b ∷ []) (front' ++ b ∷ []) all.1
    (ap check_of (append_assoc front (b ∷ []) back) ∙ e
    ∙ ap check_of (sym (append_assoc front' (b ∷ []) back))))

pub all_bytes : (bytes : List ℕ) → ((i : ℕ) → get_or bytes i 0 < 256) → AreBytes bytes
all_bytes [] h = tt
all_bytes (b ∷ bytes) h = (h 0, all_bytes bytes (λ i. h (suc i)))

-- the bytes after a byte of a text are bytes
pub are_bytes : (front back : List ℕ) (b : ℕ) → ((i : ℕ) → get_or (front ++ b ∷ back) i 0 < 256)
    → (b < 256) × AreBytes back
are_bytes (a ∷ front) back b h = are_bytes front back b (λ i. h (suc i))
are_bytes [] back b h = (h 0, all_bytes back (λ i. h (suc i)))

pub changed_byte : (front back : List ℕ) (old new : ℕ)
    → ((i : ℕ) → get_or (front ++ old ∷ back) i 0 < 256) → new < 256 → new ≢ old
    → check_of (front ++ old ∷ back) ≡ check_of (front ++ new ∷ back) → ⊥
changed_byte front back old new h k other e =
    let all = are_bytes front back old h in
    let same : check_of (front ++ old ∷ []) ≡ check_of (front ++ new ∷ []) =
    one_byte back (front ++ old ∷ []) (front ++ new ∷ []) all.1
    (ap check_of (append_assoc front (old ∷ []) back) ∙ e
    ∙ ap check_of (sym (append_assoc front (new ∷ []) back))) in
    other (sym (byte_once front old new (omega (arith, all.0)) (omega arith) same))
