-- A burst of at most 16 bits changes the check.
use Rattle.std.proofs.Common.{◌≡◌, ℕ, zero, suc, ◌+◌, ◌/◌, ◌%◌, ◌≤◌, ◌⊎◌, inl, inr, Bool, true}
use Rattle.std.proofs.Common.{false, cond, List, [], ◌∷◌, ◌++◌, length, take, drop, slice_index}
use Rattle.std.proofs.Common.{refl, sym, ◌∙◌, ap, subst, arith, append_assoc, length-append, Ok}
use Rattle.std.proofs.Common.{Err, Result}
use Rattle.std.specs.Prelude.{replicate, ◌==◌, ◌&&◌}
use Rattle.std.proofs.Math.Bool.{xor}
use Rattle.std.proofs.lemmas.List.{length-replicate, append-nil, take-append-drop}
use Rattle.ddcmp_num.specs.Check.{low_bits, bits, add, divisor_rest, remainder, number, check_of}
use Rattle.ddcmp_num.specs.Check.{check_pair}
use Rattle.ddcmp_num.proofs.Division.{shift, run, divided, length-shift, length-add, add-append}
use Rattle.ddcmp_num.proofs.Division.{add_swap, add-zeros, bits-append, length-low_bits}
use Rattle.ddcmp_num.proofs.Division.{number-low_bits, low_bits-number}
use Rattle.ddcmp_frame.specs.declared.header.Header.{Header}
use Rattle.ddcmp_frame.specs.declared.header.HeaderFault.{HeaderFault}
use Rattle.ddcmp_frame.specs.declared.header.HeaderFault.TheVariants.{NotAStart, Check, BadType}
use Rattle.ddcmp_frame.specs.declared.header.HeaderFault.TheVariants.{CountZero}
use Rattle.ddcmp_frame.specs.Spelling.{HasCheck, Says, parsed}
use Rattle.ddcmp_frame.specs.Reading.{data_after_header, is_data_right}
use Rattle.ddcmp_frame.proofs.SpellingLaws.{parsed-says}
use Rattle.ddcmp_frame.proofs.ReadingLaws.{drop-drop}
use Rattle.ddcmp_frame.proofs.Tests.{eqb-true}
use Rattle.ddcmp_laws.specs.Damage.{DiffersInABurst, DiffersInOneByte}

abbrev zeros : ℕ → List Bool
zeros n = replicate n false

-- ---- the register of the check, whose steps are those of the division

run-append : (xs ys r : List Bool) → run (xs ++ ys) r ≡ run ys (run xs r)
unfolding run
run-append [] ys r = refl
run-append (x ∷ xs) ys r = run-append xs ys (shift (add (x ∷ []) r))

length-run : (xs r : List Bool) → length r ≡ 16 → length (run xs r) ≡ 16
unfolding run add
length-run [] r h = h
length-run (x ∷ xs) [] h = absurd (omega arith)
length-run (x ∷ xs) (y ∷ r) h =
    length-run xs (shift (xor x y ∷ r)) (length-shift (xor x y) r (omega arith))

register_of : List ℕ → List Bool
register_of text = run (bits text) (replicate 16 false)

register-length : (text : List ℕ) → length (register_of text) ≡ 16
unfolding register_of
register-length text = length-run (bits text) (replicate 16 false) (length-replicate 16 false)

check_of-register : (text : List ℕ) → check_of text ≡ number (register_of text)
unfolding check_of register_of add
check_of-register text =
    let z = simp length-replicate at (length-append (bits text) (replicate 16 false)) in
    ap number
    (ap (remainder (length (bits text)))
    (sym (add-zeros [] (bits text ++ replicate 16 false) 16 (omega arith)))
    ∙ divided (bits text) (replicate 16 false) (length-replicate 16 false))

-- ---- one step of the register determines what it was

snoc_once : (xs ys : List Bool) (a b : Bool) → length xs ≡ length ys → xs ++ a ∷ [] ≡ ys ++ b ∷ []
    → (xs ≡ ys) × (a ≡ b)
snoc_once [] [] a b l e = (refl, cc e)
snoc_once [] (y ∷ ys) a b l e = absurd (omega (arith, l))
snoc_once (x ∷ xs) [] a b l e = absurd (omega (arith, l))
snoc_once (x ∷ xs) (y ∷ ys) a b l e =
    let rest : xs ++ a ∷ [] ≡ ys ++ b ∷ [] = cc e in
    let first : x ≡ y = cc e in
    let k = snoc_once xs ys a b (omega (arith, l)) rest in
    (cc (first, k.0), k.1)

xor_again : (a b : Bool) → xor a (xor a b) ≡ b
unfolding xor
xor_again true true = refl
xor_again true false = refl
xor_again false true = refl
xor_again false false = refl

add_again : (p q : List Bool) → length p ≤ length q → add p (add p q) ≡ q
unfolding add
add_again [] q h = refl
add_again (a ∷ p) [] h = absurd (omega (arith, h))
add_again (a ∷ p) (b ∷ q) h = let e = add_again p q (omega (arith, h)) in cc (xor_again a b, e)

-- the divisor is odd: without its last bit
divisor_front : List Bool
divisor_front = true ∷ replicate 12 false ++ true ∷ false ∷ []

add_snoc : (p q : List Bool) (a b : Bool) → length p ≡ length q
    → add (p ++ a ∷ []) (q ++ b ∷ []) ≡ add p q ++ xor a b ∷ []
unfolding add
add_snoc [] [] a b l = refl
add_snoc [] (y ∷ q) a b l = absurd (omega (arith, l))
add_snoc (x ∷ p) [] a b l = absurd (omega (arith, l))
add_snoc (x ∷ p) (y ∷ q) a b l = ap (λ t. xor x y ∷ t) (add_snoc p q a b (omega (arith, l)))

shift_is : (x : Bool) (r : List Bool) → length r ≡ 15
    → shift (x ∷ r) ≡ cond x (add divisor_front r) r ++ x ∷ []
unfolding shift divisor_rest divisor_front xor
shift_is true r l = add_snoc divisor_front r true false (sym l)
shift_is false r l = refl

front_long : length divisor_front ≡ 15
unfolding divisor_front
front_long = refl

cond_long : (x : Bool) (r : List Bool) → length r ≡ 15
    → length (cond x (add divisor_front r) r) ≡ 15
cond_long true r l =
    let k = length-add divisor_front r (omega (arith, l, front_long)) in omega (arith, k, l)
cond_long false r l = l

cond_once : (x : Bool) (r s : List Bool) → length r ≡ 15 → length s ≡ 15
    → cond x (add divisor_front r) r ≡ cond x (add divisor_front s) s → r ≡ s
cond_once true r s l m e =
    sym (add_again divisor_front r (omega (arith, l, front_long))) ∙ ap (add divisor_front) e
    ∙ add_again divisor_front s (omega (arith, m, front_long))
cond_once false r s l m e = e

shift_once : (x y : Bool) (r s : List Bool) → length r ≡ 15 → length s ≡ 15
    → shift (x ∷ r) ≡ shift (y ∷ s) → (x ≡ y) × (r ≡ s)
shift_once x y r s l m e =
    let k =
    snoc_once _ _ x y (cond_long x r l ∙ sym (cond_long y s m))
    (sym (shift_is x r l) ∙ e ∙ shift_is y s m) in
    (k.1, cond_once x r s l m (k.0 ∙ ap (λ b. cond b (add divisor_front s) s) (sym k.1)))

xor_once : (a b c : Bool) → xor a b ≡ xor a c → b ≡ c
xor_once a b c e = sym (xor_again a b) ∙ ap (xor a) e ∙ xor_again a c

-- the same bits leave other registers other
run_once : (bs r s : List Bool) → length r ≡ 16 → length s ≡ 16 → run bs r ≡ run bs s → r ≡ s
unfolding run add
run_once [] r s l m e = e
run_once (b ∷ bs) [] s l m e = absurd (omega (arith, l))
run_once (b ∷ bs) (x ∷ r) [] l m e = absurd (omega (arith, m))
run_once (b ∷ bs) (x ∷ r) (y ∷ s) l m e =
    let one =
    run_once bs (shift (xor b x ∷ r)) (shift (xor b y ∷ s)) (length-run (b ∷ []) (x ∷ r) l)
    (length-run (b ∷ []) (y ∷ s) m) e in
    let k = shift_once (xor b x) (xor b y) r s (omega (arith, l)) (omega (arith, m)) one in
    let first = xor_once b x y k.0 in
    cc (first, k.1)

-- ---- at most 16 bits

shift_add : (y : Bool) (bs r : List Bool) → length bs ≤ length r
    → shift (y ∷ add bs r) ≡ add bs (shift (y ∷ r))
unfolding shift
shift_add false bs r h = sym (add-append bs r (false ∷ []) h)
shift_add true bs r h =
    ap (add divisor_rest) (sym (add-append bs r (false ∷ []) h))
    ∙ add_swap divisor_rest bs (r ++ false ∷ [])

xor_none : (a : Bool) → xor false a ≡ a
unfolding xor
xor_none true = refl
xor_none false = refl

-- bits are fed one by one, or all at once before as many steps
fed : (xs r : List Bool) → length xs ≤ 16 → length r ≡ 16
    → run xs r ≡ run (zeros (length xs)) (add xs r)
unfolding run add
fed [] r h l = refl
fed (x ∷ xs) [] h l = absurd (omega (arith, l))
fed (x ∷ xs) (y ∷ r) h l =
    fed xs (shift (xor x y ∷ r)) (omega (arith, h)) (length-run (x ∷ []) (y ∷ r) l)
    ∙ ap (run (zeros (length xs))) (sym (shift_add (xor x y) xs r (omega (arith, h, l))))
    ∙ ap (λ b. run (zeros (length xs)) (shift (b ∷ add xs r))) (sym (xor_none (xor x y)))

xor_other : (a b c : Bool) → xor a c ≡ xor b c → a ≡ b
unfolding xor
xor_other true true c e = refl
xor_other false false c e = refl
xor_other true false true e = absurd (cc e)
xor_other true false false e = absurd (cc e)
xor_other false true true e = absurd (cc e)
xor_other false true false e = absurd (cc e)

add_other : (p q r : List Bool) → length p ≡ length q → length p ≤ length r → add p r ≡ add q r
    → p ≡ q
unfolding add
add_other [] [] r l h e = refl
add_other [] (b ∷ q) r l h e = absurd (omega (arith, l))
add_other (a ∷ p) [] r l h e = absurd (omega (arith, l))
add_other (a ∷ p) (b ∷ q) [] l h e = absurd (omega (arith, h))
add_other (a ∷ p) (b ∷ q) (c ∷ r) l h e =
    let rest : add p r ≡ add q r = cc e in
    let first : xor a c ≡ xor b c = cc e in
    let k = add_other p q r (omega (arith, l)) (omega (arith, h)) rest in
    let j = xor_other a b c first in
    cc (j, k)

burst_once : (sent came r : List Bool) → length sent ≤ 16 → length came ≡ length sent
    → length r ≡ 16 → run sent r ≡ run came r → sent ≡ came
burst_once sent came r h l m e =
    let first = fed sent r h m in
    let second = fed came r (omega (arith, h, l)) m ∙ ap (λ k. run (zeros k) (add came r)) l in
    let a = length-add sent r (omega (arith, h, m)) in
    let b = length-add came r (omega (arith, h, l, m)) in
    add_other sent came r (sym l) (omega (arith, h, m))
    (run_once (zeros (length sent)) (add sent r) (add came r) (a ∙ m) (b ∙ m)
    (sym first ∙ e ∙ second))

-- ---- a text with its check

-- the bits of a check as it goes on the line are those of the register
low_eight : (c : ℕ) → low_bits 8 (c % 256) ≡ low_bits 8 c
unfolding low_bits
low_eight c =
    let b0 : c % 256 % 2 ≡ c % 2 = omega arith in
    let b1 : c % 256 / 2 % 2 ≡ c / 2 % 2 = omega arith in
    let b2 : c % 256 / 2 / 2 % 2 ≡ c / 2 / 2 % 2 = omega arith in
    let b3 : c % 256 / 2 / 2 / 2 % 2 ≡ c / 2 / 2 / 2 % 2 = omega arith in
    let b4 : c % 256 / 2 / 2 / 2 / 2 % 2 ≡ c / 2 / 2 / 2 / 2 % 2 = omega arith in
    let b5 : c % 256 / 2 / 2 / 2 / 2 / 2 % 2 ≡ c / 2 / 2 / 2 / 2 / 2 % 2 = omega arith in
    let b6 : c % 256 / 2 / 2 / 2 / 2 / 2 / 2 % 2 ≡ c / 2 / 2 / 2 / 2 / 2 / 2 % 2 = omega arith in
    let b7 : c % 256 / 2 / 2 / 2 / 2 / 2 / 2 / 2 % 2 ≡ c / 2 / 2 / 2 / 2 / 2 / 2 / 2 % 2 =
    omega arith in
    λ i. (b0 i == 1) ∷ (b1 i == 1) ∷ (b2 i == 1) ∷ (b3 i == 1) ∷ (b4 i == 1) ∷ (b5 i == 1)
    ∷ (b6 i == 1) ∷ (b7 i == 1) ∷ []

both_bytes : (c : ℕ) → low_bits 8 c ++ low_bits 8 (c / 256) ≡ low_bits 16 c
unfolding low_bits
both_bytes c =
    let e : c / 256 ≡ c / 2 / 2 / 2 / 2 / 2 / 2 / 2 / 2 = omega arith in
    ap (λ n. low_bits 8 c ++ low_bits 8 n) e

check_bits : (c : ℕ) → bits (check_pair c) ≡ low_bits 16 c
unfolding bits
check_bits c =
    ap (λ (x : List Bool). x ++ (low_bits 8 (c / 256) ++ [])) (low_eight c)
    ∙ ap (λ (x : List Bool). low_bits 8 c ++ x) (append-nil (low_bits 8 (c / 256)))
    ∙ both_bytes c

-- a register into which its own bits are fed is empty
more_zeros : (j : ℕ) → zeros j ++ false ∷ [] ≡ zeros (suc j)
more_zeros zero = refl
more_zeros (suc j) = ap (λ (x : List Bool). false ∷ x) (more_zeros j)

xor_self : (a : Bool) → xor a a ≡ false
unfolding xor
xor_self true = refl
xor_self false = refl

run_self : (xs : List Bool) (j : ℕ) → run xs (xs ++ zeros j) ≡ zeros (length xs + j)
unfolding run add shift
run_self [] j = ap zeros (omega arith)
run_self (x ∷ xs) j =
    ap (λ b. run xs (shift (b ∷ (xs ++ zeros j)))) (xor_self x)
    ∙ ap (run xs)
    (append_assoc xs (zeros j) (false ∷ []) ∙ ap (λ (z : List Bool). xs ++ z) (more_zeros j))
    ∙ run_self xs (suc j)
    ∙ ap zeros (omega arith)

-- a text with its check leaves nothing
leaves_nothing : (text : List ℕ)
    → run (bits (text ++ check_pair (check_of text))) (zeros 16) ≡ zeros 16
unfolding register_of
leaves_nothing text =
    let r = register_of text in
    let l = register-length text in
    let whole : length r + 0 ≡ 16 = omega (arith, l) in
    let own : low_bits 16 (check_of text) ≡ r =
    ap (low_bits 16) (check_of-register text) ∙ ap (λ k. low_bits k (number r)) (sym l)
    ∙ low_bits-number r in
    ap (λ x. run x (zeros 16))
    (bits-append text (check_pair (check_of text))
    ∙ ap (λ (x : List Bool). bits text ++ x) (check_bits (check_of text) ∙ own))
    ∙ run-append (bits text) r (zeros 16)
    ∙ ap (run r) (sym (append-nil r))
    ∙ run_self r 0
    ∙ ap zeros whole

-- two texts with right checks don't differ in a burst
right_once : (old new s t : List ℕ) → old ≡ s ++ check_pair (check_of s)
    → new ≡ t ++ check_pair (check_of t) → DiffersInABurst old new → ⊥
right_once old new s t e f d =
    let first : run (bits old) (zeros 16) ≡ zeros 16 =
    ap (λ x. run (bits x) (zeros 16)) e ∙ leaves_nothing s in
    let second : run (bits new) (zeros 16) ≡ zeros 16 =
    ap (λ x. run (bits x) (zeros 16)) f ∙ leaves_nothing t in
    let r = run d.front (zeros 16) in
    let l : length r ≡ 16 = length-run d.front (zeros 16) (length-replicate 16 false) in
    let old_run : run (bits old) (zeros 16) ≡ run d.back (run d.sent r) =
    ap (λ x. run x (zeros 16)) d.old_is ∙ run-append d.front (d.sent ++ d.back) (zeros 16)
    ∙ run-append d.sent d.back r in
    let new_run : run (bits new) (zeros 16) ≡ run d.back (run d.came r) =
    ap (λ x. run x (zeros 16)) d.new_is ∙ run-append d.front (d.came ++ d.back) (zeros 16)
    ∙ run-append d.came d.back r in
    let same =
    run_once d.back (run d.sent r) (run d.came r) (length-run d.sent r l)
    (length-run d.came r l) (sym old_run ∙ first ∙ sym second ∙ new_run) in
    d.other (burst_once d.sent d.came r d.short d.as_long l same)

-- one byte is a burst
bits_at : (front back : List ℕ) (b : ℕ)
    → bits (front ++ b ∷ back) ≡ bits front ++ (low_bits 8 b ++ bits back)
unfolding bits
bits_at front back b = bits-append front (b ∷ back)

byte_burst : (old new : List ℕ) → DiffersInOneByte old new → DiffersInABurst old new
byte_burst old new d = record {
  front = bits d.front;
  sent = low_bits 8 d.sent;
  came = low_bits 8 d.came;
  back = bits d.back;
  old_is = ap bits d.old_is ∙ bits_at d.front d.back d.sent;
  new_is = ap bits d.new_is ∙ bits_at d.front d.back d.came;
  short = let l = length-low_bits 8 d.sent in omega (arith, l);
  as_long = length-low_bits 8 d.came ∙ sym (length-low_bits 8 d.sent);
  other =
      λ e. d.other
      (sym (number-low_bits 8 d.sent (omega (arith, d.sent_byte))) ∙ ap number e
      ∙ number-low_bits 8 d.came (omega (arith, d.came_byte)));
}

-- ---- headers

header_right : (bytes : List ℕ) → HasCheck bytes
    → bytes ≡ take 6 bytes ++ check_pair (check_of (take 6 bytes))
header_right bytes has = sym (take-append-drop 6 bytes) ∙ ap (λ (x : List ℕ). take 6 bytes ++ x) has

pub header_burst : (h : Header) (old new : List ℕ) → length old ≡ 8 → length new ≡ 8
    → parsed old ≡ Ok h → DiffersInABurst old new
    → (parsed new ≡ Err Check) ⊎ (parsed new ≡ Err NotAStart)
header_burst h old new l m e d = by (parsed new) refl
  where
    was : HasCheck old
    was = (subst (λ v. Says v old) e (parsed-says old l)).1

    never : HasCheck new → ⊥
    never is =
        right_once old new (take 6 old) (take 6 new) (header_right old was) (header_right new is) d

    by : (v : Result Header HeaderFault) → parsed new ≡ v → (v ≡ Err Check) ⊎ (v ≡ Err NotAStart)
    by (Ok g) f = absurd (never (subst (λ v. Says v new) f (parsed-says new m)).1)
    by (Err Check) f = inl refl
    by (Err NotAStart) f = inr refl
    by (Err (BadType c)) f = absurd (never (subst (λ v. Says v new) f (parsed-says new m)).1)
    by (Err CountZero) f = absurd (never (subst (λ v. Says v new) f (parsed-says new m)).2)

pub header_byte : (h : Header) (old new : List ℕ) → length old ≡ 8 → length new ≡ 8
    → parsed old ≡ Ok h → DiffersInOneByte old new
    → (parsed new ≡ Err Check) ⊎ (parsed new ≡ Err NotAStart)
header_byte h old new l m e d = header_burst h old new l m e (byte_burst old new d)

-- ---- data

last_two : (k : ℕ) (t : List ℕ) → length t ≡ k + 2
    → drop k t ≡ slice_index t k ∷ slice_index t (k + 1) ∷ []
last_two zero (a ∷ b ∷ []) l = refl
last_two zero (a ∷ b ∷ c ∷ t) l = absurd (omega (arith, l))
last_two zero (a ∷ []) l = absurd (omega (arith, l))
last_two zero [] l = absurd (omega (arith, l))
last_two (suc k) [] l = absurd (omega (arith, l))
last_two (suc k) (a ∷ t) l =
    let e : suc k + 1 ≡ suc (k + 1) = omega arith in
    last_two k t (omega (arith, l)) ∙ ap (λ i. slice_index t k ∷ slice_index (a ∷ t) i ∷ []) (sym e)

both_right : (x y : Bool) → (x && y) ≡ true → (x ≡ true) × (y ≡ true)
both_right true y e = (refl, e)
both_right false y e = absurd (cc e)

data_is : (n : ℕ) (t : List ℕ) → length t ≡ n + 10 → is_data_right n t ≡ true
    → drop 8 t ≡ data_after_header n t ++ check_pair (check_of (data_after_header n t))
unfolding is_data_right
data_is n t l right =
    let s = data_after_header n t in
    let k =
    both_right (slice_index t (n + 8) == check_of s % 256)
    (slice_index t (n + 9) == check_of s / 256) right in
    let low = eqb-true (slice_index t (n + 8)) (check_of s % 256) k.0 in
    let high = eqb-true (slice_index t (n + 9)) (check_of s / 256) k.1 in
    let nine : n + 8 + 1 ≡ n + 9 = omega arith in
    let tail : drop n (drop 8 t) ≡ check_pair (check_of s) =
    drop-drop 8 n t ∙ ap (λ i. drop i t) (omega arith) ∙ last_two (n + 8) t (omega (arith, l))
    ∙ (λ i. low i ∷ (ap (slice_index t) nine ∙ high) i ∷ []) in
    sym (take-append-drop n (drop 8 t)) ∙ ap (λ (x : List ℕ). s ++ x) tail

pub data_burst : (n : ℕ) (old new : List ℕ) → length old ≡ n + 10 → length new ≡ n + 10
    → is_data_right n old ≡ true → DiffersInABurst (drop 8 old) (drop 8 new)
    → is_data_right n new ≡ false
data_burst n old new l m right d = by (is_data_right n new) refl
  where
    by : (b : Bool) → is_data_right n new ≡ b → b ≡ false
    by true e =
        absurd
        (right_once (drop 8 old) (drop 8 new) (data_after_header n old) (data_after_header n new)
        (data_is n old l right) (data_is n new m e) d)
    by false e = refl

pub data_byte : (n : ℕ) (old new : List ℕ) → length old ≡ n + 10 → length new ≡ n + 10
    → is_data_right n old ≡ true → DiffersInOneByte (drop 8 old) (drop 8 new)
    → is_data_right n new ≡ false
data_byte n old new l m right d =
    data_burst n old new l m right (byte_burst (drop 8 old) (drop 8 new) d)
