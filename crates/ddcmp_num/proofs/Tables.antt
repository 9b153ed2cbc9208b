-- Eight turns of the register by a table, and the tables of the block check.
use Rattle.std.proofs.Common.{◌≡◌, ℕ, zero, suc, ◌+◌, ◌*◌, ◌/◌, ◌%◌, ◌^◌, ◌<◌, Bool, true, false}
use Rattle.std.proofs.Common.{cond, List, [], ◌∷◌, ◌++◌, length, get_or, refl, sym, ◌∙◌, ap, arith}
use Rattle.std.proofs.Common.{map, append_assoc, bit_xor}
use Rattle.std.specs.Prelude.{replicate, ◌==◌}
use Rattle.std.specs.List.{range_with_len}
use Rattle.std.proofs.Math.Bool.{xor}
use Rattle.std.proofs.lemmas.Nat.{xor_shr, xor_block, xor_comm, xor_of_8}
use Rattle.std.proofs.lemmas.List.{get_or-map, length-map, append-nil}
use Rattle.std.proofs.lemmas.List.FromFn.{get_or-map-range_with_len, length-map-range_with_len}
use Rattle.std.specs.Int.Bits.{xor_zero_l, xor_zero_r, xor_self, xor_assoc}
use Rattle.ddcmp_num.specs.Check.{check_of}
use Rattle.ddcmp_num.specs.declared.check_tables.TheConstants.{BYTE_CHECKS}
use Rattle.ddcmp_num.proofs.OneByte.{AreBytes, all_bytes}
use Rattle.ddcmp_num.proofs.Division.{divisor_register, next, turns, turned, bit-xor, none_yet}

-- ---- a turn of a sum is the sum of the turns

xor_swap : (a b c : ℕ) → bit_xor a (bit_xor b c) ≡ bit_xor b (bit_xor a c)
xor_swap a b c = sym (xor_assoc a b c) ∙ ap (λ t. bit_xor t c) (xor_comm a b) ∙ xor_assoc b a c

xor_four : (a b c d : ℕ) → bit_xor (bit_xor a b) (bit_xor c d) ≡ bit_xor (bit_xor a c) (bit_xor b d)
xor_four a b c d =
    xor_assoc a b (bit_xor c d) ∙ ap (bit_xor a) (xor_swap b c d)
    ∙ sym (xor_assoc a c (bit_xor b d))

chosen-xor : (x y : Bool) (p q d : ℕ)
    → cond (xor x y) (bit_xor (bit_xor p q) d) (bit_xor p q)
    ≡ bit_xor (cond x (bit_xor p d) p) (cond y (bit_xor q d) q)
unfolding xor
chosen-xor true true p q d =
    sym (xor_four p d q d ∙ ap (bit_xor (bit_xor p q)) (xor_self d) ∙ xor_zero_r (bit_xor p q))
chosen-xor true false p q d = xor_assoc p q d ∙ xor_swap p q d ∙ xor_comm q (bit_xor p d)
chosen-xor false true p q d = xor_assoc p q d
chosen-xor false false p q d = refl

next-xor : (a b : ℕ) → next (bit_xor a b) ≡ bit_xor (next a) (next b)
unfolding next
next-xor a b =
    rw (bit-xor, xor_shr a b 1)
    (chosen-xor (a % 2 == 1) (b % 2 == 1) (a / 2) (b / 2) divisor_register)

turns-xor : (k a b : ℕ) → turns k (bit_xor a b) ≡ bit_xor (turns k a) (turns k b)
unfolding turns
turns-xor zero a b = refl
turns-xor (suc k) a b = ap (turns k) (next-xor a b) ∙ turns-xor k (next a) (next b)

-- ---- the high byte of a register only moves down

next-double : (n : ℕ) → next (2 * n) ≡ n
unfolding next
next-double n =
    let m : (2 * n) % 2 ≡ 0 = omega arith in
    let d : (2 * n) / 2 ≡ n = omega arith in
    rw (m, d) refl

turns-double : (k m n : ℕ) → m ≡ 2 * n → turns (suc k) m ≡ turns k n
unfolding turns
turns-double k m n e = ap (turns k) (ap next e ∙ next-double n)

turns-high : (h : ℕ) → turns 8 (h * 2 ^ 8 + 0) ≡ h
unfolding turns
turns-high h =
    turns-double 7 (h * 2 ^ 8 + 0) (h * 128) (omega arith)
    ∙ turns-double 6 (h * 128) (h * 64) (omega arith)
    ∙ turns-double 5 (h * 64) (h * 32) (omega arith)
    ∙ turns-double 4 (h * 32) (h * 16) (omega arith)
    ∙ turns-double 3 (h * 16) (h * 8) (omega arith)
    ∙ turns-double 2 (h * 8) (h * 4) (omega arith)
    ∙ turns-double 1 (h * 4) (h * 2) (omega arith)
    ∙ turns-double 0 (h * 2) h (omega arith)

two_bytes : (r : ℕ) → r ≡ bit_xor (r / 256 * 2 ^ 8 + 0) (0 * 2 ^ 8 + r % 256)
two_bytes r =
    let joined = xor_block 8 (r / 256) 0 0 (r % 256) (omega arith) (omega arith) in
    let high = xor_zero_r (r / 256) in
    let low = xor_zero_l (r % 256) in
    omega (arith, joined, high, low)

-- eight turns of a register, from its low byte
turns-register : (r : ℕ) → turns 8 r ≡ bit_xor (r / 256) (turns 8 (r % 256))
turns-register r =
    ap (turns 8) (two_bytes r)
    ∙ turns-xor 8 (r / 256 * 2 ^ 8 + 0) (0 * 2 ^ 8 + r % 256)
    ∙ ap (λ t. bit_xor t (turns 8 (0 * 2 ^ 8 + r % 256))) (turns-high (r / 256))
    ∙ ap (λ t. bit_xor (r / 256) (turns 8 t)) (omega arith)

-- a register that takes a byte, by its two bytes
turns-pushed : (register byte : ℕ)
    → turns 8 (bit_xor register byte)
    ≡ bit_xor (register / 256) (turns 8 (bit_xor (register % 256) byte))
turns-pushed register byte =
    turns-xor 8 register byte
    ∙ ap (λ t. bit_xor t (turns 8 byte)) (turns-register register)
    ∙ xor_assoc (register / 256) (turns 8 (register % 256)) (turns 8 byte)
    ∙ ap (bit_xor (register / 256)) (sym (turns-xor 8 (register % 256) byte))

-- ---- the tables

-- the register after this many zero bytes
zero_bytes : ℕ → ℕ → ℕ
zero_bytes zero r = r
zero_bytes (suc k) r = zero_bytes k (turns 8 r)

-- a table, and those of one zero byte more, of two, and so on
tables_from : ℕ → List ℕ → List (List ℕ)
tables_from zero table = []
tables_from (suc n) table = table ∷ tables_from n (map (turns 8) table)

tables-computed : BYTE_CHECKS ≡ tables_from 16 (map (turns 8) (range_with_len 0 256))
unfolding tables_from turns next
tables-computed = refl

tables_from-entry : (n k b : ℕ) (table : List ℕ) → k < n → b < length table
    → get_or (get_or (tables_from n table) k []) b 0 ≡ zero_bytes k (get_or table b 0)
unfolding tables_from zero_bytes
tables_from-entry zero k b table h l = absurd (omega arith)
tables_from-entry (suc n) zero b table h l = refl
tables_from-entry (suc n) (suc k) b table h l =
    tables_from-entry n k b (map (turns 8) table) (omega arith)
    (omega (arith, length-map table (turns 8)))
    ∙ ap (zero_bytes k) (get_or-map (turns 8) table b 0 0 l)

-- zero bytes after a text
zero_bytes-check : (k register : ℕ) (text : List ℕ) → register ≡ check_of text
    → zero_bytes k register ≡ check_of (text ++ replicate k 0)
unfolding zero_bytes
zero_bytes-check zero register text h = h ∙ ap check_of (sym (append-nil text))
zero_bytes-check (suc k) register text h =
    zero_bytes-check k (turns 8 register) (text ++ 0 ∷ [])
    (ap (turns 8) (sym (xor_zero_r register)) ∙ turned text register 0 h (omega arith))
    ∙ ap check_of (append_assoc text (0 ∷ []) (replicate k 0))

-- the register after a byte and zero bytes holds their check
byte-check : (k b : ℕ) → b < 256 → zero_bytes k (turns 8 b) ≡ check_of (b ∷ replicate k 0)
byte-check k b h =
    zero_bytes-check k (turns 8 b) (b ∷ [])
    (ap (turns 8) (sym (xor_zero_l b)) ∙ turned [] 0 b (sym none_yet) (omega arith))

-- entry b of table k is the check of the byte b and of k zero bytes after it
pub table-check : (k b : ℕ) → k < 16 → b < 256
    → get_or (get_or BYTE_CHECKS k []) b 0 ≡ check_of (b ∷ replicate k 0)
table-check k b h l =
    ap (λ t. get_or (get_or t k []) b 0) tables-computed
    ∙ tables_from-entry 16 k b (map (turns 8) (range_with_len 0 256)) h
    (omega (arith, length-map-range_with_len (turns 8) 0 256))
    ∙ ap (zero_bytes k) (get_or-map-range_with_len (turns 8) 0 256 b b 0 l (omega arith))
    ∙ byte-check k b l

-- one more byte, by the first table
pub push_by_table : (text : List ℕ) (register byte high entry : ℕ) → register ≡ check_of text
    → byte < 256
    → high ≡ register / 256 → entry ≡ check_of (bit_xor (register % 256) byte ∷ [])
    → bit_xor high entry ≡ check_of (text ++ byte ∷ [])
unfolding zero_bytes
push_by_table text register byte high entry e h top looked_up =
    let index : bit_xor (register % 256) byte < 256 =
    xor_of_8 (register % 256) byte (omega arith) (omega arith) in
    ap (bit_xor high) (looked_up ∙ sym (byte-check 0 (bit_xor (register % 256) byte) index))
    ∙ ap (λ t. bit_xor t (turns 8 (bit_xor (register % 256) byte))) top
    ∙ sym (turns-pushed register byte)
    ∙ turned text register byte e (omega arith)

-- ---- eight bytes at once

zero_bytes-xor : (k a b : ℕ)
    → zero_bytes k (bit_xor a b) ≡ bit_xor (zero_bytes k a) (zero_bytes k b)
unfolding zero_bytes
zero_bytes-xor zero a b = refl
zero_bytes-xor (suc k) a b =
    ap (zero_bytes k) (turns-xor 8 a b) ∙ zero_bytes-xor k (turns 8 a) (turns 8 b)

-- the register after these bytes
absorbed : List ℕ → ℕ → ℕ
absorbed [] register = register
absorbed (b ∷ bytes) register = absorbed bytes (turns 8 (bit_xor register b))

absorbed-check : (bytes text : List ℕ) (register : ℕ) → AreBytes bytes → register ≡ check_of text
    → absorbed bytes register ≡ check_of (text ++ bytes)
unfolding absorbed
absorbed-check [] text register all e = e ∙ ap check_of (sym (append-nil text))
absorbed-check (b ∷ bytes) text register all e =
    absorbed-check bytes (text ++ b ∷ []) (turns 8 (bit_xor register b)) all.1
    (turned text register b e all.0)
    ∙ ap check_of (append_assoc text (b ∷ []) bytes)

-- a sum, and each byte with as many zero bytes after it as bytes follow it
gathered : List ℕ → ℕ → ℕ
gathered [] sum = sum
gathered (b ∷ bytes) sum = gathered bytes (bit_xor sum (zero_bytes (suc (length bytes)) b))

absorbed-gathered : (bytes : List ℕ) (register : ℕ)
    → absorbed bytes register ≡ gathered bytes (zero_bytes (length bytes) register)
unfolding absorbed gathered zero_bytes
absorbed-gathered [] register = refl
absorbed-gathered (b ∷ bytes) register =
    absorbed-gathered bytes (turns 8 (bit_xor register b))
    ∙ ap (gathered bytes) (zero_bytes-xor (suc (length bytes)) register b)

-- zero bytes after a register, by its two bytes
parted : (k register : ℕ)
    → zero_bytes (suc k) register
    ≡ bit_xor (zero_bytes k (register / 256)) (zero_bytes (suc k) (register % 256))
unfolding zero_bytes
parted k register =
    ap (zero_bytes k) (turns-register register)
    ∙ zero_bytes-xor k (register / 256) (turns 8 (register % 256))

-- the register's two bytes go with the first two bytes
first_two : (k register a b : ℕ)
    → bit_xor (bit_xor (zero_bytes (suc k) register) (zero_bytes (suc k) a)) (zero_bytes k b)
    ≡ bit_xor (zero_bytes (suc k) (bit_xor (register % 256) a))
    (zero_bytes k (bit_xor (register / 256) b))
first_two k register a b =
    ap (λ t. bit_xor (bit_xor t (zero_bytes (suc k) a)) (zero_bytes k b))
    (parted k register
    ∙ xor_comm (zero_bytes k (register / 256)) (zero_bytes (suc k) (register % 256)))
    ∙ xor_assoc (bit_xor (zero_bytes (suc k) (register % 256)) (zero_bytes k (register / 256)))
    (zero_bytes (suc k) a) (zero_bytes k b)
    ∙ xor_four (zero_bytes (suc k) (register % 256)) (zero_bytes k (register / 256))
    (zero_bytes (suc k) a) (zero_bytes k b)
    ∙ ap (bit_xor (bit_xor (zero_bytes (suc k) (register % 256)) (zero_bytes (suc k) a)))
    (sym (zero_bytes-xor k (register / 256) b))
    ∙ ap (λ t. bit_xor t (zero_bytes k (bit_xor (register / 256) b)))
    (sym (zero_bytes-xor (suc k) (register % 256) a))

-- the check of a byte and of k zero bytes after it
abbrev pub entry : ℕ → ℕ → ℕ
entry k b = check_of (b ∷ replicate k 0)

entry-zero_bytes : (k b : ℕ) → b < 256 → zero_bytes (suc k) b ≡ entry k b
unfolding zero_bytes
entry-zero_bytes k b h = byte-check k b h

-- what a sum begins with may be added last
gathered-sum : (bytes : List ℕ) (sum : ℕ) → gathered bytes sum ≡ bit_xor (gathered bytes 0) sum
unfolding gathered
gathered-sum [] sum = sym (xor_zero_l sum)
gathered-sum (b ∷ bytes) sum =
    let first = zero_bytes (suc (length bytes)) b in
    let rest = gathered bytes 0 in
    gathered-sum bytes (bit_xor sum first)
    ∙ ap (bit_xor rest) (xor_comm sum first)
    ∙ sym (xor_assoc rest first sum)
    ∙ ap (λ t. bit_xor (bit_xor rest t) sum) (sym (xor_zero_l first))
    ∙ ap (λ t. bit_xor t sum) (sym (gathered-sum bytes (bit_xor 0 first)))

-- eight bytes by their places
eight_of : (bytes : List ℕ) → length bytes ≡ 8
    → bytes
    ≡ get_or bytes 0 0 ∷ get_or bytes 1 0 ∷ get_or bytes 2 0 ∷ get_or bytes 3 0 ∷ get_or bytes 4
    0 ∷ get_or bytes 5 0 ∷ get_or bytes 6 0 ∷ get_or bytes 7 0 ∷ []
eight_of (a ∷ b ∷ c ∷ d ∷ e ∷ f ∷ g ∷ h ∷ []) l = refl
eight_of _ l = absurd (omega arith)

-- the sum of eight bytes, of which the two that wait for the register are added last
gathered-eight : (register a b c d e f g h : ℕ)
    → gathered (a ∷ b ∷ c ∷ d ∷ e ∷ f ∷ g ∷ h ∷ []) (zero_bytes 8 register)
    ≡ bit_xor (bit_xor (bit_xor (bit_xor (bit_xor (bit_xor (zero_bytes 6 c) (zero_bytes 5 d))
    (zero_bytes 4 e)) (zero_bytes 3 f)) (zero_bytes 2 g)) (zero_bytes 1 h)) (bit_xor (zero_bytes
    8 (bit_xor (register % 256) a)) (zero_bytes 7 (bit_xor (register / 256) b)))
unfolding gathered
gathered-eight register a b c d e f g h =
    let waiting =
    bit_xor (zero_bytes 8 (bit_xor (register % 256) a)) (zero_bytes 7 (bit_xor (register / 256)
    b)) in
    ap (gathered (c ∷ d ∷ e ∷ f ∷ g ∷ h ∷ [])) (first_two 7 register a b)
    ∙ gathered-sum (c ∷ d ∷ e ∷ f ∷ g ∷ h ∷ []) waiting
    ∙ ap (λ t. bit_xor t waiting)
    (ap (gathered (d ∷ e ∷ f ∷ g ∷ h ∷ [])) (xor_zero_l (zero_bytes 6 c)))

-- eight more bytes, each by a table of its own
pub push_by_eight : (text bytes : List ℕ) (register : ℕ) → register < 2 ^ 16
    → length bytes ≡ 8 → ((i : ℕ) → get_or bytes i 0 < 256) → register ≡ check_of text
    → bit_xor (bit_xor (bit_xor (bit_xor (bit_xor (bit_xor (entry 5 (get_or bytes 2 0)) (entry 4
    (get_or bytes 3 0))) (entry 3 (get_or bytes 4 0))) (entry 2 (get_or bytes 5 0))) (entry 1
    (get_or bytes 6 0))) (entry 0 (get_or bytes 7 0))) (bit_xor (entry 7 (bit_xor (register %
    256) (get_or bytes 0 0))) (entry 6 (bit_xor (register / 256) (get_or bytes 1 0))))
    ≡ check_of (text ++ bytes)
push_by_eight text bytes register fits l small is =
    let byte : ℕ → ℕ = λ i. get_or bytes i 0 in
    let low : bit_xor (register % 256) (byte 0) < 256 =
    xor_of_8 (register % 256) (byte 0) (omega arith) (omega (arith, small 0)) in
    let high : bit_xor (register / 256) (byte 1) < 256 =
    xor_of_8 (register / 256) (byte 1) (omega arith) (omega (arith, small 1)) in
    rw (
      ← entry-zero_bytes 7 (bit_xor (register % 256) (byte 0)) low,
      ← entry-zero_bytes 6 (bit_xor (register / 256) (byte 1)) high,
      ← entry-zero_bytes 5 (byte 2) (small 2),
      ← entry-zero_bytes 4 (byte 3) (small 3),
      ← entry-zero_bytes 3 (byte 4) (small 4),
      ← entry-zero_bytes 2 (byte 5) (small 5),
      ← entry-zero_bytes 1 (byte 6) (small 6),
      ← entry-zero_bytes 0 (byte 7) (small 7),
    )
    (sym
    (gathered-eight register (byte 0) (byte 1) (byte 2) (byte 3) (byte 4) (byte 5) (byte 6) (byte
    7))
    ∙ ap (λ t. gathered t (zero_bytes 8 register)) (sym (eight_of bytes l))
    ∙ ap (λ n. gathered bytes (zero_bytes n register)) (sym l)
    ∙ sym (absorbed-gathered bytes register)
    ∙ absorbed-check bytes text register (all_bytes bytes small) is)

-- ---- sixteen bytes at once

-- sixteen bytes by their places
sixteen_of : (bytes : List ℕ) → length bytes ≡ 16
    → bytes
    ≡ get_or bytes 0 0 ∷ get_or bytes 1 0 ∷ get_or bytes 2 0 ∷ get_or bytes 3 0 ∷ get_or bytes 4
    0 ∷ get_or bytes 5 0 ∷ get_or bytes 6 0 ∷ get_or bytes 7 0 ∷ get_or bytes 8 0 ∷ get_or bytes
    9 0 ∷ get_or bytes 10 0 ∷ get_or bytes 11 0 ∷ get_or bytes 12 0 ∷ get_or bytes 13 0 ∷ get_or
    bytes 14 0 ∷ get_or bytes 15 0 ∷ []
sixteen_of (a ∷ b ∷ c ∷ d ∷ e ∷ f ∷ g ∷ h ∷ i ∷ j ∷ k ∷ l ∷ m ∷ n ∷ o ∷ p ∷ []) long = refl
sixteen_of _ long = absurd (omega arith)

-- the sum of sixteen bytes, of which the two that wait for the register are added last
gathered-sixteen : (register a b c d e f g h i j k l m n o p : ℕ)
    → gathered (a ∷ b ∷ c ∷ d ∷ e ∷ f ∷ g ∷ h ∷ i ∷ j ∷ k ∷ l ∷ m ∷ n ∷ o ∷ p ∷ []) (zero_bytes
    16 register)
    ≡ bit_xor (bit_xor (bit_xor (bit_xor (bit_xor (bit_xor (bit_xor (bit_xor (bit_xor (bit_xor
    (bit_xor (bit_xor (bit_xor (bit_xor (zero_bytes 14 c) (zero_bytes 13 d)) (zero_bytes 12 e))
    (zero_bytes 11 f)) (zero_bytes 10 g)) (zero_bytes 9 h)) (zero_bytes 8 i)) (zero_bytes 7 j))
    (zero_bytes 6 k)) (zero_bytes 5 l)) (zero_bytes 4 m)) (zero_bytes 3 n)) (zero_bytes 2 o))
    (zero_bytes 1 p)) (bit_xor (zero_bytes 16 (bit_xor (register % 256) a)) (zero_bytes 15
    (bit_xor (register / 256) b)))
unfolding gathered
gathered-sixteen register a b c d e f g h i j k l m n o p =
    let waiting =
    bit_xor (zero_bytes 16 (bit_xor (register % 256) a)) (zero_bytes 15 (bit_xor (register / 256)
    b)) in
    ap (gathered (c ∷ d ∷ e ∷ f ∷ g ∷ h ∷ i ∷ j ∷ k ∷ l ∷ m ∷ n ∷ o ∷ p ∷ [])) (first_two 15
    register a b)
    ∙ gathered-sum (c ∷ d ∷ e ∷ f ∷ g ∷ h ∷ i ∷ j ∷ k ∷ l ∷ m ∷ n ∷ o ∷ p ∷ []) waiting
    ∙ ap (λ t. bit_xor t waiting)
    (ap (gathered (d ∷ e ∷ f ∷ g ∷ h ∷ i ∷ j ∷ k ∷ l ∷ m ∷ n ∷ o ∷ p ∷ [])) (xor_zero_l
    (zero_bytes 14 c)))

-- sixteen more bytes, each by a table of its own
pub push_by_sixteen : (text bytes : List ℕ) (register : ℕ) → register < 2 ^ 16
    → length bytes ≡ 16 → ((i : ℕ) → get_or bytes i 0 < 256) → register ≡ check_of text
    → bit_xor (bit_xor (bit_xor (bit_xor (bit_xor (bit_xor (bit_xor (bit_xor (bit_xor (bit_xor
    (bit_xor (bit_xor (bit_xor (bit_xor (entry 13 (get_or bytes 2 0)) (entry 12 (get_or bytes 3
    0))) (entry 11 (get_or bytes 4 0))) (entry 10 (get_or bytes 5 0))) (entry 9 (get_or bytes 6
    0))) (entry 8 (get_or bytes 7 0))) (entry 7 (get_or bytes 8 0))) (entry 6 (get_or bytes 9
    0))) (entry 5 (get_or bytes 10 0))) (entry 4 (get_or bytes 11 0))) (entry 3 (get_or bytes 12
    0))) (entry 2 (get_or bytes 13 0))) (entry 1 (get_or bytes 14 0))) (entry 0 (get_or bytes 15
    0))) (bit_xor (entry 15 (bit_xor (register % 256) (get_or bytes 0 0))) (entry 14 (bit_xor
    (register / 256) (get_or bytes 1 0))))
    ≡ check_of (text ++ bytes)
push_by_sixteen text bytes register fits l small is =
    let byte : ℕ → ℕ = λ i. get_or bytes i 0 in
    let low : bit_xor (register % 256) (byte 0) < 256 =
    xor_of_8 (register % 256) (byte 0) (omega arith) (omega (arith, small 0)) in
    let high : bit_xor (register / 256) (byte 1) < 256 =
    xor_of_8 (register / 256) (byte 1) (omega arith) (omega (arith, small 1)) in
    rw (
      ← entry-zero_bytes 15 (bit_xor (register % 256) (byte 0)) low,
      ← entry-zero_bytes 14 (bit_xor (register / 256) (byte 1)) high,
      ← entry-zero_bytes 13 (byte 2) (small 2),
      ← entry-zero_bytes 12 (byte 3) (small 3),
      ← entry-zero_bytes 11 (byte 4) (small 4),
      ← entry-zero_bytes 10 (byte 5) (small 5),
      ← entry-zero_bytes 9 (byte 6) (small 6),
      ← entry-zero_bytes 8 (byte 7) (small 7),
      ← entry-zero_bytes 7 (byte 8) (small 8),
      ← entry-zero_bytes 6 (byte 9) (small 9),
      ← entry-zero_bytes 5 (byte 10) (small 10),
      ← entry-zero_bytes 4 (byte 11) (small 11),
      ← entry-zero_bytes 3 (byte 12) (small 12),
      ← entry-zero_bytes 2 (byte 13) (small 13),
      ← entry-zero_bytes 1 (byte 14) (small 14),
      ← entry-zero_bytes 0 (byte 15) (small 15),
    )
    (sym
    (gathered-sixteen register (byte 0) (byte 1) (byte 2) (byte 3) (byte 4) (byte 5) (byte 6)
    (byte 7) (byte 8) (byte 9) (byte 10) (byte 11) (byte 12) (byte 13) (byte 14) (byte 15))
    ∙ ap (λ t. gathered t (zero_bytes 16 register)) (sym (sixteen_of bytes l))
    ∙ ap (λ n. gathered bytes (zero_bytes n register)) (sym l)
    ∙ sym (absorbed-gathered bytes register)
    ∙ absorbed-check bytes text register (all_bytes bytes small) is)

-- ---- six bytes at once

-- six bytes by their places
six_of : (bytes : List ℕ) → length bytes ≡ 6
    → bytes
    ≡ get_or bytes 0 0 ∷ get_or bytes 1 0 ∷ get_or bytes 2 0 ∷ get_or bytes 3 0
    ∷ get_or bytes 4 0 ∷ get_or bytes 5 0 ∷ []
six_of (a ∷ b ∷ c ∷ d ∷ e ∷ f ∷ []) l = refl
six_of _ l = absurd (omega arith)

-- no bytes and zero bytes after them
zero_bytes-none : (k : ℕ) → zero_bytes k 0 ≡ 0
unfolding zero_bytes turns next
zero_bytes-none zero = refl
zero_bytes-none (suc k) = zero_bytes-none k

-- the sum of six bytes
gathered-six : (a b c d e f : ℕ)
    → gathered (a ∷ b ∷ c ∷ d ∷ e ∷ f ∷ []) 0
    ≡ bit_xor
    (bit_xor
    (bit_xor (bit_xor (bit_xor (zero_bytes 6 a) (zero_bytes 5 b)) (zero_bytes 4 c))
    (zero_bytes 3 d)) (zero_bytes 2 e))
    (zero_bytes 1 f)
unfolding gathered
gathered-six a b c d e f = ap (gathered (b ∷ c ∷ d ∷ e ∷ f ∷ [])) (xor_zero_l (zero_bytes 6 a))

-- six bytes, each by a table of its own
pub six_by_tables : (bytes : List ℕ) → length bytes ≡ 6 → ((i : ℕ) → get_or bytes i 0 < 256)
    → bit_xor
    (bit_xor
    (bit_xor
    (bit_xor (bit_xor (entry 5 (get_or bytes 0 0)) (entry 4 (get_or bytes 1 0)))
    (entry 3 (get_or bytes 2 0))) (entry 2 (get_or bytes 3 0))) (entry 1 (get_or bytes 4 0)))
    (entry 0 (get_or bytes 5 0))
    ≡ check_of bytes
six_by_tables bytes l small =
    let byte : ℕ → ℕ = λ i. get_or bytes i 0 in
    rw (
      ← entry-zero_bytes 5 (byte 0) (small 0),
      ← entry-zero_bytes 4 (byte 1) (small 1),
      ← entry-zero_bytes 3 (byte 2) (small 2),
      ← entry-zero_bytes 2 (byte 3) (small 3),
      ← entry-zero_bytes 1 (byte 4) (small 4),
      ← entry-zero_bytes 0 (byte 5) (small 5),
    )
    (sym (gathered-six (byte 0) (byte 1) (byte 2) (byte 3) (byte 4) (byte 5))
    ∙ ap (λ t. gathered t 0) (sym (six_of bytes l))
    ∙ ap (gathered bytes) (sym (zero_bytes-none (length bytes)))
    ∙ sym (absorbed-gathered bytes 0)
    ∙ absorbed-check bytes [] 0 (all_bytes bytes small) (sym none_yet))
