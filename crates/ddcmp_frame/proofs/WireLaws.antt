-- Frames that are read are spelled so, and frames that are spelled so are read.
use Rattle.std.proofs.Common.{◌≡◌, ℕ, zero, suc, ◌+◌, ◌*◌, ◌/◌, ◌%◌, ◌<◌, ◌≤◌, ◌↔◌, Bool, true}
use Rattle.std.proofs.Common.{false, cond, List, [], ◌∷◌, ◌++◌, length, take, drop, slice_index}
use Rattle.std.proofs.Common.{refl, sym, ◌∙◌, ap, subst, arith, Ok, Some, None, IsTrue}
use Rattle.std.proofs.Common.{append_assoc, length-append, length-drop}
use Rattle.std.proofs.lemmas.List.{take-append-drop, append-nil, length-take-le}
use Rattle.ddcmp_num.specs.Check.{check_of, check_pair}
use Rattle.ddcmp_frame.specs.declared.header.Header.{Header}
use Rattle.ddcmp_frame.specs.declared.header.Header.TheVariants.{Data, Maint, Control}
use Rattle.ddcmp_frame.specs.Fields.{CountedFields}
use Rattle.ddcmp_frame.specs.Spelling.{IsBytes, SpellsCounted, Spells, IsInRange, parsed}
use Rattle.ddcmp_frame.specs.Wire.{counted_bytes, six_bytes, eight_bytes, after_header, wire}
use Rattle.ddcmp_frame.specs.Wire.{IsFrame}
use Rattle.ddcmp_frame.specs.Reading.{count_of, data_after_header, is_data_right}
use Rattle.ddcmp_frame.specs.Reader.{frame_length}
use Rattle.ddcmp_frame.proofs.Tests.{false-true, pair_from_tests, tests_from_pair}
use Rattle.ddcmp_frame.proofs.SpellingLaws.{parsed-says, says-parsed, six-same, flag-bit}
use Rattle.ddcmp_frame.proofs.SpellingLaws.{take-bytes}
use Rattle.ddcmp_frame.specs.Spelling.{Says}
use Rattle.ddcmp_frame.proofs.ReadingLaws.{drop-drop}

-- ---- the six bytes of a header

bits-spelled : (q s : Bool) (low : ℕ) → low < 64
    → (IsTrue q ↔ ((low + (cond q 64 0 + cond s 128 0)) / 64 % 2 ≡ 1))
    × (IsTrue s ↔ ((low + (cond q 64 0 + cond s 128 0)) / 128 % 2 ≡ 1))
    × ((low + (cond q 64 0 + cond s 128 0)) % 64 ≡ low)
bits-spelled true true low h =
    ((λ e. omega arith, λ e. refl), (λ e. omega arith, λ e. refl), omega arith)
bits-spelled true false low h = (
  (λ e. omega arith, λ e. refl),
  (λ e. absurd (false-true e), λ e. absurd (omega arith)),
  omega arith,
)
bits-spelled false true low h = (
  (λ e. absurd (false-true e), λ e. absurd (omega arith)),
  (λ e. omega arith, λ e. refl),
  omega arith,
)
bits-spelled false false low h = (
  (λ e. absurd (false-true e), λ e. absurd (omega arith)),
  (λ e. absurd (false-true e), λ e. absurd (omega arith)),
  omega arith,
)

counted_bytes-spelled : (first : ℕ) (h : CountedFields) → 0 < h.count → h.count ≤ 16383
    → SpellsCounted first h (counted_bytes first h)
counted_bytes-spelled first h some most =
    let b = bits-spelled h.flags.q h.flags.s (h.count / 256) (omega arith) in
    let high = b.2 in
    record {
      len = refl;
      start = refl;
      count = ap (λ x. h.count % 256 + 256 * x) high ∙ omega arith;
      some = some;
      q = b.0;
      s = b.1;
      resp = refl;
      num = refl;
      addr = refl;
    }

-- they spell it
pub six-spelled : (h : Header) → IsInRange h → Spells h (six_bytes h)
unfolding six_bytes
six-spelled (Data h) r = counted_bytes-spelled 129 h r.0 r.1
six-spelled (Maint h) r = counted_bytes-spelled 144 h r.0 r.1
six-spelled (Control h) r =
    let b = bits-spelled h.flags.q h.flags.s h.sub r in
    record {
      len = refl;
      start = refl;
      kind = refl;
      sub = b.2;
      q = b.0;
      s = b.1;
      resp = refl;
      num = refl;
      addr = refl;
    }

third-is : (q s : Bool) (low x : ℕ) → x < 256 → x % 64 ≡ low → (IsTrue q ↔ (x / 64 % 2 ≡ 1))
    → (IsTrue s ↔ (x / 128 % 2 ≡ 1)) → x ≡ low + (cond q 64 0 + cond s 128 0)
third-is true true low x b l q s = let e = q.0 refl in let f = s.0 refl in omega arith
third-is true false low x b l q s =
    let e = q.0 refl in let f = flag-bit false (x / 128 % 2) s (omega arith) in omega arith
third-is false true low x b l q s =
    let e = flag-bit false (x / 64 % 2) q (omega arith) in let f = s.0 refl in omega arith
third-is false false low x b l q s =
    let e = flag-bit false (x / 64 % 2) q (omega arith) in
    let f = flag-bit false (x / 128 % 2) s (omega arith) in omega arith

counted-six : (first : ℕ) (h : CountedFields) (x : List ℕ) → IsBytes x → SpellsCounted first h x
    → x ≡ counted_bytes first h
counted-six first h x all sp =
    let x1 = all 1 in
    let x2 = all 2 in
    let c = sp.count in
    let low : slice_index x 1 ≡ h.count % 256 = omega arith in
    let high : slice_index x 2 % 64 ≡ h.count / 256 = omega arith in
    six-same x (counted_bytes first h) sp.len refl sp.start low
    (third-is h.flags.q h.flags.s (h.count / 256) (slice_index x 2) x2 high sp.q sp.s)
    sp.resp sp.num sp.addr

-- and nothing else does
pub spelled-six : (h : Header) (x : List ℕ) → IsBytes x → Spells h x → x ≡ six_bytes h
unfolding six_bytes
spelled-six (Data h) x all sp = counted-six 129 h x all sp
spelled-six (Maint h) x all sp = counted-six 144 h x all sp
spelled-six (Control h) x all sp =
    six-same x (six_bytes (Control h)) sp.len refl sp.start sp.kind
    (third-is h.flags.q h.flags.s h.sub (slice_index x 2) (all 2) sp.sub sp.q sp.s)
    sp.resp sp.num sp.addr

pub length-six : (h : Header) → length (six_bytes h) ≡ 6
unfolding six_bytes
length-six (Data h) = refl
length-six (Maint h) = refl
length-six (Control h) = refl

pub length-eight : (h : Header) → length (eight_bytes h) ≡ 8
length-eight h =
    let l = length-six h in
    omega (arith, length-append (six_bytes h) (check_pair (check_of (six_bytes h))))

take-front : (n : ℕ) (x y : List ℕ) → length x ≡ n → take n (x ++ y) ≡ x
take-front zero [] y l = refl
take-front zero (b ∷ x) y l = absurd (omega arith)
take-front (suc n) [] y l = absurd (omega arith)
take-front (suc n) (b ∷ x) y l = ap (λ t. b ∷ t) (take-front n x y (omega arith))

drop-front : (n : ℕ) (x y : List ℕ) → length x ≡ n → drop n (x ++ y) ≡ y
drop-front zero [] y l = refl
drop-front zero (b ∷ x) y l = absurd (omega arith)
drop-front (suc n) [] y l = absurd (omega arith)
drop-front (suc n) (b ∷ x) y l = drop-front n x y (omega arith)

-- the eight bytes of a header are read as it
pub eight-parsed : (h : Header) → IsInRange h → parsed (eight_bytes h) ≡ Ok h
eight-parsed h r =
    let l = length-six h in
    let front : take 6 (eight_bytes h) ≡ six_bytes h = take-front 6 (six_bytes h) _ l in
    let back : drop 6 (eight_bytes h) ≡ check_pair (check_of (six_bytes h)) =
    drop-front 6 (six_bytes h) _ l in
    says-parsed (Ok h) (eight_bytes h) (length-eight h) (
      subst (Spells h) (sym front) (six-spelled h r),
      back
          ∙ ap (λ x. check_pair (check_of x)) (sym front),
    )

-- ---- what is read as a header is its eight bytes

pub parsed-eight : (h : Header) (bytes : List ℕ) → length bytes ≡ 8 → IsBytes bytes
    → parsed bytes ≡ Ok h → bytes ≡ eight_bytes h
parsed-eight h bytes l all is =
    let says : Says (Ok h) bytes = subst (λ x. Says x bytes) is (parsed-says bytes l) in
    let front : take 6 bytes ≡ six_bytes h =
    spelled-six h (take 6 bytes) (take-bytes 6 bytes all) says.0 in
    let back : drop 6 bytes ≡ check_pair (check_of (six_bytes h)) =
    says.1 ∙ ap (λ x. check_pair (check_of x)) front in
    sym (take-append-drop 6 bytes) ∙ cc (front, back)

-- ---- whole frames

pub frame_length-counted : (h : Header) (n : ℕ) → count_of h ≡ Some n → frame_length h ≡ n + 10
frame_length-counted (Data h) n e = let k : h.count ≡ n = cc in omega arith
frame_length-counted (Maint h) n e = let k : h.count ≡ n = cc in omega arith
frame_length-counted (Control h) n e = cc

pub frame_length-control : (h : Header) → count_of h ≡ None → frame_length h ≡ 8
frame_length-control (Data h) e = cc
frame_length-control (Maint h) e = cc
frame_length-control (Control h) e = refl

two-at : (k : ℕ) (t : List ℕ) → k + 2 ≤ length t
    → take 2 (drop k t) ≡ slice_index t k ∷ slice_index t (k + 1) ∷ []
two-at zero (a ∷ b ∷ t) l = refl
two-at zero (a ∷ []) l = absurd (omega arith)
two-at zero [] l = absurd (omega arith)
two-at (suc k) [] l = absurd (omega arith)
two-at (suc k) (a ∷ t) l =
    let e : suc k + 1 ≡ suc (k + 1) = omega arith in
    two-at k t (omega arith) ∙ ap (λ i. slice_index t k ∷ slice_index (a ∷ t) i ∷ []) (sym e)

take-add : (m n : ℕ) (t : List ℕ) → take (m + n) t ≡ take m t ++ take n (drop m t)
take-add zero n t = ap (λ k. take k t) (omega arith)
take-add (suc m) n [] = take-nil (suc m + n) ∙ sym (take-nil n)
  where
    take-nil : (n : ℕ) → take {A = ℕ} n [] ≡ []
    take-nil zero = refl
    take-nil (suc n) = refl
take-add (suc m) n (b ∷ t) =
    let e : suc m + n ≡ suc (m + n) = omega arith in
    ap (λ k. take k (b ∷ t)) e ∙ ap (λ x. b ∷ x) (take-add m n t)

behind-counted : (h : Header) (n : ℕ) (d : List ℕ) → count_of h ≡ Some n
    → after_header h d ≡ d ++ check_pair (check_of d)
behind-counted (Data h) n d e = refl
behind-counted (Maint h) n d e = refl
behind-counted (Control h) n d e = cc

frame-counted : (h : Header) (n : ℕ) (d : List ℕ) → count_of h ≡ Some n → length d ≡ n → IsFrame h d
frame-counted (Data h) n d e l = let k : h.count ≡ n = cc in omega arith
frame-counted (Maint h) n d e l = let k : h.count ≡ n = cc in omega arith
frame-counted (Control h) n d e l = cc

pub counted-frame : (h : Header) (n : ℕ) (d : List ℕ) → count_of h ≡ Some n → IsFrame h d
    → length d ≡ n
counted-frame (Data h) n d e f = let k : h.count ≡ n = cc in omega arith
counted-frame (Maint h) n d e f = let k : h.count ≡ n = cc in omega arith
counted-frame (Control h) n d e f = cc

frame-control : (h : Header) → count_of h ≡ None → IsFrame h []
frame-control (Data h) e = cc
frame-control (Maint h) e = cc
frame-control (Control h) e = refl

pub control-frame : (h : Header) (d : List ℕ) → count_of h ≡ None → IsFrame h d → d ≡ []
control-frame (Data h) d e f = cc
control-frame (Maint h) d e f = cc
control-frame (Control h) d e f = f

behind-control : (h : Header) (d : List ℕ) → count_of h ≡ None → after_header h d ≡ []
behind-control (Data h) d e = cc
behind-control (Maint h) d e = cc
behind-control (Control h) d e = refl

front-eight : (h : Header) (t : List ℕ) → IsBytes t → 8 ≤ length t → parsed (take 8 t) ≡ Ok h
    → take 8 t ≡ eight_bytes h
front-eight h t all full is =
    parsed-eight h (take 8 t) (length-take-le 8 t full) (take-bytes 8 t all) is

-- a control header at the front of a text is a whole frame
pub control-whole : (h : Header) (t : List ℕ) → IsBytes t → 8 ≤ length t → parsed (take 8 t) ≡ Ok h
    → count_of h ≡ None → IsFrame h [] × (take (frame_length h) t ≡ wire h [])
unfolding wire
control-whole h t all full is cs = (
  frame-control h cs,
  ap (λ k. take k t) (frame_length-control h cs)
      ∙ front-eight h t all full is ∙ sym (append-nil (eight_bytes h))
      ∙ ap (λ x. eight_bytes h ++ x) (sym (behind-control h [] cs)),
)

-- and so is another, where the check of the data is right
pub counted-whole : (h : Header) (n : ℕ) (t : List ℕ) → IsBytes t → n + 10 ≤ length t
    → parsed (take 8 t) ≡ Ok h → count_of h ≡ Some n → is_data_right n t ≡ true
    → IsFrame h (data_after_header n t) × (take (frame_length h) t ≡ wire h (data_after_header n t))
unfolding wire is_data_right
counted-whole h n t all full is cs right =
    let d = data_after_header n t in
    let ld : length d ≡ n = length-take-le n (drop 8 t) (omega (arith, length-drop 8 t)) in
    let pair : take 2 (drop (n + 8) t) ≡ check_pair (check_of d) =
    two-at (n + 8) t (omega arith)
    ∙ ap (λ k. slice_index t (n + 8) ∷ slice_index t k ∷ []) (omega arith)
    ∙ pair_from_tests (slice_index t (n + 8)) (slice_index t (n + 9)) _ _ right in
    let tail : take (n + 2) (drop 8 t) ≡ d ++ check_pair (check_of d) =
    take-add n 2 (drop 8 t)
    ∙ ap (λ x. d ++ take 2 x) (drop-drop 8 n t ∙ ap (λ k. drop k t) (omega arith))
    ∙ ap (λ x. d ++ x) pair in (
      frame-counted h n d cs ld,
      ap (λ k. take k t) (frame_length-counted h n cs ∙ omega arith)
          ∙ take-add 8 (n + 2) t ∙ cc (front-eight h t all (omega arith) is, tail)
          ∙ ap (λ x. eight_bytes h ++ x) (sym (behind-counted h n d cs)),
    )

-- ---- the other way: a frame on the line

pub wire-front : (h : Header) (d u : List ℕ) → take 8 (wire h d ++ u) ≡ eight_bytes h
unfolding wire
wire-front h d u =
    ap (take 8) (append_assoc (eight_bytes h) (after_header h d) u)
    ∙ take-front 8 (eight_bytes h) _ (length-eight h)

pub length-wire : (h : Header) (d : List ℕ) → IsFrame h d → length (wire h d) ≡ frame_length h
unfolding wire
length-wire (Data h) d f =
    let a = length-eight (Data h) in
    omega (
      arith,
      length-append (eight_bytes (Data h)) (after_header (Data h) d),
      length-append d (check_pair (check_of d)),
    )
length-wire (Maint h) d f =
    let a = length-eight (Maint h) in
    omega (
      arith,
      length-append (eight_bytes (Maint h)) (after_header (Maint h) d),
      length-append d (check_pair (check_of d)),
    )
length-wire (Control h) d f =
    let a = length-eight (Control h) in omega (arith, length-append (eight_bytes (Control h)) [])

index-front : (k i : ℕ) (x y : List ℕ) → length x ≡ k
    → slice_index (x ++ y) (k + i) ≡ slice_index y i
index-front zero i [] y l = ap (slice_index y) (omega arith)
index-front zero i (b ∷ x) y l = absurd (omega arith)
index-front (suc k) i [] y l = absurd (omega arith)
index-front (suc k) i (b ∷ x) y l =
    let e : suc k + i ≡ suc (k + i) = omega arith in
    ap (slice_index (b ∷ (x ++ y))) e ∙ index-front k i x y (omega arith)

-- the data of a frame on the line
pub wire-data : (h : Header) (n : ℕ) (d : List ℕ) → count_of h ≡ Some n → IsFrame h d
    → data_after_header n (wire h d) ≡ d
unfolding wire
wire-data h n d cs f =
    let l = counted-frame h n d cs f in
    ap (take n)
    (drop-front 8 (eight_bytes h) (after_header h d) (length-eight h) ∙ behind-counted h n d cs)
    ∙ take-front n d _ l

pub wire-right : (h : Header) (n : ℕ) (d : List ℕ) → count_of h ≡ Some n → IsFrame h d
    → is_data_right n (wire h d) ≡ true
unfolding wire is_data_right
wire-right h n d cs f =
    let l = counted-frame h n d cs f in
    let is : wire h d ≡ (eight_bytes h ++ d) ++ check_pair (check_of d) =
    ap (λ x. eight_bytes h ++ x) (behind-counted h n d cs)
    ∙ sym (append_assoc (eight_bytes h) d (check_pair (check_of d))) in
    let front : length (eight_bytes h ++ d) ≡ n + 8 =
    omega (arith, length-append (eight_bytes h) d, length-eight h) in
    let low : slice_index (wire h d) (n + 8) ≡ check_of d % 256 =
    ap (λ x. slice_index x (n + 8)) is
    ∙ ap (slice_index ((eight_bytes h ++ d) ++ check_pair (check_of d))) (omega arith)
    ∙ index-front (n + 8) 0 (eight_bytes h ++ d) (check_pair (check_of d)) front in
    let high : slice_index (wire h d) (n + 9) ≡ check_of d / 256 =
    ap (λ x. slice_index x (n + 9)) is
    ∙ ap (slice_index ((eight_bytes h ++ d) ++ check_pair (check_of d))) (omega arith)
    ∙ index-front (n + 8) 1 (eight_bytes h ++ d) (check_pair (check_of d)) front in
    let same : data_after_header n (wire h d) ≡ d = wire-data h n d cs f in
    tests_from_pair (slice_index (wire h d) (n + 8)) (slice_index (wire h d) (n + 9))
    (check_of (data_after_header n (wire h d)) % 256)
    (check_of (data_after_header n (wire h d)) / 256)
    (cc
    (low ∙ ap (λ x. check_of x % 256) (sym same), high ∙ ap (λ x. check_of x / 256) (sym same)))
