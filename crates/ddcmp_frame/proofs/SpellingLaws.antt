-- The function that reads a header is the relation that spells it.
use Rattle.std.proofs.Common.{◌≡◌, ◌≢◌, ℕ, zero, suc, ◌/◌, ◌%◌, ◌<◌, ◌↔◌, Bool, true, false, cond}
use Rattle.std.proofs.Common.{List, [], ◌∷◌, length, take, drop, slice_index, refl, sym, ◌∙◌, ap}
use Rattle.std.proofs.Common.{subst, arith, Ok, Err, Some, None, Option, Result, IsTrue, inl, inr}
use Rattle.std.specs.Prelude.{◌==◌, if◌then◌else◌}
use Rattle.std.proofs.lemmas.Bool.Decides.{nat_tests}
use Rattle.std.proofs.lemmas.List.{take-append-drop}
use Rattle.ddcmp_num.specs.Check.{check_of, check_pair}
use Rattle.ddcmp_frame.specs.declared.header.Flags.{Flags}
use Rattle.ddcmp_frame.specs.declared.header.ControlType.{ControlType}
use Rattle.ddcmp_frame.specs.declared.header.ControlType.TheVariants.{Ack, Nak, Rep, Strt, Stack}
use Rattle.ddcmp_frame.specs.declared.header.Header.{Header}
use Rattle.ddcmp_frame.specs.declared.header.Header.TheVariants.{Data, Maint, Control}
use Rattle.ddcmp_frame.specs.declared.header.HeaderFault.{HeaderFault}
use Rattle.ddcmp_frame.specs.declared.header.HeaderFault.TheVariants.{NotAStart, Check, BadType}
use Rattle.ddcmp_frame.specs.declared.header.HeaderFault.TheVariants.{CountZero}
use Rattle.ddcmp_frame.specs.Fields.{ShortFields, CountedFields}
use Rattle.ddcmp_frame.specs.Spelling.{Says, IsBytes, is_start, SpellsShort, SpellsCounted, Spells}
use Rattle.ddcmp_frame.specs.Spelling.{HasCheck, IsNoType, is_check_right, type_code, count_field}
use Rattle.ddcmp_frame.specs.Spelling.{kind_of, short_of, counted_of, short_or_fault}
use Rattle.ddcmp_frame.specs.Spelling.{counted_or_none, counted_or_fault, by_start, parsed}
use Rattle.ddcmp_frame.proofs.Tests.{chosen, when_false, false-true, eqb-true, eqb-false, same-eqb}
use Rattle.ddcmp_frame.proofs.Tests.{other-eqb, decides-eqb, pair_from_tests, tests_from_pair}
use Rattle.ddcmp_frame.proofs.Tests.{same_bool, some-inj, none-some}

-- eight bytes, one by one
pub eight : (bytes : List ℕ) → length bytes ≡ 8 → (P : List ℕ → Type 0)
    → ((a b c d e f g h : ℕ) → P (a ∷ b ∷ c ∷ d ∷ e ∷ f ∷ g ∷ h ∷ [])) → P bytes
eight (a ∷ b ∷ c ∷ d ∷ e ∷ f ∷ g ∷ h ∷ []) l P k = k a b c d e f g h
eight (a ∷ b ∷ c ∷ d ∷ e ∷ f ∷ g ∷ h ∷ i ∷ t) l P k = absurd (omega arith)
eight _ l P k = absurd (omega arith)

-- six bytes, one by one
pub six : (bytes : List ℕ) → length bytes ≡ 6 → (P : List ℕ → Type 0)
    → ((a b c d e f : ℕ) → P (a ∷ b ∷ c ∷ d ∷ e ∷ f ∷ [])) → P bytes
six (a ∷ b ∷ c ∷ d ∷ e ∷ f ∷ []) l P k = k a b c d e f
six (a ∷ b ∷ c ∷ d ∷ e ∷ f ∷ g ∷ t) l P k = absurd (omega arith)
six _ l P k = absurd (omega arith)

-- the test of the check decides the relation
pub holds-has : (bytes : List ℕ) → length bytes ≡ 8 → is_check_right bytes ≡ true → HasCheck bytes
unfolding is_check_right
holds-has bytes l =
    eight bytes l (λ b. is_check_right b ≡ true → HasCheck b)
    (λ a b c d e f g h t. pair_from_tests g h _ _ t)

pub has-holds : (bytes : List ℕ) → length bytes ≡ 8 → HasCheck bytes → is_check_right bytes ≡ true
unfolding is_check_right
has-holds bytes l =
    eight bytes l (λ b. HasCheck b → is_check_right b ≡ true)
    (λ a b c d e f g h t. tests_from_pair g h _ _ t)

pub kind_of-some : (c : ℕ) (k : ControlType) → kind_of c ≡ Some k → c ≡ type_code k
kind_of-some c k h =
    elim (chosen (c == 1) _ _ _ h) [
      | inl a ↦ eqb-true c 1 a.0 ∙ ap type_code (some-inj a.1)
      | inr a ↦ elim (chosen (c == 2) _ _ _ a.1) [
        | inl a ↦ eqb-true c 2 a.0 ∙ ap type_code (some-inj a.1)
        | inr a ↦ elim (chosen (c == 3) _ _ _ a.1) [
          | inl a ↦ eqb-true c 3 a.0 ∙ ap type_code (some-inj a.1)
          | inr a ↦ elim (chosen (c == 6) _ _ _ a.1) [
            | inl a ↦ eqb-true c 6 a.0 ∙ ap type_code (some-inj a.1)
            | inr a ↦ elim (chosen (c == 7) _ _ _ a.1) [
              | inl a ↦ eqb-true c 7 a.0 ∙ ap type_code (some-inj a.1)
              | inr a ↦ absurd (none-some a.1)
            ]
          ]
        ]
      ]
    ]

pub kind_of-code : (k : ControlType) → kind_of (type_code k) ≡ Some k
kind_of-code Ack = refl
kind_of-code Nak = refl
kind_of-code Rep = refl
kind_of-code Strt = refl
kind_of-code Stack = refl

kind_of-none : (c : ℕ) → kind_of c ≡ None → IsNoType c
kind_of-none c h = λ kind is. none-some (sym h ∙ ap kind_of is ∙ kind_of-code kind)

no_type-none : (c : ℕ) → IsNoType c → kind_of c ≡ None
no_type-none c other = go (kind_of c) refl
  where
    go : (o : Option ControlType) → kind_of c ≡ o → kind_of c ≡ None
    go None e = e
    go (Some k) e = absurd (other k (kind_of-some c k e))

-- ---- what each outcome says of eight bytes

short-spelled : (k : ControlType) (bytes : List ℕ) → length bytes ≡ 8 → slice_index bytes 0 ≡ 5
    → slice_index bytes 1 ≡ type_code k → SpellsShort (short_of k bytes) (take 6 bytes)
short-spelled k bytes l =
    eight bytes l
    (λ x. slice_index x 0 ≡ 5 → slice_index x 1 ≡ type_code k
    → SpellsShort (short_of k x) (take 6 x)) (λ a b c d e f g h start kind. record {
      len = refl;
      start = start;
      kind = kind;
      sub = refl;
      q = decides-eqb (c / 64 % 2) 1;
      s = decides-eqb (c / 128 % 2) 1;
      resp = refl;
      num = refl;
      addr = refl;
    })

counted-spelled : (first : ℕ) (bytes : List ℕ) → length bytes ≡ 8 → slice_index bytes 0 ≡ first
    → 0 < count_field bytes → SpellsCounted first (counted_of bytes) (take 6 bytes)
counted-spelled first bytes l =
    eight bytes l
    (λ x. slice_index x 0 ≡ first → 0 < count_field x
    → SpellsCounted first (counted_of x) (take 6 x)) (λ a b c d e f g h start above. record {
      len = refl;
      start = start;
      count = refl;
      some = above;
      q = decides-eqb (c / 64 % 2) 1;
      s = decides-eqb (c / 128 % 2) 1;
      resp = refl;
      num = refl;
      addr = refl;
    })

third_start : (b : ℕ) → is_start b ≡ true → b ≢ 5 → b ≢ 129 → b ≡ 144
third_start b h n m = grind (arith, nat_tests)

short-says : (bytes : List ℕ) → length bytes ≡ 8 → slice_index bytes 0 ≡ 5 → HasCheck bytes
    → Says (short_or_fault bytes (kind_of (slice_index bytes 1))) bytes
short-says bytes l start right = go (kind_of (slice_index bytes 1)) refl
  where
    go : (o : Option ControlType) → kind_of (slice_index bytes 1) ≡ o
        → Says (short_or_fault bytes o) bytes
    go None e = (start, right, refl, kind_of-none _ e)
    go (Some k) e = (short-spelled k bytes l start (kind_of-some _ k e), right)

counted-says : (bytes : List ℕ) → length bytes ≡ 8 → is_start (slice_index bytes 0) ≡ true
    → slice_index bytes 0 ≢ 5 → HasCheck bytes
    → Says (counted_or_fault (slice_index bytes 0) (counted_or_none bytes)) bytes
counted-says bytes l start other right = by_count (count_field bytes == 0) refl
  where
    by_first : 0 < count_field bytes → (x : Bool) → (slice_index bytes 0 == 129) ≡ x
        → Says (Ok (if x then Data (counted_of bytes) else Maint (counted_of bytes))) bytes
    by_first some true e = (counted-spelled 129 bytes l (eqb-true _ _ e) some, right)
    by_first some false e =
        (counted-spelled 144 bytes l (third_start _ start other (eqb-false _ _ e)) some, right)

    by_count : (z : Bool) → (count_field bytes == 0) ≡ z
        → Says
        (counted_or_fault (slice_index bytes 0) (if z then None else Some (counted_of bytes))) bytes
    by_count true e = (start, other, right, eqb-true _ _ e)
    by_count false e =
        let n = eqb-false _ _ e in by_first (omega arith) (slice_index bytes 0 == 129) refl

pub parsed-says : (bytes : List ℕ) → length bytes ≡ 8 → Says (parsed bytes) bytes
unfolding parsed
parsed-says bytes l = by_first (is_start (slice_index bytes 0)) refl
  where
    by_kind : is_start (slice_index bytes 0) ≡ true → HasCheck bytes → (x : Bool)
        → (slice_index bytes 0 == 5) ≡ x
        → Says
        (if x then short_or_fault bytes (kind_of (slice_index bytes 1)) else counted_or_fault
        (slice_index bytes 0) (counted_or_none bytes)) bytes
    by_kind start right true e = short-says bytes l (eqb-true _ _ e) right
    by_kind start right false e = counted-says bytes l start (eqb-false _ _ e) right

    by_check : is_start (slice_index bytes 0) ≡ true → (x : Bool) → is_check_right bytes ≡ x
        → Says (if x then by_start bytes else Err Check) bytes
    by_check start true e = by_kind start (holds-has bytes l e) (slice_index bytes 0 == 5) refl
    by_check start false e = (start, λ has. false-true (sym e ∙ has-holds bytes l has))

    by_first : (x : Bool) → is_start (slice_index bytes 0) ≡ x
        → Says
        (if x then (if is_check_right bytes then by_start bytes else Err Check) else Err NotAStart)
        bytes
    by_first true e = by_check e (is_check_right bytes) refl
    by_first false e = e

-- ---- and nothing else says it

-- records with the same fields are one
pub same_short : (x y : ShortFields) → x.kind ≡ y.kind → x.sub ≡ y.sub → x.flags.q ≡ y.flags.q
    → x.flags.s ≡ y.flags.s → x.resp ≡ y.resp → x.num ≡ y.num → x.addr ≡ y.addr → x ≡ y
same_short x y kind sub q s resp num addr =
    λ i. record {
      kind = kind i;
      sub = sub i;
      flags = record { q = q i; s = s i };
      resp = resp i;
      num = num i;
      addr = addr i;
    }

pub same_counted : (x y : CountedFields) → x.count ≡ y.count → x.flags.q ≡ y.flags.q
    → x.flags.s ≡ y.flags.s → x.resp ≡ y.resp → x.num ≡ y.num → x.addr ≡ y.addr → x ≡ y
same_counted x y count q s resp num addr =
    λ i. record {
      count = count i;
      flags = record { q = q i; s = s i };
      resp = resp i;
      num = num i;
      addr = addr i;
    }

short-same : (h : ShortFields) (bytes : List ℕ) → length bytes ≡ 8 → SpellsShort h (take 6 bytes)
    → short_of h.kind bytes ≡ h
short-same h bytes l =
    eight bytes l (λ x. SpellsShort h (take 6 x) → short_of h.kind x ≡ h) (λ a b c d e f g i sp.
    let q =
    same_bool (c / 64 % 2 == 1) h.flags.q (c / 64 % 2 ≡ 1) (decides-eqb (c / 64 % 2) 1) sp.q in
    let s =
    same_bool (c / 128 % 2 == 1) h.flags.s (c / 128 % 2 ≡ 1) (decides-eqb (c / 128 % 2) 1)
    sp.s in
    same_short _ h refl sp.sub q s sp.resp sp.num sp.addr)

counted-same : (first : ℕ) (h : CountedFields) (bytes : List ℕ) → length bytes ≡ 8
    → SpellsCounted first h (take 6 bytes) → counted_of bytes ≡ h
counted-same first h bytes l =
    eight bytes l (λ x. SpellsCounted first h (take 6 x) → counted_of x ≡ h) (λ a b c d e f g i sp.
    let q =
    same_bool (c / 64 % 2 == 1) h.flags.q (c / 64 % 2 ≡ 1) (decides-eqb (c / 64 % 2) 1) sp.q in
    let s =
    same_bool (c / 128 % 2 == 1) h.flags.s (c / 128 % 2 ≡ 1) (decides-eqb (c / 128 % 2) 1)
    sp.s in
    same_counted _ h sp.count q s sp.resp sp.num sp.addr)

-- the parts of a header are those of its first six bytes
record Front (bytes : List ℕ) : Type 0 where
  first : slice_index (take 6 bytes) 0 ≡ slice_index bytes 0
  second : slice_index (take 6 bytes) 1 ≡ slice_index bytes 1
  count : count_field (take 6 bytes) ≡ count_field bytes

front : (bytes : List ℕ) → length bytes ≡ 8 → Front bytes
front bytes l =
    eight bytes l Front (λ a b c d e f g h. record { first = refl; second = refl; count = refl })

-- with a right check
parsed-right : (bytes : List ℕ) → length bytes ≡ 8 → is_start (slice_index bytes 0) ≡ true
    → HasCheck bytes → parsed bytes ≡ by_start bytes
unfolding parsed
parsed-right bytes l start has = let right = has-holds bytes l has in rw (start, right) refl

parsed-short : (bytes : List ℕ) → length bytes ≡ 8 → slice_index bytes 0 ≡ 5 → HasCheck bytes
    → parsed bytes ≡ short_or_fault bytes (kind_of (slice_index bytes 1))
parsed-short bytes l five has =
    let five_it : (slice_index bytes 0 == 5) ≡ true = same-eqb _ _ five in
    parsed-right bytes l (ap is_start five) has ∙ rw five_it refl

parsed-counted : (bytes : List ℕ) → length bytes ≡ 8 → is_start (slice_index bytes 0) ≡ true
    → slice_index bytes 0 ≢ 5 → HasCheck bytes
    → parsed bytes ≡ counted_or_fault (slice_index bytes 0) (counted_or_none bytes)
parsed-counted bytes l start other has =
    let not_five : (slice_index bytes 0 == 5) ≡ false = other-eqb _ _ other in
    parsed-right bytes l start has ∙ rw not_five refl

counted-some : (bytes : List ℕ) (h : CountedFields) → counted_of bytes ≡ h → 0 < h.count
    → counted_or_none bytes ≡ Some h
counted-some bytes h same some =
    let n : count_field bytes ≡ h.count = ap (λ x. x.count) same in
    let z : (count_field bytes == 0) ≡ false = other-eqb _ _ (omega arith) in
    rw z (ap (λ x. Some x) same)

spells-parsed : (h : Header) (bytes : List ℕ) → length bytes ≡ 8 → Spells h (take 6 bytes)
    → HasCheck bytes → parsed bytes ≡ Ok h
spells-parsed (Control h) bytes l sp has =
    let k = front bytes l in
    parsed-short bytes l (sym k.first ∙ sp.start) has
    ∙ ap (short_or_fault bytes) (ap kind_of (sym k.second ∙ sp.kind) ∙ kind_of-code h.kind)
    ∙ ap (λ x. Ok (Control x)) (short-same h bytes l sp)
spells-parsed (Data h) bytes l sp has =
    let k = front bytes l in
    let first : slice_index bytes 0 ≡ 129 = sym k.first ∙ sp.start in
    parsed-counted bytes l (ap is_start first) (omega arith) has
    ∙ ap (counted_or_fault (slice_index bytes 0))
    (counted-some bytes h (counted-same 129 h bytes l sp) sp.some)
    ∙ ap (λ x. Ok (if x == 129 then Data h else Maint h)) first
spells-parsed (Maint h) bytes l sp has =
    let k = front bytes l in
    let first : slice_index bytes 0 ≡ 144 = sym k.first ∙ sp.start in
    parsed-counted bytes l (ap is_start first) (omega arith) has
    ∙ ap (counted_or_fault (slice_index bytes 0))
    (counted-some bytes h (counted-same 144 h bytes l sp) sp.some)
    ∙ ap (λ x. Ok (if x == 129 then Data h else Maint h)) first

pub says-parsed : (r : Result Header HeaderFault) (bytes : List ℕ) → length bytes ≡ 8 → Says r bytes
    → parsed bytes ≡ r
unfolding parsed
says-parsed (Ok h) bytes l s = spells-parsed h bytes l s.0 s.1
says-parsed (Err NotAStart) bytes l s = rw s refl
says-parsed (Err Check) bytes l s =
    ap
    (λ x. if x then (if is_check_right bytes then by_start bytes else Err Check) else Err NotAStart)
    s.0 ∙ when_false (is_check_right bytes) _ _ (λ t. s.1 (holds-has bytes l t))
says-parsed (Err (BadType c)) bytes l s =
    parsed-short bytes l s.0 s.1
    ∙ ap (short_or_fault bytes) (no_type-none _ (subst IsNoType (sym s.2) s.3))
    ∙ ap (λ x. Err (BadType x)) s.2
says-parsed (Err CountZero) bytes l s =
    let z : (count_field bytes == 0) ≡ true = same-eqb _ _ s.3 in
    parsed-counted bytes l s.0 s.1 s.2 ∙ rw z refl

-- the two as an equivalence
pub parsed-decides : (result : Result Header HeaderFault) (r : Result Header HeaderFault)
    (bytes : List ℕ) → length bytes ≡ 8 → result ≡ parsed bytes → (result ≡ r) ↔ Says r bytes
parsed-decides result r bytes l is = (
  λ e. subst (λ x. Says x bytes) (sym is ∙ e) (parsed-says bytes l),
  λ s. is
      ∙ says-parsed r bytes l s,
)

-- ---- a header has one spelling

pub flag-bit : (b : Bool) (x : ℕ) → (IsTrue b ↔ (x ≡ 1)) → x < 2 → x ≡ cond b 1 0
flag-bit true x h l = h.0 refl
flag-bit false x h l = below (λ e. false-true (h.1 e))
  where
    below : (x ≡ 1 → ⊥) → x ≡ 0
    below h = grind arith

-- the two high bits of the third byte
high-same : (flags : Flags) (x y : ℕ) → x < 256 → y < 256 → x % 64 ≡ y % 64
    → (IsTrue flags.q ↔ (x / 64 % 2 ≡ 1)) → (IsTrue flags.q ↔ (y / 64 % 2 ≡ 1))
    → (IsTrue flags.s ↔ (x / 128 % 2 ≡ 1)) → (IsTrue flags.s ↔ (y / 128 % 2 ≡ 1)) → x ≡ y
high-same flags x y lx ly r qx qy tx ty =
    let a = flag-bit flags.q (x / 64 % 2) qx (omega arith) in
    let b = flag-bit flags.q (y / 64 % 2) qy (omega arith) in
    let c = flag-bit flags.s (x / 128 % 2) tx (omega arith) in
    let d = flag-bit flags.s (y / 128 % 2) ty (omega arith) in
    let q : x / 64 % 2 ≡ y / 64 % 2 = a ∙ sym b in
    let s : x / 128 % 2 ≡ y / 128 % 2 = c ∙ sym d in
    omega arith

same_list : (a b c d e f p q r s t u : ℕ) → a ≡ p → b ≡ q → c ≡ r → d ≡ s → e ≡ t → f ≡ u
    → ◌≡◌ {A = List ℕ} (a ∷ b ∷ c ∷ d ∷ e ∷ f ∷ []) (p ∷ q ∷ r ∷ s ∷ t ∷ u ∷ [])
same_list a b c d e f p q r s t u ea eb ec ed ee ef = cc

-- six bytes that are the same
pub six-same : (x y : List ℕ) → length x ≡ 6 → length y ≡ 6 → slice_index x 0 ≡ slice_index y 0
    → slice_index x 1 ≡ slice_index y 1 → slice_index x 2 ≡ slice_index y 2
    → slice_index x 3 ≡ slice_index y 3 → slice_index x 4 ≡ slice_index y 4
    → slice_index x 5 ≡ slice_index y 5 → x ≡ y
six-same x y lx ly =
    six x lx
    (λ v. slice_index v 0 ≡ slice_index y 0 → slice_index v 1 ≡ slice_index y 1
    → slice_index v 2 ≡ slice_index y 2 → slice_index v 3 ≡ slice_index y 3
    → slice_index v 4 ≡ slice_index y 4 → slice_index v 5 ≡ slice_index y 5 → v ≡ y)
    (λ a b c d e f.
    six y ly
    (λ w. a ≡ slice_index w 0 → b ≡ slice_index w 1 → c ≡ slice_index w 2 → d ≡ slice_index w 3
    → e ≡ slice_index w 4 → f ≡ slice_index w 5
    → ◌≡◌ {A = List ℕ} (a ∷ b ∷ c ∷ d ∷ e ∷ f ∷ []) w)
    (λ p q r s t u ea eb ec ed ee ef. same_list a b c d e f p q r s t u ea eb ec ed ee ef))

counted-once : (first : ℕ) (h : CountedFields) (x y : List ℕ) → IsBytes x → IsBytes y
    → SpellsCounted first h x → SpellsCounted first h y → x ≡ y
counted-once first h x y bx by sx sy =
    let x1 = bx 1 in
    let x2 = bx 2 in
    let y1 = by 1 in
    let y2 = by 2 in
    let n : count_field x ≡ count_field y = sx.count ∙ sym sy.count in
    let low : slice_index x 1 ≡ slice_index y 1 = omega arith in
    let high : slice_index x 2 % 64 ≡ slice_index y 2 % 64 = omega arith in
    let third =
    high-same h.flags (slice_index x 2) (slice_index y 2) x2 y2 high sx.q sy.q sx.s sy.s in
    six-same x y sx.len sy.len (sx.start ∙ sym sy.start) low third (sx.resp ∙ sym sy.resp)
    (sx.num ∙ sym sy.num) (sx.addr ∙ sym sy.addr)

-- the six bytes of a header
pub one_spelling : (h : Header) (x y : List ℕ) → IsBytes x → IsBytes y → Spells h x → Spells h y
    → x ≡ y
one_spelling (Control h) x y bx by sx sy =
    let third =
    high-same h.flags (slice_index x 2) (slice_index y 2) (bx 2) (by 2) (sx.sub ∙ sym sy.sub)
    sx.q sy.q sx.s sy.s in
    six-same x y sx.len sy.len (sx.start ∙ sym sy.start) (sx.kind ∙ sym sy.kind) third
    (sx.resp ∙ sym sy.resp) (sx.num ∙ sym sy.num) (sx.addr ∙ sym sy.addr)
one_spelling (Data h) x y bx by sx sy = counted-once 129 h x y bx by sx sy
one_spelling (Maint h) x y bx by sx sy = counted-once 144 h x y bx by sx sy

pub take-bytes : (n : ℕ) (bytes : List ℕ) → IsBytes bytes → IsBytes (take n bytes)
take-bytes n bytes all = λ i. below n bytes i (λ j. all j)
  where
    below : (n : ℕ) (bytes : List ℕ) (i : ℕ) → IsBytes bytes → slice_index (take n bytes) i < 256
    below zero bytes i all = omega arith
    below (suc n) [] i all = omega arith
    below (suc n) (b ∷ t) zero all = all 0
    below (suc n) (b ∷ t) (suc i) all = below n t i (λ j. all (suc j))

-- the eight bytes of a header
pub one_writing : (h : Header) (a b : List ℕ) → IsBytes a → IsBytes b → Spells h (take 6 a)
    → Spells h (take 6 b) → HasCheck a → HasCheck b → a ≡ b
one_writing h a b ba bb sa sb ca cb =
    let front : take 6 a ≡ take 6 b =
    one_spelling h (take 6 a) (take 6 b) (take-bytes 6 a ba) (take-bytes 6 b bb) sa sb in
    let back : drop 6 a ≡ drop 6 b = ca ∙ ap (λ x. check_pair (check_of x)) front ∙ sym cb in
    sym (take-append-drop 6 a) ∙ cc (front, back) ∙ take-append-drop 6 b
