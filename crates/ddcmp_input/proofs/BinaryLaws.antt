-- Messages of an input in binary.
use Rattle.std.proofs.Common.{◌≡◌, ℕ, ◌+◌, ◌-◌, ◌*◌, ◌/◌, ◌%◌, ◌≤◌, ◌<◌, Bool, true, false, cond}
use Rattle.std.proofs.Common.{List, [], ◌∷◌, ◌++◌, length, map, refl, sym, ◌∙◌, ap, arith}
use Rattle.std.proofs.Common.{append_assoc, append-nil, Option, Some, None, option_to_list}
use Rattle.std.specs.Prelude.{◌==◌}
use Rattle.std.specs.List.{All}
use Rattle.std.proofs.lemmas.List.Elements.{All-head, All-tail}
use Rattle.ddcmp_input.specs.declared.entry.Entry.{Entry}
use Rattle.ddcmp_input.specs.declared.entry.Entry.TheVariants.{Message, TooLong, Empty}
use Rattle.ddcmp_input.specs.declared.lengths.LengthPlace.{LengthPlace}
use Rattle.ddcmp_input.specs.declared.lengths.LengthPlace.TheVariants.{Start, Half, Inside}
use Rattle.ddcmp_input.specs.declared.lengths.LengthPlace.TheVariants.{Skipping}
use Rattle.ddcmp_input.specs.Lengths.{LengthsView, is_refused, place_before, is_last}
use Rattle.ddcmp_input.specs.Lengths.{after_length, after_byte, entry_of_length, entry_of_byte}
use Rattle.ddcmp_input.specs.Lengths.{after_bytes, entries_of_bytes}
use Rattle.ddcmp_input.specs.Told.{Told, Got, Refused, told_of}
use Rattle.ddcmp_input.specs.InBinary.{told_by_byte, told_in, behind_length, in_binary, Fits}
use Rattle.ddcmp_input.proofs.LengthsLaws.{after_more}

-- ---- pieces

pub told_more : (u w : List ℕ) (v : LengthsView)
    → told_in (u ++ w) v ≡ told_in u v ++ told_in w (after_bytes u v)
unfolding told_in after_bytes
told_more [] w v = refl
told_more (b ∷ u) w v =
    ap (λ ts. told_by_byte b v ++ ts) (told_more u w (after_byte b v))
    ∙ sym (append_assoc (told_by_byte b v) (told_in u (after_byte b v))
    (told_in w (after_bytes u (after_byte b v))))

pub told_nothing : (u : List ℕ) (v : LengthsView) → entries_of_bytes u v ≡ [] → told_in u v ≡ []
unfolding told_in entries_of_bytes
told_nothing [] v e = refl
told_nothing (b ∷ u) v e = by (entry_of_byte b v) (told_nothing u (after_byte b v)) e
  where
    by : (entry : Option Entry)
        → (entries_of_bytes u (after_byte b v) ≡ [] → told_in u (after_byte b v) ≡ [])
        → option_to_list entry ++ entries_of_bytes u (after_byte b v) ≡ []
        → map (λ x. told_of x (after_byte b v).message) (option_to_list entry)
        ++ told_in u (after_byte b v)
        ≡ []
    by None more f = more f
    by (Some x) more f = cc

pub told_last : (u : List ℕ) (byte : ℕ) (v : LengthsView) → entries_of_bytes u v ≡ []
    → told_in (u ++ byte ∷ []) v ≡ told_by_byte byte (after_bytes u v)
unfolding told_in
told_last u byte v e =
    told_more u (byte ∷ []) v
    ∙ ap (λ ts. ts ++ (told_by_byte byte (after_bytes u v) ++ [])) (told_nothing u v e)
    ∙ append-nil (told_by_byte byte (after_bytes u v))

-- ---- places

abbrev at : ℕ → LengthPlace → List ℕ → LengthsView
at max place message = record { max = max; place = place; message = message }

at_place : (v : LengthsView) (p : LengthPlace) → v.place ≡ p → v ≡ at v.max p v.message
at_place v p e = λ i. record { max = v.max; place = e i; message = v.message }

last_one : (n : ℕ) → n ≡ 1 → is_last n ≡ true
last_one n e = grind (arith, e)

not_last : (n : ℕ) → 2 ≤ n → is_last n ≡ false
not_last n h = grind (arith, h)

-- the bytes of a message
inside : (message : List ℕ) (n max : ℕ) (held : List ℕ) → n ≡ length message → 1 ≤ n
    → (after_bytes message (at max (Inside n) held) ≡ at max Start (held ++ message))
    × (told_in message (at max (Inside n) held) ≡ Got (held ++ message) ∷ [])
unfolding after_bytes told_in
inside [] n max held e h = absurd (omega (arith, e, h))
inside (b ∷ []) n max held e h = by (is_last n) (last_one n e)
  where
    by : (last : Bool) → last ≡ true
        → (at max (cond last Start (Inside (n - 1))) (held ++ b ∷ [])
        ≡ at max Start (held ++ b ∷ []))
        × (map (λ x. told_of x (held ++ b ∷ [])) (option_to_list (cond last (Some Message) None))
        ++ []
        ≡ Got (held ++ b ∷ []) ∷ [])
    by true f = (refl, refl)
    by false f = cc
inside (b ∷ c ∷ more) n max held e h =
    by (is_last n) (not_last n (omega (arith, e)))
    (inside (c ∷ more) (n - 1) max (held ++ b ∷ []) (omega (arith, e)) (omega (arith, e)))
  where
    by : (last : Bool) → last ≡ false
        → (after_bytes (c ∷ more) (at max (Inside (n - 1)) (held ++ b ∷ []))
        ≡ at max Start ((held ++ b ∷ []) ++ (c ∷ more)))
        × (told_in (c ∷ more) (at max (Inside (n - 1)) (held ++ b ∷ []))
        ≡ Got ((held ++ b ∷ []) ++ (c ∷ more)) ∷ [])
        → (after_bytes (c ∷ more) (at max (cond last Start (Inside (n - 1))) (held ++ b ∷ []))
        ≡ at max Start (held ++ (b ∷ c ∷ more)))
        × (map (λ x. told_of x (held ++ b ∷ [])) (option_to_list (cond last (Some Message) None))
        ++ told_in (c ∷ more) (at max (cond last Start (Inside (n - 1))) (held ++ b ∷ []))
        ≡ Got (held ++ (b ∷ c ∷ more)) ∷ [])
    by true f r = cc
    by false f r =
        let joined = append_assoc held (b ∷ []) (c ∷ more) in
        (r.0 ∙ ap (at max Start) joined, r.1 ∙ ap (λ ys. Got ys ∷ []) joined)

-- the bytes of one that is skipped
passing : (message : List ℕ) (n max : ℕ) (held : List ℕ) → n ≡ length message → 1 ≤ n
    → (after_bytes message (at max (Skipping n) held) ≡ at max Start held)
    × (told_in message (at max (Skipping n) held) ≡ [])
unfolding after_bytes told_in
passing [] n max held e h = absurd (omega (arith, e, h))
passing (b ∷ []) n max held e h = (by (is_last n) (last_one n e), refl)
  where
    by : (last : Bool) → last ≡ true
        → at max (cond last Start (Skipping (n - 1))) held ≡ at max Start held
    by true f = refl
    by false f = cc
passing (b ∷ c ∷ more) n max held e h =
    by (is_last n) (not_last n (omega (arith, e)))
    (passing (c ∷ more) (n - 1) max held (omega (arith, e)) (omega (arith, e)))
  where
    by : (last : Bool) → last ≡ false
        → (after_bytes (c ∷ more) (at max (Skipping (n - 1)) held) ≡ at max Start held)
        × (told_in (c ∷ more) (at max (Skipping (n - 1)) held) ≡ [])
        → (after_bytes (c ∷ more) (at max (cond last Start (Skipping (n - 1))) held)
        ≡ at max Start held)
        × (told_in (c ∷ more) (at max (cond last Start (Skipping (n - 1))) held) ≡ [])
    by true f r = cc
    by false f r = r

-- ---- what is held doesn't matter but within a message

abbrev IsOutside : LengthPlace → Type 0
IsOutside Start = Unit {0}
IsOutside (Half high) = Unit {0}
IsOutside (Inside left) = ⊥
IsOutside (Skipping left) = Unit {0}

before_outside : (b : Bool) (n : ℕ) → IsOutside (cond b Start (Skipping n))
before_outside true n = tt
before_outside false n = tt

-- why a message of a length is refused, and that said
abbrev why : ℕ → Entry
why n = cond (n == 0) Empty TooLong

abbrev refusal : Bool → Told
refusal none = cond none (Refused Empty) (Refused TooLong)

told_why : (none : Bool) (held : List ℕ) → told_of (cond none Empty TooLong) held ≡ refusal none
told_why true held = refl
told_why false held = refl

abbrev judged : Bool → ℕ → ℕ → List ℕ → LengthsView
judged refused max n ys = cond refused (at max (place_before n) ys) (at max (Inside n) [])

told_same : (rest : List ℕ) (max : ℕ) (p : LengthPlace) (held other : List ℕ) → IsOutside p
    → told_in rest (at max p held) ≡ told_in rest (at max p other)
unfolding told_in
told_same [] max p held other o = refl
told_same (b ∷ rest) max Start held other o = told_same rest max (Half b) held other tt
told_same (b ∷ rest) max (Half high) held other o =
    by (is_refused max (high * 256 + b))
    (told_same rest max (place_before (high * 256 + b)) held other
    (before_outside (high * 256 + b == 0) (high * 256 + b)))
  where
    by : (refused : Bool)
        → told_in rest (at max (place_before (high * 256 + b)) held)
        ≡ told_in rest (at max (place_before (high * 256 + b)) other)
        → map (λ x. told_of x (judged refused max (high * 256 + b) held).message)
        (option_to_list (cond refused (Some (why (high * 256 + b))) None))
        ++ told_in rest (judged refused max (high * 256 + b) held)
        ≡ map (λ x. told_of x (judged refused max (high * 256 + b) other).message)
        (option_to_list (cond refused (Some (why (high * 256 + b))) None))
        ++ told_in rest (judged refused max (high * 256 + b) other)
    by true more =
        let both = told_why (high * 256 + b == 0) in
        ap (λ t. t ∷ told_in rest (at max (place_before (high * 256 + b)) held)) (both held)
        ∙ ap (λ ts. refusal (high * 256 + b == 0) ∷ ts) more
        ∙ ap (λ t. t ∷ told_in rest (at max (place_before (high * 256 + b)) other))
        (sym (both other))
    by false more = refl
told_same (b ∷ rest) max (Inside left) held other o = absurd o
told_same (b ∷ rest) max (Skipping left) held other o =
    told_same rest max (cond (is_last left) Start (Skipping (left - 1))) held other
    (before_outside (is_last left) (left - 1))

-- ---- a message after its length

split : (n : ℕ) → n / 256 * 256 + n % 256 ≡ n
split n = omega arith

fits_not : (max n : ℕ) → 1 ≤ n → n ≤ max → is_refused max n ≡ false
fits_not max n h k = grind (arith, h, k)

long_is : (max n : ℕ) → max < n → is_refused max n ≡ true
long_is max n h = grind (arith, h)

some_not : (n : ℕ) → 1 ≤ n → (n == 0) ≡ false
some_not n h = grind (arith, h)

-- what its length does
begins : (n max : ℕ) (held : List ℕ) → 1 ≤ n → n ≤ max
    → (after_length n (at max (Half (n / 256)) held) ≡ at max (Inside n) [])
    × (entry_of_length n max ≡ None)
begins n max held h k = by (is_refused max n) (fits_not max n h k)
  where
    by : (refused : Bool) → refused ≡ false
        → (cond refused (at max (place_before n) held) (at max (Inside n) [])
        ≡ at max (Inside n) [])
        × (cond refused (Some (why n)) None ≡ None)
    by true e = cc
    by false e = (refl, refl)

abbrev told_then : List ℕ → ℕ → List ℕ → ℕ → List Told
told_then message max held k =
    map (λ x. told_of x (after_length k (at max (Half (length message / 256)) held)).message)
    (option_to_list (entry_of_length k max))
    ++ told_in message (after_length k (at max (Half (length message / 256)) held))

pub one_message : (message : List ℕ) (max : ℕ) (held : List ℕ) → Fits max message
    → (after_bytes (behind_length message) (at max Start held) ≡ at max Start message)
    × (told_in (behind_length message) (at max Start held) ≡ Got message ∷ [])
unfolding after_bytes told_in
one_message message max held f =
    by (length message / 256 * 256 + length message % 256) (split (length message))
  where
    by : (k : ℕ) → k ≡ length message
        → (after_bytes message (after_length k (at max (Half (length message / 256)) held))
        ≡ at max Start message)
        × (told_then message max held k ≡ Got message ∷ [])
    by k e =
        let m = length message in
        let s = begins m max held f.0 f.1 in
        let r = inside message m max [] refl f.0 in
        let start : after_length k (at max (Half (m / 256)) held) ≡ at max (Inside m) [] =
        ap (λ j. after_length j (at max (Half (m / 256)) held)) e ∙ s.0 in
        let none : entry_of_length k max ≡ None = ap (λ j. entry_of_length j max) e ∙ s.1 in (
          ap (after_bytes message) start ∙ r.0,
          ap (λ (o : Option Entry). map
              (λ x. told_of x (after_length k (at max (Half (m / 256)) held)).message)
              (option_to_list o)
              ++ told_in message (after_length k (at max (Half (m / 256)) held)))
              none
              ∙ ap (told_in message) start ∙ r.1,
        )

pub one_then : (message rest : List ℕ) (v : LengthsView) → v.place ≡ Start → Fits v.max message
    → told_in (behind_length message ++ rest) v ≡ Got message ∷ told_in rest v
one_then message rest v e f =
    let w = at v.max Start v.message in
    let r = one_message message v.max v.message f in
    ap (told_in (behind_length message ++ rest)) (at_place v Start e)
    ∙ told_more (behind_length message) rest w
    ∙ ap (λ ts. ts ++ told_in rest (after_bytes (behind_length message) w)) r.1
    ∙ ap (λ u. Got message ∷ told_in rest u) r.0
    ∙ ap (λ ts. Got message ∷ ts) (told_same rest v.max Start message v.message tt)
    ∙ ap (λ u. Got message ∷ told_in rest u) (sym (at_place v Start e))

pub all_messages : (messages : List (List ℕ)) (v : LengthsView) → v.place ≡ Start
    → All (Fits v.max) messages
    → (told_in (in_binary messages) v ≡ map Got messages)
    × ((after_bytes (in_binary messages) v).place ≡ Start)
unfolding in_binary told_in after_bytes
all_messages [] v e f = (refl, e)
all_messages (message ∷ rest) v e f =
    let fits = All-head (Fits v.max) message rest f in
    let more = All-tail (Fits v.max) message rest f in
    let r = all_messages rest v e more in
    let w = at v.max Start message in
    let s = all_messages rest w refl more in
    let start : after_bytes (behind_length message) v ≡ w =
    ap (after_bytes (behind_length message)) (at_place v Start e)
    ∙ (one_message message v.max v.message fits).0 in (
      one_then message (in_binary rest) v e fits ∙ ap (λ ts. Got message ∷ ts) r.0,
      ap (λ (u : LengthsView). u.place)
          (after_more (behind_length message) (in_binary rest) v
          ∙ ap (after_bytes (in_binary rest)) start)
          ∙ s.1,
    )

-- ---- what is no message

pub empty_then : (rest : List ℕ) (v : LengthsView) → v.place ≡ Start
    → told_in (behind_length [] ++ rest) v ≡ Refused Empty ∷ told_in rest v
unfolding told_in
empty_then rest v e =
    ap (told_in (0 ∷ 0 ∷ rest)) (at_place v Start e)
    ∙ ap (λ u. Refused Empty ∷ told_in rest u) (sym (at_place v Start e))

-- a length that is too long
passes : (n max : ℕ) (held : List ℕ) → max < n
    → (after_length n (at max (Half (n / 256)) held) ≡ at max (Skipping n) held)
    × (entry_of_length n max ≡ Some TooLong)
passes n max held h =
    by (is_refused max n) (long_is max n h) (n == 0) (some_not n (omega (arith, h)))
  where
    by : (refused : Bool) → refused ≡ true → (none : Bool) → none ≡ false
        → (cond refused (at max (cond none Start (Skipping n)) held) (at max (Inside n) [])
        ≡ at max (Skipping n) held)
        × (cond refused (Some (cond none Empty TooLong)) None ≡ Some TooLong)
    by true e true g = cc
    by true e false g = (refl, refl)
    by false e none g = cc

one_refused : (message : List ℕ) (max : ℕ) (held : List ℕ) → max < length message
    → (after_bytes (behind_length message) (at max Start held) ≡ at max Start held)
    × (told_in (behind_length message) (at max Start held) ≡ Refused TooLong ∷ [])
unfolding after_bytes told_in
one_refused message max held f =
    by (length message / 256 * 256 + length message % 256) (split (length message))
  where
    by : (k : ℕ) → k ≡ length message
        → (after_bytes message (after_length k (at max (Half (length message / 256)) held))
        ≡ at max Start held)
        × (told_then message max held k ≡ Refused TooLong ∷ [])
    by k e =
        let m = length message in
        let s = passes m max held f in
        let r = passing message m max held refl (omega (arith, f)) in
        let start : after_length k (at max (Half (m / 256)) held) ≡ at max (Skipping m) held =
        ap (λ j. after_length j (at max (Half (m / 256)) held)) e ∙ s.0 in
        let some : entry_of_length k max ≡ Some TooLong =
        ap (λ j. entry_of_length j max) e ∙ s.1 in (
          ap (after_bytes message) start ∙ r.0,
          ap (λ (o : Option Entry). map
              (λ x. told_of x (after_length k (at max (Half (m / 256)) held)).message)
              (option_to_list o)
              ++ told_in message (after_length k (at max (Half (m / 256)) held)))
              some
              ∙ ap (λ u. Refused TooLong ∷ told_in message u) start
              ∙ ap (λ ts. Refused TooLong ∷ ts) r.1,
        )

pub long_then : (message rest : List ℕ) (v : LengthsView) → v.place ≡ Start → v.max < length message
    → told_in (behind_length message ++ rest) v ≡ Refused TooLong ∷ told_in rest v
long_then message rest v e f =
    let w = at v.max Start v.message in
    let r = one_refused message v.max v.message f in
    ap (told_in (behind_length message ++ rest)) (at_place v Start e)
    ∙ told_more (behind_length message) rest w
    ∙ ap (λ ts. ts ++ told_in rest (after_bytes (behind_length message) w)) r.1
    ∙ ap (λ u. Refused TooLong ∷ told_in rest u) r.0
    ∙ ap (λ u. Refused TooLong ∷ told_in rest u) (sym (at_place v Start e))
