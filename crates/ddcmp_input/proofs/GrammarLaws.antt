-- Lines of the grammar, read from place to place.
use Rattle.std.proofs.Common.{◌≡◌, ◌≢◌, ◌⊎◌, inl, inr, ℕ, Bool, true, false, cond, List, [], ◌∷◌}
use Rattle.std.proofs.Common.{◌++◌, refl, sym, ◌∙◌, ap, append_assoc, subst, arith, suc, ◌+◌, ◌≤◌}
use Rattle.std.proofs.Common.{length}
use Rattle.std.specs.Prelude.{◌==◌, ◌||◌, if◌then◌else◌, nat_lt}
use Rattle.std.specs.Char.{is_ascii_hexdigit}
use Rattle.std.specs.List.{All, filter}
use Rattle.std.proofs.lemmas.List.Elements.{All-head, All-tail}
use Rattle.ddcmp_input.specs.declared.place.Kind.TheVariants as kind
use Rattle.ddcmp_input.specs.declared.place.Place.{Place}
use Rattle.ddcmp_input.specs.declared.place.Place.TheVariants.{Start, Address, Blanks, High, Low}
use Rattle.ddcmp_input.specs.declared.place.Place.TheVariants.{Colon, Gap, First, Second, Third}
use Rattle.ddcmp_input.specs.declared.place.Place.TheVariants.{Fourth, Text, Return}
use Rattle.ddcmp_input.specs.Dump.{kind_of_byte, place_of_kind, place_after, shown_at, shown_from}
use Rattle.ddcmp_input.specs.Dump.{place_from, text_then}
use Rattle.ddcmp_input.specs.Grammar.{IsDigit, IsOneLine, Bytes, NoByte, Blank, Byte, Column}
use Rattle.ddcmp_input.specs.Grammar.{Groups}
use Rattle.ddcmp_input.specs.Grammar.{NoGroup, LastBlank, One, Two, Behind, Line, Empty, Dumped}
use Rattle.ddcmp_input.specs.Grammar.{Grouped, IsAddress, LineEnd, Feed, ReturnFeed, digits_in}
use Rattle.ddcmp_input.specs.Grammar.{Reads}

kept_or_not : (b : Bool) (x : ℕ) (xs ds : List ℕ) → b ≡ false → xs ≡ ds → cond b (x ∷ xs) xs ≡ ds
kept_or_not b x xs ds none e = rw none e

kept : (b : Bool) (x : ℕ) (xs ds : List ℕ) → b ≡ true → xs ≡ ds → cond b (x ∷ xs) xs ≡ x ∷ ds
kept b x xs ds some e = rw some (ap (λ r. x ∷ r) e)

-- a byte that is blanked
quiet : (p q : Place) (b : ℕ) (rest ds : List ℕ) → place_after p b ≡ q
    → is_ascii_hexdigit (shown_at q b) ≡ false → Reads q rest ds → Reads p (b ∷ rest) ds
unfolding shown_from place_from
quiet p q b rest ds to none reads = record {
  keeps = ap (λ s. filter is_ascii_hexdigit (shown_at s b ∷ shown_from s rest)) to
      ∙ kept_or_not (is_ascii_hexdigit (shown_at q b)) (shown_at q b)
      (digits_in (shown_from q rest)) ds none reads.keeps;
  ends = ap (λ s. place_from s rest) to ∙ reads.ends;
}

-- a digit of data
digit : (p q : Place) (b : ℕ) (rest ds : List ℕ) → place_after p b ≡ q → shown_at q b ≡ b
    → IsDigit b → Reads q rest ds → Reads p (b ∷ rest) (b ∷ ds)
unfolding shown_from place_from
digit p q b rest ds to stays is reads = record {
  keeps = ap (λ s. filter is_ascii_hexdigit (shown_at s b ∷ shown_from s rest)) to
      ∙ ap (λ x. filter is_ascii_hexdigit (x ∷ shown_from q rest)) stays
      ∙ kept (is_ascii_hexdigit b) b (digits_in (shown_from q rest)) ds is reads.keeps;
  ends = ap (λ s. place_from s rest) to ∙ reads.ends;
}

digit-kind : (b : ℕ) → IsDigit b → kind_of_byte b ≡ kind.Digit
digit-kind b is = rw is refl

digit-place : (p : Place) (b : ℕ) → IsDigit b → place_after p b ≡ place_of_kind p kind.Digit
unfolding place_after
digit-place p b is = ap (place_of_kind p) (digit-kind b is)

over : Reads Start [] []
unfolding shown_from place_from
over = record { keeps = refl; ends = refl }

-- the end of a line
finish : (p : Place) (end : List ℕ) → place_of_kind p kind.LineFeed ≡ Start
    → place_of_kind p kind.Return ≡ Return → LineEnd end → Reads p end []
unfolding place_after shown_at
finish p _ feed return Feed = quiet p Start 10 [] [] feed refl over
finish p _ feed return ReturnFeed =
    quiet p Return 13 (10 ∷ []) [] return refl (quiet Return Start 10 [] [] refl refl over)

-- the column of text
text-stays : (b : ℕ) → b ≢ 10 → place_after Text b ≡ Text
unfolding place_after
text-stays b other =
    at (is_ascii_hexdigit b) (b == 32) (b == 10) (b == 58) ((b == 124) || (b == 62)) (b == 42)
    (b == 13) (not_feed b other)
  where
    not_feed : (c : ℕ) → c ≢ 10 → (c == 10) ≡ false
    not_feed c h = search arith

    at : (h bl f co ba st re : Bool) → f ≡ false
        → text_then (if h then kind.Digit else if bl then kind.Blank else if f then kind.LineFeed
        else if co then kind.Colon else if ba then kind.Bar else if st then kind.Star else if re
        then kind.Return else kind.Other)
        ≡ Text
    at true bl f co ba st re e = refl
    at false true f co ba st re e = refl
    at false false true co ba st re e = cc
    at false false false true ba st re e = refl
    at false false false false true st re e = refl
    at false false false false false true re e = refl
    at false false false false false false true e = refl
    at false false false false false false false e = refl

in-text : (text end : List ℕ) → IsOneLine text → LineEnd end → Reads Text (text ++ end) []
unfolding place_after shown_at
in-text [] _ one Feed = quiet Text Start 10 [] [] refl refl over
in-text [] _ one ReturnFeed =
    quiet Text Text 13 (10 ∷ []) [] refl refl (quiet Text Start 10 [] [] refl refl over)
in-text (b ∷ text) end one ends =
    quiet Text Text b (text ++ end) [] (text-stays b (All-head (λ c. c ≢ 10) b text one)) refl
    (in-text text end (All-tail (λ c. c ≢ 10) b text one) ends)

bar-place : (bar : ℕ) → (bar ≡ 124) ⊎ (bar ≡ 62) → place_after Blanks bar ≡ Text
unfolding place_after
bar-place bar (inl e) = ap (place_after Blanks) e
bar-place bar (inr e) = ap (place_after Blanks) e

bytes : {text digits : List ℕ} (p : Place) (end : List ℕ) → place_of_kind p kind.Blank ≡ Blanks
    → place_of_kind p kind.LineFeed ≡ Start → place_of_kind p kind.Return ≡ Return
    → Bytes text digits → LineEnd end → Reads p (text ++ end) digits
unfolding place_after shown_at
bytes p end blank feed return NoByte ends = finish p end feed return ends
bytes p end blank feed return (Blank more) ends =
    quiet p Blanks 32 _ _ blank refl (bytes Blanks end refl refl refl more ends)
bytes p end blank feed return (Byte {a = a} {b = b} first second more) ends =
    quiet p Blanks 32 _ _ blank refl
    (digit Blanks High a _ _ (digit-place Blanks a first) refl first
    (digit High Low b _ _ (digit-place High b second) refl second
    (bytes Low end refl refl refl more ends)))
bytes p end blank feed return (Column {bar = bar} {text = text} is one) ends =
    quiet p Blanks 32 _ _ blank refl
    (quiet Blanks Text bar _ _ (bar-place bar is) refl (in-text text end one ends))

groups : {text digits : List ℕ} (p : Place) (end : List ℕ) → place_of_kind p kind.Blank ≡ Gap
    → place_of_kind p kind.LineFeed ≡ Start → place_of_kind p kind.Return ≡ Return
    → Groups text digits → LineEnd end → Reads p (text ++ end) digits
unfolding place_after shown_at
groups p end blank feed return NoGroup ends = finish p end feed return ends
groups p end blank feed return LastBlank ends =
    quiet p Gap 32 _ _ blank refl (finish Gap end refl refl ends)
groups p end blank feed return (One {a = a} {b = b} first second more) ends =
    quiet p Gap 32 _ _ blank refl
    (digit Gap First a _ _ (digit-place Gap a first) refl first
    (digit First Second b _ _ (digit-place First b second) refl second
    (groups Second end refl refl refl more ends)))
groups p end blank feed return (Two {a = a} {b = b} {c = c} {d = d} first second third fourth more)
    ends =
    quiet p Gap 32 _ _ blank refl
    (digit Gap First a _ _ (digit-place Gap a first) refl first
    (digit First Second b _ _ (digit-place First b second) refl second
    (digit Second Third c _ _ (digit-place Second c third) refl third
    (digit Third Fourth d _ _ (digit-place Third d fourth) refl fourth
    (groups Fourth end refl refl refl more ends)))))
groups p end blank feed return (Behind {text = text} one) ends =
    quiet p Gap 32 _ _ blank refl (quiet Gap Text 32 _ _ refl refl (in-text text end one ends))

-- an address
counted : (n : ℕ) → nat_lt n 15 ≡ true → place_of_kind (Address n) kind.Digit ≡ Address (n + 1)
counted n h = rw h refl

in-address : (n : ℕ) (address rest ds : List ℕ) → All IsDigit address → n + length address ≤ 15
    → Reads (Address (n + length address)) rest ds → Reads (Address n) (address ++ rest) ds
unfolding shown_at
in-address n [] rest ds digits fits reads =
    subst (λ m. Reads (Address m) rest ds) (none n) reads
  where
    none : (m : ℕ) → m + 0 ≡ m
    none m = search arith
in-address n (b ∷ address) rest ds digits fits reads =
    quiet (Address n) (Address (n + 1)) b _ ds
    (digit-place (Address n) b (All-head IsDigit b address digits)
    ∙ counted n (room n (length address) fits))
    refl
    (in-address (n + 1) address rest ds (All-tail IsDigit b address digits)
    (still n (length address) fits)
    (subst (λ m. Reads (Address m) rest ds) (same n (length address)) reads))
  where
    room : (m k : ℕ) → m + suc k ≤ 15 → nat_lt m 15 ≡ true
    room m k h = search arith

    still : (m k : ℕ) → m + suc k ≤ 15 → (m + 1) + k ≤ 15
    still m k h = search arith

    same : (m k : ℕ) → m + suc k ≡ (m + 1) + k
    same m k = search arith

addressed : (address rest ds : List ℕ) → IsAddress address
    → Reads (Address (length address)) rest ds → Reads Start (address ++ rest) ds
unfolding place_after shown_at
addressed [] rest ds is reads = absurd (omega (arith, is.least))
addressed (first ∷ address) rest ds is reads =
    quiet Start (Address 1) first _ ds
    (digit-place Start first (All-head IsDigit first address is.digits)) refl
    (in-address 1 address rest ds (All-tail IsDigit first address is.digits)
    (most (length address) is.most)
    (subst (λ m. Reads (Address m) rest ds) (same (length address)) reads))
  where
    most : (k : ℕ) → suc k ≤ 15 → 1 + k ≤ 15
    most k h = search arith

    same : (k : ℕ) → suc k ≡ 1 + k
    same k = search arith

enough : (n : ℕ) → 6 ≤ n → nat_lt n 6 ≡ false
enough n h = search arith

pub reads-line : {line digits : List ℕ} (end : List ℕ) → Line line digits → LineEnd end
    → Reads Start (line ++ end) digits
unfolding place_after shown_at
reads-line end Empty ends = finish Start end refl refl ends
reads-line end (Dumped address {text = text} {digits = digits} is rest) ends =
    subst (λ t. Reads Start t digits) (sym (append_assoc address text end))
    (addressed address (text ++ end) digits is
    (bytes (Address (length address)) end (rw (enough (length address) is.least) refl)
    (rw (enough (length address) is.least) refl) (rw (enough (length address) is.least) refl)
    rest ends))
reads-line end (Grouped address {text = text} {digits = digits} is rest) ends =
    subst (λ t. Reads Start t digits) (sym (append_assoc address (58 ∷ text) end))
    (addressed address (58 ∷ (text ++ end)) digits is
    (quiet (Address (length address)) Colon 58 _ digits
    (rw (enough (length address) is.least) refl) refl
    (groups Colon end refl refl refl rest ends)))
