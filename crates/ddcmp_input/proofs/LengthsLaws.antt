-- Bytes of an input, one after another.
use Rattle.std.proofs.Common.{◌≡◌, ℕ, List, [], ◌∷◌, ◌++◌, refl, sym, ◌∙◌, ap, append_assoc}
use Rattle.std.proofs.Common.{append-nil, option_to_list, Option, Some, None, is_some, false, ◌+◌}
use Rattle.std.proofs.Common.{◌-◌, ◌<◌, length, take, nat_le, arith, drop, length-drop, take_all}
use Rattle.std.proofs.Common.{take-add, subst}
use Rattle.std.proofs.lemmas.List.{length-take}
use Rattle.ddcmp_input.specs.declared.entry.Entry.{Entry}
use Rattle.ddcmp_input.specs.declared.entry.Entry.TheVariants.{Message}
use Rattle.ddcmp_input.specs.declared.lengths.LengthPlace.{LengthPlace}
use Rattle.ddcmp_input.specs.declared.lengths.LengthPlace.TheVariants.{Start, Inside}
use Rattle.ddcmp_input.specs.Lengths.{LengthsView, HasRoom, after_byte, entry_of_byte}
use Rattle.ddcmp_input.specs.Lengths.{after_bytes, entries_of_bytes}

pub after_more : (xs ys : List ℕ) (v : LengthsView)
    → after_bytes (xs ++ ys) v ≡ after_bytes ys (after_bytes xs v)
unfolding after_bytes
after_more [] ys v = refl
after_more (x ∷ xs) ys v = after_more xs ys (after_byte x v)

pub entries_of_more : (xs ys : List ℕ) (v : LengthsView)
    → entries_of_bytes (xs ++ ys) v
    ≡ entries_of_bytes xs v ++ entries_of_bytes ys (after_bytes xs v)
unfolding after_bytes entries_of_bytes
entries_of_more [] ys v = refl
entries_of_more (x ∷ xs) ys v =
    ap (λ es. option_to_list (entry_of_byte x v) ++ es) (entries_of_more xs ys (after_byte x v))
    ∙ sym (append_assoc (option_to_list (entry_of_byte x v)) (entries_of_bytes xs (after_byte x v))
    (entries_of_bytes ys (after_bytes xs (after_byte x v))))

pub after_last : (xs : List ℕ) (byte : ℕ) (v : LengthsView)
    → after_bytes (xs ++ byte ∷ []) v ≡ after_byte byte (after_bytes xs v)
unfolding after_bytes
after_last xs byte v = after_more xs (byte ∷ []) v

pub entries_of_last : (xs : List ℕ) (byte : ℕ) (v : LengthsView)
    → entries_of_bytes (xs ++ byte ∷ []) v
    ≡ entries_of_bytes xs v ++ option_to_list (entry_of_byte byte (after_bytes xs v))
unfolding after_bytes entries_of_bytes
entries_of_last xs byte v =
    entries_of_more xs (byte ∷ []) v
    ∙ ap (λ es. entries_of_bytes xs v ++ es)
    (append-nil (option_to_list (entry_of_byte byte (after_bytes xs v))))

pub nothing_yet : (v : LengthsView) → (v ≡ after_bytes [] v) × (entries_of_bytes [] v ≡ [])
unfolding after_bytes entries_of_bytes
nothing_yet v = (refl, refl)

-- one byte more of a piece
pub one_more : (whole xs : List ℕ) (byte : ℕ) (v mid new : LengthsView) → whole ≡ xs ++ byte ∷ []
    → mid ≡ after_bytes xs v → new ≡ after_byte byte mid → new ≡ after_bytes whole v
one_more whole xs byte v mid new parts was is =
    is ∙ ap (after_byte byte) was ∙ sym (after_last xs byte v)
    ∙ ap (λ ys. after_bytes ys v) (sym parts)

pub entry_of_more : (whole xs : List ℕ) (byte : ℕ) (v mid : LengthsView) (entry : Option Entry)
    → whole ≡ xs ++ byte ∷ []
    → mid ≡ after_bytes xs v → entries_of_bytes xs v ≡ [] → entry ≡ entry_of_byte byte mid
    → entries_of_bytes whole v ≡ option_to_list entry
entry_of_more whole xs byte v mid entry parts was none is =
    ap (λ ys. entries_of_bytes ys v) parts ∙ entries_of_last xs byte v
    ∙ ap (λ es. es ++ option_to_list (entry_of_byte byte (after_bytes xs v))) none
    ∙ ap (λ m. option_to_list (entry_of_byte byte m)) (sym was) ∙ ap option_to_list (sym is)

pub no_entry : (entry : Option Entry) → is_some entry ≡ false → option_to_list entry ≡ []
no_entry None e = refl
no_entry (Some x) e = cc

-- bytes within a message: what there is of it
abbrev pub at : ℕ → LengthPlace → List ℕ → LengthsView
at max place message = record { max = max; place = place; message = message }

goes_on : (left n : ℕ) → n + 1 < left → nat_le left 1 ≡ false
goes_on left n more = grind (arith)

less_by_one : (left x : ℕ) (xs : List ℕ) → left - 1 - length xs ≡ left - length (x ∷ xs)
less_by_one left x xs = omega arith

less_by_none : (left : ℕ) → left ≡ left - 0
less_by_none left = omega arith

pub within : (xs message : List ℕ) (left max : ℕ) → length xs < left
    → (after_bytes xs (at max (Inside left) message)
    ≡ at max (Inside (left - length xs)) (message ++ xs))
    × (entries_of_bytes xs (at max (Inside left) message) ≡ [])
unfolding after_bytes entries_of_bytes
within [] message left max short =
    (λ i. at max (Inside (less_by_none left i)) (sym (append-nil message) i), refl)
within (x ∷ xs) message left max short =
    rw (goes_on left (length xs) (omega arith)) (
      (within xs (message ++ x ∷ []) (left - 1) max (omega arith)).0
          ∙ ap (λ n. at max (Inside n) ((message ++ x ∷ []) ++ xs)) (less_by_one left x xs)
          ∙ ap (at max (Inside (left - length (x ∷ xs)))) (append_assoc message (x ∷ []) xs),
      (within xs (message ++ x ∷ []) (left - 1) max (omega arith)).1,
    )

-- and all that is to come of it
pub whole_message : (xs message : List ℕ) (left max : ℕ) → 0 < left → length xs ≡ left
    → (after_bytes xs (at max (Inside left) message) ≡ at max Start (message ++ xs))
    × (entries_of_bytes xs (at max (Inside left) message) ≡ Message ∷ [])
unfolding after_bytes entries_of_bytes
whole_message [] message left max some all = absurd (omega arith)
whole_message (x ∷ []) message left max some all = rw (sym all) (refl, refl)
whole_message (x ∷ y ∷ xs) message left max some all =
    rw (goes_on left (length xs) (omega arith)) (
      (whole_message (y ∷ xs) (message ++ x ∷ []) (left - 1) max (omega arith) (omega arith)).0
          ∙ ap (at max Start) (append_assoc message (x ∷ []) (y ∷ xs)),
      (whole_message (y ∷ xs) (message ++ x ∷ []) (left - 1) max (omega arith) (omega arith)).1,
    )

-- of the view that contracts see
pub some_is_left : (place : LengthPlace) (left held capacity : ℕ) → place ≡ Inside left
    → HasRoom place held capacity → 0 < left
some_is_left place left held capacity is has = (subst (λ p. HasRoom p held capacity) is has).0

pub short_state : (xs : List ℕ) (left : ℕ) (v : LengthsView) → v.place ≡ Inside left
    → length xs < left
    → at v.max (Inside (left - length xs)) (v.message ++ xs) ≡ after_bytes xs v
short_state xs left v place short =
    sym (within xs v.message left v.max short).0
    ∙ ap (λ p. after_bytes xs (at v.max p v.message)) (sym place)

pub none_of_short : (xs : List ℕ) (left : ℕ) (v : LengthsView) → v.place ≡ Inside left
    → length xs < left
    → entries_of_bytes xs v ≡ []
none_of_short xs left v place short =
    ap (λ p. entries_of_bytes xs (at v.max p v.message)) place
    ∙ (within xs v.message left v.max short).1

pub none_of_first : (n : ℕ) (xs : List ℕ) (left : ℕ) (v : LengthsView) → v.place ≡ Inside left
    → n < left
    → entries_of_bytes (take n xs) v ≡ []
none_of_first n xs left v place less =
    none_of_short (take n xs) left v place (omega (arith, length-take n xs))

pub whole_state : (xs : List ℕ) (left : ℕ) (v : LengthsView) → v.place ≡ Inside left → 0 < left
    → length xs ≡ left
    → at v.max Start (v.message ++ xs) ≡ after_bytes xs v
whole_state xs left v place some all =
    sym (whole_message xs v.message left v.max some all).0
    ∙ ap (λ p. after_bytes xs (at v.max p v.message)) (sym place)

pub message_of_whole : (xs : List ℕ) (left : ℕ) (v : LengthsView) → v.place ≡ Inside left → 0 < left
    → length xs ≡ left
    → entries_of_bytes xs v ≡ Message ∷ []
message_of_whole xs left v place some all =
    ap (λ p. entries_of_bytes xs (at v.max p v.message)) place
    ∙ (whole_message xs v.message left v.max some all).1

-- a part of a piece, and then more of it
taken : (piece : List ℕ) (n k : ℕ)
    → take n piece ++ take k (take (length piece - n) (drop n piece)) ≡ take (n + k) piece
taken piece n k =
    ap (λ t. take n piece ++ take k t)
    (take_all (length piece - n) (drop n piece) (omega (arith, length-drop n piece)))
    ∙ sym (take-add n k piece)

pub part_state : (piece : List ℕ) (n k : ℕ) (v mid new : LengthsView)
    → mid ≡ after_bytes (take n piece) v
    → new ≡ after_bytes (take k (take (length piece - n) (drop n piece))) mid
    → new ≡ after_bytes (take (n + k) piece) v
part_state piece n k v mid new was is =
    let rest = take k (take (length piece - n) (drop n piece)) in
    is ∙ ap (after_bytes rest) was ∙ sym (after_more (take n piece) rest v)
    ∙ ap (λ t. after_bytes t v) (taken piece n k)

pub part_entries : (piece : List ℕ) (n k : ℕ) (v mid : LengthsView) (es : List Entry)
    → mid ≡ after_bytes (take n piece) v
    → entries_of_bytes (take n piece) v ≡ []
    → entries_of_bytes (take k (take (length piece - n) (drop n piece))) mid ≡ es
    → entries_of_bytes (take (n + k) piece) v ≡ es
part_entries piece n k v mid es was none is =
    let rest = take k (take (length piece - n) (drop n piece)) in
    ap (λ t. entries_of_bytes t v) (sym (taken piece n k)) ∙ entries_of_more (take n piece) rest v
    ∙ ap (λ fs. fs ++ entries_of_bytes rest (after_bytes (take n piece) v)) none
    ∙ ap (entries_of_bytes rest) (sym was) ∙ is

pub none_before : (piece : List ℕ) (n k m : ℕ) (v mid : LengthsView)
    → mid ≡ after_bytes (take n piece) v
    → entries_of_bytes (take n piece) v ≡ []
    → ((i : ℕ) → i < k
    → entries_of_bytes (take i (take (length piece - n) (drop n piece))) mid ≡ [])
    → 0 < k → n + k ≡ m + 1 → entries_of_bytes (take m piece) v ≡ []
none_before piece n k m v mid was none first some is =
    let at_last : m ≡ n + (k - 1) = omega arith in
    ap (λ i. entries_of_bytes (take i piece) v) at_last
    ∙ part_entries piece n (k - 1) v mid [] was none (first (k - 1) (omega arith))
