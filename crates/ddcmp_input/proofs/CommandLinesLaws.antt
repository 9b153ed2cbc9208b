-- Bytes of an input, one after another.
use Rattle.std.proofs.Common.{◌≡◌, ℕ, List, [], ◌∷◌, ◌++◌, refl, sym, ◌∙◌, ap, append_assoc}
use Rattle.std.proofs.Common.{append-nil, option_to_list, Option, Some, None, is_some, false}
use Rattle.ddcmp_input.specs.declared.entry.Entry.{Entry}
use Rattle.ddcmp_input.specs.CommandLines.{CommandsView, after_byte, entry_of_byte, after_bytes}
use Rattle.ddcmp_input.specs.CommandLines.{entries_of_bytes}

pub after_more : (xs ys : List ℕ) (v : CommandsView)
    → after_bytes (xs ++ ys) v ≡ after_bytes ys (after_bytes xs v)
unfolding after_bytes
after_more [] ys v = refl
after_more (x ∷ xs) ys v = after_more xs ys (after_byte x v)

pub entries_of_more : (xs ys : List ℕ) (v : CommandsView)
    → entries_of_bytes (xs ++ ys) v
    ≡ entries_of_bytes xs v ++ entries_of_bytes ys (after_bytes xs v)
unfolding after_bytes entries_of_bytes
entries_of_more [] ys v = refl
entries_of_more (x ∷ xs) ys v =
    ap (λ es. option_to_list (entry_of_byte x v) ++ es) (entries_of_more xs ys (after_byte x v))
    ∙ sym (append_assoc (option_to_list (entry_of_byte x v)) (entries_of_bytes xs (after_byte x v))
    (entries_of_bytes ys (after_bytes xs (after_byte x v))))

pub after_last : (xs : List ℕ) (byte : ℕ) (v : CommandsView)
    → after_bytes (xs ++ byte ∷ []) v ≡ after_byte byte (after_bytes xs v)
unfolding after_bytes
after_last xs byte v = after_more xs (byte ∷ []) v

pub entries_of_last : (xs : List ℕ) (byte : ℕ) (v : CommandsView)
    → entries_of_bytes (xs ++ byte ∷ []) v
    ≡ entries_of_bytes xs v ++ option_to_list (entry_of_byte byte (after_bytes xs v))
unfolding after_bytes entries_of_bytes
entries_of_last xs byte v =
    entries_of_more xs (byte ∷ []) v
    ∙ ap (λ es. entries_of_bytes xs v ++ es)
    (append-nil (option_to_list (entry_of_byte byte (after_bytes xs v))))

pub nothing_yet : (v : CommandsView) → (v ≡ after_bytes [] v) × (entries_of_bytes [] v ≡ [])
unfolding after_bytes entries_of_bytes
nothing_yet v = (refl, refl)

-- one byte more of a piece
pub one_more : (whole xs : List ℕ) (byte : ℕ) (v mid new : CommandsView) → whole ≡ xs ++ byte ∷ []
    → mid ≡ after_bytes xs v → new ≡ after_byte byte mid → new ≡ after_bytes whole v
one_more whole xs byte v mid new parts was is =
    is ∙ ap (after_byte byte) was ∙ sym (after_last xs byte v)
    ∙ ap (λ ys. after_bytes ys v) (sym parts)

pub entry_of_more : (whole xs : List ℕ) (byte : ℕ) (v mid : CommandsView) (entry : Option Entry)
    → whole ≡ xs ++ byte ∷ []
    → mid ≡ after_bytes xs v → entries_of_bytes xs v ≡ [] → entry ≡ entry_of_byte byte mid
    → entries_of_bytes whole v ≡ option_to_list entry
entry_of_more whole xs byte v mid entry parts was none is =
    ap (λ ys. entries_of_bytes ys v) parts ∙ entries_of_last xs byte v
    ∙ ap (λ es. es ++ option_to_list (entry_of_byte byte (after_bytes xs v))) none
    ∙ ap (λ m. option_to_list (entry_of_byte byte m)) (sym was) ∙ ap option_to_list (sym is)

pub no_entry : (entry : Option Entry) → is_some entry ≡ false → option_to_list entry ≡ []
no_entry None e = refl
no_entry (Some x) e = cc
