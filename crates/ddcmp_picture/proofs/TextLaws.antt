-- Short texts, one text after another.
use Rattle.std.proofs.Common.{◌≡◌, ◌<◌, ◌≤◌, ℕ, List, [], ◌∷◌, ◌++◌, refl, ap}
use Rattle.std.proofs.Common.{drop, length, slice_index, ◌+◌, add-one, drop-cons}
use Rattle.std.proofs.lemmas.List.{drop_all}
use Rattle.ddcmp_picture.specs.declared.short_text.ShortText.{ShortText}
use Rattle.ddcmp_picture.specs.ShortTexts.{with_byte, with_text}

pub with_append : (t : ShortText) (x y : List ℕ)
    → with_text (with_text t x) y ≡ with_text t (x ++ y)
unfolding with_text
with_append t [] y = refl
with_append t (a ∷ x) y = with_append (with_byte t a) x y

drop-one : (xs : List ℕ) (i : ℕ) → i < length xs → drop i xs ≡ slice_index xs i ∷ drop (i + 1) xs
drop-one xs i h = rw (add-one, drop-cons xs i 0)

-- a text from its byte i on
pub with_step : (t : ShortText) (text : List ℕ) (i : ℕ) → i < length text
    → with_text t (drop i text) ≡ with_text (with_byte t (slice_index text i)) (drop (i + 1) text)
unfolding with_text
with_step t text i k = ap (with_text t) (drop-one text i k)

pub with_none : (t : ShortText) (text : List ℕ) (i : ℕ) → length text ≤ i
    → with_text t (drop i text) ≡ t
unfolding with_text
with_none t text i k = ap (with_text t) (drop_all i text k)
