-- A caption without the counters that are 0.
use Rattle.std.proofs.Common.{◌≡◌, ◌<◌, ◌≤◌, ◌+◌, ◌-◌, ℕ, Bool, true, false, List, [], ◌∷◌, ◌++◌}
use Rattle.std.proofs.Common.{sym, ◌∙◌, ap, take, drop, length, slice_index, add-one, drop-cons}
use Rattle.std.proofs.Common.{arith, if◌then◌else◌, Some, refl, subst, append_assoc}
use Rattle.std.proofs.lemmas.List.{append-nil, drop_all, take_all, take_rest, drop-drop}
use Rattle.std.proofs.lemmas.List.{length-drop}
use Rattle.std.proofs.Math.Seq.{take-add}
use Rattle.ddcmp_io.proofs.TextLaws.{sends-as, sends-nothing}
use Rattle.ddcmp_io.proofs.WrittenLaws.{sends-then}
use Rattle.ddcmp_io.specs.Written.{HandsOver, HoldsBy, Output}
use Rattle.ddcmp_picture.specs.Inside.Captions.{is_gap, unless_zero, without_zeros}

drop-one : (xs : List ℕ) (i : ℕ) → i < length xs → drop i xs ≡ slice_index xs i ∷ drop (i + 1) xs
drop-one xs i h = rw (add-one, drop-cons xs i 0)

-- the bytes from one place to another
abbrev pub between : ℕ → ℕ → List ℕ → List ℕ
between start at text = take (at - start) (drop start text)

byte-at : (text : List ℕ) (at : ℕ) → at < length text
    → take 1 (drop at text) ≡ slice_index text at ∷ []
byte-at text at k = ap (take 1) (drop-one text at k)

word-more : (text : List ℕ) (start at : ℕ) → start ≤ at → at < length text
    → between start at text ++ slice_index text at ∷ [] ≡ between start (at + 1) text
word-more text start at s k =
    let d : ℕ = at - start in
    let from_start : start + d ≡ at = omega (arith, s) in
    let one_more : at + 1 - start ≡ d + 1 = omega (arith, s) in
    sym (ap (λ n. take n (drop start text)) one_more
    ∙ take-add d 1 (drop start text)
    ∙ ap (λ x. take d (drop start text) ++ take 1 x)
    (drop-drop d start text ∙ ap (λ n. drop n text) from_start)
    ∙ ap (λ x. take d (drop start text) ++ x) (byte-at text at k))

word-one : (text : List ℕ) (at : ℕ) → at < length text
    → slice_index text at ∷ [] ≡ between at (at + 1) text
word-one text at k =
    let one : at + 1 - at ≡ 1 = omega arith in
    sym (ap (λ n. take n (drop at text)) one ∙ byte-at text at k)

-- a byte of a word
pub in_word : (text : List ℕ) (start at : ℕ) → start ≤ at → at < length text
    → is_gap (slice_index text at) ≡ false
    → without_zeros (between start at text) (drop at text)
    ≡ without_zeros (between start (at + 1) text) (drop (at + 1) text)
unfolding without_zeros
in_word text start at s k is =
    ap (without_zeros (between start at text)) (drop-one text at k)
    ∙ ap (λ (b : Bool). if b
    then unless_zero (between start at text)
    ++ without_zeros (slice_index text at ∷ []) (drop (at + 1) text)
    else without_zeros (between start at text ++ slice_index text at ∷ []) (drop (at + 1) text)) is
    ∙ ap (λ w. without_zeros w (drop (at + 1) text)) (word-more text start at s k)

-- a byte that ends one
pub at_gap : (text : List ℕ) (start at : ℕ) → at < length text
    → is_gap (slice_index text at) ≡ true
    → without_zeros (between start at text) (drop at text)
    ≡ unless_zero (between start at text)
    ++ without_zeros (between at (at + 1) text) (drop (at + 1) text)
unfolding without_zeros
at_gap text start at k is =
    ap (without_zeros (between start at text)) (drop-one text at k)
    ∙ ap (λ (b : Bool). if b
    then unless_zero (between start at text)
    ++ without_zeros (slice_index text at ∷ []) (drop (at + 1) text)
    else without_zeros (between start at text ++ slice_index text at ∷ []) (drop (at + 1) text)) is
    ∙ ap (λ w. unless_zero (between start at text) ++ without_zeros w (drop (at + 1) text))
    (word-one text at k)

-- the last word
pub at_end : (text : List ℕ) (start at : ℕ) → start ≤ at → length text ≤ at
    → without_zeros (between start at text) (drop at text)
    ≡ unless_zero (between start (length text) text)
unfolding without_zeros
at_end text start at s k =
    ap (without_zeros (between start at text)) (drop_all at text k)
    ∙ ap unless_zero
    (take_all (at - start) (drop start text) (omega (arith, s, k, length-drop start text))
    ∙ sym (take_rest text start))

-- ---- a text that is written word by word

-- The words before `start` were handed over; those bytes that follow up to `at` are read.
pub record HasWritten (first now : Output) (text : List ℕ) (start at : ℕ) : Type 0 where
  pub within : start ≤ at
  pub before : List ℕ
  pub sent : HandsOver first now before
  pub same : before ++ without_zeros (between start at text) (drop at text)
      ≡ without_zeros [] text

pub none_written : (first : Output) (text : List ℕ) → HasWritten first first text 0 0
none_written first text =
    record { within = omega arith; before = []; sent = sends-nothing first; same = refl }

pub reads_byte : (first now new : Output) (text : List ℕ) (start at left : ℕ)
    → HasWritten first now text start at → at < length text
    → is_gap (slice_index text at) ≡ false → new ≡ now → left ≡ start
    → HasWritten first new text left (at + 1)
reads_byte first now new text start at left h k is same-output same-start = record {
  within = omega (arith, h.within, same-start);
  before = h.before;
  sent = subst (λ o. HandsOver first o h.before) (sym same-output) h.sent;
  same = ap (λ n. h.before ++ without_zeros (between n (at + 1) text) (drop (at + 1) text))
      same-start
      ∙ ap (λ x. h.before ++ x) (sym (in_word text start at h.within k is)) ∙ h.same;
}

pub writes_word : (first now mid new : Output) (text : List ℕ) (start at left : ℕ)
    → HasWritten first now text start at → at < length text
    → is_gap (slice_index text at) ≡ true
    → HandsOver now mid (unless_zero (between start at text)) → new ≡ mid → left ≡ at
    → HasWritten first new text left (at + 1)
writes_word first now mid new text start at left h k is sent same-output same-start = record {
  within = omega (arith, same-start);
  before = h.before ++ unless_zero (between start at text);
  sent = subst (λ o. HandsOver first o (h.before ++ unless_zero (between start at text)))
      (sym same-output) (sends-then h.sent sent);
  same = ap (λ n. (h.before ++ unless_zero (between start at text))
      ++ without_zeros (between n (at + 1) text) (drop (at + 1) text)) same-start
      ∙ append_assoc h.before (unless_zero (between start at text))
      (without_zeros (between at (at + 1) text) (drop (at + 1) text))
      ∙ ap (λ x. h.before ++ x) (sym (at_gap text start at k is)) ∙ h.same;
}

pub writes_last : (first now new : Output) (text : List ℕ) (start at : ℕ)
    → HasWritten first now text start at → length text ≤ at
    → HandsOver now new (unless_zero (between start (length text) text))
    → HandsOver first new (without_zeros [] text)
writes_last first now new text start at h k sent =
    sends-as (ap (λ x. h.before ++ x) (sym (at_end text start at h.within k)) ∙ h.same)
    (sends-then h.sent sent)

-- ---- a text that is kept

-- what was handed over to a sink that held nothing, once all of it went out
pub kept_all : (broken at_last : Bool) (held waiting items left text : List ℕ) → broken ≡ false
    → held ≡ [] → waiting ≡ [] → at_last ≡ false → left ≡ []
    → HandsOver (record { broken = broken; sink = Some held; waiting = waiting })
    (record { broken = at_last; sink = Some items; waiting = left }) text
    → items ≡ text
kept_all broken at_last held waiting items left text whole empty none fine all h =
    let start : HoldsBy broken (Some []) (Some held) waiting [] =
    subst (λ b. HoldsBy b (Some []) (Some held) waiting []) (sym whole)
    (subst (λ t. HoldsBy false (Some []) (Some t) waiting []) (sym empty)
    (subst (λ t. HoldsBy false (Some []) (Some []) t []) (sym none) ([], refl, refl))) in
    let end : HoldsBy at_last (Some []) (Some items) left text = h.holds (Some []) [] start in
    let out : HoldsBy false (Some []) (Some items) [] text =
    subst (λ t. HoldsBy false (Some []) (Some items) t text) all
    (subst (λ b. HoldsBy b (Some []) (Some items) left text) fine end) in
    out.1 ∙ sym (out.2 ∙ append-nil out.0)
