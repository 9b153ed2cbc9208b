-- What a page and its sink hold of a text, one step after another.
use Rattle.std.proofs.Common.{zero, suc, subst, ◌≡◌, ℕ, ◌+◌, Bool, true, false, List, [], ◌∷◌, ◌++◌}
use Rattle.std.proofs.Common.{length, take, refl, sym, ◌∙◌, ap, Option, Result, Ok, Err}
use Rattle.std.proofs.Common.{append_assoc}
use Rattle.std.specs.Prelude.{is_err}
use Rattle.std.specs.Io.KnownBytes.{Appends}
use Rattle.std.proofs.KnownBytes.{Appends-trans}
use Rattle.std.proofs.lemmas.List.{append-nil}
use Rattle.std.proofs.Math.Seq.{take-append-add}
use Rattle.ddcmp_io.specs.declared.device.WriteFailed.{WriteFailed}
use Rattle.ddcmp_io.specs.Written.{AppendsPart, Writes, Output, HoldsBy, HandsOver, Holds}

-- one text after another
pub sends-then : {a b c : Output} {s t : List ℕ} → HandsOver a b s → HandsOver b c t
    → HandsOver a c (s ++ t)
sends-then {a} {b} {c} {s} {t} p q = record {
  holds = λ start before h.
      subst (λ x. Holds start x c) (append_assoc before s t)
      (q.holds start (before ++ s) (p.holds start before h));
}

-- a beginning of a text begins what the text begins
take_part : (n : ℕ) (x y : List ℕ) → (m : ℕ) × (take n x ≡ take m (x ++ y))
take_part zero [] y = (0, refl)
take_part (suc n) [] y = (0, refl)
take_part zero (a ∷ x) y = (0, refl)
take_part (suc n) (a ∷ x) y = let r = take_part n x y in (suc r.0, ap (λ t. a ∷ t) r.1)

pub part-append : (a b : Option (List ℕ)) (x y : List ℕ) → AppendsPart a b x
    → AppendsPart a b (x ++ y)
part-append a b x y p = let r = take_part p.0 x y in (r.0, subst (Appends a b) r.1 p.1)

append-part : (a b c : Option (List ℕ)) (x y : List ℕ) → Appends a b x → AppendsPart b c y
    → AppendsPart a c (x ++ y)
append-part a b c x y p q = (
  length x
      + q.0,
  subst (Appends a c) (sym (take-append-add x y q.0))
      (Appends-trans a b c x (take q.0 y) p q.1),
)

-- ---- the text waits

behind : (b : Bool) (start sink : Option (List ℕ)) (waiting before text : List ℕ)
    → HoldsBy b start sink waiting before → HoldsBy b start sink (waiting ++ text) (before ++ text)
behind false start sink waiting before text h =
    (h.0, h.1, ap (λ t. t ++ text) h.2 ∙ append_assoc h.0 waiting text)
behind true start sink waiting before text h = part-append start sink before text h

pub sends-behind : (b : Bool) (sink : Option (List ℕ)) (waiting text after : List ℕ)
    → after ≡ waiting ++ text
    → HandsOver (record { broken = b; sink = sink; waiting = waiting })
    (record { broken = b; sink = sink; waiting = after }) text
sends-behind b sink waiting text after e = record {
  holds =
      λ start before h. subst (λ w. HoldsBy b start sink w (before ++ text)) (sym e)
      (behind b start sink waiting before text h);
}

-- ---- what waits goes out, and a text with it

out : (start sink new : Option (List ℕ)) (waiting before text : List ℕ)
    (result : Result (Unit {0}) WriteFailed) → HoldsBy false start sink waiting before
    → Writes sink new result (waiting ++ text)
    → HoldsBy (is_err result) start new [] (before ++ text)
out start sink new waiting before text (Ok u) h w = (
  before ++ text,
  subst (Appends start new) (sym (append_assoc h.0 waiting text) ∙ ap (λ t. t ++ text) (sym h.2))
      (Appends-trans start sink new h.0 (waiting ++ text) h.1 w),
  sym (append-nil (before ++ text)),
)
out start sink new waiting before text (Err f) h w =
    subst (AppendsPart start new)
    (sym (append_assoc h.0 waiting text) ∙ ap (λ t. t ++ text) (sym h.2))
    (append-part start sink new h.0 (waiting ++ text) h.1 w)

pub sends-out : (b after : Bool) (sink new : Option (List ℕ)) (waiting left text : List ℕ)
    (result : Result (Unit {0}) WriteFailed) → b ≡ false → after ≡ is_err result → left ≡ []
    → Writes sink new result (waiting ++ text)
    → HandsOver (record { broken = b; sink = sink; waiting = waiting })
    (record { broken = after; sink = new; waiting = left }) text
sends-out b after sink new waiting left text result eb ea el w = record {
  holds = λ start before h.
      subst (λ x. HoldsBy x start new left (before ++ text)) (sym ea)
      (subst (λ l. HoldsBy (is_err result) start new l (before ++ text)) (sym el)
      (out start sink new waiting before text result
      (subst (λ x. HoldsBy x start sink waiting before) eb h) w));
}

-- ---- a write has failed

pub sends-lost : (b after : Bool) (sink new : Option (List ℕ)) (waiting left text : List ℕ)
    → b ≡ true → after ≡ true → new ≡ sink
    → HandsOver (record { broken = b; sink = sink; waiting = waiting })
    (record { broken = after; sink = new; waiting = left }) text
sends-lost b after sink new waiting left text eb ea es = record {
  holds = λ start before h.
      subst (λ x. HoldsBy x start new left (before ++ text)) (sym ea)
      (subst (λ k. AppendsPart start k (before ++ text)) (sym es)
      (part-append start sink before text (subst (λ x. HoldsBy x start sink waiting before) eb h)));
}

-- what is sent before a write fails is sent with a text that is lost
pub sends-longer : {a : Output} (b : Bool) (sink : Option (List ℕ)) (left text : List ℕ) → b ≡ true
    → HandsOver a (record { broken = b; sink = sink; waiting = left }) []
    → HandsOver a (record { broken = b; sink = sink; waiting = left }) text
sends-longer b sink left text e p = sends-then p (sends-lost b b sink sink left left text e e refl)
