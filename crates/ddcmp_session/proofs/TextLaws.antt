-- Texts that are appended to a queue, piece by piece, and how long they are.
use Rattle.std.proofs.Common.{◌≡◌, ◌∙◌, ap, sym, subst, refl, List, [], ℕ, ◌++◌}
use Rattle.std.proofs.Common.{append-nil, append_assoc, ◌+◌, ◌-◌, ◌*◌, ◌≤◌}
use Rattle.std.proofs.Common.{length, arith, codes, length-append}
use Rattle.hex.specs.Hex.{encode_lower, lower_digits}
use Rattle.hex.proofs.HexLemmas.{length-encode_with}
use Rattle.ddcmp_streams.specs.declared.messages.MessageForm.{MessageForm}
use Rattle.ddcmp_streams.specs.declared.messages.MessageForm.TheVariants.{Digits, Binary, Events}
use Rattle.ddcmp_streams.specs.declared.messages.MessageForm.TheVariants.{EventLines}
use Rattle.ddcmp_io.specs.Queue.{QueueView, after_pushed}
use Rattle.ddcmp_session.specs.Text.{Puts, Wrote, mail_text}
use Rattle.ddcmp_session.specs.declared.text.TheConstants.{LINE_ROOM}

pub puts-as : (s t : List ℕ) (a b : QueueView) → s ≡ t → Puts s a b → Puts t a b
puts-as s t a b e p = subst (λ u. Puts u a b) e p

pushed_none : (q : QueueView) → q ≡ after_pushed [] q
pushed_none q = λ i. record q {
  waiting = sym (append-nil q.waiting) i;
  room = rest i;
}
  where
    rest : q.room ≡ q.room - 0
    rest = omega arith

pub puts-nothing : (a : QueueView) → Puts [] a a
puts-nothing a fits = pushed_none a

pushed_more : (s t : List ℕ) (q : QueueView)
    → after_pushed t (after_pushed s q) ≡ after_pushed (s ++ t) q
pushed_more s t q = λ i. record q {
  waiting = append_assoc q.waiting s t i;
  room = rest i;
}
  where
    rest : q.room - length s - length t ≡ q.room - length (s ++ t)
    rest = omega (arith, length-append s t)

pub puts-then : (s t : List ℕ) (a b c : QueueView) → Puts s a b → Puts t b c → Puts (s ++ t) a c
puts-then s t a b c first second fits =
    let e = first (omega (arith, length-append s t, fits)) in
    second (subst (λ q. length t ≤ q.room) (sym e) (omega (arith, length-append s t, fits)))
    ∙ ap (after_pushed t) e
    ∙ pushed_more s t a

-- what had room was written
pub writes : (text : List ℕ) (a b : QueueView) → length text ≤ a.room → Puts text a b
    → Wrote text a b
writes text a b fits puts =
    let e = puts fits in record {
      waiting = ap (λ (q : QueueView). q.waiting) e;
      room =
          omega (arith, ap (λ (q : QueueView). q.room) e, fits);
      size = ap (λ (q : QueueView). q.size) e;
      is_cut = ap (λ (q : QueueView). q.is_cut) e;
    }

pub nothing : (q : QueueView) → Wrote [] q q
nothing q = record {
  waiting = sym (append-nil q.waiting);
  room = omega arith;
  size = refl;
  is_cut = refl;
}

pub hex-short : (bytes : List ℕ) → length (encode_lower bytes) ≡ 2 * length bytes
hex-short bytes = length-encode_with lower_digits bytes

-- a message in digits, or in binary
pub mail-short : (form : MessageForm) (message : List ℕ)
    → length (mail_text form message) ≤ 2 * length message + LINE_ROOM
mail-short Digits message =
    omega (
      arith,
      hex-short message,
      length-append (encode_lower message) (codes "\n"),
    )
mail-short Binary message = omega arith
mail-short Events message = omega arith
mail-short EventLines message =
    omega (
      arith,
      hex-short message,
      length-append (encode_lower message) (codes "\n"),
    )
