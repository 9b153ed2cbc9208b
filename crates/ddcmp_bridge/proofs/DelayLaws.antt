-- What is held when frames are put to it and taken from it.
use Rattle.std.proofs.Common.{◌≡◌, ◌∙◌, ℕ, ◌≤◌, List, [], ◌∷◌, ◌++◌, length, refl}
use Rattle.std.proofs.Common.{append_assoc, ap, sym, subst, take, drop, arith, Bool, true, false}
use Rattle.std.specs.Prelude.{if◌then◌else◌, nat_lt}
use Rattle.std.proofs.Common.{zero, suc}
use Rattle.ddcmp_frame.proofs.Tests.{ltb-not}
use Rattle.std.proofs.lemmas.List.{append-nil, take-append-drop, take-append-le}
use Rattle.std.proofs.Math.Seq.{take-append_seam, take-length}
use Rattle.rand_pcg.specs.Lcg.{Lcg}
use Rattle.ddcmp_bridge.specs.Delaying.{Frames, bytes_of, after_taking, first_length}
use Rattle.ddcmp_bridge.specs.Relaying.{RelayView, Relays}

pub bytes-append : (xs ys : Frames) → bytes_of (xs ++ ys) ≡ bytes_of xs ++ bytes_of ys
unfolding bytes_of
bytes-append [] ys = refl
bytes-append (x ∷ xs) ys =
    ap (λ t. x.1 ++ t) (bytes-append xs ys) ∙ sym (append_assoc x.1 (bytes_of xs) (bytes_of ys))

pub nothing-held : (held : Frames) → held ≡ [] → bytes_of held ≡ []
unfolding bytes_of
nothing-held held e = ap bytes_of e

pub one-frame : (due : ℕ) (frame : List ℕ) → bytes_of ((due, frame) ∷ []) ≡ frame
unfolding bytes_of
one-frame due frame = append-nil frame

-- a frame more is held, whose bytes the relay gave
pub directs-held : (start : Lcg) (r : RelayView) (came taken waits : List ℕ) (old new : Frames)
    (due n : ℕ) → n ≡ length waits → new ≡ old ++ (due, waits) ∷ []
    → Relays start r came ((taken ++ bytes_of old) ++ take n waits)
    → Relays start r came (taken ++ bytes_of new)
directs-held start r came taken waits old new due n e h =
    let whole : take n waits ≡ waits = ap (λ m. take m waits) e ∙ take-length waits in
    let all : (taken ++ bytes_of old) ++ take n waits ≡ taken ++ bytes_of new =
    ap (λ t. (taken ++ bytes_of old) ++ t) whole ∙ append_assoc taken (bytes_of old) waits
    ∙ ap (λ t. taken ++ (bytes_of old ++ t)) (sym (one-frame due waits))
    ∙ ap (λ t. taken ++ t) (sym (bytes-append old ((due, waits) ∷ [])))
    ∙ ap (λ t. taken ++ bytes_of t) (sym h) in
    subst (Relays start r came) all

-- some bytes of the first were taken
taking : (n : ℕ) (held : Frames) → n ≤ first_length held
    → bytes_of held ≡ take n (bytes_of held) ++ bytes_of (after_taking n held)
unfolding bytes_of
taking zero [] h = refl
taking (suc n) [] h = absurd (omega (arith, h))
taking n (frame ∷ rest) h = by (nat_lt n (length frame.1)) refl where
  by : (b : Bool) → nat_lt n (length frame.1) ≡ b
      → frame.1 ++ bytes_of rest ≡ take n (frame.1 ++ bytes_of rest)
      ++ bytes_of (if b then (frame.0, drop n frame.1) ∷ rest else rest)
  by true e =
      sym (ap (λ t. t ++ (drop n frame.1 ++ bytes_of rest))
      (take-append-le n frame.1 (bytes_of rest) h)
      ∙ sym (append_assoc (take n frame.1) (drop n frame.1) (bytes_of rest))
      ∙ ap (λ t. t ++ bytes_of rest) (take-append-drop n frame.1))
  by false e =
      let all : n ≡ length frame.1 = omega (arith, h, ltb-not n (length frame.1) e) in
      sym (ap (λ m. take m (frame.1 ++ bytes_of rest) ++ bytes_of rest) all
      ∙ ap (λ t. t ++ bytes_of rest) (take-append_seam frame.1 (bytes_of rest)))

pub directs-took : (start : Lcg) (r : RelayView) (came taken : List ℕ) (held : Frames) (n : ℕ)
    → n ≤ first_length held → Relays start r came (taken ++ bytes_of held)
    → Relays start r came ((taken ++ take n (bytes_of held)) ++ bytes_of (after_taking n held))
directs-took start r came taken held n h =
    subst (Relays start r came)
    (ap (λ t. taken ++ t) (taking n held h)
    ∙ sym (append_assoc taken (take n (bytes_of held)) (bytes_of (after_taking n held))))
