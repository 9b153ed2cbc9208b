-- A text that was handed over to an empty page, and went out.
use Rattle.std.proofs.Common.{◌≡◌, ◌∙◌, Bool, false, List, [], ◌++◌, ℕ, refl, sym, subst}
use Rattle.std.proofs.Common.{Result, Ok, Err}
use Rattle.std.specs.Prelude.{is_err}
use Rattle.std.specs.Io.KnownBytes.{Appends}
use Rattle.std.proofs.KnownBytes.{Appends-nil}
use Rattle.std.proofs.lemmas.List.{append-nil}
use Rattle.ddcmp_io.specs.declared.device.WriteFailed.{WriteFailed}
use Rattle.ddcmp_io.specs.Written.{HandsOver, HoldsBy, Known, Writes}

held : (start sink : Known) (text : List ℕ) (result : Result (Unit {0}) WriteFailed)
    → HoldsBy (is_err result) start sink [] text → Writes start sink result text
held start sink text (Ok u) h = subst (Appends start sink) (sym (h.2 ∙ append-nil h.0)) h.1
held start sink text (Err f) h = h

pub went-out : (old new : Known) (b after : Bool) (page left text : List ℕ)
    (result : Result (Unit {0}) WriteFailed) → b ≡ false → page ≡ [] → left ≡ []
    → after ≡ is_err result
    → HandsOver (record { broken = b; sink = old; waiting = page })
    (record { broken = after; sink = new; waiting = left }) (text ++ [])
    → Writes old new result text
went-out old new b after page left text result eb ep el ea h =
    let nothing : HoldsBy false old old [] [] = ([], Appends-nil old, refl) in
    let before : HoldsBy b old old page [] =
    subst (λ x. HoldsBy x old old page []) (sym eb)
    (subst (λ w. HoldsBy false old old w []) (sym ep) nothing) in
    held old new text result
    (subst (λ x. HoldsBy x old new [] text) ea
    (subst (λ w. HoldsBy after old new w text) el
    (subst (HoldsBy after old new left) (append-nil text) (h.holds old [] before))))
