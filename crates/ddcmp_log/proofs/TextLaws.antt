-- A text that is written to an empty page, which is then flushed to memory.
use Rattle.std.proofs.Common.{◌≡◌, ℕ, Bool, false, List, [], ◌++◌, sym, ◌∙◌, ap, subst, refl, Some}
use Rattle.std.proofs.KnownBytes.{Appends-nil}
use Rattle.std.proofs.lemmas.List.{append-nil}
use Rattle.ddcmp_io.specs.Written.{Output, HandsOver, Holds}

plainly : (was now text : List ℕ) (mid : Output)
    → HandsOver (record { broken = false; sink = Some was; waiting = [] }) mid text
    → HandsOver mid (record { broken = false; sink = Some now; waiting = [] }) []
    → now ≡ was ++ text
plainly was now text mid sent out =
    let begun : Holds (Some was) [] (record { broken = false; sink = Some was; waiting = [] }) =
    ([], Appends-nil (Some was), refl) in
    let held = out.holds (Some was) ([] ++ text) (sent.holds (Some was) [] begun) in
    held.1 ∙ ap (λ t. was ++ t) (sym (append-nil held.0) ∙ sym held.2 ∙ append-nil text)

pub flushed : (b e : Bool) (w v was now text : List ℕ) (mid : Output) → b ≡ false → w ≡ []
    → e ≡ false → v ≡ []
    → HandsOver (record { broken = b; sink = Some was; waiting = w }) mid text
    → HandsOver mid (record { broken = e; sink = Some now; waiting = v }) []
    → now ≡ was ++ text
flushed b e w v was now text mid eb ew ee ev sent out =
    plainly was now text mid
    (subst (λ x. HandsOver (record { broken = false; sink = Some was; waiting = x }) mid text) ew
    (subst (λ x. HandsOver (record { broken = x; sink = Some was; waiting = w }) mid text)
    eb sent))
    (subst (λ x. HandsOver mid (record { broken = false; sink = Some now; waiting = x }) []) ev
    (subst (λ x. HandsOver mid (record { broken = x; sink = Some now; waiting = v }) [])
    ee out))
