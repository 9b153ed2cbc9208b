-- What is passed on of what came.
use Rattle.std.proofs.Common.{◌≡◌, ◌∙◌, ℕ, List, [], ◌∷◌, ◌++◌, length, refl}
use Rattle.std.proofs.Common.{append_assoc, ap, sym}
use Rattle.std.proofs.lemmas.List.{append-nil}
use Rattle.ddcmp_frame.specs.Limits.{MAX_COUNT}
use Rattle.ddcmp_frame.specs.declared.header.Header.{Header}
use Rattle.ddcmp_frame.specs.Reading.{ending, good_frames, good_frames_in, read, with_more}
use Rattle.ddcmp_frame.specs.Wire.{wire}
use Rattle.ddcmp_frame.proofs.ReadingLaws.{good-more}
use Rattle.rand_pcg.specs.Lcg.{Lcg}
use Rattle.ddcmp_bridge.specs.declared.faults.Faults.{Faults}
use Rattle.ddcmp_bridge.specs.Faults.{after_fate, draws_after, fate_drawn, fates, left_of}
use Rattle.ddcmp_bridge.specs.Faults.{next_draws}
use Rattle.ddcmp_bridge.specs.Relaying.{passed_on, relayed}
use Rattle.ddcmp_bridge.proofs.DelayLaws.{nothing-held}
use Rattle.ddcmp_bridge.proofs.RelayLaws.{relays-faultless}
use Rattle.ddcmp_bridge.specs.Delaying.{DirectionView, Directs, bytes_of}

-- frames that come later add to what is left of those before
left-later : (f : Faults) (g : Lcg) (xs ys : List (Header × List ℕ))
    → left_of (xs ++ ys) (fates f g (xs ++ ys))
    ≡ left_of xs (fates f g xs) ++ left_of ys (fates f (draws_after g xs) ys)
unfolding fates left_of draws_after
left-later f g [] ys = refl
left-later f g (x ∷ xs) ys =
    let first = after_fate (fate_drawn f g (length (wire x.0 x.1))) (wire x.0 x.1) in
    ap (λ t. first ++ t) (left-later f (next_draws g) xs ys)
    ∙ sym (append_assoc first (left_of xs (fates f (next_draws g) xs))
    (left_of ys (fates f (draws_after (next_draws g) xs) ys)))

-- What was taken is a front of what is passed on of all that came, also later.
pub directs-begins : (start : Lcg) (d : DirectionView) (used later taken : List ℕ)
    → Directs start d used taken
    → (more : List ℕ) × (passed_on d.relay.faults start (used ++ later) ≡ taken ++ more)
directs-begins start d used later taken h =
    let faults = d.relay.faults in
    let held = bytes_of d.held in
    let waits = d.relay.waiting in
    let frames =
    good_frames_in (read MAX_COUNT (with_more (ending MAX_COUNT used) later)).items in
    let first = good_frames MAX_COUNT used in
    let rest = left_of frames (fates faults (draws_after start first) frames) in (
      held ++ (waits ++ rest),
      ap (λ g. left_of g (fates faults start g)) (good-more MAX_COUNT used later)
          ∙ left-later faults start first frames
          ∙ ap (λ t. t ++ rest) h.passes
          ∙ append_assoc (taken ++ held) waits rest
          ∙ append_assoc taken held (waits ++ rest),
    )

-- Once nothing is held, all was taken.
pub directs-all : (start : Lcg) (d : DirectionView) (came taken : List ℕ)
    → Directs start d came taken → d.held ≡ [] → d.relay.waiting ≡ []
    → taken ≡ passed_on d.relay.faults start came
directs-all start d came taken h none idle =
    sym (h.passes ∙ ap (λ w. (taken ++ bytes_of d.held) ++ w) idle
    ∙ append-nil (taken ++ bytes_of d.held)
    ∙ ap (λ w. taken ++ w) (nothing-held d.held none) ∙ append-nil taken)

pub directs-faultless : (start : Lcg) (d : DirectionView) (came taken : List ℕ)
    → Directs start d came taken → d.held ≡ [] → d.relay.waiting ≡ []
    → d.relay.faults.lose ≡ 0 → d.relay.faults.damage ≡ 0 → taken ≡ relayed came
directs-faultless start d came taken h none idle l g =
    sym (relays-faultless start d.relay came (taken ++ bytes_of d.held) h l g
    ∙ ap (λ w. (taken ++ bytes_of d.held) ++ w) idle
    ∙ append-nil (taken ++ bytes_of d.held)
    ∙ ap (λ w. taken ++ w) (nothing-held d.held none) ∙ append-nil taken)
