-- The place that a pair keeps, as more is sent and more arrives.
use Rattle.std.proofs.Common.{◌≡◌, ℕ, ◌+◌, ◌<◌, ◌≤◌, true, false, List, [], ◌∷◌, ◌++◌, length, take}
use Rattle.std.proofs.Common.{get_or, refl, sym, ◌∙◌, ap, subst, arith, add-one, append-nil}
use Rattle.std.proofs.Common.{length-append, Option, Some, None}
use Rattle.std.specs.Prelude.{is_some, IfSome, Result, Ok, Err, IsOk, OnErr}
use Rattle.std.proofs.Math.Seq.{take-suc}
use Rattle.ddcmp_frame.specs.declared.item.Item.{Item}
use Rattle.ddcmp_frame.specs.declared.item.Item.TheVariants as item
use Rattle.ddcmp_frame.specs.Reader.{items_given}
use Rattle.ddcmp_frame.specs.Reading.{ReadItem, items, good_frames, good_frames_in}
use Rattle.ddcmp_frame.proofs.ReadingLaws.{items-nothing}
use Rattle.ddcmp_frame.proofs.Tests.{some-inj}
use Rattle.ddcmp_pair.specs.declared.event.Event.{Event}
use Rattle.ddcmp_pair.specs.declared.event.Event.TheVariants as event
use Rattle.ddcmp_pair.specs.Run.{EndState, after_event_here}
use Rattle.ddcmp_pair.specs.Place.{WholeFrame, place_of, place_from, place_next}
use Rattle.ddcmp_pair.proofs.Places.{place_from-last, place-stays, good_frames_in-append}
use Rattle.ddcmp_pair.specs.Inside.Sides.{SideView, IsPlaced}

-- ---- following what arrives

-- The place was followed: lost where it was lost at first, and else the place of these frames.
pub record IsFollowed (first now : Option ℕ) (fs sent : List WholeFrame) : Type 0 where
  pub lost : is_some first ≡ false → now ≡ None
  pub found : is_some first ≡ true → now ≡ place_of fs sent

given-frames : (given : Option Item) (lent : List ℕ) (fs : List WholeFrame) (sent : List WholeFrame)
    → place_of (fs ++ good_frames_in (items_given given lent)) sent
    ≡ place_next given lent sent (place_of fs sent)
unfolding good_frames_in
given-frames None lent fs sent = ap (λ t. place_of t sent) (append-nil fs)
given-frames (Some (item.Good o h)) lent fs sent = place_from-last (Some 0) fs sent (h, lent)
given-frames (Some (item.HeaderCheck o)) lent fs sent = ap (λ t. place_of t sent) (append-nil fs)
given-frames (Some (item.DataCheck o h)) lent fs sent = ap (λ t. place_of t sent) (append-nil fs)
given-frames (Some (item.TooLong o h)) lent fs sent = ap (λ t. place_of t sent) (append-nil fs)
given-frames (Some (item.Format o f)) lent fs sent = ap (λ t. place_of t sent) (append-nil fs)

lost-next : (given : Option Item) (lent : List ℕ) (sent : List WholeFrame)
    → place_next given lent sent None ≡ None
lost-next None lent sent = refl
lost-next (Some (item.Good o h)) lent sent = refl
lost-next (Some (item.HeaderCheck o)) lent sent = refl
lost-next (Some (item.DataCheck o h)) lent sent = refl
lost-next (Some (item.TooLong o h)) lent sent = refl
lost-next (Some (item.Format o f)) lent sent = refl

-- one more byte, which gave an item or none
pub followed-next : (first now next : Option ℕ) (before after : List ReadItem) (given : Option Item)
    (lent : List ℕ) (sent : List WholeFrame)
    → after ≡ before ++ items_given given lent → next ≡ place_next given lent sent now
    → IsFollowed first now (good_frames_in before) sent
    → IsFollowed first next (good_frames_in after) sent
followed-next first now next before after given lent sent e n i = record {
  lost = λ l. n ∙ ap (place_next given lent sent) (i.lost l) ∙ lost-next given lent sent;
  found =
      λ s. n ∙ ap (place_next given lent sent) (i.found s)
      ∙ sym (given-frames given lent (good_frames_in before) sent)
      ∙ ap (λ t. place_of t sent)
      (sym (good_frames_in-append before (items_given given lent)) ∙ ap good_frames_in (sym e));
}

pub one_more : (piece : List ℕ) (i : ℕ) → i < length piece
    → take (i + 1) piece ≡ take i piece ++ get_or piece i 0 ∷ []
one_more piece i h = ap (λ n. take n piece) (add-one i) ∙ take-suc piece i 0 h

pub within-option : (place : Option ℕ) (most : ℕ) → IfSome place (λ n. n ≤ most) → (n : ℕ)
    → place ≡ Some n → n ≤ most
within-option place most h n e = subst (λ p. IfSome p (λ n. n ≤ most)) e h

-- nothing arrived, nothing was sent
pub placed-nothing : (x : SideView) (sent : List WholeFrame) → x.place ≡ Some 0
    → x.state.arrived ≡ [] → sent ≡ [] → IsPlaced x sent
unfolding place_from good_frames_in
placed-nothing x sent p a s = λ n e.
    let none : good_frames x.state.core.limits.longest x.state.arrived ≡ [] =
    ap good_frames_in
    (ap (items x.state.core.limits.longest) a ∙ items-nothing x.state.core.limits.longest) in (
      ap (λ t. place_of t sent) none ∙ sym p
          ∙ e,
      (let zero : 0 ≡ n = some-inj (sym p ∙ e) in omega (arith, zero)),
    )

-- the frames that an end has sent stay sent
sent-grows : (e : Event) (x : EndState)
    → (more : List WholeFrame) × ((after_event_here e x).sent ≡ x.sent ++ more)
sent-grows (event.Start e) x = ([], sym (append-nil x.sent))
sent-grows (event.Halt e) x = ([], sym (append-nil x.sent))
sent-grows (event.Send e message) x = ([], sym (append-nil x.sent))
sent-grows (event.Poll e) x = (_, refl)
sent-grows (event.Arrive e bytes) x = ([], sym (append-nil x.sent))
sent-grows (event.Expire e) x = ([], sym (append-nil x.sent))
sent-grows (event.Take e) x = ([], sym (append-nil x.sent))
sent-grows event.Clear x = ([], sym (append-nil x.sent))

placed-more : (x : SideView) (sent more all : List WholeFrame) → all ≡ sent ++ more
    → IsPlaced x sent → IsPlaced x all
placed-more x sent more all e p = λ n q. (
  ap (λ t. place_of (good_frames x.state.core.limits.longest x.state.arrived) t) e
      ∙ place-stays (good_frames x.state.core.limits.longest x.state.arrived) sent more (Some 0) n
      (p n q).0,
  (let longer = ap length e in let old = (p n q).1 in
      omega (arith, longer, old, length-append sent more)),
)

-- what one end does leaves the place at the other
pub placed-after : {A E : Type 0} (answer : Result A E) (e : Event) (x : SideView) (y z : SideView)
    → (IsOk answer → z.state ≡ after_event_here e y.state)
    → OnErr answer (z ≡ y) → IsPlaced x y.state.sent → IsPlaced x z.state.sent
placed-after (Ok a) e x y z done same p =
    (let grows = sent-grows e y.state in
    placed-more x y.state.sent grows.0 z.state.sent (ap (λ s. s.sent) (done refl) ∙ grows.1) p)
placed-after (Err f) e x y z done same p = subst (λ s. IsPlaced x s.state.sent) (sym same) p
