-- Bytes arrive: each item that they add comes to the end, one after another.
use Rattle.std.proofs.Common.{◌≡◌, ◌≢◌, ℕ, zero, suc, ◌+◌, ◌<◌, ◌≤◌, Bool, true, false, cond, List}
use Rattle.std.proofs.Common.{[], ◌∷◌, ◌++◌, map, length, drop, refl, sym, ap, ◌∙◌, subst, arith}
use Rattle.std.proofs.Common.{add-one, length-drop, Option, Some, None}
use Rattle.std.specs.Prelude.{option_map, option_to_list}
use Rattle.std.specs.List.{All}
use Rattle.std.proofs.lemmas.List.Elements.{All-append}
use Rattle.std.proofs.lemmas.List.{map-append, drop-drop}
use Rattle.std.proofs.lemmas.List.Sums.{sum_by-append}
use Rattle.ddcmp_frame.specs.declared.item.Item.TheVariants as item
use Rattle.ddcmp_frame.specs.Reading.{ReadItem, good_frames_in}
use Rattle.ddcmp_core.specs.declared.notice.Notice.{Notice}
use Rattle.ddcmp_core.specs.declared.state.State.TheVariants.{Running}
use Rattle.ddcmp_core.specs.Core.{CoreView}
use Rattle.ddcmp_core.specs.Frames.{frame_of}
use Rattle.ddcmp_core.specs.Table.{Limits, StationState, Frame, Strt, Received, Good, notice_of}
use Rattle.ddcmp_core.specs.Table.{acknowledged_by}
use Rattle.ddcmp_core.specs.Laws.{tells_restart, is_fault}
use Rattle.ddcmp_core.proofs.RestartLaws.{restart-told}
use Rattle.ddcmp_proto.specs.Bytes.{received_of, after_item, after_items, notices_of_item}
use Rattle.ddcmp_proto.specs.Bytes.{notices_of_items}
use Rattle.ddcmp_pair.specs.Place.{WholeFrame, same_frame, first_index, place_after, place_from}
use Rattle.ddcmp_pair.specs.Run.{acknowledged_in}
use Rattle.ddcmp_pair.proofs.FrameLists.{same-equal}
use Rattle.ddcmp_pair.proofs.Places.{place_from-none}
use Rattle.ddcmp_pair.proofs.Relation.{Face, Fits}
use Rattle.ddcmp_pair.proofs.Receptions.{is_strt, hearing, fits_frame, fits_fault}
use Rattle.ddcmp_pair.proofs.Startups.{Starting, starting-comes, starting-hears, starting-fault}
use Rattle.ddcmp_pair.proofs.Startups.{no-strt-comes}

-- ---- frames in flight

abbrev pub seen : WholeFrame → Frame
seen f = frame_of f.0 f.1

-- the frames that an end sent, from a place on
abbrev pub on_the_way : ℕ → List WholeFrame → List Frame
on_the_way place sent = map seen (drop place sent)

pub record Splits (f : WholeFrame) (sent : List WholeFrame) (place next : ℕ) : Type 0 where
  pub lost : List WholeFrame
  pub split : drop place sent ≡ lost ++ f ∷ drop next sent
  pub within : next ≤ length sent

record SplitsFirst (f : WholeFrame) (sent : List WholeFrame) (i : ℕ) : Type 0 where
  lost : List WholeFrame
  split : sent ≡ lost ++ f ∷ drop (i + 1) sent
  within : i < length sent

splits-first : (f : WholeFrame) (sent : List WholeFrame) (i : ℕ) → first_index f sent ≡ Some i
    → SplitsFirst f sent i
unfolding first_index
splits-first f [] i e = absurd (cc)
splits-first f (g ∷ sent) i e =
    by (λ j q. splits-first f sent j q) (same_frame f g) refl (first_index f sent) refl e
  where
    by : ((j : ℕ) → first_index f sent ≡ Some j → SplitsFirst f sent j) → (b : Bool)
        → same_frame f g ≡ b
        → (r : Option ℕ) → first_index f sent ≡ r
        → cond b (Some 0) (option_map (λ j. j + 1) r) ≡ Some i → SplitsFirst f (g ∷ sent) i
    by more true t r q p =
        let z : 0 ≡ i = cc in
        let same = same-equal f g t in
        record {
          lost = [];
          split = ap (λ h. h ∷ sent) (sym same) ∙ ap (λ j. f ∷ drop (j + 1) (g ∷ sent)) z;
          within = omega (arith, z);
        }
    by more false t None q p = absurd (cc)
    by more false t (Some j) q p =
        let z : j + 1 ≡ i = cc in
        let s = more j q in
        record {
          lost = g ∷ s.lost;
          split =
              ap (λ l. g ∷ l) s.split
              ∙ ap (λ l. g ∷ (s.lost ++ f ∷ l))
              (ap (λ k. drop k (g ∷ sent)) (sym (add-one (j + 1)) ∙ ap (λ k. k + 1) z));
          within = (let w = s.within in omega (arith, w, z));
        }

pub splits : (f : WholeFrame) (sent : List WholeFrame) (place next : ℕ) → place ≤ length sent
    → place_after f sent place ≡ Some next → Splits f sent place next
splits f sent place next within e = by (first_index f (drop place sent)) refl e
  where
    by : (r : Option ℕ) → first_index f (drop place sent) ≡ r
        → option_map (λ i. place + i + 1) r ≡ Some next → Splits f sent place next
    by None q p = absurd (cc)
    by (Some i) q p =
        let z : place + i + 1 ≡ next = cc in
        let s = splits-first f (drop place sent) i q in
        let l = length-drop place sent in
        record {
          lost = s.lost;
          split =
              s.split
              ∙ ap (λ t. s.lost ++ f ∷ t)
              (drop-drop (i + 1) place sent ∙ ap (λ k. drop k sent) (omega (arith, z)));
          within = (let w = s.within in omega (arith, w, z, l, within));
        }

-- ---- both ends

-- Bytes come to x from y: the frames fs are in flight from x to y, and fs' from y to x.
pub record Related (x y : Face) (fs fs' : List Frame) : Type 0 where
  pub fits : Fits x y fs fs'
  pub there : Starting x y fs
  pub here : Starting y x fs'

-- something comes to x
comes-frame : (x y : Face) (fs lost : List Frame) (f : Frame) (rest : List Frame)
    → Related x y fs (lost ++ f ∷ rest) → Related (hearing x (Good f)) y fs rest
comes-frame x y fs lost f rest r = record {
  fits = fits_frame x y fs lost f rest (no-strt-comes y x lost f rest r.here) r.fits;
  there = starting-hears x y fs (Good f) r.there;
  here = starting-comes y x lost f rest r.here;
}

comes-fault : (x y : Face) (fs fs' : List Frame) (h : Received) → is_fault h ≡ true
    → Related x y fs fs' → Related (hearing x h) y fs fs'
comes-fault x y fs fs' h e r = record {
  fits = fits_fault x y fs fs' h e r.fits;
  there = starting-hears x y fs h r.there;
  here = starting-fault y x fs' h e r.here;
}

-- ---- no restart is reported

abbrev pub NoRestart : List Notice → Type 0
NoRestart notices = All (λ n. tells_restart n ≡ false) notices

all-one : (n : Notice) → tells_restart n ≡ false → NoRestart (n ∷ [])
all-one n e zero d h = e
all-one n e (suc i) d h = absurd (omega arith)

no-notice : (l : Limits) (s : StationState) (h : Received) → (s.state ≡ Running → h ≢ Good Strt)
    → NoRestart (option_to_list (notice_of l s h))
no-notice l s h n = by (notice_of l s h) refl
  where
    by : (o : Option Notice) → notice_of l s h ≡ o → NoRestart (option_to_list o)
    by None e = λ i d h. absurd (omega arith)
    by (Some told) e = all-one told (at (tells_restart told) refl)
      where
        at : (b : Bool) → tells_restart told ≡ b → b ≡ false
        at false t = refl
        at true t = let z = restart-told l s h told e t in absurd (n z.0 z.1)

frame-no-strt : (f : Frame) → is_strt f ≡ false → Good f ≢ Good Strt
frame-no-strt f n e = let z : f ≡ Strt = cc in let s = ap is_strt z in cc

fault-no-strt : (h : Received) → is_fault h ≡ true → h ≢ Good Strt
fault-no-strt h f e = let z = ap is_fault e in cc

-- ---- all items

-- an end whose station came to k, and told so many messages acknowledged
abbrev pub faced : CoreView → Face → ℕ → Face
faced k x told = record x { limits = k.limits; station = k.station; acknowledged = told }

told-one : (o : Option Notice) → acknowledged_in (option_to_list o) ≡ acknowledged_by o
told-one None = refl
told-one (Some n) = omega arith

-- What holds after these items came to an end, where their good frames lead from one place to the
-- next.
pub record Came (given : List ReadItem) (k : CoreView) (x : Face) (told : ℕ) (y : Face)
    (fs : List Frame) (sent : List WholeFrame) (next : ℕ) : Type 0 where
  pub related : Related
      (faced (after_items given k) x (told + acknowledged_in (notices_of_items given k))) y fs
      (on_the_way next sent)
  pub quiet : NoRestart (notices_of_items given k)
  pub within : next ≤ length sent

came-none : (k : CoreView) (x : Face) (told : ℕ) (y : Face) (fs : List Frame)
    (sent : List WholeFrame) (next : ℕ) → next ≤ length sent
    → Related (faced k x told) y fs (on_the_way next sent) → Came [] k x told y fs sent next
unfolding after_items notices_of_items
came-none k x told y fs sent next within r = record {
  related =
      subst (λ n. Related (faced k x n) y fs (on_the_way next sent))
      (let e : told ≡ told + 0 = omega arith in e) r;
  quiet = λ i d h. absurd (omega arith);
  within = within;
}

came-more : (g : ReadItem) (rest : List ReadItem) (k : CoreView) (x : Face) (told : ℕ) (y : Face)
    (fs : List Frame) (sent : List WholeFrame) (next : ℕ)
    → NoRestart (notices_of_item g k)
    → Came rest (after_item g k) x
    (told + acknowledged_by (notice_of k.limits k.station (received_of g))) y fs sent next
    → Came (g ∷ rest) k x told y fs sent next
unfolding after_items notices_of_items
came-more g rest k x told y fs sent next quiet c =
    let sum =
    sum_by-append (λ n. acknowledged_by (Some n)) (notices_of_item g k)
    (notices_of_items rest (after_item g k)) in
    let one = told-one (notice_of k.limits k.station (received_of g)) in
    record {
      related =
          subst
          (λ n. Related (faced (after_items rest (after_item g k)) x n) y fs (on_the_way next sent))
          (let e : told + acknowledged_by (notice_of k.limits k.station (received_of g))
          + acknowledged_in (notices_of_items rest (after_item g k))
          ≡ told + acknowledged_in (notices_of_items (g ∷ rest) k) = omega (arith, sum, one) in e)
          c.related;
      quiet =
          All-append (λ n. tells_restart n ≡ false) (notices_of_item g k)
          (notices_of_items rest (after_item g k)) quiet c.quiet;
      within = c.within;
    }

fault-comes : (g : ReadItem) → is_fault (received_of g) ≡ true
    → (rest : List ReadItem) (k : CoreView) (x : Face) (told : ℕ) (y : Face) (fs : List Frame)
    (sent : List WholeFrame) (place next : ℕ)
    → (Related (hearing (faced k x told) (received_of g)) y fs (on_the_way place sent)
    → Came rest (after_item g k) x
    (told + acknowledged_by (notice_of k.limits k.station (received_of g))) y fs sent next)
    → Related (faced k x told) y fs (on_the_way place sent)
    → Came (g ∷ rest) k x told y fs sent next
fault-comes g fault rest k x told y fs sent place next more r =
    came-more g rest k x told y fs sent next
    (no-notice k.limits k.station (received_of g) (λ run. fault-no-strt (received_of g) fault))
    (more (comes-fault (faced k x told) y fs (on_the_way place sent) (received_of g) fault r))

pub items-come : (given : List ReadItem) (k : CoreView) (x : Face) (told : ℕ) (y : Face)
    (fs : List Frame) (sent : List WholeFrame) (place next : ℕ)
    → place ≤ length sent → place_from (Some place) (good_frames_in given) sent ≡ Some next
    → Related (faced k x told) y fs (on_the_way place sent) → Came given k x told y fs sent next
unfolding good_frames_in place_from
items-come [] k x told y fs sent place next within e r =
    let z : place ≡ next = cc in
    came-none k x told y fs sent next (omega (arith, z, within))
    (subst (λ n. Related (faced k x told) y fs (on_the_way n sent)) z r)
items-come ((item.Good o h, lent) ∷ rest) k x told y fs sent place next within e r =
    by
    (λ p. items-come rest (after_item (item.Good o h, lent) k) x
    (told + acknowledged_by (notice_of k.limits k.station (Good (frame_of h lent))))
    y fs sent p next)
    (place_after (h, lent) sent place) refl e
  where
    by : ((p : ℕ) → p ≤ length sent → place_from (Some p) (good_frames_in rest) sent ≡ Some next
        → Related (hearing (faced k x told) (Good (frame_of h lent))) y fs (on_the_way p sent)
        → Came rest (after_item (item.Good o h, lent) k) x
        (told + acknowledged_by (notice_of k.limits k.station (Good (frame_of h lent))))
        y fs sent next)
        → (p : Option ℕ) → place_after (h, lent) sent place ≡ p
        → place_from p (good_frames_in rest) sent ≡ Some next
        → Came ((item.Good o h, lent) ∷ rest) k x told y fs sent next
    by more None q p = absurd (let z = sym (place_from-none (good_frames_in rest) sent) ∙ p in cc)
    by more (Some m) q p =
        let s = splits (h, lent) sent place m within q in
        let way : on_the_way place sent ≡ map seen s.lost ++ frame_of h lent ∷ on_the_way m sent =
        ap (map seen) s.split ∙ map-append seen s.lost ((h, lent) ∷ drop m sent) in
        let r' = subst (λ l. Related (faced k x told) y fs l) way r in
        came-more (item.Good o h, lent) rest k x told y fs sent next
        (no-notice k.limits k.station (Good (frame_of h lent))
        (λ run. frame-no-strt (frame_of h lent)
        (no-strt-comes y (faced k x told) (map seen s.lost) (frame_of h lent)
        (on_the_way m sent) r'.here run)))
        (more m s.within p
        (comes-frame (faced k x told) y fs (map seen s.lost) (frame_of h lent)
        (on_the_way m sent) r'))
items-come ((item.HeaderCheck o, lent) ∷ rest) k x told y fs sent place next within e r =
    fault-comes (item.HeaderCheck o, lent) refl rest k x told y fs sent place next
    (items-come rest (after_item (item.HeaderCheck o, lent) k) x _ y fs sent place next within e) r
items-come ((item.DataCheck o h, lent) ∷ rest) k x told y fs sent place next within e r =
    fault-comes (item.DataCheck o h, lent) refl rest k x told y fs sent place next
    (items-come rest (after_item (item.DataCheck o h, lent) k) x _ y fs sent place next within e) r
items-come ((item.TooLong o h, lent) ∷ rest) k x told y fs sent place next within e r =
    fault-comes (item.TooLong o h, lent) refl rest k x told y fs sent place next
    (items-come rest (after_item (item.TooLong o h, lent) k) x _ y fs sent place next within e) r
items-come ((item.Format o f, lent) ∷ rest) k x told y fs sent place next within e r =
    fault-comes (item.Format o f, lent) refl rest k x told y fs sent place next
    (items-come rest (after_item (item.Format o f, lent) k) x _ y fs sent place next within e) r
