-- What is read of a clear line: the first frames that were written, and nothing else.
use Rattle.std.proofs.Common.{◌≡◌, ℕ, ◌+◌, ◌≤◌, Bool, true, false, cond, List, [], ◌∷◌, ◌++◌, map}
use Rattle.std.proofs.Common.{length, drop, refl, sym, ap, ◌∙◌, subst, arith, append_assoc}
use Rattle.std.proofs.Common.{append-nil, Some}
use Rattle.std.specs.Prelude.{replicate, is_some, option_map}
use Rattle.std.proofs.Math.Seq.{drop-append_seam}
use Rattle.std.proofs.lemmas.List.{drop-drop}
use Rattle.ddcmp_frame.specs.declared.item.Item.TheVariants as item
use Rattle.ddcmp_frame.specs.Wire.{wire}
use Rattle.ddcmp_frame.specs.Reading.{ReadItem, items, open_at_end, good_frames_in, good_frames}
use Rattle.ddcmp_frame.proofs.FrameLaws.{whole-items, whole-closed}
use Rattle.ddcmp_frame.proofs.ReadingLaws.{items-nothing, ending-nothing}
use Rattle.ddcmp_core.specs.Table.{Frame, Good, on}
use Rattle.ddcmp_core.specs.Frames.{frame_of}
use Rattle.ddcmp_core.specs.Core.{CoreView}
use Rattle.ddcmp_proto.specs.Bytes.{after_item, after_items, items_added}
use Rattle.ddcmp_proto.proofs.FeedLaws.{items_added-all}
use Rattle.ddcmp_pair.specs.Place.{WholeFrame, first_index, place_after, place_from, place_of}
use Rattle.ddcmp_pair.proofs.FrameLists.{same-refl}
use Rattle.ddcmp_pair.proofs.Places.{good_frames_in-append}
use Rattle.ddcmp_pair.proofs.Relation.{Face}
use Rattle.ddcmp_pair.proofs.Receptions.{hearing}
use Rattle.ddcmp_pair.proofs.Arrivals.{seen, on_the_way}
use Rattle.ddcmp_laws.specs.Faithful.{bytes_of}
use Rattle.ddcmp_laws.specs.Prefix.{Begins}
use Rattle.ddcmp_laws.proofs.FaithfulLaws.{AllWritable}

-- ---- what is read of a clear line

abbrev pub is_good : ReadItem → Bool
is_good (item.Good o h, lent) = true
is_good (item.HeaderCheck o, lent) = false
is_good (item.DataCheck o h, lent) = false
is_good (item.TooLong o h, lent) = false
is_good (item.Format o f, lent) = false

abbrev pub AllGood : List ReadItem → Type 0
AllGood [] = Unit {0}
AllGood (g ∷ gs) = (is_good g ≡ true) × AllGood gs

good_front : (xs ys : List ReadItem) → AllGood (xs ++ ys) → AllGood xs
good_front [] ys h = tt
good_front (x ∷ xs) ys h = (h.0, good_front xs ys h.1)

pub good_back : (xs ys : List ReadItem) → AllGood (xs ++ ys) → AllGood ys
good_back [] ys h = h
good_back (x ∷ xs) ys h = good_back xs ys h.1

abbrev pub AllShort : ℕ → List WholeFrame → Type 0
AllShort most [] = Unit {0}
AllShort most (f ∷ fs) = (length f.1 ≤ most) × AllShort most fs

pub short_more : (most : ℕ) (fs gs : List WholeFrame) → AllShort most fs → AllShort most gs
    → AllShort most (fs ++ gs)
short_more most [] gs h g = g
short_more most (f ∷ fs) gs h g = (h.0, short_more most fs gs h.1 g)

record ReadsAll (most : ℕ) (text more : List ℕ) (frames : List WholeFrame) : Type 0 where
  added : List ReadItem
  items_are : items most (text ++ more) ≡ items most text ++ added
  good : AllGood added
  frames_are : good_frames_in added ≡ frames

reads_all : (most fill : ℕ) (text : List ℕ) (frames : List WholeFrame) → open_at_end most text ≡ 0
    → AllWritable frames → AllShort most frames → ReadsAll most text (bytes_of fill frames) frames
unfolding bytes_of good_frames_in
reads_all most fill text [] none w s = record {
  added = [];
  items_are = ap (items most) (append-nil text) ∙ sym (append-nil (items most text));
  good = tt;
  frames_are = refl;
}
reads_all most fill text (f ∷ rest) none w s =
    let one : List ℕ = replicate fill 150 ++ wire f.0 f.1 in
    let given : ReadItem = (item.Good (length text + fill) f.0, f.1) in
    let e = whole-items most text f.1 fill f.0 none w.0.in_range w.0.frame s.0 in
    let r =
    reads_all most fill (text ++ one) rest
    (whole-closed most text f.1 fill f.0 none w.0.in_range w.0.frame s.0) w.1 s.1 in
    record {
      added = given ∷ r.added;
      items_are =
          ap (items most) (sym (append_assoc text one (bytes_of fill rest))) ∙ r.items_are
          ∙ ap (λ (x : List ReadItem). x ++ r.added) e
          ∙ append_assoc (items most text) (given ∷ []) r.added;
      good = (refl, r.good);
      frames_are = ap (λ (x : List WholeFrame). f ∷ x) r.frames_are;
    }

-- a beginning of what was written is the first frames, and part of the next
pub record HasRead (most : ℕ) (front : List ℕ) (frames : List WholeFrame) : Type 0 where
  pub good : AllGood (items most front)
  pub rest : List WholeFrame
  pub rest_is : good_frames most front ++ rest ≡ frames

pub has_read : (most fill : ℕ) (frames : List WholeFrame) (front : List ℕ) → AllWritable frames
    → AllShort most frames
    → Begins front (bytes_of fill frames) → HasRead most front frames
has_read most fill frames front w s b =
    let r = reads_all most fill [] frames (ap (λ p. length p.rest) (ending-nothing most)) w s in
    let whole : items most (bytes_of fill frames) ≡ r.added =
    r.items_are ∙ ap (λ (x : List ReadItem). x ++ r.added) (items-nothing most) in
    let more = items_added most front b.0 in
    let parts : items most front ++ more ≡ r.added =
    sym (items_added-all most front b.0) ∙ ap (items most) b.1 ∙ whole in
    record {
      good = good_front (items most front) more (subst AllGood (sym parts) r.good);
      rest = good_frames_in more;
      rest_is =
          sym (good_frames_in-append (items most front) more) ∙ ap good_frames_in parts
          ∙ r.frames_are;
    }

-- ---- their place

place_front : (p : ℕ) (came rest sent : List WholeFrame) → drop p sent ≡ came ++ rest
    → place_from (Some p) came sent ≡ Some (p + length came)
unfolding place_from first_index
place_front p [] rest sent e = let z : p ≡ p + 0 = omega arith in ap Some z
place_front p (f ∷ came) rest sent e =
    let one : p + 0 + 1 ≡ p + 1 = omega arith in
    let hit : place_after f sent p ≡ Some (p + 1) =
    ap (λ t. option_map (λ i. p + i + 1) (first_index f t)) e
    ∙ ap
    (λ b. option_map (λ i. p + i + 1)
    (cond b (Some 0) (option_map (λ i. i + 1) (first_index f (came ++ rest))))) (same-refl f)
    ∙ ap Some one in
    let later : drop (p + 1) sent ≡ came ++ rest = sym (drop-drop 1 p sent) ∙ ap (drop 1) e in
    let sum : p + 1 + length came ≡ p + length (f ∷ came) = omega arith in
    ap (λ q. place_from q came sent) hit ∙ place_front (p + 1) came rest sent later ∙ ap Some sum

pub way_from : (came rest sent : List WholeFrame) (here : ℕ) → came ++ rest ≡ sent
    → place_of came sent ≡ Some here
    → on_the_way here sent ≡ map seen rest
way_from came rest sent here e h =
    let z : Some (0 + length came) ≡ Some here = sym (place_front 0 came rest sent (sym e)) ∙ h in
    let y : 0 + length came ≡ here = cc in
    let n : here ≡ length came = omega (arith, y) in
    ap (map seen)
    (ap (λ k. drop k sent) n ∙ ap (drop (length came)) (sym e) ∙ drop-append_seam came rest)

pub placed : (came rest sent : List WholeFrame) → came ++ rest ≡ sent
    → is_some (place_of came sent) ≡ true
placed came rest sent e = ap is_some (place_front 0 came rest sent (sym e))

-- ---- items as frames

unfoldable pub heard : List Frame → Face → Face
heard [] x = x
heard (f ∷ fs) x = heard fs (hearing x (Good f))

pub items_heard : (given : List ReadItem) (k : CoreView) (x : Face) → AllGood given
    → k.limits ≡ x.limits
    → k.station ≡ x.station
    → (after_items given k).station ≡ (heard (map seen (good_frames_in given)) x).station
unfolding after_items good_frames_in heard
items_heard [] k x g l s = s
items_heard ((item.Good o h, lent) ∷ rest) k x g l s =
    items_heard rest (after_item (item.Good o h, lent) k) (hearing x (Good (frame_of h lent))) g.1 l
    (λ i. on (l i) (s i) (Good (frame_of h lent)))
items_heard ((item.HeaderCheck o, lent) ∷ rest) k x g l s = absurd (let z = g.0 in cc)
items_heard ((item.DataCheck o h, lent) ∷ rest) k x g l s = absurd (let z = g.0 in cc)
items_heard ((item.TooLong o h, lent) ∷ rest) k x g l s = absurd (let z = g.0 in cc)
items_heard ((item.Format o f, lent) ∷ rest) k x g l s = absurd (let z = g.0 in cc)
