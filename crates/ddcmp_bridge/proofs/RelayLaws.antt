-- What more bytes add to what a relay passes on.
use Rattle.std.proofs.Common.{◌≡◌, ◌∙◌, ℕ, ◌+◌, ◌≤◌, List, [], ◌∷◌, ◌++◌, length, refl}
use Rattle.std.proofs.Common.{append_assoc, arith, length-append, sym, ap, subst, take, drop}
use Rattle.std.proofs.Common.{Option, Some, false, ◌<◌, ◌/◌, ◌%◌}
use Rattle.std.specs.Prelude.{nat_lt}
use Rattle.std.proofs.Math.Seq.{take-append_seam}
use Rattle.std.proofs.lemmas.List.{append-nil, take-append-drop}
use Rattle.ddcmp_frame.specs.Limits.{MAX_COUNT}
use Rattle.ddcmp_frame.specs.declared.header.Header.{Header}
use Rattle.ddcmp_frame.specs.declared.header.Header.TheVariants.{Data, Maint, Control}
use Rattle.ddcmp_frame.specs.declared.item.Item.{Item}
use Rattle.ddcmp_frame.specs.Reader.{StandsFor, items_given}
use Rattle.ddcmp_frame.specs.Reading.{ReadItem, good_frame_of, good_frames, good_frames_in, items}
use Rattle.ddcmp_frame.specs.Wire.{IsFrame, wire}
use Rattle.ddcmp_frame.proofs.ReadingLaws.{items-nothing}
use Rattle.ddcmp_frame.proofs.Tests.{ltb-isnt}
use Rattle.ddcmp_frame.proofs.WireLaws.{length-wire}
use Rattle.rand_pcg.specs.Lcg.{Lcg}
use Rattle.rand_pcg.specs.Pcg.{pcg32}
use Rattle.ddcmp_bridge.specs.declared.faults.Faults.{Faults}
use Rattle.ddcmp_bridge.specs.declared.faults.Fate.{Fate}
use Rattle.ddcmp_bridge.specs.declared.faults.Fate.TheVariants.{Passed}
use Rattle.ddcmp_bridge.specs.Faults.{fates, fate_drawn, next_draws, draws_after, left_of}
use Rattle.ddcmp_bridge.specs.Faults.{after_fate, loses, alters, lost_of, altered_of}
use Rattle.ddcmp_bridge.specs.Relaying.{RelayView, Relays, fates_in, passed_on, relayed, wires}

pub good-append : (xs ys : List ReadItem)
    → good_frames_in (xs ++ ys) ≡ good_frames_in xs ++ good_frames_in ys
unfolding good_frames_in
good-append [] ys = refl
good-append (x ∷ xs) ys =
    ap (λ t. good_frame_of x ++ t) (good-append xs ys)
    ∙ sym (append_assoc (good_frame_of x) (good_frames_in xs) (good_frames_in ys))

pub wires-append : (xs ys : List (Header × List ℕ)) → wires (xs ++ ys) ≡ wires xs ++ wires ys
unfolding wires
wires-append [] ys = refl
wires-append (f ∷ xs) ys =
    ap (λ t. wire f.0 f.1 ++ t) (wires-append xs ys)
    ∙ sym (append_assoc (wire f.0 f.1) (wires xs) (wires ys))

-- the frames of one item, if it is a good one or not
pub one-item : (given : ReadItem) → good_frames_in (given ∷ []) ≡ good_frame_of given
unfolding good_frames_in
one-item given = append-nil (good_frame_of given)

pub one-wire : (header : Header) (lent : List ℕ) → wires ((header, lent) ∷ []) ≡ wire header lent
unfolding wires
one-wire header lent = append-nil (wire header lent)

pub no-wires : wires [] ≡ []
unfolding wires
no-wires = refl

pub no-frames : good_frames_in [] ≡ []
unfolding good_frames_in
no-frames = refl

-- the item that a reader of the longest frames gives
pub adds-one : (max : ℕ) (came more lent : List ℕ) (given : Option Item) (item : Item)
    → max ≡ MAX_COUNT → given ≡ Some item
    → items max (came ++ more) ≡ items max came ++ items_given given lent
    → items MAX_COUNT (came ++ more) ≡ items MAX_COUNT came ++ ((item, lent) ∷ [])
adds-one max came more lent given item e is h =
    subst (λ m. items m (came ++ more) ≡ items m came ++ ((item, lent) ∷ [])) e
    (h ∙ ap (λ i. items max came ++ items_given i lent) is)

-- ---- one frame more

abbrev Frame : Type 0
Frame = Header × List ℕ

fates-more : (f : Faults) (g : Lcg) (xs : List Frame) (x : Frame)
    → fates f g (xs ++ x ∷ [])
    ≡ fates f g xs ++ fate_drawn f (draws_after g xs) (length (wire x.0 x.1)) ∷ []
unfolding fates draws_after
fates-more f g [] x = refl
fates-more f g (y ∷ ys) x =
    ap (λ t. fate_drawn f g (length (wire y.0 y.1)) ∷ t) (fates-more f (next_draws g) ys x)

draws-more : (g : Lcg) (xs : List Frame) (x : Frame)
    → draws_after g (xs ++ x ∷ []) ≡ next_draws (draws_after g xs)
unfolding draws_after
draws-more g [] x = refl
draws-more g (y ∷ ys) x = draws-more (next_draws g) ys x

left-more : (f : Faults) (g : Lcg) (xs : List Frame) (x : Frame) (fate : Fate)
    → left_of (xs ++ x ∷ []) (fates f g xs ++ fate ∷ [])
    ≡ left_of xs (fates f g xs) ++ after_fate fate (wire x.0 x.1)
unfolding fates left_of
left-more f g [] x fate = append-nil (after_fate fate (wire x.0 x.1))
left-more f g (y ∷ ys) x fate =
    let first = after_fate (fate_drawn f g (length (wire y.0 y.1))) (wire y.0 y.1) in
    ap (λ t. first ++ t) (left-more f (next_draws g) ys x fate)
    ∙ sym (append_assoc first (left_of ys (fates f (next_draws g) ys))
    (after_fate fate (wire x.0 x.1)))

lost-more : (ys : List Fate) (fate : Fate) → lost_of (ys ++ fate ∷ []) ≡ lost_of ys + loses fate
unfolding lost_of
lost-more [] fate = omega arith
lost-more (y ∷ ys) fate = let h = lost-more ys fate in omega (arith, h)

altered-more : (ys : List Fate) (fate : Fate)
    → altered_of (ys ++ fate ∷ []) ≡ altered_of ys + alters fate
unfolding altered_of
altered-more [] fate = omega arith
altered-more (y ∷ ys) fate = let h = altered-more ys fate in omega (arith, h)

-- a bridge that is to make no faults makes none
never : (n : ℕ) → nat_lt n 0 ≡ false
never n = ltb-isnt n 0 (omega arith)

spared : (f : Faults) (g : Lcg) (size : ℕ) → f.lose ≡ 0 → f.damage ≡ 0
    → fate_drawn f g size ≡ Passed
spared f g size l d =
    rw (l, d) rw (never ((pcg32 g).0 % 100), never ((pcg32 g).0 / 100 % 100)) refl

all-spared : (f : Faults) (g : Lcg) (xs : List Frame) → f.lose ≡ 0 → f.damage ≡ 0
    → left_of xs (fates f g xs) ≡ wires xs
unfolding fates left_of wires
all-spared f g [] l d = refl
all-spared f g (y ∷ ys) l d =
    ap (λ fate. after_fate fate (wire y.0 y.1) ++ left_of ys (fates f (next_draws g) ys))
    (spared f g (length (wire y.0 y.1)) l d)
    ∙ ap (λ t. wire y.0 y.1 ++ t) (all-spared f (next_draws g) ys l d)

pub relays-faultless : (start : Lcg) (r : RelayView) (came taken : List ℕ)
    → Relays start r came taken → r.faults.lose ≡ 0 → r.faults.damage ≡ 0
    → relayed came ≡ taken ++ r.waiting
relays-faultless start r came taken h l d =
    sym (all-spared r.faults start (good_frames MAX_COUNT came) l d) ∙ h.passes

-- the fates of what came with an item more, or with none
module _ (came more lent : List ℕ) (item : Item)
    (adds : items MAX_COUNT (came ++ more) ≡ items MAX_COUNT came ++ ((item, lent) ∷ []))
    (start : Lcg) (old : RelayView) (taken : List ℕ) (r : Relays start old came taken) where
  good-more : good_frames MAX_COUNT (came ++ more)
      ≡ good_frames MAX_COUNT came ++ good_frame_of (item, lent)
  good-more =
      ap good_frames_in adds ∙ good-append (items MAX_COUNT came) ((item, lent) ∷ [])
      ∙ ap (λ t. good_frames MAX_COUNT came ++ t) (one-item (item, lent))

  pub fate-none : good_frame_of (item, lent) ≡ []
      → fates_in old.faults start (came ++ more) ≡ fates_in old.faults start came ++ []
  fate-none e =
      ap (fates old.faults start)
      (good-more ∙ ap (λ t. good_frames MAX_COUNT came ++ t) e
      ∙ append-nil (good_frames MAX_COUNT came))
      ∙ sym (append-nil (fates_in old.faults start came))

  pub fate-one : (header : Header) (fate : Fate)
      → good_frame_of (item, lent) ≡ (header, lent) ∷ []
      → fate ≡ fate_drawn old.faults old.draws (length (wire header lent))
      → fates_in old.faults start (came ++ more) ≡ fates_in old.faults start came ++ fate ∷ []
  fate-one header fate e drawn =
      let was = good_frames MAX_COUNT came in
      ap (fates old.faults start) (good-more ∙ ap (λ t. was ++ t) e)
      ∙ fates-more old.faults start was (header, lent)
      ∙ ap (λ g. fates old.faults start was
      ++ fate_drawn old.faults g (length (wire header lent)) ∷ []) (sym r.draws)
      ∙ ap (λ x. fates old.faults start was ++ x ∷ []) (sym drawn)

pub fate-nothing : (max : ℕ) (came more : List ℕ) (faults : Faults) (start : Lcg)
    → max ≡ MAX_COUNT → items max (came ++ more) ≡ items max came ++ []
    → fates_in faults start (came ++ more) ≡ fates_in faults start came ++ []
fate-nothing max came more faults start e h =
    let here : items MAX_COUNT (came ++ more) ≡ items MAX_COUNT came ++ [] =
    subst (λ m. items m (came ++ more) ≡ items m came ++ []) e h in
    ap (λ i. fates faults start (good_frames_in i)) (here ∙ append-nil (items MAX_COUNT came))
    ∙ sym (append-nil (fates_in faults start came))

module _ (came more lent : List ℕ) (item : Item)
    (adds : items MAX_COUNT (came ++ more) ≡ items MAX_COUNT came ++ ((item, lent) ∷ []))
    (start : Lcg) (old new : RelayView) (taken : List ℕ) (r : Relays start old came taken)
    (s : StandsFor new.frames (came ++ more)) (idle : old.waiting ≡ [])
    (count : new.items ≡ old.items + 1) (same : new.faults ≡ old.faults) where
  frames : good_frames MAX_COUNT (came ++ more)
      ≡ good_frames MAX_COUNT came ++ good_frame_of (item, lent)
  frames =
      ap good_frames_in adds ∙ good-append (items MAX_COUNT came) ((item, lent) ∷ [])
      ∙ ap (λ t. good_frames MAX_COUNT came ++ t) (one-item (item, lent))

  counted : new.items ≡ length (items MAX_COUNT (came ++ more))
  counted =
      count ∙ ap (λ n. n + 1) r.items
      ∙ sym (length-append (items MAX_COUNT came) ((item, lent) ∷ [])) ∙ ap length (sym adds)

  gone : passed_on old.faults start came ≡ taken
  gone = r.passes ∙ ap (λ t. taken ++ t) idle ∙ append-nil taken

  -- an item that isn't a good frame
  pub relays-bad : good_frame_of (item, lent) ≡ [] → new.waiting ≡ [] → new.good ≡ old.good
      → new.bytes ≡ old.bytes → new.draws ≡ old.draws → new.lost ≡ old.lost
      → new.altered ≡ old.altered → Relays start new (came ++ more) taken
  relays-bad e waits good bytes draws lost altered =
      let stay : good_frames MAX_COUNT (came ++ more) ≡ good_frames MAX_COUNT came =
      frames ∙ ap (λ t. good_frames MAX_COUNT came ++ t) e
      ∙ append-nil (good_frames MAX_COUNT came) in
      let f = new.faults in
      let was = good_frames MAX_COUNT came in
      record {
        stands = s;
        passes =
            ap (λ g. left_of g (fates f start g)) stay
            ∙ ap (λ k. left_of was (fates k start was)) same ∙ gone
            ∙ sym (append-nil taken) ∙ ap (λ t. taken ++ t) (sym waits);
        good = good ∙ r.good ∙ ap length (sym stay);
        bytes = bytes ∙ r.bytes ∙ ap (λ g. length (wires g)) (sym stay);
        items = counted;
        draws = draws ∙ r.draws ∙ ap (draws_after start) (sym stay);
        lost =
            lost ∙ r.lost ∙ ap (λ k. lost_of (fates k start was)) (sym same)
            ∙ ap (λ g. lost_of (fates f start g)) (sym stay);
        altered =
            altered ∙ r.altered ∙ ap (λ k. altered_of (fates k start was)) (sym same)
            ∙ ap (λ g. altered_of (fates f start g)) (sym stay);
      }

  -- and one that is, with its fate
  pub relays-good : (header : Header) (fate : Fate)
      → good_frame_of (item, lent) ≡ (header, lent) ∷ []
      → fate ≡ fate_drawn old.faults old.draws (length (wire header lent))
      → new.waiting ≡ after_fate fate (wire header lent) → new.good ≡ old.good + 1
      → new.bytes ≡ old.bytes + length (wire header lent) → new.draws ≡ next_draws old.draws
      → new.lost ≡ old.lost + loses fate → new.altered ≡ old.altered + alters fate
      → Relays start new (came ++ more) taken
  relays-good header fate e drawn waits good bytes draws lost altered =
      let was = good_frames MAX_COUNT came in
      let more_frames : good_frames MAX_COUNT (came ++ more) ≡ was ++ (header, lent) ∷ [] =
      frames ∙ ap (λ t. was ++ t) e in
      let told : fates old.faults start (was ++ (header, lent) ∷ [])
      ≡ fates old.faults start was ++ fate ∷ [] =
      fates-more old.faults start was (header, lent)
      ∙ ap (λ g. fates old.faults start was
      ++ fate_drawn old.faults g (length (wire header lent)) ∷ []) (sym r.draws)
      ∙ ap (λ x. fates old.faults start was ++ x ∷ []) (sym drawn) in
      let all : fates new.faults start (good_frames MAX_COUNT (came ++ more))
      ≡ fates old.faults start was ++ fate ∷ [] =
      ap (λ k. fates k start (good_frames MAX_COUNT (came ++ more))) same
      ∙ ap (fates old.faults start) more_frames ∙ told in
      record {
        stands = s;
        passes =
            ap (λ t. left_of (good_frames MAX_COUNT (came ++ more)) t) all
            ∙ ap (λ g. left_of g (fates old.faults start was ++ fate ∷ [])) more_frames
            ∙ left-more old.faults start was (header, lent) fate
            ∙ ap (λ t. t ++ after_fate fate (wire header lent)) gone
            ∙ ap (λ t. taken ++ t) (sym waits);
        good =
            good ∙ ap (λ n. n + 1) r.good ∙ sym (length-append was ((header, lent) ∷ []))
            ∙ ap length (sym more_frames);
        bytes =
            bytes ∙ ap (λ n. n + length (wire header lent)) r.bytes
            ∙ ap (λ t. length (wires was) + length t) (sym (one-wire header lent))
            ∙ sym (length-append (wires was) (wires ((header, lent) ∷ [])))
            ∙ ap length (sym (wires-append was ((header, lent) ∷ [])))
            ∙ ap (λ g. length (wires g)) (sym more_frames);
        items = counted;
        draws =
            draws ∙ ap next_draws r.draws ∙ sym (draws-more start was (header, lent))
            ∙ ap (draws_after start) (sym more_frames);
        lost =
            lost ∙ ap (λ n. n + loses fate) r.lost
            ∙ sym (lost-more (fates old.faults start was) fate) ∙ ap lost_of (sym all);
        altered =
            altered ∙ ap (λ n. n + alters fate) r.altered
            ∙ sym (altered-more (fates old.faults start was) fate) ∙ ap altered_of (sym all);
      }

-- nothing came
pub relays-nothing : (start : Lcg) (v : RelayView) → StandsFor v.frames [] → v.waiting ≡ []
    → v.good ≡ 0 → v.bytes ≡ 0 → v.items ≡ 0 → v.draws ≡ start → v.lost ≡ 0 → v.altered ≡ 0
    → Relays start v [] []
unfolding fates left_of draws_after lost_of altered_of
relays-nothing start v s waits good bytes count draws lost altered =
    let none : good_frames MAX_COUNT [] ≡ [] =
    ap good_frames_in (items-nothing MAX_COUNT) ∙ no-frames in
    let w : relayed [] ≡ [] = ap wires none ∙ no-wires in
    let f = v.faults in
    record {
      stands = s;
      passes = ap (λ g. left_of g (fates f start g)) none ∙ sym waits;
      good = good ∙ ap length (sym none);
      bytes = bytes ∙ ap length (sym w);
      items = count ∙ ap length (sym (items-nothing MAX_COUNT));
      draws = draws ∙ ap (draws_after start) (sym none);
      lost = lost ∙ ap (λ g. lost_of (fates f start g)) (sym none);
      altered = altered ∙ ap (λ g. altered_of (fates f start g)) (sym none);
    }

-- some of what waited was taken
pub relays-took : (start : Lcg) (old new : RelayView) (came taken : List ℕ) (n : ℕ)
    → Relays start old came taken
    → new.frames ≡ old.frames → new.waiting ≡ drop n old.waiting → new.good ≡ old.good
    → new.bytes ≡ old.bytes → new.items ≡ old.items → new.faults ≡ old.faults
    → new.draws ≡ old.draws → new.lost ≡ old.lost → new.altered ≡ old.altered
    → Relays start new came (taken ++ take n old.waiting)
relays-took start old new came taken n r frames waits good bytes count same draws lost altered =
    record {
      stands = subst (λ f. StandsFor f came) (sym frames) r.stands;
      passes =
          ap (λ k. passed_on k start came) same
          ∙ r.passes ∙ ap (λ t. taken ++ t) (sym (take-append-drop n old.waiting))
          ∙ sym (append_assoc taken (take n old.waiting) (drop n old.waiting))
          ∙ ap (λ t. (taken ++ take n old.waiting) ++ t) (sym waits);
      good = good ∙ r.good;
      bytes = bytes ∙ r.bytes;
      items = count ∙ r.items;
      draws = draws ∙ r.draws;
      lost = lost ∙ r.lost ∙ ap (λ k. lost_of (fates_in k start came)) (sym same);
      altered = altered ∙ r.altered ∙ ap (λ k. altered_of (fates_in k start came)) (sym same);
    }

-- what was written at the front of a place
pub at-front : (out text rest : List ℕ) (n : ℕ) → n ≡ length text → out ≡ text ++ rest
    → take n out ≡ text
at-front out text rest n e o =
    ap (λ m. take m out) e ∙ ap (take (length text)) o ∙ take-append_seam text rest

-- a frame with at most so many bytes of data has at most ten more
pub fits : (h : Header) (d : List ℕ) (max : ℕ) → IsFrame h d → length d ≤ max
    → length (wire h d) ≤ max + 10
fits (Data h) d max f m = let l = length-wire (Data h) d f in omega (arith, l, f, m)
fits (Maint h) d max f m = let l = length-wire (Maint h) d f in omega (arith, l, f, m)
fits (Control h) d max f m = let l = length-wire (Control h) d f in omega (arith, l)

pub has-bytes : (h : Header) (d : List ℕ) → IsFrame h d → 1 < length (wire h d)
has-bytes (Data h) d f = let l = length-wire (Data h) d f in omega (arith, l)
has-bytes (Maint h) d f = let l = length-wire (Maint h) d f in omega (arith, l)
has-bytes (Control h) d f = let l = length-wire (Control h) d f in omega (arith, l)
