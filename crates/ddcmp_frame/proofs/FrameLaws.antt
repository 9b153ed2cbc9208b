-- The reading of whole frames, after fill and after discarded.
use Rattle.std.proofs.Common.{◌≡◌, ℕ, zero, suc, ◌+◌, ◌<◌, ◌≤◌, Bool, true, false, List, [], ◌∷◌}
use Rattle.std.proofs.Common.{◌++◌, length, take, drop, slice_index, refl, sym, ◌∙◌, ap, subst}
use Rattle.std.proofs.Common.{arith, Ok, Err, Some, None, Option, inl, inr, append_assoc}
use Rattle.std.proofs.Common.{length-append, length-drop, length-take-le}
use Rattle.std.specs.Prelude.{replicate, nat_lt, if◌then◌else◌}
use Rattle.std.proofs.lemmas.List.{take-append-le, drop-append-le, append-nil, take_all, drop_all}
use Rattle.ddcmp_num.specs.Check.{check_of, check_pair}
use Rattle.ddcmp_frame.specs.declared.header.Header.{Header}
use Rattle.ddcmp_frame.specs.declared.header.Header.TheVariants.{Data, Maint, Control}
use Rattle.ddcmp_frame.specs.declared.header.HeaderFault.TheVariants.{Check}
use Rattle.ddcmp_frame.specs.declared.item.Item.{Item}
use Rattle.ddcmp_frame.specs.declared.item.Item.TheVariants.{Good, HeaderCheck, DataCheck}
use Rattle.ddcmp_frame.specs.Spelling.{Spells, HasCheck, IsInRange, is_start, parsed}
use Rattle.ddcmp_frame.specs.Wire.{six_bytes, wire, IsFrame}
use Rattle.ddcmp_frame.specs.Rows.{outcome_after, outcome_at_end}
use Rattle.ddcmp_frame.specs.Reading.{ReadItem, place_after, count_of, data_after_header}
use Rattle.ddcmp_frame.specs.Reading.{is_data_right, by_length, by_count, row, read, beginning}
use Rattle.ddcmp_frame.specs.Reading.{items, ending, open_at_end, with_more}
use Rattle.ddcmp_frame.specs.Resume.{NoneBegins, AtMostALoss}
use Rattle.ddcmp_frame.specs.Reader.{ReaderView, StandsFor, Grows, LentBeside, Pushes, items_given}
use Rattle.ddcmp_frame.specs.Reader.{frame_length}
use Rattle.ddcmp_frame.proofs.Tests.{ok-inj, false-true, ltb-is, ltb-isnt}
use Rattle.ddcmp_frame.proofs.SpellingLaws.{says-parsed}
use Rattle.ddcmp_frame.proofs.WireLaws.{length-wire, wire-front, wire-data, wire-right}
use Rattle.ddcmp_frame.proofs.WireLaws.{eight-parsed, frame_length-counted, frame_length-control}
use Rattle.ddcmp_frame.proofs.WireLaws.{counted-frame, control-frame}
use Rattle.ddcmp_frame.proofs.ReadingLaws.{read-none, read-some, read-nothing, items-more}
use Rattle.ddcmp_frame.proofs.ReadingLaws.{ending-more, ending-offset, ending-told, row-passes}
use Rattle.ddcmp_frame.proofs.ReadingLaws.{row-waits, row-by}
use Rattle.ddcmp_frame.proofs.PushLaws.{next_place, when, unless, first-of}

-- ---- one frame

wire-start : (h : Header) (d : List ℕ) → is_start (slice_index (wire h d) 0) ≡ true
unfolding wire six_bytes
wire-start (Data h) d = refl
wire-start (Maint h) d = refl
wire-start (Control h) d = refl

wire-parsed : (h : Header) (d u : List ℕ) → IsInRange h → parsed (take 8 (wire h d ++ u)) ≡ Ok h
wire-parsed h d u r = ap parsed (wire-front h d u) ∙ eight-parsed h r

pub frame_length-full : (h : Header) → 8 ≤ frame_length h
frame_length-full (Data h) = omega arith
frame_length-full (Maint h) = omega arith
frame_length-full (Control h) = omega arith

frame-row : (max o : ℕ) (lost : Bool) (h : Header) (d : List ℕ) → IsInRange h → IsFrame h d
    → length d ≤ max
    → row max (next_place o lost (wire h d))
    ≡ Some ((Good o h, d) ∷ [], next_place (o + frame_length h) false [])
frame-row max o lost h d r f fits =
    let q = next_place o lost (wire h d) in
    let l = length-wire h d f in
    let full = frame_length-full h in
    row-by max q (Ok h) (wire-start h d) (omega arith)
    (ap (λ x. parsed (take 8 x)) (sym (append-nil (wire h d))) ∙ wire-parsed h d [] r)
    ∙ by_kind (count_of h) refl
  where
    by_kind : (c : Option ℕ) → count_of h ≡ c
        → by_count max (next_place o lost (wire h d)) h c
        ≡ Some ((Good o h, d) ∷ [], next_place (o + frame_length h) false [])
    by_kind None cs =
        let l = length-wire h d f in
        let n = frame_length-control h cs in
        let z : drop 8 (wire h d) ≡ [] = drop_all 8 (wire h d) (omega arith) in
        let e : d ≡ [] = control-frame h d cs f in
        λ i. Some (
          (Good o h, (sym e) i)
              ∷ [],
          record { offset = o + (sym n) i; lost = false; told = false; rest = z i },
        )
    by_kind (Some n) cs =
        let l = length-wire h d f in
        let k = frame_length-counted h n cs in
        let c = counted-frame h n d cs f in
        let z : drop (n + 10) (wire h d) ≡ [] = drop_all (n + 10) (wire h d) (omega arith) in
        let within : nat_lt max n ≡ false = ltb-isnt max n (omega arith) in
        let whole : nat_lt (length (wire h d)) (n + 10) ≡ false =
        ltb-isnt (length (wire h d)) (n + 10) (omega arith) in
        let right = wire-right h n d cs f in
        let same = wire-data h n d cs f in
        ap (λ x. by_length (next_place o lost (wire h d)) h n x false) within
        ∙ unless (nat_lt (length (wire h d)) (n + 10)) None _ whole
        ∙ ap (λ x. Some (x ∷ [], place_after (n + 10) false (next_place o lost (wire h d))))
        (when (is_data_right n (wire h d)) (Good o h, data_after_header n (wire h d))
        (DataCheck o h, []) right)
        ∙ (λ i. Some (
          (Good o h, same i)
              ∷ [],
          record { offset = o + (sym k) i; lost = false; told = false; rest = z i },
        ))

-- a frame is one item, and nothing stays open
pub frame-read : (max o : ℕ) (lost : Bool) (h : Header) (d : List ℕ) → IsInRange h → IsFrame h d
    → length d ≤ max
    → read max (next_place o lost (wire h d))
    ≡ record { items = (Good o h, d) ∷ []; place = next_place (o + frame_length h) false [] }
frame-read max o lost h d r f fits =
    read-some max (next_place o lost (wire h d)) _ (frame-row max o lost h d r f fits)
    ∙ ap (outcome_after ((Good o h, d) ∷ []))
    (read-nothing max (next_place (o + frame_length h) false []) refl)

-- a frame without its last byte is unfinished
unfinished-row : (max o : ℕ) (lost : Bool) (h : Header) (d v : List ℕ) (b : ℕ) → IsInRange h
    → IsFrame h d → length d ≤ max → wire h d ≡ v ++ b ∷ [] → row max (next_place o lost v) ≡ None
unfinished-row max o lost h d v b r f fits is = by_kind (count_of h) refl
  where
    by_kind : (c : Option ℕ) → count_of h ≡ c → row max (next_place o lost v) ≡ None
    by_kind c cs =
        let l = length-wire h d f in
        let lv = ap length is in
        let la = length-append v (b ∷ []) in
        let full = frame_length-full h in
        let start : is_start (slice_index v 0) ≡ true =
        ap is_start (sym (first-of v b (omega arith)) ∙ ap (λ x. slice_index x 0) (sym is))
        ∙ wire-start h d in
        by_count_of c cs start (omega arith)
      where
        by_count_of : (c : Option ℕ) → count_of h ≡ c → is_start (slice_index v 0) ≡ true
            → length v + 1 ≡ frame_length h → row max (next_place o lost v) ≡ None
        by_count_of None cs start l =
            let n = frame_length-control h cs in
            row-waits max (next_place o lost v) start (omega arith)
        by_count_of (Some n) cs start l =
            let k = frame_length-counted h n cs in
            let c = counted-frame h n d cs f in
            let ok : parsed (take 8 v) ≡ Ok h =
            ap parsed
            (sym (take-append-le 8 v (b ∷ []) (omega arith))
            ∙ ap (take 8) (sym is ∙ sym (append-nil (wire h d)))) ∙ wire-parsed h d [] r in
            row-by max (next_place o lost v) (Ok h) start (omega arith) ok
            ∙ ap (by_count max (next_place o lost v) h) cs
            ∙ ap (λ x. by_length (next_place o lost v) h n x false) (ltb-isnt max n (omega arith))
            ∙ when (nat_lt (length v) (n + 10)) None _ (ltb-is (length v) (n + 10) (omega arith))

-- ---- after fill

fill-read : (max n o : ℕ) (lost : Bool) (w : List ℕ)
    → read max (next_place o lost (replicate n 150 ++ w)) ≡ read max (next_place (o + n) lost w)
fill-read max zero o lost w = ap (λ k. read max (next_place k lost w)) (omega arith)
fill-read max (suc n) o lost w =
    read-some max (next_place o lost (150 ∷ (replicate n 150 ++ w)))
    ([], next_place (o + 1) lost (replicate n 150 ++ w))
    (row-passes max _ 150 (replicate n 150 ++ w) refl refl)
    ∙ fill-read max n (o + 1) lost w
    ∙ ap (λ k. read max (next_place k lost w)) (omega arith)

nothing-of : (t : List ℕ) → length t ≡ 0 → t ≡ []
nothing-of [] l = refl
nothing-of (b ∷ t) l = absurd (omega arith)

-- where nothing is open, the place is the end of the text
closed : (max : ℕ) (text : List ℕ) → open_at_end max text ≡ 0
    → ending max text ≡ next_place (length text) (ending max text).lost []
closed max text none =
    let p = ending max text in
    let z : p.rest ≡ [] = nothing-of p.rest none in
    let o = ending-offset max text in
    let at : p.offset ≡ length text = omega arith in
    let told : p.told ≡ false = not_told p.told refl in
    λ i. record { offset = at i; lost = p.lost; told = told i; rest = z i }
  where
    not_told : (x : Bool) → (ending max text).told ≡ x → (ending max text).told ≡ false
    not_told false e = e
    not_told true e = let k = (ending-told max text e).counts in absurd (omega (arith, k.full))

closed-read : (max : ℕ) (text d : List ℕ) (n : ℕ) (h : Header) → open_at_end max text ≡ 0
    → IsInRange h → IsFrame h d → length d ≤ max
    → read max (with_more (ending max text) (replicate n 150 ++ wire h d))
    ≡ record {
      items = (Good (length text + n) h, d) ∷ [];
      place = next_place (length text + n + frame_length h) false [];
    }
closed-read max text d n h none r f fits =
    ap (λ p. read max (with_more p (replicate n 150 ++ wire h d))) (closed max text none)
    ∙ fill-read max n (length text) (ending max text).lost (wire h d)
    ∙ frame-read max (length text + n) (ending max text).lost h d r f fits

pub whole-items : (max : ℕ) (text d : List ℕ) (n : ℕ) (h : Header) → open_at_end max text ≡ 0
    → IsInRange h → IsFrame h d → length d ≤ max
    → items max (text ++ (replicate n 150 ++ wire h d))
    ≡ items max text ++ (Good (length text + n) h, d) ∷ []
whole-items max text d n h none r f fits =
    items-more max text (replicate n 150 ++ wire h d)
    ∙ ap (λ o. items max text ++ o.items) (closed-read max text d n h none r f fits)

pub whole-closed : (max : ℕ) (text d : List ℕ) (n : ℕ) (h : Header) → open_at_end max text ≡ 0
    → IsInRange h → IsFrame h d → length d ≤ max
    → open_at_end max (text ++ (replicate n 150 ++ wire h d)) ≡ 0
whole-closed max text d n h none r f fits =
    ap (λ p. length p.rest) (ending-more max text (replicate n 150 ++ wire h d))
    ∙ ap (λ o. length o.place.rest) (closed-read max text d n h none r f fits)

-- ---- after discarded

-- the reading of discarded gives at most one item
record JunkRead (max o : ℕ) (lost : Bool) (discarded w : List ℕ) : Type 0 where
  given : List ReadItem
  then_lost : Bool
  none_where_lost : lost ≡ true → given ≡ []
  few : AtMostALoss given
  is : read max (next_place o lost (discarded ++ w))
      ≡ outcome_after given (read max (next_place (o + length discarded) then_lost w))

candidate-fails : (max o : ℕ) (lost : Bool) (b : ℕ) (t : List ℕ) → is_start b ≡ true
    → 8 ≤ length (b ∷ t) → ¬ HasCheck (take 8 (b ∷ t))
    → row max (next_place o lost (b ∷ t))
    ≡ Some ((if lost then [] else (HeaderCheck o, []) ∷ []), next_place (o + 1) true t)
candidate-fails max o lost b t start full wrong =
    row-by max (next_place o lost (b ∷ t)) (Err Check) start full
    (says-parsed (Err Check) (take 8 (b ∷ t)) (length-take-le 8 (b ∷ t) full) (start, wrong))

discarded-read : (max o : ℕ) (lost : Bool) (discarded w : List ℕ) → 7 ≤ length w
    → NoneBegins discarded w → JunkRead max o lost discarded w
discarded-read max o lost [] w l free = record {
  given = [];
  then_lost = lost;
  none_where_lost = λ e. refl;
  few = inl refl;
  is = ap (λ k. read max (next_place k lost w)) (omega arith);
}
discarded-read max o lost (b ∷ discarded) w l free =
    by_start
    (λ (n : ℕ) (x : Bool) (k : NoneBegins discarded w). discarded-read max n x discarded w l k)
    (is_start b) refl (λ i below. free (suc i) (omega arith))
  where
    first_loss : (x : Bool) (rest : List ReadItem) → rest ≡ []
        → AtMostALoss ((if x then [] else (HeaderCheck o, []) ∷ []) ++ rest)
    first_loss true rest e = inl e
    first_loss false rest e = inr (o, ap (λ x. (HeaderCheck o, []) ∷ x) e)

    none_again : (x : Bool) (rest : List ReadItem) → rest ≡ [] → x ≡ true
        → (if x then [] else (HeaderCheck o, []) ∷ []) ++ rest ≡ []
    none_again true rest e t = e
    none_again false rest e t = absurd (false-true t)

    by_start : ((n : ℕ) (x : Bool) → NoneBegins discarded w → JunkRead max n x discarded w)
        → (x : Bool) → is_start b ≡ x → NoneBegins discarded w
        → JunkRead max o lost (b ∷ discarded) w
    by_start ih false e rest_free =
        let k = ih (o + 1) lost rest_free in
        record {
          given = k.given;
          then_lost = k.then_lost;
          none_where_lost = k.none_where_lost;
          few = k.few;
          is =
              read-some max (next_place o lost (b ∷ (discarded ++ w)))
              ([], next_place (o + 1) lost (discarded ++ w))
              (row-passes max _ b (discarded ++ w) refl e) ∙ k.is
              ∙ ap (λ n. outcome_after k.given (read max (next_place n k.then_lost w)))
              (omega arith);
        }
    by_start ih true e rest_free =
        let k = ih (o + 1) true rest_free in
        let none = k.none_where_lost refl in
        let full : 8 ≤ length (b ∷ (discarded ++ w)) = omega (arith, length-append discarded w) in
        let front : List ReadItem = if lost then [] else (HeaderCheck o, []) ∷ [] in
        record {
          given = front ++ k.given;
          then_lost = k.then_lost;
          none_where_lost = none_again lost k.given none;
          few = first_loss lost k.given none;
          is =
              read-some max (next_place o lost (b ∷ (discarded ++ w))) _
              (candidate-fails max o lost b (discarded ++ w) e full (free 0 (omega arith) e))
              ∙ ap (outcome_after front) k.is
              ∙ ap
              (λ
              x. record {
                items = x;
                place = (read max (next_place (o + 1 + length discarded) k.then_lost w)).place;
              })
              (sym
              (append_assoc front k.given
              (read max (next_place (o + 1 + length discarded) k.then_lost w)).items))
              ∙ ap (λ n. outcome_after (front ++ k.given) (read max (next_place n k.then_lost w)))
              (omega arith);
        }

-- what the last byte of a text was
record LastOf (text discarded w : List ℕ) (b : ℕ) : Type 0 where
  front : List ℕ
  wire_is : w ≡ front ++ b ∷ []
  text_is : text ≡ discarded ++ front

last-of : (text discarded w : List ℕ) (b : ℕ) → 0 < length w → text ++ b ∷ [] ≡ discarded ++ w
    → LastOf text discarded w b
last-of text [] w b some e = record { front = text; wire_is = sym e; text_is = refl }
last-of [] (x ∷ discarded) w b some e =
    let l = ap length e in absurd (omega (arith, length-append discarded w))
last-of (y ∷ text) (x ∷ discarded) w b some e =
    let head : y ≡ x = cc in
    let tail : text ++ b ∷ [] ≡ discarded ++ w = cc in
    let k = last-of text discarded w b some tail in
    let is = k.text_is in
    record { front = k.front; wire_is = k.wire_is; text_is = cc }

-- without the last byte too there is no candidate
none-shorter : (discarded v : List ℕ) (b : ℕ) → 7 ≤ length v → NoneBegins discarded (v ++ b ∷ [])
    → NoneBegins discarded v
none-shorter discarded v b l free = λ i below start right.
    let la = length-append discarded v in
    let e : take 8 (drop i (discarded ++ (v ++ b ∷ []))) ≡ take 8 (drop i (discarded ++ v)) =
    ap (λ x. take 8 (drop i x)) (sym (append_assoc discarded v (b ∷ [])))
    ∙ ap (take 8) (drop-append-le i (discarded ++ v) (b ∷ []) (omega arith))
    ∙ take-append-le 8 (drop i (discarded ++ v)) (b ∷ [])
    (omega (arith, length-drop i (discarded ++ v))) in
    free i below start (subst HasCheck (sym e) right)

-- before the last byte of a frame after discarded, and after it
pub record Resumes (max : ℕ) (text discarded d : List ℕ) (b : ℕ) (h : Header) : Type 0 where
  pub few : AtMostALoss (items max text)
  pub found : items max (text ++ b ∷ []) ≡ items max text ++ (Good (length discarded) h, d) ∷ []

-- the last byte of a frame that is unfinished completes it
completes : (max : ℕ) (text d v : List ℕ) (b o : ℕ) (lost : Bool) (h : Header)
    → ending max text ≡ next_place o lost v → wire h d ≡ v ++ b ∷ [] → IsInRange h → IsFrame h d
    → length d ≤ max → items max (text ++ b ∷ []) ≡ items max text ++ (Good o h, d) ∷ []
completes max text d v b o lost h ends is r f fits =
    items-more max text (b ∷ [])
    ∙ ap (λ p. items max text ++ (read max (with_more p (b ∷ []))).items) ends
    ∙ ap (λ x. items max text ++ (read max (next_place o lost x)).items) (sym is)
    ∙ ap (λ x. items max text ++ x.items) (frame-read max o lost h d r f fits)

-- what was given before it, after discarded
record Before (max : ℕ) (text discarded v : List ℕ) : Type 0 where
  few : AtMostALoss (items max text)
  lost : Bool
  ends : ending max text ≡ next_place (length discarded) lost v

before : (max : ℕ) (text discarded d v : List ℕ) (b : ℕ) (h : Header) → text ≡ discarded ++ v
    → wire h d ≡ v ++ b ∷ [] → 7 ≤ length v → IsInRange h → IsFrame h d → length d ≤ max
    → NoneBegins discarded v → Before max text discarded v
unfolding items ending
before max text discarded d v b h text_is is seven r f fits free =
    let j = discarded-read max 0 false discarded v seven free in
    let o : ℕ = 0 + length discarded in
    let n : read max (next_place o j.then_lost v) ≡ outcome_at_end (next_place o j.then_lost v) =
    read-none max (next_place o j.then_lost v)
    (unfinished-row max o j.then_lost h d v b r f fits is) in
    let all : read max (beginning text)
    ≡ outcome_after j.given (outcome_at_end (next_place o j.then_lost v)) =
    ap (λ x. read max (beginning x)) text_is ∙ j.is ∙ ap (outcome_after j.given) n in
    let given : (read max (beginning text)).items ≡ j.given =
    ap (λ x. x.items) all ∙ append-nil j.given in
    let zero_is : o ≡ length discarded = omega arith in
    record {
      few = subst AtMostALoss (sym given) j.few;
      lost = j.then_lost;
      ends = ap (λ x. x.place) all ∙ ap (λ k. next_place k j.then_lost v) zero_is;
    }

pub resumes : (max : ℕ) (text discarded d : List ℕ) (b : ℕ) (h : Header)
    → text ++ b ∷ [] ≡ discarded ++ wire h d → IsInRange h → IsFrame h d → length d ≤ max
    → NoneBegins discarded (wire h d) → Resumes max text discarded d b h
resumes max text discarded d b h e r f fits free =
    let l = length-wire h d f in
    let full = frame_length-full h in
    let k = last-of text discarded (wire h d) b (omega arith) e in
    let lv = ap length k.wire_is in
    let la = length-append k.front (b ∷ []) in
    let seven : 7 ≤ length k.front = omega arith in
    let p =
    before max text discarded d k.front b h k.text_is k.wire_is seven r f fits
    (none-shorter discarded k.front b seven (subst (NoneBegins discarded) k.wire_is free)) in
    record {
      few = p.few;
      found =
          completes max text d k.front b (length discarded) p.lost h p.ends k.wire_is r f fits;
    }

-- ---- what a push gave by it

pub append-cancel : {A : Type 0} (s t u : List A) → s ++ t ≡ s ++ u → t ≡ u
append-cancel [] t u e = e
append-cancel (a ∷ s) t u e = append-cancel s t u cc

given-one : (given : Option Item) (lent d : List ℕ) (i : Item)
    → items_given given lent ≡ (i, d) ∷ [] → (given ≡ Some i) × (lent ≡ d)
given-one None lent d i e = cc
given-one (Some j) lent d i e =
    let same : ◌≡◌ {A = ReadItem} (j, lent) (i, d) = cc in
    (ap (λ x. Some x.0) same, ap (λ x. x.1) same)

pub push-resumes : (max : ℕ) (given : Option Item) (lent text discarded d : List ℕ) (b : ℕ)
    (h : Header) → items max (text ++ b ∷ []) ≡ items max text ++ items_given given lent
    → text ++ b ∷ [] ≡ discarded ++ wire h d → IsInRange h → IsFrame h d → length d ≤ max
    → NoneBegins discarded (wire h d)
    → (given ≡ Some (Good (length discarded) h)) × (lent ≡ d) × AtMostALoss (items max text)
push-resumes max given lent text discarded d b h its e r f fits free =
    let k = resumes max text discarded d b h e r f fits free in
    let g =
    given-one given lent d (Good (length discarded) h)
    (append-cancel (items max text) _ _ (sym its ∙ k.found)) in
    (g.0, g.1, k.few)

-- what a reader does with a byte, by what it does where it stands for a text
pub pushes : (old : ReaderView) (b : ℕ) (given : Option Item) (new : ReaderView)
    → new.offset ≡ old.offset + 1 → new.max ≡ old.max → LentBeside given new.lent
    → length new.lent ≤ old.max
    → ((text : List ℕ) → StandsFor old text → Grows old b given new text) → Pushes old b given new
pushes old b given new counted max lent within grows = record {
  counted = counted;
  max = max;
  stands = λ text s. (grows text s).stands;
  item = λ text s. (grows text s).items;
  resynchronises =
      λ text discarded message h s. push-resumes old.max given new.lent text discarded message b h
      (grows text s).items;
  lent = lent;
  within = within;
  wire = λ text s. (grows text s).wire;
}

-- ---- spellings

length-spelled : (h : Header) (x : List ℕ) → Spells h x → length x ≡ 6
length-spelled (Data h) x s = s.len
length-spelled (Maint h) x s = s.len
length-spelled (Control h) x s = s.len

-- no six bytes spell two headers
pub one_header : (g h : Header) (x : List ℕ) → Spells g x → Spells h x → g ≡ h
one_header g h x sg sh =
    let bytes = x ++ check_pair (check_of x) in
    let l = length-spelled g x sg in
    let la = length-append x (check_pair (check_of x)) in
    let eight : length bytes ≡ 8 = omega arith in
    let front : take 6 bytes ≡ x = take-append-le 6 x _ (omega arith) ∙ take_whole x l in
    let back : drop 6 bytes ≡ check_pair (check_of x) =
    drop-append-le 6 x _ (omega arith)
    ∙ ap (λ t. t ++ check_pair (check_of x)) (drop_all 6 x (omega arith)) in
    let has : HasCheck bytes = back ∙ ap (λ t. check_pair (check_of t)) (sym front) in
    ok-inj
    (sym (says-parsed (Ok g) bytes eight (subst (Spells g) (sym front) sg, has))
    ∙ says-parsed (Ok h) bytes eight (subst (Spells h) (sym front) sh, has))
  where
    take_whole : (x : List ℕ) → length x ≡ 6 → take 6 x ≡ x
    take_whole x l = take_all 6 x (omega arith)
