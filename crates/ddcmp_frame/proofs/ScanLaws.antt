-- What bytes of a piece do to what a scan holds.
use Rattle.std.proofs.Common.{◌≡◌, ℕ, zero, suc, ◌+◌, ◌-◌, ◌<◌, ◌≤◌, Bool, true, false, List, []}
use Rattle.std.proofs.Common.{◌∷◌, ◌++◌, length, take, drop, slice_index, refl, sym, ◌∙◌, ap, subst}
use Rattle.std.proofs.Common.{arith, Ok, Err, Some, None, Option, inl, inr, append_assoc}
use Rattle.std.proofs.Common.{append-nil, length-append, length-drop, take_all, ◌⊎◌}
use Rattle.std.specs.Prelude.{nat_lt, if◌then◌else◌, vec_capacity}
use Rattle.std.proofs.lemmas.List.{take-append-le, drop-append-le, drop_all, length-take-le}
use Rattle.std.proofs.lemmas.List.{take-append-drop, length-take, take-take, drop-take}
use Rattle.std.proofs.lemmas.Bool.{cases_lt}
use Rattle.ddcmp_num.specs.declared.limits.TheConstants.{MAX_COUNT}
use Rattle.ddcmp_frame.specs.declared.header.Header.{Header}
use Rattle.ddcmp_frame.specs.declared.header.Header.TheVariants.{Data}
use Rattle.ddcmp_frame.specs.Fields.{CountedFields}
use Rattle.ddcmp_frame.specs.Wire.{six_bytes, wire, IsFrame}
use Rattle.ddcmp_frame.specs.declared.codes.TheConstants.{DATA_START}
use Rattle.std.proofs.Math.Seq.{take-append_seam}
use Rattle.ddcmp_frame.specs.declared.header.HeaderFault.TheVariants.{Check}
use Rattle.ddcmp_frame.specs.declared.item.Item.{Item}
use Rattle.ddcmp_frame.specs.declared.item.Item.TheVariants.{Good, HeaderCheck, DataCheck, TooLong}
use Rattle.ddcmp_frame.specs.declared.scan.Phase.{Phase}
use Rattle.ddcmp_frame.specs.declared.scan.Scan.{Scan}
use Rattle.ddcmp_frame.specs.Spelling.{is_start, parsed}
use Rattle.ddcmp_frame.specs.Rows.{outcome_after}
use Rattle.ddcmp_frame.specs.Reading.{Place, place_after, count_of, data_after_header}
use Rattle.ddcmp_frame.specs.Reading.{is_data_right, by_length, by_count, read, row, items, ending}
use Rattle.ddcmp_frame.specs.Reading.{with_more}
use Rattle.ddcmp_frame.specs.Resume.{from_start}
use Rattle.ddcmp_frame.specs.Reader.{ReaderView, Summarises, StandsFor, LentBeside, EndsWith}
use Rattle.ddcmp_frame.specs.Reader.{items_given, candidate_length, bytes_to_come, BeginsWith}
use Rattle.ddcmp_frame.specs.Inside.Scan.{IsSoundScan, HasHeader, HasFrame, FitsPhase, bytes_in}
use Rattle.ddcmp_frame.specs.Inside.Scan.{skipped_in, left_in, view_of, GrowsBy, TakesPiece}
use Rattle.ddcmp_frame.specs.Inside.Scan.{IsDataFrame}
use Rattle.ddcmp_frame.proofs.Tests.{ltb-is, ltb-isnt, false-true}
use Rattle.ddcmp_frame.proofs.WireLaws.{frame_length-counted, counted-whole, length-wire}
use Rattle.ddcmp_frame.proofs.WireLaws.{wire-front, wire-right, eight-parsed}
use Rattle.ddcmp_frame.proofs.ReadingLaws.{read-none, read-some, read-nothing, items-more}
use Rattle.ddcmp_frame.proofs.ReadingLaws.{ending-more, ending-offset, ending-suffix, row-nothing}
use Rattle.ddcmp_frame.proofs.ReadingLaws.{row-passes, row-waits, row-by}
use Rattle.ddcmp_frame.proofs.PushLaws.{next_place, holding, passing, passed, counts-more, row-told}
use Rattle.ddcmp_frame.proofs.PushLaws.{length_by-counts, when, unless, LossTold}
use Rattle.ddcmp_frame.proofs.FrameLaws.{append-cancel}
use Rattle.ddcmp_frame.proofs.TableLaws.{read-too-long, read-passing}
use Rattle.ddcmp_frame.specs.declared.scan.Phase.TheVariants as phase

-- ---- a reading that goes on by several bytes

front-nothing : {A : Type 0} (s t : List A) → s ++ t ≡ [] → s ≡ []
front-nothing [] t e = refl
front-nothing (a ∷ s) t e = cc

-- where more bytes give no item, no front of them does
pub quiet-front : (max : ℕ) (text u : List ℕ) (n : ℕ) → items max (text ++ u) ≡ items max text
    → items max (text ++ take n u) ≡ items max text
quiet-front max text u n e =
    let front = take n u in
    let back = drop n u in
    let x = (read max (with_more (ending max text) front)).items in
    let y = (read max (with_more (ending max (text ++ front)) back)).items in
    let whole : text ++ u ≡ (text ++ front) ++ back =
    ap (λ t. text ++ t) (sym (take-append-drop n u)) ∙ sym (append_assoc text front back) in
    let both : items max text ++ (x ++ y) ≡ items max text ++ [] =
    sym (append_assoc (items max text) x y)
    ∙ ap (λ t. t ++ y) (sym (items-more max text front))
    ∙ sym (items-more max (text ++ front) back)
    ∙ ap (items max) (sym whole)
    ∙ e
    ∙ sym (append-nil (items max text)) in
    items-more max text front
    ∙ ap (λ t. items max text ++ t)
    (front-nothing x y (append-cancel (items max text) (x ++ y) [] both))
    ∙ append-nil (items max text)

-- q is the place from which the bytes are read
record ReadFrom (v w : ReaderView) (text u : List ℕ) (given : Option Item) (q : Place)
    : Type 0 where
  stands : StandsFor v text
  is : with_more (ending v.max text) u ≡ q
  max : w.max ≡ v.max
  counted : w.offset ≡ v.offset + length u
  its : (read v.max q).items ≡ items_given given w.lent
  place : Summarises w (read v.max q).place

read-from-items : (v w : ReaderView) (text u : List ℕ) (given : Option Item) (q : Place)
    → ReadFrom v w text u given q
    → items v.max (text ++ u) ≡ items v.max text ++ items_given given w.lent
read-from-items v w text u given q r =
    items-more v.max text u ∙ ap (λ x. items v.max text ++ (read v.max x).items) r.is
    ∙ ap (λ x. items v.max text ++ x) r.its

read-from-stands : (v w : ReaderView) (text u : List ℕ) (given : Option Item) (q : Place)
    → ReadFrom v w text u given q → StandsFor w (text ++ u)
read-from-stands v w text u given q r =
    let e : (read v.max q).place ≡ ending w.max (text ++ u) =
    ap (λ x. (read v.max x).place) (sym r.is) ∙ sym (ending-more v.max text u)
    ∙ ap (λ m. ending m (text ++ u)) (sym r.max) in
    let s = r.stands in
    record {
      offset = omega (arith, length-append text u, s.offset, r.counted);
      place = subst (Summarises w) e r.place;
    }

grown-quiet : (v w : ReaderView) (text u : List ℕ) (q : Place) → ReadFrom v w text u None q
    → GrowsBy v u None w text
grown-quiet v w text u q r =
    let e = read-from-items v w text u None q r ∙ append-nil (items v.max text) in
    record {
      stands = read-from-stands v w text u None q r;
      first = λ n few. quiet-front v.max text u n e;
      items = read-from-items v w text u None q r;
      wire = tt;
    }

grown-given : (v w : ReaderView) (text u : List ℕ) (given : Option Item) (q : Place)
    → ReadFrom v w text u given q
    → ((n : ℕ) → n < length u → row v.max (with_more (ending v.max text) (take n u)) ≡ None)
    → EndsWith given w.lent (text ++ u) → GrowsBy v u given w text
grown-given v w text u given q r none wired =
    record {
      stands = read-from-stands v w text u given q r;
      first = λ n few.
          items-more v.max text (take n u)
          ∙ ap (λ o. items v.max text ++ o.items)
          (read-none v.max (with_more (ending v.max text) (take n u)) (none n few))
          ∙ append-nil (items v.max text);
      items = read-from-items v w text u given q r;
      wire = wired;
    }

-- what a reader has after more bytes
pub record After (v w : ReaderView) (u : List ℕ) (is_lost : Bool) (kept : List ℕ) (past to_come : ℕ)
    : Type 0 where
  pub max : w.max ≡ v.max
  pub counted : w.offset ≡ v.offset + length u
  pub lost : w.lost ≡ is_lost
  pub bytes : w.bytes ≡ kept
  pub skipped : w.skipped ≡ past
  pub left : w.left ≡ to_come

-- ---- a too long frame goes on

pub passes : (v w : ReaderView) (text u : List ℕ) → length u < v.left
    → After v w u v.lost [] (v.skipped + length u) (v.left - length u) → StandsFor v text
    → GrowsBy v u None w text
unfolding counts-more passing
passes v w text u few a s =
    let k = passing v text s (omega arith) in
    let p = ending v.max text in
    let q = with_more p u in
    let kq = counts-more p.rest u k.counts in
    let longer = length-append p.rest u in
    let kl = k.left in
    let none : row v.max q ≡ None =
    row-told v.max q kq k.above k.told
    ∙ when (nat_lt (length q.rest) (k.counts.count + 10)) _ _ (ltb-is _ _ (omega arith)) in
    let e = read-none v.max q none in
    grown-quiet v w text u q (record {
      stands = s;
      is = refl;
      max = a.max;
      counted = a.counted;
      its = ap (λ x. x.items) e;
      place = subst (Summarises w) (sym (ap (λ x. x.place) e)) (record {
        lost = a.lost ∙ s.place.lost;
        bytes = a.bytes ∙ sym (when q.told [] q.rest k.told);
        skipped = omega (arith, a.skipped, k.skipped, when q.told (length q.rest) 0 k.told);
        left =
            omega (
              arith,
              a.left,
              length_by-counts q.rest kq,
              when q.told (bytes_to_come q.rest) 0 k.told,
            );
      });
    })

pub passes-all : (v w : ReaderView) (text u : List ℕ) → 0 < v.left → length u ≡ v.left
    → After v w u false [] 0 0 → StandsFor v text → GrowsBy v u None w text
unfolding counts-more passing
passes-all v w text u some last a s =
    let k = passing v text s some in
    let p = ending v.max text in
    let q = with_more p u in
    let kq = counts-more p.rest u k.counts in
    let longer = length-append p.rest u in
    let kl = k.left in
    let all : row v.max q ≡ Some ([], place_after (k.counts.count + 10) false q) =
    row-told v.max q kq k.above k.told
    ∙ unless (nat_lt (length q.rest) (k.counts.count + 10)) _ _ (ltb-isnt _ _ (omega arith)) in
    let z : drop (k.counts.count + 10) q.rest ≡ [] =
    drop_all (k.counts.count + 10) q.rest (omega arith) in
    let e = read-some v.max q _ all in
    let n = read-nothing v.max (place_after (k.counts.count + 10) false q) z in
    grown-quiet v w text u q (record {
      stands = s;
      is = refl;
      max = a.max;
      counted = a.counted;
      its = ap (λ x. x.items) e ∙ ap (λ x. x.items) n;
      place = subst (Summarises w) (sym (ap (λ x. x.place) e ∙ ap (λ x. x.place) n)) (record {
        lost = a.lost;
        bytes = a.bytes ∙ sym z;
        skipped = a.skipped;
        left = a.left;
      });
    })

-- ---- the bytes held and more

-- bytes were put after those held
pub record More (v : ReaderView) (u x : List ℕ) (at : ℕ) : Type 0 where
  pub none : v.left ≡ 0
  pub bytes : x ≡ v.bytes ++ u
  pub at_front : at ≡ v.offset - length v.bytes

next-at : (v : ReaderView) (text u x : List ℕ) (at : ℕ) → More v u x at → StandsFor v text
    → with_more (ending v.max text) u ≡ next_place at v.lost x
next-at v text u x at m s =
    let h = holding v text s m.none in
    ap (λ p. with_more p u) h.place
    ∙ (λ
    i. record {
      offset = (sym m.at_front) i;
      lost = v.lost;
      told = false;
      rest = (sym m.bytes) i;
    })

-- from the offset of the unfinished frame on the text is what is held
ends-at : (v : ReaderView) (text u x : List ℕ) (at : ℕ) → More v u x at → StandsFor v text
    → drop at (text ++ u) ≡ x
ends-at v text u x at m s =
    let is = next-at v text u x at m s in
    let o : (ending v.max text).offset ≡ at = ap (λ p. p.offset) is in
    let within = ending-offset v.max text in
    drop-append-le at text u (omega arith)
    ∙ ap (λ k. drop k text ++ u) (sym o)
    ∙ ap (λ t. t ++ u) (sym (ending-suffix v.max text))
    ∙ ap (λ p. p.rest) is

-- no row fits before the last byte
abbrev pub Quiet : ReaderView → List ℕ → ℕ → Type 0
Quiet v u at =
    (n : ℕ) → n < length u → row v.max (next_place at v.lost (v.bytes ++ take n u)) ≡ None

quiet-at : (v : ReaderView) (text u x : List ℕ) (at : ℕ) → More v u x at → StandsFor v text
    → Quiet v u at → (n : ℕ) → n < length u
    → row v.max (with_more (ending v.max text) (take n u)) ≡ None
quiet-at v text u x at m s quiet n few =
    let part : More v (take n u) (v.bytes ++ take n u) at =
    record { none = m.none; bytes = refl; at_front = m.at_front } in
    ap (row v.max) (next-at v text (take n u) (v.bytes ++ take n u) at part s) ∙ quiet n few

-- the frame is unfinished as before
pub waits : (v w : ReaderView) (text u x : List ℕ) (at : ℕ) → More v u x at
    → row v.max (next_place at v.lost x) ≡ None → After v w u v.lost x 0 0 → StandsFor v text
    → GrowsBy v u None w text
waits v w text u x at m none a s =
    let q = next_place at v.lost x in
    let e = read-none v.max q none in
    grown-quiet v w text u q (record {
      stands = s;
      is = next-at v text u x at m s;
      max = a.max;
      counted = a.counted;
      its = ap (λ o. o.items) e;
      place =
          subst (Summarises w) (sym (ap (λ o. o.place) e))
          (record { lost = a.lost; bytes = a.bytes; skipped = a.skipped; left = a.left });
    })

-- ---- junk

one-further : (o n : ℕ) → o + 1 + n ≡ o + suc n
one-further o n = omega arith

junk-read : (max o : ℕ) (lost : Bool) (n : ℕ) (t : List ℕ) → n ≤ length t
    → ((i : ℕ) → i < n → is_start (slice_index t i) ≡ false)
    → read max (next_place o lost t) ≡ read max (next_place (o + n) lost (drop n t))
junk-read max o lost zero t few other = ap (λ k. read max (next_place k lost t)) (omega arith)
junk-read max o lost (suc n) [] few other = absurd (omega arith)
junk-read max o lost (suc n) (b ∷ t) few other =
    read-some max (next_place o lost (b ∷ t)) ([], next_place (o + 1) lost t)
    (row-passes max _ b t refl (other 0 (omega arith)))
    ∙ junk-read max (o + 1) lost n t (omega arith) (λ i below. other (suc i) (omega arith))
    ∙ ap (λ k. read max (next_place k lost (drop n t))) (one-further o n)

-- bytes that begin nothing are skipped, up to what is held then
pub seeks : (v w : ReaderView) (text u : List ℕ) (n : ℕ) → v.bytes ≡ [] → v.left ≡ 0 → n ≤ length u
    → ((i : ℕ) → i < n → is_start (slice_index u i) ≡ false)
    → row v.max (next_place (v.offset + n) v.lost (drop n u)) ≡ None
    → After v w u v.lost (drop n u) 0 0 → StandsFor v text → GrowsBy v u None w text
seeks v w text u n nothing none few other stuck a s =
    let at : v.offset ≡ v.offset - length v.bytes = omega (arith, ap length nothing) in
    let q = next_place v.offset v.lost u in
    let e =
    junk-read v.max v.offset v.lost n u few other
    ∙ read-none v.max (next_place (v.offset + n) v.lost (drop n u)) stuck in
    grown-quiet v w text u q (record {
      stands = s;
      is =
          next-at v text u u v.offset
          (record { none = none; bytes = ap (λ t. t ++ u) (sym nothing); at_front = at }) s;
      max = a.max;
      counted = a.counted;
      its = ap (λ o. o.items) e;
      place =
          subst (Summarises w) (sym (ap (λ o. o.place) e))
          (record { lost = a.lost; bytes = a.bytes; skipped = a.skipped; left = a.left });
    })

-- ---- a candidate

-- an item that is all that is held
pub gives : (v w : ReaderView) (text u x : List ℕ) (at : ℕ) (item : Item) (n : ℕ) → More v u x at
    → row v.max (next_place at v.lost x)
    ≡ Some ((item, w.lent) ∷ [], place_after n false (next_place at v.lost x)) → length x ≤ n
    → Quiet v u at → ((t : List ℕ) → drop at t ≡ x → EndsWith (Some item) w.lent t)
    → After v w u false [] 0 0 → StandsFor v text → GrowsBy v u (Some item) w text
gives v w text u x at item n m fits all quiet wired a s =
    let q = next_place at v.lost x in
    let z : drop n x ≡ [] = drop_all n x all in
    let e = read-some v.max q _ fits in
    let r = read-nothing v.max (place_after n false q) z in
    grown-given v w text u (Some item) q (record {
      stands = s;
      is = next-at v text u x at m s;
      max = a.max;
      counted = a.counted;
      its = ap (λ o. o.items) e ∙ ap (λ o. (item, w.lent) ∷ o.items) r;
      place =
          subst (Summarises w) (sym (ap (λ o. o.place) e ∙ ap (λ o. o.place) r))
          (record { lost = a.lost; bytes = a.bytes ∙ sym z; skipped = a.skipped; left = a.left });
    }) (quiet-at v text u x at m s quiet) (wired (text ++ u) (ends-at v text u x at m s))

-- a candidate whose check is wrong: what is left of it is skipped up to the next start byte
pub fails : (v w : ReaderView) (text u x : List ℕ) (at : ℕ) (given : Option Item) → More v u x at
    → length x ≡ 8 → is_start (slice_index x 0) ≡ true → parsed (take 8 x) ≡ Err Check
    → LossTold at v.lost given → Quiet v u at → w.lent ≡ []
    → After v w u true (from_start (drop 1 x)) 0 0 → StandsFor v text → GrowsBy v u given w text
fails v w text u x at given m eight start wrong told quiet unlent a s =
    let q = next_place at v.lost x in
    let e = read-some v.max q _ (row-by v.max q (Err Check) start (omega arith) wrong) in
    let p = passed v.max (at + 1) true (drop 1 x) (omega (arith, length-drop 1 x)) in
    let not_told = ap (λ o. o.place.told) e ∙ p.told in
    grown-given v w text u given q (record {
      stands = s;
      is = next-at v text u x at m s;
      max = a.max;
      counted = a.counted;
      its =
          ap (λ o. o.items) e
          ∙ ap (λ o. (if v.lost then [] else (HeaderCheck at, []) ∷ []) ++ o) p.items ∙ append-nil _
          ∙ sym (its v.lost told) ∙ ap (items_given given) (sym unlent);
      place = record {
        lost = a.lost ∙ sym (ap (λ o. o.place.lost) e ∙ p.lost);
        bytes =
            a.bytes
            ∙ sym
            (unless (read v.max q).place.told [] (read v.max q).place.rest not_told
            ∙ ap (λ o. o.place.rest) e ∙ p.rest);
        skipped =
            a.skipped
            ∙ sym (unless (read v.max q).place.told (length (read v.max q).place.rest) 0 not_told);
        left =
            a.left
            ∙ sym
            (unless (read v.max q).place.told (bytes_to_come (read v.max q).place.rest) 0 not_told);
      };
    }) (quiet-at v text u x at m s quiet) (wired told)
  where
    its : (lost : Bool) → LossTold at lost given
        → items_given given [] ≡ (if lost then [] else (HeaderCheck at, []) ∷ [])
    its true told =
        elim told [
          | inl yes_lost ↦ ap (λ g. items_given g []) yes_lost.1
          | inr not_lost ↦ absurd
              (false-true (sym not_lost.0))
        ]
    its false told =
        elim told [
          | inl yes_lost ↦ absurd (false-true yes_lost.0)
          | inr not_lost ↦ ap (λ g. items_given g [])
              not_lost.1
        ]

    wired : LossTold at v.lost given → EndsWith given w.lent (text ++ u)
    wired told =
        elim told [
          | inl yes_lost ↦ subst (λ g. EndsWith g w.lent (text ++ u)) (sym yes_lost.1)
              tt
          | inr not_lost ↦ subst (λ g. EndsWith g w.lent (text ++ u)) (sym not_lost.1) tt
        ]

-- a header of more data than the reader takes
pub announces : (v w : ReaderView) (text u x : List ℕ) (at : ℕ) (h : Header) (n : ℕ) → More v u x at
    → length x ≡ 8 → is_start (slice_index x 0) ≡ true → parsed (take 8 x) ≡ Ok h
    → count_of h ≡ Some n → v.max < n → Quiet v u at → w.lent ≡ [] → After v w u v.lost [] 8 (n + 2)
    → StandsFor v text → GrowsBy v u (Some (TooLong at h)) w text
announces v w text u x at h n m eight start is some above quiet unlent a s =
    let q = next_place at v.lost x in
    let full : 8 ≤ length x = omega arith in
    let e =
    read-too-long v.max at n v.lost x h start full is some above
    ∙ ap (outcome_after ((TooLong at h, []) ∷ []))
    (read-passing v.max at n v.lost x h start full is some above (omega arith)) in
    let come = ap candidate_length is ∙ frame_length-counted h n some in
    grown-given v w text u (Some (TooLong at h)) q (record {
      stands = s;
      is = next-at v text u x at m s;
      max = a.max;
      counted = a.counted;
      its = ap (λ o. o.items) e ∙ ap (λ l. (TooLong at h, l) ∷ []) (sym unlent);
      place = subst (Summarises w) (sym (ap (λ o. o.place) e)) (record {
        lost = a.lost;
        bytes = a.bytes;
        skipped = a.skipped ∙ sym eight;
        left = omega (arith, a.left, eight, come);
      });
    }) (quiet-at v text u x at m s quiet) tt

-- ---- what a scan has, and more bytes

first-more : (t u : List ℕ) → 0 < length t → slice_index (t ++ u) 0 ≡ slice_index t 0
first-more [] u l = absurd (omega arith)
first-more (b ∷ t) u l = refl

pub index-take : (n i : ℕ) (t : List ℕ) → i < n → slice_index (take n t) i ≡ slice_index t i
index-take zero i t few = absurd (omega arith)
index-take (suc n) i [] few = refl
index-take (suc n) zero (b ∷ t) few = refl
index-take (suc n) (suc i) (b ∷ t) few = index-take n i t (omega arith)

pub index-drop : (n : ℕ) (t : List ℕ) → slice_index (take 1 (drop n t)) 0 ≡ slice_index t n
index-drop zero [] = refl
index-drop zero (b ∷ t) = refl
index-drop (suc n) [] = refl
index-drop (suc n) (b ∷ t) = index-drop n t

-- the same of a scan, where the bytes held are those of the buffer
more-of : (s : Scan) (u x : List ℕ) (at : ℕ) → left_in s.phase ≡ 0
    → bytes_in s.phase s.buffer.items ≡ s.buffer.items → x ≡ s.buffer.items ++ u
    → at + length s.buffer.items ≡ s.offset → More (view_of s) u x at
more-of s u x at none all is front = record {
  none = none;
  bytes = is ∙ ap (λ t. t ++ u) (sym all);
  at_front = omega (arith, ap length all);
}

-- a part of a header, and more of it
pub record HeaderMore (s : Scan) (u x : List ℕ) (at : ℕ) : Type 0 where
  pub more : More (view_of s) u x at
  pub start : is_start (slice_index x 0) ≡ true
  pub quiet : Quiet (view_of s) u at

pub header-more : (s : Scan) (u x : List ℕ) (at : ℕ) → IsSoundScan s → s.phase ≡ phase.Header
    → x ≡ s.buffer.items ++ u → length x ≤ 8 → at + length s.buffer.items ≡ s.offset
    → HeaderMore s u x at
header-more s u x at sound phase is few front =
    let fits : HasHeader s.buffer.items =
    subst (λ p. FitsPhase s.max p s.buffer.items) phase sound.fits in
    let all : bytes_in s.phase s.buffer.items ≡ s.buffer.items =
    ap (λ p. bytes_in p s.buffer.items) phase in
    let lx = ap length is ∙ length-append s.buffer.items u in
    record {
      more = more-of s u x at (ap left_in phase) all is front;
      start =
          ap (λ t. is_start (slice_index t 0)) is
          ∙ ap is_start (first-more s.buffer.items u fits.some) ∙ fits.start;
      quiet = λ n less.
          ap (λ t. row s.max (next_place at s.lost (t ++ take n u))) all
          ∙ row-waits s.max (next_place at s.lost (s.buffer.items ++ take n u))
          (ap is_start (first-more s.buffer.items (take n u) fits.some) ∙ fits.start)
          (omega
          (arith, length-append s.buffer.items (take n u), length-take-le n u (omega arith)));
    }

counted-row : (max : ℕ) (p : Place) (h : Header) (n : ℕ) → is_start (slice_index p.rest 0) ≡ true
    → 8 ≤ length p.rest → parsed (take 8 p.rest) ≡ Ok h → count_of h ≡ Some n → n ≤ max
    → row max p ≡ by_length p h n false p.told
counted-row max p h n start full is some taken =
    row-by max p (Ok h) start full is ∙ ap (by_count max p h) some
    ∙ ap (λ b. by_length p h n b p.told) (ltb-isnt max n taken)

-- a frame that is unfinished
pub row-short : (max at : ℕ) (lost : Bool) (x : List ℕ) (h : Header) (n : ℕ)
    → is_start (slice_index x 0) ≡ true → 8 ≤ length x → parsed (take 8 x) ≡ Ok h
    → count_of h ≡ Some n → n ≤ max → length x < n + 10 → row max (next_place at lost x) ≡ None
row-short max at lost x h n start full is some taken short =
    counted-row max (next_place at lost x) h n start full is some taken
    ∙ when (nat_lt (length x) (n + 10)) _ _ (ltb-is _ _ short)

-- and one that is whole
pub row-whole : (max at : ℕ) (lost : Bool) (x : List ℕ) (h : Header) (n : ℕ) (right : Bool)
    → is_start (slice_index x 0) ≡ true → 8 ≤ length x → parsed (take 8 x) ≡ Ok h
    → count_of h ≡ Some n → n ≤ max → n + 10 ≤ length x → is_data_right n x ≡ right
    → row max (next_place at lost x)
    ≡ Some (
      (if right then (Good at h, data_after_header n x) else (DataCheck at h, []))
          ∷ [],
      place_after (n + 10) false (next_place at lost x),
    )
row-whole max at lost x h n right start full is some taken whole check =
    counted-row max (next_place at lost x) h n start full is some taken
    ∙ unless (nat_lt (length x) (n + 10)) _ _ (ltb-isnt _ _ whole)
    ∙ ap
    (λ b. Some (
      (if b then (Good at h, data_after_header n x) else (DataCheck at h, []))
          ∷ [],
      place_after (n + 10) false (next_place at lost x),
    )) check

-- a part of a frame, and more of it
pub record FrameMore (s : Scan) (h : Header) (n : ℕ) (u x : List ℕ) (at : ℕ) : Type 0 where
  pub more : More (view_of s) u x at
  pub start : is_start (slice_index x 0) ≡ true
  pub full : 8 ≤ length x
  pub is : parsed (take 8 x) ≡ Ok h
  pub counted : count_of h ≡ Some n
  pub taken : n ≤ s.max
  pub quiet : Quiet (view_of s) u at

pub frame-more : (s : Scan) (h : Header) (n : ℕ) (u x : List ℕ) (at : ℕ) → IsSoundScan s
    → s.phase ≡ phase.Frame h n → x ≡ s.buffer.items ++ u → length x ≤ n + 10
    → at + length s.buffer.items ≡ s.offset → FrameMore s h n u x at
frame-more s h n u x at sound phase is few front =
    let t = s.buffer.items in
    let fits : HasFrame s.max h n t = subst (λ p. FitsPhase s.max p t) phase sound.fits in
    let all : bytes_in s.phase t ≡ t = ap (λ p. bytes_in p t) phase in
    let lx = ap length is ∙ length-append t u in
    record {
      more = more-of s u x at (ap left_in phase) all is front;
      start =
          ap (λ t. is_start (slice_index t 0)) is
          ∙ ap is_start (first-more t u (omega (arith, fits.full))) ∙ fits.start;
      full = omega (arith, fits.full);
      is = ap (λ t. parsed (take 8 t)) is ∙ ap parsed (take-append-le 8 t u fits.full) ∙ fits.is;
      counted = fits.counted;
      taken = fits.taken;
      quiet = λ k less.
          let y = take k u in
          let ly = length-append t y in
          let lk = length-take-le k u (omega arith) in
          ap (λ t. row s.max (next_place at s.lost (t ++ y))) all
          ∙ row-short s.max at s.lost (t ++ y) h n
          (ap is_start (first-more t y (omega (arith, fits.full))) ∙ fits.start)
          (omega (arith, fits.full)) (ap parsed (take-append-le 8 t y fits.full) ∙ fits.is)
          fits.counted fits.taken (omega arith);
    }

-- ---- a step, where it gives nothing

pub takes-nothing : (v w : ReaderView) (piece : List ℕ) (used : ℕ) → used ≤ length piece → 0 < used
    → w.offset ≡ v.offset + used → w.max ≡ v.max → w.lent ≡ []
    → ((text : List ℕ) → StandsFor v text → GrowsBy v (take used piece) None w text)
    → TakesPiece v piece used None w
takes-nothing v w piece used within some counted same unlent grows = record {
  within = within;
  some = some;
  counted = counted;
  max = same;
  lent = unlent;
  lent_within = omega (arith, ap length unlent);
  grows = grows;
}

-- ---- what a step that takes some of a header or a frame begins with

pub header-few : (s : Scan) → IsSoundScan s → s.phase ≡ phase.Header → length s.buffer.items < 8
header-few s sound phase =
    let fits : HasHeader s.buffer.items =
    subst (λ p. FitsPhase s.max p s.buffer.items) phase sound.fits in
    fits.few

pub record HeaderTaken (s : Scan) (piece : List ℕ) (used : ℕ) (x : List ℕ) : Type 0 where
  pub taken : length (take used piece) ≡ used
  pub len : length s.buffer.items + used ≡ length x
  pub before : length s.buffer.items ≤ s.offset
  pub more : (at : ℕ) → at + length s.buffer.items ≡ s.offset → HeaderMore s (take used piece) x at

pub header-taken : (s : Scan) (piece : List ℕ) (used : ℕ) (x : List ℕ) → IsSoundScan s
    → s.phase ≡ phase.Header → used ≤ length piece → length s.buffer.items + used ≤ 8
    → x ≡ s.buffer.items ++ take used piece → HeaderTaken s piece used x
header-taken s piece used x sound phase within eight is =
    let lu = length-take-le used piece within in
    let lx = ap length is ∙ length-append s.buffer.items (take used piece) in
    record {
      taken = lu;
      len = omega arith;
      before = subst (λ p. length (bytes_in p s.buffer.items) ≤ s.offset) phase sound.before;
      more = λ at front. header-more s (take used piece) x at sound phase is (omega arith) front;
    }

-- the eighth byte of a header came
pub record EightTaken (s : Scan) (piece : List ℕ) (used : ℕ) (x : List ℕ) : Type 0 where
  pub within : used ≤ length piece
  pub taken : length (take used piece) ≡ used
  pub eight : length x ≡ 8
  pub before : 8 ≤ s.offset + used
  pub more : HeaderMore s (take used piece) x (s.offset + used - 8)

pub eight-taken : (s : Scan) (piece : List ℕ) (used : ℕ) (x : List ℕ) → IsSoundScan s
    → s.phase ≡ phase.Header → used ≤ length piece → length s.buffer.items + used ≤ 8
    → x ≡ s.buffer.items ++ take used piece → 8 ≤ length x → EightTaken s piece used x
eight-taken s piece used x sound phase within few is full =
    let t = header-taken s piece used x sound phase within few is in
    record {
      within = within;
      taken = t.taken;
      eight = omega (arith, t.len);
      before = omega (arith, t.before, t.len);
      more = t.more (s.offset + used - 8) (omega (arith, t.before, t.len));
    }

-- the buffer still has room after a step that lends nothing
pub kept-sound : (s t : Scan) → IsSoundScan s → s.lent ≡ 0 → t.max ≡ s.max → t.lent ≡ s.lent
    → vec_capacity s.buffer ≤ vec_capacity t.buffer → length t.buffer.items ≤ s.max + 10
    → length (bytes_in t.phase t.buffer.items) ≤ t.offset
    → FitsPhase t.max t.phase t.buffer.items → IsSoundScan t
kept-sound s t sound none same lent room few before fits = record {
  some = omega (arith, same, sound.some);
  most = subst (λ max. max ≤ MAX_COUNT) (sym same) sound.most;
  reserved = omega (arith, same, room, sound.reserved);
  held = omega (arith, same, few);
  before = before;
  fits = fits;
  lent = λ some. absurd (omega (arith, none, lent, some));
  lent_within = omega (arith, none, lent);
}

-- a header stands whole at the front of a piece, where nothing is held
pub record WholeHeader (s : Scan) (u : List ℕ) : Type 0 where
  pub more : More (view_of s) u u s.offset
  pub quiet : Quiet (view_of s) u s.offset

pub whole-header : (s : Scan) (u : List ℕ) → s.phase ≡ phase.Seeking → length u ≡ 8
    → is_start (slice_index u 0) ≡ true → WholeHeader s u
whole-header s u phase eight start =
    let nothing : bytes_in s.phase s.buffer.items ≡ [] =
    ap (λ p. bytes_in p s.buffer.items) phase in
    record {
      more =
          record {
            none = ap left_in phase;
            bytes = ap (λ t. t ++ u) (sym nothing);
            at_front = omega (arith, ap length nothing);
          };
      quiet =
          λ n less. ap (λ t. row s.max (next_place s.offset s.lost (t ++ take n u))) nothing
          ∙ by n less;
    }
  where
    by : (n : ℕ) → n < length u → row s.max (next_place s.offset s.lost (take n u)) ≡ None
    by zero less = row-nothing s.max (next_place s.offset s.lost []) refl
    by (suc n) less =
        row-waits s.max (next_place s.offset s.lost (take (suc n) u))
        (ap is_start (index-take (suc n) 0 u (omega arith)) ∙ start)
        (omega (arith, length-take-le (suc n) u (omega arith)))

-- what a scan has after it took bytes, as its fields say
pub after-taking : (v w : ReaderView) (piece : List ℕ) (used : ℕ) → length (take used piece) ≡ used
    → w.max ≡ v.max → w.offset ≡ v.offset + used
    → After v w (take used piece) w.lost w.bytes w.skipped w.left
after-taking v w piece used taken same counted = record {
  max = same;
  counted = counted ∙ ap (λ n. v.offset + n) (sym taken);
  lost = refl;
  bytes = refl;
  skipped = refl;
  left = refl;
}

pub frame-short : (s : Scan) (h : Header) (n : ℕ) → IsSoundScan s → s.phase ≡ phase.Frame h n
    → length s.buffer.items < n + 10
frame-short s h n sound phase =
    let fits : HasFrame s.max h n s.buffer.items =
    subst (λ p. FitsPhase s.max p s.buffer.items) phase sound.fits in
    fits.short

pub record FrameTaken (s : Scan) (h : Header) (n : ℕ) (piece : List ℕ) (used : ℕ) (x : List ℕ)
    : Type 0 where
  pub taken : length (take used piece) ≡ used
  pub len : length s.buffer.items + used ≡ length x
  pub before : length s.buffer.items ≤ s.offset
  pub more : (at : ℕ) → at + length s.buffer.items ≡ s.offset
      → FrameMore s h n (take used piece) x at

pub frame-taken : (s : Scan) (h : Header) (n : ℕ) (piece : List ℕ) (used : ℕ) (x : List ℕ)
    → IsSoundScan s → s.phase ≡ phase.Frame h n → used ≤ length piece
    → length s.buffer.items + used ≤ n + 10 → x ≡ s.buffer.items ++ take used piece
    → FrameTaken s h n piece used x
frame-taken s h n piece used x sound phase within whole is =
    let lu = length-take-le used piece within in
    let lx = ap length is ∙ length-append s.buffer.items (take used piece) in
    record {
      taken = lu;
      len = omega arith;
      before = subst (λ p. length (bytes_in p s.buffer.items) ≤ s.offset) phase sound.before;
      more = λ at front. frame-more s h n (take used piece) x at sound phase is (omega arith) front;
    }

-- ---- what is left of a candidate that failed

from-start-short : (t : List ℕ) → length (from_start t) ≤ length t
from-start-short [] = omega arith
from-start-short (b ∷ t) = by (is_start b) (from-start-short t)
  where
    by : (x : Bool) → length (from_start t) ≤ length t
        → length (if x then b ∷ t else from_start t) ≤ length (b ∷ t)
    by true less = omega arith
    by false less = omega arith

from-start-begins : (t : List ℕ) → 0 < length (from_start t)
    → is_start (slice_index (from_start t) 0) ≡ true
from-start-begins [] some = absurd (omega arith)
from-start-begins (b ∷ t) some = by (is_start b) refl (from-start-begins t) some
  where
    by : (x : Bool) → is_start b ≡ x
        → (0 < length (from_start t) → is_start (slice_index (from_start t) 0) ≡ true)
        → 0 < length (if x then b ∷ t else from_start t)
        → is_start (slice_index (if x then b ∷ t else from_start t) 0) ≡ true
    by true e ih some = e
    by false e ih some = ih some

-- what is held then
pub record Resumed (max : ℕ) (p : Phase) (y : List ℕ) : Type 0 where
  pub few : length y < 8
  pub bytes : bytes_in p y ≡ y
  pub skipped : skipped_in p ≡ 0
  pub left : left_in p ≡ 0
  pub fits : FitsPhase max p y

pub resumed : (max : ℕ) (p : Phase) (x y seen : List ℕ) → length x ≡ 8 → y ≡ from_start (drop 1 x)
    → seen ≡ y → (length seen ≡ 0 → p ≡ phase.Seeking) → (0 < length seen → p ≡ phase.Header)
    → Resumed max p y
resumed max p x y seen eight is same none some =
    let ly = ap length is in
    let short = from-start-short (drop 1 x) in
    let few : length y < 8 = omega (arith, length-drop 1 x) in
    by y (subst (λ t. length t ≡ 0 → p ≡ phase.Seeking) same none)
    (subst (λ t. 0 < length t → p ≡ phase.Header) same some) few
    (λ more. ap (λ t. is_start (slice_index t 0)) is
    ∙ from-start-begins (drop 1 x) (omega arith))
  where
    by : (y : List ℕ) → (length y ≡ 0 → p ≡ phase.Seeking) → (0 < length y → p ≡ phase.Header)
        → length y < 8 → (0 < length y → is_start (slice_index y 0) ≡ true) → Resumed max p y
    by [] none some few start =
        subst (λ q. Resumed max q []) (sym (none refl))
        (record { few = few; bytes = refl; skipped = refl; left = refl; fits = tt })
    by (b ∷ t) none some few start =
        let more : 0 < length (b ∷ t) = omega arith in
        subst (λ q. Resumed max q (b ∷ t)) (sym (some more))
        (record {
          few = few;
          bytes = refl;
          skipped = refl;
          left = refl;
          fits = record { some = more; few = few; start = start more };
        })

pub loss-lends : (at : ℕ) (lost : Bool) (given : Option Item) (lent : List ℕ)
    → LossTold at lost given → lent ≡ [] → LentBeside given lent
loss-lends at lost given lent told none =
    elim told [
      | inl yes_lost ↦ subst (λ g. LentBeside g lent) (sym yes_lost.1) none
      | inr not_lost ↦ subst
          (λ g. LentBeside g lent) (sym not_lost.1) none
    ]

-- a step that gives an item
pub takes-item : (v w : ReaderView) (piece : List ℕ) (used : ℕ) (given : Option Item)
    → used ≤ length piece → 0 < used → w.offset ≡ v.offset + used → w.max ≡ v.max
    → LentBeside given w.lent → length w.lent ≤ v.max
    → ((text : List ℕ) → StandsFor v text → GrowsBy v (take used piece) given w text)
    → TakesPiece v piece used given w
takes-item v w piece used given within some counted same lent lent_within grows = record {
  within = within;
  some = some;
  counted = counted;
  max = same;
  lent = lent;
  lent_within = lent_within;
  grows = grows;
}

-- ---- a whole data frame at the front of a piece, where nothing is held

frame-quiet : (s : Scan) (h : CountedFields) (u : List ℕ) → IsDataFrame s.max h u → (k : ℕ)
    → k < length u → (k < 8) ⊎ (8 ≤ k) → row s.max (next_place s.offset s.lost (take k u)) ≡ None
frame-quiet s h u f zero less few = row-nothing s.max (next_place s.offset s.lost []) refl
frame-quiet s h u f (suc k) less (inl few) =
    row-waits s.max (next_place s.offset s.lost (take (suc k) u))
    (ap is_start (index-take (suc k) 0 u (omega arith)) ∙ f.start)
    (omega (arith, length-take-le (suc k) u (omega arith)))
frame-quiet s h u f (suc k) less (inr more) =
    let l = length-take-le (suc k) u (omega arith) in
    row-short s.max s.offset s.lost (take (suc k) u) (Data h) h.count
    (ap is_start (index-take (suc k) 0 u (omega arith)) ∙ f.start) (omega (arith, l, more))
    (ap parsed (take-take 8 (suc k) u (omega (arith, more))) ∙ f.is) refl f.taken
    (omega (arith, l, f.size))

pub takes-frame : (s : Scan) (w : ReaderView) (piece : List ℕ) (h : CountedFields)
    → s.phase ≡ phase.Seeking → IsDataFrame s.max h (take (h.count + 10) piece)
    → w.lent ≡ take h.count (drop 8 piece)
    → After (view_of s) w (take (h.count + 10) piece) false [] 0 0
    → TakesPiece (view_of s) piece (h.count + 10) (Some (Good s.offset (Data h))) w
takes-frame s w piece h phase f lent a =
    let n = h.count in
    let u = take (n + 10) piece in
    let size = f.size in
    let within : n + 10 ≤ length piece = omega (arith, length-take (n + 10) piece, size) in
    let nothing : bytes_in s.phase s.buffer.items ≡ [] =
    ap (λ p. bytes_in p s.buffer.items) phase in
    let d : take n (drop 8 u) ≡ take n (drop 8 piece) =
    ap (λ k. take n (drop 8 (take k piece))) (omega arith)
    ∙ ap (take n) (drop-take 8 (n + 2) piece) ∙ take-take n (n + 2) (drop 8 piece) (omega arith) in
    let lent_is : w.lent ≡ take n (drop 8 u) = lent ∙ sym d in
    let whole = counted-whole (Data h) n u f.bytes (omega (arith, size)) f.is refl f.right in
    let all = take_all (n + 10) u (omega (arith, size)) in
    let row_is =
    row-whole s.max s.offset s.lost u (Data h) n true f.start (omega (arith, size)) f.is refl
    f.taken (omega (arith, size)) f.right in
    let place = next_place s.offset s.lost u in
    let m : More (view_of s) u u s.offset = record {
      none = ap left_in phase;
      bytes = ap (λ t. t ++ u) (sym nothing);
      at_front = omega (arith, ap length nothing);
    } in
    takes-item (view_of s) w piece (n + 10) (Some (Good s.offset (Data h))) within (omega arith)
    (omega (arith, a.counted, size)) a.max (subst (IsFrame (Data h)) (sym lent_is) whole.0)
    (omega (arith, ap length lent_is, length-take n (drop 8 u), f.taken)) (λ text.
    gives (view_of s) w text u u s.offset (Good s.offset (Data h)) (n + 10) m
    (row_is
    ∙ ap (λ l. Some ((Good s.offset (Data h), l) ∷ [], place_after (n + 10) false place))
    (sym lent_is)) (omega (arith, size))
    (λ k less. ap (λ t. row s.max (next_place s.offset s.lost (t ++ take k u))) nothing
    ∙ frame-quiet s h u f k less (cases_lt k 8))
    (λ y ends. ends ∙ sym all ∙ whole.1 ∙ ap (wire (Data h)) (sym lent_is)) a)

-- nothing is held between two frames alone
pub seeking : (s : Scan) → IsSoundScan s → bytes_in s.phase s.buffer.items ≡ []
    → left_in s.phase ≡ 0 → s.phase ≡ phase.Seeking
seeking s sound none past = by s.phase sound.fits none past
  where
    by : (p : Phase) → FitsPhase s.max p s.buffer.items → bytes_in p s.buffer.items ≡ []
        → left_in p ≡ 0 → p ≡ phase.Seeking
    by phase.Seeking fits none past = refl
    by phase.Header fits none past = absurd (omega (arith, fits.some, ap length none))
    by (phase.Frame h n) fits none past = absurd (omega (arith, fits.full, ap length none))
    by (phase.TooLong skipped left) fits none past = absurd (omega (arith, fits.0, past))

-- what a reader finds of a data frame with which a piece begins
pub record Begun (piece : List ℕ) (h : CountedFields) : Type 0 where
  pub long : h.count + 10 ≤ length piece
  pub first : slice_index (take 8 piece) 0 ≡ DATA_START
  pub is : parsed (take 8 piece) ≡ Ok (Data h)
  pub right : is_data_right h.count (take (h.count + 10) piece) ≡ true

wire-first : (h : CountedFields) (message rest : List ℕ)
    → slice_index (take 8 (wire (Data h) message ++ rest)) 0 ≡ DATA_START
unfolding wire six_bytes
wire-first h message rest = refl

pub begun : (max : ℕ) (piece : List ℕ) (h : CountedFields) (message rest : List ℕ)
    → BeginsWith max piece h message rest → Begun piece h
begun max piece h message rest b =
    let w = wire (Data h) message in
    let lw = length-wire (Data h) message b.frame in
    let front : take (h.count + 10) piece ≡ w =
    ap (λ k. take k piece) (sym lw) ∙ ap (take (length w)) b.is ∙ take-append_seam w rest in
    record {
      long = omega (arith, ap length b.is, length-append w rest, lw);
      first = ap (λ t. slice_index (take 8 t) 0) b.is ∙ wire-first h message rest;
      is = ap (λ t. parsed (take 8 t)) b.is ∙ ap parsed (wire-front (Data h) message rest)
          ∙ eight-parsed (Data h) b.range;
      right = ap (is_data_right h.count) front ∙ wire-right (Data h) h.count message refl b.frame;
    }
