-- What a station reads from any line: frames that are short enough, and no others than were sent.
use Rattle.std.proofs.Common.{◌≡◌, ◌≤◌, ℕ, Bool, true, false, cond, List, [], ◌∷◌, ◌++◌, length}
use Rattle.std.proofs.Common.{take, drop, refl, sym, ◌∙◌, ap, subst, arith, inl, inr, Option, Some}
use Rattle.std.proofs.Common.{None, Ok, Err, Result}
use Rattle.std.specs.Prelude.{nat_lt, ◌&&◌}
use Rattle.std.proofs.Common.{zero, suc, ◌+◌}
use Rattle.ddcmp_frame.specs.declared.header.Header.{Header}
use Rattle.ddcmp_frame.specs.declared.header.HeaderFault.{HeaderFault}
use Rattle.ddcmp_frame.specs.declared.header.HeaderFault.TheVariants.{NotAStart, Check, BadType}
use Rattle.ddcmp_frame.specs.declared.header.HeaderFault.TheVariants.{CountZero}
use Rattle.ddcmp_frame.specs.declared.item.Item.TheVariants as item
use Rattle.ddcmp_frame.specs.Spelling.{parsed}
use Rattle.ddcmp_frame.specs.Rows.{read_rows}
use Rattle.ddcmp_frame.specs.Reading.{ReadItem, Place, place_after, is_start, count_of, row, weight}
use Rattle.ddcmp_frame.specs.Reading.{by_length, by_count, by_verdict, by_front, beginning, items}
use Rattle.ddcmp_frame.specs.Reading.{good_frames, good_frames_in, read, is_data_right}
use Rattle.ddcmp_frame.specs.Reading.{data_after_header}
use Rattle.ddcmp_frame.proofs.ReadingLaws.{Row, items-more, items-nothing, row-falls}
use Rattle.ddcmp_frame.proofs.RowsLaws as rows
use Rattle.ddcmp_frame.proofs.Tests.{ltb-not, none-some, some-inj}
use Rattle.ddcmp_core.specs.Table.{Limits}
use Rattle.ddcmp_proto.specs.Bytes.{items_added}
use Rattle.ddcmp_pair.specs.Place.{WholeFrame, IsSubsequence}
use Rattle.ddcmp_pair.proofs.Places.{good_frames_in-append}
use Rattle.ddcmp_pair.proofs.Subsequences.{place-decides}
use Rattle.ddcmp_laws.proofs.ClearReads.{AllShort, short_more}
use Rattle.ddcmp_laws.proofs.FaithfulLaws.{AllReceivable, AllWritable, IsWritable, all_behind}
use Rattle.ddcmp_laws.proofs.FaithfulLaws.{IsStraight, one_more, well_event}
use Rattle.ddcmp_io.specs.declared.carrier.End.TheVariants.{A, B}
use Rattle.ddcmp_pair.specs.declared.event.Event.TheVariants as event
use Rattle.ddcmp_pair.specs.Run.{PairState, after_event}

-- ---- good frames are short enough

abbrev Short : ℕ → List ReadItem → Type 0
Short max given = AllShort max (good_frames_in given)

short-lost : (max : ℕ) (o : ℕ) (lost : Bool)
    → Short max (cond lost [] ((item.HeaderCheck o, []) ∷ []))
unfolding good_frames_in
short-lost max o true = tt
short-lost max o false = tt

take-at-most : (n : ℕ) (t : List ℕ) → length (take n t) ≤ n
take-at-most zero t = omega arith
take-at-most (suc n) [] = omega arith
take-at-most (suc n) (b ∷ t) = let l = take-at-most n t in omega (arith, l)

short-whole : (max n : ℕ) (o : ℕ) (h : Header) (t : List ℕ) (right : Bool) → n ≤ max
    → Short max ((cond right (item.Good o h, data_after_header n t) (item.DataCheck o h, [])) ∷ [])
unfolding good_frames_in
short-whole max n o h t true l = (let k = take-at-most n (drop 8 t) in omega (arith, k, l), tt)
short-whole max n o h t false l = tt

short-length : (max : ℕ) (p : Place) (h : Header) (n : ℕ) (r : Row) (long : Bool)
    → nat_lt max n ≡ long → (told : Bool) → by_length p h n long told ≡ Some r → Short max r.0
unfolding good_frames_in
short-length max p h n r true is false e =
    subst (λ (x : Row). Short max x.0) (some-inj e) tt
short-length max p h n r true is true e = by (nat_lt (length p.rest) (n + 10)) e
  where
    by : (b : Bool)
        → cond b None (Some ([], place_after (n + 10) false p)) ≡ Some r → Short max r.0
    by true e = absurd (none-some e)
    by false e = subst (λ (x : Row). Short max x.0) (some-inj e) tt
short-length max p h n r false is told e = by (nat_lt (length p.rest) (n + 10)) e
  where
    by : (b : Bool)
        → cond b None
        (Some (
          (cond (is_data_right n p.rest) (item.Good p.offset h, data_after_header n p.rest)
              (item.DataCheck p.offset h, [])) ∷ [],
          place_after (n + 10) false p,
        )) ≡ Some r → Short max r.0
    by true e = absurd (none-some e)
    by false e =
        subst (λ (x : Row). Short max x.0) (some-inj e)
        (short-whole max n p.offset h p.rest (is_data_right n p.rest) (ltb-not max n is))

short-count : (max : ℕ) (p : Place) (h : Header) (r : Row) (n : Option ℕ)
    → by_count max p h n ≡ Some r → Short max r.0
unfolding good_frames_in
short-count max p h r None e =
    subst (λ (x : Row). Short max x.0) (some-inj e) (omega arith, tt)
short-count max p h r (Some n) e = short-length max p h n r (nat_lt max n) refl p.told e

short-verdict : (max : ℕ) (p : Place) (r : Row) (v : Result Header HeaderFault)
    → by_verdict max p v ≡ Some r → Short max r.0
unfolding good_frames_in
short-verdict max p r (Err NotAStart) e = subst (λ (x : Row). Short max x.0) (some-inj e) tt
short-verdict max p r (Err Check) e =
    subst (λ (x : Row). Short max x.0) (some-inj e) (short-lost max p.offset p.lost)
short-verdict max p r (Err (BadType c)) e = subst (λ (x : Row). Short max x.0) (some-inj e) tt
short-verdict max p r (Err CountZero) e = subst (λ (x : Row). Short max x.0) (some-inj e) tt
short-verdict max p r (Ok h) e = short-count max p h r (count_of h) e

short-front : (max : ℕ) (p : Place) (r : Row) (t : List ℕ) → by_front max p t ≡ Some r
    → Short max r.0
unfolding good_frames_in
short-front max p r [] e = absurd (none-some e)
short-front max p r (b ∷ t) e = by (is_start b) (nat_lt (length (b ∷ t)) 8) e
  where
    by : (start few : Bool)
        → cond start (cond few None (by_verdict max p (parsed (take 8 (b ∷ t)))))
        (Some ([], place_after 1 p.lost p)) ≡ Some r
        → Short max r.0
    by true true e = absurd (none-some e)
    by true false e = short-verdict max p r (parsed (take 8 (b ∷ t))) e
    by false few e = subst (λ (x : Row). Short max x.0) (some-inj e) tt

pub good-short : (max : ℕ) (text : List ℕ) → AllShort max (good_frames max text)
unfolding items read row good_frames_in
good-short max text =
    rows.by_rows (row max) weight (row-falls max) (λ q o. Short max o.items) (λ q e. tt)
    (λ q r e h.
    subst (AllShort max)
    (sym (good_frames_in-append r.0 (read_rows (row max) weight r.1).items))
    (short_more max (good_frames_in r.0) (good_frames_in (read_rows (row max) weight r.1).items)
    (short-front max q r q.rest e) h)) (beginning text)

-- ---- frames among others

pub among-more : (fs gs hs : List WholeFrame) → IsSubsequence fs gs → IsSubsequence gs hs
    → IsSubsequence fs hs
among-more [] gs hs a b = tt
among-more (f ∷ fs) [] hs a b = absurd a
among-more (f ∷ fs) (g ∷ gs) [] a b = absurd b
among-more (f ∷ fs) (g ∷ gs) (h ∷ hs) (inl a) (inl b) =
    inl (a.0 ∙ b.0, among-more fs gs hs a.1 b.1)
among-more (f ∷ fs) (g ∷ gs) (h ∷ hs) (inr a) (inl b) =
    inr (among-more (f ∷ fs) gs hs a b.1)
among-more (f ∷ fs) (g ∷ gs) (h ∷ hs) a (inr b) = inr (among-more (f ∷ fs) (g ∷ gs) hs a b)

among-none : (fs : List WholeFrame) → IsSubsequence fs [] → fs ≡ []
among-none [] a = refl
among-none (f ∷ fs) a = absurd a

pub none-good : (max : ℕ) (text : List ℕ)
    → IsSubsequence (good_frames max text) (good_frames max [])
    → good_frames max text ≡ []
unfolding good_frames_in
none-good max text a =
    among-none (good_frames max text)
    (subst (IsSubsequence (good_frames max text)) (ap good_frames_in (items-nothing max)) a)

-- ---- what is read of them can be received

first-writable : (f : WholeFrame) (fs sent : List WholeFrame) → IsSubsequence (f ∷ fs) sent
    → AllWritable sent → IsWritable f × IsSubsequence fs sent
first-writable f fs [] a all = absurd a
first-writable f fs (g ∷ sent) (inl a) all =
    (subst IsWritable (sym a.0) all.0, one_more fs sent g a.1)
first-writable f fs (g ∷ sent) (inr a) all =
    let r = first-writable f fs sent a all.1 in (r.0, one_more fs sent g r.1)

all-receivable : (l : Limits) (given : List ReadItem) (sent : List WholeFrame)
    → Short l.longest given → IsSubsequence (good_frames_in given) sent → AllWritable sent
    → AllReceivable l given
unfolding good_frames_in
all-receivable l [] sent short a all = tt
all-receivable l ((item.Good o h, d) ∷ rest) sent short a all =
    let r = first-writable (h, d) (good_frames_in rest) sent a all in
    (r.0.receivable l short.0, all-receivable l rest sent short.1 r.1 all)
all-receivable l ((item.HeaderCheck o, d) ∷ rest) sent short a all =
    (tt, all-receivable l rest sent short a all)
all-receivable l ((item.DataCheck o h, d) ∷ rest) sent short a all =
    (tt, all-receivable l rest sent short a all)
all-receivable l ((item.TooLong o h, d) ∷ rest) sent short a all =
    (tt, all-receivable l rest sent short a all)
all-receivable l ((item.Format o f, d) ∷ rest) sent short a all =
    (tt, all-receivable l rest sent short a all)

added-receivable : (l : Limits) (text bytes : List ℕ) (sent : List WholeFrame)
    → IsSubsequence (good_frames l.longest (text ++ bytes)) sent → AllWritable sent
    → AllReceivable l (items_added l.longest text bytes)
added-receivable l text bytes sent a all =
    let max = l.longest in
    let more = items-more max text bytes in
    let its =
    all-receivable l (items max (text ++ bytes)) sent (good-short max (text ++ bytes)) a all in
    subst (λ (z : List ReadItem). AllReceivable l (drop (length (items max text)) z)) (sym more)
    (all_behind l (items max text) _ (subst (AllReceivable l) more its))

-- ---- an arrival of frames that were sent

both-true : (x y : Bool) → x ≡ true → y ≡ true → (x && y) ≡ true
both-true true y e f = f
both-true false y e f = e

pub straight-at-a : (bytes : List ℕ) (p : PairState)
    → IsSubsequence (good_frames p.a.core.limits.longest (p.a.arrived ++ bytes)) p.b.sent
    → IsStraight p → IsStraight (after_event (event.Arrive A bytes) p)
unfolding after_event
straight-at-a bytes p a h = record {
  a =
      well_event (event.Arrive A bytes) p.a
      (added-receivable p.a.core.limits p.a.arrived bytes p.b.sent a h.b.sent) h.a;
  b = h.b;
  honest = both-true _ p.honest ((place-decides _ p.b.sent).1 a) h.honest;
}

pub straight-at-b : (bytes : List ℕ) (p : PairState)
    → IsSubsequence (good_frames p.b.core.limits.longest (p.b.arrived ++ bytes)) p.a.sent
    → IsStraight p → IsStraight (after_event (event.Arrive B bytes) p)
unfolding after_event
straight-at-b bytes p a h = record {
  a = h.a;
  b =
      well_event (event.Arrive B bytes) p.b
      (added-receivable p.b.core.limits p.b.arrived bytes p.a.sent a h.a.sent) h.b;
  honest = both-true _ p.honest ((place-decides _ p.a.sent).1 a) h.honest;
}
