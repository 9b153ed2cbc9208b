-- What a piece of the line does, part by part.
use Rattle.std.proofs.Common.{◌≡◌, ℕ, ◌+◌, ◌-◌, ◌<◌, ◌≤◌, List, [], ◌∷◌, ◌++◌, length, take, drop}
use Rattle.std.proofs.Common.{◌⊎◌, inl, inr, refl, sym, ◌∙◌, ap, subst, append_assoc, append-nil}
use Rattle.std.proofs.Common.{arith, take_all, length-drop, Option, None}
use Rattle.std.specs.Prelude.{option_to_list}
use Rattle.std.proofs.lemmas.Bool.{cases_lt}
use Rattle.std.proofs.lemmas.List.{length-take-le, take-take}
use Rattle.std.proofs.Math.Seq.{drop-append_seam, drop-length, take-add}
use Rattle.ddcmp_frame.specs.Reading.{ReadItem, items}
use Rattle.ddcmp_frame.proofs.ReadingLaws.{items-more}
use Rattle.ddcmp_frame.proofs.PartLaws.{stands-unlent}
use Rattle.ddcmp_frame.specs.declared.item.Item.{Item}
use Rattle.ddcmp_frame.specs.Reader.{ReaderView, StandsFor, items_given}
use Rattle.ddcmp_core.specs.declared.notice.Notice.{Notice}
use Rattle.ddcmp_core.specs.Core.{CoreView}
use Rattle.ddcmp_core.specs.Table.{acknowledged_by}
use Rattle.ddcmp_proto.specs.Station.{StationView}
use Rattle.ddcmp_proto.specs.Inside.OnePart.{TakesPart}
use Rattle.ddcmp_proto.specs.Bytes.{after_item, notices_of_item, after_items, notices_of_items}
use Rattle.ddcmp_proto.specs.Bytes.{items_added, after_piece, notices_of_piece}

pub after_items-append : (x y : List ReadItem) (k : CoreView)
    → after_items (x ++ y) k ≡ after_items y (after_items x k)
unfolding after_items
after_items-append [] y k = refl
after_items-append (g ∷ x) y k = after_items-append x y (after_item g k)

pub notices_of_items-append : (x y : List ReadItem) (k : CoreView)
    → notices_of_items (x ++ y) k ≡ notices_of_items x k ++ notices_of_items y (after_items x k)
unfolding after_items notices_of_items
notices_of_items-append [] y k = refl
notices_of_items-append (g ∷ x) y k =
    ap (λ t. notices_of_item g k ++ t) (notices_of_items-append x y (after_item g k))
    ∙ sym (append_assoc (notices_of_item g k) _ _)

pub after_items-limits : (x : List ReadItem) (k : CoreView) → (after_items x k).limits ≡ k.limits
unfolding after_items
after_items-limits [] k = refl
after_items-limits (g ∷ x) k = after_items-limits x (after_item g k)

pub after_items-none : (k : CoreView) → after_items [] k ≡ k
unfolding after_items
after_items-none k = refl

pub notices_of_items-none : (k : CoreView) → notices_of_items [] k ≡ []
unfolding notices_of_items
notices_of_items-none k = refl

pub after_items-single : (g : ReadItem) (k : CoreView) → after_items (g ∷ []) k ≡ after_item g k
unfolding after_items
after_items-single g k = refl

pub notices_of_items-single : (g : ReadItem) (k : CoreView)
    → notices_of_items (g ∷ []) k ≡ notices_of_item g k
unfolding notices_of_items
notices_of_items-single g k = append-nil (notices_of_item g k)

-- the items that a piece adds are those that its text has after the earlier ones
pub items_added-is : (max : ℕ) (text u : List ℕ) (given : List ReadItem)
    → items max (text ++ u) ≡ items max text ++ given → items_added max text u ≡ given
items_added-is max text u given e =
    ap (drop (length (items max text))) e ∙ drop-append_seam (items max text) given

pub items_added-all : (max : ℕ) (text u : List ℕ)
    → items max (text ++ u) ≡ items max text ++ items_added max text u
items_added-all max text u =
    items-more max text u
    ∙ ap (λ x. items max text ++ x) (sym (items_added-is max text u _ (items-more max text u)))

pub items_added-append : (max : ℕ) (text u v : List ℕ)
    → items_added max text (u ++ v) ≡ items_added max text u ++ items_added max (text ++ u) v
items_added-append max text u v =
    items_added-is max text (u ++ v) _
    (ap (items max) (sym (append_assoc text u v)) ∙ items_added-all max (text ++ u) v
    ∙ ap (λ x. x ++ items_added max (text ++ u) v) (items_added-all max text u)
    ∙ append_assoc (items max text) _ _)

pub items_added-none : (max : ℕ) (text : List ℕ) → items_added max text [] ≡ []
items_added-none max text =
    ap (λ t. drop (length (items max text)) (items max t)) (append-nil text)
    ∙ drop-length (items max text)

pub after_piece-limits : (text u : List ℕ) (k : CoreView) → (after_piece text u k).limits ≡ k.limits
after_piece-limits text u k = after_items-limits (items_added k.limits.longest text u) k

pub after_piece-none : (text : List ℕ) (k : CoreView) → after_piece text [] k ≡ k
after_piece-none text k =
    ap (λ x. after_items x k) (items_added-none k.limits.longest text) ∙ after_items-none k

pub notices_of_piece-none : (text : List ℕ) (k : CoreView) → notices_of_piece text [] k ≡ []
notices_of_piece-none text k =
    ap (λ x. notices_of_items x k) (items_added-none k.limits.longest text)
    ∙ notices_of_items-none k

pub after_piece-append : (text u v : List ℕ) (k : CoreView)
    → after_piece text (u ++ v) k ≡ after_piece (text ++ u) v (after_piece text u k)
after_piece-append text u v k =
    ap (λ x. after_items x k) (items_added-append k.limits.longest text u v)
    ∙ after_items-append _ _ k
    ∙ ap (λ l. after_items (items_added l.longest (text ++ u) v) (after_piece text u k))
    (sym (after_piece-limits text u k))

pub notices_of_piece-append : (text u v : List ℕ) (k : CoreView)
    → notices_of_piece text (u ++ v) k
    ≡ notices_of_piece text u k ++ notices_of_piece (text ++ u) v (after_piece text u k)
notices_of_piece-append text u v k =
    ap (λ x. notices_of_items x k) (items_added-append k.limits.longest text u v)
    ∙ notices_of_items-append _ _ k
    ∙ ap
    (λ l. notices_of_piece text u k
    ++ notices_of_items (items_added l.longest (text ++ u) v) (after_piece text u k))
    (sym (after_piece-limits text u k))

-- ---- bytes up to an item

pub after_piece-given : (max : ℕ) (text u : List ℕ) (given : List ReadItem) (k : CoreView)
    → max ≡ k.limits.longest → items max (text ++ u) ≡ items max text ++ given
    → (after_piece text u k ≡ after_items given k)
    × (notices_of_piece text u k ≡ notices_of_items given k)
after_piece-given max text u given k e its =
    let a : items_added k.limits.longest text u ≡ given =
    subst (λ m. items_added m text u ≡ given) e (items_added-is max text u given its) in
    (ap (λ x. after_items x k) a, ap (λ x. notices_of_items x k) a)

-- a reader took bytes of which only the last may have completed an item
pub record Pushed (line after : ReaderView) (bytes : List ℕ) (given : List ReadItem) : Type 0 where
  pub stands : (text : List ℕ) → StandsFor line text → StandsFor after (text ++ bytes)
  pub item : (text : List ℕ) → StandsFor line text
      → items line.max (text ++ bytes) ≡ items line.max text ++ given
  pub first : (text : List ℕ) (n : ℕ) → StandsFor line text → n < length bytes
      → items line.max (text ++ take n bytes) ≡ items line.max text
  pub counted : after.offset ≡ line.offset + length bytes

-- the same, by what `push_all` ensures
pub pushed-part : (line after : ReaderView) (piece : List ℕ) (used : ℕ) (item : Option Item)
    → used ≤ length piece
    → ((text : List ℕ) → StandsFor line text → StandsFor after (text ++ take used piece))
    → ((text : List ℕ) → StandsFor line text
    → items line.max (text ++ take used piece)
    ≡ items line.max text ++ items_given item after.lent)
    → ((text : List ℕ) (n : ℕ) → StandsFor line text → n < used
    → items line.max (text ++ take n piece) ≡ items line.max text)
    → after.offset ≡ line.offset + used
    → Pushed line after (take used piece) (items_given item after.lent)
pushed-part line after piece used item within stands gave first counted =
    let len = length-take-le used piece within in
    record {
      stands = stands;
      item = gave;
      first =
          λ text n s few. ap (λ t. items line.max (text ++ t))
          (take-take n used piece (omega (arith, few, len)))
          ∙ first text n s (omega (arith, few, len));
      counted = counted ∙ ap (λ n. line.offset + n) (sym len);
    }

pub part-none : (core : CoreView) (syn : ℕ) (line after : ReaderView) (bytes : List ℕ)
    → line.max ≡ core.limits.longest → Pushed line after bytes []
    → TakesPart (record { core = core; syn = syn; line = line }) bytes
    (record { core = core; syn = syn; line = after }) None
part-none core syn line after bytes m p = record {
  given = [];
  stands = p.stands;
  items_are = p.item;
  first = p.first;
  core = sym (after_items-none core);
  told = sym (notices_of_items-none core);
  leaves = omega arith;
  offset = p.counted;
  longest = m;
  limits = refl;
  syn = refl;
}

-- what is lent beside the item lies in the reader, or in the piece
pub part-some : (core : CoreView) (syn : ℕ) (line after : ReaderView) (lent bytes : List ℕ)
    (item : Item) (new : StationView) (notice : Option Notice)
    → line.max ≡ core.limits.longest
    → Pushed line (record after { lent = lent }) bytes ((item, lent) ∷ [])
    → new ≡ record { core = after_item (item, lent) core; syn = syn; line = after }
    → option_to_list notice ≡ notices_of_item (item, lent) core
    → acknowledged_by notice + length new.core.station.out ≤ length core.station.out
    → TakesPart (record { core = core; syn = syn; line = line }) bytes new notice
part-some core syn line after lent bytes item new notice m p e t left =
    subst (λ v. TakesPart (record { core = core; syn = syn; line = line }) bytes v notice) (sym e)
    (record {
      given = (item, lent) ∷ [];
      stands = λ text s. stands-unlent (record after { lent = lent }) after.lent (text ++ bytes)
          (p.stands text s);
      items_are = p.item;
      first = p.first;
      core = sym (after_items-single (item, lent) core);
      told = t ∙ sym (notices_of_items-single (item, lent) core);
      leaves =
          subst (λ v. acknowledged_by notice + length v.core.station.out ≤ length core.station.out)
          e left;
      offset = p.counted;
      longest = m;
      limits = refl;
      syn = refl;
    })

-- ---- part after part

-- the first i bytes of a piece were taken, and gave no notice
pub record FedPart (old : StationView) (piece : List ℕ) (i : ℕ) (new : StationView) : Type 0 where
  pub stands : (text : List ℕ) → StandsFor old.line text → StandsFor new.line (text ++ take i piece)
  pub core : (text : List ℕ) → StandsFor old.line text
      → new.core ≡ after_piece text (take i piece) old.core
  pub quiet : (text : List ℕ) (n : ℕ) → StandsFor old.line text → n ≤ i
      → notices_of_piece text (take n piece) old.core ≡ []
  pub leaves : length new.core.station.out ≤ length old.core.station.out
  pub offset : new.line.offset ≡ old.line.offset + i
  pub limits : new.core.limits ≡ old.core.limits
  pub syn : new.syn ≡ old.syn

pub fed-nothing : (old : StationView) (piece : List ℕ) → FedPart old piece 0 old
fed-nothing old piece = record {
  stands = λ text s. subst (StandsFor old.line) (sym (append-nil text)) s;
  core = λ text s. sym (after_piece-none text old.core);
  quiet =
      λ text n s few. subst (λ k. notices_of_piece text (take k piece) old.core ≡ [])
      (zero_only n few) (notices_of_piece-none text old.core);
  leaves = omega arith;
  offset = omega arith;
  limits = refl;
  syn = refl;
}
  where
    zero_only : (n : ℕ) → n ≤ 0 → 0 ≡ n
    zero_only n h = omega arith

-- bytes up to an item more, with whatever notice
pub record FedNext (old : StationView) (piece : List ℕ) (i : ℕ) (new : StationView)
    (notice : Option Notice) : Type 0 where
  pub stands : (text : List ℕ) → StandsFor old.line text → StandsFor new.line (text ++ take i piece)
  pub core : (text : List ℕ) → StandsFor old.line text
      → new.core ≡ after_piece text (take i piece) old.core
  pub told : (text : List ℕ) → StandsFor old.line text
      → notices_of_piece text (take i piece) old.core ≡ option_to_list notice
  pub first : (text : List ℕ) (n : ℕ) → StandsFor old.line text → n < i
      → notices_of_piece text (take n piece) old.core ≡ []
  pub leaves : acknowledged_by notice + length new.core.station.out ≤ length old.core.station.out
  pub offset : new.line.offset ≡ old.line.offset + i
  pub limits : new.core.limits ≡ old.core.limits
  pub syn : new.syn ≡ old.syn

pub fed-next : (old mid new : StationView) (piece : List ℕ) (i k : ℕ) (notice : Option Notice)
    → k ≤ length (drop i piece)
    → FedPart old piece i mid → TakesPart mid (take k (drop i piece)) new notice
    → FedNext old piece (i + k) new notice
fed-next old mid new piece i k notice within h t = record {
  stands =
      λ text s. subst (StandsFor new.line)
      (append_assoc text front bytes ∙ ap (λ p. text ++ p) (sym both))
      (t.stands (text ++ front) (h.stands text s));
  core = λ text s.
      t.core ∙ sym (given text s).0 ∙ ap (λ k. after_piece (text ++ front) bytes k) (h.core text s)
      ∙ sym (after_piece-append text front bytes old.core)
      ∙ ap (λ p. after_piece text p old.core) (sym both);
  told = λ text s.
      ap (λ p. notices_of_piece text p old.core) both
      ∙ notices_of_piece-append text front bytes old.core
      ∙ ap (λ l. l ++ notices_of_piece (text ++ front) bytes (after_piece text front old.core))
      (h.quiet text i s (omega arith))
      ∙ ap (λ k. notices_of_piece (text ++ front) bytes k) (sym (h.core text s)) ∙ (given text s).1
      ∙ sym t.told;
  first = λ text n s few. by text n s few (cases_lt n (i + 1));
  leaves = omega (arith, t.leaves, h.leaves);
  offset = omega (arith, t.offset, h.offset, length-take-le k (drop i piece) within);
  limits = t.limits ∙ h.limits;
  syn = t.syn ∙ h.syn;
}
  where
    front : List ℕ
    front = take i piece

    bytes : List ℕ
    bytes = take k (drop i piece)

    both : take (i + k) piece ≡ front ++ bytes
    both = take-add i k piece

    given : (text : List ℕ) → StandsFor old.line text
        → (after_piece (text ++ front) bytes mid.core ≡ after_items t.given mid.core)
        × (notices_of_piece (text ++ front) bytes mid.core ≡ notices_of_items t.given mid.core)
    given text s =
        after_piece-given mid.line.max (text ++ front) bytes t.given mid.core t.longest
        (t.items_are (text ++ front) (h.stands text s))

    -- no byte before the last one gave a notice
    none : (text : List ℕ) (m : ℕ) → StandsFor old.line text → m < k
        → notices_of_piece (text ++ front) (take m bytes) mid.core ≡ []
    none text m s few =
        let quiet =
        t.first (text ++ front) m (h.stands text s)
        (omega (arith, few, length-take-le k (drop i piece) within)) in
        (after_piece-given mid.line.max (text ++ front) (take m bytes) [] mid.core t.longest
        (quiet ∙ sym (append-nil (items mid.line.max (text ++ front))))).1
        ∙ notices_of_items-none mid.core

    by : (text : List ℕ) (n : ℕ) → StandsFor old.line text → n < i + k → (n < i + 1) ⊎ (i + 1 ≤ n)
        → notices_of_piece text (take n piece) old.core ≡ []
    by text n s few (inl less) = h.quiet text n s (omega arith)
    by text n s few (inr more) =
        let m = n - i in
        let e : n ≡ i + m = omega arith in
        let part : take n piece ≡ front ++ take m bytes =
        ap (λ j. take j piece) e ∙ take-add i m piece
        ∙ ap (λ y. front ++ y) (sym (take-take m k (drop i piece) (omega arith))) in
        ap (λ p. notices_of_piece text p old.core) part
        ∙ notices_of_piece-append text front (take m bytes) old.core
        ∙ ap
        (λ l. l
        ++ notices_of_piece (text ++ front) (take m bytes) (after_piece text front old.core))
        (h.quiet text i s (omega arith))
        ∙ ap (λ j. notices_of_piece (text ++ front) (take m bytes) j) (sym (h.core text s))
        ∙ none text m s (omega arith)

-- the same of the slice that is left of a piece
pub fed-on : (old mid new : StationView) (piece : List ℕ) (i k : ℕ) (notice : Option Notice)
    → k ≤ length (take (length piece - i) (drop i piece))
    → FedPart old piece i mid
    → TakesPart mid (take k (take (length piece - i) (drop i piece))) new notice
    → FedNext old piece (i + k) new notice
fed-on old mid new piece i k notice within h t =
    let rest = take_all (length piece - i) (drop i piece) (omega (arith, length-drop i piece)) in
    fed-next old mid new piece i k notice (subst (λ r. k ≤ length r) rest within) h
    (subst (λ r. TakesPart mid (take k r) new notice) rest t)

pub fed-quiet : (old new : StationView) (piece : List ℕ) (i : ℕ) → FedNext old piece i new None
    → FedPart old piece i new
fed-quiet old new piece i h = record {
  stands = h.stands;
  core = h.core;
  quiet = λ text n s few. by text n s (cases_lt n i) few;
  leaves = omega (arith, h.leaves);
  offset = h.offset;
  limits = h.limits;
  syn = h.syn;
}
  where
    by : (text : List ℕ) (n : ℕ) → StandsFor old.line text → (n < i) ⊎ (i ≤ n) → n ≤ i
        → notices_of_piece text (take n piece) old.core ≡ []
    by text n s (inl few) most = h.first text n s few
    by text n s (inr all) most =
        subst (λ k. notices_of_piece text (take k piece) old.core ≡ [])
        (let e : i ≡ n = omega (arith, all, most) in e) (h.told text s)
