-- What parts of a piece do, one after the other, to what a reader holds.
use Rattle.std.proofs.Common.{◌≡◌, ℕ, ◌+◌, ◌-◌, ◌<◌, ◌≤◌, List, [], ◌∷◌, ◌++◌, length, take, drop}
use Rattle.std.proofs.Common.{sym, ◌∙◌, ap, subst, arith, Some, None, Option, ◌⊎◌, inl, inr}
use Rattle.std.proofs.Common.{append_assoc, append-nil, length-drop}
use Rattle.std.proofs.lemmas.List.{length-take, length-take-le, take-take}
use Rattle.std.proofs.lemmas.Bool.{cases_lt}
use Rattle.std.proofs.Math.Seq.{take-add}
use Rattle.ddcmp_frame.specs.declared.item.Item.{Item}
use Rattle.ddcmp_frame.specs.Reading.{items}
use Rattle.ddcmp_frame.specs.Reader.{ReaderView, StandsFor, EndsWith, items_given, Grows}
use Rattle.ddcmp_frame.specs.Reader.{PushesAll}
use Rattle.ddcmp_frame.specs.Inside.Scan.{GrowsBy, TakesPiece, TakesAll}
use Rattle.ddcmp_frame.proofs.Tests.{some-none}

-- ---- step after step

-- the first bytes of a piece were taken, and gave no item
pub record TakesPart (old : ReaderView) (piece : List ℕ) (used : ℕ) (new : ReaderView)
    : Type 0 where
  pub within : used ≤ length piece
  pub counted : new.offset ≡ old.offset + used
  pub max : new.max ≡ old.max
  pub grows : (text : List ℕ) → StandsFor old text → GrowsBy old (take used piece) None new text

-- a part of a piece and then more of it
pub grows-on : (old mid new : ReaderView) (piece : List ℕ) (a b : ℕ) (given : Option Item)
    (text : List ℕ) → a ≤ length piece → b ≤ length (drop a piece) → mid.max ≡ old.max
    → GrowsBy old (take a piece) None mid text
    → GrowsBy mid (take b (drop a piece)) given new (text ++ take a piece)
    → GrowsBy old (take (a + b) piece) given new text
grows-on old mid new piece a b given text la lb same f g =
    let front = take a piece in
    let back = take b (drop a piece) in
    let both : take (a + b) piece ≡ front ++ back = take-add a b piece in
    let whole : text ++ take (a + b) piece ≡ (text ++ front) ++ back =
    ap (λ t. text ++ t) both ∙ sym (append_assoc text front back) in
    let quiet : items old.max (text ++ front) ≡ items old.max text =
    f.items ∙ append-nil (items old.max text) in
    record {
      stands = subst (StandsFor new) (sym whole) g.stands;
      first = λ n few. by n few (cases_lt n a) quiet;
      items =
          ap (items old.max) whole
          ∙ ap (λ m. items m ((text ++ front) ++ back)) (sym same)
          ∙ g.items
          ∙ ap (λ m. items m (text ++ front) ++ items_given given new.lent) same
          ∙ ap (λ t. t ++ items_given given new.lent) quiet;
      wire = subst (EndsWith given new.lent) (sym whole) g.wire;
    }
  where
    by : (n : ℕ) → n < length (take (a + b) piece) → (n < a) ⊎ (a ≤ n)
        → items old.max (text ++ take a piece) ≡ items old.max text
        → items old.max (text ++ take n (take (a + b) piece)) ≡ items old.max text
    by n few (inl less) quiet =
        ap (λ t. items old.max (text ++ t))
        (take-take n (a + b) piece (omega arith) ∙ sym (take-take n a piece (omega arith)))
        ∙ f.first n (omega (arith, length-take-le a piece la))
    by n few (inr most) quiet =
        let k = n - a in
        let e : n ≡ a + k = omega arith in
        let lk : k < length (take b (drop a piece)) =
        omega (arith, length-take (a + b) piece, length-take-le b (drop a piece) lb) in
        ap (λ t. items old.max (text ++ t))
        (take-take n (a + b) piece (omega (arith, length-take (a + b) piece))
        ∙ ap (λ m. take m piece) e ∙ take-add a k piece)
        ∙ ap (items old.max) (sym (append_assoc text (take a piece) (take k (drop a piece))))
        ∙ ap (λ t. items old.max ((text ++ take a piece) ++ t))
        (sym (take-take k b (drop a piece) (omega (arith, length-take-le b (drop a piece) lb))))
        ∙ ap (λ m. items m ((text ++ take a piece) ++ take k (take b (drop a piece)))) (sym same)
        ∙ g.first k lk
        ∙ ap (λ m. items m (text ++ take a piece)) same
        ∙ quiet

pub part-more : (old mid new : ReaderView) (piece : List ℕ) (a b : ℕ) → TakesPart old piece a mid
    → TakesPiece mid (drop a piece) b None new → TakesPart old piece (a + b) new
part-more old mid new piece a b p t = record {
  within = omega (arith, length-drop a piece, p.within, t.within);
  counted = omega (arith, p.counted, t.counted);
  max = t.max ∙ p.max;
  grows = λ text s.
      let f = p.grows text s in
      grows-on old mid new piece a b None text p.within t.within p.max f
      (t.grows (text ++ take a piece) f.stands);
}

pub part-last : (old mid new : ReaderView) (piece : List ℕ) (a b : ℕ) (item : Item)
    → TakesPart old piece a mid → TakesPiece mid (drop a piece) b (Some item) new
    → TakesAll old piece (a + b) (Some item) new
part-last old mid new piece a b item p t = record {
  within = omega (arith, length-drop a piece, p.within, t.within);
  whole = λ none. absurd (some-none none);
  some = λ more. omega (arith, t.some);
  counted = omega (arith, p.counted, t.counted);
  max = t.max ∙ p.max;
  lent = t.lent;
  lent_within = subst (λ m. length new.lent ≤ m) p.max t.lent_within;
  grows = λ text s.
      let f = p.grows text s in
      grows-on old mid new piece a b (Some item) text p.within t.within p.max f
      (t.grows (text ++ take a piece) f.stands);
}

-- ---- a reader that lends no longer

pub stands-unlent : (v : ReaderView) (lent : List ℕ) (text : List ℕ) → StandsFor v text
    → StandsFor (record v { lent = lent }) text
stands-unlent v lent text s = record {
  offset = s.offset;
  place =
      record {
        lost = s.place.lost;
        bytes = s.place.bytes;
        skipped = s.place.skipped;
        left = s.place.left;
      };
}

-- what a step over one byte does
pub one-byte : (v w : ReaderView) (b used : ℕ) (given : Option Item) (text : List ℕ)
    → TakesPiece (record v { lent = [] }) (b ∷ []) used given w → StandsFor v text
    → Grows v b given w text
one-byte v w b used given text t s =
    let single : used ≡ 1 = omega (arith, t.within, t.some) in
    let grows =
    subst (λ n. GrowsBy (record v { lent = [] }) (take n (b ∷ [])) given w text) single
    (t.grows text (stands-unlent v [] text s)) in
    record { stands = grows.stands; items = grows.items; wire = grows.wire }

-- what a step that gives an item does to a reader
pub pushes-piece : (v w : ReaderView) (piece : List ℕ) (used : ℕ) (item : Item)
    → TakesPiece v piece used (Some item) w
    → PushesAll v piece (record { used = used; item = Some item }) w
pushes-piece v w piece used item t = record {
  counted = t.counted;
  max = t.max;
  stands = λ text s. (t.grows text s).stands;
  item = λ text s. (t.grows text s).items;
  first = λ text n s few.
      ap (λ x. items v.max (text ++ x)) (sym (take-take n used piece (omega (arith, few))))
      ∙ (t.grows text s).first n (omega (arith, few, length-take-le used piece t.within));
  used = t.within;
  whole = λ none. absurd (some-none none);
  some = λ more. t.some;
  lent = t.lent;
  within = t.lent_within;
  wire = λ text s. (t.grows text s).wire;
}
