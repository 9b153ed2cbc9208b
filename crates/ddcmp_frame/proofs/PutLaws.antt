-- Pieces written one after the other.
use Rattle.std.proofs.Common.{◌≡◌, ◌+◌, ◌≤◌, ℕ, ◌++◌, List, [], length, take, drop, refl, sym, ◌∙◌}
use Rattle.std.proofs.Common.{ap, arith, append_assoc, length-append, length-drop}
use Rattle.std.proofs.lemmas.List.{append-nil, drop-append-le, take-append-le, take_all, drop_all}
use Rattle.ddcmp_num.specs.Check.{check_of, check_pair}
use Rattle.ddcmp_frame.specs.declared.header.Header.{Header}
use Rattle.ddcmp_frame.specs.declared.header.Header.TheVariants.{Data, Maint, Control}
use Rattle.ddcmp_frame.specs.Fields.{ShortFields, CountedFields}
use Rattle.ddcmp_frame.specs.Wire.{eight_bytes, wire}
use Rattle.ddcmp_frame.proofs.ReadingLaws.{drop-drop}

-- the text stands at the front of what was there
pub record Wrote (old new text : List ℕ) : Type 0 where
  pub fits : length text ≤ length old
  pub is : new ≡ text ++ drop (length text) old

pub wrote-nothing : (old : List ℕ) → Wrote old old []
wrote-nothing old = record { fits = omega arith; is = refl }

pub wrote-more : (old mid new text piece : List ℕ) (from end : ℕ) → Wrote old mid text
    → from ≡ length text → length text + length piece ≤ length old → end ≡ from + length piece
    → new ≡ (take from mid ++ piece) ++ drop end mid → Wrote old new (text ++ piece)
wrote-more old mid new text piece from end w f fits e is =
    let la = length-append text piece in
    let lf = w.fits in
    let front : take from mid ≡ text =
    ap (λ x. take from x) w.is ∙ take-append-le from text _ (omega arith)
    ∙ take_all from text (omega arith) in
    let back : drop end mid ≡ drop (length (text ++ piece)) old =
    ap (λ k. drop k mid) e ∙ sym (drop-drop from (length piece) mid)
    ∙ ap (drop (length piece))
    (ap (λ x. drop from x) w.is ∙ ap (λ k. drop k (text ++ drop (length text) old)) f
    ∙ drop-append-le (length text) text _ (omega arith)
    ∙ ap (λ x. x ++ drop (length text) old) (none text))
    ∙ drop-drop (length text) (length piece) old
    ∙ ap (λ k. drop k old) (sym la) in
    record {
      fits = omega arith;
      is = is ∙ ap (λ x. (x ++ piece) ++ drop end mid) front ∙ ap (λ x. (text ++ piece) ++ x) back;
    }
  where
    none : (t : List ℕ) → drop (length t) t ≡ []
    none t = drop_all (length t) t (omega arith)

pub wrote-length : (old new text : List ℕ) → Wrote old new text → length new ≡ length old
wrote-length old new text w =
    let f = w.fits in
    ap length w.is
    ∙ omega (arith, length-append text (drop (length text) old), length-drop (length text) old)

pub wire-control : (h : Header) (d : List ℕ) (x : ShortFields) → h ≡ Control x
    → wire h d ≡ eight_bytes h
unfolding wire
wire-control (Control h) d x e = append-nil _
wire-control (Data h) d x e = cc
wire-control (Maint h) d x e = cc

pub wire-data_header : (h : Header) (d : List ℕ) (x : CountedFields) → h ≡ Data x
    → wire h d ≡ (eight_bytes h ++ d) ++ check_pair (check_of d)
unfolding wire
wire-data_header (Data h) d x e =
    sym (append_assoc (eight_bytes (Data h)) d (check_pair (check_of d)))
wire-data_header (Maint h) d x e = cc
wire-data_header (Control h) d x e = cc

pub wire-maint_header : (h : Header) (d : List ℕ) (x : CountedFields) → h ≡ Maint x
    → wire h d ≡ (eight_bytes h ++ d) ++ check_pair (check_of d)
unfolding wire
wire-maint_header (Maint h) d x e =
    sym (append_assoc (eight_bytes (Maint h)) d (check_pair (check_of d)))
wire-maint_header (Data h) d x e = cc
wire-maint_header (Control h) d x e = cc
