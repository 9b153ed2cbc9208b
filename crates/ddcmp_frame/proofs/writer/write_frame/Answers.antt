use Rattle.std.proofs.Common.{◌≡◌, ◌+◌, ◌-◌, ◌≤◌, ℕ, ◌++◌, List, length, take, drop, sym, ◌∙◌, ap}
use Rattle.std.proofs.Common.{subst, arith, append_assoc, length-append}
use Rattle.std.proofs.Math.Seq.{take-append_seam, drop-append_seam}
use Rattle.std.proofs.lemmas.List.{length-take}
use Rattle.ddcmp_frame.specs.declared.header.Header.{Header}
use Rattle.ddcmp_frame.specs.declared.header.Header.TheVariants.{Data, Maint, Control}
use Rattle.ddcmp_frame.specs.Wire.{wire, IsFrame}
use Rattle.ddcmp_frame.proofs.ReadingLaws.{drop-drop}
use Rattle.ddcmp_frame.proofs.WireLaws.{length-wire}
use Rattle.ddcmp_frame.proofs.writer.write_frame.Goals as goal

-- a frame has a header before its data
long : (h : Header) (d : List ℕ) → IsFrame h d → 8 + length d ≤ length (wire h d)
long (Data h) d f = omega (arith, length-wire (Data h) d f, f)
long (Maint h) d f = omega (arith, length-wire (Maint h) d f, f)
long (Control h) d f = omega (arith, length-wire (Control h) d f, ap length f)

room : (h : Header) (d : List ℕ) (n : ℕ) → IsFrame h d → length (wire h d) ≤ n → 8 + length d ≤ n
room h d n f fits = omega (arith, long h d f)

-- the data were put after the room for the header
record Placed (old mid d : List ℕ) : Type 0 where
  is : take (length d) (drop 8 mid) ≡ d
  back : (n : ℕ) → 8 + length d ≤ n → drop n mid ≡ drop n old

placed : (old mid d : List ℕ) (end : ℕ) → 8 + length d ≤ length old → end ≡ 8 + length d
    → mid ≡ (take 8 old ++ d) ++ drop end old → Placed old mid d
placed old mid d end fits e is =
    let front = take 8 old in
    let rest = drop end old in
    let l8 : length front ≡ 8 = omega (arith, length-take 8 old) in
    let la : length (front ++ d) ≡ 8 + length d = omega (arith, length-append front d) in
    record {
      is = ap (λ x. take (length d) (drop 8 x)) (is ∙ append_assoc front d rest)
          ∙ ap (λ k. take (length d) (drop k (front ++ (d ++ rest)))) (sym l8)
          ∙ ap (take (length d)) (drop-append_seam front (d ++ rest)) ∙ take-append_seam d rest;
      back = λ n more.
          let k : n ≡ 8 + length d + (n - (8 + length d)) = omega arith in
          ap (λ m. drop m mid) k ∙ sym (drop-drop (8 + length d) (n - (8 + length d)) mid)
          ∙ ap (drop (n - (8 + length d)))
          (ap (drop (8 + length d)) is ∙ ap (λ m. drop m ((front ++ d) ++ rest)) (sym la)
          ∙ drop-append_seam (front ++ d) rest ∙ ap (λ m. drop m old) e)
          ∙ drop-drop (8 + length d) (n - (8 + length d)) old ∙ ap (λ m. drop m old) (sym k);
    }

pub put-end-requires : goal.put-end-requires
put-end-requires c = room _ _ _ c.requires.frame c.requires.room

pub write_around-requires-clause-frame : goal.write_around-requires-clause-frame
write_around-requires-clause-frame c =
    let d = c.args.«data».now in
    let p =
    placed c.args.out.now c.put-end.new.out d c.put-end.result
    (room _ d _ c.requires.frame c.requires.room) c.put-end.ensures.end c.put-end.ensures.put in
    subst (IsFrame c.args.header.now) (sym p.is) c.requires.frame

pub returns-clause-length : goal.returns-clause-length
returns-clause-length c =
    let d = c.args.«data».now in
    let p =
    placed c.args.out.now c.put-end.new.out d c.put-end.result
    (room _ d _ c.requires.frame c.requires.room) c.put-end.ensures.end c.put-end.ensures.put in
    c.write_around.ensures.length ∙ ap (λ x. length (wire c.args.header.now x)) p.is

pub returns-clause-written : goal.returns-clause-written
returns-clause-written c =
    let h = c.args.header.now in
    let d = c.args.«data».now in
    let r = c.write_around.result in
    let p =
    placed c.args.out.now c.put-end.new.out d c.put-end.result
    (room _ d _ c.requires.frame c.requires.room) c.put-end.ensures.end c.put-end.ensures.put in
    let r_is : r ≡ length (wire h d) =
    c.write_around.ensures.length ∙ ap (λ x. length (wire h x)) p.is in
    c.write_around.ensures.written ∙ ap (λ x. wire h x ++ drop r c.put-end.new.out) p.is
    ∙ ap (λ x. wire h d ++ x) (p.back r (omega (arith, r_is, long h d c.requires.frame)))
