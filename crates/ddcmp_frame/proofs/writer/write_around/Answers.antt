use Rattle.std.proofs.Common.{◌≡◌, ◌+◌, ◌-◌, ◌≤◌, ℕ, ◌++◌, List, [], length, take, drop, refl, sym}
use Rattle.std.proofs.Common.{◌∙◌, ap, subst, arith, append_assoc, length-append, length-drop}
use Rattle.std.proofs.Common.{inl, inr, ◌⊎◌}
use Rattle.std.proofs.Math.Seq.{take-append_seam, drop-append_seam}
use Rattle.std.proofs.lemmas.List.{length-take, take-append-drop}
use Rattle.ddcmp_num.specs.Check.{check_of, check_pair}
use Rattle.ddcmp_frame.specs.declared.header.Header.{Header}
use Rattle.ddcmp_frame.specs.declared.header.Header.TheVariants.{Data, Maint}
use Rattle.ddcmp_frame.specs.Fields.{CountedFields}
use Rattle.ddcmp_frame.specs.Wire.{eight_bytes, wire, IsFrame}
use Rattle.ddcmp_frame.proofs.ReadingLaws.{drop-drop}
use Rattle.ddcmp_frame.proofs.WireLaws.{length-wire, length-eight}
use Rattle.ddcmp_frame.proofs.FrameLaws.{frame_length-full}
use Rattle.ddcmp_frame.proofs.PutLaws.{Wrote, wrote-nothing, wrote-more, wrote-length, wire-control}
use Rattle.ddcmp_frame.proofs.PutLaws.{wire-data_header, wire-maint_header}
use Rattle.ddcmp_frame.proofs.writer.write_around.Goals as goal

room : (h : Header) (d : List ℕ) (n : ℕ) → IsFrame h d → length (wire h d) ≤ n → 8 ≤ n
room h d n f fits = let l = length-wire h d f in let k = frame_length-full h in omega arith

pub put-start-requires : goal.put-start-requires
put-start-requires c =
    let l = ap length c.write.ensures.exact ∙ length-eight c.args.header.now in
    let r = room c.args.header.now _ (length c.args.out.now) c.requires.frame c.requires.room in
    omega arith

-- the header at the front
first : (old new : List ℕ) (h : Header) (bytes : List ℕ) (end : ℕ) → bytes ≡ eight_bytes h
    → 8 ≤ length old → end ≡ 0 + length bytes → new ≡ (take 0 old ++ bytes) ++ drop end old
    → Wrote old new (eight_bytes h)
first old new h bytes end b r e is =
    let l = length-eight h in
    let lb = ap length b in
    subst (Wrote old new) b
    (wrote-more old old new [] bytes 0 end (wrote-nothing old) refl (omega arith) e is)

-- what goes on the line is the header, the data and their check
counted : (h : Header) (d : List ℕ)
    → ((x : CountedFields) × (h ≡ Data x)) ⊎ ((x : CountedFields) × (h ≡ Maint x))
    → wire h d ≡ (eight_bytes h ++ d) ++ check_pair (check_of d)
counted h d is =
    elim is [ inl a ↦ wire-data_header h d a.0 a.1 | inr a ↦ wire-maint_header h d a.0 a.1 ]

-- the data were there
record Around (old mid : List ℕ) (h : Header) (n : ℕ) (d : List ℕ) : Type 0 where
  long : length d ≡ n
  fits : n + 10 ≤ length old
  wrote : Wrote old mid (eight_bytes h ++ d)
  is : take n (drop 8 mid) ≡ d

around : (old mid : List ℕ) (h : Header) (n : ℕ) → Wrote old mid (eight_bytes h)
    → wire h (take n (drop 8 old))
    ≡ (eight_bytes h ++ take n (drop 8 old)) ++ check_pair (check_of (take n (drop 8 old)))
    → length (wire h (take n (drop 8 old))) ≤ length old → Around old mid h n (take n (drop 8 old))
around old mid h n w whole fits =
    let d = take n (drop 8 old) in
    let rest = drop n (drop 8 old) in
    let l8 = length-eight h in
    let ld = length-take n (drop 8 old) in
    let lo = length-drop 8 old in
    let la = length-append (eight_bytes h) d in
    let lb = length-append (eight_bytes h ++ d) (check_pair (check_of d)) in
    let lw = ap length whole in
    let n_is : length d ≡ n = omega arith in
    let parts : mid ≡ eight_bytes h ++ (d ++ rest) =
    w.is ∙ ap (λ k. eight_bytes h ++ drop k old) l8
    ∙ ap (λ x. eight_bytes h ++ x) (sym (take-append-drop n (drop 8 old))) in
    record {
      long = n_is;
      fits = omega arith;
      wrote = record {
        fits = omega arith;
        is = parts ∙ sym (append_assoc (eight_bytes h) d rest)
            ∙ ap (λ x. (eight_bytes h ++ d) ++ x)
            (drop-drop 8 n old ∙ ap (λ k. drop k old) (omega arith));
      };
      is = ap (λ k. take n (drop k mid)) (sym l8)
          ∙ ap (λ x. take n (drop (length (eight_bytes h)) x)) parts
          ∙ ap (take n) (drop-append_seam (eight_bytes h) (d ++ rest))
          ∙ ap (λ k. take k (d ++ rest)) (sym n_is) ∙ take-append_seam d rest;
    }

third : (old mid new : List ℕ) (h : Header) (d piece : List ℕ) (from end : ℕ)
    → Wrote old mid (eight_bytes h ++ d) → from ≡ 8 + length d → piece ≡ check_pair (check_of d)
    → length (wire h d) ≤ length old → wire h d ≡ (eight_bytes h ++ d) ++ check_pair (check_of d)
    → end ≡ from + length piece → new ≡ (take from mid ++ piece) ++ drop end mid
    → Wrote old new (wire h d)
third old mid new h d piece from end w f p fits whole e is =
    let l = length-eight h in
    let lw = ap length whole in
    let lp = ap length p in
    let la = length-append (eight_bytes h) d in
    let lb = length-append (eight_bytes h ++ d) (check_pair (check_of d)) in
    subst (Wrote old new) (ap (λ x. (eight_bytes h ++ d) ++ x) p ∙ sym whole)
    (wrote-more old mid new (eight_bytes h ++ d) piece from end w (omega arith) (omega arith)
    e is)

pub overflow_add-end : goal.overflow_add-end
overflow_add-end c =
    let h = c.args.header.now in
    let old = c.args.out.now in
    let d = take c.args.count (drop 8 old) in
    let one =
    first old c.put-start.new.out h c.write.result c.put-start.result c.write.ensures.exact
    (room h d (length old) c.requires.frame c.requires.room) c.put-start.ensures.end
    c.put-start.ensures.put in
    let a =
    around old c.put-start.new.out h c.args.count one (counted h d c.in-Data.is)
    c.requires.room in
    let l = ap length c.write.ensures.exact ∙ length-eight h in
    omega (arith, a.fits, c.put-start.ensures.end)

pub slice_bounds-check-end : goal.slice_bounds-check-end
slice_bounds-check-end c =
    let h = c.args.header.now in
    let old = c.args.out.now in
    let d = take c.args.count (drop 8 old) in
    let one =
    first old c.put-start.new.out h c.write.result c.put-start.result c.write.ensures.exact
    (room h d (length old) c.requires.frame c.requires.room) c.put-start.ensures.end
    c.put-start.ensures.put in
    let a =
    around old c.put-start.new.out h c.args.count one (counted h d c.in-Data.is)
    c.requires.room in
    let l = ap length c.write.ensures.exact ∙ length-eight h in
    omega (arith, a.fits, c.put-start.ensures.end, wrote-length _ _ _ one)

pub put-requires : goal.put-requires
put-requires c =
    let h = c.args.header.now in
    let old = c.args.out.now in
    let d = take c.args.count (drop 8 old) in
    let one =
    first old c.put-start.new.out h c.write.result c.put-start.result c.write.ensures.exact
    (room h d (length old) c.requires.frame c.requires.room) c.put-start.ensures.end
    c.put-start.ensures.put in
    let a =
    around old c.put-start.new.out h c.args.count one (counted h d c.in-Data.is)
    c.requires.room in
    let l = ap length c.write.ensures.exact ∙ length-eight h in
    let p = ap length c.check_bytes-right.ensures in
    omega (arith, a.fits, c.put-start.ensures.end, wrote-length _ _ _ one)

pub returns-in-Control-clause-length : goal.returns-in-Control-clause-length
returns-in-Control-clause-length c =
    c.put-start.ensures.end
    ∙ ap (λ x. 0 + length x)
    (c.write.ensures.exact
    ∙ sym
    (wire-control c.args.header.now (take c.args.count (drop 8 c.args.out.now))
    c.in-Control.field-0 c.in-Control.is))
    ∙ omega arith

pub returns-in-Control-clause-written : goal.returns-in-Control-clause-written
returns-in-Control-clause-written c =
    let h = c.args.header.now in
    let old = c.args.out.now in
    let d = take c.args.count (drop 8 old) in
    let one =
    first old c.put-start.new.out h c.write.result c.put-start.result c.write.ensures.exact
    (room h d (length old) c.requires.frame c.requires.room) c.put-start.ensures.end
    c.put-start.ensures.put in
    let e = wire-control h d c.in-Control.field-0 c.in-Control.is in
    one.is ∙ (λ i. (sym e) i ++ drop (length ((sym e) i)) old)
    ∙ ap (λ n. wire h d ++ drop n old) (sym (returns-in-Control-clause-length c))

pub returns-in-Data-clause-length : goal.returns-in-Data-clause-length
returns-in-Data-clause-length c =
    let h = c.args.header.now in
    let old = c.args.out.now in
    let d = take c.args.count (drop 8 old) in
    let whole = counted h d c.in-Data.is in
    let one =
    first old c.put-start.new.out h c.write.result c.put-start.result c.write.ensures.exact
    (room h d (length old) c.requires.frame c.requires.room) c.put-start.ensures.end
    c.put-start.ensures.put in
    let a = around old c.put-start.new.out h c.args.count one whole c.requires.room in
    let l8 = length-eight h in
    let l = ap length c.write.ensures.exact in
    let p = ap length c.check_bytes-right.ensures in
    let la = length-append (eight_bytes h) d in
    let lb = length-append (eight_bytes h ++ d) (check_pair (check_of d)) in
    let lw = ap length whole in
    omega (arith, a.long, c.put-start.ensures.end, c.put.ensures.end)

pub returns-in-Data-clause-written : goal.returns-in-Data-clause-written
returns-in-Data-clause-written c =
    let h = c.args.header.now in
    let old = c.args.out.now in
    let n = c.args.count in
    let mid = c.put-start.new.out in
    let d = take n (drop 8 old) in
    let whole = counted h d c.in-Data.is in
    let one =
    first old mid h c.write.result c.put-start.result c.write.ensures.exact
    (room h d (length old) c.requires.frame c.requires.room) c.put-start.ensures.end
    c.put-start.ensures.put in
    let a = around old mid h n one whole c.requires.room in
    let l = ap length c.write.ensures.exact ∙ length-eight h in
    let start : c.put-start.result ≡ 8 = omega (arith, c.put-start.ensures.end) in
    let size : c.put-start.result + n - c.put-start.result ≡ n = omega arith in
    let data_is =
    (λ i. take (size i) (drop (start i) mid)) ∙ a.is in
    let pair =
    c.check_bytes-right.ensures
    ∙ ap check_pair (c.check.ensures.value ∙ ap check_of data_is) in
    let three =
    third old mid c.put.new.out h d c.check_bytes-right.result (c.put-start.result + n)
    c.put.result a.wrote (omega (arith, start, a.long)) pair c.requires.room whole
    c.put.ensures.end c.put.ensures.put in
    three.is ∙ ap (λ n. wire h d ++ drop n old) (sym (returns-in-Data-clause-length c))
