use Rattle.std.proofs.Common.{◌≡◌, ◌+◌, ◌≤◌, ℕ, ◌++◌, length, take, drop, replicate, sym, ◌∙◌, ap}
use Rattle.std.proofs.Common.{subst, arith, length-append, length-drop, take_all, Some}
use Rattle.std.specs.Prelude.{option_map}
use Rattle.std.proofs.lemmas.List.{length-replicate}
use Rattle.ddcmp_frame.specs.Wire.{wire, IsFrame}
use Rattle.ddcmp_frame.proofs.WireLaws.{length-wire}
use Rattle.ddcmp_window.specs.Store.{with_front}
use Rattle.ddcmp_proto.proofs.Bounds.{frame_most, frame_least}
use Rattle.ddcmp_proto.proofs.PollLaws.{next_is, line_is, placed}
use Rattle.ddcmp_proto.proofs.station.write_next.Goals as goal

syn_length : (n : ℕ) → length {A = ℕ} (replicate n 150) ≡ n
syn_length n = length-replicate n _

pub write_line-requires-clause-frame : goal.write_line-requires-clause-frame
write_line-requires-clause-frame c =
    let k =
    next_is _ _ c.in-Some.header c.in-Some.count _ c.next.new.out c.next.ensures.sound
    c.in-Some.ensures.frame c.in-Some.ensures.out in
    let p =
    placed _ _ _ c.args.syn c.in-Some.count c.args.out.now _ c.next.new.out
    (omega (arith, c.requires.room))
    (take_all _ _ (omega (arith, length-drop (c.args.syn + 8) c.args.out.now))) c.next.auto.out k
    c.in-Some.ensures.out in
    subst (IsFrame c.in-Some.header) (sym p.data_is) k.fits

pub write_line-requires-clause-room : goal.write_line-requires-clause-room
write_line-requires-clause-room c =
    let k =
    next_is _ _ c.in-Some.header c.in-Some.count _ c.next.new.out c.next.ensures.sound
    c.in-Some.ensures.frame c.in-Some.ensures.out in
    let p =
    placed _ _ _ c.args.syn c.in-Some.count c.args.out.now _ c.next.new.out
    (omega (arith, c.requires.room))
    (take_all _ _ (omega (arith, length-drop (c.args.syn + 8) c.args.out.now))) c.next.auto.out k
    c.in-Some.ensures.out in
    omega (
      arith,
      ap (λ x. length (wire c.in-Some.header x)) p.data_is,
      p.long,
      length-wire _ _ k.fits,
      frame_most _ _ k.fits,
      k.short,
      c.requires.room,
    )

pub returns-in-Some-clause-length : goal.returns-in-Some-clause-length
returns-in-Some-clause-length c =
    let k =
    next_is _ _ c.in-Some.header c.in-Some.count _ c.next.new.out c.next.ensures.sound
    c.in-Some.ensures.frame c.in-Some.ensures.out in
    let p =
    placed _ _ _ c.args.syn c.in-Some.count c.args.out.now _ c.next.new.out
    (omega (arith, c.requires.room))
    (take_all _ _ (omega (arith, length-drop (c.args.syn + 8) c.args.out.now))) c.next.auto.out k
    c.in-Some.ensures.out in
    ap Some
    (c.write_line.ensures.length
    ∙ ap (λ x. length (replicate c.args.syn 150 ++ wire c.in-Some.header x)) p.data_is)
    ∙ ap (option_map length) (line_is _ _ _ _ c.args.syn k)

pub returns-in-Some-clause-most : goal.returns-in-Some-clause-most
returns-in-Some-clause-most c =
    let k =
    next_is _ _ c.in-Some.header c.in-Some.count _ c.next.new.out c.next.ensures.sound
    c.in-Some.ensures.frame c.in-Some.ensures.out in
    let p =
    placed _ _ _ c.args.syn c.in-Some.count c.args.out.now _ c.next.new.out
    (omega (arith, c.requires.room))
    (take_all _ _ (omega (arith, length-drop (c.args.syn + 8) c.args.out.now))) c.next.auto.out k
    c.in-Some.ensures.out in
    let size =
    c.write_line.ensures.length
    ∙ ap (λ x. length (replicate c.args.syn 150 ++ wire c.in-Some.header x)) p.data_is in
    let fill = syn_length c.args.syn in
    omega (
      arith,
      size,
      length-append (replicate c.args.syn 150)
          (wire c.in-Some.header (take c.in-Some.count c.next.new.out)),
      fill,
      length-wire _ _ k.fits,
      frame_most _ _ k.fits,
      k.short,
    )

pub returns-in-Some-clause-within : goal.returns-in-Some-clause-within
returns-in-Some-clause-within c =
    let k =
    next_is _ _ c.in-Some.header c.in-Some.count _ c.next.new.out c.next.ensures.sound
    c.in-Some.ensures.frame c.in-Some.ensures.out in
    let p =
    placed _ _ _ c.args.syn c.in-Some.count c.args.out.now _ c.next.new.out
    (omega (arith, c.requires.room))
    (take_all _ _ (omega (arith, length-drop (c.args.syn + 8) c.args.out.now))) c.next.auto.out k
    c.in-Some.ensures.out in
    let size =
    c.write_line.ensures.length
    ∙ ap (λ x. length (replicate c.args.syn 150 ++ wire c.in-Some.header x)) p.data_is in
    let fill = syn_length c.args.syn in
    omega (
      arith,
      size,
      length-append (replicate c.args.syn 150)
          (wire c.in-Some.header (take c.in-Some.count c.next.new.out)),
      fill,
      length-wire _ _ k.fits,
      frame_most _ _ k.fits,
      k.short,
      c.next.ensures.sound.out_stored.longest_max,
      c.requires.syn,
    )

pub returns-in-Some-clause-out : goal.returns-in-Some-clause-out
returns-in-Some-clause-out c =
    let k =
    next_is _ _ c.in-Some.header c.in-Some.count _ c.next.new.out c.next.ensures.sound
    c.in-Some.ensures.frame c.in-Some.ensures.out in
    let p =
    placed _ _ _ c.args.syn c.in-Some.count c.args.out.now _ c.next.new.out
    (omega (arith, c.requires.room))
    (take_all _ _ (omega (arith, length-drop (c.args.syn + 8) c.args.out.now))) c.next.auto.out k
    c.in-Some.ensures.out in
    let size =
    c.write_line.ensures.length
    ∙ ap (λ x. length (replicate c.args.syn 150 ++ wire c.in-Some.header x)) p.data_is in
    let fill = syn_length c.args.syn in
    let out = c.args.out.now in
    let r = c.write_line.result in
    let text =
    replicate c.args.syn 150 ++ wire c.in-Some.header (take c.in-Some.count c.next.new.out) in
    let past : c.args.syn + 8 + length (take c.in-Some.count c.next.new.out) ≤ r =
    omega (
      arith,
      size,
      length-append (replicate c.args.syn 150)
          (wire c.in-Some.header (take c.in-Some.count c.next.new.out)),
      fill,
      length-wire _ _ k.fits,
      frame_least _ _ k.fits,
    ) in
    c.write_line.ensures.written
    ∙ cc (ap (λ x. replicate c.args.syn 150 ++ wire c.in-Some.header x) p.data_is, p.back r past)
    ∙ ap (λ n. text ++ drop n out) size
    ∙ ap (λ o. with_front o out) (line_is _ _ _ _ c.args.syn k)
