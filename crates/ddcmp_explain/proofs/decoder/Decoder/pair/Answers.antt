use Rattle.std.proofs.Common.{◌≡◌, ◌≤◌, ◌∙◌, ◌+◌, ℕ, List, None, get_or, sym, ap, subst, take}
use Rattle.std.proofs.Common.{arith}
use Rattle.std.specs.Prelude.{option_to_list}
use Rattle.std.proofs.lemmas.List.{take_all}
use Rattle.ddcmp_explain.specs.declared.form.Form.TheVariants.{Hex}
use Rattle.ddcmp_explain.specs.declared.hex_digits.TheConstants.{HEX_VALUES}
use Rattle.ddcmp_explain.specs.Digits.{left_in, unexpected_in}
use Rattle.ddcmp_explain.specs.Inside.Decoding.{Decodes}
use Rattle.ddcmp_explain.proofs.DecodingLaws.{decodes-blank, decodes-high, decodes-low, decodes-two}
use Rattle.ddcmp_explain.proofs.DecodingLaws.{decodes-unexpected, decodes-eight}
use Rattle.ddcmp_explain.proofs.decoder.Decoder.pair.Goals as goal
use Rattle.ddcmp_explain.proofs.decoder.Decoder.pair.Goals.{then-tries_at-i, else-tries_at-i}
use Rattle.ddcmp_explain.proofs.decoder.Decoder.pair.Goals.{in-Some+in-Some-high}
use Rattle.ddcmp_explain.proofs.decoder.Decoder.pair.Goals.{in-Some+in-None-high+in-Some-value_at}
use Rattle.ddcmp_explain.proofs.decoder.Decoder.pair.Goals.{in-Some+in-None-high+in-None-value_at}
use Rattle.ddcmp_explain.proofs.decoder.Decoder.pair.Goals.{in-None+else-not-is_blank}

pub returns-then-not-is_blank-clause-decodes : goal.returns-then-not-is_blank-clause-decodes
returns-then-not-is_blank-clause-decodes c = λ seen u l.
    decodes-unexpected seen c.args.piece.now _ _ _ _ c.loop-i-test.true
    (subst (λ b. Decodes Hex seen (take c.loop-i.i c.args.piece.now)
    (record { count = c.loop-i.count; unexpected = None }) b c.loop-i.self.high)
    (sym (c.put_eight.ensures.kept c.if-put_eight.false))
    (c.loop-i.invariant.decodes seen u l))
    (sym c.if-not-is_blank.ensures) (sym c.in-None.ensures.value)

pub returns-clause-decodes : goal.returns-clause-decodes
returns-clause-decodes c = λ seen u l.
    subst (λ t. Decodes Hex seen t (record { count = c.loop-i.count; unexpected = None })
    c.loop-i.bytes c.loop-i.self.high)
    (take_all c.loop-i.i c.args.piece.now (omega (arith, c.loop-i-test.false)))
    (c.loop-i.invariant.decodes seen u l)

pub returns-clause-within : goal.returns-clause-within
returns-clause-within c = omega (arith, c.loop-i.invariant.within, c.loop-i.invariant.inside)

pub loop-i-preserved : goal.loop-i-preserved
loop-i-preserved c =
    let decoded =
    λ (seen : List ℕ) (u : unexpected_in Hex seen ≡ None)
    (l : left_in Hex seen ≡ option_to_list c.args.self.now.high). subst
    (λ b. Decodes Hex seen (take c.loop-i.i c.args.piece.now)
    (record { count = c.loop-i.count; unexpected = None }) b c.loop-i.self.high)
    (sym (c.put_eight.ensures.kept c.if-put_eight.false))
    (c.loop-i.invariant.decodes seen u l) in
    let inside = c.loop-i-test.true in
    let waits : c.if-tries_at-i.wait ≤ 1024 = elim c.if-tries_at-i.branch [
      | then-tries_at-i w ↦ omega (arith, w.wait-is, c.loop-i.invariant.waits)
      | else-tries_at-i w ↦ omega (arith, w.wait-is, c.loop-i.invariant.waits)
    ] in
    elim c.match-hex_value.branch [
      | in-Some+in-Some-high w ↦ record {
        spot = ap (λ s. s.spot) w.self-is ∙ c.loop-i.invariant.spot;
        within = omega (arith, w.count-is, w.i-is, c.loop-i.invariant.within);
        inside = omega (arith, w.i-is, inside);
        waits = waits;
        decodes =
            λ seen u l. subst
            (λ k. Decodes Hex seen (take (k + 1) c.args.piece.now)
            (record { count = c.match-hex_value.count; unexpected = None })
            c.match-hex_value.bytes c.match-hex_value.self.high)
            (sym w.i-is)
            (decodes-low seen c.args.piece.now c.put_eight.new.bytes c.loop-i.i c.loop-i.count
            c.loop-i.self.high inside (decoded seen u l) w.in-Some.digit w.in-Some-high.high
            c.match-hex_value.count c.match-hex_value.bytes c.match-hex_value.self.high
            (sym w.in-Some.ensures.value) w.in-Some-high.is
            (omega (
              arith,
              c.requires,
              c.loop-i.auto.bytes,
              c.put_eight.auto.bytes,
              c.loop-i.invariant.within,
              inside,
            ))
            w.count-is w.bytes-is (ap (λ s. s.high) w.self-is));
      }
      | in-Some+in-None-high+in-Some-value_at w ↦ record {
        spot = ap (λ s. s.spot) w.self-is ∙ c.loop-i.invariant.spot;
        within = omega (arith, w.count-is, w.i-is, c.loop-i.invariant.within);
        inside = omega (arith, w.i-is, w.in-Some-value_at.ensures.inside.1);
        waits = waits;
        decodes =
            λ seen u l. subst
            (λ k. Decodes Hex seen (take (k + 1) c.args.piece.now)
            (record { count = c.match-hex_value.count; unexpected = None })
            c.match-hex_value.bytes c.match-hex_value.self.high)
            (sym w.i-is)
            (decodes-two seen c.args.piece.now c.put_eight.new.bytes c.loop-i.i c.loop-i.count
            c.loop-i.self.high inside (decoded seen u l) w.in-Some.digit
            w.in-Some-value_at.low c.match-hex_value.count c.match-hex_value.bytes
            c.match-hex_value.self.high w.in-Some-value_at.ensures.inside.1
            (sym w.in-Some.ensures.value) w.in-Some-value_at.ensures.value w.in-None-high.is
            (omega (
              arith,
              c.requires,
              c.loop-i.auto.bytes,
              c.put_eight.auto.bytes,
              c.loop-i.invariant.within,
              inside,
            ))
            w.count-is w.bytes-is (ap (λ s. s.high) w.self-is ∙ w.in-None-high.is));
      }
      | in-Some+in-None-high+in-None-value_at w ↦ record {
        spot = ap (λ s. s.spot) w.self-is ∙ c.loop-i.invariant.spot;
        within = omega (arith, w.count-is, w.i-is, c.loop-i.invariant.within);
        inside = omega (arith, w.i-is, inside);
        waits = waits;
        decodes =
            λ seen u l. subst
            (λ k. Decodes Hex seen (take (k + 1) c.args.piece.now)
            (record { count = c.match-hex_value.count; unexpected = None })
            c.match-hex_value.bytes c.match-hex_value.self.high)
            (sym w.i-is)
            (decodes-high seen c.args.piece.now c.put_eight.new.bytes c.loop-i.i c.loop-i.count
            c.loop-i.self.high inside (decoded seen u l) w.in-Some.digit
            c.match-hex_value.count c.match-hex_value.bytes c.match-hex_value.self.high
            (sym w.in-Some.ensures.value) w.in-None-high.is w.count-is w.bytes-is
            (ap (λ s. s.high) w.self-is));
      }
      | in-None+else-not-is_blank w ↦ record {
        spot = ap (λ s. s.spot) w.self-is ∙ c.loop-i.invariant.spot;
        within = omega (arith, w.count-is, w.i-is, c.loop-i.invariant.within);
        inside = omega (arith, w.i-is, inside);
        waits = waits;
        decodes =
            λ seen u l. subst
            (λ k. Decodes Hex seen (take (k + 1) c.args.piece.now)
            (record { count = c.match-hex_value.count; unexpected = None })
            c.match-hex_value.bytes c.match-hex_value.self.high)
            (sym w.i-is)
            (decodes-blank seen c.args.piece.now c.put_eight.new.bytes c.loop-i.i c.loop-i.count
            c.loop-i.self.high inside (decoded seen u l) c.match-hex_value.count
            c.match-hex_value.bytes c.match-hex_value.self.high
            (sym w.if-not-is_blank.ensures) (sym w.in-None.ensures.value) w.count-is
            w.bytes-is (ap (λ s. s.high) w.self-is));
      }
    ]

pub loop-i-preserved-then-put_eight : goal.loop-i-preserved-then-put_eight
loop-i-preserved-then-put_eight c =
    let put = c.put_eight.ensures.put c.if-put_eight.true in
    record {
      spot = c.loop-i.invariant.spot;
      within = omega (arith, c.loop-i.invariant.within);
      inside = put.inside;
      waits = omega arith;
      decodes = λ seen u l.
          decodes-eight (λ c. get_or HEX_VALUES c 0) seen c.args.piece.now c.loop-i.bytes c.loop-i.i
          c.loop-i.count c.loop-i.self.high put.inside (c.loop-i.invariant.decodes seen u l)
          (c.put_eight.ensures.alone c.if-put_eight.true) put.digits c.put_eight.new.bytes
          put.put;
    }
