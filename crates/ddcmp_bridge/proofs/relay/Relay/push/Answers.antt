use Rattle.std.proofs.Common.{◌≡◌, ◌∙◌, ◌∷◌, [], ◌+◌, ◌++◌, ap, arith, drop, inr, length, refl}
use Rattle.std.proofs.Common.{subst, sym, take}
use Rattle.std.specs.Vec.{with_items}
use Rattle.std.proofs.lemmas.List.{with_items_is}
use Rattle.ddcmp_frame.specs.Reader.{LentBeside}
use Rattle.ddcmp_frame.specs.Wire.{wire}
use Rattle.ddcmp_bridge.specs.Faults.{after_fate, fate_drawn}
use Rattle.ddcmp_bridge.specs.Relaying.{Relays, fates_in}
use Rattle.ddcmp_bridge.proofs.RelayLaws.{adds-one, at-front, fits, has-bytes, relays-bad}
use Rattle.ddcmp_bridge.proofs.RelayLaws.{fate-none, fate-one, relays-good}
use Rattle.ddcmp_bridge.proofs.relay.Relay.push.Goals as goal

pub overflow_add-self : goal.overflow_add-self
overflow_add-self c =
    let inv = c.self.invariant in
    let e = c.push_all-used.ensures in
    let v = ap (λ w. w.frames.offset) c.self.view_is in
    omega (arith, inv.5, c.requires.countable, v)

pub invariant_of-self-in_default-good_header : goal.invariant_of-self-in_default-good_header
invariant_of-self-in_default-good_header c =
    let inv = c.self.invariant in
    let e = c.push_all-used.ensures in
    let some = e.some c.requires.bytes in (
      e.max ∙ inv.0,
      inv.1,
      inv.2,
      inv.3,
      omega (arith, inv.4),
      omega (arith, inv.5, e.counted, some),
      omega (arith, inv.6),
      inv.7,
      inv.8,
    )

pub returns-in_default-good_header-clause-relays : goal.returns-in_default-good_header-clause-relays
returns-in_default-good_header-clause-relays c = λ start came taken r.
    let inv = c.self.invariant in
    let e = c.push_all-used.ensures in
    let lent = c.push_all-used.new.self.lent in
    let v = c.self.view_is in
    let was = subst (λ w. Relays start w came taken) (sym v) r in
    let idle = ap (λ w. w.waiting) v ∙ c.requires.idle in
    let adds =
    adds-one _ came _ lent _ c.in-Some.item inv.0 c.in-Some.is (e.item came was.stands) in
    relays-bad came _ lent c.in-Some.item adds start _ _ taken was (e.stands came was.stands) idle
    refl refl (c.in_default-good_header.ensures.frame lent) idle refl refl refl refl refl

pub write_frame-length-requires-clause-room : goal.write_frame-length-requires-clause-room
write_frame-length-requires-clause-room c =
    let inv = c.self.invariant in
    let e = c.push_all-used.ensures in
    let lent = c.push_all-used.new.self.lent in
    let header = c.in-Some-good_header.header in
    let frame =
    c.in-Some-good_header.ensures.beside lent
    (subst (λ i. LentBeside i lent) c.in-Some.is e.lent) in
    let most = fits header lent c.self.inside.frames.max frame e.within in
    let same = ap (λ d. length (wire header d)) c.data.ensures in
    omega (
      arith,
      most,
      same,
      inv.0,
      inv.1,
      ap length c.as_mut_slice.ensures.value,
      c.self.inside.frame.ok,
    )

pub overflow_add-self-2 : goal.overflow_add-self-2
overflow_add-self-2 c =
    let inv = c.self.invariant in
    let v = ap (λ w. w.frames.offset) c.self.view_is in
    omega (arith, inv.4, inv.5, c.requires.countable, v)

pub draw_fate-fate-requires : goal.draw_fate-fate-requires
draw_fate-fate-requires c =
    let e = c.push_all-used.ensures in
    let lent = c.push_all-used.new.self.lent in
    let header = c.in-Some-good_header.header in
    let frame =
    c.in-Some-good_header.ensures.beside lent
    (subst (λ i. LentBeside i lent) c.in-Some.is e.lent) in
    let some = has-bytes header lent frame in
    let n = c.write_frame-length.ensures.length ∙ ap length (ap (wire header) c.data.ensures) in
    omega (arith, some, n)

pub returns-clause-relays : goal.returns-clause-relays
returns-clause-relays c = λ start came taken r.
    let inv = c.self.invariant in
    let e = c.push_all-used.ensures in
    let lent = c.push_all-used.new.self.lent in
    let v = c.self.view_is in
    let was = subst (λ w. Relays start w came taken) (sym v) r in
    let idle = ap (λ w. w.waiting) v ∙ c.requires.idle in
    let adds =
    adds-one _ came _ lent _ c.in-Some.item inv.0 c.in-Some.is (e.item came was.stands) in
    let header = c.in-Some-good_header.header in
    let same = ap (wire header) c.data.ensures in
    let w = c.write_frame-length.ensures in
    let n = w.length ∙ ap length same in
    let front =
    at-front _ (wire header lent) _ _ n
    (w.written ∙ ap (λ t. t ++ drop c.write_frame-length.result c.as_mut_slice.result.now) same) in
    let out =
    with_items_is c.self.inside.frame c.write_frame-length.new.out
    (c.write_frame-length.auto.out ∙ c.as_mut_slice.ensures.len) in
    let left =
    with_items_is (with_items c.self.inside.frame c.write_frame-length.new.out)
    c.apply_fault-self-inside.new.space
    (c.apply_fault-self-inside.auto.space ∙ c.as_mut_slice-2.ensures.len) in
    let fate = c.draw_fate-fate.result in
    let waits =
    ap (take c.apply_fault-self-inside.result) left ∙ c.apply_fault-self-inside.ensures.left
    ∙ ap (after_fate fate)
    (ap (take c.write_frame-length.result) (c.as_mut_slice-2.ensures.value ∙ out) ∙ front) in
    let drawn =
    c.draw_fate-fate.ensures.fate
    ∙ ap (fate_drawn c.self.inside.faults c.self.inside.draws) n in
    relays-good came _ lent c.in-Some.item adds start _ _ taken was (e.stands came was.stands) idle
    refl refl header fate (c.in-Some-good_header.ensures.frame lent) drawn waits refl
    (ap (λ k. c.self.inside.bytes + k) n) c.draw_fate-fate.ensures.draws
    (ap (λ k. c.self.inside.lost + k) c.is_lost.ensures.value)
    (ap (λ k. c.self.inside.altered + k) c.is_altered.ensures.value)

pub returns-clause-one : goal.returns-clause-one
returns-clause-one c =
    let e = c.push_all-used.ensures in
    let lent = c.push_all-used.new.self.lent in
    let header = c.in-Some-good_header.header in
    let same = ap (wire header) c.data.ensures in
    let w = c.write_frame-length.ensures in
    let n = w.length ∙ ap length same in
    let front =
    at-front _ (wire header lent) _ _ n
    (w.written ∙ ap (λ t. t ++ drop c.write_frame-length.result c.as_mut_slice.result.now) same) in
    let out =
    with_items_is c.self.inside.frame c.write_frame-length.new.out
    (c.write_frame-length.auto.out ∙ c.as_mut_slice.ensures.len) in
    let left =
    with_items_is (with_items c.self.inside.frame c.write_frame-length.new.out)
    c.apply_fault-self-inside.new.space
    (c.apply_fault-self-inside.auto.space ∙ c.as_mut_slice-2.ensures.len) in
    let fate = c.draw_fate-fate.result in
    let waits =
    ap (take c.apply_fault-self-inside.result) left ∙ c.apply_fault-self-inside.ensures.left
    ∙ ap (after_fate fate)
    (ap (take c.write_frame-length.result) (c.as_mut_slice-2.ensures.value ∙ out) ∙ front) in
    inr (record {
      header = header;
      data_bytes = lent;
      fate = fate;
      frame =
          c.in-Some-good_header.ensures.beside lent
          (subst (λ i. LentBeside i lent) c.in-Some.is e.lent);
      is = waits;
    })

pub returns-clause-fate : goal.returns-clause-fate
returns-clause-fate c = λ start came taken r.
    let inv = c.self.invariant in
    let e = c.push_all-used.ensures in
    let lent = c.push_all-used.new.self.lent in
    let v = c.self.view_is in
    let was = subst (λ w. Relays start w came taken) (sym v) r in
    let idle = ap (λ w. w.waiting) v ∙ c.requires.idle in
    let adds =
    adds-one _ came _ lent _ c.in-Some.item inv.0 c.in-Some.is (e.item came was.stands) in
    let header = c.in-Some-good_header.header in
    let same = ap (wire header) c.data.ensures in
    let w = c.write_frame-length.ensures in
    let n = w.length ∙ ap length same in
    let front =
    at-front _ (wire header lent) _ _ n
    (w.written ∙ ap (λ t. t ++ drop c.write_frame-length.result c.as_mut_slice.result.now) same) in
    let out =
    with_items_is c.self.inside.frame c.write_frame-length.new.out
    (c.write_frame-length.auto.out ∙ c.as_mut_slice.ensures.len) in
    let left =
    with_items_is (with_items c.self.inside.frame c.write_frame-length.new.out)
    c.apply_fault-self-inside.new.space
    (c.apply_fault-self-inside.auto.space ∙ c.as_mut_slice-2.ensures.len) in
    let fate = c.draw_fate-fate.result in
    let waits =
    ap (take c.apply_fault-self-inside.result) left ∙ c.apply_fault-self-inside.ensures.left
    ∙ ap (after_fate fate)
    (ap (take c.write_frame-length.result) (c.as_mut_slice-2.ensures.value ∙ out) ∙ front) in
    let drawn =
    c.draw_fate-fate.ensures.fate
    ∙ ap (fate_drawn c.self.inside.faults c.self.inside.draws) n in
    subst (λ w. fates_in w.faults start (came ++ take c.push_all-used.result.used c.args.bytes.now)
    ≡ fates_in w.faults start came ++ fate ∷ []) v
    (fate-one came _ lent c.in-Some.item adds start _ taken was header fate
    (c.in-Some-good_header.ensures.frame lent) drawn)

pub returns-in_default-good_header-clause-fate : goal.returns-in_default-good_header-clause-fate
returns-in_default-good_header-clause-fate c = λ start came taken r.
    let inv = c.self.invariant in
    let e = c.push_all-used.ensures in
    let lent = c.push_all-used.new.self.lent in
    let v = c.self.view_is in
    let was = subst (λ w. Relays start w came taken) (sym v) r in
    let idle = ap (λ w. w.waiting) v ∙ c.requires.idle in
    let adds =
    adds-one _ came _ lent _ c.in-Some.item inv.0 c.in-Some.is (e.item came was.stands) in
    subst (λ w. fates_in w.faults start (came ++ take c.push_all-used.result.used c.args.bytes.now)
    ≡ fates_in w.faults start came ++ []) v
    (fate-none came _ lent c.in-Some.item adds start _ taken was
    (c.in_default-good_header.ensures.frame lent))
