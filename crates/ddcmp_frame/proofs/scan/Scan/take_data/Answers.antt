use Rattle.std.proofs.Common.{◌≡◌, ◌+◌, ◌-◌, ◌≤◌, [], ◌∷◌, Some, true, false, refl, sym, ◌∙◌, ap}
use Rattle.std.proofs.Common.{subst, arith, rules, length, take, take_all, drop, zero-le}
use Rattle.std.proofs.lemmas.List.{length-take}
use Rattle.ddcmp_frame.specs.Spelling.{IsBytes}
use Rattle.ddcmp_frame.specs.declared.item.Item.TheVariants.{Good, DataCheck}
use Rattle.ddcmp_frame.specs.Reading.{place_after, is_data_right}
use Rattle.ddcmp_frame.specs.Reader.{frame_length}
use Rattle.ddcmp_frame.specs.Inside.Scan.{bytes_in, skipped_in, left_in, view_of, FitsPhase}
use Rattle.ddcmp_frame.proofs.WireLaws.{counted-whole, frame_length-counted}
use Rattle.ddcmp_frame.proofs.PushLaws.{next_place}
use Rattle.ddcmp_frame.proofs.ScanLaws.{takes-nothing, takes-item, frame-short, frame-taken}
use Rattle.ddcmp_frame.proofs.ScanLaws.{after-taking, waits, gives, row-short, row-whole}
use Rattle.ddcmp_frame.proofs.ScanLaws.{kept-sound}
use Rattle.ddcmp_frame.proofs.scan.Scan.take_data.Goals as goal

pub returns-then-len-count-clause-takes : goal.returns-then-len-count-clause-takes
returns-then-len-count-clause-takes c =
    let s = c.args.self.now in
    let ready = c.requires.ready in
    let phase = c.requires.phase in
    let h = c.args.header in
    let n = c.args.count in
    let piece = c.args.piece.now in
    let used = c.min-used.result in
    let x = c.keep.new.buffer.items in
    let short = frame-short s h n ready.sound phase in
    let t =
    frame-taken s h n piece used x ready.sound phase (omega arith) (omega arith)
    c.keep.ensures.items in
    let m = t.more (s.offset - length s.buffer.items) (omega (arith, t.before)) in
    takes-nothing (view_of s) _ piece used (omega arith) (omega arith) refl refl
    (ap (λ n. take n (drop 8 x)) ready.lent) (λ text.
    waits (view_of s) _ text (take used piece) x _ m.more
    (row-short s.max _ s.lost x h n m.start m.full m.is m.counted m.taken (omega arith))
    (record {
      max = refl;
      counted = ap (λ n. s.offset + n) (sym t.taken);
      lost = refl;
      bytes = ap (λ p. bytes_in p x) phase;
      skipped = ap skipped_in phase;
      left = ap left_in phase;
    }))

pub returns-then-not-data_right-clause-takes : goal.returns-then-not-data_right-clause-takes
returns-then-not-data_right-clause-takes c =
    let s = c.args.self.now in
    let ready = c.requires.ready in
    let h = c.args.header in
    let n = c.args.count in
    let piece = c.args.piece.now in
    let used = c.min-used.result in
    let x = c.keep.new.buffer.items in
    let at = s.offset + used - c.len-3.result in
    let item = DataCheck at h in
    let short = frame-short s h n ready.sound c.requires.phase in
    let t =
    frame-taken s h n piece used x ready.sound c.requires.phase (omega arith) (omega arith)
    c.keep.ensures.items in
    let m = t.more at (omega (arith, t.before, t.len)) in
    let wrong : is_data_right n x ≡ false = search rules in
    let unlent = ap (λ n. take n (drop 8 x)) ready.lent in
    let row_is =
    row-whole s.max at s.lost x h n false m.start m.full m.is m.counted m.taken (omega arith)
    wrong in
    takes-item (view_of s) _ piece used (Some item) (omega arith) (omega arith) refl refl unlent
    (omega (arith, ap length unlent)) (λ text.
    gives (view_of s) _ text (take used piece) x at item (n + 10) m.more
    (row_is
    ∙ ap (λ l. Some ((item, l) ∷ [], place_after (n + 10) false (next_place at s.lost x)))
    (sym unlent)) (omega (arith, t.len)) m.quiet (λ y ends. tt)
    (after-taking (view_of s) _ piece used t.taken refl refl))

pub returns-clause-takes : goal.returns-clause-takes
returns-clause-takes c =
    let s = c.args.self.now in
    let ready = c.requires.ready in
    let h = c.args.header in
    let n = c.args.count in
    let piece = c.args.piece.now in
    let used = c.min-used.result in
    let x = c.keep.new.buffer.items in
    let at = s.offset + used - c.len-3.result in
    let short = frame-short s h n ready.sound c.requires.phase in
    let t =
    frame-taken s h n piece used x ready.sound c.requires.phase (omega arith) (omega arith)
    c.keep.ensures.items in
    let m = t.more at (omega (arith, t.before, t.len)) in
    let right : is_data_right n x ≡ true = search rules in
    let bytes : IsBytes x = subst IsBytes c.deref.ensures.value c.data_right.ensures.bytes in
    let full : n + 10 ≤ length x = omega arith in
    let whole = counted-whole h n x bytes full m.is m.counted right in
    let row_is =
    row-whole s.max at s.lost x h n true m.start m.full m.is m.counted m.taken full right in
    let all =
    take_all (frame_length h) x (omega (arith, t.len, frame_length-counted h n m.counted)) in
    takes-item (view_of s) _ piece used (Some (Good at h)) (omega arith) (omega arith)
    refl refl whole.0 (omega (arith, length-take n (drop 8 x), m.taken)) (λ text.
    gives (view_of s) _ text (take used piece) x at (Good at h) (n + 10) m.more row_is
    (omega (arith, t.len)) m.quiet (λ y ends. ends ∙ sym all ∙ whole.1)
    (after-taking (view_of s) _ piece used t.taken refl refl))

pub overflow_sub-at : goal.overflow_sub-at
overflow_sub-at c =
    let s = c.args.self.now in
    let sound = c.requires.ready.sound in
    let phase = c.requires.phase in
    let x = c.keep.new.buffer.items in
    let short = frame-short s c.args.header c.args.count sound phase in
    let t = frame-taken s c.args.header c.args.count c.args.piece.now c.min-used.result x sound
    phase (omega arith) (omega arith) c.keep.ensures.items in
    omega (arith, t.before, t.len, c.len-3.ensures)

pub returns-then-len-count-clause-sound : goal.returns-then-len-count-clause-sound
returns-then-len-count-clause-sound c =
    let s = c.args.self.now in
    let sound = c.requires.ready.sound in
    let phase = c.requires.phase in
    let x = c.keep.new.buffer.items in
    let short = frame-short s c.args.header c.args.count sound phase in
    let t = frame-taken s c.args.header c.args.count c.args.piece.now c.min-used.result x sound
    phase (omega arith) (omega arith) c.keep.ensures.items in
    let m = t.more (s.offset - length s.buffer.items) (omega (arith, t.before)) in
    kept-sound s _ sound c.requires.ready.lent refl refl c.keep.ensures.room
    (omega arith)
    (subst (λ p. length (bytes_in p x) ≤ s.offset + c.min-used.result) (sym phase)
    (omega (arith, t.len, t.before)))
    (subst (λ p. FitsPhase s.max p x) (sym phase) (record {
      full = m.full;
      short = omega arith;
      start = m.start;
      is = m.is;
      counted = m.counted;
      taken = m.taken;
    }))

pub returns-then-not-data_right-clause-sound : goal.returns-then-not-data_right-clause-sound
returns-then-not-data_right-clause-sound c =
    let s = c.args.self.now in
    let sound = c.requires.ready.sound in
    let phase = c.requires.phase in
    let x = c.keep.new.buffer.items in
    let short = frame-short s c.args.header c.args.count sound phase in
    let t = frame-taken s c.args.header c.args.count c.args.piece.now c.min-used.result x sound
    phase (omega arith) (omega arith) c.keep.ensures.items in
    let m = t.more (s.offset - length s.buffer.items) (omega (arith, t.before)) in
    kept-sound s _ sound c.requires.ready.lent refl refl c.keep.ensures.room
    (omega arith) zero-le tt

pub returns-clause-sound : goal.returns-clause-sound
returns-clause-sound c =
    let s = c.args.self.now in
    let sound = c.requires.ready.sound in
    let phase = c.requires.phase in
    let x = c.keep.new.buffer.items in
    let short = frame-short s c.args.header c.args.count sound phase in
    let t = frame-taken s c.args.header c.args.count c.args.piece.now c.min-used.result x sound
    phase (omega arith) (omega arith) c.keep.ensures.items in
    let m = t.more (s.offset - length s.buffer.items) (omega (arith, t.before)) in
    record {
      some = sound.some;
      most = sound.most;
      reserved = omega (arith, sound.reserved, c.keep.ensures.room);
      held = omega arith;
      before = zero-le;
      fits = tt;
      lent = λ some. omega arith;
      lent_within = m.taken;
    }
