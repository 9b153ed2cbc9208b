use Rattle.std.proofs.Common.{◌≡◌, ◌+◌, ◌-◌, ◌≤◌, [], ◌∷◌, Some, false, refl, sym, ◌∙◌, ap, subst}
use Rattle.std.proofs.Common.{arith, rules, length, take, take_all, drop, slice_index, zero-le}
use Rattle.ddcmp_frame.specs.declared.scan.Candidate.TheVariants.{Fails, Gives, Begins, Announces}
use Rattle.ddcmp_frame.specs.Spelling.{is_start, parsed}
use Rattle.ddcmp_frame.specs.Reader.{LentBeside, EndsWith}
use Rattle.ddcmp_frame.specs.Reading.{by_verdict, place_after}
use Rattle.ddcmp_frame.specs.Inside.Scan.{bytes_in, skipped_in, left_in, view_of, FitsPhase}
use Rattle.ddcmp_frame.specs.Inside.Scan.{IsCandidate}
use Rattle.ddcmp_frame.proofs.ReadingLaws.{row-waits, row-full}
use Rattle.ddcmp_frame.proofs.PushLaws.{next_place, loss_told}
use Rattle.ddcmp_frame.proofs.ScanLaws.{takes-nothing, takes-item, header-few, header-taken}
use Rattle.ddcmp_frame.proofs.ScanLaws.{eight-taken, after-taking, waits, fails, gives, announces}
use Rattle.ddcmp_frame.proofs.ScanLaws.{row-short, resumed, loss-lends, index-take, kept-sound}
use Rattle.ddcmp_frame.proofs.scan.Scan.take_header.Goals as goal

pub returns-in_default-clause-takes : goal.returns-in_default-clause-takes
returns-in_default-clause-takes c =
    let s = c.args.self.now in
    let ready = c.requires.ready in
    let phase = c.requires.phase in
    let piece = c.args.piece.now in
    let used = c.min-used.result in
    let x = c.keep.new.buffer.items in
    let few = header-few s ready.sound phase in
    let t =
    header-taken s piece used x ready.sound phase (omega arith) (omega arith)
    c.keep.ensures.items in
    let m = t.more (s.offset - length s.buffer.items) (omega (arith, t.before)) in
    takes-nothing (view_of s) _ piece used (omega arith) (omega arith) refl refl
    (ap (λ n. take n (drop 8 x)) ready.lent) (λ text.
    waits (view_of s) _ text (take used piece) x _ m.more
    (row-waits s.max (next_place _ s.lost x) m.start (search rules)) (record {
      max = refl;
      counted = ap (λ n. s.offset + n) (sym t.taken);
      lost = refl;
      bytes = ap (λ p. bytes_in p x) phase;
      skipped = ap skipped_in phase;
      left = ap left_in phase;
    }))

pub returns-in-Fails-clause-sound : goal.returns-in-Fails-clause-sound
returns-in-Fails-clause-sound c =
    let s = c.args.self.now in
    let ready = c.requires.ready in
    let used = c.min-used.result in
    let x = c.keep.new.buffer.items in
    let few = header-few s ready.sound c.requires.phase in
    let t = eight-taken s c.args.piece.now used x ready.sound c.requires.phase (omega arith)
    (omega arith) c.keep.ensures.items
    (omega (arith, c.in-Some.ensures.cases.enough, c.deref.ensures.len)) in
    let r =
    resumed s.max c.phase_of-self.result x c.resume.new.buffer.items c.deref-in-Fails.result.now
    t.eight c.resume.ensures.items c.deref-in-Fails.ensures.value c.phase_of-self.ensures.none
    c.phase_of-self.ensures.some in
    record {
      some = ready.sound.some;
      most = ready.sound.most;
      reserved = omega arith;
      held = omega arith;
      before =
          subst (λ z. length z ≤ s.offset + used) (sym r.bytes) (omega (arith, r.few, t.before));
      fits = r.fits;
      lent = λ some. absurd (omega arith);
      lent_within = omega arith;
    }

pub returns-in-Fails-clause-takes : goal.returns-in-Fails-clause-takes
returns-in-Fails-clause-takes c =
    let s = c.args.self.now in
    let ready = c.requires.ready in
    let piece = c.args.piece.now in
    let used = c.min-used.result in
    let x = c.keep.new.buffer.items in
    let y = c.resume.new.buffer.items in
    let few = header-few s ready.sound c.requires.phase in
    let t = eight-taken s piece used x ready.sound c.requires.phase (omega arith)
    (omega arith) c.keep.ensures.items
    (omega (arith, c.in-Some.ensures.cases.enough, c.deref.ensures.len)) in
    let front = c.in-Some.ensures.cases.same ∙ ap (take 8) c.deref.ensures.value in
    let wrong =
    subst (λ z. IsCandidate s.max (s.offset + used - 8) z Fails) front c.in-Fails.ensures in
    let unlent = ap (λ n. take n (drop 8 y)) ready.lent in
    let told = loss_told (s.offset + used - 8) s.lost c.loss-item.result c.loss-item.ensures in
    let r =
    resumed s.max c.phase_of-self.result x y c.deref-in-Fails.result.now t.eight
    c.resume.ensures.items c.deref-in-Fails.ensures.value c.phase_of-self.ensures.none
    c.phase_of-self.ensures.some in
    takes-item (view_of s) _ piece used c.loss-item.result t.within (omega arith) refl refl
    (loss-lends _ s.lost c.loss-item.result _ told unlent) (omega (arith, ap length unlent))
    (λ text.
    fails (view_of s) _ text (take used piece)
    x _ c.loss-item.result t.more.more t.eight t.more.start wrong told t.more.quiet unlent
    (record {
      max = refl;
      counted = ap (λ n. s.offset + n) (sym t.taken);
      lost = refl;
      bytes = r.bytes ∙ c.resume.ensures.items;
      skipped = r.skipped;
      left = r.left;
    }))

pub returns-in-Gives-clause-takes : goal.returns-in-Gives-clause-takes
returns-in-Gives-clause-takes c =
    let s = c.args.self.now in
    let ready = c.requires.ready in
    let piece = c.args.piece.now in
    let used = c.min-used.result in
    let x = c.keep.new.buffer.items in
    let item = c.in-Gives.item in
    let few = header-few s ready.sound c.requires.phase in
    let t = eight-taken s piece used x ready.sound c.requires.phase (omega arith)
    (omega arith) c.keep.ensures.items
    (omega (arith, c.in-Some.ensures.cases.enough, c.deref.ensures.len)) in
    let place = next_place (s.offset + used - 8) s.lost x in
    let all : take 8 x ≡ x = take_all 8 x (omega (arith, t.eight)) in
    let front = c.in-Some.ensures.cases.same ∙ ap (take 8) c.deref.ensures.value in
    let g =
    subst (λ y. IsCandidate s.max (s.offset + used - 8) y (Gives item)) (front ∙ all)
    c.in-Gives.ensures in
    let unlent = ap (λ n. take n (drop 8 x)) ready.lent in
    let row_is =
    row-full s.max place t.more.start (omega (arith, t.eight))
    ∙ ap (λ y. by_verdict s.max place (parsed y)) all ∙ g.row s.lost in
    takes-item (view_of s) _ piece used (Some item) t.within (omega arith) refl refl
    (subst (LentBeside (Some item)) (sym unlent) g.lent) (omega (arith, ap length unlent))
    (λ text.
    gives (view_of s) _ text (take used piece) x _ item 8 t.more.more
    (row_is ∙ ap (λ l. Some ((item, l) ∷ [], place_after 8 false place)) (sym unlent))
    (omega (arith, t.eight)) t.more.quiet
    (λ y ends. subst (λ l. EndsWith (Some item) l y) (sym unlent) (g.wire y ends))
    (after-taking (view_of s) _ piece used t.taken refl refl))

pub returns-in-Begins-clause-takes : goal.returns-in-Begins-clause-takes
returns-in-Begins-clause-takes c =
    let s = c.args.self.now in
    let ready = c.requires.ready in
    let piece = c.args.piece.now in
    let used = c.min-used.result in
    let x = c.keep.new.buffer.items in
    let h = c.in-Begins.header in
    let n = c.in-Begins.count in
    let few = header-few s ready.sound c.requires.phase in
    let t = eight-taken s piece used x ready.sound c.requires.phase (omega arith)
    (omega arith) c.keep.ensures.items
    (omega (arith, c.in-Some.ensures.cases.enough, c.deref.ensures.len)) in
    let front = c.in-Some.ensures.cases.same ∙ ap (take 8) c.deref.ensures.value in
    let is =
    subst (λ y. IsCandidate s.max (s.offset + used - 8) y (Begins h n))
    front c.in-Begins.ensures in
    takes-nothing (view_of s) _ piece used t.within (omega arith) refl refl
    (ap (λ n. take n (drop 8 x)) ready.lent) (λ text.
    waits (view_of s) _ text (take used piece) x _ t.more.more
    (row-short s.max _ s.lost x h n t.more.start (omega (arith, t.eight)) is.0 is.1 is.2
    (omega (arith, t.eight))) (after-taking (view_of s) _ piece used t.taken refl refl))

pub returns-in-Announces-clause-takes : goal.returns-in-Announces-clause-takes
returns-in-Announces-clause-takes c =
    let s = c.args.self.now in
    let ready = c.requires.ready in
    let piece = c.args.piece.now in
    let used = c.min-used.result in
    let x = c.keep.new.buffer.items in
    let h = c.in-Announces.header in
    let n = c.in-Announces.count in
    let few = header-few s ready.sound c.requires.phase in
    let t = eight-taken s piece used x ready.sound c.requires.phase (omega arith)
    (omega arith) c.keep.ensures.items
    (omega (arith, c.in-Some.ensures.cases.enough, c.deref.ensures.len)) in
    let front = c.in-Some.ensures.cases.same ∙ ap (take 8) c.deref.ensures.value in
    let is =
    subst (λ y. IsCandidate s.max (s.offset + used - 8) y (Announces h n))
    front c.in-Announces.ensures in
    let unlent = ap (λ n. take n (drop 8 x)) ready.lent in
    takes-item (view_of s) _ piece used _ t.within (omega arith) refl refl unlent
    (omega (arith, ap length unlent)) (λ text.
    announces (view_of s) _ text (take used piece)
    x _ h n t.more.more t.eight t.more.start is.0 is.1 is.2 t.more.quiet unlent
    (after-taking (view_of s) _ piece used t.taken refl refl))

pub candidate_at-requires : goal.candidate_at-requires
candidate_at-requires c =
    let s = c.args.self.now in
    let sound = c.requires.ready.sound in
    let x = c.keep.new.buffer.items in
    let few = header-few s sound c.requires.phase in
    let t = eight-taken s c.args.piece.now c.min-used.result x sound c.requires.phase
    (omega arith) (omega arith) c.keep.ensures.items
    (omega (arith, c.in-Some.ensures.cases.enough, c.deref.ensures.len)) in
    let front = c.in-Some.ensures.cases.same ∙ ap (take 8) c.deref.ensures.value in
    record {
      start = ap (λ y. is_start (slice_index y 0)) front
          ∙ ap is_start (index-take 8 0 x (omega arith)) ∙ t.more.start;
    }

pub overflow_sub-at : goal.overflow_sub-at
overflow_sub-at c =
    let s = c.args.self.now in
    let sound = c.requires.ready.sound in
    let x = c.keep.new.buffer.items in
    let few = header-few s sound c.requires.phase in
    let t = eight-taken s c.args.piece.now c.min-used.result x sound c.requires.phase
    (omega arith) (omega arith) c.keep.ensures.items
    (omega (arith, c.in-Some.ensures.cases.enough, c.deref.ensures.len)) in
    t.before

pub returns-in_default-clause-sound : goal.returns-in_default-clause-sound
returns-in_default-clause-sound c =
    let s = c.args.self.now in
    let sound = c.requires.ready.sound in
    let x = c.keep.new.buffer.items in
    let few = header-few s sound c.requires.phase in
    let t = header-taken s c.args.piece.now c.min-used.result x sound c.requires.phase
    (omega arith) (omega arith) c.keep.ensures.items in
    let start = (t.more (s.offset - length s.buffer.items) (omega (arith, t.before))).start in
    let short = c.in_default.ensures.cases in
    let held = subst (λ p. FitsPhase s.max p s.buffer.items) c.requires.phase sound.fits in
    kept-sound s _ sound c.requires.ready.lent refl refl c.keep.ensures.room
    (omega (arith, short, c.deref.ensures.len))
    (subst (λ p. length (bytes_in p x) ≤ s.offset + c.min-used.result) (sym c.requires.phase)
    (omega (arith, t.len, t.before)))
    (subst (λ p. FitsPhase s.max p x) (sym c.requires.phase) (record {
      some = omega (arith, t.len, held.some);
      few = omega (arith, short, c.deref.ensures.len);
      start = start;
    }))

pub returns-in-Gives-clause-sound : goal.returns-in-Gives-clause-sound
returns-in-Gives-clause-sound c =
    let s = c.args.self.now in
    let sound = c.requires.ready.sound in
    let few = header-few s sound c.requires.phase in
    let t = eight-taken s c.args.piece.now c.min-used.result c.keep.new.buffer.items sound
    c.requires.phase (omega arith) (omega arith) c.keep.ensures.items
    (omega (arith, c.in-Some.ensures.cases.enough, c.deref.ensures.len)) in
    kept-sound s _ sound c.requires.ready.lent refl refl c.keep.ensures.room
    (omega (arith, t.eight))
    zero-le (tt)

pub returns-in-Begins-clause-sound : goal.returns-in-Begins-clause-sound
returns-in-Begins-clause-sound c =
    let s = c.args.self.now in
    let sound = c.requires.ready.sound in
    let few = header-few s sound c.requires.phase in
    let t = eight-taken s c.args.piece.now c.min-used.result c.keep.new.buffer.items sound
    c.requires.phase (omega arith) (omega arith) c.keep.ensures.items
    (omega (arith, c.in-Some.ensures.cases.enough, c.deref.ensures.len)) in
    let front = c.in-Some.ensures.cases.same ∙ ap (take 8) c.deref.ensures.value in
    let at = s.offset + c.min-used.result - 8 in
    let is = subst (λ y. IsCandidate s.max at y (Begins c.in-Begins.header c.in-Begins.count))
    front c.in-Begins.ensures in
    kept-sound s _ sound c.requires.ready.lent refl refl c.keep.ensures.room
    (omega (arith, t.eight))
    (omega (arith, t.eight, t.before)) (record {
      full = omega (arith, t.eight);
      short = omega (arith, t.eight);
      start = t.more.start;
      is = is.0;
      counted = is.1;
      taken = is.2;
    })

pub returns-in-Announces-clause-sound : goal.returns-in-Announces-clause-sound
returns-in-Announces-clause-sound c =
    let s = c.args.self.now in
    let sound = c.requires.ready.sound in
    let few = header-few s sound c.requires.phase in
    let t = eight-taken s c.args.piece.now c.min-used.result c.keep.new.buffer.items sound
    c.requires.phase (omega arith) (omega arith) c.keep.ensures.items
    (omega (arith, c.in-Some.ensures.cases.enough, c.deref.ensures.len)) in
    let front = c.in-Some.ensures.cases.same ∙ ap (take 8) c.deref.ensures.value in
    let at = s.offset + c.min-used.result - 8 in
    let h = c.in-Announces.header in
    let is = subst (λ y. IsCandidate s.max at y (Announces h c.in-Announces.count))
    front c.in-Announces.ensures in
    kept-sound s _ sound c.requires.ready.lent refl refl c.keep.ensures.room
    (omega (arith, t.eight))
    zero-le (omega arith, omega (arith, is.3))
