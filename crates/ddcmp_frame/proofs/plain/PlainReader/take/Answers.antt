use Rattle.std.proofs.Common.{◌≡◌, ℕ, ◌+◌, ◌-◌, ◌<◌, ◌≤◌, ◌++◌, refl, sym, ◌∙◌, ap, subst, zero-le}
use Rattle.std.proofs.Common.{List, [], ◌∷◌, length, length-append, vec_len, vec_capacity, arith}
use Rattle.std.proofs.Common.{Bool, true, false, true≢false, if◌then◌else◌, Some, None}
use Rattle.ddcmp_num.specs.declared.limits.TheConstants.{MAX_COUNT}
use Rattle.ddcmp_frame.specs.Inside.PlainRoom.{HasPlainRoom}
use Rattle.ddcmp_frame.specs.declared.plain.PlainReader.TheInside.{Inside}
use Rattle.ddcmp_frame.specs.declared.item.Item.TheVariants.{TooLong}
use Rattle.ddcmp_frame.specs.declared.plain.Step.{Step}
use Rattle.ddcmp_frame.specs.declared.plain.Step.TheVariants.{Unfinished, Skips, Fails, Announces}
use Rattle.ddcmp_frame.specs.declared.plain.Step.TheVariants.{Gives}
use Rattle.ddcmp_frame.specs.Reader.{StandsFor, Grows}
use Rattle.ddcmp_frame.specs.Reading.{row}
use Rattle.ddcmp_frame.specs.Step.{row_of_step, Found}
use Rattle.ddcmp_frame.proofs.PushLaws.{held, next_place, loss_told, exit_passes, exit_passed}
use Rattle.ddcmp_frame.proofs.PushLaws.{exit_unfinished, exit_skips, exit_fails, exit_announces}
use Rattle.ddcmp_frame.proofs.PushLaws.{exit_gives}
use Rattle.ddcmp_frame.proofs.plain.PlainReader.take.Goals as goal

-- the row of the bytes, as the code told it
row_is : (max at : ℕ) (lost : Bool) (t u : List ℕ) (r s : Step) → t ≡ u → r ≡ s
    → row max (next_place at lost t) ≡ row_of_step r (next_place at lost t)
    → row max (next_place at lost u) ≡ row_of_step s (next_place at lost u)
row_is max at lost t u r s e f h =
    subst (λ x. row max (next_place at lost u) ≡ row_of_step x (next_place at lost u)) f
    (subst (λ x. row max (next_place at lost x) ≡ row_of_step r (next_place at lost x)) e h)

found_is : (max at : ℕ) (t u : List ℕ) (r s : Step) → t ≡ u → r ≡ s → Found max at t r
    → Found max at u s
found_is max at t u r s e f h = subst (Found max at u) f (subst (λ x. Found max at x r) e h)

-- how many bytes are held once one was stored
stored_by : (max offset : ℕ) (finished : Bool) (old u : List ℕ) (byte : ℕ)
    → (finished ≡ false → length old < max + 10) → (finished ≡ false → length old ≤ offset)
    → u ≡ (if finished then [] else old) ++ byte ∷ []
    → (length u ≤ max + 10) × (length u ≤ offset + 1)
stored_by max offset true old u byte short before is =
    (omega (arith, ap length is), omega (arith, ap length is))
stored_by max offset false old u byte short before is =
    let long = ap length is ∙ length-append old (byte ∷ []) in
    (omega (arith, long, short refl), omega (arith, long, before refl))

stored : (i : Inside) (u : List ℕ) (byte : ℕ) → HasPlainRoom i
    → u ≡ (if i.finished then [] else i.buffer.items) ++ byte ∷ []
    → (length u ≤ i.max + 10) × (length u ≤ i.offset + 1)
stored i u byte room is =
    stored_by i.max i.offset i.finished i.buffer.items u byte
    (λ going. omega (arith, room.unfinished going)) (λ going. omega (arith, room.before going)) is

-- the room that is left
room_after : (i j : Inside) → HasPlainRoom i → j.max ≡ i.max
    → vec_capacity i.buffer ≤ vec_capacity j.buffer → vec_len j.buffer ≤ i.max + 10
    → (j.finished ≡ false → (vec_len j.buffer < i.max + 10) × (vec_len j.buffer ≤ j.offset))
    → j.skipped + j.left ≤ MAX_COUNT + 10 → (0 < j.lent → 8 + j.lent ≤ vec_len j.buffer)
    → j.lent ≤ i.max → HasPlainRoom j
room_after i j room same more held short passing lent within = record {
  some = omega (arith, same, room.some);
  most = subst (λ max. max ≤ MAX_COUNT) (sym same) room.most;
  reserved = omega (arith, same, room.reserved, more);
  held = omega (arith, same, held);
  unfinished = λ going. omega (arith, same, (short going).0);
  before = λ going. (short going).1;
  passing = passing;
  lent = lent;
  lent_within = omega (arith, same, within);
}

pub returns-then-self-gt1-clause-grows : goal.returns-then-self-gt1-clause-grows
returns-then-self-gt1-clause-grows c = λ text.
    let i = c.self.inside in
    subst
    (λ v. StandsFor v text
    → Grows v c.args.byte None
    (held i.max (i.offset + 1) i.lost i.finished i.buffer.items (i.skipped + 1) (i.left - 1) 0)
    text) c.self.view_is
    (λ s. exit_passes i.max i.offset i.lost i.finished i.buffer.items i.skipped i.left i.lent
    c.args.byte text c.if-self-gt1.true s)

pub returns-then-self-eq1-clause-grows : goal.returns-then-self-eq1-clause-grows
returns-then-self-eq1-clause-grows c = λ text.
    let i = c.self.inside in
    subst
    (λ v. StandsFor v text
    → Grows v c.args.byte None (held i.max (i.offset + 1) false i.finished i.buffer.items 0 0 0)
    text) c.self.view_is
    (λ s. exit_passed i.max i.offset i.lost i.finished i.buffer.items i.skipped i.left i.lent
    c.args.byte text c.if-self-eq1.true s)

pub returns-in-Unfinished-clause-grows : goal.returns-in-Unfinished-clause-grows
returns-in-Unfinished-clause-grows c = λ text.
    let i = c.self.inside in
    let u = c.store.new.buffer.items in
    let at = i.offset + 1 - c.len.result in
    let e =
    row_is i.max at i.lost c.deref.result.now u c.row.result Unfinished c.deref.ensures.value
    c.in-Unfinished.is (c.row.ensures.row i.lost) in
    let f =
    found_is i.max at c.deref.result.now u c.row.result Unfinished c.deref.ensures.value
    c.in-Unfinished.is c.row.ensures.found in
    let l = c.len.ensures ∙ sym c.deref.ensures.len ∙ ap length c.deref.ensures.value in
    subst
    (λ v. StandsFor v text
    → Grows v c.args.byte None (held i.max (i.offset + 1) i.lost false u i.skipped i.left 0)
    text) c.self.view_is
    (λ s. exit_unfinished i.max i.offset i.lost i.finished i.buffer.items i.skipped i.left i.lent
    c.args.byte text u at
    (record {
      stands = s;
      none = omega arith;
      bytes = c.store.ensures.items;
      at_front = ap (λ n. i.offset + 1 - n) l;
    }) e)

pub returns-in-Skips-clause-grows : goal.returns-in-Skips-clause-grows
returns-in-Skips-clause-grows c = λ text.
    let i = c.self.inside in
    let u = c.store.new.buffer.items in
    let at = i.offset + 1 - c.len.result in
    let e =
    row_is i.max at i.lost c.deref.result.now u c.row.result Skips c.deref.ensures.value
    c.in-Skips.is (c.row.ensures.row i.lost) in
    let f =
    found_is i.max at c.deref.result.now u c.row.result Skips c.deref.ensures.value
    c.in-Skips.is c.row.ensures.found in
    let l = c.len.ensures ∙ sym c.deref.ensures.len ∙ ap length c.deref.ensures.value in
    subst
    (λ v. StandsFor v text
    → Grows v c.args.byte None (held i.max (i.offset + 1) i.lost true u i.skipped i.left 0)
    text) c.self.view_is
    (λ s. exit_skips i.max i.offset i.lost i.finished i.buffer.items i.skipped i.left i.lent
    c.args.byte text u at
    (record {
      stands = s;
      none = omega arith;
      bytes = c.store.ensures.items;
      at_front = ap (λ n. i.offset + 1 - n) l;
    }) f e)

pub returns-in-Fails-clause-grows : goal.returns-in-Fails-clause-grows
returns-in-Fails-clause-grows c = λ text.
    let i = c.self.inside in
    let u = c.store.new.buffer.items in
    let at = i.offset + 1 - c.len.result in
    let e =
    row_is i.max at i.lost c.deref.result.now u c.row.result Fails c.deref.ensures.value
    c.in-Fails.is (c.row.ensures.row i.lost) in
    let f =
    found_is i.max at c.deref.result.now u c.row.result Fails c.deref.ensures.value
    c.in-Fails.is c.row.ensures.found in
    let l = c.len.ensures ∙ sym c.deref.ensures.len ∙ ap length c.deref.ensures.value in
    subst
    (λ v. StandsFor v text
    → Grows v c.args.byte c.loss-item.result
    (held i.max (i.offset + 1) true false c.resume.new.buffer.items i.skipped i.left 0) text)
    c.self.view_is
    (λ s. exit_fails i.max i.offset i.lost i.finished i.buffer.items i.skipped i.left i.lent
    c.args.byte text u at c.loss-item.result c.resume.new.buffer.items
    (record {
      stands = s;
      none = omega arith;
      bytes = c.store.ensures.items;
      at_front = ap (λ n. i.offset + 1 - n) l;
    }) f.0 f.1 e
    (loss_told at i.lost c.loss-item.result c.loss-item.ensures) c.resume.ensures.items)

pub returns-in-Announces-clause-grows : goal.returns-in-Announces-clause-grows
returns-in-Announces-clause-grows c = λ text.
    let i = c.self.inside in
    let u = c.store.new.buffer.items in
    let at = i.offset + 1 - c.len.result in
    let e =
    row_is i.max at i.lost c.deref.result.now u c.row.result
    (Announces c.in-Announces.header c.in-Announces.count)
    c.deref.ensures.value c.in-Announces.is (c.row.ensures.row i.lost) in
    let f =
    found_is i.max at c.deref.result.now u c.row.result
    (Announces c.in-Announces.header c.in-Announces.count)
    c.deref.ensures.value c.in-Announces.is c.row.ensures.found in
    let l = c.len.ensures ∙ sym c.deref.ensures.len ∙ ap length c.deref.ensures.value in
    subst
    (λ v. StandsFor v text
    → Grows v c.args.byte (Some (TooLong at c.in-Announces.header))
    (held i.max (i.offset + 1) i.lost true u 8 (c.in-Announces.count + 2) 0) text)
    c.self.view_is
    (λ s. exit_announces i.max i.offset i.lost i.finished i.buffer.items i.skipped i.left i.lent
    c.args.byte text u at c.in-Announces.header c.in-Announces.count
    (record {
      stands = s;
      none = omega arith;
      bytes = c.store.ensures.items;
      at_front = ap (λ n. i.offset + 1 - n) l;
    }) f.0 f.1 f.2 f.3 e)

pub returns-in-Gives-clause-grows : goal.returns-in-Gives-clause-grows
returns-in-Gives-clause-grows c = λ text.
    let i = c.self.inside in
    let u = c.store.new.buffer.items in
    let at = i.offset + 1 - c.len.result in
    let e =
    row_is i.max at i.lost c.deref.result.now u c.row.result
    (Gives c.in-Gives.item c.in-Gives.lent) c.deref.ensures.value c.in-Gives.is
    (c.row.ensures.row i.lost) in
    let f =
    found_is i.max at c.deref.result.now u c.row.result (Gives c.in-Gives.item c.in-Gives.lent)
    c.deref.ensures.value c.in-Gives.is c.row.ensures.found in
    let l = c.len.ensures ∙ sym c.deref.ensures.len ∙ ap length c.deref.ensures.value in
    subst
    (λ v. StandsFor v text
    → Grows v c.args.byte (Some c.in-Gives.item)
    (held i.max (i.offset + 1) false true u i.skipped i.left c.in-Gives.lent) text)
    c.self.view_is
    (λ s. exit_gives i.max i.offset i.lost i.finished i.buffer.items i.skipped i.left i.lent
    c.args.byte text u at c.in-Gives.item c.in-Gives.lent
    (record {
      stands = s;
      none = omega arith;
      bytes = c.store.ensures.items;
      at_front = ap (λ n. i.offset + 1 - n) l;
    }) f e)

pub overflow_sub-at : goal.overflow_sub-at
overflow_sub-at c =
    let fits = stored c.self.inside c.store.new.buffer.items c.args.byte c.self.invariant
    c.store.ensures.items in
    omega (arith, c.len.ensures, fits.1)

pub invariant_of-self-in-Unfinished : goal.invariant_of-self-in-Unfinished
invariant_of-self-in-Unfinished c =
    let fits = stored c.self.inside c.store.new.buffer.items c.args.byte c.self.invariant
    c.store.ensures.items in
    room_after c.self.inside _ c.self.invariant refl c.store.ensures.room (omega (arith, fits.0))
    (λ going. (
      omega (arith, c.in-Unfinished.ensures.found, c.deref.ensures.len),
      omega (arith, fits.1),
    ))
    c.self.invariant.passing (λ some. absurd (omega (arith, some))) zero-le

pub invariant_of-self-in-Skips : goal.invariant_of-self-in-Skips
invariant_of-self-in-Skips c =
    let fits = stored c.self.inside c.store.new.buffer.items c.args.byte c.self.invariant
    c.store.ensures.items in
    room_after c.self.inside _ c.self.invariant refl c.store.ensures.room (omega (arith, fits.0))
    (λ going. absurd (true≢false going))
    c.self.invariant.passing (λ some. absurd (omega (arith, some))) zero-le

pub invariant_of-self-in-Fails : goal.invariant_of-self-in-Fails
invariant_of-self-in-Fails c =
    let fits = stored c.self.inside c.store.new.buffer.items c.args.byte c.self.invariant
    c.store.ensures.items in
    let shorter = c.resume.ensures.shorter in
    room_after c.self.inside _ c.self.invariant refl
    (omega (arith, c.store.ensures.room, c.resume.ensures.room))
    (omega (arith, shorter, fits.0))
    (λ going. (omega (arith, shorter, fits.0), omega (arith, shorter, fits.1)))
    c.self.invariant.passing (λ some. absurd (omega (arith, some))) zero-le

pub invariant_of-self-in-Announces : goal.invariant_of-self-in-Announces
invariant_of-self-in-Announces c =
    let fits = stored c.self.inside c.store.new.buffer.items c.args.byte c.self.invariant
    c.store.ensures.items in
    room_after c.self.inside _ c.self.invariant refl c.store.ensures.room (omega (arith, fits.0))
    (λ going. absurd (true≢false going))
    (omega (arith, c.in-Announces.ensures.found.4)) (λ some. absurd (omega (arith, some))) zero-le

pub invariant_of-self-in-Gives : goal.invariant_of-self-in-Gives
invariant_of-self-in-Gives c =
    let fits = stored c.self.inside c.store.new.buffer.items c.args.byte c.self.invariant
    c.store.ensures.items in
    let found = c.in-Gives.ensures.found in
    room_after c.self.inside _ c.self.invariant refl c.store.ensures.room (omega (arith, fits.0))
    (λ going. absurd (true≢false going))
    c.self.invariant.passing (λ some. omega (arith, found.0, found.1, c.deref.ensures.len)) found.5
