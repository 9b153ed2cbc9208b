use Rattle.std.proofs.Common.{◌≡◌, ◌≢◌, ℕ, ◌+◌, ◌<◌, ◌≤◌, List, [], length, take, Result, Err}
use Rattle.std.proofs.Common.{inl, inr}
use Rattle.std.proofs.Common.{length-take-le, rules, refl, sym, ap, subst, ◌∙◌, arith}
use Rattle.std.proofs.KnownBytes.{Consumes-nil, Consumes-kept}
use Rattle.ddcmp_io.specs.Written.{output_of}
use Rattle.ddcmp_io.proofs.Inputs.{read-more}
use Rattle.ddcmp_line.proofs.TakingLaws.{stays_fine, worsens, stays_whole, stays_below}
use Rattle.ddcmp_line.proofs.TakingLaws.{write_or_read, read_or_write, write_or_carrier}
use Rattle.ddcmp_line.proofs.TakingLaws.{read_or_carrier, same_fault, true_or_false}
use Rattle.ddcmp_line.specs.declared.script_fault.ScriptFault.{ScriptFault}
use Rattle.ddcmp_line.specs.declared.script_fault.ScriptFault.TheVariants.{Read, Write}
use Rattle.ddcmp_line.specs.declared.script_fault.ScriptFault.TheVariants.{Memory, Carrier}
use Rattle.ddcmp_line.specs.ScriptEnds.{around}
use Rattle.ddcmp_line.specs.Inside.ScriptProgress.{HasDone, course, fresh, played}
use Rattle.ddcmp_line.proofs.Endings.{has-flushed, plays-paused, plays-stopped, plays-unwritten}
use Rattle.ddcmp_line.proofs.Endings.{paused-before, kept-by, kept-left, left-after, none-left}
use Rattle.ddcmp_line.proofs.player.Player.take_all.Goals as goal

less_or_most : (n m : ℕ) → n < m → n ≡ m → ⊥
less_or_most n m l e = omega arith

counts_lines : (old seen n new now : ℕ) (buf : List ℕ) → new ≤ old + length (take n buf)
    → old ≤ seen → n ≤ length buf → now ≡ seen + n → new ≤ now
counts_lines old seen n new now buf few most within e = omega (arith, length-take-le n buf within)

-- an allocation failure is no other fault
memory_or : (fault : ScriptFault) → fault ≢ Memory
    → ◌≡◌ {A = Result (Unit {0}) ScriptFault} (Err Memory) (Err fault) → ⊥
memory_or fault other e = other (sym (same_fault Memory fault e))

has_room : (xs : List ℕ) (k : ℕ) → length xs ≡ k → k ≡ 4096 → 0 < length xs
has_room xs k e f = omega arith

pub returns-then-self-clause-consumed : goal.returns-then-self-clause-consumed
returns-then-self-clause-consumed g c =
    read-more c.loop-self.self.seen c.in-Bytes.n _ _ _ _ _ c.loop-self.invariant.consumed
    c.in-Bytes.ensures.bytes.0 c.in-Bytes.ensures.bytes.1 refl

pub loop-self-preserved : goal.loop-self-preserved
loop-self-preserved g c = record {
  fine = stays_fine _ _ _ _ c.loop-self.invariant.fine c.in-Bytes.is c.read_within.ensures.worst;
  whole = stays_whole _ _ c.in-Ok.ensures.devices.carrier.1;
  shown = c.if-not-show.ensures.whole refl;
  room = c.read_within.auto.buf ∙ c.loop-self.invariant.room;
  below = stays_below _ _ _ _ c.in-Bytes.ensures.within c.loop-self.invariant.below c.if-self.false
      c.take.ensures.seen;
  number = counts_lines _ _ _ _ _ _ c.take.ensures.number c.loop-self.invariant.number
      c.in-Bytes.ensures.bytes.0 c.take.ensures.seen;
  direct = c.take.ensures.direct ∙ c.loop-self.invariant.direct;
  consumed =
      read-more c.loop-self.self.seen c.in-Bytes.n _ _ _ _ _ c.loop-self.invariant.consumed
      c.in-Bytes.ensures.bytes.0 c.in-Bytes.ensures.bytes.1 c.take.ensures.seen;
  so_far = λ input p d log sink de h.
      let player = c.loop-self.self in
      let lines = player.stage.lines in
      let a = output_of g.W.Sink.broken g.W.Sink.contents c.loop-self.writer player.stage.page in
      let out = output_of g.W.Sink.broken g.W.Sink.contents c.flush.new.writer c.flush.new.self in
      let x = around p c.loop-self.pair d log (g.C.Carrier.told c.loop-self.carrier) in
      let far = c.loop-self.invariant.so_far input p d log sink de h in
      let now =
      has-flushed c.args.counted input x far.0 player.line.items player.number lines
      (fresh sink) a far.2 out c.flush.ensures.sends in
      let piece = take c.in-Bytes.n c.read_within.new.buf in
      let left =
      left-after (g.R.Source.left c.loop-self.reader) (g.R.Source.left c.read_within.new.reader)
      far.0 piece far.1 c.in-Bytes.ensures.bytes.1 in
      let before =
      subst
      (λ t. HasDone input t (played player.line.items player.number lines)
      (course (fresh sink) out x)) left.2 now in (
        left.0,
        left.1,
        c.in-Ok.ensures.takes input left.0 p d log (fresh sink)
            (c.loop-self.invariant.direct ∙ de) before,
      );
}

pub returns-in-Err-clause-consumed : goal.returns-in-Err-clause-consumed
returns-in-Err-clause-consumed g c =
    read-more c.loop-self.self.seen c.in-Bytes.n _ _ _ _ _ c.loop-self.invariant.consumed
    c.in-Bytes.ensures.bytes.0 c.in-Bytes.ensures.bytes.1
    (c.stop.ensures.seen ∙ c.take.ensures.seen)

pub returns-then-is_err-clause-plays : goal.returns-then-is_err-clause-plays
returns-then-is_err-clause-plays g c = λ input p d log sink de h.
    let player = c.loop-self.self in
    let lines = player.stage.lines in
    let a = output_of g.W.Sink.broken g.W.Sink.contents c.loop-self.writer player.stage.page in
    let out = output_of g.W.Sink.broken g.W.Sink.contents c.flush.new.writer c.flush.new.self in
    let x = around p c.loop-self.pair d log (g.C.Carrier.told c.loop-self.carrier) in
    let far = c.loop-self.invariant.so_far input p d log sink de h in
    let now =
    has-flushed c.args.counted input x far.0 player.line.items player.number lines (fresh sink)
    a far.2 out c.flush.ensures.sends in
    plays-unwritten c.args.counted input x far.0 player.line.items player.number lines sink out now

pub returns-in-Bytes-eq0-clause-plays : goal.returns-in-Bytes-eq0-clause-plays
returns-in-Bytes-eq0-clause-plays g c = λ input p d log sink de h.
    let player = c.loop-self.self in
    let lines = player.stage.lines in
    let a = output_of g.W.Sink.broken g.W.Sink.contents c.loop-self.writer player.stage.page in
    let out = output_of g.W.Sink.broken g.W.Sink.contents c.flush.new.writer c.flush.new.self in
    let x = around p c.loop-self.pair d log (g.C.Carrier.told c.loop-self.carrier) in
    let far = c.loop-self.invariant.so_far input p d log sink de h in
    let now =
    has-flushed c.args.counted input x far.0 player.line.items player.number lines (fresh sink)
    a far.2 out c.flush.ensures.sends in
    let bytes = c.in-Bytes-eq0.ensures.bytes in
    let buf = c.read_within.new.buf in
    let zero : c.in-Bytes-eq0.field-0 ≡ 0 = search rules in
    let room : 0 < length buf = has_room _ _ c.read_within.auto.buf c.loop-self.invariant.room in
    let none =
    none-left (g.R.Source.left c.loop-self.reader) (g.R.Source.left c.read_within.new.reader)
    far.0 buf c.in-Bytes-eq0.field-0 zero far.1 bytes.1 (bytes.2 zero room) in
    c.finish.ensures.plays input p d log sink (c.loop-self.invariant.direct ∙ de)
    (subst
    (λ t. HasDone input t (played player.line.items player.number lines)
    (course (fresh sink) out x)) none now)

pub returns-in_default-clause-plays : goal.returns-in_default-clause-plays
returns-in_default-clause-plays g c = λ input p d log sink de h.
    let player = c.loop-self.self in
    let lines = player.stage.lines in
    let a = output_of g.W.Sink.broken g.W.Sink.contents c.loop-self.writer player.stage.page in
    let out = output_of g.W.Sink.broken g.W.Sink.contents c.flush.new.writer c.flush.new.self in
    let x = around p c.loop-self.pair d log (g.C.Carrier.told c.loop-self.carrier) in
    let far = c.loop-self.invariant.so_far input p d log sink de h in
    let now =
    has-flushed c.args.counted input x far.0 player.line.items player.number lines (fresh sink)
    a far.2 out c.flush.ensures.sends in
    let whole = c.flush.ensures.broken ∙ sym c.is_err.ensures.value ∙ c.if-is_err.false in
    plays-paused c.args.counted input x far.0 player.line.items player.number lines sink out now
    whole c.flush.ensures.empty

pub returns-then-self-clause-plays : goal.returns-then-self-clause-plays
returns-then-self-clause-plays g c = λ input p d log sink de h.
    let player = c.loop-self.self in
    let lines = player.stage.lines in
    let a = output_of g.W.Sink.broken g.W.Sink.contents c.loop-self.writer player.stage.page in
    let out = output_of g.W.Sink.broken g.W.Sink.contents c.flush.new.writer c.flush.new.self in
    let x = around p c.loop-self.pair d log (g.C.Carrier.told c.loop-self.carrier) in
    let far = c.loop-self.invariant.so_far input p d log sink de h in
    let now =
    has-flushed c.args.counted input x far.0 player.line.items player.number lines (fresh sink)
    a far.2 out c.flush.ensures.sends in
    let whole = c.flush.ensures.broken ∙ sym c.is_err.ensures.value ∙ c.if-is_err.false in
    plays-paused c.args.counted input x far.0 player.line.items player.number lines sink out now
    whole c.flush.ensures.empty

pub returns-in-Err-clause-plays : goal.returns-in-Err-clause-plays
returns-in-Err-clause-plays g c = λ input p d log sink de h.
    let player = c.loop-self.self in
    let lines = player.stage.lines in
    let a = output_of g.W.Sink.broken g.W.Sink.contents c.loop-self.writer player.stage.page in
    let out = output_of g.W.Sink.broken g.W.Sink.contents c.flush.new.writer c.flush.new.self in
    let x = around p c.loop-self.pair d log (g.C.Carrier.told c.loop-self.carrier) in
    let far = c.loop-self.invariant.so_far input p d log sink de h in
    let now =
    has-flushed c.args.counted input x far.0 player.line.items player.number lines (fresh sink)
    a far.2 out c.flush.ensures.sends in
    let piece = take c.in-Bytes.n c.read_within.new.buf in
    let left =
    left-after (g.R.Source.left c.loop-self.reader) (g.R.Source.left c.read_within.new.reader)
    far.0 piece far.1 c.in-Bytes.ensures.bytes.1 in
    let before =
    subst
    (λ t. HasDone input t (played player.line.items player.number lines)
    (course (fresh sink) out x)) left.2 now in
    c.stop.ensures.plays c.args.counted input
    (around p c.take.new.pair d log (g.C.Carrier.told c.take.new.carrier)) sink
    (c.in-Err.ensures.takes input left.0 p d log (fresh sink)
    (c.loop-self.invariant.direct ∙ de) before)

pub returns-in_default-clause-paused : goal.returns-in_default-clause-paused
returns-in_default-clause-paused g c = λ input rest p d log sink de h read few later.
    let player = c.loop-self.self in
    let lines = player.stage.lines in
    let a = output_of g.W.Sink.broken g.W.Sink.contents c.loop-self.writer player.stage.page in
    let out = output_of g.W.Sink.broken g.W.Sink.contents c.flush.new.writer c.flush.new.self in
    let x = around p c.loop-self.pair d log (g.C.Carrier.told c.loop-self.carrier) in
    let far = c.loop-self.invariant.so_far input p d log sink de h in
    let now =
    has-flushed c.args.counted input x far.0 player.line.items player.number lines (fresh sink)
    a far.2 out c.flush.ensures.sends in
    let same =
    kept-left (g.R.Source.left c.loop-self.reader) (g.R.Source.left c.read_within.new.reader)
    far.0 rest far.1 later
    (kept-by c.read_within.result _ _ _ c.in_default.not-Bytes c.read_within.ensures.bytes) in
    let there =
    subst
    (λ t. HasDone input t (played player.line.items player.number lines)
    (course (fresh sink) out x)) same now in
    let whole = c.flush.ensures.broken ∙ sym c.is_err.ensures.value ∙ c.if-is_err.false in
    paused-before c.args.counted input x rest player.line.items player.number lines sink out there
    whole c.flush.ensures.empty

pub loop-self-init : goal.loop-self-init
loop-self-init g c = record {
  fine = c.requires.fine;
  whole = c.requires.whole;
  shown = c.requires.shown;
  room = refl;
  below = omega (arith, c.requires.seen);
  number = omega (arith, c.requires.seen, c.requires.number);
  direct = refl;
  consumed = ([], sym c.requires.seen, Consumes-nil _);
  so_far = λ input p d log sink de h. h;
}

pub returns-then-is_err-clause-consumed : goal.returns-then-is_err-clause-consumed
returns-then-is_err-clause-consumed g c = c.loop-self.invariant.consumed

pub returns-then-is_err-clause-read : goal.returns-then-is_err-clause-read
returns-then-is_err-clause-read g c = λ bad. absurd (bad c.loop-self.invariant.fine)

pub returns-then-is_err-clause-read_only : goal.returns-then-is_err-clause-read_only
returns-then-is_err-clause-read_only g c = λ e. absurd (write_or_read e)

pub returns-then-is_err-clause-read_most : goal.returns-then-is_err-clause-read_most
returns-then-is_err-clause-read_most g c = λ most. absurd
    (less_or_most _ _ c.loop-self.invariant.below most)

pub returns-then-is_err-clause-write : goal.returns-then-is_err-clause-write
returns-then-is_err-clause-write g c =
    (λ _. c.flush.ensures.broken ∙ sym c.is_err.ensures.value ∙ c.if-is_err.true, λ _. refl)

pub returns-then-is_err-clause-carrier : goal.returns-then-is_err-clause-carrier
returns-then-is_err-clause-carrier g c = (
  λ e. absurd (write_or_carrier e),
  λ down. absurd
      (true_or_false _ c.loop-self.invariant.whole down),
)

pub returns-then-is_err-clause-paused : goal.returns-then-is_err-clause-paused
returns-then-is_err-clause-paused g c = λ input rest p d log sink de h read. absurd
    (write_or_read read)

pub returns-then-not-show-clause-consumed : goal.returns-then-not-show-clause-consumed
returns-then-not-show-clause-consumed g c = c.loop-self.invariant.consumed

pub returns-then-not-show-clause-read : goal.returns-then-not-show-clause-read
returns-then-not-show-clause-read g c = λ bad. absurd (bad c.loop-self.invariant.fine)

pub returns-then-not-show-clause-read_only : goal.returns-then-not-show-clause-read_only
returns-then-not-show-clause-read_only g c = λ e. absurd (memory_or Read (λ r. cc) e)

pub returns-then-not-show-clause-read_most : goal.returns-then-not-show-clause-read_most
returns-then-not-show-clause-read_most g c = λ most. absurd
    (less_or_most _ _ c.loop-self.invariant.below most)

pub returns-then-not-show-clause-write : goal.returns-then-not-show-clause-write
returns-then-not-show-clause-write g c =
    let whole = c.flush.ensures.broken ∙ sym c.is_err.ensures.value ∙ c.if-is_err.false in
    (λ e. absurd (memory_or Write (λ r. cc) e), λ down. absurd (true_or_false _ whole down))

pub returns-then-not-show-clause-carrier : goal.returns-then-not-show-clause-carrier
returns-then-not-show-clause-carrier g c = (
  λ e. absurd (memory_or Carrier (λ r. cc) e),
  λ down. absurd
      (true_or_false _ c.loop-self.invariant.whole down),
)

pub returns-then-not-show-clause-paused : goal.returns-then-not-show-clause-paused
returns-then-not-show-clause-paused g c = λ input rest p d log sink de h read. absurd
    (memory_or Read (λ r. cc) read)

pub returns-then-not-show-clause-plays : goal.returns-then-not-show-clause-plays
returns-then-not-show-clause-plays g c = λ input p d log sink de h.
    let player = c.loop-self.self in
    let lines = player.stage.lines in
    let a = output_of g.W.Sink.broken g.W.Sink.contents c.loop-self.writer player.stage.page in
    let out = output_of g.W.Sink.broken g.W.Sink.contents c.flush.new.writer c.flush.new.self in
    let x = around p c.loop-self.pair d log (g.C.Carrier.told c.loop-self.carrier) in
    let far = c.loop-self.invariant.so_far input p d log sink de h in
    let now =
    has-flushed c.args.counted input x far.0 player.line.items player.number lines (fresh sink)
    a far.2 out c.flush.ensures.sends in
    let whole = c.flush.ensures.broken ∙ sym c.is_err.ensures.value ∙ c.if-is_err.false in
    plays-stopped c.args.counted input x far.0 player.line.items player.number lines sink out now
    whole c.flush.ensures.empty

pub returns-in-Bytes-eq0-clause-consumed : goal.returns-in-Bytes-eq0-clause-consumed
returns-in-Bytes-eq0-clause-consumed g c =
    let zero : c.in-Bytes-eq0.field-0 ≡ 0 = search rules in
    let bytes = c.in-Bytes-eq0.ensures.bytes in
    read-more c.loop-self.self.seen c.in-Bytes-eq0.field-0 c.finish.new.self.seen _ _ _ _
    c.loop-self.invariant.consumed bytes.0 bytes.1 (omega (arith, zero, c.finish.ensures.seen))

pub returns-in-Bytes-eq0-clause-read : goal.returns-in-Bytes-eq0-clause-read
returns-in-Bytes-eq0-clause-read g c = λ bad. absurd
    (bad (stays_fine _ _ _ _ c.loop-self.invariant.fine c.in-Bytes-eq0.is
    c.read_within.ensures.worst))

pub returns-in-Bytes-eq0-clause-read_only : goal.returns-in-Bytes-eq0-clause-read_only
returns-in-Bytes-eq0-clause-read_only g c = λ e. absurd (c.finish.ensures.read e)

pub returns-in-Bytes-eq0-clause-read_most : goal.returns-in-Bytes-eq0-clause-read_most
returns-in-Bytes-eq0-clause-read_most g c =
    λ most. absurd (less_or_most _ _ c.loop-self.invariant.below (sym c.finish.ensures.seen ∙ most))

pub returns-in-Bytes-eq0-clause-write : goal.returns-in-Bytes-eq0-clause-write
returns-in-Bytes-eq0-clause-write g c = c.finish.ensures.write

pub returns-in-Bytes-eq0-clause-carrier : goal.returns-in-Bytes-eq0-clause-carrier
returns-in-Bytes-eq0-clause-carrier g c = c.finish.ensures.carrier

pub returns-in-Bytes-eq0-clause-paused : goal.returns-in-Bytes-eq0-clause-paused
returns-in-Bytes-eq0-clause-paused g c =
    λ input rest p d log sink de h read. absurd (c.finish.ensures.read read)

pub returns-in_default-clause-consumed : goal.returns-in_default-clause-consumed
returns-in_default-clause-consumed g c =
    let so_far = c.loop-self.invariant.consumed in
    let kept = kept-by c.read_within.result _ _ _ c.in_default.not-Bytes c.read_within.ensures.bytes
    in
    (so_far.0, so_far.1, Consumes-kept _ _ _ _ so_far.2 kept)

pub returns-in_default-clause-read : goal.returns-in_default-clause-read
returns-in_default-clause-read g c = λ _. refl

pub returns-in_default-clause-read_only : goal.returns-in_default-clause-read_only
returns-in_default-clause-read_only g c = λ _. inl
    (worsens _ _ _ c.loop-self.invariant.fine c.in_default.not-Bytes c.read_within.ensures.worst)

pub returns-in_default-clause-read_most : goal.returns-in_default-clause-read_most
returns-in_default-clause-read_most g c = λ _. refl

pub returns-in_default-clause-write : goal.returns-in_default-clause-write
returns-in_default-clause-write g c =
    let whole = c.flush.ensures.broken ∙ sym c.is_err.ensures.value ∙ c.if-is_err.false in
    (λ e. absurd (read_or_write e), λ down. absurd (true_or_false _ whole down))

pub returns-in_default-clause-carrier : goal.returns-in_default-clause-carrier
returns-in_default-clause-carrier g c = (
  λ e. absurd (read_or_carrier e),
  λ down. absurd
      (true_or_false _ c.loop-self.invariant.whole down),
)

pub returns-then-self-clause-read : goal.returns-then-self-clause-read
returns-then-self-clause-read g c = λ _. refl

pub returns-then-self-clause-read_only : goal.returns-then-self-clause-read_only
returns-then-self-clause-read_only g c = λ _. inr c.if-self.true

pub returns-then-self-clause-read_most : goal.returns-then-self-clause-read_most
returns-then-self-clause-read_most g c = λ _. refl

pub returns-then-self-clause-write : goal.returns-then-self-clause-write
returns-then-self-clause-write g c =
    let whole = c.flush.ensures.broken ∙ sym c.is_err.ensures.value ∙ c.if-is_err.false in
    (λ e. absurd (read_or_write e), λ down. absurd (true_or_false _ whole down))

pub returns-then-self-clause-carrier : goal.returns-then-self-clause-carrier
returns-then-self-clause-carrier g c = (
  λ e. absurd (read_or_carrier e),
  λ down. absurd
      (true_or_false _ c.loop-self.invariant.whole down),
)

pub returns-then-self-clause-paused : goal.returns-then-self-clause-paused
returns-then-self-clause-paused g c =
    λ input rest p d log sink de h read few. absurd (few c.if-self.true)

pub stop-requires-clause-write : goal.stop-requires-clause-write
stop-requires-clause-write g c = λ e. c.in-Err.ensures.devices.write (ap Err e)

pub stop-requires-clause-one : goal.stop-requires-clause-one
stop-requires-clause-one g c = λ e. c.in-Err.ensures.devices.one (ap Err e)

pub returns-in-Err-clause-read : goal.returns-in-Err-clause-read
returns-in-Err-clause-read g c = λ bad. absurd
    (bad (stays_fine _ _ _ _ c.loop-self.invariant.fine c.in-Bytes.is c.read_within.ensures.worst))

pub returns-in-Err-clause-read_only : goal.returns-in-Err-clause-read_only
returns-in-Err-clause-read_only g c = λ e. absurd (c.stop.ensures.read (same_fault _ _ e))

pub returns-in-Err-clause-read_most : goal.returns-in-Err-clause-read_most
returns-in-Err-clause-read_most g c = λ most. absurd
    (c.if-self.false (sym c.take.ensures.seen ∙ sym c.stop.ensures.seen ∙ most))

pub returns-in-Err-clause-write : goal.returns-in-Err-clause-write
returns-in-Err-clause-write g c =
    (λ e. c.stop.ensures.write.0 (same_fault _ _ e), λ down. ap Err (c.stop.ensures.write.1 down))

pub returns-in-Err-clause-carrier : goal.returns-in-Err-clause-carrier
returns-in-Err-clause-carrier g c =
    let told = c.in-Err.ensures.devices.carrier in (
      λ e. told.0 (ap Err (c.stop.ensures.carrier.0 (same_fault _ _ e))),
      λ down. ap Err (c.stop.ensures.carrier.1 (same_fault _ _ (told.1 down))),
    )

pub returns-in-Err-clause-paused : goal.returns-in-Err-clause-paused
returns-in-Err-clause-paused g c =
    λ input rest p d log sink de h read. absurd (c.stop.ensures.read (same_fault _ _ read))
