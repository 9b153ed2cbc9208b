use Rattle.std.proofs.Common.{Ok, Some, arith, false, length-take-le, refl, subst, ◌∙◌}
use Rattle.ddcmp_explain.specs.Reads.{IsNext}
use Rattle.ddcmp_explain.proofs.ProgressLaws.{answer-read, answer-write, begins, ends, fault-read}
use Rattle.ddcmp_explain.proofs.ProgressLaws.{fault-read-only, fault-write, goes-on, stopped}
use Rattle.ddcmp_explain.proofs.ProgressLaws.{write-failed}
use Rattle.ddcmp_explain.proofs.TakeLaws.{explained-by}
use Rattle.ddcmp_explain.proofs.explanation.explain_input.Goals as goal

pub loop-count-init : goal.loop-count-init
loop-count-init g c = record {
  fine = c.requires.fine;
  whole = c.requires.whole;
  style = c.new-lines.ensures.style;
  room = omega (arith, c.new-lines.ensures.offset, c.new-input.ensures.begins);
  so_far = λ input e.
      let start = g.W.Sink.contents c.args.writer.now in
      rw (e, c.requires.whole)
      (begins c.args.written c.args.frames.max start (Some input) input c.new-input.result
      c.new-lines.result (c.new-input.ensures.reads input) (c.new-lines.ensures.told false start));
}

pub loop-count-preserved : goal.loop-count-preserved
loop-count-preserved g c =
    let next =
    subst
    (λ o. IsNext c.loop-count.input c.next.new.self (g.R.Source.state c.next.new.reader) (Ok o))
    c.in-Ok-Some.field-0-is c.in-Ok-Some.ensures.next in record {
      fine = next.0;
      whole = c.in-Ok.ensures.broken;
      style = c.in-Ok.ensures.style ∙ c.push_all.ensures.style ∙ c.loop-count.invariant.style;
      room = omega (
        arith,
        c.in-Ok.ensures.offset,
        c.push_all.ensures.offset,
        c.loop-count.invariant.room,
        next.2,
        length-take-le c.in-Ok-Some.count c.next.new.bytes
            (omega (arith, next.1, c.next.array_long2)),
      );
      so_far = λ input e.
          let p = c.loop-count.invariant.so_far input e in
          let start = g.W.Sink.contents c.args.writer.now in
          let told =
          c.in-Ok.ensures.told c.args.frames.max start _
          (c.push_all.ensures.told c.args.frames.max start _ p.told) in
          goes-on c.args.written c.args.style c.args.frames.max start input
          (g.R.Source.left c.loop-count.reader) c.loop-count.input c.loop-count.lines
          (g.W.Sink.broken c.loop-count.writer) (g.W.Sink.contents c.loop-count.writer)
          c.loop-count.invariant.style p (g.R.Source.left c.next.new.reader) c.next.new.self
          c.next.new.bytes c.in-Ok-Some.count c.in-Ok-Some.field-0 c.in-Ok-Some.field-0-is
          (c.in-Ok-Some.ensures.gives c.loop-count.invariant.fine c.args.written input p.seen
          p.reads)
          c.flush.new.self (g.W.Sink.broken c.flush.new.writer)
          (g.W.Sink.contents c.flush.new.writer) c.push_all.new.self.style c.in-Ok.ensures.style
          told.0 told.1;
    }

pub returns-in-Err-flush : goal.returns-in-Err-flush
returns-in-Err-flush g c =
    let next =
    subst
    (λ o. IsNext c.loop-count.input c.next.new.self (g.R.Source.state c.next.new.reader) (Ok o))
    c.in-Ok-Some.field-0-is c.in-Ok-Some.ensures.next in
    explained-by c.args.written c.args.style c.args.frames.max _ _ _
    (λ input e.
    let p = c.loop-count.invariant.so_far input e in
    let start = g.W.Sink.contents c.args.writer.now in
    let told =
    c.in-Err-flush.ensures.told c.args.frames.max start _
    (c.push_all.ensures.told c.args.frames.max start _ p.told) in
    write-failed c.args.written c.args.style c.args.frames.max start input
    (g.R.Source.left c.loop-count.reader) c.loop-count.input c.loop-count.lines
    (g.W.Sink.broken c.loop-count.writer) (g.W.Sink.contents c.loop-count.writer)
    c.loop-count.invariant.style p (g.R.Source.left c.next.new.reader) c.next.new.self
    c.next.new.bytes c.in-Ok-Some.count c.in-Ok-Some.field-0 c.in-Ok-Some.field-0-is
    (c.in-Ok-Some.ensures.gives c.loop-count.invariant.fine c.args.written input p.seen p.reads)
    (g.W.Sink.contents c.flush.new.writer) c.push_all.new.self.style c.push_all.ensures.style
    told.1)
    (λ worse. absurd (worse next.0)) (λ e. cc)
    ((λ _. c.in-Err-flush.ensures.broken), λ _. refl)

pub returns-in-Ok-None : goal.returns-in-Ok-None
returns-in-Ok-None g c =
    let next =
    subst
    (λ o. IsNext c.loop-count.input c.next.new.self (g.R.Source.state c.next.new.reader) (Ok o))
    c.in-Ok-None.field-0-is c.in-Ok-None.ensures.next in
    rw (c.answer.ensures)
    (explained-by c.args.written c.args.style c.args.frames.max _ _ _
    (λ input e.
    let p = c.loop-count.invariant.so_far input e in
    ends c.args.written c.args.style c.args.frames.max (g.W.Sink.contents c.args.writer.now) input
    (g.R.Source.left c.loop-count.reader) c.loop-count.input c.loop-count.lines
    (g.W.Sink.broken c.loop-count.writer) (g.W.Sink.contents c.loop-count.writer)
    c.loop-count.invariant.style p (g.R.Source.left c.next.new.reader) c.next.new.self
    c.next.new.bytes (g.W.Sink.contents c.finish.new.writer) c.in-Ok-None.field-0 c.finish.result
    c.in-Ok-None.field-0-is
    (c.in-Ok-None.ensures.gives c.loop-count.invariant.fine c.args.written input p.seen p.reads)
    (c.finish.ensures.told c.args.frames.max (g.W.Sink.contents c.args.writer.now) _ p.told))
    (λ worse. absurd (worse next)) (λ e. absurd (answer-read c.finish.result e))
    (answer-write c.finish.result (g.W.Sink.broken c.finish.new.writer) c.finish.ensures.broken))

pub returns-in-Err : goal.returns-in-Err
returns-in-Err g c =
    let n = c.in-Err.ensures.next in
    explained-by c.args.written c.args.style c.args.frames.max _ _ _
    (λ input e.
    let p = c.loop-count.invariant.so_far input e in
    stopped c.args.written c.args.style c.args.frames.max (g.W.Sink.contents c.args.writer.now)
    input (g.R.Source.left c.loop-count.reader) c.loop-count.input c.loop-count.lines
    (g.W.Sink.broken c.loop-count.writer) (g.W.Sink.contents c.loop-count.writer)
    c.loop-count.invariant.style p (g.R.Source.left c.next.new.reader) c.next.new.self
    c.next.new.bytes (g.R.Source.state c.next.new.reader) c.in-Err.fault n
    (c.in-Err.ensures.gives c.loop-count.invariant.fine c.args.written input p.seen p.reads))
    (fault-read c.loop-count.input c.next.new.self (g.R.Source.state c.next.new.reader)
    c.in-Err.fault n)
    (fault-read-only c.args.written c.args.frames.max (g.W.Sink.contents c.args.writer.now)
    (g.R.Source.left c.args.reader.now) (g.R.Source.left c.loop-count.reader)
    (g.R.Source.left c.next.new.reader) c.loop-count.input c.next.new.self c.loop-count.lines
    (g.W.Sink.broken c.loop-count.writer) (g.W.Sink.contents c.loop-count.writer) c.next.new.bytes
    (g.R.Source.state c.next.new.reader) c.in-Err.fault c.loop-count.invariant.so_far
    (λ input seen r. c.in-Err.ensures.gives c.loop-count.invariant.fine c.args.written input seen r)
    n)
    (fault-write c.loop-count.input c.next.new.self (g.R.Source.state c.next.new.reader)
    c.in-Err.fault (g.W.Sink.broken c.loop-count.writer) n c.loop-count.invariant.whole)
