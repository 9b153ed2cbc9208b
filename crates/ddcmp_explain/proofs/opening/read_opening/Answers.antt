use Rattle.std.proofs.Common.{◌≤◌, ◌-◌, rules, subst, sym, ap, ◌∙◌, arith, take, refl}
use Rattle.std.proofs.Common.{length-drop, length-take-le}
use Rattle.std.specs.Io.KnownBytes.{Consumes}
use Rattle.std.proofs.KnownBytes.{Consumes-trans}
use Rattle.ddcmp_io.specs.Device.{worse}
use Rattle.ddcmp_io.specs.declared.device.Got.TheVariants.{Bytes}
use Rattle.ddcmp_explain.proofs.DetectionLaws.{not-fine, read-long, take-read}
use Rattle.ddcmp_explain.proofs.TakeLaws.{consumes-unread}
use Rattle.ddcmp_explain.proofs.opening.read_opening.Goals as goal

pub loop-count-preserved : goal.loop-count-preserved
loop-count-preserved g c =
    let count = c.loop-count.count in
    let first = c.loop-count.first in
    let n = c.in-Bytes.n in
    let within : count ≤ 64 = c.loop-count.invariant.within in
    record {
      fine = c.in-Bytes.ensures.worst
          ∙ ap (λ worst. worse worst (Bytes n)) c.loop-count.invariant.fine;
      room =
          read-long count first c.read.new.buf within c.loop-count.invariant.room
          (omega (
            arith,
            c.read.auto.buf,
            length-drop count first,
            c.loop-count.invariant.room,
          ));
      within = search rules;
      consumed =
          subst (Consumes _ _)
          (sym (take-read count (64 - count) n first c.read.new.buf
          (omega (arith, within, c.loop-count.invariant.room)) c.in-Bytes.ensures.bytes.0))
          (Consumes-trans _ _ _ _ _ c.loop-count.invariant.consumed c.in-Bytes.ensures.bytes.1);
    }

pub returns-in-Idle : goal.returns-in-Idle
returns-in-Idle g c =
    let count = c.loop-count.count in
    let first = c.loop-count.first in record {
      bytes = (
        take count first,
        omega (
          arith,
          length-take-le count first
              (omega (arith, c.loop-count.invariant.within, c.loop-count.invariant.room)),
          c.loop-count-test.true,
        ),
        consumes-unread _ (g.R.Source.left c.loop-count.reader) _ (take count first) c.read.result
            c.read.new.buf c.in-Idle.is c.read.ensures.bytes c.loop-count.invariant.consumed,
      );
      failed = (
        (λ e. refl),
        λ e. not-fine (g.R.Source.state c.loop-count.reader) _ c.read.result
            c.loop-count.invariant.fine c.in-Idle.is c.read.ensures.worst,
      );
    }
