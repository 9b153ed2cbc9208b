use Rattle.std.proofs.Common.{[], ap, sym}
use Rattle.ddcmp_io.specs.Written.{HandsOver}
use Rattle.ddcmp_io.proofs.WrittenLaws.{sends-then}
use Rattle.ddcmp_io.proofs.TextLaws.{sends-as}
use Rattle.ddcmp_station.specs.CountersText.{counters_line}
use Rattle.ddcmp_session.specs.EndText.{end_text}
use Rattle.ddcmp_streams.specs.Queued.{paged}
use Rattle.ddcmp_streams.proofs.ErrorsLaws.{through-page}
use Rattle.ddcmp_session.proofs.text.write_end.Goals as goal
use Rattle.ddcmp_session.proofs.text.write_end.Goals.{then-counted, else-counted}

pub returns : goal.returns
returns c =
    let d = c.args.link.now in
    let to = paged c.write_end_line.new.out c.write_end_line.new.page in
    let sends : HandsOver (paged c.args.out.now c.new-page.result) to (end_text c.args.counted d) =
    elim c.if-counted.branch [
      | then-counted w
          ↦ sends-as (ap (λ b. end_text b d) (sym w.if-counted.true))
          (sends-then (sends-as (ap (counters_line []) w.counters.ensures) w.write_counters.ensures)
          (rw (sym w.out-is, sym w.page-is) c.write_end_line.ensures))
      | else-counted w
          ↦ sends-as (ap (λ b. end_text b d) (sym w.if-counted.false))
          (rw (sym w.out-is, sym w.page-is) c.write_end_line.ensures)
    ] in
    through-page c.args.out.now c.write_end_line.new.out c.flush-is_whole.new.writer _ _ _ _
    c.new-page.ensures c.flush-is_whole.ensures.empty sends c.flush-is_whole.ensures.sends
