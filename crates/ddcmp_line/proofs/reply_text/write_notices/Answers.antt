use Rattle.ddcmp_io.specs.Written.{output_of}
use Rattle.ddcmp_io.proofs.WrittenLaws.{sends-then}
use Rattle.ddcmp_io.proofs.TextLaws.{sends-as, sends-nothing}
use Rattle.ddcmp_station.specs.StationText.{notice_line}
use Rattle.ddcmp_line.proofs.EachText.{one-more, all-there}
use Rattle.ddcmp_line.proofs.reply_text.write_notices.Goals as goal

pub loop-notice-init : goal.loop-notice-init
loop-notice-init g c = sends-nothing _

pub loop-notice-preserved : goal.loop-notice-preserved
loop-notice-preserved g c =
    let i = c.loop-notice.notice-index in
    let w = c.write_notice.new in
    let out = output_of g.W.Sink.broken g.W.Sink.contents w.writer w.page in
    sends-as (one-more (notice_line c.args.who.now) c.args.notices.now i _ c.loop-notice-test.true)
    (sends-then {c = out} c.loop-notice.invariant c.write_notice.ensures)

pub returns : goal.returns
returns g c =
    let i = c.loop-notice.notice-index in
    let end = c.loop-notice.auto.notice-index-end in
    let last = c.loop-notice-test.false in
    sends-as (all-there (notice_line c.args.who.now) c.args.notices.now i end last)
    c.loop-notice.invariant
