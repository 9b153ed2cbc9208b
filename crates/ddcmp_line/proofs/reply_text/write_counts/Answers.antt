use Rattle.ddcmp_io.specs.Written.{output_of}
use Rattle.ddcmp_io.proofs.WrittenLaws.{sends-then}
use Rattle.ddcmp_io.proofs.TextLaws.{sends-as, sends-nothing}
use Rattle.ddcmp_line.specs.ScriptText.{count_text}
use Rattle.ddcmp_line.proofs.EachText.{one-more, all-there}
use Rattle.ddcmp_line.proofs.reply_text.write_counts.Goals as goal

pub loop-exchanges-init : goal.loop-exchanges-init
loop-exchanges-init g c = sends-nothing _

pub loop-exchanges-preserved : goal.loop-exchanges-preserved
loop-exchanges-preserved g c =
    let i = c.loop-exchanges.exchanges-index in
    let w = c.write_count.new in
    let out = output_of g.W.Sink.broken g.W.Sink.contents w.writer w.page in
    sends-as (one-more count_text c.args.counts.now i 0 c.loop-exchanges-test.true)
    (sends-then {c = out} c.loop-exchanges.invariant c.write_count.ensures)

pub returns : goal.returns
returns g c =
    let i = c.loop-exchanges.exchanges-index in
    let end = c.loop-exchanges.auto.exchanges-index-end in
    sends-as (all-there count_text c.args.counts.now i end c.loop-exchanges-test.false)
    c.loop-exchanges.invariant
