use Rattle.std.proofs.Common.{◌≡◌, false, subst, rules}
use Rattle.ddcmp_io.specs.Written.{output_of}
use Rattle.ddcmp_line.specs.declared.performer.Undone.TheVariants.{Carrier}
use Rattle.ddcmp_line.specs.Inside.ScriptProgress.{Stops, course, fresh}
use Rattle.ddcmp_line.proofs.Endings.{stops-flushed, plays-write, plays-line, plays-hex}
use Rattle.ddcmp_line.proofs.Endings.{plays-memory, plays-carrier}
use Rattle.ddcmp_line.proofs.player.Player.stop.Goals as goal

pub returns-then-eq-clause-plays : goal.returns-then-eq-clause-plays
returns-then-eq-clause-plays g c = λ counted input x sink s.
    let is : c.args.stop ≡ Carrier = search rules in
    let out =
    output_of g.W.Sink.broken g.W.Sink.contents c.args.writer.now c.args.self.now.stage.page in
    let number = c.args.self.now.number in
    plays-carrier counted input x number sink out (c.requires.one is).0 (c.requires.one is).1
    (subst (Stops input number (course (fresh sink) out x)) is s)

pub returns-then-is_err-clause-plays : goal.returns-then-is_err-clause-plays
returns-then-is_err-clause-plays g c = λ counted input x sink s.
    let out = output_of g.W.Sink.broken g.W.Sink.contents c.flush.new.writer c.flush.new.self in
    let number = c.args.self.now.number in
    plays-write counted input x number sink out c.args.stop
    (stops-flushed counted input x number (fresh sink)
    _ out c.args.stop s c.flush.ensures.sends)

pub returns-in-NoCommand-clause-plays : goal.returns-in-NoCommand-clause-plays
returns-in-NoCommand-clause-plays g c = λ counted input x sink s.
    let out = output_of g.W.Sink.broken g.W.Sink.contents c.flush.new.writer c.flush.new.self in
    let number = c.args.self.now.number in
    let whole : out.broken ≡ false = search rules in
    plays-line counted input x number sink out whole c.flush.ensures.empty
    (subst (Stops input number (course (fresh sink) out x)) c.in-NoCommand.is
    (stops-flushed counted input x number (fresh sink)
    _ out c.args.stop s c.flush.ensures.sends))

pub returns-in-NotHex-clause-plays : goal.returns-in-NotHex-clause-plays
returns-in-NotHex-clause-plays g c = λ counted input x sink s.
    let out = output_of g.W.Sink.broken g.W.Sink.contents c.flush.new.writer c.flush.new.self in
    let number = c.args.self.now.number in
    let whole : out.broken ≡ false = search rules in
    plays-hex counted input x number sink out whole c.flush.ensures.empty
    (subst (Stops input number (course (fresh sink) out x)) c.in-NotHex.is
    (stops-flushed counted input x number (fresh sink)
    _ out c.args.stop s c.flush.ensures.sends))

pub returns-in-Memory-clause-plays : goal.returns-in-Memory-clause-plays
returns-in-Memory-clause-plays g c = λ counted input x sink s.
    let out = output_of g.W.Sink.broken g.W.Sink.contents c.flush.new.writer c.flush.new.self in
    let number = c.args.self.now.number in
    let whole : out.broken ≡ false = search rules in
    plays-memory counted input x number sink out whole c.flush.ensures.empty
    (subst (Stops input number (course (fresh sink) out x)) c.in-Memory.is
    (stops-flushed counted input x number (fresh sink)
    _ out c.args.stop s c.flush.ensures.sends))
