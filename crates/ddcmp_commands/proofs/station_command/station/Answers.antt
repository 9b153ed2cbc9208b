use Rattle.std.proofs.Common.{arith, ap, ◌∙◌, sym, subst, inr}
use Rattle.std.specs.Io.KnownBytes.{Keeps}
use Rattle.std.proofs.KnownBytes.{Keeps-refl}
use Rattle.ddcmp_commands.specs.declared.ending.Ending.TheVariants.{Fault as Faulted}
use Rattle.ddcmp_commands.specs.Endings.{ending_of, serve_fault}
use Rattle.ddcmp_commands.proofs.StationLaws.{connects, want-of}
use Rattle.ddcmp_commands.proofs.station_command.station.Goals as goal

pub returns-clause-stations : goal.returns-clause-stations
returns-clause-stations g c =
    connects (g.S.Connections.peers c.args.system.now)
    c.in-Some.role c.args.args.now c.in-Some-message_in.message.now _ _ _
    (let is = c.in-Some.is in cc) (omega (arith, c.if-args.false))
    c.in-Some-message_in.ensures.bytes
    (let ends = ap Faulted c.from.ensures ∙ sym (ap (ending_of serve_fault) c.in-Err.is) in
    inr (
      c.in-Some-connection.ensures.opens,
      record {
        answer = c.serve.result;
        failed = g.W.Sink.broken c.serve.new.report;
        ends = ends;
        serves = λ made. (_, c.in-Some-connection.ensures.gives, c.serve.ensures.serves made);
        kept =
            λ e. subst (λ r. Keeps (g.W.Sink.contents c.args.report.now) (g.W.Sink.contents r))
            (sym (c.serve.ensures.memory (want-of c.serve.result (sym ends ∙ e))).3) (Keeps-refl _);
      },
    ))

pub returns-in-Ok-clause-stations : goal.returns-in-Ok-clause-stations
returns-in-Ok-clause-stations g c =
    connects (g.S.Connections.peers c.args.system.now)
    c.in-Some.role c.args.args.now c.in-Some-message_in.message.now _ _ _
    (let is = c.in-Some.is in cc) (omega (arith, c.if-args.false))
    c.in-Some-message_in.ensures.bytes (inr (
      c.in-Some-connection.ensures.opens,
      record {
        answer = c.serve.result;
        failed = g.W.Sink.broken c.serve.new.report;
        ends = sym (ap (ending_of serve_fault) c.in-Ok.is);
        serves = λ made. (_, c.in-Some-connection.ensures.gives, c.serve.ensures.serves made);
        kept = λ e. cc;
      },
    ))
