use Rattle.std.proofs.Common.{rules, refl, ap, sym, Ok, Err}
use Rattle.ddcmp_station.specs.UserCalls.{Calls}
use Rattle.ddcmp_net.specs.Serving.{closing_text, served_answer}
use Rattle.ddcmp_net.specs.Inside.Reporting.{Reports}
use Rattle.ddcmp_net.specs.declared.serve_fault.ServeFault.TheVariants.{Report}
use Rattle.ddcmp_net.proofs.AnswerLaws.{done_has_memory, done_is_no_line, ends_line, off_line}
use Rattle.ddcmp_net.proofs.AnswerLaws.{on_line, report_has_memory, report_is_no_line}
use Rattle.ddcmp_net.proofs.AnswerLaws.{told_broken, told_line, told_whole}
use Rattle.ddcmp_net.proofs.ServingLaws.{begun-of, drives-as, comes-to, comes-to-all, default-room}
use Rattle.ddcmp_net.proofs.server.serve.Goals as goal

pub returns-in-Ok-write_end-clause-serves : goal.returns-in-Ok-write_end-clause-serves
returns-in-Ok-write_end-clause-serves g c = λ _.
    let begun =
    begun-of _ _ _ _ c.default_config.ensures c.in-Ok.ensures.made.0 c.in-Ok.ensures.made.1
    c.in-Ok.ensures.stands c.start-dropped.ensures.state in
    record {
      old = c.start-dropped.new.self;
      new = c.drive.new.station;
      driven = Ok c.in-Ok-drive.driven;
      begun = begun;
      drives =
          drives-as 1500 _ _ _ _ _
          (Calls (Reports g.P.Sink.broken g.P.Sink.contents) c.new-user.result c.drive.new.user) _
          (Ok c.in-Ok-drive.driven) begun.line (default-room _ _ begun)
          (λ calls asked h. comes-to g.P.Sink.broken g.P.Sink.contents c.new-user.result
          c.drive.new.user c.args.report.now _ c.write_end.new.report c.args.send.now
          (closing_text c.args.counted c.in-Ok-drive.driven c.drive.new.station.core) calls
          c.new-user.ensures.report c.new-user.ensures.send c.requires.short c.requires.report
          (search rules) c.in-Ok-write_end.ensures.sends asked h)
          c.in-Ok-drive.ensures.drives;
      answers = ap (served_answer (Ok c.in-Ok-drive.driven)) (sym c.in-Ok-write_end.ensures.broken);
    }

pub returns-in-Ok-drive-clause-serves : goal.returns-in-Ok-drive-clause-serves
returns-in-Ok-drive-clause-serves g c = λ _.
    let begun =
    begun-of _ _ _ _ c.default_config.ensures c.in-Ok.ensures.made.0 c.in-Ok.ensures.made.1
    c.in-Ok.ensures.stands c.start-dropped.ensures.state in
    record {
      old = c.start-dropped.new.self;
      new = c.drive.new.station;
      driven = Ok c.in-Ok-drive.driven;
      begun = begun;
      drives =
          drives-as 1500 _ _ _ _ _
          (Calls (Reports g.P.Sink.broken g.P.Sink.contents) c.new-user.result c.drive.new.user) _
          (Ok c.in-Ok-drive.driven) begun.line (default-room _ _ begun)
          (λ calls asked h. comes-to g.P.Sink.broken g.P.Sink.contents c.new-user.result
          c.drive.new.user c.args.report.now _ c.write_end.new.report c.args.send.now
          (closing_text c.args.counted c.in-Ok-drive.driven c.drive.new.station.core) calls
          c.new-user.ensures.report c.new-user.ensures.send c.requires.short c.requires.report
          (search rules) c.in-Err-write_end.ensures.sends asked h)
          c.in-Ok-drive.ensures.drives;
      answers =
          ap (served_answer (Ok c.in-Ok-drive.driven)) (sym c.in-Err-write_end.ensures.broken);
    }

pub returns-clause-serves : goal.returns-clause-serves
returns-clause-serves g c = λ _.
    let begun =
    begun-of _ _ _ _ c.default_config.ensures c.in-Ok.ensures.made.0 c.in-Ok.ensures.made.1
    c.in-Ok.ensures.stands c.start-dropped.ensures.state in
    record {
      old = c.start-dropped.new.self;
      new = c.drive.new.station;
      driven = Err c.in-Err.fault;
      begun = begun;
      drives =
          drives-as 1500 _ _ _ _ _
          (Calls (Reports g.P.Sink.broken g.P.Sink.contents) c.new-user.result c.drive.new.user) _
          (Err c.in-Err.fault) begun.line (default-room _ _ begun)
          (λ calls asked h. comes-to-all g.P.Sink.broken g.P.Sink.contents c.new-user.result
          c.drive.new.user c.args.report.now _ c.args.send.now calls
          c.new-user.ensures.report c.new-user.ensures.send c.requires.short c.requires.report
          (search rules) asked h)
          c.in-Err.ensures.drives;
      answers = refl;
    }

pub returns-in-Ok-write_end-clause-read : goal.returns-in-Ok-write_end-clause-read
returns-in-Ok-write_end-clause-read g c =
    off_line (Ok _) done_is_no_line c.in-Ok-drive.ensures.read

pub returns-in-Ok-write_end-clause-write : goal.returns-in-Ok-write_end-clause-write
returns-in-Ok-write_end-clause-write g c =
    off_line (Ok _) done_is_no_line c.in-Ok-drive.ensures.write

pub returns-in-Ok-write_end-clause-ended : goal.returns-in-Ok-write_end-clause-ended
returns-in-Ok-write_end-clause-ended g c = λ e. absurd (done_is_no_line _ e)

pub returns-in-Ok-write_end-clause-told : goal.returns-in-Ok-write_end-clause-told
returns-in-Ok-write_end-clause-told g c = told_whole c.in-Ok-write_end.ensures.broken

pub returns-in-Ok-drive-clause-read : goal.returns-in-Ok-drive-clause-read
returns-in-Ok-drive-clause-read g c =
    off_line (Err Report) report_is_no_line c.in-Ok-drive.ensures.read

pub returns-in-Ok-drive-clause-write : goal.returns-in-Ok-drive-clause-write
returns-in-Ok-drive-clause-write g c =
    off_line (Err Report) report_is_no_line c.in-Ok-drive.ensures.write

pub returns-in-Ok-drive-clause-ended : goal.returns-in-Ok-drive-clause-ended
returns-in-Ok-drive-clause-ended g c = λ e. absurd (report_is_no_line _ e)

pub returns-in-Ok-drive-clause-told : goal.returns-in-Ok-drive-clause-told
returns-in-Ok-drive-clause-told g c = told_broken c.in-Err-write_end.ensures.broken

pub returns-clause-read : goal.returns-clause-read
returns-clause-read g c = on_line c.in-Err.ensures.read

pub returns-clause-write : goal.returns-clause-write
returns-clause-write g c = on_line c.in-Err.ensures.write

pub returns-clause-ended : goal.returns-clause-ended
returns-clause-ended g c = ends_line c.in-Err.ensures.ended

pub returns-clause-told : goal.returns-clause-told
returns-clause-told g c = told_line

pub returns-in-Ok-write_end-clause-memory : goal.returns-in-Ok-write_end-clause-memory
returns-in-Ok-write_end-clause-memory g c = done_has_memory

pub returns-in-Ok-drive-clause-memory : goal.returns-in-Ok-drive-clause-memory
returns-in-Ok-drive-clause-memory g c = report_has_memory

pub returns-clause-memory : goal.returns-clause-memory
returns-clause-memory g c = search rules

pub returns-in_default : goal.returns-in_default
returns-in_default g c = record {
  serves = λ other. absurd (other refl);
  read = search rules;
  write = search rules;
  ended = search rules;
  told = search rules;
  memory = λ _. (refl, refl, refl, refl);
}
