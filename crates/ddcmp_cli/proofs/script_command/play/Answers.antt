use Rattle.std.proofs.Common.{inr, false, None, rules}
use Rattle.std.specs.Io.KnownBytes.{Appends}
use Rattle.ddcmp_io.specs.Written.{AppendsPart}
use Rattle.ddcmp_cli.proofs.ScriptLaws.{untold}
use Rattle.ddcmp_cli.proofs.script_command.play.Goals as goal

pub returns-in-None-clause-runs : goal.returns-in-None-clause-runs
returns-in-None-clause-runs g c = λ input e. rw (c.in-None.is) (inr (
  c.script_with.result,
  c.script_with.new.pair,
  c.ended.ensures,
  untold c.args.run.counted input _ _ c.script_with.new.pair
      (g.C.Carrier.direct c.args.carrier.now) (g.C.Carrier.told c.args.carrier.now)
      (g.C.Carrier.told c.script_with.new.carrier)
      (Appends (g.W.Sink.contents c.args.writer.now) (g.W.Sink.contents c.script_with.new.writer))
      (AppendsPart (g.W.Sink.contents c.args.writer.now)
      (g.W.Sink.contents c.script_with.new.writer)) c.script_with.result c.in-Some.ensures.made
      (c.requires.silent c.args.carrier.now) (c.requires.silent c.script_with.new.carrier)
      (c.script_with.ensures.told input e),
))

pub returns-in-None-clause-devices : goal.returns-in-None-clause-devices
returns-in-None-clause-devices g c = record {
  read = λ bad. let failed = c.script_with.ensures.read bad in search rules;
  read_only = λ e. c.script_with.ensures.read_only (search rules);
  write = (
    λ e. c.script_with.ensures.write.0 (search rules),
    λ b. let failed = c.script_with.ensures.write.1 b in search rules,
  );
}

pub returns-clause-runs : goal.returns-clause-runs
returns-clause-runs g c = λ input e. rw (c.in-Some-picture.is) (inr (
  c.draw.result,
  c.draw.new.pair,
  c.ended-in-Some-picture.ensures,
  untold false input _ _ c.draw.new.pair (g.C.Carrier.direct c.args.carrier.now)
      (g.C.Carrier.told c.args.carrier.now) (g.C.Carrier.told c.draw.new.carrier)
      (Appends None None) (AppendsPart None None) c.draw.result c.in-Some.ensures.made
      (c.requires.silent c.args.carrier.now) (c.requires.silent c.draw.new.carrier)
      (c.draw.ensures.draws input e),
))
