use Rattle.std.proofs.Common.{◌≡◌, ◌∙◌, ap, subst, List, ℕ, map, string_bytes, Err, inl, refl}
use Rattle.std.proofs.KnownBytes.{Keeps-refl}
use Rattle.ddcmp_args.specs.declared.no_command.NoCommand.TheVariants.{Memory}
use Rattle.ddcmp_io.specs.Change.{source_change, sink_change}
use Rattle.ddcmp_cli.specs.Endings.{RunsAs}
use borrow.Author.Rules.{rules}
use Rattle.ddcmp_cli.proofs.program.run_args.Goals as goal

pub returns-clause-runs : goal.returns-clause-runs
returns-clause-runs g c = rw (c.in-Ok.is)
    (subst
    (λ (ws : List (List ℕ)). RunsAs (g.S.Inputs.held c.args.system.now)
    (g.S.Connections.peers c.args.system.now) (g.S.LineSystem.lines c.args.system.now) ws
    (source_change (g.R.Source.left c.args.reader.now) (g.R.Source.left c.run.new.reader)
    (g.R.Source.state c.run.new.reader))
    (sink_change (g.W.Sink.contents c.args.writer.now) (g.W.Sink.contents c.run.new.writer)
    (g.W.Sink.broken c.run.new.writer))
    (c.run.new.reader ≡ c.args.reader.now) (c.run.new.writer ≡ c.args.writer.now) c.run.result)
    (ap (map (λ word. word.now)) c.as_slice-2.ensures.value ∙ c.in-Ok-texts.ensures
    ∙ ap (map string_bytes) c.as_slice.ensures.value)
    c.run.ensures)

pub returns-then-eq : goal.returns-then-eq
returns-then-eq g c = record {
  runs = rw (c.in-Err.is) tt;
  no_memory = search rules;
  not_text = search rules;
  untouched = rw (c.in-Err.is) (refl, refl);
}

pub returns-else-eq : goal.returns-else-eq
returns-else-eq g c = record {
  runs = rw (c.in-Err.is) tt;
  no_memory = search rules;
  not_text = search rules;
  untouched = rw (c.in-Err.is) (refl, refl);
}

pub returns-in_default : goal.returns-in_default
returns-in_default g c = record {
  runs = rw (c.in-Ok.is) (record {
    explains = search rules;
    ends = (Err Memory, tt, (refl, Keeps-refl (g.W.Sink.contents c.args.writer.now), refl));
    refused = λ out. (refl, refl, refl);
    read = λ _ e. absurd (e c.requires.fine);
    read_only = search rules;
    write = search rules;
    whole = λ e. c.requires.whole;
    untouched = λ name reads asked some. refl;
    stations = search rules;
    taps = search rules;
    links = search rules;
    bridges = λ _. (refl, inl (refl, Keeps-refl (g.W.Sink.contents c.args.writer.now)));
  });
  no_memory = rw (c.in-Ok.is) tt;
  not_text = rw (c.in-Ok.is) tt;
  untouched = rw (c.in-Ok.is) tt;
}
