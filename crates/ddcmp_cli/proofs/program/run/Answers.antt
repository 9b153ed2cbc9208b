use Rattle.std.proofs.Common.{◌∙◌, ap, codes, inl, inr, refl, Err, List, Ok, Some, map, ℕ}
use Rattle.std.proofs.KnownBytes.{Keeps-refl}
use Rattle.ddcmp_args.specs.declared.no_command.NoCommand.TheVariants.{Memory}
use borrow.Author.Rules.{rules}
use Rattle.ddcmp_args.specs.Args.{IsAsked, IsName}
use Rattle.ddcmp_cli.proofs.CommandLaws.{bridged, linked, not_declined, performed, stationed}
use Rattle.ddcmp_cli.proofs.CommandLaws.{reads_a_file, reads_no_file, tapped}
use Rattle.ddcmp_cli.proofs.program.run.Goals as goal

pub returns-in-Ok : goal.returns-in-Ok
returns-in-Ok g c = record {
  explains = λ input e asked.
      performed _ _ (g.S.LineSystem.lines c.args.system.now) _ c.in-Ok.command _ _ asked
      c.in-Ok.ensures.reads.1 c.in-Ok.ensures.reads.2 (c.perform.ensures.performs input e);
  ends = (Ok c.in-Ok.command, c.in-Ok.ensures.reads, c.perform.ensures.performs);
  refused = λ out. absurd (out.some c.in-Ok.ensures.reads.0);
  read = λ no_link e.
      c.perform.ensures.read
      (λ n. no_link (c.in-Ok.ensures.reads.0, c.in-Ok.ensures.reads.1 ∙ ap Some n)) e;
  read_only = λ no_station no_tap no_link no_file e.
      c.perform.ensures.read_only
      (λ n. no_station (c.in-Ok.ensures.reads.0, c.in-Ok.ensures.reads.1 ∙ ap Some n))
      (λ n. no_tap (c.in-Ok.ensures.reads.0, c.in-Ok.ensures.reads.1 ∙ ap Some n))
      (λ n. no_link (c.in-Ok.ensures.reads.0, c.in-Ok.ensures.reads.1 ∙ ap Some n))
      (reads_no_file _ c.in-Ok.command c.in-Ok.ensures.reads.2 no_file) e;
  write = λ no_station no_tap. c.perform.ensures.write
      (λ n. no_station (c.in-Ok.ensures.reads.0, c.in-Ok.ensures.reads.1 ∙ ap Some n))
      (λ n. no_tap (c.in-Ok.ensures.reads.0, c.in-Ok.ensures.reads.1 ∙ ap Some n));
  whole = c.perform.ensures.whole;
  untouched = λ name reads asked some. reads_a_file _ _ c.in-Ok.command name reads asked
      c.in-Ok.ensures.reads.1 c.in-Ok.ensures.reads.2 some c.perform.ensures.untouched;
  stations = λ asked. stationed _ _ c.in-Ok.command _ _ _ _ _ asked c.in-Ok.ensures.reads.1
      c.in-Ok.ensures.reads.2 c.perform.ensures.stations;
  taps = λ asked. tapped _ _ c.in-Ok.command _ _ _ _ _ asked c.in-Ok.ensures.reads.1
      c.in-Ok.ensures.reads.2 c.perform.ensures.taps;
  links = λ asked.
      linked (g.S.LineSystem.lines c.args.system.now) _ c.in-Ok.command _ asked
      c.in-Ok.ensures.reads.1 c.in-Ok.ensures.reads.2 c.perform.ensures.links;
  bridges = λ asked.
      bridged (g.S.LineSystem.lines c.args.system.now) _ c.in-Ok.command _ _ _ _ _ asked
      c.in-Ok.ensures.reads.1 c.in-Ok.ensures.reads.2 c.perform.ensures.bridges;
}

pub returns-in-Err-Help : goal.returns-in-Err-Help
returns-in-Err-Help g c =
    let not_asked : (name : List ℕ) → IsName name
    → IsAsked (map (λ word. word.now) c.args.words.now) name → ⊥ =
    λ name is asked.
    not_declined _ _ refl (search rules) (c.in-Err-Help.ensures.asked name is asked) in
    record {
      explains = λ input e asked. absurd (not_asked (codes "explain") (inl refl) asked);
      ends = search rules;
      refused = search rules;
      read = λ _ e. absurd (e c.requires.fine);
      read_only = search rules;
      write = λ _ _. c.show.ensures.write;
      whole = search rules;
      untouched = λ name reads asked some. refl;
      stations = λ asked. absurd (not_asked (codes "station") (inr (inr (inr (inl refl)))) asked);
      taps = λ asked. absurd (not_asked (codes "tap") (inr (inr (inr (inr (inl refl))))) asked);
      links = λ asked.
          absurd (not_asked (codes "link") (inr (inr (inr (inr (inr (inl refl)))))) asked);
      bridges = λ asked.
          absurd (not_asked (codes "bridge") (inr (inr (inr (inr (inr (inr refl)))))) asked);
    }

pub returns-in-Err-Version : goal.returns-in-Err-Version
returns-in-Err-Version g c =
    let not_asked : (name : List ℕ) → IsName name
    → IsAsked (map (λ word. word.now) c.args.words.now) name → ⊥ =
    λ name is asked.
    not_declined _ _ refl (search rules) (c.in-Err-Version.ensures.asked name is asked) in
    record {
      explains = λ input e asked. absurd (not_asked (codes "explain") (inl refl) asked);
      ends = search rules;
      refused = search rules;
      read = λ _ e. absurd (e c.requires.fine);
      read_only = search rules;
      write = λ _ _. c.show-in-Err-Version.ensures.write;
      whole = search rules;
      untouched = λ name reads asked some. refl;
      stations = λ asked. absurd (not_asked (codes "station") (inr (inr (inr (inl refl)))) asked);
      taps = λ asked. absurd (not_asked (codes "tap") (inr (inr (inr (inr (inl refl))))) asked);
      links = λ asked.
          absurd (not_asked (codes "link") (inr (inr (inr (inr (inr (inl refl)))))) asked);
      bridges = λ asked.
          absurd (not_asked (codes "bridge") (inr (inr (inr (inr (inr (inr refl)))))) asked);
    }

pub returns-in-Err-Usage : goal.returns-in-Err-Usage
returns-in-Err-Usage g c =
    let not_asked : (name : List ℕ) → IsName name
    → IsAsked (map (λ word. word.now) c.args.words.now) name → ⊥ =
    λ name is asked.
    not_declined _ _ refl (search rules) (c.in-Err-Usage.ensures.asked name is asked) in
    record {
      explains = λ input e asked. absurd (not_asked (codes "explain") (inl refl) asked);
      ends = search rules;
      refused = λ out. (refl, refl, refl);
      read = λ _ e. absurd (e c.requires.fine);
      read_only = search rules;
      write = search rules;
      whole = λ e. c.requires.whole;
      untouched = λ name reads asked some. refl;
      stations = λ asked. absurd (not_asked (codes "station") (inr (inr (inr (inl refl)))) asked);
      taps = λ asked. absurd (not_asked (codes "tap") (inr (inr (inr (inr (inl refl))))) asked);
      links = λ asked.
          absurd (not_asked (codes "link") (inr (inr (inr (inr (inr (inl refl)))))) asked);
      bridges = λ asked.
          absurd (not_asked (codes "bridge") (inr (inr (inr (inr (inr (inr refl)))))) asked);
    }

pub returns-in-Err-Memory : goal.returns-in-Err-Memory
returns-in-Err-Memory g c = record {
  explains = search rules;
  ends = (Err Memory, tt, (refl, Keeps-refl (g.W.Sink.contents c.args.writer.now), refl));
  refused = λ out. (refl, refl, refl);
  read = λ _ e. absurd (e c.requires.fine);
  read_only = search rules;
  write = search rules;
  whole = λ e. c.requires.whole;
  untouched = λ name reads asked some. refl;
  stations = search rules;
  taps = search rules;
  links = λ _. inl refl;
  bridges = λ _. (refl, inl (refl, Keeps-refl (g.W.Sink.contents c.args.writer.now)));
}
