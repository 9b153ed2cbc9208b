use Rattle.std.proofs.Common.{◌∙◌, ap, refl, rules, subst, sym}
use Rattle.ddcmp_args.specs.Args.{name_of}
use Rattle.ddcmp_cli.specs.Endings.{file_named}
use Rattle.ddcmp_cli.specs.BridgeEndings.{Bridges}
use Rattle.ddcmp_cli.specs.LinkEndings.{Links}
use Rattle.ddcmp_cli.proofs.CommandLaws.{differ, is_bridge, is_link, is_station, is_tap}
use Rattle.ddcmp_cli.proofs.CommandLaws.{bridged_or, linked_or, unbroken}
use Rattle.ddcmp_cli.proofs.BridgeLaws.{not-read}
use Rattle.ddcmp_cli.proofs.program.perform.Goals as goal

pub returns-in-Explain : goal.returns-in-Explain
returns-in-Explain g c = record {
  performs = λ input left. rw (c.in-Explain.is) (c.explain_asked.ensures.explains input left);
  read = λ _ e. c.explain_asked.ensures.read e;
  read_only = λ _ _ _ none e.
      c.explain_asked.ensures.read_only (sym (ap file_named c.in-Explain.is) ∙ none) e;
  write = λ _ _. c.explain_asked.ensures.write;
  whole = unbroken _ _ c.explain_asked.ensures.write.1;
  untouched = λ some.
      c.explain_asked.ensures.untouched (λ e. some (ap file_named c.in-Explain.is ∙ e));
  stations = λ _ are. differ is_station c.in-Explain.is refl are refl;
  taps = λ _ are. differ is_tap c.in-Explain.is refl are refl;
  links = λ _ are. differ is_link c.in-Explain.is refl are refl;
  bridges = λ _ are. differ is_bridge c.in-Explain.is refl are refl;
}

pub returns-in-Simulate : goal.returns-in-Simulate
returns-in-Simulate g c = record {
  performs = λ input left. rw (c.in-Simulate.is) (c.script_asked.ensures.shows input left);
  read = λ _ e. c.script_asked.ensures.read e;
  read_only = λ _ _ _ none e.
      c.script_asked.ensures.read_only (sym (ap file_named c.in-Simulate.is) ∙ none) e;
  write = λ _ _. c.script_asked.ensures.write;
  whole = unbroken _ _ c.script_asked.ensures.write.1;
  untouched = λ some.
      c.script_asked.ensures.untouched (λ e. some (ap file_named c.in-Simulate.is ∙ e));
  stations = λ _ are. differ is_station c.in-Simulate.is refl are refl;
  taps = λ _ are. differ is_tap c.in-Simulate.is refl are refl;
  links = λ _ are. differ is_link c.in-Simulate.is refl are refl;
  bridges = λ _ are. differ is_bridge c.in-Simulate.is refl are refl;
}

pub returns-in-Pair : goal.returns-in-Pair
returns-in-Pair g c = record {
  performs = λ input left. rw (c.in-Pair.is) (c.script_asked-in-Pair.ensures.shows input left);
  read = λ _ e. c.script_asked-in-Pair.ensures.read e;
  read_only = λ _ _ _ none e.
      c.script_asked-in-Pair.ensures.read_only (sym (ap file_named c.in-Pair.is) ∙ none) e;
  write = λ _ _. c.script_asked-in-Pair.ensures.write;
  whole = unbroken _ _ c.script_asked-in-Pair.ensures.write.1;
  untouched = λ some.
      c.script_asked-in-Pair.ensures.untouched (λ e. some (ap file_named c.in-Pair.is ∙ e));
  stations = λ _ are. differ is_station c.in-Pair.is refl are refl;
  taps = λ _ are. differ is_tap c.in-Pair.is refl are refl;
  links = λ _ are. differ is_link c.in-Pair.is refl are refl;
  bridges = λ _ are. differ is_bridge c.in-Pair.is refl are refl;
}

pub returns-in-Station : goal.returns-in-Station
returns-in-Station g c = record {
  performs = λ input left. rw (c.in-Station.is) (left, c.station.ensures.stations);
  read = λ _ e. absurd (e c.requires.fine);
  read_only = λ no_station. absurd (no_station (ap name_of c.in-Station.is));
  write = λ no_station. absurd (no_station (ap name_of c.in-Station.is));
  whole = c.station.ensures.whole;
  untouched = λ _. refl;
  stations = search rules;
  taps = λ _ are. differ is_tap c.in-Station.is refl are refl;
  links = λ _ are. differ is_link c.in-Station.is refl are refl;
  bridges = λ _ are. differ is_bridge c.in-Station.is refl are refl;
}

pub returns-in-Tap : goal.returns-in-Tap
returns-in-Tap g c = record {
  performs = λ input left. rw (c.in-Tap.is) (left, c.tap.ensures.taps);
  read = λ _ e. absurd (e c.requires.fine);
  read_only = λ _ no_tap. absurd (no_tap (ap name_of c.in-Tap.is));
  write = λ _ no_tap. absurd (no_tap (ap name_of c.in-Tap.is));
  whole = unbroken _ _ c.tap.ensures.written;
  untouched = λ _. refl;
  stations = λ _ are. differ is_station c.in-Tap.is refl are refl;
  taps = search rules;
  links = λ _ are. differ is_link c.in-Tap.is refl are refl;
  bridges = λ _ are. differ is_bridge c.in-Tap.is refl are refl;
}

pub returns-in-Link : goal.returns-in-Link
returns-in-Link g c = record {
  performs = λ input left. rw (c.in-Link.is) c.link.ensures.links;
  read = λ no_link. absurd (no_link (ap name_of c.in-Link.is));
  read_only = λ _ _ no_link. absurd (no_link (ap name_of c.in-Link.is));
  write = λ _ _. c.link.ensures.write;
  whole = unbroken _ _ c.link.ensures.write.1;
  untouched = λ some. absurd (some (ap file_named c.in-Link.is));
  stations = λ _ are. differ is_station c.in-Link.is refl are refl;
  taps = λ _ are. differ is_tap c.in-Link.is refl are refl;
  links = λ args are.
      subst (λ a. Links (g.S.LineSystem.lines c.args.system.now) a c.link.result)
      (ap (linked_or args) (sym c.in-Link.is ∙ are)) c.link.ensures.links;
  bridges = λ _ are. differ is_bridge c.in-Link.is refl are refl;
}

pub returns-in-Bridge : goal.returns-in-Bridge
returns-in-Bridge g c = record {
  performs = λ input left. rw (c.in-Bridge.is) (left, c.bridge.ensures.bridges);
  read = λ _ e. absurd (e c.requires.fine);
  read_only = λ _ _ _ _ e. absurd
      (not-read (g.S.LineSystem.lines c.args.system.now) c.in-Bridge.args _ _ _
      c.bridge.ensures.bridges e);
  write = λ _ _. c.bridge.ensures.write;
  whole = unbroken _ _ c.bridge.ensures.write.1;
  untouched = λ _. refl;
  stations = λ _ are. differ is_station c.in-Bridge.is refl are refl;
  taps = λ _ are. differ is_tap c.in-Bridge.is refl are refl;
  links = λ _ are. differ is_link c.in-Bridge.is refl are refl;
  bridges = λ args are. (
    refl,
    subst (λ a. Bridges (g.S.LineSystem.lines c.args.system.now) a
        (g.W.Sink.contents c.args.writer.now) (g.W.Sink.contents c.bridge.new.writer)
        c.bridge.result)
        (ap (bridged_or args) (sym c.in-Bridge.is ∙ are)) c.bridge.ensures.bridges,
  );
}
