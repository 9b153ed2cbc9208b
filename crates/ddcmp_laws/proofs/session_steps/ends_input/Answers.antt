use Rattle.std.proofs.Common.{◌≡◌, ◌∙◌, ap, refl, Bool, true, false, cond, option_to_list}
use Rattle.ddcmp_station.specs.Linking.{LinkView}
use Rattle.ddcmp_streams.specs.Messages.{after_last, entry_of_last}
use Rattle.ddcmp_session.specs.Session.{SessionView, after_input_end, after_last_line}
use Rattle.ddcmp_session.specs.Session.{after_unfinished, takes_end}
use Rattle.ddcmp_session.proofs.InputGoes.{entries-line}
use Rattle.ddcmp_laws.proofs.Reading.{unfinished_keeps}
use Rattle.ddcmp_laws.proofs.session_steps.ends_input.Goals as goal

end-line : (s : SessionView) → (after_input_end s).link.station.line ≡ s.link.station.line
end-line s = by (takes_end s)
  where
    last : SessionView
    last = record s { messages = after_last s.messages; is_read = true }

    by : (b : Bool)
        → (cond b (after_unfinished (after_last_line s)) s).link.station.line
        ≡ s.link.station.line
    by true =
        ap (λ (d : LinkView). d.station.line) (unfinished_keeps (after_last_line s)).2
        ∙ entries-line (option_to_list (entry_of_last s.messages)) last
    by false = refl

pub returns-clause-line : goal.returns-clause-line
returns-clause-line c =
    ap (λ (s : SessionView). s.link.station.line) c.input_ended.ensures.state
    ∙ end-line c.args.session.now.state
