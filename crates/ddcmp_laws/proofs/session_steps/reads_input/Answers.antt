use Rattle.std.proofs.Common.{◌∙◌, ap, take}
use Rattle.ddcmp_streams.specs.Messages.{after_input, entries_of_input}
use Rattle.ddcmp_session.specs.Session.{SessionView}
use Rattle.ddcmp_session.proofs.InputGoes.{entries-line}
use Rattle.ddcmp_session.proofs.InputLaws.{has-input_read}
use Rattle.ddcmp_laws.proofs.session_steps.reads_input.Goals as goal

pub returns-clause-done : goal.returns-clause-done
returns-clause-done c = λ text.
    has-input_read c.input_read.result c.args.bytes.now c.args.session.now.state
    c.input_read.new.self.state
    c.input_read.ensures.used c.input_read.ensures.state
    c.input_read.ensures.first c.input_read.ensures.few
    (λ e. (c.input_read.ensures.none e).0)

pub returns-clause-line : goal.returns-clause-line
returns-clause-line c =
    let used = take c.input_read.result c.args.bytes.now in
    let s = c.args.session.now.state in
    ap (λ (x : SessionView). x.link.station.line) c.input_read.ensures.state
    ∙ entries-line (entries_of_input used s.messages)
    (record s { messages = after_input used s.messages })
