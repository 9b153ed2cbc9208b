use Rattle.std.proofs.Common.{◌∙◌, sym, ap, length, arith, refl, subst, List, []}
use Rattle.ddcmp_input.specs.declared.entry.Entry.{Entry}
use Rattle.ddcmp_session.specs.Logged.{read_after}
use Rattle.ddcmp_streams.specs.Messages.{after_input}
use Rattle.ddcmp_session.specs.Reported.{ReportsEach, with_input}
use Rattle.ddcmp_session.proofs.InputLaws.{nothing-input_read, no-entries, one-entry}
use Rattle.ddcmp_session.proofs.session.Session.input_read.Goals as goal

pub returns-then-not-wants_input-clause-state : goal.returns-then-not-wants_input-clause-state
returns-then-not-wants_input-clause-state c = nothing-input_read c.args.self.now.state

pub returns-then-not-wants_input-clause-few : goal.returns-then-not-wants_input-clause-few
returns-then-not-wants_input-clause-few c =
    omega (arith, ap length (no-entries c.args.self.now.state.messages))

pub returns-clause-first : goal.returns-clause-first
returns-clause-first c =
    rw (sym c.self.view_is) (λ n entry is used.
    c.push-pushed.ensures.first n entry
    (one-entry c.push-pushed.result.entry entry (sym c.push-pushed.ensures.entries ∙ is)) used)

pub returns-then-not-wants_input-clause-errors : goal.returns-then-not-wants_input-clause-errors
returns-then-not-wants_input-clause-errors c =
    subst
    (λ (entries : List Entry). ReportsEach entries (with_input [] c.args.self.now)
    c.args.self.now.log.errors) (sym (no-entries c.args.self.now.state.messages)) refl

pub returns-then-not-wants_input-clause-read : goal.returns-then-not-wants_input-clause-read
returns-then-not-wants_input-clause-read c =
    sym
    (ap
    (λ (entries : List Entry). read_after entries (after_input [] c.args.self.now.state.messages)
    c.args.self.now.log.read) (no-entries c.args.self.now.state.messages))
