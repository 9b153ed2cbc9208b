use Rattle.std.proofs.Common.{rules}
use Rattle.std.proofs.Common.{◌≡◌, ◌∙◌, ap, option_to_list, subst, sym}
use Rattle.ddcmp_streams.specs.Messages.{after_last, entry_of_last}
use Rattle.ddcmp_session.specs.Logged.{read_after, read_unfinished}
use Rattle.ddcmp_session.specs.Reported.{RefusesUnfinished}
use Rattle.ddcmp_session.specs.Session.{SessionView}
use Rattle.ddcmp_session.proofs.InputGoes.{entries-messages}
use Rattle.ddcmp_session.proofs.session.Session.input_ended.Goals as goal

pub returns-clause-errors : goal.returns-clause-errors
returns-clause-errors c wants = (
  c.take_entry.new.self.log.errors,
  search rules,
  rw (sym c.self.view_is) (
      let m = c.self.inside.messages in
      let n = c.self.inside.read in
      let es = option_to_list (entry_of_last m) in
      let mid = c.take_entry.new.self.log.errors in
      let new = c.refuse_unfinished.new.self.log.errors in
      let same : c.take_entry.new.self.state.messages ≡ after_last m =
      ap (λ (x : SessionView). x.messages) c.take_entry.ensures.state
      ∙ entries-messages (option_to_list c.end-entry.result) _
      ∙ c.end-entry.ensures.state in
      let read : c.take_entry.new.self.log.read ≡ read_after es (after_last m) n =
      c.take_entry.ensures.read
      ∙ ap (λ e. read_after (option_to_list e) c.end-entry.new.self n) c.end-entry.ensures.entry
      ∙ ap (λ k. read_after es k n) c.end-entry.ensures.state in
      subst (λ k. RefusesUnfinished (after_last m) k mid new) read
      (subst (λ k. RefusesUnfinished k c.take_entry.new.self.log.read mid new) same
      c.refuse_unfinished.ensures.errors)),
)

pub returns-clause-read : goal.returns-clause-read
returns-clause-read c = rw (sym c.self.view_is) (λ takes.
    let m = c.self.inside.messages in
    let n = c.self.inside.read in
    let es = option_to_list (entry_of_last m) in
    let same : c.take_entry.new.self.state.messages ≡ after_last m =
    ap (λ (x : SessionView). x.messages) c.take_entry.ensures.state
    ∙ entries-messages (option_to_list c.end-entry.result) _
    ∙ c.end-entry.ensures.state in
    c.refuse_unfinished.ensures.read
    ∙ ap (λ k. read_unfinished k c.take_entry.new.self.log.read) same
    ∙ ap (read_unfinished (after_last m))
    (c.take_entry.ensures.read
    ∙ ap (λ e. read_after (option_to_list e) c.end-entry.new.self n) c.end-entry.ensures.entry
    ∙ ap (λ k. read_after es k n) c.end-entry.ensures.state))
