use Rattle.std.proofs.Common.{◌∙◌, ◌++◌, ap, sym}
use Rattle.ddcmp_io.proofs.TextLaws.{sends-as}
use Rattle.ddcmp_io.proofs.WrittenLaws.{sends-then}
use Rattle.ddcmp_log.specs.Day.{time_text}
use Rattle.ddcmp_streams.specs.Errors.{ErrorsView, stamp_text}
use Rattle.ddcmp_streams.proofs.ErrorsLaws.{queues-as, queues-by-page, queues-nothing, timed}
use Rattle.ddcmp_streams.proofs.errors.Errors.write_stamp.Goals as goal

pub returns-in_default : goal.returns-in_default
returns-in_default c =
    let B = c.args.before.now in
    let A = c.args.after.now in
    queues-as
    (sym (ap (λ o. stamp_text B A o c.self.inside.moment) c.in_default.is)
    ∙ ap (λ (e : ErrorsView). stamp_text B A e.began e.now) c.self.view_is)
    (queues-nothing _)

pub returns : goal.returns
returns c =
    let B = c.args.before.now in
    let A = c.args.after.now in
    queues-as
    (ap (λ ms. B ++ time_text ms ++ A) c.saturating_add.ensures
    ∙ ap (λ t. B ++ t ++ A) (timed _)
    ∙ sym (ap (λ o. stamp_text B A o c.self.inside.moment) c.in-Some.is)
    ∙ ap (λ (e : ErrorsView). stamp_text B A e.began e.now) c.self.view_is)
    (queues-by-page _ _ c.write-2.new.writer c.flush-is_whole.new.writer _ _ _ _ c.self.view_is
    c.new-page.ensures c.flush-is_whole.ensures.empty
    (sends-then (sends-then c.write.ensures.sends c.write_time.ensures) c.write-2.ensures.sends)
    c.flush-is_whole.ensures.sends)
