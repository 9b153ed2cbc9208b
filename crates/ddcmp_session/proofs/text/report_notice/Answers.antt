use Rattle.ddcmp_streams.proofs.ErrorsLaws.{through-page}
use Rattle.ddcmp_session.proofs.text.report_notice.Goals as goal

pub returns : goal.returns
returns c =
    through-page c.args.out.now c.write_notice.new.writer c.flush-is_whole.new.writer _ _ _ _
    c.new-page.ensures c.flush-is_whole.ensures.empty c.write_notice.ensures
    c.flush-is_whole.ensures.sends
