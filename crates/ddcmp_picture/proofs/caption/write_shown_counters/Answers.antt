use Rattle.std.proofs.Common.{ap, sym, ◌∙◌, []}
use Rattle.std.proofs.lemmas.List.{append-nil}
use Rattle.ddcmp_io.proofs.TextLaws.{sends-as}
use Rattle.ddcmp_io.proofs.WrittenLaws.{sends-then}
use Rattle.ddcmp_picture.proofs.CaptionLaws.{kept_all}
use Rattle.ddcmp_picture.specs.Inside.Captions.{without_zeros}
use Rattle.ddcmp_picture.proofs.caption.write_shown_counters.Goals as goal

pub returns : goal.returns
returns g c = λ ok. let flushed = c.flush-the_sink_tells.ensures in
    sends-as
    (ap (without_zeros [])
    (c.as_slice.ensures.value
    ∙ kept_all _ _ _ _ _ _ _ c.new-counters.ensures.whole c.new-counters.ensures.empty
    c.new-draft.ensures (sym c.failed.ensures ∙ c.if-failed.false) flushed.empty
    (sends-as (append-nil _) (sends-then c.write_both_counters.ensures flushed.sends))))
    c.write_without_zeros.ensures
