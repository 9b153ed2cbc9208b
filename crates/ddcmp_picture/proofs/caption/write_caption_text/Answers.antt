use Rattle.std.proofs.Common.{Bool, ap, sym, if◌then◌else◌, [], ◌++◌}
use Rattle.ddcmp_io.proofs.TextLaws.{sends-as}
use Rattle.ddcmp_io.proofs.WrittenLaws.{sends-then}
use Rattle.ddcmp_picture.specs.Inside.Captions.{caption_text}
use Rattle.ddcmp_picture.proofs.caption.write_caption_text.Goals as goal

pub returns-then-counted : goal.returns-then-counted
returns-then-counted g c = λ kept.
    sends-as (ap (λ (b : Bool). caption_text b c.args.pair.now) (sym c.if-counted.true))
    (sends-then (c.write_shown_counters-is_kept.ensures kept) c.write_closing.ensures)
