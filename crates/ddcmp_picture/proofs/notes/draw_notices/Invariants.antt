use Rattle.std.proofs.Common.{◌≡◌, ◌++◌, ◌==◌, List, true, drop}
use Rattle.ddcmp_io.specs.Device.{Logs}
use Rattle.ddcmp_picture.specs.Marks.{notice_marks}
use Rattle.ddcmp_picture.specs.declared.mark.Mark.{Mark}
use Rattle.ddcmp_picture.proofs.notes.draw_notices.Given as goal

-- the marks so far, and those of what is left
abbrev pub invariant-loop-i : goal.invariant-loop-i
invariant-loop-i g l =
    (before : List Mark) × Logs (g.P.Paper.drawn l.initial.paper) (g.P.Paper.drawn l.paper) before
    × (before ++ notice_marks l.to (l.i == 0) (drop l.i l.notices)
    ≡ notice_marks l.to true l.notices)
