use Rattle.ddcmp_tool_tests.proofs.JoinedLaws.{fresh-lines}
use Rattle.ddcmp_tool_tests.proofs.joined.good_frames_come_to_the_other_line.Goals as goal

pub run_bridge-requires-clause-fresh : goal.run_bridge-requires-clause-fresh
run_bridge-requires-clause-fresh g c =
    fresh-lines _ _ c.line_of.ensures c.line_of-2.ensures
