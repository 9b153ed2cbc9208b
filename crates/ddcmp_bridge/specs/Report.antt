-- What a bridge reports at its end.
use Rattle.std.specs.Prelude.{ℕ, List, ◌++◌, codes, decimal}
use Rattle.ddcmp_bridge.specs.declared.counts.Counts.{Counts}

-- the line of one direction
abbrev pub direction_line : List ℕ → Counts → List ℕ
direction_line mark counts =
    mark ++ codes " frames=" ++ decimal counts.frames ++ codes " skipped=" ++ decimal counts.skipped
    ++ codes " damaged=" ++ decimal counts.damaged ++ codes " lost=" ++ decimal counts.lost
    ++ codes " altered=" ++ decimal counts.altered ++ codes "\n"

-- the counters as members of a JSON object
abbrev pub counts_members : Counts → List ℕ
counts_members counts =
    codes "\"frames\":" ++ decimal counts.frames
    ++ codes ",\"skipped\":" ++ decimal counts.skipped
    ++ codes ",\"damaged\":" ++ decimal counts.damaged
    ++ codes ",\"lost\":" ++ decimal counts.lost
    ++ codes ",\"altered\":" ++ decimal counts.altered

-- those of one direction, and what was counted since the last report, after an opening brace
abbrev pub report_object : List ℕ → Counts → Counts → List ℕ
report_object mark counts more =
    codes "\"event\":\"report\",\"from\":\"" ++ mark ++ codes "\","
    ++ counts_members counts ++ codes ",\"interval\":{" ++ counts_members more ++ codes "}}\n"

-- the report: from the first line to the second, and back
abbrev pub bridge_report : Counts → Counts → List ℕ
bridge_report there back = direction_line (codes ">") there ++ direction_line (codes "<") back
