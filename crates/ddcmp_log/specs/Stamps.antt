-- When bytes were received, as it is logged.
use Rattle.std.specs.Prelude.{ℕ, List, ◌++◌, codes, decimal}
use Rattle.ddcmp_log.specs.Day.{time_text}
use Rattle.ddcmp_log.specs.declared.side.Stamp.{Stamp}
use Rattle.ddcmp_log.specs.declared.side.Stamp.TheVariants.{Elapsed, OfDay}

abbrev pub stamp_text : Stamp → List ℕ
stamp_text (Elapsed ms) = decimal ms
stamp_text (OfDay ms) = time_text ms

-- the same as a member of an object
abbrev pub stamp_member : Stamp → List ℕ
stamp_member (Elapsed ms) = codes ",\"ms\":" ++ decimal ms ++ codes ","
stamp_member (OfDay ms) = codes ",\"time\":\"" ++ time_text ms ++ codes "\","
