use Rattle.std.proofs.Common.{◌≡◌, ◌++◌, take, drop}
use Rattle.ddcmp_input.specs.Dump.{line_from, place_from, shown_from}
use Rattle.ddcmp_input.proofs.dump.Dump.blank.Given as goal

-- what is to be done of the rest makes the whole what it is to be
abbrev pub invariant-loop-byte : goal.invariant-loop-byte
invariant-loop-byte l = record {
  shown : shown_from l.initial.self-inside.place l.initial.piece
      ≡ take l.byte-index l.piece ++ shown_from l.self-inside.place (drop l.byte-index l.piece);
  place : place_from l.initial.self-inside.place l.initial.piece
      ≡ place_from l.self-inside.place (drop l.byte-index l.piece);
  line : line_from l.initial.self-inside.place l.initial.self-inside.line l.initial.piece
      ≡ line_from l.self-inside.place l.self-inside.line (drop l.byte-index l.piece);
}
