use Rattle.std.proofs.Common.{◌≡◌, ◌<◌, ◌≤◌, drop, length}
use Rattle.ddcmp_line.specs.ScriptWords.{number_behind}
use Rattle.ddcmp_line.proofs.command.number_in.Given as goal

abbrev pub invariant-loop-i : goal.invariant-loop-i
invariant-loop-i l = record {
  behind : number_behind 0 l.word ≡ number_behind l.number (drop l.i l.word);
  short : length l.word ≤ 5;
  none : l.i ≡ 0 → l.number ≡ 0;
  one : l.i ≤ 1 → l.number < 10;
  two : l.i ≤ 2 → l.number < 100;
  three : l.i ≤ 3 → l.number < 1000;
  four : l.i ≤ 4 → l.number < 10000;
}
