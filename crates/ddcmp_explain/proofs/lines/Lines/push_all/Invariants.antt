use Rattle.std.proofs.Common.{◌≡◌, ◌+◌, ◌-◌, ◌≤◌, ◌++◌, ℕ, List, Option, length, take}
use Rattle.ddcmp_explain.specs.Inside.Progress.{HasTold}
use Rattle.ddcmp_explain.proofs.lines.Lines.push_all.Given as goal

abbrev pub invariant-loop-used : goal.invariant-loop-used
invariant-loop-used g l = record {
  within : l.used ≤ length l.bytes;
  max : l.self.frames.max ≡ l.initial.self.frames.max;
  style : l.self.style ≡ l.initial.self.style;
  offset : l.self.frames.offset ≡ l.initial.self.frames.offset + l.used;
  told : (max : ℕ) (start : Option (List ℕ)) (text : List ℕ)
      → HasTold max start text l.initial.self (g.W.Sink.broken l.initial.writer)
      (g.W.Sink.contents l.initial.writer)
      → HasTold max start (text ++ take l.used l.bytes) l.self (g.W.Sink.broken l.writer)
      (g.W.Sink.contents l.writer);
}

abbrev pub decreases-loop-used : goal.decreases-loop-used
decreases-loop-used g l = length l.bytes - l.used
