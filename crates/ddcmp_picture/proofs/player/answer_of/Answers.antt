use Rattle.std.proofs.Common.{ℕ, List, [], ◌∷◌, Result, Ok, Err, inl}
use Rattle.std.specs.Prelude.{None}
use Rattle.std.specs.Io.KnownBytes.{Appends}
use Rattle.ddcmp_line.specs.ScriptEnds.{Around, StoppedAt}
use Rattle.ddcmp_line.proofs.Playing.{nothing-of-next}
use Rattle.ddcmp_line.specs.declared.command.ParsedLine.{ParsedLine}
use Rattle.ddcmp_line.specs.declared.script_fault.ScriptFault.{ScriptFault}
use Rattle.ddcmp_line.specs.declared.script_fault.ScriptFault.TheVariants.{Line, Hex, Read}
use Rattle.ddcmp_line.specs.declared.script_fault.ScriptFault.TheVariants.{Write, Memory}
use Rattle.ddcmp_line.specs.declared.script_fault.ScriptFault.TheVariants.{Carrier}
use Rattle.ddcmp_picture.specs.Drawn.{DrawsScript}
use Rattle.ddcmp_picture.proofs.player.answer_of.Goals as goal

before-line : (Reads : ParsedLine → Type 0) (n : ℕ) (input : List ℕ) (x : Around)
    → StoppedAt Reads n input x (Appends None None) → DrawsScript input x (Err Write)
before-line Reads n input x s = record {
  done = s.done;
  behind = s.line ∷ s.behind;
  begins = s.begins;
  stopped = inl (s.did.pair, s.did.carried);
  written = (0, tt);
}

-- some lines were done, whatever the result was
some-done : (input : List ℕ) (x : Around) (r : Result (Unit {0}) ScriptFault)
    → DrawsScript input x r → DrawsScript input x (Err Write)
some-done input x (Ok u) f = record {
  done = f.done;
  behind = [];
  begins = f.begins;
  stopped = (f.did.pair, f.did.carried);
  written = (0, tt);
}
some-done input x (Err (Line n)) s = before-line _ n input x s
some-done input x (Err (Hex n)) s = before-line _ n input x s
some-done input x (Err Read) p = record {
  done = p.done;
  behind = p.behind;
  begins = p.begins;
  stopped = nothing-of-next p.behind p.done x _ p.did;
  written = (0, tt);
}
some-done input x (Err Write) b = b
some-done input x (Err Memory) b = record {
  done = b.done;
  behind = b.behind;
  begins = b.begins;
  stopped = b.stopped;
  written = (0, tt);
}
some-done input x (Err Carrier) s = before-line _ s.0 input x s.1

pub returns-then-is_broken-clause-draws : goal.returns-then-is_broken-clause-draws
returns-then-is_broken-clause-draws c = λ input x. some-done input x c.args.done
