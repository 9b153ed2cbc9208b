use Rattle.std.proofs.Common.{◌≡◌, map, take}
use Rattle.std.specs.Prelude.{string_bytes}
use Rattle.ddcmp_cli.proofs.program.texts.Given as goal

abbrev pub invariant-loop-arg : goal.invariant-loop-arg
invariant-loop-arg l =
    map (λ word. word.now) l.all.items ≡ map string_bytes (take l.arg-index l.args)
