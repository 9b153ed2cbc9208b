use Rattle.std.proofs.Common.{◌≡◌, ◌∙◌, [], ap, refl, subst, sym, take}
use Rattle.ddcmp_ports.specs.declared.port.News.TheVariants.{Ended}
use Rattle.ddcmp_ports.specs.declared.port.Transfer.TheVariants as transfer
use Rattle.ddcmp_ports.specs.Running.{Changes, GoesOn, after_read, put}
use Rattle.ddcmp_ports.proofs.RunLaws.{changes-none, got-given, heard-put, put-same, stays, uses-all}
use Rattle.ddcmp_ports.proofs.buffers.read.Goals.{then-is_empty+in-Bytes, else-is_empty}
use Rattle.ddcmp_ports.proofs.buffers.read.Goals as goal

pub returns-in-Nothing-clause-on : goal.returns-in-Nothing-clause-on
returns-in-Nothing-clause-on g c = λ held is.
    let none : c.args.chunk.now ≡ [] = c.is_empty.ensures.none c.if-is_empty.true in
    let got = c.in-Nothing.ensures.read in
    stays (put-same c.args.port _ held (is ∙ none ∙ sym got.1))
    (changes-none c.args.port _ _ got.2)

pub returns-in-Over-clause-on : goal.returns-in-Over-clause-on
returns-in-Over-clause-on g c = λ held is.
    let none : c.args.chunk.now ≡ [] = c.is_empty.ensures.none c.if-is_empty.true in
    let got = c.in-Over.ensures.read in
    heard-put c.args.port (Ended c.in-Over.why) (λ xs. refl) (is ∙ none ∙ sym got.1)
    (uses-all (Ended c.in-Over.why) (is ∙ none)) c.told.ensures.has got.2

pub returns-clause-on : goal.returns-clause-on
returns-clause-on g c = λ held is. elim c.if-is_empty.branch [
  | then-is_empty+in-Bytes w ↦
      let none : c.args.chunk.now ≡ [] = c.is_empty.ensures.none w.if-is_empty.true in
      let got = w.in-Bytes.ensures.read in
      got-given c.args.port w.in-Bytes.field-0 got.0 _ _ (w.chunk-is ∙ got.1) (is ∙ none)
      (subst (Changes c.args.port (after_read (transfer.Bytes w.in-Bytes.field-0) got.0)
      (g.S.System.trace c.args.system.now)) (ap g.S.System.trace (sym w.system-is)) got.2)
      c.give.ensures
  | else-is_empty w ↦
      subst
      (λ s. GoesOn g.M.Machine.has g.M.Machine.asked c.args.machine.now held (g.S.System.trace c.args.system.now)
      c.give.new.machine (put c.args.port c.give.new.chunk held) (g.S.System.trace s))
      (sym w.system-is)
      (c.give.ensures (g.S.System.trace c.args.system.now) held (is ∙ sym w.chunk-is))
]
