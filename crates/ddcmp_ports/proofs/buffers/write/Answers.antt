use Rattle.std.proofs.Common.{refl}
use Rattle.ddcmp_ports.specs.declared.port.News.TheVariants.{Broken}
use Rattle.ddcmp_ports.proofs.RunLaws.{changes-none, heard-same, stays, wrote}
use Rattle.ddcmp_ports.proofs.buffers.write.Goals as goal

pub returns-in-Nothing-clause-on : goal.returns-in-Nothing-clause-on
returns-in-Nothing-clause-on g c = λ held.
    stays (λ q. refl) (changes-none c.args.port _ _ c.in-Nothing.ensures.trace)

pub returns-in-Bytes-clause-on : goal.returns-in-Bytes-clause-on
returns-in-Bytes-clause-on g c = λ held.
    wrote c.args.port c.in-Bytes.n c.pending-pending.result.now _ c.pending-pending.ensures
    c.took.ensures c.in-Bytes.ensures.trace

pub returns-in-Over-clause-on : goal.returns-in-Over-clause-on
returns-in-Over-clause-on g c = λ held.
    heard-same c.args.port (Broken c.in-Over.why) (λ xs. refl) (λ u w. refl) c.told.ensures.has
    c.in-Over.ensures.trace
