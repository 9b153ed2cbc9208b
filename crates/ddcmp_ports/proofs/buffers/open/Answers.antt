use Rattle.std.proofs.Common.{ap, refl}
use Rattle.ddcmp_ports.specs.declared.port.News.TheVariants.{Opened, Refused, Reported}
use Rattle.ddcmp_ports.specs.Running.{put}
use Rattle.ddcmp_ports.proofs.RunLaws.{changes-none, heard, heard-put, put-same, stays}
use Rattle.ddcmp_ports.proofs.buffers.open.Goals as goal

pub returns-in-Later-clause-on : goal.returns-in-Later-clause-on
returns-in-Later-clause-on g c = λ held is.
    stays (put-same c.args.port c.args.chunk.now held is) (changes-none c.args.port _ _ c.in-Later.ensures.trace)

pub returns-in-Done-clause-on : goal.returns-in-Done-clause-on
returns-in-Done-clause-on g c = λ held is.
    heard c.args.port (Opened c.in-Done.peer) (λ q. ap (λ x. put c.args.port x held q) c.clear.ensures) (λ u w. refl)
    c.told.ensures.has c.in-Done.ensures.trace

pub returns-in-Failed-clause-on : goal.returns-in-Failed-clause-on
returns-in-Failed-clause-on g c = λ held is.
    heard-put c.args.port (Refused c.in-Failed.why) (λ xs. refl) is (λ u w. refl) c.told-in-Failed.ensures.has
    c.in-Failed.ensures.trace

pub returns-in-Reported-clause-on : goal.returns-in-Reported-clause-on
returns-in-Reported-clause-on g c = λ held is.
    heard-put c.args.port (Reported c.in-Reported.event) (λ xs. refl) is (λ u w. refl)
    c.told-in-Reported.ensures.has c.in-Reported.ensures.trace
