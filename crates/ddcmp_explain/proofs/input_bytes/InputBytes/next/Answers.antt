use Rattle.std.proofs.Common.{rules, arith}
use Rattle.ddcmp_explain.specs.Detection.{form_in}
use Rattle.ddcmp_explain.proofs.ReadLaws.{gives-ended, next-fine}
use Rattle.ddcmp_explain.proofs.input_bytes.InputBytes.next.Goals as goal

pub returns-in-None-clause-next : goal.returns-in-None-clause-next
returns-in-None-clause-next g c =
    next-fine c.args.self.now c.args.self.now (g.R.Source.state c.args.reader.now) c.finish.result
    (search rules) (c.finish.ensures.next c.args.self.now)

pub returns-in-None-clause-gives : goal.returns-in-None-clause-gives
returns-in-None-clause-gives g c = λ fine written input seen r.
    let left = g.R.Source.left c.args.reader.now in
    gives-ended written input seen left c.args.self.now c.args.bytes.now c.finish.result r.consumed
    (c.finish.ensures.ends (form_in written input) seen left c.in-None.is
    (r.opened c.if-self-2.false) (r.ended c.if-self-3.true)
    (omega (arith, r.long, c.if-self.false, c.args.self.now.fits)))
