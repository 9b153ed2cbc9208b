use Rattle.std.proofs.Common.{Some, ap, arith, ◌∙◌}
use Rattle.ddcmp_io.specs.Device.{worse}
use Rattle.ddcmp_io.specs.declared.device.Got.TheVariants.{Bytes}
use Rattle.ddcmp_explain.specs.Detection.{form_in}
use Rattle.ddcmp_explain.proofs.ReadLaws.{consumes-end, gives-ended, length-chunk, next-fine}
use Rattle.ddcmp_explain.proofs.input_bytes.InputBytes.read.Goals as goal

pub returns-in-Bytes-eq0-clause-next : goal.returns-in-Bytes-eq0-clause-next
returns-in-Bytes-eq0-clause-next g c =
    next-fine c.args.self.now c.args.self.now (g.R.Source.state c.read_chunk.new.reader)
    c.finish.result
    (c.in-Bytes-eq0.ensures.worst
    ∙ ap (λ worst. worse worst (Bytes c.in-Bytes-eq0.field-0)) c.requires.fine)
    (c.finish.ensures.next c.args.self.now)

pub returns-in-Bytes-eq0-clause-gives : goal.returns-in-Bytes-eq0-clause-gives
returns-in-Bytes-eq0-clause-gives g c = λ written input seen r.
    let left = g.R.Source.left c.read_chunk.new.reader in
    let gave = c.in-Bytes-eq0.ensures.bytes in
    let none = c.in-Bytes-eq0.field-0-test in
    let long =
    length-chunk c.args.self.now.form c.read_chunk.new.piece c.read_chunk.new.bytes 16384
    c.finish.array_long c.finish.array_long2 in
    gives-ended written input seen left c.args.self.now c.read_chunk.new.bytes c.finish.result
    (consumes-end (Some input) _ left seen _ _ none r.consumed gave.1)
    (c.finish.ensures.ends (form_in written input) seen left c.requires.expected
    (r.opened c.requires.opened) (gave.2 none (omega (arith, long)))
    (omega (arith, r.long, c.requires.room)))
