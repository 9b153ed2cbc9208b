use Rattle.std.proofs.Common.{◌≤◌, ◌∙◌, ap, arith, drop, length}
use Rattle.ddcmp_io.proofs.WrittenLaws.{sends-then}
use Rattle.ddcmp_io.proofs.TextLaws.{sends-as}
use Rattle.ddcmp_explain.specs.Output.{front_in}
use Rattle.ddcmp_explain.proofs.PuttingLaws.{puts-rest}
use Rattle.ddcmp_explain.proofs.LineLaws.{rest-with-data, line-alone}
use Rattle.ddcmp_explain.proofs.notation.write_item_by.Goals as goal

pub returns-then-lends : goal.returns-then-lends
returns-then-lends g c =
    let some : c.args.part.from ≤ length (front_in c.args.part.notation c.args.item.now) =
    omega (arith, c.requires, c.put_front-end.ensures.some, c.put_front-end.ensures.puts.ends) in
    sends-as
    (rest-with-data c.args.part.notation c.args.item.now c.args.data.now c.args.part.from some
    c.if-lends.ensures)
    (sends-then (sends-then
    (sends-as (puts-rest c.args.part.from c.put_front-end.ensures.puts) c.write.ensures.sends)
    c.write_hex.ensures)
    c.write_after.ensures)

pub returns-else-lends : goal.returns-else-lends
returns-else-lends g c =
    sends-as
    (puts-rest c.args.part.from c.put_front-end.ensures.puts
    ∙ ap (drop c.args.part.from)
    (line-alone c.args.part.notation c.args.item.now c.args.data.now c.if-lends.ensures))
    c.write.ensures.sends
