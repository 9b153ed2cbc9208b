use Rattle.std.proofs.Common.{codes, ◌++◌}
use Rattle.hex.specs.Hex.{encode_lower}
use Rattle.ddcmp_session.proofs.TextLaws.{puts-then}
use Rattle.ddcmp_session.proofs.text.write_mail_line.Goals as goal

pub returns : goal.returns
returns c =
    let digits = encode_lower c.args.message.now in
    puts-then (codes "mail ") (digits ++ codes "\n") c.args.out.now c.put.new.out
    c.put-2.new.out c.put.ensures
    (puts-then digits (codes "\n") c.put.new.out c.put_hex.new.out c.put-2.new.out
    c.put_hex.ensures c.put-2.ensures)
