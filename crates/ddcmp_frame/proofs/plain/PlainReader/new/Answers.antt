use Rattle.std.proofs.Common.{refl, rules}
use Rattle.ddcmp_frame.proofs.PushLaws.{stands_anew}
use Rattle.ddcmp_frame.proofs.plain.PlainReader.new.Goals as goal

pub returns-in-Ok : goal.returns-in-Ok
returns-in-Ok c = record {
  zero = search rules;
  above = search rules;
  memory = search rules;
  stands = stands_anew c.args.max c.in-Ok.buffer.items 0 refl;
  max = search rules;
  lent = search rules;
}
