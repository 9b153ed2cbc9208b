use Rattle.std.proofs.Common.{refl}
use Rattle.hex.specs.Hex.{encode_lower}
use Rattle.ddcmp_input.proofs.SpellingLaws.{spells_lower}
use Rattle.ddcmp_laws.proofs.session_timing.mail_is_read_back.Goals as goal

pub returns : goal.returns
returns c = λ message b. (encode_lower message, refl, spells_lower message b)
