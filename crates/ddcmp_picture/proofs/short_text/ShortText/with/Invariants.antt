use Rattle.std.proofs.Common.{◌≡◌, drop}
use Rattle.ddcmp_picture.specs.ShortTexts.{with_text}
use Rattle.ddcmp_picture.proofs.short_text.ShortText.with.Given as goal

-- what is left makes the whole what it is to be
abbrev pub invariant-loop-byte : goal.invariant-loop-byte
invariant-loop-byte l = with_text l.fn.self l.text ≡ with_text l.self (drop l.byte-index l.text)
