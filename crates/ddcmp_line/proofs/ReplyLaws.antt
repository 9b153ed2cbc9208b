-- The words of each reply.
use Rattle.std.proofs.Common.{◌≡◌, ℕ, List, ◌++◌, refl}
use Rattle.std.specs.Prelude.{codes}
use Rattle.ddcmp_pair.specs.declared.event.Reply.TheVariants as reply
use Rattle.ddcmp_line.specs.ScriptText.{reply_text, bytes_line, counted_line}

pub text-of-wrote : (who bytes : List ℕ)
    → reply_text who (reply.Wrote bytes) ≡ bytes_line who (codes "wrote ") bytes
unfolding reply_text
text-of-wrote who bytes = refl

pub text-of-took : (who bytes : List ℕ)
    → reply_text who (reply.Took bytes) ≡ bytes_line who (codes "took ") bytes
unfolding reply_text
text-of-took who bytes = refl

pub text-of-started : (who : List ℕ) (n : ℕ)
    → reply_text who (reply.Started n) ≡ counted_line who (codes "started dropped=") n
unfolding reply_text
text-of-started who n = refl

pub text-of-nothing : (who : List ℕ) → reply_text who reply.Nothing ≡ who ++ codes "nothing\n"
unfolding reply_text
text-of-nothing who = refl
