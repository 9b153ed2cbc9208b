-- The message of the run that is written out: its last byte alone completes it; and its bytes are
-- wanted when they come.
use Rattle.std.proofs.Common.{◌≡◌, ◌∙◌, sym, ℕ, ◌+◌, ◌≤◌, Bool, true, false, [], ◌∷◌, refl, subst}
use Rattle.std.proofs.Common.{take, length, arith}
use Rattle.ddcmp_input.specs.declared.entry.Entry.{Entry}
use Rattle.ddcmp_input.specs.InBinary.{behind_length}
use Rattle.ddcmp_input.specs.Lengths.{entries_of_bytes}
use Rattle.ddcmp_streams.specs.declared.messages.MessageForm.TheVariants as form
use Rattle.ddcmp_streams.specs.Messages.{messages_begun, entries_of_input}
use Rattle.ddcmp_laws.specs.Vectors.{abc}
use Rattle.ddcmp_session.specs.Calls.{CompletesLast}
use Rattle.ddcmp_session.proofs.InputLaws.{completes_last}

abbrev None : ℕ → Type 0
None k = entries_of_input (take k (behind_length abc)) (messages_begun form.Binary 5) ≡ []

first : (k : ℕ) (entry : Entry)
    → entries_of_input (take 5 (behind_length abc)) (messages_begun form.Binary 5) ≡ entry ∷ []
    → 5 ≡ k + 1 → None k
unfolding entries_of_bytes
first k entry e is = let at : 4 ≡ k = omega (arith, is) in subst None at refl

few : length (entries_of_input (take 5 (behind_length abc)) (messages_begun form.Binary 5)) ≤ 1
unfolding entries_of_bytes
few = omega arith

pub completes : CompletesLast (behind_length abc) (messages_begun form.Binary 5)
completes =
    completes_last 5 (behind_length abc) (messages_begun form.Binary 5) (omega arith) first few

pub unless : {b : Bool} {P : Type 0} → b ≡ true → b ≡ false → P
unless is never = clash (sym is ∙ never)
  where
    clash : {P : Type 0} → true ≡ false → P
    clash e = cc
