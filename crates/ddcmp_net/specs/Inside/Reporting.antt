-- The effect of a call on the user of a served station.
use Rattle.std.specs.Prelude.{◌≡◌, ℕ, Bool, List, [], take}
use Rattle.ddcmp_io.specs.Written.{Known, HandsOver, output_of}
use Rattle.ddcmp_station.specs.UserCalls.{UserCall, Asked, Told, Handed}
use Rattle.ddcmp_net.specs.declared.reporter.Reporter.{Reporter}
use Rattle.ddcmp_net.specs.Serving.{call_text}

-- What is left to send after a call. If the user is asked for a message, it returns as much as
-- there is room for, and nothing is left.
abbrev pub Leaves : List ℕ → UserCall → List ℕ → Type 0
Leaves send (Asked room message) left = (message ≡ take room send) × (left ≡ [])
Leaves send (Told notice) left = left ≡ send
Leaves send (Handed message) left = left ≡ send

-- It has the same sink, and has written the line for the call.
pub record Reports {P : Type 0} (broken : P → Bool) (contents : P → Known) (old : Reporter P)
    (call : UserCall) (new : Reporter P) : Type 0 where
  pub same_reference : new.report.ghost_name ≡ old.report.ghost_name
  pub sends : HandsOver (output_of broken contents old.report.now [])
      (output_of broken contents new.report.now []) (call_text call)
  pub leaves : Leaves old.send.now call new.send.now
