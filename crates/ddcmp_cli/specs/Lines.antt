-- What is known of the lines that a system opens for a command.
use Rattle.std.specs.Prelude.{ℕ, List, Option, None, Result, option_map}
use Rattle.std.specs.Borrow.{Bor}
use Rattle.ddcmp_streams.specs.declared.options.Options.{Options}
use Rattle.ddcmp_session.specs.declared.link.LinkOutcome.{LinkOutcome}
use Rattle.ddcmp_link.specs.declared.fault.LinkFailure.{LinkFailure}
use Rattle.ddcmp_bridge.specs.declared.bridge.BridgeEnd.{BridgeEnd}
use Rattle.ddcmp_bridge.specs.declared.options.BridgeOptions.{BridgeOptions}
use Rattle.ddcmp_device.specs.declared.bridging.BridgeFault.{BridgeFault}

-- the text of a host, if there is one
abbrev pub text_of : Option (Bor (List ℕ)) → Option (List ℕ)
text_of host = option_map (λ it. it.now) host

-- `links`: the result of a link over the line of this name, with the callers of this host alone if
-- there is one, and with these options. `bridges`: that of a bridge between the first and the
-- second line of these names, with these options.
pub record LinesKnown : Type 0 where
  pub links : List ℕ → Option (List ℕ) → Options → Option (Result LinkOutcome LinkFailure)
  pub bridges : List ℕ → List ℕ → BridgeOptions → Option (Result BridgeEnd BridgeFault)

-- nothing is known of any line
abbrev pub no_lines_known : LinesKnown
no_lines_known = record {
  links = λ word only options. None;
  bridges = λ first second options. None;
}
