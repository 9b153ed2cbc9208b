-- What is known of the connections of stations.
use Rattle.std.specs.Prelude.{ℕ, Bool, List, Option, None}
use Rattle.ddcmp_io.specs.Written.{Known}
use Rattle.ddcmp_args.specs.declared.station_args.Role.{Role}

-- For a role and an address, if known: whether the connection can be made, and the bytes received
-- over it.
pub record Peers : Type 0 where
  pub opens : Role → List ℕ → Option Bool
  pub gives : Role → List ℕ → Known

-- nothing is known of any connection
abbrev pub no_peers_known : Peers
no_peers_known = record { opens = λ role addr. None; gives = λ role addr. None }
