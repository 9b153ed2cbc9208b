-- Sessions that run over devices, over one line after the other.
use Rattle.std.specs.Prelude.{◌≡◌, List}
use Rattle.ddcmp_session.specs.Session.{SessionView}
use Rattle.ddcmp_session.specs.Calls.{SessionStep}
use Rattle.ddcmp_session.specs.Connections.{AreDone, after_all}
use Rattle.ddcmp_session.specs.Devices.{Agrees, BuffersView}
use Rattle.ddcmp_session.specs.Traffic.{Traffic}
use Rattle.ddcmp_laws.specs.Connections.{first_connection}
use Rattle.ddcmp_laws.specs.Pipe.{Made}

-- A history of a session from its beginning, over every line that it was connected on, which agrees
-- with its devices at its end.
pub record HasRunOver (made : Made) (new : SessionView) (held : BuffersView) (t : Traffic) : Type 0
  where
    pub steps : List SessionStep
    pub calls : AreDone steps (first_connection made)
    pub session : (after_all steps (first_connection made)).history.session ≡ new
    pub agrees : Agrees held (after_all steps (first_connection made)).history t
