-- The history of a session that is connected any number of times.
use Rattle.std.specs.Prelude.{◌≡◌, ℕ, ⊤, List, [], ◌∷◌}
use Rattle.ddcmp_session.specs.Session.{SessionView, after_connected}
use Rattle.ddcmp_session.specs.Calls.{SessionCall, Connected as ConnectedCall, SessionDoes}
use Rattle.ddcmp_session.specs.Calls.{SessionHistory, SessionStep, after_session_step, Shown}

-- The history of a session, in which the bytes of the line are those of its last connection; and
-- the input that it had read, and what it had delivered and reported, before that.
pub record Connection : Type 0 where
  pub history : SessionHistory
  pub input_before : List ℕ
  pub shown_before : List Shown

abbrev pub first_connection_of : SessionHistory → Connection
first_connection_of h = record { history = h; input_before = []; shown_before = [] }

abbrev pub begun_anew : SessionHistory → Connection
begun_anew h = record {
  history = record h { used = []; gone = [] };
  input_before = h.input;
  shown_before = h.shown;
}

abbrev pub after_call : SessionCall → SessionHistory → Connection → Connection
after_call ConnectedCall h c = begun_anew h
after_call call h c = record c { history = h }

abbrev pub after_step : SessionStep → Connection → Connection
after_step step c = after_call step.call (after_session_step step c.history) c

-- What each call does by its contract; `connected` may be called on any line.
abbrev pub Does : SessionCall → List ℕ → SessionView → SessionView → Type 0
Does ConnectedCall text old new =
    new ≡ after_connected new.link.station.line old
Does call text old new = SessionDoes call text old new

-- Each step is a call that does what its contract states.
abbrev pub AreDone : List SessionStep → Connection → Type 0
AreDone [] c = ⊤
AreDone (step ∷ rest) c =
    Does step.call c.history.used c.history.session step.session
    × AreDone rest (after_step step c)

unfoldable pub after_all : List SessionStep → Connection → Connection
after_all [] c = c
after_all (step ∷ rest) c = after_all rest (after_step step c)
