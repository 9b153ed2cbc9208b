-- A tap as a machine: what it needs and has pending, its history, and what passes through it.
use Rattle.std.specs.Prelude.{◌≡◌, ◌≤◌, ℕ, Bool, if◌then◌else◌, ◌&&◌, ◌==◌, List, [], ◌∷◌, ◌++◌}
use Rattle.std.specs.Prelude.{⊤, true, Option, Some, None, Result, Ok, Err, drop, is_some, length}
use Rattle.ddcmp_ports.specs.declared.port.Port.{Port}
use Rattle.ddcmp_ports.specs.declared.port.Port.TheVariants.{Input, Output, Errors, First, Second}
use Rattle.ddcmp_ports.specs.declared.port.Need.{Need}
use Rattle.ddcmp_ports.specs.declared.port.Need.TheVariants.{Closing, Nothing}
use Rattle.ddcmp_ports.specs.Running.{Event, Gave, Left, Passage, Passed, Rested, Shut, Stopped}
use Rattle.ddcmp_ports.specs.Running.{Told}
use Rattle.ddcmp_ports.specs.Running.{Took, Trace, taken, told, used, used_whole}
use Rattle.ddcmp_ports.specs.declared.port.News.{News}
use Rattle.ddcmp_ports.specs.declared.port.News.TheVariants as news
use Rattle.ddcmp_log.specs.Items.{ItemLogView}
use Rattle.ddcmp_log.specs.Logged.{logged_last}
use Rattle.ddcmp_log.specs.declared.side.Side.{Side}
use Rattle.ddcmp_log.specs.declared.side.Side.TheVariants.{Caller, Called}
use Rattle.ddcmp_log.specs.declared.side.Stamp.{Stamp}
use Rattle.ddcmp_tap.specs.Reporting.{TapReportsView}
use Rattle.ddcmp_tap.specs.Stamping.{stamp_at}
use Rattle.ddcmp_tap.specs.Forwarding.{DirectionView, Forwards, IsOf, need_of}
use Rattle.ddcmp_tap.specs.Logging.{Piece, Says, pieces_text, said}
use Rattle.ddcmp_tap.specs.declared.machine.TapPause.{TapPause}
use Rattle.ddcmp_tap.specs.declared.machine.TapPause.TheVariants.{Ended, Logging}
use Rattle.ddcmp_tap.specs.declared.tap_fault.TapFault.{TapFault}
use Rattle.ddcmp_tap.specs.declared.tap_fault.TapFault.TheVariants as fault
use Rattle.ddcmp_tap.specs.declared.tap_log.TapLog.{TapLog}

-- A tap: how it logs; the directions from the caller and to it; the lines that weren't written yet,
-- and how many bytes of lines were; the moment; why it ends, if it does; and its reports.
pub record TapView : Type 0 where
  pub log : TapLog
  pub up : DirectionView
  pub down : DirectionView
  pub text : List ℕ
  pub written : ℕ
  pub moment : ℕ
  pub fault : Option TapFault
  pub reports : TapReportsView

-- why it may end: the log and the connections are others' concern
abbrev pub IsOwn : Option TapFault → Type 0
IsOwn None = ⊤
IsOwn (Some fault.Read) = ⊤
IsOwn (Some fault.Write) = ⊤
IsOwn (Some fault.Memory) = ⊤
IsOwn (Some fault.Report) = ⊥
IsOwn (Some (fault.Carrier why)) = ⊥

abbrev pub EndsItself : Result (Unit {0}) TapFault → Type 0
EndsItself (Ok u) = ⊤
EndsItself (Err why) = IsOwn (Some why)

abbrev pub log_at : Side → TapView → ItemLogView
log_at Caller t = t.up.log
log_at Called t = t.down.log

-- what lines of now begin with, if with a time
abbrev pub stamp_of : TapView → Option Stamp
stamp_of t = stamp_at t.log t.moment

-- what no call changes, but the writing of the log
abbrev pub asked_of : TapView → TapLog × ℕ
asked_of t = (t.log, t.written)

-- The first line is that of the caller. A tap that failed needs neither any more.
abbrev pub needs_of : TapView → Port → Need
needs_of t First = if is_some t.fault then Closing else need_of t.up t.down
needs_of t Second = if is_some t.fault then Closing else need_of t.down t.up
needs_of t Input = Nothing
needs_of t Output = Nothing
needs_of t Errors = Nothing

abbrev pub pending_of : TapView → Port → List ℕ
pending_of t First = if is_some t.fault then [] else t.down.waiting
pending_of t Second = if is_some t.fault then [] else t.up.waiting
pending_of t Input = []
pending_of t Output = []
pending_of t Errors = if is_some t.fault then [] else t.reports.text

abbrev pub end_of : Option TapFault → Bool → Option TapPause
end_of (Some why) is_over = Some (Ended (Err why))
end_of None is_over = if is_over then Some (Ended (Ok tt)) else None

-- It pauses for the log, and ends once both sides have, or with a fault.
abbrev pub outcome_of : TapView → Option TapPause
outcome_of t =
    if length t.text == 0 then end_of t.fault (t.up.over && t.down.over) else Some Logging

-- the last line of each side, of which these bytes came
abbrev pub last_lines : TapView → List ℕ → List ℕ → List ℕ
last_lines t up down =
    logged_last t.log.notation (stamp_of t) Caller t.log.max up
    ++ logged_last t.log.notation (stamp_of t) Called t.log.max down

-- ---- its history

abbrev pub moment_of : List Event → ℕ
moment_of [] = 0
moment_of (Gave q bytes ∷ h) = moment_of h
moment_of (Took q bytes ∷ h) = moment_of h
moment_of (Told q what ∷ h) = moment_of h
moment_of (Shut q ∷ h) = moment_of h
moment_of (Left q ∷ h) = moment_of h
moment_of (Passed now ∷ h) = now
moment_of (Rested ∷ h) = moment_of h
moment_of (Stopped ∷ h) = moment_of h

abbrev pub piece_of : Side → TapLog → ℕ → List ℕ → Piece
piece_of side log now bytes = record { side = side; stamp = stamp_at log now; bytes = bytes }

abbrev pub pieces_at : Port → TapLog → ℕ → List ℕ → List Piece → List Piece
pieces_at First log now bytes before = piece_of Caller log now bytes ∷ before
pieces_at Second log now bytes before = piece_of Called log now bytes ∷ before
pieces_at Input log now bytes before = before
pieces_at Output log now bytes before = before
pieces_at Errors log now bytes before = before

-- the pieces in which it took what both sides sent
abbrev pub pieces_of : TapLog → List Event → List Piece
pieces_of log [] = []
pieces_of log (Gave q bytes ∷ h) = pieces_at q log (moment_of h) bytes (pieces_of log h)
pieces_of log (Took q bytes ∷ h) = pieces_of log h
pieces_of log (Told q what ∷ h) = pieces_of log h
pieces_of log (Shut q ∷ h) = pieces_of log h
pieces_of log (Left q ∷ h) = pieces_of log h
pieces_of log (Passed now ∷ h) = pieces_of log h
pieces_of log (Rested ∷ h) = pieces_of log h
pieces_of log (Stopped ∷ h) = pieces_of log h

-- all that is to be logged
abbrev pub log_of : TapLog → List Event → List ℕ
log_of log h = pieces_text log.notation log.max (pieces_of log h)

-- The lines that weren't written yet, of all that is to be logged; none after a failed allocation.
abbrev pub IsRest : Option TapFault → List ℕ → List ℕ → Type 0
IsRest (Some fault.Memory) rest text = text ≡ []
IsRest (Some (fault.Carrier why)) rest text = ⊥
IsRest (Some fault.Report) rest text = ⊥
IsRest (Some fault.Read) rest text = text ≡ rest
IsRest (Some fault.Write) rest text = text ≡ rest
IsRest None rest text = text ≡ rest

-- its end was reported
abbrev pub HasEnded : List News → Type 0
HasEnded [] = ⊥
HasEnded (news.Opened peer ∷ before) = HasEnded before
HasEnded (news.Reported event ∷ before) = HasEnded before
HasEnded (news.Refused why ∷ before) = HasEnded before
HasEnded (news.Ended why ∷ before) = ⊤
HasEnded (news.Broken why ∷ before) = HasEnded before

-- This may be the history of a tap, latest event first.
pub record Taps (t : TapView) (h : List Event) : Type 0 where
  pub moment : t.moment ≡ moment_of h
  pub caller : said Caller (pieces_of t.log h) ≡ used First h
  pub called : said Called (pieces_of t.log h) ≡ used Second h
  pub up : Forwards t.up (used First h) (taken Second h) (used_whole First h)
  pub down : Forwards t.down (used Second h) (taken First h) (used_whole Second h)
  pub caller_ended : t.up.ended ≡ true → HasEnded (told First h)
  pub called_ended : t.down.ended ≡ true → HasEnded (told Second h)
  pub written : t.written ≤ length (log_of t.log h)
  pub rest : IsRest t.fault (drop t.written (log_of t.log h)) t.text

-- ---- what passes through it

-- Of what came over both lines it took these pieces, and each was written to the other line, or
-- waits for that. If both sides have ended, none waits, and each had sent no more.
pub record PassesBetween (pieces : List Piece) (result : Result (Unit {0}) TapFault)
    (one two : Passage) : Type 0 where
  pub held : List ℕ
  pub held_back : List ℕ
  pub waiting : List ℕ
  pub waiting_back : List ℕ
  pub came : one.came ≡ said Caller pieces ++ held
  pub gone : said Caller pieces ≡ two.gone ++ waiting
  pub came_back : two.came ≡ said Called pieces ++ held_back
  pub gone_back : said Called pieces ≡ one.gone ++ waiting_back
  pub done : result ≡ Ok tt → (waiting ≡ []) × (waiting_back ≡ [])
      × (one.whole ≡ said Caller pieces) × (two.whole ≡ said Called pieces)
      × HasEnded one.said × HasEnded two.said
