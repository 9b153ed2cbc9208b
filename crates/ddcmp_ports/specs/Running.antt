-- What passed at the ports, the history of a machine, and how both proceed together.
use Rattle.std.specs.Prelude.{◌≡◌, ◌≢◌, ◌⊎◌, ◌≤◌, ◌-◌, ◌==◌, ℕ, Bool, true, false, List, [], ◌∷◌, ◌++◌, take}
use Rattle.std.specs.Prelude.{Option, None, Some, if◌then◌else◌, ⊤}
use Rattle.ddcmp_ports.specs.declared.port.Port.{Port}
use Rattle.ddcmp_ports.specs.declared.port.Port.TheVariants.{Input, Output, Errors, First, Second}
use Rattle.ddcmp_ports.specs.declared.port.Need.{Need}
use Rattle.ddcmp_ports.specs.declared.port.Need.TheVariants as need
use Rattle.ddcmp_ports.specs.declared.port.News.{News}
use Rattle.ddcmp_ports.specs.declared.port.News.TheVariants as news
use Rattle.ddcmp_ports.specs.declared.port.Transfer.{Transfer}
use Rattle.ddcmp_ports.specs.declared.port.Transfer.TheVariants as transfer
use Rattle.ddcmp_ports.specs.declared.port.Opening.{Opening}
use Rattle.ddcmp_ports.specs.declared.port.Opening.TheVariants as opening

-- ---- ports

abbrev pub number : Port → ℕ
number Input = 0
number Output = 1
number Errors = 2
number First = 3
number Second = 4

abbrev pub same : Port → Port → Bool
same p q = number p == number q

-- ---- what a system reports of each port

-- The bytes that were read from it and written to it since it was opened last; those that had been
-- read when it ended; and what was reported of it, latest first.
pub record Passage : Type 0 where
  pub came : List ℕ
  pub gone : List ℕ
  pub whole : List ℕ
  pub said : List News

-- nothing has passed
abbrev pub no_passage : Passage
no_passage = record { came = []; gone = []; whole = []; said = [] }

-- None where nothing is known
abbrev pub Trace : Type 0
Trace = Port → Option Passage

-- what is left of earlier bytes: nothing once it is opened
abbrev pub fresh : News → List ℕ → List ℕ
fresh (news.Opened peer) bytes = []
fresh (news.Reported event) bytes = bytes
fresh (news.Refused why) bytes = bytes
fresh (news.Ended why) bytes = bytes
fresh (news.Broken why) bytes = bytes

-- what had been read when it ended: all that came until now, if it ends now
abbrev pub ended : News → List ℕ → List ℕ → List ℕ
ended (news.Opened peer) came whole = []
ended (news.Reported event) came whole = whole
ended (news.Refused why) came whole = whole
ended (news.Ended why) came whole = came
ended (news.Broken why) came whole = whole

abbrev pub after_news : News → Passage → Passage
after_news what t = record {
  came = fresh what t.came;
  gone = fresh what t.gone;
  whole = ended what t.came t.whole;
  said = what ∷ t.said;
}

abbrev pub after_read : Transfer → List ℕ → Passage → Passage
after_read (transfer.Bytes n) space t = record t { came = t.came ++ take n space }
after_read transfer.Nothing space t = t
after_read (transfer.Over why) space t = after_news (news.Ended why) t

abbrev pub after_written : Transfer → List ℕ → Passage → Passage
after_written (transfer.Bytes n) bytes t = record t { gone = t.gone ++ take n bytes }
after_written transfer.Nothing bytes t = t
after_written (transfer.Over why) bytes t = after_news (news.Broken why) t

abbrev pub after_opening : Opening → Passage → Passage
after_opening (opening.Done peer) t = after_news (news.Opened peer) t
after_opening (opening.Reported event) t = after_news (news.Reported event) t
after_opening opening.Later t = t
after_opening (opening.Failed why) t = after_news (news.Refused why) t

abbrev pub changed : Bool → (Passage → Passage) → Option Passage → Option Passage
changed false change t = t
changed true change None = None
changed true change (Some t) = Some (change t)

-- What is known of each port afterwards: of this one, a change of what was known of it; of others
-- the same.
abbrev pub Changes : Port → (Passage → Passage) → Trace → Trace → Type 0
Changes p change old new = (q : Port) → new q ≡ changed (same p q) change (old q)

abbrev pub Keeps : Trace → Trace → Type 0
Keeps old new = (q : Port) → new q ≡ old q

-- ---- whether the last call at a port could do nothing

pub record Stuck : Type 0 where
  pub read : Bool
  pub write : Bool
  pub opening : Bool

abbrev pub moves_nothing : Transfer → Bool
moves_nothing transfer.Nothing = true
moves_nothing _ = false

abbrev pub is_later : Opening → Bool
is_later opening.Later = true
is_later _ = false

abbrev pub at : Bool → (Stuck → Stuck) → Stuck → Stuck
at true change s = change s
at false change s = s

abbrev pub Sticks : Port → (Stuck → Stuck) → (Port → Stuck) → (Port → Stuck) → Type 0
Sticks p change old new = (q : Port) → new q ≡ at (same p q) change (old q)

-- ---- the history of a machine, latest first

pub data Event : Type 0 where
  -- it used these bytes
  Gave : (port : Port) (bytes : List ℕ) → Event
  -- these of its bytes were written
  Took : (port : Port) (bytes : List ℕ) → Event
  Told : (port : Port) (what : News) → Event
  Shut : (port : Port) → Event
  Left : (port : Port) → Event
  Passed : (now : ℕ) → Event
  Rested : Event
  Stopped : Event

abbrev pub used : Port → List Event → List ℕ
used p [] = []
used p (Gave q bytes ∷ h) = if same q p then used p h ++ bytes else used p h
used p (Took q bytes ∷ h) = used p h
used p (Told q what ∷ h) = if same q p then fresh what (used p h) else used p h
used p (Shut q ∷ h) = used p h
used p (Left q ∷ h) = used p h
used p (Passed now ∷ h) = used p h
used p (Rested ∷ h) = used p h
used p (Stopped ∷ h) = used p h

abbrev pub taken : Port → List Event → List ℕ
taken p [] = []
taken p (Gave q bytes ∷ h) = taken p h
taken p (Took q bytes ∷ h) = if same q p then taken p h ++ bytes else taken p h
taken p (Told q what ∷ h) = if same q p then fresh what (taken p h) else taken p h
taken p (Shut q ∷ h) = taken p h
taken p (Left q ∷ h) = taken p h
taken p (Passed now ∷ h) = taken p h
taken p (Rested ∷ h) = taken p h
taken p (Stopped ∷ h) = taken p h

-- the bytes that it had used when it was told that the port has ended
abbrev pub used_whole : Port → List Event → List ℕ
used_whole p [] = []
used_whole p (Gave q bytes ∷ h) = used_whole p h
used_whole p (Took q bytes ∷ h) = used_whole p h
used_whole p (Told q what ∷ h) =
    if same q p then ended what (used p h) (used_whole p h) else used_whole p h
used_whole p (Shut q ∷ h) = used_whole p h
used_whole p (Left q ∷ h) = used_whole p h
used_whole p (Passed now ∷ h) = used_whole p h
used_whole p (Rested ∷ h) = used_whole p h
used_whole p (Stopped ∷ h) = used_whole p h

abbrev pub told : Port → List Event → List News
told p [] = []
told p (Gave q bytes ∷ h) = told p h
told p (Took q bytes ∷ h) = told p h
told p (Told q what ∷ h) = if same q p then what ∷ told p h else told p h
told p (Shut q ∷ h) = told p h
told p (Left q ∷ h) = told p h
told p (Passed now ∷ h) = told p h
told p (Rested ∷ h) = told p h
told p (Stopped ∷ h) = told p h

-- ---- both together

-- At a port, the bytes read are those that the machine used and then those held; when it ended, the
-- machine had used all; the bytes written are those that it had pending, each once; and it was told
-- exactly what was reported.
pub record Agrees (h : List Event) (held : List ℕ) (p : Port) (t : Passage) : Type 0 where
  pub came : t.came ≡ used p h ++ held
  pub gone : t.gone ≡ taken p h
  pub whole : t.whole ≡ used_whole p h
  pub said : t.said ≡ told p h

abbrev pub Held : Type 0
Held = Port → List ℕ

abbrev pub AllAgree : List Event → Held → Trace → Type 0
AllAgree h held trace = (p : Port) (t : Passage) → trace p ≡ Some t → Agrees h (held p) p t

-- A machine that has this history, with what is held for it
-- and its devices, before and after: the history goes on and agrees again, what was known of a port
-- still is, and what it was asked for is the same.
pub record GoesOn {M A : Type 0} (has : M → List Event → Type 0) (asked : M → A)
    (m : M) (held : Held) (trace : Trace) (m' : M) (held' : Held) (trace' : Trace)
    : Type 0 where
  pub goes : (h : List Event) → has m h → AllAgree h held trace
      → (more : List Event) × has m' (more ++ h) × AllAgree (more ++ h) held' trace'
  pub known : (p : Port) (t : Passage) → trace p ≡ Some t
      → (t' : Passage) × (trace' p ≡ Some t')
  pub same : asked m' ≡ asked m

-- the machine's history grew by one event, and what it was asked for is the same
pub record Adds {M A : Type 0} (has : M → List Event → Type 0) (asked : M → A)
    (m : M) (event : Event) (m' : M) : Type 0 where
  pub history : (h : List Event) → has m h → has m' (event ∷ h)
  pub same : asked m' ≡ asked m

abbrev pub put : Port → List ℕ → Held → Held
put p bytes held q = if same p q then bytes else held q

-- ---- what may be told

-- that it was opened, or couldn't be, or how far that has come, only where this is needed
abbrev pub IsAwaited : Need → News → Type 0
IsAwaited needs (news.Opened peer) = needs ≡ need.Opening
IsAwaited needs (news.Reported event) = needs ≡ need.Opening
IsAwaited needs (news.Refused why) = needs ≡ need.Opening
IsAwaited needs (news.Ended why) = needs ≡ need.Bytes
IsAwaited needs (news.Broken why) = ⊤

-- ---- when it waits

-- Nothing can move at a port: no bytes are held that are wanted, and a read gives none; nothing is
-- pending, or a write takes nothing; it isn't to be opened, or that isn't possible yet; it isn't to
-- be shut or closed.
pub record RestsAt (needs : Need) (pends held : List ℕ) (stuck : Stuck) : Type 0 where
  pub used : needs ≡ need.Bytes → held ≡ []
  pub read : needs ≡ need.Bytes → stuck.read ≡ true
  pub written : (pends ≡ []) ⊎ (stuck.write ≡ true)
  pub opened : needs ≡ need.Opening → stuck.opening ≡ true
  pub shut : needs ≢ need.Shutting
  pub closed : needs ≢ need.Closing

abbrev pub Rests : (Port → Need) → (Port → List ℕ) → Held → (Port → Stuck) → Type 0
Rests needs pends held stuck = (p : Port) → RestsAt (needs p) (pends p) (held p) (stuck p)
