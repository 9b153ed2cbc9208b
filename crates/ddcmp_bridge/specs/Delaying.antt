-- The frames that a bridge delays, and when it passes them on.
use Rattle.std.specs.Prelude.{◌≡◌, ◌⊎◌, ℕ, ◌+◌, ◌-◌, ◌^◌, List, [], ◌∷◌, ◌++◌, length, drop, min}
use Rattle.std.specs.Prelude.{Option, None, Some, if◌then◌else◌, nat_eq, nat_lt, nat_le}
use Rattle.rand_pcg.specs.Lcg.{Lcg}
use Rattle.ddcmp_bridge.specs.Relaying.{RelayView, Relays, IsOfOneFrame}

-- Delayed frames, in order: the moment at which each is due, and its bytes that weren't taken.
abbrev pub Frames : Type 0
Frames = List (ℕ × List ℕ)

-- their bytes, one after another
unfoldable pub bytes_of : Frames → List ℕ
bytes_of [] = []
bytes_of (frame ∷ rest) = frame.1 ++ bytes_of rest

-- the bytes that may be taken at a moment: those of the first frame, if it is due
abbrev pub due_at : ℕ → Frames → List ℕ
due_at now [] = []
due_at now (frame ∷ rest) = if nat_le frame.0 now then frame.1 else []

-- the moment at which the first frame is due
abbrev pub next_due : Frames → Option ℕ
next_due [] = None
next_due (frame ∷ rest) = Some frame.0

-- the frames after `n` bytes of the first were taken
abbrev pub without : ℕ → Frames → Frames
without n [] = []
without n (frame ∷ rest) = (frame.0, drop n frame.1) ∷ rest

-- how many bytes of the first frame are left
abbrev pub first_length : Frames → ℕ
first_length [] = 0
first_length (frame ∷ rest) = length frame.1

-- the frames after `n` bytes of the first were taken, which is removed if it has no more
abbrev pub after_taking : ℕ → Frames → Frames
after_taking n [] = []
after_taking n (frame ∷ rest) =
    if nat_lt n (length frame.1) then without n (frame ∷ rest) else rest

-- a delay line: the frames in it, and how many fit
pub record LineView : Type 0 where
  pub held : Frames
  pub limit : ℕ

-- A frame received at `now` is due `delay` later, or at the last moment that can be counted.
abbrev pub due_after : ℕ → ℕ → ℕ
due_after delay now = min (now + delay) (2 ^ 64 - 1)

-- how many frames fit; without a delay, just the one that is being passed on
abbrev pub limit_of : ℕ → ℕ
limit_of delay = if nat_eq delay 0 then 1 else 256

-- One direction: its relay, its delay in milliseconds, the delayed frames, and how many fit.
pub record DirectionView : Type 0 where
  pub relay : RelayView
  pub delay : ℕ
  pub held : Frames
  pub limit : ℕ

-- `came` was received by a direction whose generator began at `start`. Of the bytes that it passes
-- on, `taken` were taken; the others are held.
abbrev pub Directs : Lcg → DirectionView → List ℕ → List ℕ → Type 0
Directs start d came taken = Relays start d.relay came (taken ++ bytes_of d.held)

-- nothing was added to the held frames, or what is left of a frame received at this moment
abbrev pub HoldsOneMore : ℕ → DirectionView → DirectionView → Type 0
HoldsOneMore now old new =
    (new.held ≡ old.held)
    ⊎ ((frame : List ℕ) × IsOfOneFrame frame
    × (new.held ≡ old.held ++ (due_after old.delay now, frame) ∷ []))
