-- A queue of bytes as its users see it.
use Rattle.std.specs.Prelude.{ℕ, ◌+◌, ◌-◌, ◌/◌, Bool, false, ◌==◌, nat_le, nat_lt}
use Rattle.std.specs.Prelude.{if◌then◌else◌, List, [], ◌++◌, length, take, drop}

-- How many bytes fit into the empty queue, the queued bytes, how many more fit, and whether some
-- text was dropped for lack of room.
pub record QueueView : Type 0 where
  pub size : ℕ
  pub waiting : List ℕ
  pub room : ℕ
  pub is_cut : Bool

abbrev pub no_bytes : ℕ → QueueView
no_bytes size = record { size = size; waiting = []; room = size; is_cut = false }

abbrev pub after_pushed : List ℕ → QueueView → QueueView
after_pushed bytes q =
    record q { waiting = q.waiting ++ bytes; room = q.room - length bytes }

-- an empty queue, with all of its room
abbrev pub cleared : QueueView → QueueView
cleared q = record q { waiting = []; room = q.size }

abbrev pub after_taken : ℕ → QueueView → QueueView
after_taken n q = record q {
  waiting = drop n q.waiting;
  room = if n == length q.waiting then q.size else q.room;
}

abbrev pub after_taken_back : ℕ → QueueView → QueueView
after_taken_back n q = record q {
  waiting = take (length q.waiting - n) q.waiting;
  room = if nat_le (length q.waiting) n then q.size else q.room + n;
}

-- If the bytes that were taken are half of the size or more, their room is reused.
abbrev pub room_settled : QueueView → ℕ
room_settled q =
    if nat_lt (q.size - (q.room + length q.waiting)) (q.size / 2) then q.room
    else q.size - length q.waiting
