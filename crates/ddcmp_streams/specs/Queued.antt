-- A queue as an output for text.
use Rattle.std.specs.Prelude.{ℕ, List, [], Some}
use Rattle.ddcmp_io.specs.Queue.{QueueView}
use Rattle.ddcmp_io.specs.Written.{Output}

-- a queue as an output for text, by way of a page
abbrev pub paged : QueueView → List ℕ → Output
paged q page = record { broken = q.is_cut; sink = Some q.waiting; waiting = page }

abbrev pub queued : QueueView → Output
queued q = paged q []
