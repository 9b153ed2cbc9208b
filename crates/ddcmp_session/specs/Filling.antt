-- Frames that a session queues for its line.
use Rattle.std.specs.Prelude.{ℕ, if◌then◌else◌, ◌==◌, length}
use Rattle.ddcmp_station.specs.Linking.{LinkView, after_frame}
use Rattle.ddcmp_session.specs.Session.{SessionView, is_paused}

-- The next frame is queued if there is room for it, unless it carries a message that is held back.
abbrev pub after_filling : SessionView → LinkView
after_filling s = if is_paused s then s.link else after_frame s.link

-- how many frames are queued at most for a line of datagrams: one, once all before it was sent
abbrev pub most_datagrams : LinkView → ℕ
most_datagrams d = if length d.outbox.waiting == 0 then 1 else 0
