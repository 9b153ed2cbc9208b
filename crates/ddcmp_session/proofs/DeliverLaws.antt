-- The text of a received message that was queued.
use Rattle.std.proofs.Common.{◌≡◌, ap, subst, ◌∙◌, ℕ, List, ◌++◌, length, take, drop, ◌≤◌}
use Rattle.std.proofs.Common.{Some, arith}
use Rattle.std.proofs.Math.Seq.{take-append_seam}
use Rattle.ddcmp_window.specs.Store.{with_front}
use Rattle.ddcmp_streams.specs.declared.messages.MessageForm.{MessageForm}
use Rattle.ddcmp_io.specs.Queue.{QueueView}
use Rattle.ddcmp_session.specs.Text.{Puts, Wrote, mail_text}
use Rattle.ddcmp_session.proofs.TextLaws.{writes}

-- the first bytes of a slice that it was put at the front of
front-is : (message : List ℕ) (n : ℕ) (old new : List ℕ) → n ≡ length message
    → new ≡ with_front (Some message) old → take n new ≡ message
front-is message n old new is put =
    ap (λ k. take k new) is ∙ ap (take (length message)) put
    ∙ take-append_seam message (drop (length message) old)

-- The text of what was copied there.
pub queues : (form : MessageForm) (message : List ℕ) (n : ℕ) (mail out : List ℕ)
    (old new : QueueView) → n ≡ length message → out ≡ with_front (Some message) mail
    → length (mail_text form (take n out)) ≤ old.room
    → Puts (mail_text form (take n out)) old new → Wrote (mail_text form message) old new
queues form message n mail out old new is put fits puts =
    subst (λ m. Wrote (mail_text form m) old new) (front-is message n mail out is put)
    (writes (mail_text form (take n out)) old new fits puts)

-- a text that was written once room was made
pub writes-settled : (text : List ℕ) (old settled new : QueueView)
    → settled.waiting ≡ old.waiting → old.room ≤ settled.room → settled.size ≡ old.size
    → settled.is_cut ≡ old.is_cut → Wrote text settled new → Wrote text old new
writes-settled text old settled new same more size cut w = record {
  waiting = w.waiting ∙ ap (λ q. q ++ text) same;
  room = omega (arith, w.room, more);
  size = w.size ∙ size;
  is_cut = w.is_cut ∙ cut;
}
