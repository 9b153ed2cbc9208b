-- The text of what some bytes of the line gave notice of.
use Rattle.std.proofs.Common.{◌≡◌, ◌∙◌, ap, sym, subst, refl, List, [], ◌∷◌, append-nil}
use Rattle.ddcmp_core.specs.declared.notice.Notice.{Notice}
use Rattle.ddcmp_streams.specs.declared.messages.MessageForm.{MessageForm}
use Rattle.ddcmp_io.specs.Queue.{QueueView}
use Rattle.ddcmp_session.specs.Text.{Wrote, notice_text, notices_text}
use Rattle.ddcmp_session.proofs.TextLaws.{nothing}

none : (form : MessageForm) → notices_text form [] ≡ []
unfolding notices_text
none form = refl

one : (form : MessageForm) (n : Notice) → notices_text form (n ∷ []) ≡ notice_text form n
unfolding notices_text
one form n = append-nil (notice_text form n)

pub wrote-none : (form : MessageForm) (notices : List Notice) (q : QueueView) → notices ≡ []
    → Wrote (notices_text form notices) q q
wrote-none form notices q is =
    subst (λ t. Wrote t q q) (sym (ap (notices_text form) is ∙ none form)) (nothing q)

pub wrote-one : (form : MessageForm) (notices : List Notice) (n : Notice) (old new : QueueView)
    → notices ≡ n ∷ [] → Wrote (notice_text form n) old new
    → Wrote (notices_text form notices) old new
wrote-one form notices n old new is wrote =
    subst (λ t. Wrote t old new) (sym (ap (notices_text form) is ∙ one form n)) wrote
