-- What the line of a session puts on standard error.
use Rattle.std.proofs.Common.{◌≡◌, ◌⊎◌, inl, inr, ◌∙◌, ap, sym, subst, refl, ℕ, List, [], ◌∷◌}
use Rattle.std.specs.Prelude.{◌==◌, Some, None}
use Rattle.ddcmp_core.specs.declared.notice.Notice.{Notice}
use Rattle.ddcmp_core.specs.declared.notice.Notice.TheVariants as notice
use Rattle.ddcmp_station.specs.StationText.{notice_line}
use Rattle.ddcmp_streams.specs.declared.errors.TheConstants.{SHORT_LINE}
use Rattle.ddcmp_streams.specs.declared.messages.MessageForm.{MessageForm}
use Rattle.ddcmp_streams.specs.declared.messages.MessageForm.TheVariants as form
use Rattle.ddcmp_streams.specs.Errors.{ErrorsView, HasLine}
use Rattle.ddcmp_session.specs.Logged.{HasLost, HasNotice, HasNotices, LogView, Traces}
use Rattle.ddcmp_session.specs.Text.{dropped_by, lost_line}
use Rattle.ddcmp_streams.specs.Trace.{TraceView}
use Rattle.ddcmp_streams.proofs.ErrorsLaws.{if-room}

-- ---- a trace

pub traces-some : (goes : TraceView → TraceView → ErrorsView → ErrorsView → Type 0)
    (before after : TraceView) (old : LogView) (errors : ErrorsView)
    → old.trace ≡ Some before → goes before after old.errors errors
    → Traces goes old.trace old (record old { errors = errors; trace = Some after })
traces-some goes before after old errors is went =
    subst (λ t. Traces goes t old (record old { errors = errors; trace = Some after })) (sym is)
    (after, went, refl)

pub traces-none : (goes : TraceView → TraceView → ErrorsView → ErrorsView → Type 0)
    (old new : LogView) → old.trace ≡ None → new ≡ old → Traces goes old.trace old new
traces-none goes old new is same = subst (λ t. Traces goes t old new) (sym is) same

-- ---- notices

-- the line of a notice alone
abbrev pub HasNoticeLine : MessageForm → Notice → ErrorsView → ErrorsView → Type 0
HasNoticeLine form.Digits n old new = new ≡ old
HasNoticeLine form.Binary n old new = HasLine SHORT_LINE (notice_line [] n) old new
HasNoticeLine form.Events n old new = new ≡ old
HasNoticeLine form.EventLines n old new = new ≡ old

pub lost-none : (by : MessageForm) (count : ℕ) (e : ErrorsView) → count ≡ 0 → HasLost by count e e
lost-none form.Digits count e is = refl
lost-none form.Binary count e is =
    if-room (count == 0) (e ≡ e) (HasLine SHORT_LINE (lost_line count) e e) (ap (λ n. n == 0) is)
    refl
lost-none form.Events count e is = refl
lost-none form.EventLines count e is = refl

pub noticed : (by : MessageForm) (n : Notice) (old mid new : ErrorsView)
    → HasNoticeLine by n old mid
    → HasLost by (dropped_by n) mid new → HasNotice by n old new
noticed form.Digits n old mid new line lost = lost ∙ line
noticed form.Binary n old mid new line lost = (mid, line, lost)
noticed form.Events n old mid new line lost = lost ∙ line
noticed form.EventLines n old mid new line lost = lost ∙ line

-- what isn't a restart drops nothing
pub drops-none : (n : Notice) → ((count : ℕ) → n ≡ notice.Restarted count → ⊥)
    → dropped_by n ≡ 0
drops-none notice.Running never = refl
drops-none notice.RunningAndHandedUp never = refl
drops-none (notice.Acknowledged count) never = refl
drops-none notice.HandedUp never = refl
drops-none (notice.HandedUpAndAcknowledged count) never = refl
drops-none notice.PeerStarts never = refl
drops-none notice.PeerRestarted never = refl
drops-none (notice.Restarted count) never = absurd (never count refl)
drops-none notice.MaintenanceSeen never = refl
drops-none notice.MaintenanceHandedUp never = refl
drops-none notice.MaintenanceDropped never = refl

pub noticed-alone : (by : MessageForm) (n : Notice) (old new : ErrorsView) → dropped_by n ≡ 0
    → HasNoticeLine by n old new → HasNotice by n old new
noticed-alone by n old new is line =
    noticed by n old new new line (lost-none by (dropped_by n) new is)

pub line-in-lines : (by of : MessageForm) (n : Notice) (old new : ErrorsView) → by ≡ of
    → (of ≡ form.Digits) ⊎ (of ≡ form.EventLines) → new ≡ old → HasNoticeLine by n old new
line-in-lines by of n old new is (inl digits) same =
    subst (λ f. HasNoticeLine f n old new) (sym (is ∙ digits)) same
line-in-lines by of n old new is (inr lines) same =
    subst (λ f. HasNoticeLine f n old new) (sym (is ∙ lines)) same

pub line-in-events : (by : MessageForm) (n : Notice) (old new : ErrorsView) → by ≡ form.Events
    → new ≡ old → HasNoticeLine by n old new
line-in-events by n old new is same =
    subst (λ f. HasNoticeLine f n old new) (sym is) same

pub line-in-binary : (by : MessageForm) (n : Notice) (old mid new : ErrorsView) → by ≡ form.Binary
    → new ≡ mid → HasLine SHORT_LINE (notice_line [] n) old mid → HasNoticeLine by n old new
line-in-binary by n old mid new is same line =
    subst (λ f. HasNoticeLine f n old new) (sym is)
    (subst (λ e. HasLine SHORT_LINE (notice_line [] n) old e) (sym same) line)

-- what a restart dropped was reported after its line
pub noticed-loss : (by other : MessageForm) (n : Notice) (count : ℕ) (old mid new : ErrorsView)
    → other ≡ by → n ≡ notice.Restarted count → HasNoticeLine by n old mid
    → HasLost other count mid new → HasNotice by n old new
noticed-loss by other n count old mid new same is line lost =
    noticed by n old mid new line
    (subst (λ k. HasLost by k mid new) (sym (ap dropped_by is))
    (subst (λ f. HasLost f count mid new) same lost))

pub notices-none : (by : MessageForm) (notices : List Notice) (e : ErrorsView) → notices ≡ []
    → HasNotices by notices e e
notices-none by notices e is = subst (λ ns. HasNotices by ns e e) (sym is) refl

pub notices-one : (by : MessageForm) (notices : List Notice) (n : Notice) (old new : ErrorsView)
    → notices ≡ n ∷ [] → HasNotice by n old new → HasNotices by notices old new
notices-one by notices n old new is noticed =
    subst (λ ns. HasNotices by ns old new) (sym is) (new, noticed, refl)
