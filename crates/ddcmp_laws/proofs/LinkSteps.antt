-- The calls of a session are calls of its link, and the histories of both keep together.
use Rattle.std.proofs.Common.{◌≡◌, ℕ, Bool, true, false, cond, List, [], ◌∷◌}
use Rattle.std.proofs.Common.{◌++◌, map, take, refl, sym, ◌∙◌, ap}
use Rattle.std.proofs.Common.{append-nil, length, nat_le, option_to_list, subst}
use Rattle.std.specs.Prelude.{◌||◌}
use Rattle.ddcmp_frame.specs.Reader.{ReaderView}
use Rattle.ddcmp_core.specs.Core.{CoreView}
use Rattle.ddcmp_input.specs.declared.entry.Entry.{Entry}
use Rattle.ddcmp_input.specs.HexLines as hex
use Rattle.ddcmp_input.specs.InBinary as binary
use Rattle.ddcmp_input.specs.InBinary.{Fits}
use Rattle.ddcmp_input.specs.InLines as lines
use Rattle.ddcmp_input.specs.Lengths as lengths
use Rattle.ddcmp_proto.specs.Bytes.{notices_of_piece}
use Rattle.ddcmp_station.specs.Linking.{LinkView}
use Rattle.ddcmp_station.specs.Linking.{after_frames, after_wake, after_sent}
use Rattle.ddcmp_station.specs.Linking.{anew}
use Rattle.ddcmp_streams.specs.declared.messages.MessageForm.{MessageForm}
use Rattle.ddcmp_streams.specs.declared.messages.MessageForm.TheVariants as form
use Rattle.ddcmp_streams.specs.declared.messages.Messages.{Messages}
use Rattle.ddcmp_streams.specs.Messages.{messages_begun, message_in, after_input, entries_of_input}
use Rattle.ddcmp_streams.specs.Messages.{after_last, entry_of_last, has_events}
use Rattle.ddcmp_streams.specs.Options.{takes_at_once}
use Rattle.ddcmp_session.specs.Session.{SessionView, after_output, after_takes, form_of, link_begun}
use Rattle.ddcmp_session.specs.Session.{next_mail, taken_at_once, taken_when_written, takes_end}
use Rattle.ddcmp_session.specs.Session.{after_last_line, after_unfinished, after_input_end}
use Rattle.ddcmp_session.specs.declared.course.Course.{Course}
use Rattle.ddcmp_io.specs.declared.line_kind.LineKind.{LineKind}
use Rattle.ddcmp_streams.specs.declared.options.Options.{Options}
use Rattle.ddcmp_session.specs.Course.{after_connecting, lost_more}
use Rattle.ddcmp_session.specs.Session.{lost_by_end, after_timeout, after_connected, anew_in}
use Rattle.ddcmp_session.specs.Session.{after_connecting_in, lost_by_start, starts}
use Rattle.ddcmp_session.specs.Text.{reported_end, reported_lost, mail_text, notices_text}
use Rattle.ddcmp_laws.specs.Links.{LinkCall, BeginsAnew, Halts, Wakes, IsSent, Feeds}
use Rattle.ddcmp_laws.specs.Links.{HasDone, HasFed, new_history}
use Rattle.ddcmp_laws.specs.Links.{after_step, after_history}
use Rattle.ddcmp_laws.specs.Links.{offered_in}
use Rattle.ddcmp_session.specs.Calls.{SessionCall, InputRead, InputEnded, Connected, LineEnded}
use Rattle.ddcmp_session.specs.Calls.{Received, Filled, LineTook, TimedOut, TimePassed, Delivered}
use Rattle.ddcmp_session.specs.Calls.{OutputTook}
use Rattle.ddcmp_session.specs.Calls.{Closed, HasReceived, HasDelivered, HasLeft, HasClosed}
use Rattle.ddcmp_session.specs.Calls.{SessionDoes, Shown, Mail, Reports, SessionHistory}
use Rattle.ddcmp_session.specs.Calls.{new_session, SessionStep, end_in, ends, losses}
use Rattle.ddcmp_session.specs.declared.line_end.LineEnd.{LineEnd}
use Rattle.ddcmp_laws.specs.Sessions.{IsPlain, messages_of, got_in, mail_in, texts_of, link_step}
use Rattle.ddcmp_laws.specs.Sessions.{offers_of, frames_put, takes_put}
use Rattle.ddcmp_laws.proofs.Texts.{mail_more, no_mail, mail_is, nothing_lost, notices_are}
use Rattle.ddcmp_laws.proofs.Texts.{end_text_is, mail_text_is, lost_text_is, no_mail_ends, no_text}
use Rattle.ddcmp_laws.proofs.Texts.{IsText, took, writes}
use Rattle.ddcmp_laws.proofs.Limits.{fed_longest, frames_longest, longest_of, wake_longest}
use Rattle.ddcmp_laws.proofs.Holding.{Holds, Leads, StepLeads, frames_done, frames_offer_none}
use Rattle.ddcmp_laws.proofs.Holding.{holds_on, link_history, no_call, no_input, no_offer, one_call}
use Rattle.ddcmp_laws.proofs.Holding.{parts, quiet_mail, session_parts, takes_done, takes_inbox}
use Rattle.ddcmp_laws.proofs.Holding.{takes_longest, takes_offer_none, text_on}
use Rattle.ddcmp_laws.proofs.Inboxes.{Adds, adds-piece, adds-same, anew-inbox, frames-inbox}
use Rattle.ddcmp_laws.proofs.Inboxes.{inbox_in, woken-inbox}
use Rattle.ddcmp_laws.proofs.Queues.{IsKept, IsTaken, queued_kept, queues-none, taken_kept}
use Rattle.ddcmp_laws.proofs.Queues.{taken_next, taken_of, taken_written}
use Rattle.ddcmp_laws.proofs.Inputs.{no-false}
use Rattle.ddcmp_laws.proofs.Reading.{HasRead, ended_reads, offered_is, read_holds, read_leads}
use Rattle.ddcmp_laws.proofs.Reading.{reading_input}

-- ---- each call

kept_by : (old new : SessionView) (before after : List Shown) → new.unwritten ≡ old.unwritten
    → Adds (inbox_in old.link) (inbox_in new.link) → mail_in after ≡ mail_in before
    → IsKept old before new after
kept_by old new before after left inbox mail =
    record { left = left; inbox = inbox; mail = mail }

-- by a call of the link alone
pub kept_link : (old new : SessionView) (shown : List Shown) (d : LinkView)
    → new ≡ record old { link = d } → Adds (inbox_in old.link) (inbox_in d)
    → IsKept old shown new (shown ++ [])
kept_link old new shown d is adds =
    kept_by old new shown (shown ++ []) (ap (λ (x : SessionView). x.unwritten) is)
    (subst (λ (l : LinkView). Adds (inbox_in old.link) (inbox_in l))
    (sym (ap (λ (x : SessionView). x.link) is)) adds)
    (quiet_mail shown)

pub same_inbox : (old new : LinkView) → inbox_in new ≡ inbox_in old
    → Adds (inbox_in old) (inbox_in new)
same_inbox old new same = adds-same (inbox_in old) (inbox_in new) same

pub read_step : {told : Bool} (f : MessageForm) (max : ℕ) (h : SessionHistory) (used : List ℕ)
    (es : List Entry) (message : List ℕ) (new : SessionView) (k : ℕ) → Holds f max h
    → HasRead f max h used es message new
    → Leads (offers_of es message new.link) (link_history f max h k) f max
    (session_parts told new (h.used ++ []) (h.gone ++ []) (h.input ++ used) (h.written ++ [])
    (h.shown ++ []))
    × Holds f max
    (session_parts told new (h.used ++ []) (h.gone ++ []) (h.input ++ used) (h.written ++ [])
    (h.shown ++ []))
    × (messages_of f max (h.input ++ used)
    ≡ messages_of f max h.input ++ offered_in (offers_of es message new.link))
read_step {told} f max h used es message new k holds r = (
  read_leads f max h used es message new k holds r,
  read_holds f max h used es message new holds r,
  r.more ∙ ap (λ ms. messages_of f max h.input ++ ms) (sym (offered_is es message new.link)),
)

pub ended_step : (f : MessageForm) (max : ℕ) (h : SessionHistory) (new : SessionView) (k : ℕ)
    → Holds f max h
    → new ≡ after_input_end h.session
    → StepLeads f max (record { call = InputEnded; session = new }) h k
unfolding offered_in
ended_step f max h new k holds e = by (takes_end h.session) refl e
  where
    m : Messages
    m = h.session.messages

    kept : new ≡ h.session → IsKept h.session h.shown new (h.shown ++ [])
    kept is =
        kept_by h.session new h.shown (h.shown ++ []) (ap (λ (x : SessionView). x.unwritten) is)
        (adds-same (inbox_in h.session.link) (inbox_in new.link)
        (ap (λ (x : SessionView). inbox_in x.link) is))
        (quiet_mail h.shown)

    by : (w : Bool) → takes_end h.session ≡ w
        → new ≡ cond w (after_unfinished (after_last_line h.session)) h.session
        → Leads
        (cond w
        (offers_of (option_to_list (entry_of_last h.session.messages))
        (message_in (after_last h.session.messages)) new.link) []) (link_history f max h k) f max
        (session_parts (w || h.is_told) new (h.used ++ []) (h.gone ++ [])
        (h.input ++ cond w (end_in (form_of h.session.messages)) []) (h.written ++ [])
        (h.shown ++ []))
        × Holds f max
        (session_parts (w || h.is_told) new (h.used ++ []) (h.gone ++ [])
        (h.input ++ cond w (end_in (form_of h.session.messages)) []) (h.written ++ [])
        (h.shown ++ []))
        × (messages_of f max (h.input ++ cond w (end_in (form_of h.session.messages)) [])
        ≡ messages_of f max h.input
        ++ offered_in
        (cond w
        (offers_of (option_to_list (entry_of_last h.session.messages))
        (message_in (after_last h.session.messages)) new.link) []))
    by true wants is =
        read_step f max h (end_in (form_of h.session.messages))
        (option_to_list (entry_of_last h.session.messages))
        (message_in (after_last h.session.messages)) new k holds
        (ended_reads f max h new holds wants is)
    by false wants is = (
      no_call f max h new k (h.written ++ []) (h.shown ++ []) (ap (λ (x : SessionView). x.link) is)
          (kept is),
      holds_on f max h new (h.used ++ []) (h.gone ++ []) (h.written ++ []) (h.shown ++ []) holds
          (ap (λ (x : SessionView). x.messages) is) (ap (λ (x : SessionView). x.is_read) is)
          (ap (λ (x : SessionView). longest_of x.link) is)
          (text_on f max h new holds (ap (λ (x : SessionView). x.output) is))
          (ap (λ (x : SessionView). x.options.maintenance) is)
          (queued_kept h.session new h.shown (h.shown ++ []) (kept is) holds.queued),
      no_offer f max h.input [] refl,
    )

-- a call of the link that leaves all but the link
pub link_only : {told : Bool} (f : MessageForm) (max : ℕ) (h : SessionHistory) (new : SessionView)
    (used gone : List ℕ) → Holds f max h → new ≡ record h.session { link = new.link }
    → longest_of new.link ≡ longest_of h.session.link
    → IsKept h.session h.shown new (h.shown ++ [])
    → Holds f max
    (session_parts told new used gone (h.input ++ []) (h.written ++ []) (h.shown ++ []))
link_only {told} f max h new used gone k is longest kept =
    holds_on f max h new used gone (h.written ++ []) (h.shown ++ []) k
    (ap (λ (x : SessionView). x.messages) is) (ap (λ (x : SessionView). x.is_read) is) longest
    (text_on f max h new k (ap (λ (x : SessionView). x.output) is))
    (ap (λ (x : SessionView). x.options.maintenance) is)
    (queued_kept h.session new h.shown (h.shown ++ []) kept k.queued)

pub same_link : (old new : SessionView) (d : LinkView) → new ≡ record old { link = d }
    → new ≡ record old { link = new.link }
same_link old new d e =
    e ∙ ap (λ x. record old { link = x }) (sym (ap (λ (x : SessionView). x.link) e))

-- a call of the link and no text
pub link_step_leads : {told : Bool} (f : MessageForm) (max : ℕ) (h : SessionHistory)
    (new : SessionView)
    (k : ℕ) (call : LinkCall) (used gone : List ℕ) (d : LinkView) → Holds f max h
    → new ≡ record h.session { link = d } → HasDone call h.used h.session.link new.link
    → longest_of d ≡ longest_of h.session.link → Adds (inbox_in h.session.link) (inbox_in d)
    → after_history (link_step call new.link ∷ []) (link_history f max h k)
    ≡ parts new.link used gone (messages_of f max h.input ++ []) (taken_of h.session h.shown ++ [])
    (after_step (link_step call new.link) (link_history f max h k)).acknowledged
    → offered_in (link_step call new.link ∷ []) ≡ []
    → Leads (link_step call new.link ∷ []) (link_history f max h k) f max
    (session_parts told new used gone (h.input ++ []) (h.written ++ []) (h.shown ++ []))
    × Holds f max
    (session_parts told new used gone (h.input ++ []) (h.written ++ []) (h.shown ++ []))
    × (messages_of f max (h.input ++ [])
    ≡ messages_of f max h.input ++ offered_in (link_step call new.link ∷ []))
link_step_leads {told} f max h new k call used gone d holds is done longest adds after quiet = (
  one_call f max h new k call used gone (h.written ++ []) (h.shown ++ []) done after
      (kept_link h.session new h.shown d is adds),
  link_only f max h new used gone holds (same_link h.session new d is)
      (ap (λ (x : SessionView). longest_of x.link) is ∙ longest)
      (kept_link h.session new h.shown d is adds),
  no_offer f max h.input (link_step call new.link ∷ []) quiet,
)

pub filled_step : (f : MessageForm) (max : ℕ) (h : SessionHistory) (new : SessionView)
    (k frames : ℕ)
    → Holds f max h → new ≡ record h.session { link = after_frames frames h.session.link }
    → StepLeads f max (record { call = Filled frames; session = new }) h k
filled_step f max h new k frames holds is =
    let r = frames_done frames (link_history f max h k) in
    let kept =
    kept_link h.session new h.shown (after_frames frames h.session.link) is
    (same_inbox h.session.link (after_frames frames h.session.link)
    (frames-inbox frames h.session.link)) in (
      (
        r.0,
        (
          k,
          r.1
              ∙ (λ i. parts (sym (ap (λ (x : SessionView). x.link) is) i)
              (sym (append-nil h.used) i) (sym (append-nil h.gone) i)
              (sym (no_input f max h.input) i)
              (sym (taken_kept h.session new h.shown (h.shown ++ []) kept) i) k),
        ),
      ),
      link_only f max h new (h.used ++ []) (h.gone ++ []) holds
          (same_link h.session new (after_frames frames h.session.link) is)
          (ap (λ (x : SessionView). longest_of x.link) is ∙ frames_longest frames h.session.link)
          kept,
      no_offer f max h.input (frames_put frames h.session.link)
          (frames_offer_none frames h.session.link),
    )

-- what a session received, its link was fed
fed_of : (text used : List ℕ) (old new : SessionView) → HasReceived text used old new
    → HasFed text used old.link new.link
fed_of text used old new r = record { core = r.core; syn = r.syn; stays = r.link }

pub received_step : (f : MessageForm) (max : ℕ) (h : SessionHistory) (new : SessionView) (k : ℕ)
    (used : List ℕ) → Holds f max h → HasReceived h.used used h.session new
    → StepLeads f max (record { call = Received used; session = new }) h k
unfolding after_history offered_in
received_step f max h new k used holds r =
    let notices = notices_of_piece h.used used h.session.link.station.core in
    let shown = h.shown ++ map Reports notices in
    let mail : mail_in shown ≡ mail_in h.shown =
    mail_more h.shown (map Reports notices) ∙ ap (λ ms. mail_in h.shown ++ ms) (no_mail notices)
    ∙ append-nil (mail_in h.shown) in
    let kept =
    kept_by h.session new h.shown shown (ap (λ (x : SessionView). x.unwritten) r.stays)
    (subst (λ (c : CoreView). Adds (inbox_in h.session.link) c.station.inbox) (sym r.core)
    (adds-piece h.used used h.session.link.station.core)) mail in (
      one_call f max h new k (Feeds used) (h.used ++ used) (h.gone ++ []) (h.written ++ []) shown
          (fed_of h.used used h.session new r) refl kept,
      holds_on f max h new (h.used ++ used) (h.gone ++ []) (h.written ++ []) shown holds
          (ap (λ (x : SessionView). x.messages) r.stays) (ap (λ (x : SessionView). x.is_read)
          r.stays)
          (fed_longest h.used used h.session.link new.link (fed_of h.used used h.session new r))
          (writes f h.written h.shown (map Reports notices) h.session.output new.output
          (notices_text (form_of h.session.messages) notices) holds.text r.wrote
          (ap (λ g. notices_text g notices) holds.kind ∙ notices_are f notices))
          (ap (λ (x : SessionView). x.options.maintenance) r.stays)
          (queued_kept h.session new h.shown shown kept holds.queued),
      no_offer f max h.input (link_step (Feeds used) new.link ∷ []) refl,
    )

-- this many messages are taken
taken_leads : (f : MessageForm) (max : ℕ) (h : SessionHistory) (new : SessionView) (k n : ℕ)
    (written : List ℕ) (shown : List Shown) → new.link ≡ after_takes n h.session.link
    → IsTaken n h.session h.shown new shown
    → Leads (takes_put n h.session.link) (link_history f max h k) f max
    (session_parts false new (h.used ++ []) (h.gone ++ []) (h.input ++ []) written shown)
taken_leads f max h new k n written shown link taken =
    let r = takes_done n (link_history f max h k) in (
      r.0,
      (
        k,
        r.1
            ∙ (λ i. parts (sym link i) (sym (append-nil h.used) i) (sym (append-nil h.gone) i)
            (sym (no_input f max h.input) i) (sym taken.taken i) k),
      ),
    )

pub delivered_step : (f : MessageForm) (max : ℕ) (h : SessionHistory) (new : SessionView) (k : ℕ)
    → Holds f max h → HasDelivered h.session new
    → StepLeads f max (record { call = Delivered true; session = new }) h k
unfolding after_history offered_in
delivered_step f max h new k holds r =
    let first = next_mail h.session in
    let n = taken_at_once h.session in
    let messages = option_to_list first in
    let shown = h.shown ++ map Mail messages in
    let mail : mail_in shown ≡ mail_in h.shown ++ r.wrote.0 ∷ [] =
    mail_more h.shown (map Mail messages) ∙ ap (λ ms. mail_in h.shown ++ ms) (mail_is messages)
    ∙ ap (λ o. mail_in h.shown ++ option_to_list o) r.wrote.1 in
    let link = ap (λ (x : SessionView). x.link) r.stays in
    let taken =
    taken_next (takes_at_once h.session.options) h.session new h.shown shown r.wrote.0
    holds.queued r.wrote.1 mail (ap (λ (x : SessionView). x.unwritten) r.stays)
    (ap inbox_in link ∙ takes_inbox n h.session.link) in (
      taken_leads f max h new k n (h.written ++ []) shown link taken,
      holds_on f max h new (h.used ++ []) (h.gone ++ []) (h.written ++ []) shown holds
          (ap (λ (x : SessionView). x.messages) r.stays) (ap (λ (x : SessionView). x.is_read)
          r.stays)
          (ap longest_of link ∙ takes_longest n h.session.link)
          (writes f h.written h.shown (map Mail messages) h.session.output new.output
          (mail_text (form_of h.session.messages) r.wrote.0) holds.text r.wrote.2
          (ap (λ g. mail_text g r.wrote.0) holds.kind ∙ mail_text_is f first r.wrote.0 r.wrote.1))
          (ap (λ (x : SessionView). x.options.maintenance) r.stays) taken.queued,
      no_offer f max h.input (takes_put n h.session.link) (takes_offer_none n h.session.link),
    )

pub written_step : (f : MessageForm) (max : ℕ) (h : SessionHistory) (new : SessionView) (k m : ℕ)
    → Holds f max h → new ≡ after_output m h.session
    → StepLeads f max (record { call = OutputTook m; session = new }) h k
unfolding after_history offered_in
written_step f max h new k m holds is =
    let n = taken_when_written m h.session in
    let shown = h.shown ++ [] in
    let written = h.written ++ take m h.session.output.waiting in
    let link = ap (λ (x : SessionView). x.link) is in
    let taken =
    taken_written (nat_le (length h.session.output.waiting) m) h.session new h.shown shown
    holds.queued (quiet_mail h.shown) (ap (λ (x : SessionView). x.unwritten) is)
    (ap inbox_in link ∙ takes_inbox n h.session.link) in (
      taken_leads f max h new k n written shown link taken,
      holds_on f max h new (h.used ++ []) (h.gone ++ []) written shown holds
          (ap (λ (x : SessionView). x.messages) is) (ap (λ (x : SessionView). x.is_read) is)
          (ap longest_of link ∙ takes_longest n h.session.link)
          (took f h.written m h.shown h.session.output new.output holds.text
          (ap (λ (x : SessionView). x.output.waiting) is))
          (ap (λ (x : SessionView). x.options.maintenance) is) taken.queued,
      no_offer f max h.input (takes_put n h.session.link) (takes_offer_none n h.session.link),
    )

-- a call that leaves the link
pub output_step : {told : Bool} (f : MessageForm) (max : ℕ) (h : SessionHistory) (new : SessionView)
    (k : ℕ) (written : List ℕ) (shown : List Shown) → Holds f max h
    → new ≡ record h.session { output = new.output } → mail_in shown ≡ mail_in h.shown
    → IsText f written new.output shown
    → Leads [] (link_history f max h k) f max
    (session_parts told new (h.used ++ []) (h.gone ++ []) (h.input ++ []) written shown)
    × Holds f max
    (session_parts told new (h.used ++ []) (h.gone ++ []) (h.input ++ []) written shown)
    × (messages_of f max (h.input ++ []) ≡ messages_of f max h.input ++ offered_in [])
unfolding offered_in
output_step {told} f max h new k written shown holds is mail text =
    let link = ap (λ (x : SessionView). x.link) is in
    let kept =
    kept_by h.session new h.shown shown (ap (λ (x : SessionView). x.unwritten) is)
    (same_inbox h.session.link new.link (ap inbox_in link)) mail in (
      no_call f max h new k written shown link kept,
      holds_on f max h new (h.used ++ []) (h.gone ++ []) written shown holds
          (ap (λ (x : SessionView). x.messages) is) (ap (λ (x : SessionView). x.is_read) is)
          (ap longest_of link) text (ap (λ (x : SessionView). x.options.maintenance) is)
          (queued_kept h.session new h.shown shown kept holds.queued),
      no_offer f max h.input [] refl,
    )

pub left_step : (f : MessageForm) (max : ℕ) (h : SessionHistory) (how : LineEnd) (r : Bool)
    (new : SessionView) (k : ℕ) → Holds f max h → HasLeft how r h.session new
    → StepLeads f max (record { call = LineEnded how r; session = new }) h k
unfolding after_history offered_in
left_step f max h how r new k holds d =
    let count = lost_by_end h.session in
    let lost = ends how r h.session in
    let shown = h.shown ++ lost in
    let mail : mail_in shown ≡ mail_in h.shown =
    mail_more h.shown lost ∙ ap (λ ms. mail_in h.shown ++ ms) (no_mail_ends how r h.session)
    ∙ append-nil (mail_in h.shown) in
    let kept =
    kept_by h.session new h.shown shown (ap (λ (x : SessionView). x.unwritten) d.stays)
    (same_inbox h.session.link new.link (ap inbox_in d.link)) mail in (
      one_call f max h new k Halts (h.used ++ []) (h.gone ++ []) (h.written ++ []) shown d.link
          refl kept,
      holds_on f max h new (h.used ++ []) (h.gone ++ []) (h.written ++ []) shown holds
          (ap (λ (x : SessionView). x.messages) d.stays) (ap (λ (x : SessionView). x.is_read)
          d.stays)
          (ap longest_of d.link)
          (writes f h.written h.shown lost h.session.output new.output
          (reported_end r (form_of h.session.messages) how count) holds.text d.wrote
          (ap (λ g. reported_end r g how count) holds.kind ∙ end_text_is how r f h.session))
          (ap (λ (x : SessionView). x.options.maintenance) d.stays)
          (queued_kept h.session new h.shown shown kept holds.queued),
      no_offer f max h.input (link_step Halts new.link ∷ []) refl,
    )

pub closed_step : (f : MessageForm) (max : ℕ) (h : SessionHistory) (left : List ℕ) (over r : Bool)
    (new : SessionView) (k : ℕ) → Holds f max h → HasClosed left over r h.session new
    → StepLeads f max (record { call = Closed left over r; session = new }) h k
unfolding after_history offered_in
closed_step f max h left over r new k holds d =
    let count = lost_by_end h.session in
    let lost = losses r h.session in
    let shown = h.shown ++ lost in
    let mail : mail_in shown ≡ mail_in h.shown =
    mail_more h.shown lost ∙ ap (λ ms. mail_in h.shown ++ ms) (nothing_lost r h.session)
    ∙ append-nil (mail_in h.shown) in
    let kept =
    kept_by h.session new h.shown shown (ap (λ (x : SessionView). x.unwritten) d.stays)
    (same_inbox h.session.link new.link (ap inbox_in d.link)) mail in (
      one_call f max h new k Halts (h.used ++ []) (h.gone ++ []) (h.written ++ []) shown d.link
          refl kept,
      record {
        kind = d.form ∙ holds.kind;
        longest = ap longest_of d.link ∙ holds.longest;
        reads = λ going. no (sym (ap (λ (x : SessionView). x.is_read) d.stays) ∙ going);
        text =
            writes f h.written h.shown lost h.session.output new.output
            (reported_lost r (form_of h.session.messages) count) holds.text d.wrote
            (ap (λ g. reported_lost r g count) holds.kind ∙ lost_text_is r f h.session);
        of_data = ap (λ (x : SessionView). x.options.maintenance) d.stays ∙ holds.of_data;
        plain = holds.plain;
        queued = queued_kept h.session new h.shown shown kept holds.queued;
      },
      no_offer f max h.input (link_step Halts new.link ∷ []) refl,
    )
  where
    no : {P : Type 0} → true ≡ false → P
    no e = cc

-- a session that has a line, or none, and gets on so
abbrev pub with_line : Bool → Course → SessionHistory → SessionHistory
with_line has_line course h =
    record h { session = record h.session { has_line = has_line; course = course } }

pub holds_with_line : (f : MessageForm) (max : ℕ) (b : Bool) (c : Course) (h : SessionHistory)
    → Holds f max h → Holds f max (with_line b c h)
holds_with_line f max b c h k =
    record {
      kind = k.kind;
      longest = k.longest;
      reads = k.reads;
      text = k.text;
      of_data = k.of_data;
      plain = k.plain;
      queued = k.queued;
    }

-- a session of data was connected
abbrev pub course_connected : SessionView → Course
course_connected s = after_connecting (lost_more (lost_by_start s) s.course)

pub connected_is : (s new : SessionView) → s.options.maintenance ≡ false
    → new ≡ after_connected new.link.station.line s
    → new ≡ record s {
      link = anew new.link.station.line s.link;
      has_line = starts s || s.has_line;
      course = course_connected s;
    }
connected_is s new of_data e =
    e
    ∙ ap
    (λ b. record s {
      link = anew_in b new.link.station.line s.link;
      has_line = starts s || s.has_line;
      course = after_connecting_in b (starts s) (lost_more (lost_by_start s) s.course);
    }) of_data

pub step_leads : (f : MessageForm) (max : ℕ) (step : SessionStep) (h : SessionHistory) (k : ℕ)
    → SessionDoes step.call h.used h.session step.session → Holds f max h
    → StepLeads f max step h k
unfolding after_history offered_in
step_leads f max step h k does holds = by step.call step.session does
  where
    by : (call : SessionCall) (new : SessionView) → SessionDoes call h.used h.session new
        → StepLeads f max (record { call = call; session = new }) h k
    by (InputRead used) new d =
        read_step f max h used (entries_of_input used h.session.messages)
        (message_in (after_input used h.session.messages)) new k holds
        (reading_input f max h used new holds d)
    by InputEnded new d = ended_step f max h new k holds d
    by Connected new d =
        let b = starts h.session || h.session.has_line in
        let c = course_connected h.session in
        let is = connected_is h.session new holds.of_data d.0 in
        link_step_leads f max (with_line b c h) new k BeginsAnew (h.used ++ []) (h.gone ++ [])
        (anew new.link.station.line h.session.link) (holds_with_line f max b c h holds) is
        (ap (λ (x : SessionView). x.link) is, d.1, d.2) refl
        (same_inbox h.session.link (anew new.link.station.line h.session.link)
        (anew-inbox new.link.station.line h.session.link)) refl refl
    by (LineEnded how r) new d = left_step f max h how r new k holds d
    by (Received used) new d = received_step f max h new k used holds d
    by (Filled frames) new d = filled_step f max h new k frames holds d.0
    by (LineTook n) new d =
        link_step_leads f max h new k (IsSent n) (h.used ++ [])
        (h.gone ++ take n h.session.link.outbox.waiting) (after_sent n h.session.link) holds d
        (ap (λ (x : SessionView). x.link) d) refl
        (same_inbox h.session.link (after_sent n h.session.link) refl) refl refl
    by (TimedOut now) new d =
        let b = h.session.has_line in
        let c = (after_timeout now h.session).course in
        link_step_leads f max (with_line b c h) new k (Wakes now) (h.used ++ []) (h.gone ++ [])
        (after_wake now h.session.link) (holds_with_line f max b c h holds) d
        (ap (λ (x : SessionView). x.link) d)
        (wake_longest now h.session.link)
        (same_inbox h.session.link (after_wake now h.session.link)
        (woken-inbox now h.session.link)) refl refl
    by TimePassed new d =
        output_step f max (with_line h.session.has_line new.course h) new k (h.written ++ [])
        (h.shown ++ []) (holds_with_line f max h.session.has_line new.course h holds)
        (d.stays
        ∙ ap (λ q. record h.session { course = new.course; output = q })
        (sym (ap (λ (x : SessionView). x.output) d.stays)))
        (quiet_mail h.shown)
        (took f h.written 0 h.shown h.session.output new.output holds.text
        (ap (λ (x : SessionView). x.output.waiting) d.stays))
    by (Delivered true) new d = delivered_step f max h new k holds d
    by (Delivered false) new d =
        output_step f max h new k (h.written ++ []) (h.shown ++ []) holds d.stays
        (quiet_mail h.shown)
        (writes f h.written h.shown [] h.session.output new.output [] holds.text d.wrote
        (no_text f))
    by (OutputTook n) new d = written_step f max h new k n holds d
    by (Closed left over r) new d = closed_step f max h left over r new k holds d

-- ---- a new session

-- whatever the form of its messages
begun : MessageForm → Options → LineKind → ReaderView → SessionHistory
begun f o kind line =
    let h = new_session o kind line in
    record h { session = record h.session { messages = messages_begun f o.config.max } }

begun_holds : (f : MessageForm) (o : Options) (kind : LineKind) (line : ReaderView)
    → o.maintenance ≡ false → has_events f ≡ false
    → Holds f o.config.max (begun f o kind line)
    × (record (new_history o.config o.timer_ms line) { link = link_begun o line }
    ≡ link_history f o.config.max (begun f o kind line) 0)
unfolding begun got_in mail_in texts_of binary.told_in lines.told_in lengths.after_bytes
    hex.after_bytes
begun_holds form.Digits o kind line of_data plain = (
  record {
    kind = refl;
    longest = refl;
    reads = λ going. refl;
    text = refl;
    of_data = of_data;
    plain = plain;
    queued = queues-none [] [];
  },
  refl,
)
begun_holds form.Binary o kind line of_data plain = (
  record {
    kind = refl;
    longest = refl;
    reads = λ going. refl;
    text = refl;
    of_data = of_data;
    plain = plain;
    queued = queues-none [] [];
  },
  refl,
)
begun_holds form.Events o kind line of_data plain = absurd (no-false plain)
begun_holds form.EventLines o kind line of_data plain = absurd (no-false plain)

pub begins : (o : Options) (kind : LineKind) (line : ReaderView)
    → IsPlain o
    → Holds o.form o.config.max (new_session o kind line)
    × (record (new_history o.config o.timer_ms line) { link = link_begun o line }
    ≡ link_history o.form o.config.max (new_session o kind line) 0)
unfolding begun
begins o kind line plain = begun_holds o.form o kind line plain.of_data plain.no_events
