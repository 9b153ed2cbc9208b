-- Sessions that are connected again, and their links.
use Rattle.std.proofs.Common.{◌≡◌, ℕ, zero, suc, ◌+◌, Bool, true, false, cond, List, [], ◌∷◌}
use Rattle.std.proofs.Common.{◌++◌, length, drop, refl, sym, ◌∙◌, ap, subst, append_assoc}
use Rattle.std.proofs.Common.{append-nil, option_to_list}
use Rattle.std.proofs.Math.Seq.{drop-append_seam}
use Rattle.ddcmp_input.specs.declared.entry.Entry.{Entry}
use Rattle.ddcmp_input.specs.declared.entry.Entry.TheVariants.{Message, NotHexadecimal, TooLong}
use Rattle.ddcmp_input.specs.declared.entry.Entry.TheVariants.{Command, Empty}
use Rattle.std.specs.Prelude.{◌||◌}
use Rattle.ddcmp_input.specs.InBinary.{in_binary}
use Rattle.ddcmp_station.specs.Linking.{LinkView, after_frame, after_taking, anew}
use Rattle.ddcmp_io.specs.declared.carrier.End.{End}
use Rattle.ddcmp_io.specs.declared.carrier.End.TheVariants.{A, B}
use Rattle.ddcmp_streams.specs.Messages.{message_in, after_input, entries_of_input, after_last}
use Rattle.ddcmp_streams.specs.Messages.{entry_of_last}
use Rattle.ddcmp_session.specs.Session.{SessionView, taken_at_once, taken_when_written, takes_end}
use Rattle.ddcmp_laws.specs.Links.{LinkCall, Starts, BeginsAnew, Halts, Wakes, Offers, FillsOne}
use Rattle.ddcmp_laws.specs.Links.{IsSent, Feeds, Takes, LinkHistory, LinkStep, Links, link_at}
use Rattle.ddcmp_laws.specs.Links.{IsHistory, after_history, LinkReaches, HasDone, used_by}
use Rattle.ddcmp_laws.specs.Links.{gone_by, accepted_by, taken_by, acknowledged_after, received}
use Rattle.ddcmp_laws.specs.Links as links
use Rattle.ddcmp_laws.specs.LinkRestarts.{history_by, AreCallsOfLinks, after_links}
use Rattle.ddcmp_laws.specs.LinkRestarts.{calls_of_links, history_at}
use Rattle.ddcmp_laws.specs.LinkRestarts as restarts
use Rattle.ddcmp_laws.proofs.Inboxes.{anew-inbox}
use Rattle.ddcmp_laws.proofs.Queues.{taken_of}
use Rattle.ddcmp_laws.proofs.Texts.{mail_more}
use Rattle.ddcmp_session.specs.Calls.{SessionCall, InputRead, InputEnded, Connected, LineEnded}
use Rattle.ddcmp_session.specs.Calls.{Received, Filled, LineTook, TimedOut, TimePassed, Delivered}
use Rattle.ddcmp_session.specs.Calls.{OutputTook}
use Rattle.ddcmp_session.specs.Calls.{Closed, SessionDoes, SessionStep}
use Rattle.ddcmp_session.specs.Calls.{after_session_step, shown_in}
use Rattle.ddcmp_session.specs.Session.{after_connected, starts}
use Rattle.ddcmp_laws.specs.Sessions.{messages_of, mail_in, link_steps_of, offers_of, frames_put}
use Rattle.ddcmp_laws.specs.Sessions.{link_step, takes_put, texts_of}
use Rattle.ddcmp_laws.specs.Pipe.{Made, link_made_of, steps_at_end}
use Rattle.ddcmp_session.specs.Connections as connections
use Rattle.ddcmp_session.specs.Connections.{Connection, Does, after_step, after_all}
use Rattle.ddcmp_laws.specs.Connections.{Connections, first_connection, at}
use Rattle.ddcmp_laws.specs.Connections.{after_step_at, AreCalls, after_steps, link_steps}
use Rattle.ddcmp_laws.specs.Connections.{read_since, delivered_since}
use Rattle.ddcmp_laws.specs.Connections.{WritesAnew}
use Rattle.ddcmp_laws.proofs.Holding.{Holds, link_history, parts}
use Rattle.ddcmp_laws.proofs.Texts.{IsText, binary_more, only_mail}
use Rattle.ddcmp_laws.proofs.LinkSteps.{begins, step_leads, link_only, same_link, with_line}
use Rattle.ddcmp_laws.proofs.LinkSteps.{holds_with_line, connected_is, course_connected, kept_link}
use Rattle.ddcmp_laws.proofs.LinkSteps.{same_inbox}

-- ---- calls of a link that don't begin it anew

abbrev pub IsCalm : LinkCall → Type 0
IsCalm BeginsAnew = ⊥
IsCalm _ = Unit {0}

abbrev pub AreCalm : List LinkStep → Type 0
AreCalm [] = Unit {0}
AreCalm (x ∷ xs) = IsCalm x.call × AreCalm xs

abbrev pub AreDone : List LinkStep → LinkHistory → Type 0
AreDone [] l = Unit {0}
AreDone (x ∷ xs) l = restarts.Does x.call l.used l.link x.link × AreDone xs (history_by x.call x l)

unfoldable pub after_done : List LinkStep → LinkHistory → LinkHistory
after_done [] l = l
after_done (x ∷ xs) l = after_done xs (history_by x.call x l)

does_calm : (call : LinkCall) → IsCalm call → (text : List ℕ) (old new : LinkView)
    → HasDone call text old new → restarts.Does call text old new
does_calm Starts i text old new d = d
does_calm BeginsAnew i text old new d = absurd i
does_calm Halts i text old new d = d
does_calm (Wakes now) i text old new d = d
does_calm (Offers message) i text old new d = d
does_calm FillsOne i text old new d = d
does_calm (IsSent n) i text old new d = d
does_calm (Feeds used) i text old new d = d
does_calm Takes i text old new d = d

history_calm : (call : LinkCall) → IsCalm call → (x : LinkStep) (l : LinkHistory)
    → history_by call x l ≡ links.after_step x l
history_calm Starts i x l = refl
history_calm BeginsAnew i x l = absurd i
history_calm Halts i x l = refl
history_calm (Wakes now) i x l = refl
history_calm (Offers message) i x l = refl
history_calm FillsOne i x l = refl
history_calm (IsSent n) i x l = refl
history_calm (Feeds used) i x l = refl
history_calm Takes i x l = refl

calm : (xs : List LinkStep) (l : LinkHistory) → AreCalm xs → IsHistory xs l
    → AreDone xs l × (after_done xs l ≡ after_history xs l)
unfolding after_done after_history
calm [] l i h = (tt, refl)
calm (x ∷ xs) l i h =
    let e = history_calm x.call i.0 x l in
    let r = calm xs (links.after_step x l) i.1 h.1 in (
      (
        does_calm x.call i.0 l.used l.link x.link h.0,
        subst (AreDone xs) (sym e) r.0,
      ),
      ap (after_done xs) e ∙ r.1,
    )

frames_calm : (n : ℕ) (d : LinkView) → AreCalm (frames_put n d)
unfolding frames_put
frames_calm zero d = tt
frames_calm (suc n) d = (tt, frames_calm n (after_frame d))

takes_calm : (n : ℕ) (d : LinkView) → AreCalm (takes_put n d)
unfolding takes_put
takes_calm zero d = tt
takes_calm (suc n) d = (tt, takes_calm n (after_taking d))

offers_calm : (es : List Entry) (message : List ℕ) (new : LinkView)
    → AreCalm (offers_of es message new)
offers_calm [] message new = tt
offers_calm (Message ∷ rest) message new = (tt, tt)
offers_calm (NotHexadecimal ∷ rest) message new = tt
offers_calm (TooLong ∷ rest) message new = tt
offers_calm (Empty ∷ rest) message new = tt
offers_calm (Command ∷ rest) message new = tt

-- ---- what came before is left out

-- What some calls lead to, if these messages were accepted before; what they take is the same
-- whatever was taken before.
abbrev Shifts : List LinkStep → List (List ℕ) → List (List ℕ) → List (List ℕ) → LinkHistory
    → LinkHistory → Type 0
Shifts xs a t y big small =
    (x : List (List ℕ)) × (more : List (List ℕ)) × (k : ℕ)
    × (after_history xs small
    ≡ parts (after_history xs big).link (after_history xs big).used (after_history xs big).gone x
    (y ++ more) k)
    × ((after_history xs big).accepted ≡ a ++ x)
    × ((after_history xs big).taken ≡ t ++ more)

shift : (xs : List LinkStep) (d : LinkView) (u g : List ℕ) (a x t y : List (List ℕ)) (j k : ℕ)
    → IsHistory xs (parts d u g (a ++ x) t j)
    → IsHistory xs (parts d u g x y k)
    × Shifts xs a t y (parts d u g (a ++ x) t j) (parts d u g x y k)
unfolding after_history
shift [] d u g a x t y j k h =
    (tt, (x, [], k, ap (λ z. parts d u g x z k) (sym (append-nil y)), refl, sym (append-nil t)))
shift (s ∷ xs) d u g a x t y j k h =
    let big = parts d u g (a ++ x) t j in
    let small = parts d u g x y k in
    let acc = accepted_by s.call d in
    let tk = taken_by s.call d in
    let m = j + acknowledged_after s.call big in
    let n = k + acknowledged_after s.call small in
    let e
    : links.after_step s big
    ≡ parts s.link (u ++ used_by s.call) (g ++ gone_by s.call d) (a ++ (x ++ acc)) (t ++ tk) m =
    λ i. parts s.link (u ++ used_by s.call) (g ++ gone_by s.call d) (append_assoc a x acc i)
    (t ++ tk) m in
    let r =
    shift xs s.link (u ++ used_by s.call) (g ++ gone_by s.call d) a (x ++ acc) (t ++ tk) (y ++ tk)
    m n (subst (IsHistory xs) e h.1) in
    let z = subst (λ l. Shifts xs a (t ++ tk) (y ++ tk) l (links.after_step s small)) (sym e) r.1 in (
      (h.0, r.0),
      (
        z.0,
        tk ++ z.1,
        z.2,
        z.3
            ∙ ap
            (λ w. parts (after_history xs (links.after_step s big)).link
            (after_history xs (links.after_step s big)).used
            (after_history xs (links.after_step s big)).gone z.0 w z.2) (append_assoc y tk z.1),
        z.4,
        z.5 ∙ append_assoc t tk z.1,
      ),
    )

-- ---- one session

-- What the history of its link has since it was connected, beside what that of the session has: the
-- messages that were taken, and how many it reported acknowledged.
pub record Rest : Type 0 where
  pub taken : List (List ℕ)
  pub told : ℕ

abbrev pub none_yet : Rest
none_yet = record { taken = []; told = 0 }

-- the history of its link since it was connected
abbrev pub since : Made → Connection → Rest → LinkHistory
since made c k =
    parts c.history.session.link c.history.used c.history.gone (read_since made c) k.taken k.told

-- Of the messages that it had delivered before, some were taken before, and these weren't. The
-- messages taken since come after the former.
pub record IsSince (c : Connection) (k : Rest) (waited : List (List ℕ)) : Type 0 where
  pub before : List (List ℕ)
  pub taken : taken_of c.history.session c.history.shown ≡ before ++ k.taken
  pub begun : mail_in c.shown_before ≡ before ++ waited

-- what stays
pub record Stays (made : Made) (c : Connection) : Type 0 where
  pub holds : Holds made.options.form made.options.config.max c.history
  pub read
      : messages_of made.options.form made.options.config.max c.history.input
      ≡ messages_of made.options.form made.options.config.max c.input_before ++ read_since made c
  pub delivered : mail_in c.history.shown ≡ mail_in c.shown_before ++ delivered_since c

-- a call of a session leads its link from one history since it was connected to the next
abbrev pub Follows : Made → List LinkStep → Connection → Rest → Connection → Type 0
Follows made xs c k next =
    AreDone xs (since made c k)
    × ((m : Rest) × (after_done xs (since made c k) ≡ since made next m))
    × Stays made next

-- and if it isn't connected, those that weren't taken stay so
pub record FollowsOn (made : Made) (xs : List LinkStep) (c : Connection) (k : Rest)
    (next : Connection) : Type 0 where
  pub done : AreDone xs (since made c k)
  pub rest : Rest
  pub after : after_done xs (since made c k) ≡ since made next rest
  pub stays : Stays made next
  pub since_then : (waited : List (List ℕ)) → IsSince c k waited → IsSince next rest waited

abbrev as_follows : {made : Made} {xs : List LinkStep} {c : Connection} {k : Rest}
    {next : Connection} → FollowsOn made xs c k next → Follows made xs c k next
as_follows f = (f.done, (f.rest, f.after), f.stays)

pub left_out : (a b x : List (List ℕ)) → b ≡ a ++ x → drop (length a) b ≡ x
left_out a b x e = ap (drop (length a)) e ∙ drop-append_seam a x

-- a call that doesn't connect it
pub goes_on : (made : Made) (one : SessionStep) (c : Connection) (k : Rest)
    → SessionDoes one.call c.history.used c.history.session one.session → Stays made c
    → AreCalm (link_steps_of one.call c.history.session one.session.link)
    → FollowsOn made (link_steps_of one.call c.history.session one.session.link) c k
    (record c { history = after_session_step one c.history })
goes_on made one c k does stays is_calm =
    let f = made.options.form in
    let max = made.options.config.max in
    let xs = link_steps_of one.call c.history.session one.session.link in
    let next : Connection = record c { history = after_session_step one c.history } in
    let before = messages_of f max c.input_before in
    let shown = mail_in c.shown_before in
    let was = taken_of c.history.session c.history.shown in
    let s = step_leads f max one c.history k.told does stays.holds in
    let big = link_history f max c.history k.told in
    let e
    : big
    ≡ parts c.history.session.link c.history.used c.history.gone
    (before ++ read_since made c) was k.told =
    λ i. parts c.history.session.link c.history.used c.history.gone (stays.read i) was k.told in
    let r =
    shift xs c.history.session.link c.history.used c.history.gone before (read_since made c) was
    k.taken k.told k.told (subst (IsHistory xs) e s.0.0) in
    let moved = subst (λ l. Shifts xs before was k.taken l (since made c k)) (sym e) r.1 in
    let small = since made c k in
    let x = moved.0 in
    let m : Rest = record { taken = k.taken ++ moved.1; told = moved.2 } in
    let after
    : after_history xs small
    ≡ parts next.history.session.link next.history.used next.history.gone x m.taken m.told =
    moved.3
    ∙ ap (λ (l : LinkHistory). parts l.link l.used l.gone x m.taken m.told) s.0.1.1 in
    let read : messages_of f max next.history.input ≡ before ++ x =
    ap (λ (l : LinkHistory). l.accepted) (sym s.0.1.1) ∙ moved.4 in
    let x_is = left_out before (messages_of f max next.history.input) x read in
    let mail =
    mail_more c.history.shown (shown_in one.call c.history.used c.history.session)
    ∙ ap (λ ms. ms ++ mail_in (shown_in one.call c.history.used c.history.session)) stays.delivered
    ∙ append_assoc shown (delivered_since c)
    (mail_in (shown_in one.call c.history.used c.history.session)) in
    let y =
    delivered_since c ++ mail_in (shown_in one.call c.history.used c.history.session) in
    let y_is = left_out shown (mail_in next.history.shown) y mail in
    let calls = calm xs small is_calm r.0 in
    record {
      done = calls.0;
      rest = m;
      after =
          calls.1
          ∙ after
          ∙ (λ i. parts next.history.session.link next.history.used next.history.gone
          (sym x_is i) m.taken m.told);
      stays = record {
        holds = s.1;
        read = read ∙ ap (λ z. before ++ z) (sym x_is);
        delivered = mail ∙ ap (λ z. shown ++ z) (sym y_is);
      };
      since_then = λ waited q. record {
        before = q.before;
        taken =
            ap (λ (l : LinkHistory). l.taken) (sym s.0.1.1) ∙ moved.5
            ∙ ap (λ ms. ms ++ moved.1) q.taken ∙ append_assoc q.before k.taken moved.1;
        begun = q.begun;
      };
    }

all_left_out : (a : List (List ℕ)) → drop (length a) a ≡ []
all_left_out a = left_out a a [] (sym (append-nil a))

none_since : (a : List (List ℕ)) → a ≡ a ++ drop (length a) a
none_since a = sym (append-nil a) ∙ ap (λ x. a ++ x) (sym (all_left_out a))

-- a call that does
pub record BegunAnew (made : Made) (new : SessionView) (c : Connection) (k : Rest) : Type 0 where
  pub done : AreDone (link_step BeginsAnew new.link ∷ []) (since made c k)
  pub after : after_done (link_step BeginsAnew new.link ∷ []) (since made c k)
      ≡ since made (after_step (record { call = Connected; session = new }) c) none_yet
  pub stays : Stays made (after_step (record { call = Connected; session = new }) c)

pub begins_anew : (made : Made) (new : SessionView) (c : Connection) (k : Rest)
    → new ≡ after_connected new.link.station.line c.history.session
    → Stays made c → BegunAnew made new c k
unfolding after_done
begins_anew made new c k is stays =
    let f = made.options.form in
    let max = made.options.config.max in
    let h = c.history in
    let b = starts h.session || h.session.has_line in
    let same = connected_is h.session new stays.holds.of_data is in
    let course = course_connected h.session in
    let input = messages_of f max (h.input ++ []) in
    let mail = mail_in (h.shown ++ []) in
    record {
      done = (ap (λ (x : SessionView). x.link) same, tt);
      after = λ i. parts new.link [] [] (sym (all_left_out input) i) [] 0;
      stays = record {
        holds =
            link_only f max (with_line b course h) new [] []
            (holds_with_line f max b course h stays.holds)
            (same_link (with_line b course h).session new
            (anew new.link.station.line h.session.link) same)
            (ap (λ (x : SessionView). x.link.station.core.limits.longest) same)
            (kept_link (with_line b course h).session new h.shown
            (anew new.link.station.line h.session.link) same
            (same_inbox h.session.link (anew new.link.station.line h.session.link)
            (anew-inbox new.link.station.line h.session.link)));
        read = none_since input;
        delivered = none_since mail;
      };
    }

-- the calls of a link that any other call makes
abbrev pub NotConnected : SessionCall → Type 0
NotConnected Connected = ⊥
NotConnected _ = Unit {0}

pub calm_of : (call : SessionCall) → NotConnected call → (s : SessionView) (new : LinkView)
    → AreCalm (link_steps_of call s new)
calm_of Connected i s new = absurd i
calm_of (InputRead used) i s new =
    offers_calm (entries_of_input used s.messages) (message_in (after_input used s.messages)) new
calm_of InputEnded i s new = by (takes_end s)
  where
    by : (w : Bool)
        → AreCalm
        (cond w
        (offers_of (option_to_list (entry_of_last s.messages)) (message_in (after_last s.messages))
        new) [])
    by true =
        offers_calm (option_to_list (entry_of_last s.messages))
        (message_in (after_last s.messages)) new
    by false = tt
calm_of (LineEnded how r) i s new = (tt, tt)
calm_of (Received used) i s new = (tt, tt)
calm_of (Filled n) i s new = frames_calm n s.link
calm_of (LineTook n) i s new = (tt, tt)
calm_of (TimedOut now) i s new = (tt, tt)
calm_of TimePassed i s new = tt
calm_of (Delivered true) i s new = takes_calm (taken_at_once s) s.link
calm_of (Delivered false) i s new = tt
calm_of (OutputTook n) i s new = takes_calm (taken_when_written n s) s.link
calm_of (Closed left over r) i s new = (tt, tt)

pub follows : (made : Made) (one : SessionStep) (c : Connection) (k : Rest)
    → Does one.call c.history.used c.history.session one.session → Stays made c
    → Follows made (link_steps_of one.call c.history.session one.session.link) c k
    (after_step one c)
follows made one c k does stays = by one.call one.session does
  where
    by : (call : SessionCall) (new : SessionView)
        → Does call c.history.used c.history.session new
        → Follows made (link_steps_of call c.history.session new.link) c k
        (after_step (record { call = call; session = new }) c)
    by Connected new d =
        let b = begins_anew made new c k d stays in (b.done, (none_yet, b.after), b.stays)
    by (InputRead used) new d =
        as_follows
        (goes_on made (record { call = InputRead used; session = new }) c k d stays
        (calm_of (InputRead used) tt c.history.session new.link))
    by InputEnded new d =
        as_follows
        (goes_on made (record { call = InputEnded; session = new }) c k d stays
        (calm_of InputEnded tt c.history.session new.link))
    by (LineEnded how r) new d =
        as_follows
        (goes_on made (record { call = LineEnded how r; session = new }) c k d stays
        (calm_of (LineEnded how r) tt c.history.session new.link))
    by (Received used) new d =
        as_follows
        (goes_on made (record { call = Received used; session = new }) c k d stays
        (calm_of (Received used) tt c.history.session new.link))
    by (Filled n) new d =
        as_follows
        (goes_on made (record { call = Filled n; session = new }) c k d stays
        (calm_of (Filled n) tt c.history.session new.link))
    by (LineTook n) new d =
        as_follows
        (goes_on made (record { call = LineTook n; session = new }) c k d stays
        (calm_of (LineTook n) tt c.history.session new.link))
    by (TimedOut now) new d =
        as_follows
        (goes_on made (record { call = TimedOut now; session = new }) c k d stays
        (calm_of (TimedOut now) tt c.history.session new.link))
    by TimePassed new d =
        as_follows
        (goes_on made (record { call = TimePassed; session = new }) c k d stays
        (calm_of TimePassed tt c.history.session new.link))
    by (Delivered true) new d =
        as_follows
        (goes_on made (record { call = Delivered true; session = new }) c k d stays
        (calm_of (Delivered true) tt c.history.session new.link))
    by (Delivered false) new d =
        as_follows
        (goes_on made (record { call = Delivered false; session = new }) c k d stays
        (calm_of (Delivered false) tt c.history.session new.link))
    by (OutputTook n) new d =
        as_follows
        (goes_on made (record { call = OutputTook n; session = new }) c k d stays
        (calm_of (OutputTook n) tt c.history.session new.link))
    by (Closed left over r) new d =
        as_follows
        (goes_on made (record { call = Closed left over r; session = new }) c k d stays
        (calm_of (Closed left over r) tt c.history.session new.link))

-- ---- steps at one end

abbrev CallsThen : End → List LinkStep → List (End × LinkStep) → Links → Links → Type 0
CallsThen end xs rest q r =
    AreCallsOfLinks (steps_at_end end xs ++ rest) q
    × (after_links (steps_at_end end xs ++ rest) q ≡ after_links rest r)

then_a : (xs : List LinkStep) (rest : List (End × LinkStep)) (q : Links) → AreDone xs q.a
    → AreCallsOfLinks rest (record { a = after_done xs q.a; b = q.b })
    → CallsThen A xs rest q (record { a = after_done xs q.a; b = q.b })
unfolding after_done after_links
then_a [] rest q h more = (more, refl)
then_a (x ∷ xs) rest q h more =
    let r = then_a xs rest (record { a = history_by x.call x q.a; b = q.b }) h.1 more in
    ((h.0, r.0), r.1)

then_b : (xs : List LinkStep) (rest : List (End × LinkStep)) (q : Links) → AreDone xs q.b
    → AreCallsOfLinks rest (record { a = q.a; b = after_done xs q.b })
    → CallsThen B xs rest q (record { a = q.a; b = after_done xs q.b })
unfolding after_done after_links
then_b [] rest q h more = (more, refl)
then_b (x ∷ xs) rest q h more =
    let r = then_b xs rest (record { a = q.a; b = history_by x.call x q.b }) h.1 more in
    ((h.0, r.0), r.1)

-- ---- two sessions

abbrev pub both : Made → Made → Connections → Rest → Rest → Links
both first second p j k = record { a = since first p.a j; b = since second p.b k }

abbrev pub Keeps : Made → Made → List (End × SessionStep) → Connections → Rest → Rest → Type 0
Keeps first second steps p j k =
    AreCallsOfLinks (link_steps steps p) (both first second p j k)
    × ((m : Rest) × (n : Rest)
    × (after_links (link_steps steps p) (both first second p j k)
    ≡ both first second (after_steps steps p) m n))
    × Stays first (after_steps steps p).a
    × Stays second (after_steps steps p).b

abbrev StepKeeps : Made → Made → End → SessionStep → List (End × SessionStep) → Connections → Rest
    → Rest → Type 0
StepKeeps first second end one rest p j k =
    AreCallsOfLinks
    (steps_at_end end
    (link_steps_of one.call (at end p).history.session one.session.link)
    ++ link_steps rest (after_step_at end one p)) (both first second p j k)
    × ((m : Rest) × (n : Rest)
    × (after_links
    (steps_at_end end
    (link_steps_of one.call (at end p).history.session one.session.link)
    ++ link_steps rest (after_step_at end one p)) (both first second p j k)
    ≡ both first second (after_steps rest (after_step_at end one p)) m n))
    × Stays first (after_steps rest (after_step_at end one p)).a
    × Stays second (after_steps rest (after_step_at end one p)).b

pub keeps_steps : (first second : Made) (steps : List (End × SessionStep)) (p : Connections) (j k : Rest)
    → AreCalls steps p → Stays first p.a → Stays second p.b → Keeps first second steps p j k
unfolding link_steps after_links after_steps
keeps_steps first second [] p j k does sa sb = (tt, (j, k, refl), sa, sb)
keeps_steps first second (step ∷ rest) p j k does sa sb =
    by step.0 step.1 does.0
    (λ m n. keeps_steps first second rest (after_step_at step.0 step.1 p) m n does.1)
  where
    by : (end : End) (one : SessionStep)
        → Does one.call (at end p).history.used (at end p).history.session one.session
        → ((m n : Rest) → Stays first (after_step_at end one p).a
        → Stays second (after_step_at end one p).b
        → Keeps first second rest (after_step_at end one p) m n)
        → StepKeeps first second end one rest p j k
    by A one d more =
        let s = follows first one p.a j d sa in
        let xs = link_steps_of one.call p.a.history.session one.session.link in
        let ys = link_steps rest (after_step_at A one p) in
        let q = both first second p j k in
        let r = more s.1.0 k s.2 sb in
        let t = then_a xs ys q s.0
        (subst (λ l. AreCallsOfLinks ys (record { a = l; b = q.b })) (sym s.1.1) r.0) in (
          t.0,
          (
            r.1.0,
            r.1.1,
            t.1 ∙ ap (λ l. after_links ys (record { a = l; b = q.b })) s.1.1 ∙ r.1.2,
          ),
          r.2,
          r.3,
        )
    by B one d more =
        let s = follows second one p.b k d sb in
        let xs = link_steps_of one.call p.b.history.session one.session.link in
        let ys = link_steps rest (after_step_at B one p) in
        let q = both first second p j k in
        let r = more j s.1.0 sa s.2 in
        let t = then_b xs ys q s.0
        (subst (λ l. AreCallsOfLinks ys (record { a = q.a; b = l })) (sym s.1.1) r.0) in (
          t.0,
          (
            r.1.0,
            r.1.1,
            t.1 ∙ ap (λ l. after_links ys (record { a = q.a; b = l })) s.1.1 ∙ r.1.2,
          ),
          r.2,
          r.3,
        )

-- ---- its output

pub writes_anew : (made : Made) (c : Connection) → Stays made c → WritesAnew made c
writes_anew made c s is =
    s.holds.text
    ∙ ap (λ f. texts_of f c.history.shown) is
    ∙ only_mail c.history.shown
    ∙ ap in_binary s.delivered
    ∙ binary_more (mail_in c.shown_before) (delivered_since c)

-- ---- from two new sessions

pub stays_first : (made : Made) → Stays made (first_connection made)
stays_first made = record {
  holds = (begins made.options made.kind made.line made.plain).0;
  read = none_since (messages_of made.options.form made.options.config.max []);
  delivered = none_since (mail_in []);
}

-- whatever was done, the output is the text of what was delivered and reported
pub stays_all : (made : Made) (steps : List SessionStep) (c : Connection)
    → connections.AreDone steps c → Stays made c → Stays made (after_all steps c)
unfolding after_all
stays_all made [] c does stays = stays
stays_all made (step ∷ rest) c does stays =
    stays_all made rest (after_step step c) does.1 (follows made step c none_yet does.0 stays).2

pub text_of_all : (made : Made) (steps : List SessionStep)
    → connections.AreDone steps (first_connection made)
    → IsText made.options.form
    (after_all steps (first_connection made)).history.written
    (after_all steps (first_connection made)).history.session.output
    (after_all steps (first_connection made)).history.shown
text_of_all made steps does =
    (stays_all made steps (first_connection made) does (stays_first made)).holds.text

pub since_first : (made : Made)
    → link_made_of made ≡ since made (first_connection made) none_yet
since_first made =
    (begins made.options made.kind made.line made.plain).1
    ∙ (λ i. parts (first_connection made).history.session.link [] []
    (e (messages_of made.options.form made.options.config.max [])
    (ap (λ (l : LinkHistory). l.accepted) begun) i)
    (ap (λ (l : LinkHistory). l.taken) begun i) 0)
  where
    begun
        : link_history made.options.form made.options.config.max (first_connection made).history 0
        ≡ link_made_of made
    begun = sym (begins made.options made.kind made.line made.plain).1

    e : (a : List (List ℕ)) → a ≡ [] → a ≡ drop (length a) a
    e a none = none ∙ sym (all_left_out a)
