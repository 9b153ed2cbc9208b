-- Two runs over one line after the other, of which one was ended and lost nothing: the other has
-- written all that it read; and what both promises come to.
use Rattle.std.proofs.Common.{◌≡◌, ◌∙◌, ap, sym, subst, refl, ℕ, List, [], ◌∷◌, ◌++◌, append-nil}
use Rattle.std.proofs.Common.{append_assoc, drop, map, None, true, false}
use Rattle.std.proofs.Math.Seq.{drop-nil}
use Rattle.ddcmp_input.specs.InBinary.{in_binary}
use Rattle.ddcmp_pair.specs.Prefix.{IsPrefixOf}
use Rattle.ddcmp_proto.specs.Config.{first_refusal}
use Rattle.ddcmp_streams.specs.declared.messages.MessageForm.{MessageForm}
use Rattle.ddcmp_session.specs.Session.{SessionView, starts}
use Rattle.ddcmp_session.specs.Calls.{Connected, SessionStep}
use Rattle.ddcmp_session.specs.Connections.{AreDone, Connection, after_all, after_step}
use Rattle.ddcmp_session.specs.Devices.{BuffersView}
use Rattle.ddcmp_session.specs.Traffic.{Traffic}
use Rattle.ddcmp_laws.specs.AllLines.{AllInDigits, DeliversInOrder, DigitsInOrder, GoOverLines}
use Rattle.ddcmp_laws.specs.AllLines.{IsOneLine, LineSteps, AllInBinary, BinaryInOrder, and_then}
use Rattle.ddcmp_laws.specs.AllLines.{over_lines}
use Rattle.ddcmp_laws.specs.Connected.{connections_in}
use Rattle.ddcmp_laws.specs.Connections.{delivered_since, first_connection, read_since}
use Rattle.ddcmp_laws.specs.EachLine.{EndsALine, LineIsOver}
use Rattle.ddcmp_laws.specs.LastConnection.{StartsIf, StartsLast}
use Rattle.ddcmp_laws.specs.Loops.{messages_given}
use Rattle.ddcmp_laws.specs.Pipe.{Made, undelivered}
use Rattle.ddcmp_laws.specs.Prefix.{Begins}
use Rattle.ddcmp_laws.specs.SessionRuns.{Ran, WasEnded, got_to}
use Rattle.ddcmp_laws.specs.Sessions.{IsTakenAsWritten, mail_in, messages_of, texts_of}
use Rattle.ddcmp_laws.proofs.EachLine.{none-in-nothing}
use Rattle.ddcmp_laws.proofs.LastSteps.{starts-empty}
use Rattle.ddcmp_laws.proofs.OneConnection.{IsNew}
use Rattle.ddcmp_laws.proofs.RunLaws.{begins-both, given-read}
use Rattle.ddcmp_laws.proofs.MailLaws.{mails_first}
use Rattle.ddcmp_laws.proofs.ShownLines.{all_tell, digits_tell, map_more}
use Rattle.ddcmp_laws.proofs.Texts.{binary_more, only_mail}
use Rattle.hex.specs.Hex.{encode_lower}
use Rattle.ddcmp_laws.specs.MailLines.{mails_in}
use Rattle.ddcmp_laws.proofs.AllLines.{read_all, stays-done, read-more, shown-before, mail-more}
use Rattle.ddcmp_laws.proofs.AllLines.{Carried, AllCarried, carried-b, swapped, carried-a}
use Rattle.ddcmp_laws.proofs.AllLines.{swapped-a, swapped-b, Gone, over-all, new-at, unconnected}
use Rattle.ddcmp_laws.proofs.AllLines.{delivers, writes, writes-lines}

-- ---- a run that lost nothing

-- the calls of one end over these lines
steps_of : (LineSteps → List SessionStep) → List LineSteps → List SessionStep
steps_of of [] = []
steps_of of (line ∷ rest) = of line ++ steps_of of rest

over-is : (of : LineSteps → List SessionStep) (ran : Ran) (lines : List LineSteps)
    → over_lines of ran lines ≡ and_then ran (steps_of of lines)
unfolding over_lines steps_of
over-is of ran [] = λ i. record { made = ran.made; steps = sym (append-nil ran.steps) i }
over-is of ran (line ∷ rest) =
    over-is of (and_then ran (of line)) rest
    ∙ (λ i. record {
      made = ran.made;
      steps = append_assoc ran.steps (of line) (steps_of of rest) i;
    })

done-back : (xs ys : List SessionStep) (c : Connection) → AreDone (xs ++ ys) c
    → AreDone ys (after_all xs c)
unfolding after_all
done-back [] ys c done = done
done-back (x ∷ xs) ys c done = done-back xs ys (after_step x c) done.1

starts-of : (xs : List SessionStep) (step : SessionStep) (rest : List SessionStep) (c : Connection)
    → StartsLast (xs ++ step ∷ rest) c → connections_in rest ≡ 0 → step.call ≡ Connected
    → starts (after_all xs c).history.session ≡ true
unfolding after_all
starts-of [] step rest c s none is =
    subst (λ call. StartsIf call c.history.session) is (s.0 none)
starts-of (x ∷ xs) step rest c s none is = starts-of xs step rest (after_step x c) s.1 none is

-- all that a session received was delivered before the next line
none-left : (ran : Ran) (steps : List SessionStep) → IsOneLine steps
    → StartsLast (ran.steps ++ steps) (first_connection ran.made)
    → undelivered (got_to ran).history ≡ []
none-left ran [] of s = absurd of
none-left ran (step ∷ rest) of s =
    let session = (got_to ran).history.session in
    ap (drop session.unwritten)
    (starts-empty session
    (starts-of ran.steps step rest (first_connection ran.made) s of.1 of.0))
    ∙ drop-nil session.unwritten

ends-so : (steps more : List SessionStep) → IsOneLine steps → LineIsOver (steps ++ more)
ends-so [] more of = absurd of
ends-so (step ∷ rest) more of = subst EndsALine (sym of.0) tt

-- what is written by one session, of another that was ended and lost nothing
Whole : Ran → Ran → Type 0
Whole giver taker =
    IsPrefixOf (mail_in (got_to taker).history.shown) (read_all giver)
    × IsTakenAsWritten taker.made.options.form (got_to taker).history (read_all giver)

last-line : (giver taker : Ran) (line : LineSteps) → Carried giver taker line
    → mail_in (got_to taker).history.shown ≡ read_all giver
    → taker.made.options.acknowledge_early ≡ false
    → (held : BuffersView) (t : Traffic) (closed : SessionView)
    → WasEnded (and_then giver line.of_a) held t closed → closed.course.lost ≡ 0
    → Whole (and_then giver line.of_a) (and_then taker line.of_b)
unfolding Whole
last-line giver taker line l came early held t closed ended none =
    let g = and_then giver line.of_a in
    let k = and_then taker line.of_b in
    let read = read-more giver line.of_a l.one l.done_g in
    let before : mail_in (got_to k).shown_before ≡ read_all giver =
    ap mail_in (shown-before taker line.of_b l.other) ∙ came in (
      (
        l.pipes.0,
        ap (λ ms. ms ++ l.pipes.0)
            (mail-more taker line.of_b l.other l.done_t
            ∙ ap (λ ms. ms ++ delivered_since (got_to k)) came)
            ∙ append_assoc (read_all giver) (delivered_since (got_to k)) l.pipes.0
            ∙ ap (λ ms. read_all giver ++ ms) l.pipes.1
            ∙ sym read,
      ),
      subst (λ ms. IsTakenAsWritten taker.made.options.form (got_to k).history ms)
          (ap (λ ms. ms ++ read_since giver.made (got_to g)) before ∙ sym read)
          (l.written early [] tt tt held t closed
          (subst (λ xs. WasEnded (record { made = giver.made; steps = xs }) held t closed)
          (sym (append-nil g.steps)) ended) none),
    )

all-lines : (giver taker : Ran) (line : LineSteps) (lines : List LineSteps)
    → AllCarried giver taker (line ∷ lines)
    → mail_in (got_to taker).history.shown ≡ read_all giver
    → taker.made.options.acknowledge_early ≡ false
    → AreDone (over_lines (λ x. x.of_a) giver (line ∷ lines)).steps (first_connection giver.made)
    → (held : BuffersView) (t : Traffic) (closed : SessionView)
    → WasEnded (over_lines (λ x. x.of_a) giver (line ∷ lines)) held t closed
    → closed.course.lost ≡ 0
    → Whole (over_lines (λ x. x.of_a) giver (line ∷ lines))
    (over_lines (λ x. x.of_b) taker (line ∷ lines))
unfolding over_lines steps_of
all-lines giver taker line [] go came early done held t closed ended none =
    last-line giver taker line go.0 came early held t closed ended none
all-lines giver taker line (next ∷ lines) go came early done held t closed ended none =
    let l = go.0 in
    let g = and_then giver line.of_a in
    let k = and_then taker line.of_b in
    let more = steps_of (λ x. x.of_a) (next ∷ lines) in
    let is = over-is (λ x. x.of_a) g (next ∷ lines) in
    let got : delivered_since (got_to k) ≡ read_since giver.made (got_to g) =
    sym (append-nil (delivered_since (got_to k)))
    ∙ ap (λ ms. delivered_since (got_to k) ++ ms)
    (sym (none-left k next.of_b go.1.0.other go.1.0.starts))
    ∙ l.all more
    (done-back g.steps more (first_connection giver.made)
    (subst (λ (x : Ran). AreDone x.steps (first_connection giver.made)) is done))
    (over-next next lines go.1.0.one) held t closed
    (subst (λ (x : Ran). WasEnded x held t closed) is ended) none in
    all-lines g k next lines go.1
    (mail-more taker line.of_b l.other l.done_t
    ∙ (λ i. came i ++ got i)
    ∙ sym (read-more giver line.of_a l.one l.done_g))
    early done held t closed ended none
  where
    over-next : (x : LineSteps) (xs : List LineSteps) → IsOneLine x.of_a
        → LineIsOver (steps_of (λ y. y.of_a) (x ∷ xs))
    over-next x xs of = ends-so x.of_a (steps_of (λ y. y.of_a) xs) of

-- if there is no line, nothing was read, and nothing delivered or written
no-line : (giver taker : Ran) → AreDone taker.steps (first_connection taker.made)
    → IsNew (got_to giver).history → IsNew (got_to taker).history → Whole giver taker
unfolding Whole texts_of mail_in
no-line giver taker done none other =
    let f = giver.made.options.form in
    let max = giver.made.options.config.max in
    let read : read_all giver ≡ [] =
    ap (messages_of f max) none.input ∙ none-in-nothing f max in (
      (read_all giver, ap (λ ms. ms ++ read_all giver) other.mail),
      record {
        front = [];
        back = (got_to taker).history.shown;
        shown = refl;
        mail = read ∙ no-mail;
        text = begins-none taker.made.options.form;
      },
    )
  where
    no-mail : [] ≡ mail_in []
    no-mail = refl

    begins-none : (f : MessageForm) → Begins (texts_of f []) (got_to taker).history.written
    begins-none f = ((got_to taker).history.written, refl)

-- So if it wrote in binary, it has written exactly those messages.
writes-all : (giver taker : Ran) → AreDone giver.steps (first_connection giver.made)
    → AreDone taker.steps (first_connection taker.made)
    → (taker.made.options.acknowledge_early ≡ false → (held : BuffersView) (t : Traffic)
    → (closed : SessionView) → WasEnded giver held t closed → closed.course.lost ≡ 0
    → Whole giver taker)
    → AllInBinary giver taker
unfolding Whole
writes-all giver taker done_g done_t whole is early held other_held t other_t closed ended none b =
    let h = (got_to taker).history in
    let messages = messages_given giver.made t in
    let w = whole early held t closed ended none in
    let given : read_all giver ≡ messages =
    sym (given-read giver done_g held t closed ended none) in
    let front : texts_of taker.made.options.form w.1.front ≡ in_binary messages =
    ap (λ f. texts_of f w.1.front) is ∙ only_mail w.1.front ∙ ap in_binary (sym w.1.mail ∙ given) in
    let shown : h.written ++ h.session.output.waiting ≡ in_binary (mail_in h.shown) =
    (stays-done taker done_t).holds.text ∙ ap (λ f. texts_of f h.shown) is ∙ only_mail h.shown in
    let rest = w.0.0 in
    b.written
    ∙ sym
    (begins-both (in_binary messages) h.written w.1.text.0
    (h.session.output.waiting ++ in_binary rest)
    (ap (λ xs. xs ++ w.1.text.0) (sym front) ∙ w.1.text.1)
    (sym (append_assoc h.written h.session.output.waiting (in_binary rest))
    ∙ ap (λ xs. xs ++ in_binary rest) shown
    ∙ sym (binary_more (mail_in h.shown) rest)
    ∙ ap in_binary (w.0.1 ∙ given)))

writes-all-lines : (giver taker : Ran) → AreDone giver.steps (first_connection giver.made)
    → AreDone taker.steps (first_connection taker.made)
    → (taker.made.options.acknowledge_early ≡ false → (held : BuffersView) (t : Traffic)
    → (closed : SessionView) → WasEnded giver held t closed → closed.course.lost ≡ 0
    → Whole giver taker)
    → AllInDigits giver taker
unfolding Whole
writes-all-lines giver taker done_g done_t whole is early held other_held t other_t closed ended
    none b =
    let h = (got_to taker).history in
    let messages = messages_given giver.made t in
    let w = whole early held t closed ended none in
    let given : read_all giver ≡ messages =
    sym (given-read giver done_g held t closed ended none) in
    let x = w.1.text.0 in
    let rest = w.0.0 in
    let m = mails_first h.written h.session.output.waiting in
    let front : map encode_lower messages ++ mails_in x ≡ mails_in h.written =
    ap (λ ms. map encode_lower ms ++ mails_in x) (sym given ∙ w.1.mail)
    ∙ sym (all_tell w.1.front x)
    ∙ ap (λ f. mails_in (texts_of f w.1.front ++ x)) (sym is)
    ∙ ap mails_in w.1.text.1 in
    let shown : mails_in h.written ++ m.0 ≡ map encode_lower (mail_in h.shown) =
    m.1
    ∙ ap mails_in ((stays-done taker done_t).holds.text ∙ ap (λ f. texts_of f h.shown) is)
    ∙ digits_tell h.shown in
    ap mails_in b.written
    ∙ sym
    (begins-both (map encode_lower messages) (mails_in h.written) (mails_in x)
    (m.0 ++ map encode_lower rest) front
    (sym (append_assoc (mails_in h.written) m.0 (map encode_lower rest))
    ∙ ap (λ ms. ms ++ map encode_lower rest) shown
    ∙ sym (map_more (mail_in h.shown) rest)
    ∙ ap (map encode_lower) (w.0.1 ∙ given)))

-- ---- both ways

module _ (giver taker : Ran) (lines : List LineSteps) (go : AllCarried giver taker lines)
    (done_g : AreDone giver.steps (first_connection giver.made))
    (done_t : AreDone taker.steps (first_connection taker.made))
    (none_g : connections_in giver.steps ≡ 0) (none_t : connections_in taker.steps ≡ 0) where
  abbrev last-g : Ran
  last-g = over_lines (λ line. line.of_a) giver lines

  abbrev last-t : Ran
  last-t = over_lines (λ line. line.of_b) taker lines

  gone : Gone last-g last-t
  gone = over-all giver taker lines go (unconnected giver taker done_g done_t none_t)

  in-order : DeliversInOrder last-g last-t
  in-order = delivers last-g last-t gone.done_g gone.among

  written : BinaryInOrder last-g last-t
  written = writes last-g last-t gone.done_t in-order

  written-lines : DigitsInOrder last-g last-t
  written-lines = writes-lines last-g last-t gone.done_t in-order

  whole-of : taker.made.options.acknowledge_early ≡ false → (held : BuffersView) (t : Traffic)
      → (closed : SessionView) → WasEnded last-g held t closed → closed.course.lost ≡ 0
      → Whole last-g last-t
  unfolding over_lines
  whole-of early held t closed ended none = by lines go gone ended
    where
      came : mail_in (got_to taker).history.shown ≡ read_all giver
      came =
          (new-at taker done_t none_t).mail
          ∙ sym
          (ap (messages_of giver.made.options.form giver.made.options.config.max)
          (new-at giver done_g none_g).input
          ∙ none-in-nothing giver.made.options.form giver.made.options.config.max)

      by : (ls : List LineSteps) → AllCarried giver taker ls
          → Gone (over_lines (λ line. line.of_a) giver ls)
          (over_lines (λ line. line.of_b) taker ls)
          → WasEnded (over_lines (λ line. line.of_a) giver ls) held t closed
          → Whole (over_lines (λ line. line.of_a) giver ls)
          (over_lines (λ line. line.of_b) taker ls)
      by [] of is at =
          no-line giver taker done_t (new-at giver done_g none_g) (new-at taker done_t none_t)
      by (line ∷ rest) of is at =
          all-lines giver taker line rest of came early
          (subst (λ made. AreDone (over_lines (λ x. x.of_a) giver (line ∷ rest)).steps
          (first_connection made))
          (ap (λ (x : Ran). x.made) (over-is (λ x. x.of_a) giver (line ∷ rest))) is.done_g)
          held t closed at none

  made-t : last-t.made ≡ taker.made
  made-t = ap (λ (x : Ran). x.made) (over-is (λ line. line.of_b) taker lines)

  whole-last : last-t.made.options.acknowledge_early ≡ false → (held : BuffersView) (t : Traffic)
      → (closed : SessionView) → WasEnded last-g held t closed → closed.course.lost ≡ 0
      → Whole last-g last-t
  whole-last early =
      whole-of (ap (λ (m : Made). m.options.acknowledge_early) (sym made-t) ∙ early)

  all-written : AllInBinary last-g last-t
  all-written = writes-all last-g last-t gone.done_g gone.done_t whole-last

  all-lines-written : AllInDigits last-g last-t
  all-lines-written = writes-all-lines last-g last-t gone.done_g gone.done_t whole-last

pub record Kept (giver taker : Ran) : Type 0 where
  pub in_order : DeliversInOrder giver taker
  pub written : BinaryInOrder giver taker
  pub lines : DigitsInOrder giver taker
  pub all_written : AllInBinary giver taker
  pub all_lines : AllInDigits giver taker

kept : (giver taker : Ran) (lines : List LineSteps) → AllCarried giver taker lines
    → AreDone giver.steps (first_connection giver.made)
    → AreDone taker.steps (first_connection taker.made)
    → connections_in giver.steps ≡ 0 → connections_in taker.steps ≡ 0
    → Kept (over_lines (λ line. line.of_a) giver lines)
    (over_lines (λ line. line.of_b) taker lines)
kept giver taker lines go done_g done_t none_g none_t = record {
  in_order = in-order giver taker lines go done_g done_t none_g none_t;
  written = written giver taker lines go done_g done_t none_g none_t;
  lines = written-lines giver taker lines go done_g done_t none_g none_t;
  all_written = all-written giver taker lines go done_g done_t none_g none_t;
  all_lines = all-lines-written giver taker lines go done_g done_t none_g none_t;
}

pub kept-b : (a b : Ran) (lines : List LineSteps) → first_refusal a.made.options.config ≡ None
    → first_refusal b.made.options.config ≡ None → AreDone a.steps (first_connection a.made)
    → AreDone b.steps (first_connection b.made) → connections_in a.steps ≡ 0
    → connections_in b.steps ≡ 0 → GoOverLines a b lines
    → Kept (over_lines (λ line. line.of_a) a lines) (over_lines (λ line. line.of_b) b lines)
kept-b a b lines f g done_a done_b none_a none_b go =
    kept a b lines (carried-b a b lines f g go) done_a done_b none_a none_b

pub kept-a : (a b : Ran) (lines : List LineSteps) → first_refusal a.made.options.config ≡ None
    → first_refusal b.made.options.config ≡ None → AreDone a.steps (first_connection a.made)
    → AreDone b.steps (first_connection b.made) → connections_in a.steps ≡ 0
    → connections_in b.steps ≡ 0 → GoOverLines a b lines
    → Kept (over_lines (λ line. line.of_b) b lines) (over_lines (λ line. line.of_a) a lines)
kept-a a b lines f g done_a done_b none_a none_b go =
    subst (λ (x : Ran). Kept x (over_lines (λ line. line.of_a) a lines)) (swapped-a b lines)
    (subst (λ (x : Ran). Kept (over_lines (λ line. line.of_a) b (map swapped lines)) x)
    (swapped-b a lines)
    (kept b a (map swapped lines) (carried-a a b lines f g go) done_b done_a none_b none_a))
