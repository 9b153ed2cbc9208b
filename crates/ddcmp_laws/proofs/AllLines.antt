-- Two runs over one line after the other: over each line the messages delivered are a prefix of
-- those read, so those of all lines are among them.
use Rattle.std.proofs.Common.{◌≡◌, ◌∙◌, inl, inr, ap, sym, subst, refl, ℕ, List, [], ◌∷◌, ◌++◌}
use Rattle.std.proofs.Common.{append-nil, append_assoc, drop, map, None, arith, suc, take, zero}
use Rattle.std.specs.Prelude.{⊤}
use Rattle.ddcmp_proto.specs.Config.{first_refusal}
use Rattle.ddcmp_session.specs.Calls.{Connected, SessionStep}
use Rattle.ddcmp_session.specs.Connections.{AreDone, Connection, after_all, after_step}
use Rattle.ddcmp_laws.specs.AllLines.{AreAmong, DeliversInOrder, DigitsInOrder, GoOverLines}
use Rattle.ddcmp_laws.specs.AllLines.{IsOneLine, LineSteps, BinaryInOrder, and_then, over_lines}
use Rattle.ddcmp_laws.specs.Connected.{IsBareBefore, connections_in}
use Rattle.ddcmp_io.specs.declared.carrier.End.{End}
use Rattle.ddcmp_io.specs.declared.carrier.End.TheVariants.{A, B}
use Rattle.ddcmp_laws.specs.Connections.{AreCalls, Connections, after_step_at, PipesAnew}
use Rattle.ddcmp_laws.specs.Connections.{delivered_since, first_connection, read_since}
use Rattle.ddcmp_laws.specs.EachLine.{DeliversLine, WritesLine}
use Rattle.ddcmp_laws.specs.LastConnection.{StartsLast}
use Rattle.ddcmp_laws.specs.SessionRuns.{Ran, calls_if, calls_of, got_to}
use Rattle.ddcmp_laws.specs.Sessions.{mail_in, messages_of, texts_of}
use Rattle.ddcmp_laws.proofs.Anew.{Stays, stays_all, stays_first}
use Rattle.ddcmp_laws.proofs.Given.{gave_more, messages_more, unread}
use Rattle.ddcmp_laws.proofs.LastRuns.{runs-together}
use Rattle.ddcmp_laws.proofs.LastSteps.{after-same}
use Rattle.ddcmp_laws.proofs.OneConnection.{IsNew, first-bare, first-new, stays-new, step-once}
use Rattle.ddcmp_laws.proofs.RunLaws.{lines-to-a, lines-to-b, pipes-to-a, pipes-to-b, writes-line-a}
use Rattle.ddcmp_laws.proofs.RunLaws.{writes-line-b}
use Rattle.ddcmp_laws.proofs.MailLaws.{mails_first}
use Rattle.ddcmp_laws.proofs.ShownLines.{digits_tell}
use Rattle.ddcmp_laws.proofs.Texts.{only_mail}
use Rattle.ddcmp_laws.specs.MailLines.{mails_in}

-- ---- messages among others

late : (ms : List (List ℕ)) (one : List ℕ) (all : List (List ℕ)) → AreAmong ms all
    → AreAmong ms (one ∷ all)
late [] one all among = tt
late (m ∷ ms) one all among = inr among

then-among : (ms all ns more : List (List ℕ)) → AreAmong ms all → AreAmong ns more
    → AreAmong (ms ++ ns) (all ++ more)
then-among [] [] ns more p q = q
then-among [] (one ∷ all) ns more p q =
    late ns one (all ++ more) (then-among [] all ns more tt q)
then-among (m ∷ ms) [] ns more p q = absurd p
then-among (m ∷ ms) (one ∷ all) ns more (inl p) q =
    inl (p.0, then-among ms all ns more p.1 q)
then-among (m ∷ ms) (one ∷ all) ns more (inr p) q = inr (then-among (m ∷ ms) all ns more p q)

all-among : (ms more : List (List ℕ)) → AreAmong ms (ms ++ more)
all-among [] more = tt
all-among (m ∷ ms) more = inl (refl, all-among ms more)

more-among : (ms all more : List (List ℕ)) → AreAmong ms all → AreAmong ms (all ++ more)
more-among ms all more p =
    subst (λ xs. AreAmong xs (all ++ more)) (append-nil ms) (then-among ms all [] more p tt)

-- ---- a line

after-both : (xs ys : List SessionStep) (c : Connection)
    → after_all (xs ++ ys) c ≡ after_all ys (after_all xs c)
unfolding after_all
after-both [] ys c = refl
after-both (x ∷ xs) ys c = after-both xs ys (after_step x c)

-- what was read, and shown, before the session was connected
keeps-before : (steps : List SessionStep) (c : Connection) → connections_in steps ≡ 0
    → ((after_all steps c).input_before ≡ c.input_before)
    × ((after_all steps c).shown_before ≡ c.shown_before)
unfolding after_all connections_in
keeps-before [] c none = (refl, refl)
keeps-before (step ∷ rest) c none =
    let same = after-same step.call step.session c (omega (arith, none)) in
    let r = keeps-before rest (after_step step c) (omega (arith, none)) in (
      r.0 ∙ ap (λ (x : Connection). x.input_before) same,
      r.1 ∙ ap (λ (x : Connection). x.shown_before) same,
    )

begins-line : (steps : List SessionStep) (c : Connection) → IsOneLine steps
    → ((after_all steps c).input_before ≡ c.history.input)
    × ((after_all steps c).shown_before ≡ c.history.shown)
unfolding after_all
begins-line [] c of = absurd of
begins-line (step ∷ rest) c of =
    let is : after_step step c
    ≡ after_step (record { call = Connected; session = step.session }) c =
    ap (λ call. after_step (record { call = call; session = step.session }) c) of.0 in
    let k = keeps-before rest (after_step step c) of.1 in (
      k.0 ∙ ap (λ (x : Connection). x.input_before) is ∙ append-nil c.history.input,
      k.1 ∙ ap (λ (x : Connection). x.shown_before) is ∙ append-nil c.history.shown,
    )

-- ---- over all lines

-- the messages read from the input
abbrev pub read_all : Ran → List (List ℕ)
read_all ran =
    messages_of ran.made.options.form ran.made.options.config.max (got_to ran).history.input

abbrev pub Among : Ran → Ran → Type 0
Among giver taker = AreAmong (mail_in (got_to taker).history.shown) (read_all giver)

pub stays-done : (ran : Ran) → AreDone ran.steps (first_connection ran.made)
    → Stays ran.made (got_to ran)
stays-done ran done =
    stays_all ran.made ran.steps (first_connection ran.made) done (stays_first ran.made)

-- what is read, and delivered, over one more line
pub read-more : (giver : Ran) (gave : List SessionStep) → IsOneLine gave
    → AreDone (giver.steps ++ gave) (first_connection giver.made)
    → read_all (and_then giver gave)
    ≡ read_all giver ++ read_since giver.made (got_to (and_then giver gave))
read-more giver gave one done =
    let f = giver.made.options.form in
    let max = giver.made.options.config.max in
    (stays-done (and_then giver gave) done).read
    ∙ ap
    (λ xs. messages_of f max xs ++ read_since giver.made (got_to (and_then giver gave)))
    (ap (λ (x : Connection). x.input_before)
    (after-both giver.steps gave (first_connection giver.made))
    ∙ (begins-line gave (got_to giver) one).0)

pub shown-before : (taker : Ran) (took : List SessionStep) → IsOneLine took
    → (got_to (and_then taker took)).shown_before ≡ (got_to taker).history.shown
shown-before taker took other =
    ap (λ (x : Connection). x.shown_before)
    (after-both taker.steps took (first_connection taker.made))
    ∙ (begins-line took (got_to taker) other).1

pub mail-more : (taker : Ran) (took : List SessionStep) → IsOneLine took
    → AreDone (taker.steps ++ took) (first_connection taker.made)
    → mail_in (got_to (and_then taker took)).history.shown
    ≡ mail_in (got_to taker).history.shown ++ delivered_since (got_to (and_then taker took))
mail-more taker took other done =
    (stays-done (and_then taker took) done).delivered
    ∙ ap (λ xs. mail_in xs ++ delivered_since (got_to (and_then taker took)))
    (shown-before taker took other)

-- so they are among those read after it, too
one-more : (giver taker : Ran) (gave took : List SessionStep) → IsOneLine gave → IsOneLine took
    → AreDone (giver.steps ++ gave) (first_connection giver.made)
    → AreDone (taker.steps ++ took) (first_connection taker.made)
    → PipesAnew giver.made (got_to (and_then giver gave)) (got_to (and_then taker took))
    → Among giver taker → Among (and_then giver gave) (and_then taker took)
one-more giver taker gave took one other done_g done_t pipes among =
    let mail = mail_in (got_to taker).history.shown in
    let more = delivered_since (got_to (and_then taker took)) in
    let since = read_since giver.made (got_to (and_then giver gave)) in
    subst (λ ms. AreAmong ms (read_all (and_then giver gave)))
    (sym (mail-more taker took other done_t))
    (subst (λ ms. AreAmong (mail ++ more) ms) (sym (read-more giver gave one done_g))
    (then-among mail (read_all giver) more since among
    (subst (λ ms. AreAmong more ms) pipes.1 (all-among more pipes.0))))

-- what is known of a line: what one end has delivered, and that it has received and written all
-- once the line of the other is over
pub record Carried (giver taker : Ran) (line : LineSteps) : Type 0 where
  pub one : IsOneLine line.of_a
  pub other : IsOneLine line.of_b
  pub done_g : AreDone (giver.steps ++ line.of_a) (first_connection giver.made)
  pub done_t : AreDone (taker.steps ++ line.of_b) (first_connection taker.made)
  pub starts : StartsLast (taker.steps ++ line.of_b) (first_connection taker.made)
  pub pipes : PipesAnew giver.made (got_to (and_then giver line.of_a))
      (got_to (and_then taker line.of_b))
  pub all : DeliversLine (and_then giver line.of_a) (and_then taker line.of_b)
  pub written : WritesLine (and_then giver line.of_a) (and_then taker line.of_b)

abbrev pub AllCarried : Ran → Ran → List LineSteps → Type 0
AllCarried giver taker [] = ⊤
AllCarried giver taker (line ∷ rest) =
    Carried giver taker line
    × AllCarried (and_then giver line.of_a) (and_then taker line.of_b) rest

pub carried-b : (a b : Ran) (lines : List LineSteps) → first_refusal a.made.options.config ≡ None
    → first_refusal b.made.options.config ≡ None → GoOverLines a b lines → AllCarried a b lines
carried-b a b [] f g go = tt
carried-b a b (line ∷ rest) f g go =
    let l = go.0 in
    let a' = and_then a line.of_a in
    let b' = and_then b line.of_b in
    let ran = runs-together a' b' f g l.done_a l.done_b l.starts_a l.starts_b l.streams in (
      record {
        one = l.one_a;
        other = l.one_b;
        done_g = l.done_a;
        done_t = l.done_b;
        starts = l.starts_b;
        pipes = pipes-to-b a' b' f g l.done_a l.done_b ran;
        all = lines-to-b a' b' f g l.done_a l.done_b ran;
        written = writes-line-b a' b' f g l.done_a l.done_b ran;
      },
      carried-b a' b' rest f g go.1,
    )

-- the other way
abbrev pub swapped : LineSteps → LineSteps
swapped line = record { of_a = line.of_b; of_b = line.of_a }

pub carried-a : (a b : Ran) (lines : List LineSteps) → first_refusal a.made.options.config ≡ None
    → first_refusal b.made.options.config ≡ None → GoOverLines a b lines
    → AllCarried b a (map swapped lines)
carried-a a b [] f g go = tt
carried-a a b (line ∷ rest) f g go =
    let l = go.0 in
    let a' = and_then a line.of_a in
    let b' = and_then b line.of_b in
    let ran = runs-together a' b' f g l.done_a l.done_b l.starts_a l.starts_b l.streams in (
      record {
        one = l.one_b;
        other = l.one_a;
        done_g = l.done_b;
        done_t = l.done_a;
        starts = l.starts_a;
        pipes = pipes-to-a a' b' f g l.done_a l.done_b ran;
        all = lines-to-a a' b' f g l.done_a l.done_b ran;
        written = writes-line-a a' b' f g l.done_a l.done_b ran;
      },
      carried-a a' b' rest f g go.1,
    )

pub swapped-a : (ran : Ran) (lines : List LineSteps)
    → over_lines (λ line. line.of_a) ran (map swapped lines)
    ≡ over_lines (λ line. line.of_b) ran lines
unfolding over_lines
swapped-a ran [] = refl
swapped-a ran (line ∷ rest) = swapped-a (and_then ran line.of_b) rest

pub swapped-b : (ran : Ran) (lines : List LineSteps)
    → over_lines (λ line. line.of_b) ran (map swapped lines)
    ≡ over_lines (λ line. line.of_a) ran lines
unfolding over_lines
swapped-b ran [] = refl
swapped-b ran (line ∷ rest) = swapped-b (and_then ran line.of_a) rest

-- what holds of two runs after their lines
pub record Gone (giver taker : Ran) : Type 0 where
  pub done_g : AreDone giver.steps (first_connection giver.made)
  pub done_t : AreDone taker.steps (first_connection taker.made)
  pub among : Among giver taker

pub over-all : (giver taker : Ran) (lines : List LineSteps) → AllCarried giver taker lines
    → Gone giver taker
    → Gone (over_lines (λ line. line.of_a) giver lines)
    (over_lines (λ line. line.of_b) taker lines)
unfolding over_lines
over-all giver taker [] go gone = gone
over-all giver taker (line ∷ rest) go gone =
    let l = go.0 in
    over-all (and_then giver line.of_a) (and_then taker line.of_b) rest go.1
    (record {
      done_g = l.done_g;
      done_t = l.done_t;
      among =
          one-more giver taker line.of_a line.of_b l.one l.other l.done_g l.done_t l.pipes
          gone.among;
    })

-- a session that no call connects delivers nothing
all-new : (steps : List SessionStep) (c : Connection) → AreDone steps c → connections_in steps ≡ 0
    → IsBareBefore c → IsNew c.history → IsNew (after_all steps c).history
unfolding after_all connections_in
all-new [] c does none bare new = new
all-new (step ∷ rest) c does none bare new =
    let s = step-once step.call step.session rest c does.0 (inl none) bare in
    all-new rest (after_step step c) does.1 (omega (arith, none)) s.3
    (subst IsNew (sym s.1)
    (stays-new step.call step.session c.history (omega (arith, none)) s.0 new))

-- two runs before their lines
pub new-at : (ran : Ran) → AreDone ran.steps (first_connection ran.made)
    → connections_in ran.steps ≡ 0 → IsNew (got_to ran).history
new-at ran done none =
    all-new ran.steps (first_connection ran.made) done none (first-bare ran.made)
    (first-new ran.made)

pub unconnected : (giver taker : Ran) → AreDone giver.steps (first_connection giver.made)
    → AreDone taker.steps (first_connection taker.made) → connections_in taker.steps ≡ 0
    → Gone giver taker
unconnected giver taker done_g done_t none = record {
  done_g = done_g;
  done_t = done_t;
  among =
      subst (λ ms. AreAmong ms (read_all giver)) (sym (new-at taker done_t none).mail) tt;
}

-- ---- over devices

pub delivers : (giver taker : Ran) → AreDone giver.steps (first_connection giver.made)
    → Among giver taker → DeliversInOrder giver taker
delivers giver taker done among held t agrees =
    let f = giver.made.options.form in
    let max = giver.made.options.config.max in
    let h = (got_to giver).history in
    let kind = (stays-done giver done).holds.kind in
    let m = messages_more f max h.input (unread f h.is_told held) in
    subst (λ ms. AreAmong (mail_in (got_to taker).history.shown) ms)
    (sym m.1
    ∙ ap (messages_of f max) (sym (gave_more f h held t kind agrees)))
    (more-among (mail_in (got_to taker).history.shown) (read_all giver) m.0 among)

pub writes : (giver taker : Ran) → AreDone taker.steps (first_connection taker.made)
    → DeliversInOrder giver taker → BinaryInOrder giver taker
writes giver taker done order is held other_held t other_t a b =
    let h = (got_to taker).history in
    let waiting = h.session.output.waiting in (
      mail_in h.shown,
      order held t a,
      (
        waiting,
        ap (λ xs. xs ++ waiting) b.written
            ∙ (stays-done taker done).holds.text
            ∙ ap (λ x. texts_of x h.shown) is
            ∙ only_mail h.shown,
      ),
    )

pub writes-lines : (giver taker : Ran) → AreDone taker.steps (first_connection taker.made)
    → DeliversInOrder giver taker → DigitsInOrder giver taker
writes-lines giver taker done order is held other_held t other_t a b =
    let h = (got_to taker).history in
    let m = mails_first h.written h.session.output.waiting in (
      mail_in h.shown,
      order held t a,
      (
        m.0,
        ap (λ xs. mails_in xs ++ m.0) b.written
            ∙ m.1
            ∙ ap mails_in
            ((stays-done taker done).holds.text ∙ ap (λ x. texts_of x h.shown) is)
            ∙ digits_tell h.shown,
      ),
    )

-- ---- the calls of two runs, parted

pub done-front : (xs ys : List SessionStep) (c : Connection) → AreDone (xs ++ ys) c → AreDone xs c
done-front [] ys c done = tt
done-front (x ∷ xs) ys c done = (done.0, done-front xs ys (after_step x c) done.1)

pub calls-done : (steps : List (End × SessionStep)) (p : Connections) → AreCalls steps p
    → AreDone (calls_of A steps) p.a × AreDone (calls_of B steps) p.b
unfolding calls_of
calls-done [] p are = (tt, tt)
calls-done ((A, step) ∷ rest) p are =
    let r = calls-done rest (after_step_at A step p) are.1 in ((are.0, r.0), r.1)
calls-done ((B, step) ∷ rest) p are =
    let r = calls-done rest (after_step_at B step p) are.1 in (r.0, (are.0, r.1))

pub calls-split : (e : End) (n : ℕ) (steps : List (End × SessionStep))
    → calls_of e (take n steps) ++ calls_of e (drop n steps) ≡ calls_of e steps
unfolding calls_of
calls-split e zero steps = refl
calls-split e (suc n) [] = refl
calls-split e (suc n) (step ∷ rest) =
    append_assoc (calls_if e step.0 step.1) (calls_of e (take n rest)) (calls_of e (drop n rest))
    ∙ ap (λ xs. calls_if e step.0 step.1 ++ xs) (calls-split e n rest)
