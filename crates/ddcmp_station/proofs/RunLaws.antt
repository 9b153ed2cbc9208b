-- Turns of drive, from the first to the last.
use Rattle.std.proofs.Common.{◌≡◌, ℕ, ◌+◌, ◌<◌, ◌≤◌, List, [], ◌∷◌, ◌++◌, length, refl, sym, ◌∙◌}
use Rattle.std.proofs.Common.{ap, subst, append_assoc, append-nil, arith, length-append, Option}
use Rattle.std.proofs.Common.{None, Err}
use Rattle.std.proofs.KnownBytes.{Appends-nil, Appends-trans, Consumes-nil, Consumes-trans}
use Rattle.std.proofs.lemmas.Grind.{flat_map-append}
use Rattle.std.specs.Io.KnownBytes.{Appends, Consumes}
use Rattle.ddcmp_io.specs.declared.device.Worst.{Worst}
use Rattle.ddcmp_io.specs.declared.device.Worst.TheVariants.{Fine}
use Rattle.ddcmp_frame.specs.Reader.{StandsFor}
use Rattle.ddcmp_io.specs.declared.device.LineFault.{LineFault}
use Rattle.ddcmp_io.specs.declared.device.LineFault.TheVariants.{Read, Write, Ended, Memory}
use Rattle.ddcmp_station.specs.declared.driver.Tally.{Tally}
use Rattle.ddcmp_proto.specs.Station.{StationView}
use Rattle.ddcmp_station.specs.Driving.{DriveTurn, Driving, Devices, driving_from, core_after_halt}
use Rattle.ddcmp_station.specs.Driving.{before_read, after_turn, after_turns, bytes_read, moments}
use Rattle.ddcmp_station.specs.Driving.{read_answers, read_answer, ReadsInTurns, EndsAtFault}
use Rattle.ddcmp_station.specs.Driving.{Drives}
use Rattle.ddcmp_station.proofs.DriveLaws.{Logs-nil, Logs-trans, Calls-none, Calls-then}
use Rattle.ddcmp_frame.specs.Device.{Logs}
use Rattle.ddcmp_io.specs.declared.device.Got.{Got}
use Rattle.ddcmp_station.specs.UserCalls.{UserCall, Calls}
use Rattle.ddcmp_station.specs.Inside.Turns.{TakesTurn, BreaksTurn, TurnsSoFar}

driven-more : (ms syn : ℕ) (turns : List DriveTurn) (turn : DriveTurn) (d : Driving)
    → after_turns ms syn (turns ++ turn ∷ []) d
    ≡ after_turn ms syn turn (after_turns ms syn turns d)
unfolding after_turns
driven-more ms syn [] turn d = refl
driven-more ms syn (t ∷ turns) turn d = driven-more ms syn turns turn (after_turn ms syn t d)

driven-none : (ms syn : ℕ) (d : Driving) → after_turns ms syn [] d ≡ d
unfolding after_turns
driven-none ms syn d = refl

moments-more : (turns : List DriveTurn) (turn : DriveTurn)
    → moments (turns ++ turn ∷ []) ≡ moments turns ++ turn.now ∷ []
moments-more turns turn = flat_map-append (λ t. t.now ∷ []) turns (turn ∷ [])

read-more : (turns : List DriveTurn) (turn : DriveTurn)
    → read_answers (turns ++ turn ∷ []) ≡ read_answers turns ++ read_answer (length turn.came) ∷ []
read-more turns turn = flat_map-append (λ t. read_answer (length t.came) ∷ []) turns (turn ∷ [])

came-more : (turns : List DriveTurn) (turn : DriveTurn)
    → bytes_read (turns ++ turn ∷ []) ≡ bytes_read turns ++ turn.came
came-more turns turn =
    flat_map-append (λ t. t.came) turns (turn ∷ [])
    ∙ ap (λ l. bytes_read turns ++ l) (append-nil turn.came)

reads-more : (worst : Worst) (turns : List DriveTurn) (turn : DriveTurn) → ReadsInTurns worst turns
    → length turn.came ≤ 256 → (worst ≡ Fine → 0 < length turn.came)
    → ReadsInTurns worst (turns ++ turn ∷ [])
unfolding ReadsInTurns
reads-more worst [] turn h s f = (s, f, tt)
reads-more worst (t ∷ turns) turn h s f = (h.0, h.1, reads-more worst turns turn h.2 s f)

reads-none : (worst : Worst) → ReadsInTurns worst []
unfolding ReadsInTurns
reads-none worst = tt

-- a source that is fine was so before
reads-later : (worst later : Worst) (turns : List DriveTurn) → (later ≡ Fine → worst ≡ Fine)
    → ReadsInTurns worst turns → ReadsInTurns later turns
unfolding ReadsInTurns
reads-later worst later [] e h = tt
reads-later worst later (t ∷ turns) e h = (h.0, λ f. h.1 (e f), reads-later worst later turns e h.2)

abbrev pub devices : Option (List ℕ) → Option (List ℕ) → Worst → Option (List ℕ) → Option (List ℕ)
    → Option (List ℕ) → Option (List ℕ) → Option (List Got) → Option (List Got) → Devices
devices left left_after worst sink sink_after told told_after answers answers_after =
    record {
      left = left;
      left_after = left_after;
      worst = worst;
      sink = sink;
      sink_after =
          sink_after;
      told =
          told;
      told_after = told_after;
      answers = answers;
      answers_after = answers_after;
    }

pub none-so-far : {U : Type 0} (becomes : U → UserCall → U → Type 0) (user : U) (ms : ℕ)
    (old : StationView) (left sink told : Option (List ℕ)) (answers : Option (List Got))
    (worst : Worst)
    → TurnsSoFar ms 0 old old (record { deadline = None; read = 0; written = 0 })
    (devices left left worst sink sink told told answers answers) (Calls becomes user user)
none-so-far becomes user ms old left sink told answers worst = record {
  turns = [];
  written = [];
  seen = [];
  count_is = refl;
  read_is = refl;
  written_is = refl;
  took = record {
    reads = reads-none worst;
    consumed = Consumes-nil left;
    appended = Appends-nil sink;
    clocked = Appends-nil told;
    answered = Logs-nil answers;
    shown = Calls-none becomes user;
    syn = refl;
    limits = refl;
    offset = omega arith;
    stands = λ text s. subst (StandsFor old.line) (sym (append-nil text)) s;
    driven_is = λ text s.
        driven-none ms old.syn (driving_from old.core text)
        ∙ ap (λ t. record { core = old.core; text = t; deadline = None; written = []; seen = [] })
        (sym (append-nil text));
  };
}

pub one-more : {U : Type 0} (becomes : U → UserCall → U → Type 0) (user user_mid user_after : U)
    (ms count : ℕ) (old mid new : StationView) (tally after : Tally)
    (left left_mid left_after sink sink_mid sink_after told told_mid told_after : Option (List ℕ))
    (answers answers_mid answers_after : Option (List Got)) (worst_mid worst_after : Worst)
    → TurnsSoFar ms count old mid tally
    (devices left left_mid worst_mid sink sink_mid told told_mid answers answers_mid)
    (Calls becomes user user_mid)
    → TakesTurn ms mid new tally after worst_mid
    (devices left_mid left_after worst_after sink_mid sink_after told_mid told_after answers_mid
    answers_after) (Calls becomes user_mid user_after)
    → TurnsSoFar ms (count + 1) old new after
    (devices left left_after worst_after sink sink_after told told_after answers answers_after)
    (Calls becomes user user_after)
one-more becomes user user_mid user_after ms count old mid new tally after left left_mid left_after
    sink sink_mid sink_after told told_mid told_after answers answers_mid answers_after worst_mid
    worst_after h t =
    let more = came-more h.turns t.turn in
    record {
      turns = h.turns ++ t.turn ∷ [];
      written = h.written ++ t.frame;
      seen = h.seen ++ t.sights;
      count_is = omega (arith, length-append h.turns (t.turn ∷ []), h.count_is);
      read_is =
          omega (
            arith,
            ap length more,
            length-append (bytes_read h.turns) t.turn.came,
            t.read,
            h.read_is,
          );
      written_is = omega (arith, length-append h.written t.frame, t.written, h.written_is);
      took = record {
        reads =
            reads-more worst_after h.turns t.turn
            (reads-later worst_mid worst_after h.turns (λ e. (t.fine e).0) h.took.reads) t.short
            (λ e. (t.fine e).1);
        consumed =
            subst (Consumes left left_after) (sym more)
            (Consumes-trans left left_mid left_after _ _ h.took.consumed t.consumed);
        appended = Appends-trans sink sink_mid sink_after _ _ h.took.appended t.appended;
        clocked =
            subst (Appends told told_after) (sym (moments-more h.turns t.turn))
            (Appends-trans told told_mid told_after _ _ h.took.clocked t.clocked);
        answered =
            subst (Logs answers answers_after) (sym (read-more h.turns t.turn))
            (Logs-trans answers answers_mid answers_after _ _ h.took.answered t.answered);
        shown = Calls-then becomes user user_mid user_after _ _ h.took.shown t.shown;
        syn = t.syn ∙ h.took.syn;
        limits = t.limits ∙ h.took.limits;
        offset =
            omega (
              arith,
              t.offset,
              h.took.offset,
              ap length more,
              length-append (bytes_read h.turns) t.turn.came,
            );
        stands = λ text s.
            subst (StandsFor new.line)
            (append_assoc text (bytes_read h.turns) t.turn.came
            ∙ ap (λ p. text ++ p) (sym more))
            (t.stands (text ++ bytes_read h.turns) (h.took.stands text s));
        driven_is = λ text s.
            driven-more ms old.syn h.turns t.turn (driving_from old.core text)
            ∙ ap (after_turn ms old.syn t.turn) (h.took.driven_is text s)
            ∙ ap
            (λ n. after_turn ms n t.turn
            (record {
              core = mid.core;
              text = text ++ bytes_read h.turns;
              deadline = tally.deadline;
              written = h.written;
              seen = h.seen;
            })) (sym h.took.syn)
            ∙ t.turned_is (text ++ bytes_read h.turns) h.written h.seen (h.took.stands text s)
            ∙ ap
            (λ
            x. record {
              core = new.core;
              text = x;
              deadline = after.deadline;
              written = h.written ++ t.frame;
              seen = h.seen ++ t.sights;
            })
            (append_assoc text (bytes_read h.turns) t.turn.came ∙ ap (λ p. text ++ p) (sym more));
      };
    }

pub broke : {U : Type 0} (becomes : U → UserCall → U → Type 0) (user user_mid user_after : U)
    (ms count turns : ℕ) (old mid new halted : StationView) (tally : Tally)
    (left left_mid left_after sink sink_mid sink_after told told_mid told_after : Option (List ℕ))
    (answers answers_mid answers_after : Option (List Got)) (worst_mid worst_after : Worst)
    (fault : LineFault)
    → TurnsSoFar ms count old mid tally
    (devices left left_mid worst_mid sink sink_mid told told_mid answers answers_mid)
    (Calls becomes user user_mid) → count < turns
    → BreaksTurn ms mid new tally worst_mid
    (devices left_mid left_after worst_after sink_mid sink_after told_mid told_after answers_mid
    answers_after) (Calls becomes user_mid user_after) fault
    → halted ≡ record new { core = core_after_halt new.core }
    → EndsAtFault ms turns old halted
    (devices left left_after worst_after sink sink_after told told_after answers answers_after)
    (Calls becomes user user_after) fault
broke becomes user user_mid user_after ms count turns old mid new halted tally left left_mid
    left_after sink sink_mid sink_after told told_mid told_after answers answers_mid answers_after
    worst_mid worst_after fault h few b e = (
      h.turns,
      b.last,
      h.written,
      b.frame,
      b.sent,
      h.seen ++ b.sights,
      omega (arith, few, h.count_is),
      b.sent_is,
      record {
        reads = reads-later worst_mid worst_after h.turns b.fine h.took.reads;
        consumed =
            subst (Consumes left left_after) (append-nil (bytes_read h.turns))
            (Consumes-trans left left_mid left_after _ _ h.took.consumed b.consumed);
        appended = Appends-trans sink sink_mid sink_after _ _ h.took.appended b.appended;
        clocked = Appends-trans told told_mid told_after _ _ h.took.clocked b.clocked;
        answered = Logs-trans answers answers_mid answers_after _ _ h.took.answered b.answered;
        shown = Calls-then becomes user user_mid user_after _ _ h.took.shown b.shown;
        syn = ap (λ v. v.syn) e ∙ b.syn ∙ h.took.syn;
        limits = ap (λ v. v.core.limits) e ∙ b.limits ∙ h.took.limits;
        offset = ap (λ v. v.line.offset) e ∙ ap (λ l. l.offset) b.line ∙ h.took.offset;
        stands =
            λ text s. subst (λ l. StandsFor l (text ++ bytes_read h.turns))
            (sym (ap (λ v. v.line) e ∙ b.line)) (h.took.stands text s);
        core =
            λ text s. ap (λ v. v.core) e ∙ sym (ap (λ d. core_after_halt d.core) (last_is text s));
        written_is = λ text s. ap (λ d. d.written) (h.took.driven_is text s);
        frame_is = λ text s. ap (λ d. d.written) (last_is text s);
        seen_is = λ text s. ap (λ d. d.seen) (last_is text s);
      },
    )
  where
    last_is : (text : List ℕ) → StandsFor old.line text
        → before_read ms old.syn b.last
        (after_turns ms old.syn h.turns (driving_from old.core text))
        ≡ record {
          core = new.core;
          text = text ++ bytes_read h.turns;
          deadline = b.deadline;
          written = h.written ++ b.frame;
          seen = h.seen ++ b.sights;
        }
    last_is text s =
        ap (before_read ms old.syn b.last) (h.took.driven_is text s)
        ∙ ap
        (λ n. before_read ms n b.last
        (record {
          core = mid.core;
          text = text ++ bytes_read h.turns;
          deadline = tally.deadline;
          written = h.written;
          seen = h.seen;
        })) (sym h.took.syn)
        ∙ b.before_is (text ++ bytes_read h.turns) h.written h.seen

pub ends-so : (ms turns : ℕ) (old new : StationView) (dev : Devices) (saw : List UserCall → Type 0)
    (fault : LineFault) → EndsAtFault ms turns old new dev saw fault
    → Drives ms turns old new dev saw (Err fault)
ends-so ms turns old new dev saw Read h = h
ends-so ms turns old new dev saw Write h = h
ends-so ms turns old new dev saw Ended h = h
ends-so ms turns old new dev saw Memory h = tt
