-- Turns of drive, one after another.
use Rattle.std.proofs.Common.{◌≡◌, ◌≢◌, Bool, true, false, cond, ◌&&◌, ℕ, ◌+◌, ◌<◌, ◌≤◌, List, []}
use Rattle.std.proofs.Common.{◌∷◌, ◌++◌, length, take, drop, refl, sym, ◌∙◌, ap, subst}
use Rattle.std.proofs.Common.{append_assoc, append-nil, Option, None, Some, Ok, Err}
use Rattle.std.proofs.KnownBytes.{Consumes-nil, Consumes-kept}
use Rattle.std.proofs.Math.Seq.{take-add}
use Rattle.std.proofs.lemmas.List.{take_all}
use Rattle.std.specs.Io.KnownBytes.{Appends, Consumes, Keeps}
use Rattle.ddcmp_io.specs.declared.device.Worst.{Worst}
use Rattle.ddcmp_io.specs.declared.device.Worst.TheVariants.{Fine}
use Rattle.ddcmp_frame.specs.Reader.{StandsFor}
use Rattle.ddcmp_core.specs.Core.{CoreView}
use Rattle.ddcmp_proto.specs.Bytes.{after_piece, notices_of_piece, after_poll}
use Rattle.ddcmp_proto.specs.Station.{StationView}
use Rattle.ddcmp_core.specs.Table.{next_frame, next, is_on}
use Rattle.ddcmp_io.specs.declared.device.LineFault.{LineFault}
use Rattle.ddcmp_io.specs.declared.device.LineFault.TheVariants.{Read, Write, Ended, Memory}
use Rattle.ddcmp_station.specs.declared.driver.Tally.{Tally}
use Rattle.ddcmp_station.specs.Driving.{Devices, IsSentPart, deadline_at, is_due, core_after_expire}
use Rattle.ddcmp_station.specs.Driving.{core_after_take_arm, core_at_deadline, core_after_message}
use Rattle.ddcmp_station.specs.Driving.{frame_bytes, core_after_mail, before_read, after_read}
use Rattle.ddcmp_station.specs.Driving.{read_answer, last_read_answer}
use Rattle.ddcmp_frame.specs.Device.{Logs}
use Rattle.ddcmp_io.specs.declared.device.Got.{Got}
use Rattle.ddcmp_station.specs.UserCalls.{UserCall, Calls, calls_of_offer, calls_of_notices}
use Rattle.ddcmp_station.specs.UserCalls.{calls_of_mail, TellsPiece}
use Rattle.ddcmp_station.specs.Inside.Turns.{WritesFrame, TakesTurn, BreaksTurn}
use Rattle.ddcmp_proto.proofs.FeedLaws.{after_piece-none, after_piece-append}

pub Logs-nil : {A : Type 0} (a : Option (List A)) → Logs a a []
Logs-nil None = tt
Logs-nil (Some x) = sym (append-nil x)

pub Logs-trans : {A : Type 0} (a b c : Option (List A)) (xs ys : List A) → Logs a b xs → Logs b c ys
    → Logs a c (xs ++ ys)
Logs-trans None b c xs ys p q = tt
Logs-trans (Some x) None c xs ys p q = absurd p
Logs-trans (Some x) (Some y) None xs ys p q = absurd q
Logs-trans (Some x) (Some y) (Some z) xs ys p q = q ∙ ap (λ l. l ++ ys) p ∙ append_assoc x xs ys

-- a user came by these calls and then by those
pub Calls-then : {U : Type 0} (becomes : U → UserCall → U → Type 0) (old mid new : U)
    (xs ys : List UserCall) → Calls becomes old mid xs → Calls becomes mid new ys
    → Calls becomes old new (xs ++ ys)
unfolding Calls
Calls-then becomes old mid new [] ys p q = subst (λ u. Calls becomes u new ys) (sym p) q
Calls-then becomes old mid new (x ∷ xs) ys p q =
    (p.0, p.1, Calls-then becomes p.0 mid new xs ys p.2 q)

pub Calls-none : {U : Type 0} (becomes : U → UserCall → U → Type 0) (user : U)
    → Calls becomes user user []
unfolding Calls
Calls-none becomes user = refl

pub Calls-one : {U : Type 0} (becomes : U → UserCall → U → Type 0) (old new : U) (call : UserCall)
    → becomes old call new → Calls becomes old new (call ∷ [])
unfolding Calls
Calls-one becomes old new call h = (new, h, refl)

pub take_then : (xs : List ℕ) (i n : ℕ) → take i xs ++ take n (drop i xs) ≡ take (i + n) xs
take_then xs i n = sym (take-add i n xs)

-- ---- a piece of the line, part by part

pub record FedTo (old : StationView) (part : List ℕ) (new : StationView) : Type 0 where
  pub stands : (text : List ℕ) → StandsFor old.line text → StandsFor new.line (text ++ part)
  pub state : (text : List ℕ) → StandsFor old.line text → new.core ≡ after_piece text part old.core

pub fed-to-nothing : (old : StationView) → FedTo old [] old
fed-to-nothing old = record {
  stands = λ text s. subst (StandsFor old.line) (sym (append-nil text)) s;
  state = λ text s. sym (after_piece-none text old.core);
}

pub fed-then : (old mid new : StationView) (u v : List ℕ) → FedTo old u mid → FedTo mid v new
    → FedTo old (u ++ v) new
fed-then old mid new u v a b = record {
  stands =
      λ text s. subst (StandsFor new.line) (append_assoc text u v)
      (b.stands (text ++ u) (a.stands text s));
  state =
      λ text s. b.state (text ++ u) (a.stands text s)
      ∙ ap (after_piece (text ++ u) v) (a.state text s)
      ∙ sym (after_piece-append text u v old.core);
}

pub fed-more : (old mid new : StationView) (piece : List ℕ) (at used : ℕ)
    → FedTo old (take at piece) mid → FedTo mid (take used (drop at piece)) new
    → FedTo old (take (at + used) piece) new
fed-more old mid new piece at used a b =
    subst (λ p. FedTo old p new) (take_then piece at used) (fed-then old mid new _ _ a b)

pub fed-whole : (old new : StationView) (piece : List ℕ) (at : ℕ) → length piece ≤ at
    → FedTo old (take at piece) new → FedTo old piece new
fed-whole old new piece at all a = subst (λ p. FedTo old p new) (take_all at piece all) a

-- ---- one turn

-- what a write that failed wrote
pub some-sent : (a b : Option (List ℕ)) (bytes : List ℕ) (fault : LineFault)
    → WritesFrame a b bytes (Err fault)
    → (sent : List ℕ) × IsSentPart fault sent bytes × Appends a b sent
some-sent a b bytes Read w = absurd w
some-sent a b bytes Write w = (take w.0 bytes, (w.0, refl), w.1)
some-sent a b bytes Ended w = absurd w
some-sent a b bytes Memory w = absurd w

-- after a whole frame
pub all-sent : (fault : LineFault) (frame : List ℕ) → fault ≢ Write → fault ≢ Memory
    → IsSentPart fault frame frame
all-sent Read frame w m = refl
all-sent Write frame w m = absurd (w refl)
all-sent Ended frame w m = refl
all-sent Memory frame w m = absurd (m refl)

in-time-limits : (now : ℕ) (deadline : Option ℕ) (k : CoreView)
    → (core_at_deadline now deadline k).limits ≡ k.limits
in-time-limits now deadline k = by (is_on k.station.timer && is_due now deadline)
  where
    by : (b : Bool) → (cond b (core_after_expire k) k).limits ≡ k.limits
    by true = refl
    by false = refl

-- a turn up to its read: the station before its frame, and after it
pub record Stepped (ms now : ℕ) (offered : List ℕ) (old two three : StationView)
    (before after : Option ℕ) : Type 0 where
  pub after_is : after ≡ deadline_at ms now old.core.station.timer before
  pub two_is : two.core
      ≡ core_after_message offered
      (core_at_deadline now (deadline_at ms now old.core.station.timer before)
      (core_after_take_arm old.core))
  pub kept_is : three.core ≡ after_poll two.core
  pub two_syn : two.syn ≡ old.syn
  pub syn : three.syn ≡ old.syn
  pub line : three.line ≡ old.line

pub stepped : (ms now : ℕ) (offered : List ℕ) (old one two three : StationView)
    (before after : Option ℕ)
    → after ≡ deadline_at ms now old.core.station.timer before
    → one
    ≡ record old {
      core = core_at_deadline now (deadline_at ms now old.core.station.timer before)
          (core_after_take_arm old.core);
    }
    → two ≡ record one { core = core_after_message offered one.core }
    → three ≡ record two { core = after_poll two.core }
    → Stepped ms now offered old two three before after
stepped ms now offered old one two three before after d e1 e2 e3 = record {
  after_is = d;
  two_is = ap (λ v. v.core) e2 ∙ ap (λ v. core_after_message offered v.core) e1;
  kept_is = ap (λ v. v.core) e3;
  two_syn = ap (λ v. v.syn) e2 ∙ ap (λ v. v.syn) e1;
  syn = ap (λ v. v.syn) e3 ∙ ap (λ v. v.syn) e2 ∙ ap (λ v. v.syn) e1;
  line = ap (λ v. v.line) e3 ∙ ap (λ v. v.line) e2 ∙ ap (λ v. v.line) e1;
}

pub stepped-limits : (ms now : ℕ) (offered : List ℕ) (old two three : StationView)
    (before after : Option ℕ) → Stepped ms now offered old two three before after
    → three.core.limits ≡ old.core.limits
stepped-limits ms now offered old two three before after h =
    ap (λ k. k.limits) h.kept_is ∙ ap (λ k. k.limits) h.two_is
    ∙ in-time-limits now (deadline_at ms now old.core.station.timer before)
    (core_after_take_arm old.core)

stepped-is : (ms now : ℕ) (offered came : List ℕ) (old two three : StationView)
    (before after : Option ℕ) → Stepped ms now offered old two three before after
    → (text written : List ℕ) (seen : List UserCall)
    → before_read ms old.syn (record { now = now; offered = offered; came = came })
    (record { core = old.core; text = text; deadline = before; written = written; seen = seen })
    ≡ record {
      core = three.core;
      text = text;
      deadline = after;
      written =
          written ++ frame_bytes old.syn (next_frame (next two.core.station));
      seen =
          seen
          ++ calls_of_offer
          (core_at_deadline now (deadline_at ms now old.core.station.timer before)
          (core_after_take_arm old.core)) offered;
    }
stepped-is ms now offered came old two three before after h text written seen =
    let d = deadline_at ms now old.core.station.timer before in
    ap
    (λ
    k. record {
      core = after_poll k;
      text = text;
      deadline = d;
      written =
          written ++ frame_bytes old.syn (next_frame (next k.station));
      seen =
          seen
          ++ calls_of_offer
          (core_at_deadline now (deadline_at ms now old.core.station.timer before)
          (core_after_take_arm old.core)) offered;
    }) (sym h.two_is)
    ∙ ap
    (λ
    k. record {
      core = k;
      text = text;
      deadline = d;
      written =
          written ++ frame_bytes old.syn (next_frame (next two.core.station));
      seen =
          seen
          ++ calls_of_offer
          (core_at_deadline now (deadline_at ms now old.core.station.timer before)
          (core_after_take_arm old.core)) offered;
    }) (sym h.kept_is)
    ∙ ap
    (λ
    x. record {
      core = three.core;
      text = text;
      deadline = x;
      written =
          written ++ frame_bytes old.syn (next_frame (next two.core.station));
      seen =
          seen
          ++ calls_of_offer
          (core_at_deadline now (deadline_at ms now old.core.station.timer before)
          (core_after_take_arm old.core)) offered;
    }) (sym h.after_is)

pub broke-turn : (ms now : ℕ) (offered sent : List ℕ) (old two three : StationView)
    (after : Option ℕ) (before : Tally) (worst : Worst) (devices : Devices)
    (saw : List UserCall → Type 0) (fault : LineFault)
    → Stepped ms now offered old two three before.deadline after
    → IsSentPart fault sent (frame_bytes old.syn (next_frame (next two.core.station)))
    → Consumes devices.left devices.left_after [] → Appends devices.sink devices.sink_after sent
    → Appends devices.told devices.told_after (now ∷ [])
    → Logs devices.answers devices.answers_after (last_read_answer fault)
    → saw
    (calls_of_offer
    (core_at_deadline now (deadline_at ms now old.core.station.timer before.deadline)
    (core_after_take_arm old.core)) offered) → (devices.worst ≡ Fine → worst ≡ Fine)
    → BreaksTurn ms old three before worst devices saw fault
broke-turn ms now offered sent old two three after before worst devices saw fault h s c a m l o f =
    record {
      last = record { now = now; offered = offered; came = [] };
      frame = frame_bytes old.syn (next_frame (next two.core.station));
      sent = sent;
      sent_is = s;
      consumed = c;
      appended = a;
      clocked = m;
      answered = l;
      sights =
          calls_of_offer
          (core_at_deadline now (deadline_at ms now old.core.station.timer before.deadline)
          (core_after_take_arm old.core)) offered;
      shown = o;
      fine = f;
      syn = h.syn;
      limits = stepped-limits ms now offered old two three before.deadline after h;
      line = h.line;
      deadline = after;
      before_is = stepped-is ms now offered [] old two three before.deadline after h;
    }

pub took-turn : {U : Type 0} (becomes : U → UserCall → U → Type 0) (user user_mid user_after : U)
    (ms now : ℕ) (offered came : List ℕ) (old two three new : StationView) (before after : Tally)
    (worst : Worst) (devices : Devices)
    → Stepped ms now offered old two three before.deadline after.deadline
    → length came ≤ 256 → (devices.worst ≡ Fine → (worst ≡ Fine) × (0 < length came))
    → Consumes devices.left devices.left_after came
    → Appends devices.sink devices.sink_after
    (frame_bytes old.syn (next_frame (next two.core.station)))
    → Appends devices.told devices.told_after (now ∷ [])
    → Logs devices.answers devices.answers_after (read_answer (length came) ∷ [])
    → Calls becomes user user_mid
    (calls_of_offer
    (core_at_deadline now (deadline_at ms now old.core.station.timer before.deadline)
    (core_after_take_arm old.core)) offered) → TellsPiece becomes three came user_mid user_after
    → after.read ≡ before.read + length came
    → after.written
    ≡ before.written + length (frame_bytes old.syn (next_frame (next two.core.station)))
    → new.syn ≡ three.syn → new.core.limits ≡ three.core.limits
    → new.line.offset ≡ three.line.offset + length came
    → ((text : List ℕ) → StandsFor three.line text → StandsFor new.line (text ++ came))
    → ((text : List ℕ) → StandsFor three.line text
    → new.core ≡ core_after_mail (after_piece text came three.core))
    → TakesTurn ms old new before after worst devices (Calls becomes user user_after)
took-turn becomes user user_mid user_after ms now offered came old two three new before after worst
    devices h short fine c a m l o q r w syn limits offset stands state = record {
      turn = record { now = now; offered = offered; came = came };
      frame = frame_bytes old.syn (next_frame (next two.core.station));
      short = short;
      fine = fine;
      consumed = c;
      appended = a;
      clocked = m;
      answered = l;
      sights =
          calls_of_offer
          (core_at_deadline now (deadline_at ms now old.core.station.timer before.deadline)
          (core_after_take_arm old.core)) offered ++ q.0;
      shown = Calls-then becomes user user_mid user_after _ q.0 o q.1;
      read = r;
      written = w;
      syn = syn ∙ h.syn;
      limits =
          limits ∙ stepped-limits ms now offered old two three before.deadline after.deadline h;
      offset = offset ∙ ap (λ l. l.offset + length came) h.line;
      stands = λ text s. stands text (subst (λ l. StandsFor l text) (sym h.line) s);
      turned_is = λ text written seen s.
          ap (after_read came)
          (stepped-is ms now offered came old two three before.deadline after.deadline h text
          written seen)
          ∙ ap
          (λ
          k. record {
            core = k;
            text = text ++ came;
            deadline = after.deadline;
            written =
                written ++ frame_bytes old.syn (next_frame (next two.core.station));
            seen =
                (seen
                ++ calls_of_offer
                (core_at_deadline now (deadline_at ms now old.core.station.timer before.deadline)
                (core_after_take_arm old.core)) offered)
                ++ (calls_of_notices (notices_of_piece text came three.core)
                ++ calls_of_mail (after_piece text came three.core));
          })
          (sym (state text (subst (λ l. StandsFor l text) (sym h.line) s)))
          ∙ ap
          (λ
          x. record {
            core = new.core;
            text = text ++ came;
            deadline = after.deadline;
            written = written ++ frame_bytes old.syn (next_frame (next two.core.station));
            seen = x;
          })
          (ap
          (λ
          x. (seen
          ++ calls_of_offer
          (core_at_deadline now (deadline_at ms now old.core.station.timer before.deadline)
          (core_after_take_arm old.core)) offered) ++ x)
          (q.2 text (subst (λ l. StandsFor l text) (sym h.line) s))
          ∙ append_assoc seen
          (calls_of_offer
          (core_at_deadline now (deadline_at ms now old.core.station.timer before.deadline)
          (core_after_take_arm old.core)) offered) q.0);
    }

-- no read was made
no-read : (a b : Option (List ℕ)) (bytes : List ℕ) (answers : Option (List Got)) (fault : LineFault)
    → WritesFrame a b bytes (Err fault) → Logs answers answers (last_read_answer fault)
no-read a b bytes answers Read w = absurd w
no-read a b bytes answers Write w = Logs-nil answers
no-read a b bytes answers Ended w = absurd w
no-read a b bytes answers Memory w = absurd w

-- a write failed
pub broke-sending : (ms now : ℕ) (offered : List ℕ) (old two three : StationView) (after : Option ℕ)
    (before : Tally) (left sink sink_after told told_after : Option (List ℕ))
    (answers : Option (List Got)) (saw : List UserCall → Type 0) (worst : Worst) (fault : LineFault)
    → Stepped ms now offered old two three before.deadline after
    → WritesFrame sink sink_after (frame_bytes two.syn (next_frame (next two.core.station)))
    (Err fault) → Appends told told_after (now ∷ [])
    → saw
    (calls_of_offer
    (core_at_deadline now (deadline_at ms now old.core.station.timer before.deadline)
    (core_after_take_arm old.core)) offered)
    → BreaksTurn ms old three before worst
    (record {
      left = left;
      left_after = left;
      worst = worst;
      sink = sink;
      sink_after = sink_after;
      told = told;
      told_after = told_after;
      answers = answers;
      answers_after = answers;
    })
    saw fault
broke-sending ms now offered old two three after before left sink sink_after told told_after answers
    saw worst fault h w m o =
    let s =
    some-sent sink sink_after (frame_bytes old.syn (next_frame (next two.core.station))) fault
    (subst
    (λ n. WritesFrame sink sink_after (frame_bytes n (next_frame (next two.core.station)))
    (Err fault)) h.two_syn w) in
    broke-turn ms now offered s.0 old two three after before worst _ saw fault h s.1
    (Consumes-nil left) s.2 m (no-read _ _ _ answers fault w) o (λ e. e)

-- a read failed or gave no bytes
pub broke-hearing : (ms now n : ℕ) (offered : List ℕ) (old two three new : StationView)
    (after : Option ℕ) (before : Tally)
    (left left_after sink sink_after told told_after : Option (List ℕ))
    (answers answers_after : Option (List Got)) (saw : List UserCall → Type 0)
    (worst worst_after : Worst) (fault : LineFault)
    → Stepped ms now offered old two three before.deadline after
    → WritesFrame sink sink_after (frame_bytes two.syn (next_frame (next two.core.station))) (Ok n)
    → Appends told told_after (now ∷ []) → Logs answers answers_after (last_read_answer fault)
    → saw
    (calls_of_offer
    (core_at_deadline now (deadline_at ms now old.core.station.timer before.deadline)
    (core_after_take_arm old.core)) offered)
    → new ≡ three → Keeps left left_after → fault ≢ Write → fault ≢ Memory
    → (worst_after ≡ Fine → worst ≡ Fine)
    → BreaksTurn ms old new before worst
    (record {
      left = left;
      left_after = left_after;
      worst = worst_after;
      sink = sink;
      sink_after =
          sink_after;
      told =
          told;
      told_after = told_after;
      answers = answers;
      answers_after = answers_after;
    }) saw fault
broke-hearing ms now n offered old two three new after before left left_after sink sink_after told
    told_after answers answers_after saw worst worst_after fault h w m l o e k nw nm f =
    let x =
    subst (λ n. Appends sink sink_after (frame_bytes n (next_frame (next two.core.station))))
    h.two_syn w.1 in
    subst
    (λ v. BreaksTurn ms old v before worst
    (record {
      left = left;
      left_after = left_after;
      worst = worst_after;
      sink = sink;
      sink_after =
          sink_after;
      told =
          told;
      told_after = told_after;
      answers = answers;
      answers_after = answers_after;
    })
    saw fault) (sym e)
    (broke-turn ms now offered _ old two three after before worst _ saw fault h
    (all-sent fault _ nw nm) (Consumes-kept left left left_after [] (Consumes-nil left) k)
    x m l o f)

-- all went well
pub took-hearing : {U : Type 0} (becomes : U → UserCall → U → Type 0) (user user_mid user_after : U)
    (ms now n : ℕ) (offered came : List ℕ) (old two three new : StationView) (before : Tally)
    (deadline : Option ℕ) (left left_after sink sink_after told told_after : Option (List ℕ))
    (answers answers_after : Option (List Got)) (worst worst_after : Worst) {read : ℕ}
    → Stepped ms now offered old two three before.deadline deadline
    → length came ≤ 256 → read ≡ length came → (worst_after ≡ Fine → (worst ≡ Fine) × (0 < read))
    → Consumes left left_after came
    → WritesFrame sink sink_after (frame_bytes two.syn (next_frame (next two.core.station))) (Ok n)
    → Appends told told_after (now ∷ []) → Logs answers answers_after (read_answer read ∷ [])
    → Calls becomes user user_mid
    (calls_of_offer
    (core_at_deadline now (deadline_at ms now old.core.station.timer before.deadline)
    (core_after_take_arm old.core)) offered) → TellsPiece becomes three came user_mid user_after
    → new.syn ≡ three.syn → new.core.limits ≡ three.core.limits
    → new.line.offset ≡ three.line.offset + read
    → ((text : List ℕ) → StandsFor three.line text → StandsFor new.line (text ++ came))
    → ((text : List ℕ) → StandsFor three.line text
    → new.core ≡ core_after_mail (after_piece text came three.core))
    → TakesTurn ms old new before
    (record { deadline = deadline; read = before.read + read; written = before.written + n })
    worst
    (record {
      left = left;
      left_after = left_after;
      worst = worst_after;
      sink = sink;
      sink_after =
          sink_after;
      told =
          told;
      told_after = told_after;
      answers = answers;
      answers_after = answers_after;
    })
    (Calls becomes user user_after)
took-hearing becomes user user_mid user_after ms now n offered came old two three new before
    deadline left left_after sink sink_after told told_after answers answers_after worst worst_after
    {read} h short r f c w m l o q syn limits offset stands state =
    let w' =
    subst
    (λ k. WritesFrame sink sink_after (frame_bytes k (next_frame (next two.core.station)))
    (Ok n)) h.two_syn w in
    took-turn becomes user user_mid user_after ms now offered came old two three new before _ worst
    _ h short (λ e. let p = f e in (p.0, subst (λ k. 0 < k) r p.1)) c w'.1 m
    (subst (λ k. Logs answers answers_after (read_answer k ∷ [])) r l) o q
    (ap (λ k. before.read + k) r) (ap (λ k. before.written + k) w'.0) syn limits
    (offset ∙ ap (λ k. three.line.offset + k) r) stands state
