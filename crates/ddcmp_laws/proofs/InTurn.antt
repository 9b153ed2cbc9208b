-- Calls of `drive` that are made one after another, over streams.
use Rattle.std.proofs.Common.{◌≡◌, ℕ, List, [], ◌∷◌, ◌++◌, map, refl, sym, ◌∙◌, ap, subst}
use Rattle.std.proofs.Common.{append_assoc, append-nil, Option, None}
use Rattle.ddcmp_core.specs.Table.{next, next_frame}
use Rattle.ddcmp_proto.specs.declared.config.Config.{Config}
use Rattle.ddcmp_station.specs.UserCalls.{UserCall}
use Rattle.ddcmp_station.specs.Driving.{Driving, frame_bytes}
use Rattle.ddcmp_io.specs.declared.carrier.End.{End}
use Rattle.ddcmp_io.specs.declared.carrier.End.TheVariants.{A, B}
use Rattle.ddcmp_pair.specs.Run.{EndState, PairState, new_end, new_pair}
use Rattle.ddcmp_laws.specs.Faithful.{bytes_of, written, IsFaithful}
use Rattle.ddcmp_laws.specs.Prefix.{Begins}
use Rattle.ddcmp_laws.specs.PairCalls.{Call, Start, Halt, Send, Poll, Arrive, Expire, Take, Arm}
use Rattle.ddcmp_laws.specs.PairCalls.{Ask}
use Rattle.ddcmp_laws.specs.PairCalls.{after_call_here, after_calls_here, after_call, calls_at}
use Rattle.ddcmp_laws.specs.Driven.{shown_in, DriveCall, calls_of_drive, after_drive}
use Rattle.ddcmp_laws.specs.Driven.{calls_of_drives, begun, AreDriven}
use Rattle.ddcmp_laws.specs.Streams.{OverStreams, drives_if, drives_at, ReadsWhatIsWritten}
use Rattle.ddcmp_laws.specs.Streams.{driven_a, driven_b, DrivenInTurn}
use Rattle.ddcmp_laws.proofs.Turning.{at_end, Went, went_on, frame_written}

-- ---- calls of one end

abbrev pub at_one : End → List Call → List (End × Call)
at_one end calls = map (λ c. (end, c)) calls

pub own_a : (calls : List Call) (rest : List (End × Call))
    → calls_at A (at_one A calls ++ rest) ≡ calls ++ calls_at A rest
unfolding calls_at
own_a [] rest = refl
own_a (c ∷ calls) rest = ap (λ y. c ∷ y) (own_a calls rest)

pub own_b : (calls : List Call) (rest : List (End × Call))
    → calls_at B (at_one B calls ++ rest) ≡ calls ++ calls_at B rest
unfolding calls_at
own_b [] rest = refl
own_b (c ∷ calls) rest = ap (λ y. c ∷ y) (own_b calls rest)

pub other_a : (calls : List Call) (rest : List (End × Call))
    → calls_at A (at_one B calls ++ rest) ≡ calls_at A rest
unfolding calls_at
other_a [] rest = refl
other_a (c ∷ calls) rest = other_a calls rest

pub other_b : (calls : List Call) (rest : List (End × Call))
    → calls_at B (at_one A calls ++ rest) ≡ calls_at B rest
unfolding calls_at
other_b [] rest = refl
other_b (c ∷ calls) rest = other_b calls rest

-- ---- what arrived and what was written grow

begins_same : (a : List ℕ) → Begins a a
begins_same a = ([], append-nil a)

pub begins_more : (a b c : List ℕ) → Begins a b → Begins b c → Begins a c
begins_more a b c p q = (p.0 ++ q.0, sym (append_assoc a p.0 q.0) ∙ ap (λ x. x ++ q.0) p.1 ∙ q.1)

call_reads : (c : Call) (x : EndState) → Begins x.arrived (after_call_here c x).arrived
call_reads Start x = begins_same x.arrived
call_reads Halt x = begins_same x.arrived
call_reads (Send m) x = begins_same x.arrived
call_reads Poll x = begins_same x.arrived
call_reads (Arrive bytes) x = (bytes, refl)
call_reads Expire x = begins_same x.arrived
call_reads Take x = begins_same x.arrived
call_reads Arm x = begins_same x.arrived
call_reads Ask x = begins_same x.arrived

call_writes : (c : Call) (x : EndState) → Begins (written x) (written (after_call_here c x))
call_writes Start x = begins_same (written x)
call_writes Halt x = begins_same (written x)
call_writes (Send m) x = begins_same (written x)
call_writes Poll x = (
  frame_bytes x.syn (next_frame (next x.core.station)),
  sym (frame_written x.syn x.sent (next_frame (next x.core.station))),
)
call_writes (Arrive bytes) x = begins_same (written x)
call_writes Expire x = begins_same (written x)
call_writes Take x = begins_same (written x)
call_writes Arm x = begins_same (written x)
call_writes Ask x = begins_same (written x)

call_syn : (c : Call) (x : EndState) → (after_call_here c x).syn ≡ x.syn
call_syn Start x = refl
call_syn Halt x = refl
call_syn (Send m) x = refl
call_syn Poll x = refl
call_syn (Arrive bytes) x = refl
call_syn Expire x = refl
call_syn Take x = refl
call_syn Arm x = refl
call_syn Ask x = refl

calls_read : (calls : List Call) (x : EndState)
    → Begins x.arrived (after_calls_here calls x).arrived
unfolding after_calls_here
calls_read [] x = begins_same x.arrived
calls_read (c ∷ rest) x =
    begins_more x.arrived (after_call_here c x).arrived
    (after_calls_here rest (after_call_here c x)).arrived (call_reads c x)
    (calls_read rest (after_call_here c x))

calls_syn : (calls : List Call) (x : EndState) → (after_calls_here calls x).syn ≡ x.syn
unfolding after_calls_here
calls_syn [] x = refl
calls_syn (c ∷ rest) x = calls_syn rest (after_call_here c x) ∙ call_syn c x

-- ---- calls at one end over streams

pub over_a : (calls : List Call) (rest : List (End × Call)) (p : PairState)
    → Begins (after_calls_here calls p.a).arrived (written p.b) → Begins p.b.arrived (written p.a)
    → ((q : PairState) → q.a ≡ after_calls_here calls p.a → q.b ≡ p.b → IsFaithful q
    → OverStreams rest q) → IsFaithful p → OverStreams (at_one A calls ++ rest) p
unfolding after_calls_here
over_a [] rest p to_a to_b more f = more p refl refl f
over_a (c ∷ calls) rest p to_a to_b more f =
    let q = after_call A c p in
    let g : IsFaithful q = record {
      to_a =
          begins_more q.a.arrived (after_calls_here calls q.a).arrived (written p.b)
          (calls_read calls q.a) to_a;
      to_b = begins_more p.b.arrived (written p.a) (written q.a) to_b (call_writes c p.a);
    } in
    (g, over_a calls rest q to_a g.to_b more g)

pub over_b : (calls : List Call) (rest : List (End × Call)) (p : PairState)
    → Begins (after_calls_here calls p.b).arrived (written p.a) → Begins p.a.arrived (written p.b)
    → ((q : PairState) → q.b ≡ after_calls_here calls p.b → q.a ≡ p.a → IsFaithful q
    → OverStreams rest q) → IsFaithful p → OverStreams (at_one B calls ++ rest) p
unfolding after_calls_here
over_b [] rest p to_b to_a more f = more p refl refl f
over_b (c ∷ calls) rest p to_b to_a more f =
    let q = after_call B c p in
    let g : IsFaithful q = record {
      to_b =
          begins_more q.b.arrived (after_calls_here calls q.b).arrived (written p.a)
          (calls_read calls q.b) to_b;
      to_a = begins_more p.a.arrived (written p.b) (written q.b) to_a (call_writes c p.b);
    } in
    (g, over_b calls rest q to_b g.to_a more g)

-- ---- an end and a driven station go together

record Together (m : ℕ) (x : EndState) (d : Driving) : Type 0 where
  deadline : Option ℕ
  seen : List UserCall
  is : d ≡ at_end x deadline (written x) seen
  syn : x.syn ≡ m

abbrev Kept : (call : DriveCall) (x : EndState) → ℕ → Driving → Type 0
Kept call x m d =
    Together m (after_calls_here (calls_of_drive m call d.core d.text) x) (after_drive m call d)

goes_on : (m : ℕ) (call : DriveCall) (x : EndState) (d : Driving) → Together m x d → Kept call x m d
goes_on m call x d t =
    let e = at_end x t.deadline (written x) t.seen in
    let calls = calls_of_drive x.syn call x.core x.arrived in
    let w : Went calls x (written x) t.seen (after_drive x.syn call e) =
    went_on call x t.deadline (written x) t.seen in
    let one : Kept call x x.syn e = record {
      deadline = w.deadline;
      seen = t.seen ++ shown_in calls x;
      is =
          w.is
          ∙ ap (λ y. at_end (after_calls_here calls x) w.deadline y (t.seen ++ shown_in calls x))
          (sym w.wrote);
      syn = calls_syn calls x;
    } in
    subst (λ n. Kept call x n d) t.syn (subst (λ z. Kept call x x.syn z) (sym t.is) one)

-- ---- the calls of all

abbrev calls_one : End → ℕ → ℕ → DriveCall → Driving → Driving → List Call
calls_one A m n call a b = calls_of_drive m call a.core a.text
calls_one B m n call a b = calls_of_drive n call b.core b.text

in_turn : ℕ → ℕ → List (End × DriveCall) → Driving → Driving → List (End × Call)
in_turn m n [] a b = []
in_turn m n (step ∷ rest) a b =
    at_one step.0 (calls_one step.0 m n step.1 a b)
    ++ in_turn m n rest (driven_a step.0 m step.1 a) (driven_b step.0 n step.1 b)

turn_at_a : (m n : ℕ) (drives : List (End × DriveCall)) (a b : Driving)
    → calls_at A (in_turn m n drives a b) ≡ calls_of_drives m (drives_at A drives) a
unfolding in_turn calls_at calls_of_drives drives_at
turn_at_a m n [] a b = refl
turn_at_a m n (step ∷ rest) a b =
    by step.0 step.1 (turn_at_a m n rest (driven_a step.0 m step.1 a) (driven_b step.0 n step.1 b))
  where
    by : (end : End) (call : DriveCall)
        → calls_at A (in_turn m n rest (driven_a end m call a) (driven_b end n call b))
        ≡ calls_of_drives m (drives_at A rest) (driven_a end m call a)
        → calls_at A
        (at_one end (calls_one end m n call a b)
        ++ in_turn m n rest (driven_a end m call a) (driven_b end n call b))
        ≡ calls_of_drives m (drives_if A end call ++ drives_at A rest) a
    by A call e =
        own_a (calls_of_drive m call a.core a.text) _
        ∙ ap (λ y. calls_of_drive m call a.core a.text ++ y) e
    by B call e = other_a (calls_of_drive n call b.core b.text) _ ∙ e

turn_at_b : (m n : ℕ) (drives : List (End × DriveCall)) (a b : Driving)
    → calls_at B (in_turn m n drives a b) ≡ calls_of_drives n (drives_at B drives) b
unfolding in_turn calls_at calls_of_drives drives_at
turn_at_b m n [] a b = refl
turn_at_b m n (step ∷ rest) a b =
    by step.0 step.1 (turn_at_b m n rest (driven_a step.0 m step.1 a) (driven_b step.0 n step.1 b))
  where
    by : (end : End) (call : DriveCall)
        → calls_at B (in_turn m n rest (driven_a end m call a) (driven_b end n call b))
        ≡ calls_of_drives n (drives_at B rest) (driven_b end n call b)
        → calls_at B
        (at_one end (calls_one end m n call a b)
        ++ in_turn m n rest (driven_a end m call a) (driven_b end n call b))
        ≡ calls_of_drives n (drives_if B end call ++ drives_at B rest) b
    by A call e = other_b (calls_of_drive m call a.core a.text) _ ∙ e
    by B call e =
        own_b (calls_of_drive n call b.core b.text) _
        ∙ ap (λ y. calls_of_drive n call b.core b.text ++ y) e

text_is : (m : ℕ) (x : EndState) (d : Driving) → Together m x d → d.text ≡ x.arrived
text_is m x d t = ap (λ (e : Driving). e.text) t.is

written_is : (m : ℕ) (x : EndState) (d : Driving) → Together m x d → d.written ≡ written x
written_is m x d t = ap (λ (e : Driving). e.written) t.is

over_turns : (m n : ℕ) (drives : List (End × DriveCall)) (a b : Driving) (p : PairState)
    → Together m p.a a → Together n p.b b → IsFaithful p → DrivenInTurn m n drives a b
    → OverStreams (in_turn m n drives a b) p
unfolding in_turn
over_turns m n [] a b p s t f h = tt
over_turns m n (step ∷ rest) a b p s t f h =
    by step.0 step.1 (over_turns m n rest (driven_a step.0 m step.1 a) (driven_b step.0 n step.1 b))
    h.0 h.1
  where
    by : (end : End) (call : DriveCall)
        → ((q : PairState) → Together m q.a (driven_a end m call a)
        → Together n q.b (driven_b end n call b) → IsFaithful q
        → DrivenInTurn m n rest (driven_a end m call a) (driven_b end n call b)
        → OverStreams (in_turn m n rest (driven_a end m call a) (driven_b end n call b)) q)
        → ReadsWhatIsWritten end m n call a b
        → DrivenInTurn m n rest (driven_a end m call a) (driven_b end n call b)
        → OverStreams
        (at_one end (calls_one end m n call a b)
        ++ in_turn m n rest (driven_a end m call a) (driven_b end n call b)) p
    by A call more reads later =
        let calls = calls_of_drive m call a.core a.text in
        let x = after_calls_here calls p.a in
        let d = after_drive m call a in
        let u : Together m x d = goes_on m call p.a a s in
        let to_a : Begins x.arrived (written p.b) =
        subst (λ y. Begins y (written p.b)) (text_is m x d u)
        (subst (λ y. Begins d.text y) (written_is n p.b b t) reads) in
        over_a calls (in_turn m n rest d b) p to_a f.to_b
        (λ q e g k. more q (subst (λ y. Together m y d) (sym e) u)
        (subst (λ y. Together n y b) (sym g) t) k later) f
    by B call more reads later =
        let calls = calls_of_drive n call b.core b.text in
        let x = after_calls_here calls p.b in
        let d = after_drive n call b in
        let u : Together n x d = goes_on n call p.b b t in
        let to_b : Begins x.arrived (written p.a) =
        subst (λ y. Begins y (written p.a)) (text_is n x d u)
        (subst (λ y. Begins d.text y) (written_is m p.a a s) reads) in
        over_b calls (in_turn m n rest a d) p to_b f.to_a
        (λ q e g k. more q (subst (λ y. Together m y a) (sym g) s)
        (subst (λ y. Together n y d) (sym e) u) k later) f

-- ---- from two new stations

nothing_written : (fill : ℕ) → [] ≡ bytes_of fill []
unfolding bytes_of
nothing_written fill = refl

begun_together : (config : Config)
    → Together config.syn (after_call_here Start (new_end config)) (begun config)
begun_together config = record {
  deadline = None;
  seen = [];
  is =
      ap (λ y. at_end (after_call_here Start (new_end config)) None y [])
      (nothing_written config.syn);
  syn = refl;
}

module _ (first second : Config) (drives : List (End × DriveCall))
    (h : DrivenInTurn first.syn second.syn drives (begun first) (begun second)) where
  pub all_calls : List (End × Call)
  all_calls =
      (A, Start) ∷ (B, Start) ∷ in_turn first.syn second.syn drives (begun first) (begun second)

  both_started : PairState
  both_started = after_call B Start (after_call A Start (new_pair first second))

  started_faithful : (p : PairState) → p.a.arrived ≡ [] → p.b.arrived ≡ [] → IsFaithful p
  started_faithful p e f = record {
    to_a = (written p.b, ap (λ x. x ++ written p.b) e);
    to_b = (written p.a, ap (λ x. x ++ written p.a) f);
  }

  pub all_driven : AreDriven first second (drives_at A drives) (drives_at B drives) all_calls
  unfolding all_calls calls_at
  all_driven = record {
    at_a = ap (λ y. Start ∷ y) (turn_at_a first.syn second.syn drives (begun first) (begun second));
    at_b = ap (λ y. Start ∷ y) (turn_at_b first.syn second.syn drives (begun first) (begun second));
  }

  pub all_over : OverStreams all_calls (new_pair first second)
  unfolding all_calls both_started
  all_over = (
    started_faithful (after_call A Start (new_pair first second)) refl refl,
    (
      started_faithful both_started refl refl,
      over_turns first.syn second.syn drives (begun first) (begun second) both_started
          (begun_together first) (begun_together second)
          (started_faithful both_started refl refl) h,
    ),
  )
