-- What commands come to.
use Rattle.std.proofs.Common.{◌≡◌, ◌≤◌, ℕ, Bool, true, false, List, [], ◌∷◌, ◌++◌, length, drop}
use Rattle.std.proofs.Common.{refl, sym, ap, subst, ◌∙◌, Option, Some, None, Result, Ok, Err, inl}
use Rattle.std.proofs.Common.{inr}
use Rattle.std.specs.Prelude.{◌⊎◌, codes, IsOk, OnErr, MatchOption}
use Rattle.std.specs.Borrow.{Bor}
use Rattle.ddcmp_core.specs.Store.{first_message}
use Rattle.std.proofs.lemmas.List.{append-nil}
use Rattle.ddcmp_io.specs.Device.{Logs}
use Rattle.ddcmp_io.specs.Written.{Output, HandsOver, output_of}
use Rattle.ddcmp_line.specs.declared.command.ScriptCommand.{ScriptCommand}
use Rattle.ddcmp_line.specs.declared.command.ScriptCommand.TheVariants.{Happens, Carry, Lose}
use Rattle.ddcmp_line.specs.declared.command.ScriptCommand.TheVariants.{Damage, Raw, Settle}
use Rattle.ddcmp_line.specs.declared.command.ScriptCommand.TheVariants.{Recover, State}
use Rattle.ddcmp_line.specs.declared.command.ParsedLine.TheVariants.{Asks}
use Rattle.ddcmp_io.specs.declared.carrier.End.{End}
use Rattle.ddcmp_io.specs.declared.carrier.End.TheVariants.{A, B}
use Rattle.ddcmp_pair.specs.declared.event.Event.{Event}
use Rattle.ddcmp_pair.specs.declared.event.Event.TheVariants as event
use Rattle.ddcmp_pair.specs.declared.event.Reply.{Reply}
use Rattle.ddcmp_line.specs.declared.performer.Undone.{Undone}
use Rattle.ddcmp_line.specs.declared.performer.Undone.TheVariants.{Memory}
use Rattle.ddcmp_pair.specs.Run.{PairState, at, end_of, reply_to, after_event, asks_memory, run}
use Rattle.ddcmp_pair.specs.Settle.{WantsMemory}
use Rattle.ddcmp_line.specs.ScriptText.{end_name, name_before, reply_text, counted_line}
use Rattle.ddcmp_line.specs.ScriptText.{station_line}
use Rattle.ddcmp_io.specs.Carriages.{Carriage, HasCarried}
use Rattle.ddcmp_line.specs.Script.{Carries, Between, Scene, Effect, AreDirect, AreWithin}
use Rattle.ddcmp_line.specs.Script.{frames_of, with_frames, taken_off, part_of, frames_after}
use Rattle.ddcmp_line.specs.Script.{lines_after, outcome_of_event, outcome_of_carry}
use Rattle.ddcmp_line.specs.Script.{outcome_of_lose, outcome_of_damage, outcome_of_settle}
use Rattle.ddcmp_line.specs.Script.{outcome_of_recover, outcome_of, arrival_text, after_outcome}
use Rattle.ddcmp_line.specs.Script.{carriages_from, carriages_of}
use Rattle.ddcmp_line.specs.Inside.ScriptSteps.{scene_of, Comes, stopped_of, LineEnds}
use Rattle.ddcmp_pair.proofs.Runs.{run-one, run-none}
use Rattle.ddcmp_io.proofs.TextLaws.{sends-as, sends-nothing}
use Rattle.ddcmp_io.specs.Ends.{other}

-- an event has come
pub comes-event : (ev : Event) (p q : PairState) (lines after : Between) (before now : Output)
    → q ≡ after_event ev p → after ≡ lines_after ev (reply_to ev p) lines
    → HandsOver before now (reply_text (name_before (end_of ev)) (reply_to ev p))
    → Comes (outcome_of_event ev (scene_of p lines)) (scene_of p lines) (scene_of q after)
    before now
comes-event ev p q lines after before now e l t = record {
  scene = λ i. record { pair = (e ∙ sym (run-one ev p)) i; lines = l i };
  text = t;
}

-- an event that neither writes a frame nor clears the line leaves the lines
pub lines-stay : (ev : Event) → ((e : End) → ev ≡ event.Poll e → ⊥) → (ev ≡ event.Clear → ⊥)
    → (r : Reply) (lines : Between) → lines_after ev r lines ≡ lines
lines-stay (event.Poll e) np nc r lines = absurd (np e refl)
lines-stay event.Clear np nc r lines = absurd (nc refl)
lines-stay (event.Start e) np nc r lines = refl
lines-stay (event.Halt e) np nc r lines = refl
lines-stay (event.Send e message) np nc r lines = refl
lines-stay (event.Arrive e bytes) np nc r lines = refl
lines-stay (event.Expire e) np nc r lines = refl
lines-stay (event.Take e) np nc r lines = refl

pub no-frames : (e : End) (lines : Between) → frames_of e lines ≡ []
    → with_frames e [] lines ≡ lines
no-frames A lines none = λ i. record { a = sym none i; b = lines.b }
no-frames B lines none = λ i. record { a = lines.a; b = sym none i }

-- a poll came, whose frame went on the line of its end
pub poll-comes-a : (e : End) → e ≡ A
    → (p q : PairState) (lines : Between) (fa fb after : List (List ℕ)) (before now : Output)
    → record { a = fa; b = fb } ≡ lines
    → q ≡ after_event (event.Poll e) p → after ≡ frames_after (reply_to (event.Poll e) p) fa
    → HandsOver before now (reply_text (end_name e) (reply_to (event.Poll e) p))
    → Comes (outcome_of_event (event.Poll e) (scene_of p lines)) (scene_of p lines)
    (scene_of q (record { a = after; b = fb })) before now
poll-comes-a B is p q lines fa fb after before now v eq f t = absurd (cc)
poll-comes-a A is p q lines fa fb after before now v eq f t =
    comes-event (event.Poll A) p q lines (record { a = after; b = fb }) before now eq
    (λ
    i. record {
      a = (f ∙ ap (λ (l : Between). frames_after (reply_to (event.Poll A) p) l.a) v)
          i;
      b = ap (λ (l : Between). l.b) v i;
    }) t

pub poll-comes-b : (e : End) → e ≡ B
    → (p q : PairState) (lines : Between) (fa fb after : List (List ℕ)) (before now : Output)
    → record { a = fa; b = fb } ≡ lines
    → q ≡ after_event (event.Poll e) p → after ≡ frames_after (reply_to (event.Poll e) p) fb
    → HandsOver before now (reply_text (end_name e) (reply_to (event.Poll e) p))
    → Comes (outcome_of_event (event.Poll e) (scene_of p lines)) (scene_of p lines)
    (scene_of q (record { a = fa; b = after })) before now
poll-comes-b A is p q lines fa fb after before now v eq f t = absurd (cc)
poll-comes-b B is p q lines fa fb after before now v eq f t =
    comes-event (event.Poll B) p q lines (record { a = fa; b = after }) before now eq
    (λ
    i. record {
      a = ap (λ (l : Between). l.a) v i;
      b = (f ∙ ap (λ (l : Between). frames_after (reply_to (event.Poll B) p) l.b) v) i;
    }) t

-- nothing happened to the ends
pub comes-between : (o : Effect) (p : PairState) (lines after : Between) (before now : Output)
    → o.events ≡ [] → after ≡ o.lines → HandsOver before now o.text
    → Comes o (scene_of p lines) (scene_of p after) before now
comes-between o p lines after before now e l t = record {
  scene = λ i. record { pair = (sym (run-none p) ∙ ap (λ es. run es p) (sym e)) i; lines = l i };
  text = t;
}

-- a frame was lost, or there was none
pub lose-comes : (from : End) (front : List ℕ) (frames : List (List ℕ)) (p : PairState)
    (lines after : Between) (before now : Output) → first_message frames ≡ Some front
    → after ≡ with_frames from (drop 1 frames) lines
    → HandsOver before now (counted_line (end_name from) (codes "lost ") (length front))
    → Comes (outcome_of_lose from frames (scene_of p lines)) (scene_of p lines)
    (scene_of p after) before now
lose-comes from front [] p lines after before now e l t =
    let bad : ◌≡◌ {A = Option (List ℕ)} None (Some front) = e in cc
lose-comes from front (f ∷ later) p lines after before now e l t =
    let same : front ≡ f = cc in
    comes-between (outcome_of_lose from (f ∷ later) (scene_of p lines))
    p lines after before now refl l
    (sends-as (ap (λ x. counted_line (end_name from) (codes "lost ") (length x)) same) t)

pub lose-nothing : (from : End) (frames : List (List ℕ)) (p : PairState) (lines after : Between)
    (before now : Output) → first_message frames ≡ None
    → after ≡ with_frames from (drop 1 frames) lines
    → HandsOver before now (end_name from ++ codes "empty\n")
    → Comes (outcome_of_lose from frames (scene_of p lines)) (scene_of p lines)
    (scene_of p after) before now
lose-nothing from [] p lines after before now e l t =
    comes-between (outcome_of_lose from [] (scene_of p lines)) p lines after before now refl l t
lose-nothing from (f ∷ later) p lines after before now e l t =
    let bad : ◌≡◌ {A = Option (List ℕ)} (Some f) None = e in cc

pub front-none : (o : Option (Bor (List ℕ))) (frames : List (List ℕ))
    → MatchOption o (frames ≡ []) (λ front. frames ≡ front.now ∷ drop 1 frames)
    → ((x : Bor (List ℕ)) → o ≡ Some x → ⊥) → frames ≡ []
front-none None frames m n = m
front-none (Some x) frames m n = absurd (n x refl)

-- nothing was passed on
pub outputs-same : {W : Type 0} (broken : W → Bool) (contents : W → Option (List ℕ)) (w v : W)
    (page later : List ℕ) → later ≡ page → v ≡ w
    → HandsOver (output_of broken contents w page) (output_of broken contents v later) []
outputs-same broken contents w v page later p e =
    subst (λ x. HandsOver (output_of broken contents w page) (output_of broken contents x later) [])
    (sym e)
    (subst (λ x. HandsOver (output_of broken contents w page) (output_of broken contents w x) [])
    (sym p) (sends-nothing _))

-- ---- the carrier's log

pub logs-nothing : {A : Type 0} (log : Option (List A)) → Logs log log []
logs-nothing None = tt
logs-nothing (Some xs) = sym (append-nil xs)

pub carries-nothing : (d : Bool) (log : Option (List Carriage)) → Carries d log log []
unfolding AreDirect AreWithin
carries-nothing d log = record { told = logs-nothing log; direct = λ e. tt; within = tt }

pub carries-one : (d : Bool) (log now : Option (List Carriage)) (c : Carriage)
    → HasCarried d log now c → length c.came ≤ length c.bytes → Carries d log now (c ∷ [])
unfolding AreDirect AreWithin
carries-one d log now c h w =
    record { told = h.told; direct = λ e. (h.direct e, tt); within = (w, tt) }

-- ---- a command that asks no carrier

-- memory was refused before any of these events, or to one of them
abbrev pub IsRefused : List Event → PairState → PairState → Type 0
IsRefused events p q = (q ≡ p) ⊎ WantsMemory events p q

module _ (command : ScriptCommand) (s t : Scene) (before after : Output) (d : Bool)
    (log : Option (List Carriage)) (none : carriages_of command [] s ≡ []) where
  pub ends-well : Comes (outcome_of command [] s) s t before after
      → LineEnds d log log (Asks command) s t before after (Ok tt)
  ends-well c = (
    [],
    λ e. cc,
    λ e. cc,
    c.scene,
    c.text,
    subst (Carries d log log) (sym none) (carries-nothing d log),
  )

  pub ends-stopped : IsRefused (outcome_of command [] s).events s.pair t.pair
      → HandsOver before after [] → LineEnds d log log (Asks command) s t before after (Err Memory)
  ends-stopped (inl same) text = (text, inl (same, carries-nothing d log))
  ends-stopped (inr wants) text = (
    text,
    inr
        (record {
          came = [];
          wants = wants;
          carried = subst (Carries d log log) (sym none) (carries-nothing d log);
        }),
  )

  pub ends-by : {E : Type 0} (r : Result (Unit {0}) E)
      → (IsOk r → Comes (outcome_of command [] s) s t before after)
      → OnErr r
      (IsRefused (outcome_of command [] s).events s.pair t.pair × HandsOver before after [])
      → LineEnds d log log (Asks command) s t before after (stopped_of r)
  ends-by (Ok u) ok err = ends-well (ok refl)
  ends-by (Err m) ok err = ends-stopped err.0 err.1

-- the command that was asked is this one, and its answer is passed on
pub told-by : (d : Bool) (log : Option (List Carriage)) (command asked : ScriptCommand)
    (s t : Scene) (before after : Output) (done told : Result (Unit {0}) Undone) → asked ≡ command
    → told ≡ done
    → LineEnds d log log (Asks command) s t before after done
    → LineEnds d log log (Asks asked) s t before after told
told-by d log command asked s t before after done told is e ends =
    subst (λ x. LineEnds d log log (Asks x) s t before after told) (sym is)
    (subst (LineEnds d log log (Asks command) s t before after) (sym e) ends)

-- what a command does is this effect
pub comes-as : {s t : Scene} {before after : Output} (effect this : Effect) → effect ≡ this
    → Comes this s t before after → Comes effect s t before after
comes-as {s = s} {t = t} {before = before} {after = after} effect this e h =
    subst (λ o. Comes o s t before after) (sym e) h

pub refused-as : {E : Type 0} (p q : PairState) (before after : Output) (r : Result (Unit {0}) E)
    (effect this : Effect) → effect ≡ this
    → OnErr r (IsRefused this.events p q × HandsOver before after [])
    → OnErr r (IsRefused effect.events p q × HandsOver before after [])
refused-as p q before after r effect this e h =
    subst (λ (o : Effect). OnErr r (IsRefused o.events p q × HandsOver before after [])) (sym e) h

-- memory was refused for an event, or for one of several
pub refused-by : {W E : Type 0} (r : Result (Unit {0}) E) (events : List Event) (broken : W → Bool)
    (contents : W → Option (List ℕ)) (p q : PairState) (w v : W) (page later : List ℕ)
    → OnErr r ((q ≡ p) × (later ≡ page) × (v ≡ w))
    → OnErr r
    (IsRefused events p q
    × HandsOver (output_of broken contents w page) (output_of broken contents v later) [])
refused-by (Ok u) events broken contents p q w v page later h = tt
refused-by (Err e) events broken contents p q w v page later h =
    (inl h.0, outputs-same broken contents w v page later h.1 h.2)

pub refused-in : {W E : Type 0} (r : Result (Unit {0}) E) (events : List Event) (broken : W → Bool)
    (contents : W → Option (List ℕ)) (p q : PairState) (w v : W) (page later : List ℕ)
    → OnErr r (WantsMemory events p q × (later ≡ page) × (v ≡ w))
    → OnErr r
    (IsRefused events p q
    × HandsOver (output_of broken contents w page) (output_of broken contents v later) [])
refused-in (Ok u) events broken contents p q w v page later h = tt
refused-in (Err e) events broken contents p q w v page later h =
    (inr h.0, outputs-same broken contents w v page later h.1 h.2)

-- bytes have arrived at an end
pub arrival-comes : (who : End) (words : List ℕ) (to : End) (bytes : List ℕ) (p q : PairState)
    (lines after : Between) (before now : Output)
    → q ≡ after_event (event.Arrive to bytes) p → after ≡ lines
    → HandsOver before now (arrival_text who words to bytes p)
    → Comes
    (record {
      events = event.Arrive to bytes ∷ [];
      lines = lines;
      text = arrival_text who words to bytes p;
    }) (scene_of p lines) (scene_of q after) before now
arrival-comes who words to bytes p q lines after before now e l t = record {
  scene = λ i. record { pair = (e ∙ sym (run-one (event.Arrive to bytes) p)) i; lines = l i };
  text = t;
}

-- ---- each of them

pub happens-is : (ev : Event) (s : Scene) → outcome_of (Happens ev) [] s ≡ outcome_of_event ev s
unfolding outcome_of
happens-is ev s = refl

pub lose-is : (e : End) (s : Scene)
    → outcome_of (Lose e) [] s ≡ outcome_of_lose e (frames_of e s.lines) s
unfolding outcome_of
lose-is e s = refl

pub damage-is : (e : End) (i x : ℕ) (s : Scene)
    → outcome_of (Damage e i x) [] s ≡ outcome_of_damage e i x (frames_of e s.lines) s
unfolding outcome_of
damage-is e i x s = refl

pub settle-is : (s : Scene) → outcome_of Settle [] s ≡ outcome_of_settle s
unfolding outcome_of
settle-is s = refl

pub recover-is : (s : Scene) → outcome_of Recover [] s ≡ outcome_of_recover s
unfolding outcome_of
recover-is s = refl

pub raw-is : (e : End) (bytes : List ℕ) (s : Scene)
    → outcome_of (Raw e bytes) [] s
    ≡ record {
      events = event.Arrive e bytes ∷ [];
      lines = s.lines;
      text = arrival_text e (codes "got ") e bytes s.pair;
    }
unfolding outcome_of
raw-is e bytes s = refl

pub state-is : (e : End) (s : Scene)
    → outcome_of (State e) [] s
    ≡ record {
      events = [];
      lines = s.lines;
      text = station_line (end_name e) (at e s.pair).core.station;
    }
unfolding outcome_of
state-is e s = refl

module _ (s : Scene) where
  pub none-happens : (ev : Event) → carriages_of (Happens ev) [] s ≡ []
  unfolding carriages_of
  none-happens ev = refl

  pub none-lose : (e : End) → carriages_of (Lose e) [] s ≡ []
  unfolding carriages_of
  none-lose e = refl

  pub none-damage : (e : End) (i x : ℕ) → carriages_of (Damage e i x) [] s ≡ []
  unfolding carriages_of
  none-damage e i x = refl

  pub none-settle : carriages_of Settle [] s ≡ []
  unfolding carriages_of
  none-settle = refl

  pub none-recover : carriages_of Recover [] s ≡ []
  unfolding carriages_of
  none-recover = refl

  pub none-raw : (e : End) (bytes : List ℕ) → carriages_of (Raw e bytes) [] s ≡ []
  unfolding carriages_of
  none-raw e bytes = refl

  pub none-state : (e : End) → carriages_of (State e) [] s ≡ []
  unfolding carriages_of
  none-state e = refl

-- ---- the carrier is asked

-- the one event that was to come asks for memory
wants-one : (ev : Event) (p q : PairState) → q ≡ p → asks_memory ev p ≡ true
    → WantsMemory (ev ∷ []) p q
wants-one ev p q e asks = record {
  done = [];
  next = ev;
  rest = [];
  events_are = refl;
  state = e ∙ sym (run-none p);
  asks = subst (λ x. asks_memory ev x ≡ true) (sym e) asks;
}

pub must-ask : (b : Bool) → (b ≡ false → ◌≡◌ {A = Bool} false true) → b ≡ true
must-ask true h = refl
must-ask false h = let bad : ◌≡◌ {A = Bool} false true = h refl in absurd (cc)

module _ (from : End) (most : Option ℕ) (p q : PairState) (lines later : Between)
    (before after : Output) (d : Bool) where
  -- there is no frame
  pub carry-empty : (log : Option (List Carriage)) → frames_of from lines ≡ [] → q ≡ p
      → later ≡ lines → HandsOver before after (end_name from ++ codes "empty\n")
      → with_frames from [] lines ≡ lines
      → LineEnds d log log (Asks (Carry from most)) (scene_of p lines) (scene_of q later)
      before after (Ok tt)
  unfolding outcome_of carriages_of
  carry-empty log none eq el text same =
      let o : outcome_of (Carry from most) [] (scene_of p lines)
      ≡ outcome_of_carry from most [] [] (scene_of p lines) =
      ap (λ f. outcome_of_carry from most [] f (scene_of p lines)) none in (
        [],
        λ e. cc,
        λ e. cc,
        (λ i. record { pair = (eq ∙ sym (run-none p)) i; lines = (el ∙ sym same) i })
            ∙ sym (ap (λ x. after_outcome x (scene_of p lines)) o),
        subst (λ x. HandsOver before after x.text) (sym o) text,
        subst (Carries d log log) (sym (ap (carriages_from from most []) none))
            (carries-nothing d log),
      )

  -- the front was carried, and arrived
  pub carry-well : (log now : Option (List Carriage)) (front : List ℕ) (rest : List (List ℕ))
      (came : List ℕ) → frames_of from lines ≡ front ∷ rest
      → HasCarried d log now (record { from = from; bytes = part_of most front; came = came })
      → length came ≤ length (part_of most front)
      → q ≡ after_event (event.Arrive (other from) came) p
      → later
      ≡ with_frames from (taken_off (length (part_of most front)) (frames_of from lines)) lines
      → HandsOver before after (arrival_text from (codes "passed ") (other from) came p)
      → LineEnds d log now (Asks (Carry from most)) (scene_of p lines) (scene_of q later)
      before after (Ok tt)
  unfolding outcome_of carriages_of
  carry-well log now front rest came first carried within eq el text =
      let o : outcome_of (Carry from most) came (scene_of p lines)
      ≡ outcome_of_carry from most came (front ∷ rest) (scene_of p lines) =
      ap (λ f. outcome_of_carry from most came f (scene_of p lines)) first in (
        came,
        λ e. cc,
        λ e. cc,
        (λ
            i. record {
              pair = (eq ∙ sym (run-one (event.Arrive (other from) came) p)) i;
              lines =
                  (el
                  ∙ ap (λ f. with_frames from (taken_off (length (part_of most front)) f) lines)
                  first)
                  i;
            }) ∙ sym (ap (λ x. after_outcome x (scene_of p lines)) o),
        subst (λ x. HandsOver before after x.text) (sym o) text,
        subst (Carries d log now) (sym (ap (carriages_from from most came) first))
            (carries-one d log now _ carried within),
      )

  -- memory was refused before the carrier was asked
  pub carry-refused : (log : Option (List Carriage)) → q ≡ p → HandsOver before after []
      → LineEnds d log log (Asks (Carry from most)) (scene_of p lines) (scene_of q later)
      before after (Err Memory)
  carry-refused log eq text = (text, inl (eq, carries-nothing d log))

  -- memory was refused after it, to the arrival
  pub carry-lost : (log now : Option (List Carriage)) (front : List ℕ) (rest : List (List ℕ))
      (came : List ℕ) → frames_of from lines ≡ front ∷ rest
      → HasCarried d log now (record { from = from; bytes = part_of most front; came = came })
      → length came ≤ length (part_of most front)
      → q ≡ p → asks_memory (event.Arrive (other from) came) p ≡ true → HandsOver before after []
      → LineEnds d log now (Asks (Carry from most)) (scene_of p lines) (scene_of q later)
      before after (Err Memory)
  unfolding outcome_of carriages_of
  carry-lost log now front rest came first carried within eq asks text =
      let o : outcome_of (Carry from most) came (scene_of p lines)
      ≡ outcome_of_carry from most came (front ∷ rest) (scene_of p lines) =
      ap (λ f. outcome_of_carry from most came f (scene_of p lines)) first in (
        text,
        inr (record {
          came = came;
          wants =
              subst (λ (e : Effect). WantsMemory e.events p q) (sym o)
              (wants-one (event.Arrive (other from) came) p q eq asks);
          carried =
              subst (Carries d log now) (sym (ap (carriages_from from most came) first))
              (carries-one d log now _ carried within);
        }),
      )
