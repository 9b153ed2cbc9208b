-- Turns in which nothing but frames and bytes move are a sweep.
use Rattle.std.proofs.Common.{◌≡◌, ℕ, ◌+◌, ◌≤◌, Bool, true, false, cond, List, [], ◌∷◌, ◌++◌}
use Rattle.std.proofs.Common.{length, zero, suc, replicate, refl, sym, ◌∙◌, ap, subst, arith}
use Rattle.std.specs.Prelude.{◌&&◌, ◌||◌}
use Rattle.ddcmp_core.specs.declared.state.Timer.{Timer}
use Rattle.ddcmp_core.specs.declared.state.Timer.TheVariants.{Off, Fresh, On}
use Rattle.ddcmp_core.specs.Table.{is_fresh, is_on, may_send}
use Rattle.ddcmp_proto.specs.Bytes.{after_piece}
use Rattle.ddcmp_station.specs.Driving.{DriveTurn, is_due, before_offer}
use Rattle.ddcmp_io.specs.declared.carrier.End.{End}
use Rattle.ddcmp_io.specs.declared.carrier.End.TheVariants.{A, B}
use Rattle.ddcmp_pair.specs.declared.event.Event.{Event}
use Rattle.ddcmp_pair.specs.declared.event.Event.TheVariants as event
use Rattle.ddcmp_pair.specs.Run.{PairState}
use Rattle.ddcmp_laws.specs.Sweeps.{OnlyCarries, bytes_brought, is_poll, is_asked}
use Rattle.ddcmp_laws.specs.Sweeps.{IsSweep}
use Rattle.ddcmp_laws.specs.PairCalls.{Send, Poll, Expire, Take, Arm, events_in}
use Rattle.ddcmp_laws.specs.DrivenSweeps.{TurnPart, Writes, Reads, Again, DrivenEnd, DrivenLine}
use Rattle.ddcmp_laws.specs.DrivenSweeps.{driven_at, after_on_driven, calls_of_part}
use Rattle.ddcmp_laws.specs.DrivenSweeps.{events_of_parts, line_of_driven, IsQuietTurn, IsQuiet}
use Rattle.ddcmp_laws.specs.DrivenSweeps.{AreQuiet, bytes_read_by, bytes_read_at, has_turn}
use Rattle.ddcmp_laws.specs.DrivenSweeps.{is_driven_in, IsSweepOfTurns}
use Rattle.ddcmp_laws.proofs.InTurn.{at_one}
use Rattle.ddcmp_laws.proofs.TurnTies.{due}

-- ---- events that only carry, one list after another

record Carries (events : List Event) (to_a to_b : ℕ) (a b : Bool) : Type 0 where
  only : OnlyCarries events
  brings_a : bytes_brought A events ≡ to_a
  brings_b : bytes_brought B events ≡ to_b
  asks_a : is_asked A events ≡ a
  asks_b : is_asked B events ≡ b

only-append : (first second : List Event) → OnlyCarries first → OnlyCarries second
    → OnlyCarries (first ++ second)
only-append [] second c d = d
only-append (event.Poll e ∷ rest) second c d = only-append rest second c d
only-append (event.Arrive e bytes ∷ rest) second c d = only-append rest second c d
only-append (event.Take e ∷ rest) second c d = only-append rest second c d
only-append (event.Start e ∷ rest) second c d = absurd c
only-append (event.Halt e ∷ rest) second c d = absurd c
only-append (event.Send e m ∷ rest) second c d = absurd c
only-append (event.Expire e ∷ rest) second c d = absurd c
only-append (event.Clear ∷ rest) second c d = absurd c

brings-append : (end : End) (first second : List Event)
    → bytes_brought end (first ++ second) ≡ bytes_brought end first + bytes_brought end second
unfolding bytes_brought
brings-append end [] second = omega arith
brings-append end (e ∷ first) second =
    let i = brings-append end first second in omega (arith, i)

pub or-three : (a b c : Bool) → (a || (b || c)) ≡ ((a || b) || c)
or-three true b c = refl
or-three false b c = refl

asks-append : (end : End) (first second : List Event)
    → is_asked end (first ++ second) ≡ (is_asked end first || is_asked end second)
unfolding is_asked
asks-append end [] second = refl
asks-append end (e ∷ first) second =
    ap (λ b. is_poll end e || b) (asks-append end first second)
    ∙ or-three (is_poll end e) (is_asked end first) (is_asked end second)

carries-then : (first second : List Event) (k m n o : ℕ) (a b c d : Bool) → Carries first k m a b
    → Carries second n o c d → Carries (first ++ second) (k + n) (m + o) (a || c) (b || d)
carries-then first second k m n o a b c d f s = record {
  only = only-append first second f.only s.only;
  brings_a =
      brings-append A first second ∙ ap (λ i. i + bytes_brought A second) f.brings_a
      ∙ ap (λ i. k + i) s.brings_a;
  brings_b =
      brings-append B first second ∙ ap (λ i. i + bytes_brought B second) f.brings_b
      ∙ ap (λ i. m + i) s.brings_b;
  asks_a =
      asks-append A first second ∙ ap (λ i. i || is_asked A second) f.asks_a
      ∙ ap (λ i. a || i) s.asks_a;
  asks_b =
      asks-append B first second ∙ ap (λ i. i || is_asked B second) f.asks_b
      ∙ ap (λ i. b || i) s.asks_b;
}

-- ---- a part of a turn

takes-carry : (end : End) (n : ℕ)
    → Carries (events_in (at_one end (replicate n Take))) 0 0 false false
unfolding events_in bytes_brought is_asked
takes-carry end zero =
    record { only = tt; brings_a = refl; brings_b = refl; asks_a = refl; asks_b = refl }
takes-carry A (suc n) =
    let c = takes-carry A n in
    record {
      only = c.only;
      brings_a = let i = c.brings_a in omega (arith, i);
      brings_b = let i = c.brings_b in omega (arith, i);
      asks_a = c.asks_a;
      asks_b = c.asks_b;
    }
takes-carry B (suc n) =
    let c = takes-carry B n in
    record {
      only = c.only;
      brings_a = let i = c.brings_a in omega (arith, i);
      brings_b = let i = c.brings_b in omega (arith, i);
      asks_a = c.asks_a;
      asks_b = c.asks_b;
    }

pub armed-is-on : (t : Timer) → is_on (cond (is_fresh t) On t) ≡ is_on t
armed-is-on Off = refl
armed-is-on Fresh = refl
armed-is-on On = refl

quiet-calls : (turn : DriveTurn) (x : DrivenEnd) → IsQuietTurn turn x
    → calls_of_part (Writes turn) x ≡ Arm ∷ Poll ∷ []
quiet-calls turn x h =
    let n = before_offer x.milliseconds turn x.driving in
    ap (λ b. (Arm ∷ cond b (Expire ∷ []) [])
    ++ (cond (may_send n.limits n.station turn.offered) (Send turn.offered ∷ []) [] ++ Poll ∷ []))
    (ap (λ b. b && is_due turn.now (due turn.now x)) (armed-is-on x.driving.core.station.timer)
    ∙ h.timer)
    ∙ ap (λ b. Arm ∷ (cond b (Send turn.offered ∷ []) [] ++ Poll ∷ [])) h.message

poll-carries : (end : End) (turn : DriveTurn)
    → Carries (events_in (at_one end (Arm ∷ Poll ∷ []))) (bytes_read_by A end (Writes turn))
    (bytes_read_by B end (Writes turn)) (has_turn A end (Writes turn))
    (has_turn B end (Writes turn))
unfolding events_in bytes_brought is_asked
poll-carries A turn =
    record { only = tt; brings_a = refl; brings_b = refl; asks_a = refl; asks_b = refl }
poll-carries B turn =
    record { only = tt; brings_a = refl; brings_b = refl; asks_a = refl; asks_b = refl }

part-carries : (end : End) (part : TurnPart) (x : DrivenEnd) → IsQuiet part x
    → Carries (events_in (at_one end (calls_of_part part x))) (bytes_read_by A end part)
    (bytes_read_by B end part) (has_turn A end part) (has_turn B end part)
unfolding events_in bytes_brought is_asked
part-carries end (Writes turn) x h =
    subst
    (λ calls. Carries (events_in (at_one end calls)) (bytes_read_by A end (Writes turn))
    (bytes_read_by B end (Writes turn)) (has_turn A end (Writes turn))
    (has_turn B end (Writes turn)))
    (sym (quiet-calls turn x h)) (poll-carries end turn)
part-carries A (Reads came) x h =
    let c = takes-carry A (length (after_piece x.driving.text came x.driving.core).station.inbox) in
    record {
      only = c.only;
      brings_a = let i = c.brings_a in omega (arith, i);
      brings_b = let i = c.brings_b in omega (arith, i);
      asks_a = c.asks_a;
      asks_b = c.asks_b;
    }
part-carries B (Reads came) x h =
    let c = takes-carry B (length (after_piece x.driving.text came x.driving.core).station.inbox) in
    record {
      only = c.only;
      brings_a = let i = c.brings_a in omega (arith, i);
      brings_b = let i = c.brings_b in omega (arith, i);
      asks_a = c.asks_a;
      asks_b = c.asks_b;
    }
part-carries A Again x h =
    record { only = tt; brings_a = refl; brings_b = refl; asks_a = refl; asks_b = refl }
part-carries B Again x h =
    record { only = tt; brings_a = refl; brings_b = refl; asks_a = refl; asks_b = refl }

-- ---- all

all-carry : (parts : List (End × TurnPart)) (l : DrivenLine) → AreQuiet parts l
    → Carries (events_of_parts parts l) (bytes_read_at A parts) (bytes_read_at B parts)
    (is_driven_in A parts) (is_driven_in B parts)
unfolding events_of_parts bytes_read_at is_driven_in bytes_brought is_asked
all-carry [] l h =
    record { only = tt; brings_a = refl; brings_b = refl; asks_a = refl; asks_b = refl }
all-carry (step ∷ rest) l h =
    let m = after_on_driven step.0 step.1 l in
    carries-then (events_in (at_one step.0 (calls_of_part step.1 (driven_at step.0 l))))
    (events_of_parts rest m) _ _ _ _ _ _ _ _
    (part-carries step.0 step.1 (driven_at step.0 l) h.0) (all-carry rest m h.1)

pub sweeps : (parts : List (End × TurnPart)) (p : PairState) (l : DrivenLine)
    → IsSweepOfTurns parts l → IsSweep (events_of_parts parts l) (line_of_driven p l)
sweeps parts p l h =
    let c = all-carry parts l h.quiet in
    record {
      carries = c.only;
      all_to_a = subst (λ n. length l.to_a ≤ n) (sym c.brings_a) h.all_to_a;
      all_to_b = subst (λ n. length l.to_b ≤ n) (sym c.brings_b) h.all_to_b;
      asked_a = c.asks_a ∙ h.turn_a;
      asked_b = c.asks_b ∙ h.turn_b;
    }
