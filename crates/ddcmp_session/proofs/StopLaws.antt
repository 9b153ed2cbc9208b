-- Why a run over lines stops.
use Rattle.std.proofs.Common.{◌≡◌, ◌∙◌, ap, arith, sym, subst, ℕ, Bool, true, false, cond}
use Rattle.std.proofs.Common.{nat_le, List, [], ◌∷◌, ◌++◌, append_assoc, Option, Some, Result}
use Rattle.std.proofs.Common.{Ok, Err, ◌⊎◌, inl, inr, refl, None}
use Rattle.std.specs.Prelude.{◌&&◌, ◌||◌, not}
use Rattle.std.proofs.lemmas.Bool.{le-leb}
use Rattle.ddcmp_station.specs.Linking.{delivered}
use Rattle.ddcmp_io.specs.declared.device.Got.{Got}
use Rattle.ddcmp_io.specs.declared.device.Got.TheVariants as got
use Rattle.ddcmp_session.specs.declared.buffers.lines.Stop.TheVariants.{the_data, Device, Left}
use Rattle.ddcmp_session.specs.declared.buffers.lines.Stop.TheVariants.{NotOpened, Unread}
use Rattle.ddcmp_session.specs.declared.devices.DeviceFault.{DeviceFault}
use Rattle.ddcmp_session.specs.declared.devices.DeviceFault.TheVariants.{Input}
use Rattle.ddcmp_session.specs.declared.devices.DeviceFault.TheVariants as fault
use Rattle.ddcmp_session.specs.declared.line_end.LineEnd.{LineEnd}
use Rattle.ddcmp_session.specs.declared.line_end.LineEnd.TheVariants.{Down, GivenUp, Halted}
use Rattle.ddcmp_session.specs.declared.line_end.LineEnd.TheVariants.{Restarted}
use Rattle.ddcmp_session.specs.declared.session.EndReason.TheVariants as end_of
use Rattle.ddcmp_session.specs.Devices.{BuffersView, HasReported, KeepsFaults}
use Rattle.ddcmp_session.specs.Traffic.{Becomes, Traffic, after_fault, after_read, after_wait}
use Rattle.ddcmp_session.specs.Lines.{GoesOver, MayEndWell, ReportsOver}
use Rattle.ddcmp_session.specs.Session.{SessionView, after_time, is_awaited, is_delivered}
use Rattle.ddcmp_session.specs.Stopping.{IfNotOpened, IsLeft, IsTimeOver, Judges}
use Rattle.ddcmp_session.specs.Stopping.{LeavesLine, MayBeWell, MayStop, Stops}
use Rattle.ddcmp_session.specs.Stopping.{StopsToEnd}
use Rattle.ddcmp_session.specs.Timing.{end, is_given_up, lingers_until, run_ends_at, stays}
use Rattle.ddcmp_session.proofs.LinesGo.{reports-later}

-- ---- the time of the run

time-ends : (b : Bool) (x : Option end_of.the_data) → b ≡ true
    → cond b (Some end_of.Time) x ≡ Some end_of.Time
time-ends b x e = ap (λ w. cond w (Some end_of.Time) x) e

-- once the moment is that when the run ends, or later
pub passed-end : (s new : SessionView) (now : ℕ) → new ≡ after_time now s
    → nat_le (run_ends_at s) now ≡ true → end new ≡ Some end_of.Time
passed-end s new now is past =
    ap (λ (x : SessionView). end x) is ∙ time-ends (nat_le (run_ends_at s) now) _ past

pub passed-run : (s new : SessionView) (now : ℕ) → now ≡ run_ends_at s → new ≡ after_time now s
    → end new ≡ Some end_of.Time
passed-run s new now at is =
    passed-end s new now is (le-leb (run_ends_at s) now (omega (arith, at)))

-- ---- what is there once all is done

ends-done : (time restarted given_up done : Bool)
    → cond time (Some end_of.Time) (cond restarted (Some end_of.Restarted)
    (cond given_up (Some end_of.GivenUp) (cond done (Some end_of.Done) None)))
    ≡ Some end_of.Done
    → done ≡ true
ends-done time restarted given_up true e = refl
ends-done true restarted given_up false e = cc
ends-done false true given_up false e = cc
ends-done false false true false e = cc
ends-done false false false false e = cc

spent-or-ran : (delivered read ran line ends quiet : Bool)
    → ((delivered || (read && (ran && not line))) && ends) && quiet ≡ true
    → (delivered ≡ true) ⊎ (ran ≡ true)
spent-or-ran true read ran line ends quiet e = inl refl
spent-or-ran false read true line ends quiet e = inr refl
spent-or-ran false true false line ends quiet e = inl e
spent-or-ran false false false line ends quiet e = inl e

pub may-at-end : (s : SessionView) → end s ≡ Some end_of.Done → MayEndWell s
may-at-end s e =
    spent-or-ran (is_delivered s) s.is_read s.course.has_run s.has_line
    (not (is_awaited s) && not (stays s))
    (nat_le (lingers_until s) s.course.moment)
    (ends-done (nat_le (run_ends_at s) s.course.moment) (s.has_line && s.course.leaves)
    (s.has_line && is_given_up s) _ e)

spent-was-read : (read delivered ran line ends quiet : Bool)
    → (((read && delivered) || (read && (ran && not line))) && ends) && quiet ≡ true
    → read ≡ true
spent-was-read true delivered ran line ends quiet e = refl
spent-was-read false delivered ran line ends quiet e = cc

pub read-at-end : (s : SessionView) → end s ≡ Some end_of.Done → s.is_read ≡ true
read-at-end s e =
    spent-was-read s.is_read (delivered s.link) s.course.has_run s.has_line
    (not (is_awaited s) && not (stays s))
    (nat_le (lingers_until s) s.course.moment)
    (ends-done (nat_le (run_ends_at s) s.course.moment) (s.has_line && s.course.leaves)
    (s.has_line && is_given_up s) _ e)

-- ---- faults that were reported

pub keeps-same : {k k' : Option Traffic} → k' ≡ k → KeepsFaults k k'
keeps-same same = λ t is. (t, same ∙ is, λ f has. has)

pub keeps-then : {k0 k1 k2 : Option Traffic} → KeepsFaults k0 k1 → KeepsFaults k1 k2
    → KeepsFaults k0 k2
keeps-then p q = λ t is.
    let a = p t is in
    let b = q a.0 a.1 in (b.0, b.1, λ f has. b.2 f (a.2 f has))

kept : (f : DeviceFault) (fault : DeviceFault) (t : Traffic) → HasReported f t
    → HasReported f (after_fault fault t)
kept f fault t has = (
  has.0,
  has.1 ++ fault ∷ [],
  ap (λ xs. xs ++ fault ∷ []) has.2 ∙ append_assoc has.0 (f ∷ has.1) (fault ∷ []),
)

pub keeps-fault : {k k' : Option Traffic} (fault : DeviceFault) → Becomes k k' (after_fault fault)
    → KeepsFaults k k'
keeps-fault fault becomes = λ t is.
    (after_fault fault t, becomes t is, λ f has. kept f fault t has)

pub keeps-wait : {k k' : Option Traffic} (ok : Bool) → Becomes k k' (after_wait ok)
    → KeepsFaults k k'
keeps-wait true becomes = λ t is. (t, becomes t is, λ f has. has)
keeps-wait false becomes = keeps-fault Input becomes

pub keeps-read : {k k' : Option Traffic} (g : Got) (space : List ℕ)
    → Becomes k k' (after_read g space) → KeepsFaults k k'
keeps-read (got.Bytes n) space becomes = λ t is.
    (after_read (got.Bytes n) space t, becomes t is, λ f has. has)
keeps-read got.Idle space becomes = λ t is. (t, becomes t is, λ f has. has)
keeps-read got.Failed space becomes = keeps-fault Input becomes

-- ---- why a line was left, of a run that went on before or reported more

some-is : {t t' : Traffic} → ◌≡◌ {A = Option Traffic} (Some t) (Some t') → t ≡ t'
some-is e = cc

reports-kept : {h0 h1 : BuffersView} {s0 s1 : SessionView} {k0 k1 k2 : Option Traffic}
    {f : DeviceFault}
    → GoesOver h0 s0 k0 h1 s1 k1 → KeepsFaults k1 k2 → ReportsOver h0 s0 k0 k1 f
    → ReportsOver h0 s0 k0 k2 f
reports-kept {h0} {h1} {s0} {s1} {k0} {k1} {k2} {f} over keeps reports = λ c t now is was agrees at.
    let a = over c t is was agrees in
    let b = keeps a.0 a.1 in
    subst (HasReported f) (some-is (sym b.1 ∙ at)) (b.2 f (reports c t a.0 is was agrees a.1))

-- how a line was left, if what devices reported by then they have reported by now
left-so : (how : LineEnd) (s : SessionView) (h0 h1 : BuffersView) (s0 s1 : SessionView)
    (k0 k1 k2 k3 : Option Traffic)
    → ((f : DeviceFault) → ReportsOver h1 s1 k1 k2 f → ReportsOver h0 s0 k0 k3 f)
    → LeavesLine how h1 s1 k1 s k2 → LeavesLine how h0 s0 k0 s k3
left-so (Down why) s h0 h1 s0 s1 k0 k1 k2 k3 then down = then (fault.Line why) down
left-so Halted s h0 h1 s0 s1 k0 k1 k2 k3 then halted = halted
left-so Restarted s h0 h1 s0 s1 k0 k1 k2 k3 then restarted = restarted
left-so GivenUp s h0 h1 s0 s1 k0 k1 k2 k3 then given_up = given_up

pub line-later : (h0 h1 : BuffersView) (s0 s1 : SessionView) (k0 k1 k2 : Option Traffic)
    (how : LineEnd) (s : SessionView) → GoesOver h0 s0 k0 h1 s1 k1 → LeavesLine how h1 s1 k1 s k2
    → LeavesLine how h0 s0 k0 s k2
line-later h0 h1 s0 s1 k0 k1 k2 how s over left =
    left-so how s h0 h1 s0 s1 k0 k1 k2 k2 (λ f reports. reports-later over reports) left

pub left-kept : {h0 h1 : BuffersView} {s0 s1 : SessionView} {k0 k1 k2 : Option Traffic}
    (s : SessionView) → GoesOver h0 s0 k0 h1 s1 k1 → KeepsFaults k1 k2 → IsLeft h0 s0 k0 s k1
    → IsLeft h0 s0 k0 s k2
left-kept s over keeps (inl unstarted) = inl unstarted
left-kept {h0} {h1} {s0} {s1} {k0} {k1} {k2} s over keeps (inr (how, shut, left)) =
    inr (
      how,
      shut,
      left-so how s h0 h0 s0 s0 k0 k0 k1 k2 (λ f reports. reports-kept over keeps reports) left,
    )

-- ---- the run as a whole

module _ {R : Type 0} {ran : Result (Unit {0}) (the_data R)} {h0 h1 : BuffersView}
    {s0 s : SessionView} {k0 k1 k2 : Option Traffic} (over : GoesOver h0 s0 k0 h1 s k1)
    (keeps : KeepsFaults k1 k2) (ended : ran ≡ Ok tt → end s ≡ Some end_of.Done)
    (left : ran ≡ Err Left → IsLeft h0 s0 k0 s k1)
    (shut : IfNotOpened ran (s.options.again ≡ false))
    (time : ran ≡ Err (Device fault.Time) → IsTimeOver s) where
  may-stop : MayBeWell ran → MayStop h0 s0 k0 s k2
  may-stop (inl ok) = inl (ended ok)
  may-stop (inr (inl is)) = inr (inl (left-kept s over keeps (left is)))
  may-stop (inr (inr is)) = inr (inr (time is))

  unread-kept : (ran ≡ Err Left) ⊎ (ran ≡ Err (Device fault.Time))
      → IsLeft h0 s0 k0 s k2 ⊎ IsTimeOver s
  unread-kept (inl is) = inl (left-kept s over keeps (left is))
  unread-kept (inr is) = inr (time is)

  pub stops : {result : Result (Unit {0}) (the_data R)} → Judges ran result
      → Stops result h0 s0 k0 s k2
  stops judges = record {
    well = λ e. may-stop (judges.well e);
    lost = λ count e. may-stop (judges.lost count e);
    left = λ e. left-kept s over keeps (left (judges.left e));
    unread = λ e. unread-kept (judges.unread e);
    shut = λ refusal e. shut refusal (judges.shut refusal e ∙ e);
    time = λ e. time (judges.time e);
  }

not-left : {R : Type 0} {f : DeviceFault}
    → ◌≡◌ {A = Result (Unit {0}) (the_data R)} (Err (Device f)) (Err Left) → ⊥
not-left e = cc

not-unread : {R : Type 0} {f : DeviceFault}
    → ◌≡◌ {A = Result (Unit {0}) (the_data R)} (Err (Device f)) (Err Unread) → ⊥
not-unread e = cc

not-shut : {R : Type 0} {f : DeviceFault} {refusal : R}
    → ◌≡◌ {A = Result (Unit {0}) (the_data R)} (Err (Device f)) (Err (NotOpened refusal)) → ⊥
not-shut e = cc

-- a run that ended as its lines did, or by a fault after lines that ended well
pub to-end : {R : Type 0} {ran result : Result (Unit {0}) (the_data R)} {held : BuffersView}
    {old s : SessionView} {k0 k1 : Option Traffic}
    → (result ≡ ran) ⊎ ((f : DeviceFault) × (ran ≡ Ok tt) × (result ≡ Err (Device f)))
    → Stops ran held old k0 s k1 → StopsToEnd result held old k0 s k1
to-end (inl same) ran = record {
  well = λ e. ran.well (sym same ∙ e);
  lost = λ count e. ran.lost count (sym same ∙ e);
  left = λ e. ran.left (sym same ∙ e);
  unread = λ e. ran.unread (sym same ∙ e);
  shut = λ refusal e. ran.shut refusal (sym same ∙ e);
  time = λ e. inr (inr (ran.time (sym same ∙ e)));
}
to-end (inr (f, ok, is)) ran = record {
  well = λ e. ran.well ok;
  lost = λ count e. ran.well ok;
  left = λ e. absurd (not-left (sym is ∙ e));
  unread = λ e. absurd (not-unread (sym is ∙ e));
  shut = λ refusal e. absurd (not-shut (sym is ∙ e));
  time = λ e. ran.well ok;
}
