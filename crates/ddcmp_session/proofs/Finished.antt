-- How what was received is delivered at the end of a run, and what the output takes of it.
use Rattle.std.proofs.Common.{◌≡◌, ◌∙◌, ap, sym, subst, refl, ℕ, Bool, true, false, cond}
use Rattle.std.proofs.Common.{List, [], ◌∷◌, ◌++◌, append_assoc, append-nil, Option, Some}
use Rattle.std.proofs.Common.{◌⊎◌, inl, inr}
use Rattle.std.specs.Prelude.{◌&&◌}
use Rattle.std.proofs.Common.{length, take}
use Rattle.ddcmp_frame.specs.Reader.{StandsFor}
use Rattle.std.proofs.Common.{min}
use Rattle.std.proofs.lemmas.List.{take_min}
use Rattle.ddcmp_session.specs.declared.devices.DeviceFault.{DeviceFault}
use Rattle.ddcmp_session.specs.declared.devices.DeviceFault.TheVariants.{Input}
use Rattle.ddcmp_io.specs.declared.transfer.Transfer.TheVariants.{Bytes}
use Rattle.ddcmp_session.specs.Session.{SessionView, after_output, after_queued, form_of}
use Rattle.ddcmp_session.specs.Session.{next_mail}
use Rattle.ddcmp_session.specs.Calls.{Closed, Delivered, OutputTook, SessionStep, SessionHistory}
use Rattle.ddcmp_session.specs.Calls.{after_session_step, after_session_steps, written_in}
use Rattle.ddcmp_session.specs.Connections.{after_all}
use Rattle.ddcmp_session.specs.Devices.{HasReported}
use Rattle.ddcmp_session.specs.Traffic.{Becomes, Traffic, after_fault, after_wait, after_written}
use Rattle.ddcmp_session.specs.Devices.{Agrees, BuffersView, GoesOn, Reports}
use Rattle.ddcmp_session.specs.Lines.{Closes, Ends, ReportsOver}
use Rattle.ddcmp_session.specs.Finishing.{AreDeliveries, Drains, Finishes, IsDrained, RunsToEnd}
use Rattle.ddcmp_session.specs.Finishing.{after_taken_by, taken_in}
use Rattle.ddcmp_session.specs.Text.{Wrote, mail_text}
use Rattle.ddcmp_session.proofs.GoingLaws.{end-is, same-at, same-now}

-- ---- nothing was delivered

pub drains-idle : {s s' : SessionView} {k k' : Option Traffic} → (faults : List DeviceFault)
    → s' ≡ s → ((t : Traffic) → k ≡ Some t
    → k' ≡ Some (record t { faults = t.faults ++ faults }))
    → Drains s k s' k'
unfolding taken_in
drains-idle {s} {s'} {k} {k'} faults same becomes = record {
  steps = [];
  calls = same;
  traffic = λ t is. (
    faults,
    becomes t is
        ∙ ap (λ xs. Some (record t { written = xs; faults = t.faults ++ faults }))
        (sym (append-nil t.written)),
  );
}

pub drains-none : {s s' : SessionView} {k k' : Option Traffic} → s' ≡ s → k' ≡ k
    → Drains s k s' k'
drains-none same known =
    drains-idle [] same
    (λ t is. known ∙ is ∙ ap (λ xs. Some (record t { faults = xs })) (sym (append-nil t.faults)))

-- a device was called, and moved nothing
pub drains-still : {s : SessionView} {k k' : Option Traffic} → (change : Traffic → Traffic)
    → Becomes k k' change → ((t : Traffic) → change t ≡ t) → Drains s k s k'
drains-still change becomes nothing =
    drains-idle [] refl
    (λ t is.
    becomes t is
    ∙ ap (λ x. Some x) (nothing t)
    ∙ ap (λ xs. Some (record t { faults = xs })) (sym (append-nil t.faults)))

pub drains-fault : {s : SessionView} {k k' : Option Traffic} → (fault : DeviceFault)
    → Becomes k k' (after_fault fault) → Drains s k s k'
drains-fault fault becomes = drains-idle (fault ∷ []) refl becomes

pub drains-wait : {s : SessionView} {k k' : Option Traffic} → (ok : Bool)
    → Becomes k k' (after_wait ok) → Drains s k s k'
drains-wait true becomes = drains-still (λ t. t) becomes (λ t. refl)
drains-wait false becomes = drains-fault Input becomes

-- ---- one call

none-taken : (t : Traffic) → t ≡ after_taken_by [] [] t
none-taken t = λ i. record t {
  written = sym (append-nil t.written) i;
  faults = sym (append-nil t.faults) i;
}

pub drains-delivered : {known : Option Traffic} (has : Bool) (old new : SessionView)
    → (has ≡ true → (message : List ℕ) × (next_mail old ≡ Some message)
    × Wrote (mail_text (form_of old.messages) message) old.output new.output)
    → (has ≡ false → Wrote [] old.output new.output)
    → new ≡ record (cond has (after_queued old) old) { output = new.output }
    → Drains old known new known
unfolding taken_in
drains-delivered true old new wrote waits stays = record {
  steps = record { call = Delivered true; session = new } ∷ [];
  calls = (tt, record { wrote = wrote refl; stays = stays }, refl);
  traffic = λ t is. ([], is ∙ ap (λ x. Some x) (none-taken t));
}
drains-delivered false old new wrote waits stays = record {
  steps = record { call = Delivered false; session = new } ∷ [];
  calls = (tt, record { wrote = waits refl; stays = stays }, refl);
  traffic = λ t is. ([], is ∙ ap (λ x. Some x) (none-taken t));
}

pub drains-took : {k k' : Option Traffic} (old new : SessionView) (n : ℕ) (bytes : List ℕ)
    → bytes ≡ old.output.waiting → Becomes k k' (after_written (Bytes n) bytes)
    → new ≡ after_output (min n (length old.output.waiting)) old
    → Drains old k new k'
unfolding taken_in
drains-took {k} {k'} old new n bytes same becomes does =
    let most = min n (length old.output.waiting) in
    record {
      steps = record { call = OutputTook most; session = new } ∷ [];
      calls = (tt, does, refl);
      traffic = λ t is. (
        [],
        becomes t is
            ∙ ap (λ xs. Some (record t { written = t.written ++ xs }))
            (ap (take n) same
            ∙ sym (take_min n old.output.waiting)
            ∙ sym (append-nil (take most old.output.waiting)))
            ∙ ap
            (λ xs. Some (record t {
              written = t.written ++ (take most old.output.waiting ++ []);
              faults = xs;
            }))
            (sym (append-nil t.faults)),
      );
    }

-- ---- one after another

deliveries-then : (xs ys : List SessionStep) (a b c : SessionView) → AreDeliveries xs a b
    → AreDeliveries ys b c
    → AreDeliveries (xs ++ ys) a c × (taken_in (xs ++ ys) a ≡ taken_in xs a ++ taken_in ys b)
unfolding taken_in
deliveries-then [] ys a b c some more =
    (subst (λ x. AreDeliveries ys x c) some more, ap (taken_in ys) (sym some))
deliveries-then (x ∷ xs) ys a b c some more =
    let r = deliveries-then xs ys x.session b c some.2 more in (
      (some.0, some.1, r.0),
      ap (λ zs. written_in x.call a ++ zs) r.1
          ∙ sym (append_assoc (written_in x.call a) (taken_in xs x.session) (taken_in ys b)),
    )

pub drains-then : {a b c : SessionView} {k0 k1 k2 : Option Traffic} → Drains a k0 b k1
    → Drains b k1 c k2 → Drains a k0 c k2
drains-then {a} {b} {c} {k0} {k1} {k2} p q =
    let r = deliveries-then p.steps q.steps a b c p.calls q.calls in
    record {
      steps = p.steps ++ q.steps;
      calls = r.0;
      traffic = λ t is.
          let one = p.traffic t is in
          let two = q.traffic (after_taken_by (taken_in p.steps a) one.0 t) one.1 in (
            one.0 ++ two.0,
            two.1
                ∙ ap (λ x. Some x) (λ i. record t {
                  written =
                      (append_assoc t.written (taken_in p.steps a) (taken_in q.steps b)
                      ∙ ap (λ xs. t.written ++ xs) (sym r.1)) i;
                  faults = append_assoc t.faults one.0 two.0 i;
                }),
          );
    }

-- ---- what was reported before is reported still

still-reported : (fault : DeviceFault) (bytes : List ℕ) (faults : List DeviceFault) (t : Traffic)
    → HasReported fault t → HasReported fault (after_taken_by bytes faults t)
still-reported fault bytes faults t r = (
  r.0,
  r.1 ++ faults,
  ap (λ xs. xs ++ faults) r.2 ∙ append_assoc r.0 (fault ∷ r.1) faults,
)

-- Devices that were known have reported it, whatever the output took since.
reported-then : {s s' : SessionView} {k k' : Option Traffic} {fault : DeviceFault} (t now : Traffic)
    → Drains s k s' k' → k ≡ Some t → k' ≡ Some now → HasReported fault t
    → HasReported fault now
reported-then {s} {s'} {k} {k'} {fault} t now drains is known r =
    let d = drains.traffic t is in
    subst (HasReported fault) (same-now (sym d.1 ∙ known))
    (still-reported fault (taken_in drains.steps s) d.0 t r)

known-then : {s s' : SessionView} {k k' : Option Traffic} (t : Traffic) → Drains s k s' k'
    → k ≡ Some t → (now : Traffic) × (k' ≡ Some now)
known-then {s} t drains is =
    let d = drains.traffic t is in (after_taken_by (taken_in drains.steps s) d.0 t, d.1)

-- ---- the last lines

-- They change nothing that a session and its devices agree about.
ended-agrees : (held : BuffersView) (h : SessionHistory) (t : Traffic) (old new : SessionView)
    → h.session ≡ old → new ≡ record old { output = new.output } → Agrees held h t
    → Agrees held (record h { session = new }) t
ended-agrees held h t old new is stays a =
    let to = record old { output = new.output } in
    record {
      read =
          ap (λ xs. t.read ++ xs)
          (end-is h new
          (same-at (λ x. form_of x.messages) new to stays
          ∙ sym (same-at (λ x. form_of x.messages) h.session old is)))
          ∙ a.read;
      over = a.over;
      told = a.told;
      drained = a.drained;
      ended = λ e.
          same-at (λ x. x.is_read) new to stays
          ∙ sym (same-at (λ x. x.is_read) h.session old is)
          ∙ a.ended e;
      came = a.came;
      gone = a.gone;
      written = a.written;
      down = a.down;
      stands =
          subst (λ l. StandsFor l h.used)
          (sym
          (same-at (λ x. x.link.station.line) new to stays
          ∙ sym (same-at (λ x. x.link.station.line) h.session old is))) a.stands;
    }

-- a fault that was reported after the last lines were written
pub reports-ended : {held : BuffersView} {s0 s1 s2 : SessionView} {k0 k1 k2 : Option Traffic}
    {fault : DeviceFault} → GoesOn held s0 k0 held s1 k1 → s2 ≡ record s1 { output = s2.output }
    → Reports held s2 k1 k2 fault → Reports held s0 k0 k2 fault
reports-ended {held} {s0} {s1} {s2} goes stays reports = λ h t now is was a known.
    let g = goes h t is was a in
    let then = after_session_steps g.2.steps h in
    reports (record then { session = s2 }) g.0 now refl g.1
    (ended-agrees held then g.0 s1 s2 g.2.session stays g.2.agrees) known

-- ---- the end of a run

pub both : (a b : Bool) → a && b ≡ true → (a ≡ true) × (b ≡ true)
both true b e = (refl, e)
both false b e = cc

unfoldable pub ran-to-end : {ran finished w : Bool} {held new_held : BuffersView}
    {old closed between new : SessionView} {k0 k1 k2 k3 : Option Traffic} → w ≡ ran && finished
    → Ends ran held old k0 new_held closed k1 → Finishes finished closed k1 between k2
    → Drains between k2 new k3 → new ≡ between → RunsToEnd w held old k0 new_held new k3
ran-to-end {ran} {finished} {closed = closed} {k1 = k1} is ends finishes drains same = record {
  closed = closed;
  between = k1;
  ends = record {
    unclosed = ends.unclosed;
    over = ends.over;
    closes = ends.closes;
    well = λ e. ends.well (both ran finished (sym is ∙ e)).0;
    read = λ e. ends.read (both ran finished (sym is ∙ e)).0;
  };
  finishes = record {
    delivered = finishes.delivered;
    between = finishes.between;
    delivers = finishes.delivers;
    writes = finishes.writes;
    drained = finishes.drained;
    with_lines = finishes.with_lines;
    lines = finishes.lines;
    takes = drains-then finishes.takes drains;
    well = λ e.
        let well = finishes.well (both ran finished (sym is ∙ e)).1 in
        (well.0, subst IsDrained (sym same) well.1);
  };
}

module _ {w v : Bool} {held new_held : BuffersView} {old closed new : SessionView}
    {k0 k1 k2 : Option Traffic} {fault : DeviceFault} (ends : Ends w held old k0 new_held closed k1)
    (finishes : Finishes v closed k1 new k2) where
  -- a fault of the run
  reports-run : ReportsOver held old k0 k1 fault → ReportsOver held old k0 k2 fault
  reports-run reports = λ c t now is was a known.
      let g = ends.over c t is was a in
      let m = known-then g.0 finishes.delivers g.1 in
      reported-then m.0 now finishes.takes m.1 known
      (reported-then g.0 m.0 finishes.delivers g.1 m.1 (reports c t g.0 is was a g.1))

  -- a fault of the output
  reports-output : Reports new_held closed k1 k2 fault → ReportsOver held old k0 k2 fault
  reports-output reports = λ c t now is was a known.
      let g = ends.over c t is was a in
      let h = (after_all g.2.steps c).history in
      let closes = subst (λ s. Closes new_held s closed) (sym g.2.session) ends.closes in
      reports (after_session_step (record {
        call = Closed new_held.input new_held.is_over closes.is_reported;
        session = closed;
      }) h) g.0 now refl g.1 (closes.agrees h g.0 refl g.2.agrees) known

  -- and one that was known before standard error was drained
  reports-drained : {s : SessionView} {k3 : Option Traffic} → Drains new k2 s k3
      → ReportsOver held old k0 k2 fault → ReportsOver held old k0 k3 fault
  reports-drained drains reports = λ c t now is was a known.
      let g = ends.over c t is was a in
      let m = known-then g.0 finishes.delivers g.1 in
      let l = known-then m.0 finishes.takes m.1 in
      reported-then l.0 now drains l.1 known (reports c t l.0 is was a l.1)

  pub reports-to-end : {P Q : Type 0} {s : SessionView} {k3 : Option Traffic}
      → Drains new k2 s k3 → (P → ReportsOver held old k0 k1 fault)
      → (Q → Reports new_held closed k1 k2 fault) → P ⊎ Q → ReportsOver held old k0 k3 fault
  reports-to-end drains ran finished (inl p) = reports-drained drains (reports-run (ran p))
  reports-to-end drains ran finished (inr q) = reports-drained drains (reports-output (finished q))
