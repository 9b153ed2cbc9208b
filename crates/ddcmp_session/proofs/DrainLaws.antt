-- What draining an output leaves as it is.
use Rattle.std.proofs.Common.{◌≡◌, ◌∙◌, ap, refl, Bool, true, false, cond, length}
use Rattle.std.specs.Prelude.{◌&&◌, ◌==◌}
use Rattle.ddcmp_station.specs.Linking.{LinkView, OutboxView}
use Rattle.ddcmp_session.specs.Course.{lost_more}
use Rattle.ddcmp_session.specs.Devices.{OnlyDelivers}
use Rattle.ddcmp_session.specs.Session.{SessionView, lost_by_end, lost_in}
use Rattle.ddcmp_session.proofs.GoingLaws.{same-at}

pub only-none : (s : SessionView) → OnlyDelivers s s
only-none s = record { out = refl; outbox = refl; stays = refl }

pub only-then : {a b c : SessionView} → OnlyDelivers a b → OnlyDelivers b c → OnlyDelivers a c
only-then {a} {b} {c} p q = record {
  out = q.out ∙ p.out;
  outbox = q.outbox ∙ p.outbox;
  stays =
      q.stays
      ∙ ap {B = SessionView} (λ (x : SessionView). record x {
        link = c.link;
        output = c.output;
        unwritten = c.unwritten;
      }) p.stays;
}

lost-same : (m : Bool) (d e : LinkView) → d.station.core.station.out ≡ e.station.core.station.out
    → d.outbox ≡ e.outbox → lost_in m d ≡ lost_in m e
lost-same true d e out outbox =
    ap (λ xs. cond (length xs == 0 && length d.outbox.waiting == 0) 0 1) out
    ∙ ap (λ (o : OutboxView).
    cond (length e.station.core.station.out == 0 && length o.waiting == 0) 0 1) outbox
lost-same false d e out outbox = ap length out

-- the same is lost by the end of its line, and counted so
pub counted-once : (s0 s1 s2 s3 : SessionView) → OnlyDelivers s0 s1
    → s2.course ≡ lost_more (lost_by_end s1) s1.course → OnlyDelivers s2 s3
    → s3.course ≡ lost_more (lost_by_end s0) s0.course
counted-once s0 s1 s2 s3 p is q =
    same-at (λ x. x.course) s3 (record s2 {
      link = s3.link;
      output = s3.output;
      unwritten = s3.unwritten;
    }) q.stays
    ∙ is
    ∙ ap (λ b. lost_more (cond b (lost_in s1.options.maintenance s1.link) 0) s1.course)
    (same-at (λ x. x.has_line) s1 to p.stays)
    ∙ ap (λ m. lost_more (cond s0.has_line (lost_in m s1.link) 0) s1.course)
    (same-at (λ x. x.options.maintenance) s1 to p.stays)
    ∙ ap (λ n. lost_more (cond s0.has_line n 0) s1.course)
    (lost-same s0.options.maintenance s1.link s0.link p.out p.outbox)
    ∙ ap (λ c. lost_more (lost_by_end s0) c)
    (same-at (λ x. x.course) s1 to p.stays)
  where
    to : SessionView
    to = record s0 { link = s1.link; output = s1.output; unwritten = s1.unwritten }
