use Rattle.std.proofs.Common.{◌∙◌, ◌*◌, ap, refl, subst, sym}
use Rattle.std.specs.Prelude.{is_some}
use Rattle.ddcmp_bridge.specs.Crossing.{CrossesAs, asked_of, view_of}
use Rattle.ddcmp_bridge.proofs.CrossLaws.{closed-uses, crosses-nothing, leaving, leaving-left, reopened}
use Rattle.ddcmp_bridge.proofs.bridge.Bridge.left.Goals as goal

pub returns-then-reopens-clause-keeps : goal.returns-then-reopens-clause-keeps
returns-then-reopens-clause-keeps c =
    let r = c.restart.ensures in
    record {
      crosses = λ h k.
          subst (λ s. CrossesAs (view_of s) h) (sym c.begin.ensures.phase)
          (crosses-nothing (record (view_of c.restart.new.self) { phase = c.begin.new.self.phase })
          h _ _ r.flags.0 c.begin.ensures.joined c.begin.ensures.left
          (r.stays.2 ∙ k.limit (leaving c.requires.phase) ∙ ap (λ o. 1000 * o.seconds) (sym r.stays.0))
          (λ is. reopened (k.ends.printed (sym (ap (λ o. is_some o) r.stays.3) ∙ is)) (leaving c.requires.phase)) r.there r.back
          (λ is. absurd (reopened r.flags.1 is)) (λ is. absurd (reopened r.flags.1 is))
          (λ is. ap (λ o. o.again) r.stays.0 ∙ c.if-reopens.ensures refl)
          (r.faults.0 ∙ k.there.faults ∙ ap (λ o. o.faults) (sym r.stays.0))
          (r.faults.1 ∙ k.back.faults ∙ ap (λ o. o.faults) (sym r.stays.0))
          (r.delay.0 ∙ k.there.delay ∙ ap (λ o. o.delay_ms) (sym r.stays.0))
          (r.delay.1 ∙ k.back.delay ∙ ap (λ o. o.delay_ms) (sym r.stays.0))
          (closed-uses _ _ _ h (r.lines.0 ∙ c.requires.first) r.lines.1)
          (closed-uses _ _ _ h (r.lines.2 ∙ c.requires.second) r.lines.3));
      asked = ap asked_of c.begin.ensures.phase ∙ r.asked;
    }

pub returns-else-reopens-clause-keeps : goal.returns-else-reopens-clause-keeps
returns-else-reopens-clause-keeps c = record {
  crosses = λ h k. record {
    there = record {
      start = k.there.start;
      begins = k.there.begins;
      directs = k.there.directs;
      faults = k.there.faults;
      delay = k.there.delay;
    };
    back = record {
      start = k.back.start;
      begins = k.back.begins;
      directs = k.back.directs;
      faults = k.back.faults;
      delay = k.back.delay;
    };
    again = k.again;
    first = k.first;
    second = k.second;
    fits = record { joined = λ is. absurd (reopened is refl); opening = λ is. absurd (reopened is refl) };
    left = λ is. k.left (leaving-left c.requires.phase);
    limit = λ is. absurd (reopened refl is);
    ends = record { printed = λ is. refl; one = k.ends.one; other = k.ends.other };
  };
  asked = refl;
}
