use Rattle.std.proofs.Common.{◌≡◌, ◌∷◌, None, refl, subst, sym, take}
use Rattle.ddcmp_ports.specs.declared.port.Need.TheVariants.{Bytes}
use Rattle.ddcmp_ports.specs.Running.{Gave}
use Rattle.ddcmp_tap.specs.Tapping.{needs_of, stamp_of}
use Rattle.ddcmp_tap.proofs.TapLaws.{bytes-first, bytes-second, gave-first, gave-second, lost-first}
use Rattle.ddcmp_tap.proofs.TapLaws.{is-logged, lost-second}
use Rattle.ddcmp_tap.specs.contracts.machine.Tap.{the_view}
use Rattle.ddcmp_tap.proofs.machine.TapMachine.give.Goals as goal

pub returns-then-not-taken-clause-has : goal.returns-then-not-taken-clause-has
returns-then-not-taken-clause-has c =
    let taken = take c.push-taken.result.used c.args.bytes.now in
    rw (sym c.self.view_is) (rw (c.in-First.is) (record {
      history = λ h k. lost-first (the_view c.self.inside) c.push-taken.new.self _ taken h c.clear.ensures.empty
          c.push-taken.ensures.forwards c.push-taken.ensures.going k;
      same = refl;
    }))

pub returns-else-not-taken-clause-has : goal.returns-else-not-taken-clause-has
returns-else-not-taken-clause-has c =
    let taken = take c.push-taken.result.used c.args.bytes.now in
    rw (sym c.self.view_is) (rw (c.in-First.is) (record {
      history = λ h k. gave-first (the_view c.self.inside) c.push-taken.new.self _ taken h
          (subst (λ s. s.fault ≡ None) (sym c.self.view_is) (bytes-first c.args.self.now
          (subst (λ p. needs_of c.args.self.now p ≡ Bytes) c.in-First.is c.requires.needed)))
          c.self.invariant.1 c.push-taken.ensures.forwards c.push-taken.ensures.going c.stamp-stamp.result (subst (λ s. c.stamp-stamp.result ≡ stamp_of s) (sym c.self.view_is) c.stamp-stamp.ensures)
          (c.push-taken.ensures.lines (is-logged _ c.if-not-taken.false)) k;
      same = refl;
    }))

pub returns-then-not-taken-2-clause-has : goal.returns-then-not-taken-2-clause-has
returns-then-not-taken-2-clause-has c =
    let taken = take c.push-taken-in-Second.result.used c.args.bytes.now in
    rw (sym c.self.view_is) (rw (c.in-Second.is) (record {
      history = λ h k. lost-second (the_view c.self.inside) c.push-taken-in-Second.new.self _ taken h
          c.clear-then-not-taken-2.ensures.empty c.push-taken-in-Second.ensures.forwards c.push-taken-in-Second.ensures.going k;
      same = refl;
    }))

pub returns-else-not-taken-2-clause-has : goal.returns-else-not-taken-2-clause-has
returns-else-not-taken-2-clause-has c =
    let taken = take c.push-taken-in-Second.result.used c.args.bytes.now in
    rw (sym c.self.view_is) (rw (c.in-Second.is) (record {
      history = λ h k. gave-second (the_view c.self.inside) c.push-taken-in-Second.new.self _ taken h
          (subst (λ s. s.fault ≡ None) (sym c.self.view_is) (bytes-second c.args.self.now
          (subst (λ p. needs_of c.args.self.now p ≡ Bytes) c.in-Second.is c.requires.needed)))
          c.self.invariant.2 c.push-taken-in-Second.ensures.forwards c.push-taken-in-Second.ensures.going c.stamp-stamp.result (subst (λ s. c.stamp-stamp.result ≡ stamp_of s) (sym c.self.view_is) c.stamp-stamp.ensures)
          (c.push-taken-in-Second.ensures.lines (is-logged _ c.if-not-taken-2.false)) k;
      same = refl;
    }))
