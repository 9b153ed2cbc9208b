use Rattle.std.proofs.Common.{◌≡◌, ◌∙◌, ◌+◌, ◌*◌, ap, sym, subst, refl, arith}
use Rattle.ddcmp_pair.specs.Run.{run}
use Rattle.ddcmp_pair.specs.Settle.{all_mail, most_exchanges}
use Rattle.ddcmp_pair.proofs.Runs.{on-err, wanted-first}
use Rattle.ddcmp_pair.proofs.Settles.{LeftToSettle, left-more, left-quiet, left-busy, left-wanted}
use Rattle.ddcmp_pair.proofs.Settles.{settle-begun, settled-is, settling-exchanges, settling-quiet}
use Rattle.ddcmp_pair.proofs.Settles.{wanted-in-mail, wanted-in-second-mail, wanted-after-mail}
use Rattle.ddcmp_pair.proofs.Watching.{SawToSettle, saw-mail, saw-more, saw-quiet, saw-busy}
use Rattle.ddcmp_pair.proofs.pair.Pair.settle_all.Goals as goal

pub returns-in_err-take_mail-clause-memory : goal.returns-in_err-take_mail-clause-memory
returns-in_err-take_mail-clause-memory g c =
    on-err _
    (wanted-in-mail c.args.self.now c.take_mail.new.self
    (wanted-first _ _ c.args.self.now c.take_mail.new.self c.in_err-take_mail.ensures.memory))

pub returns-in_err-take_mail-2-clause-memory : goal.returns-in_err-take_mail-2-clause-memory
returns-in_err-take_mail-2-clause-memory g c =
    on-err _
    (wanted-in-second-mail c.args.self.now c.take_mail.new.self c.take_mail-2.new.self
    (c.in_ok-take_mail.ensures.state refl) c.in_err-take_mail-2.ensures.memory)

pub loop-exchanges-init : goal.loop-exchanges-init
loop-exchanges-init g c = record {
  left =
      settle-begun c.args.self.now c.take_mail.new.self c.take_mail-2.new.self
      (c.in_ok-take_mail.ensures.state refl) (c.in_ok-take_mail-2.ensures.state refl);
  most = ap (λ n. 16 * (n + 4)) c.window.ensures;
  saw =
      saw-mail _ _ _ c.args.self.now c.take_mail.new.self c.take_mail-2.new.self
      (c.in_ok-take_mail.ensures.seen refl) (c.in_ok-take_mail.ensures.state refl)
      (c.in_ok-take_mail-2.ensures.seen refl) (c.in_ok-take_mail-2.ensures.state refl);
}

pub returns-in_err-exchange-clause-memory : goal.returns-in_err-exchange-clause-memory
returns-in_err-exchange-clause-memory g c =
    let i = c.loop-exchanges.invariant in
    let most = i.most in
    on-err _ (wanted-after-mail c.args.self.now c.exchange.new.self
    (left-wanted _ _ c.loop-exchanges.exchanges c.loop-exchanges.self c.exchange.new.self i.left
    (omega (arith, most)) c.in_err-exchange.ensures.memory))

pub returns-then-not-branch-clause-state : goal.returns-then-not-branch-clause-state
returns-then-not-branch-clause-state g c = λ ok.
    let i = c.loop-exchanges.invariant in
    let most = i.most in
    let none = sym c.in_ok-exchange.ensures.wrote ∙ c.if-not-branch.true in
    settled-is c.args.self.now c.exchange.new.self
    (left-quiet _ _ c.loop-exchanges.exchanges c.loop-exchanges.self c.exchange.new.self i.left
    (omega (arith, most)) none (c.in_ok-exchange.ensures.state refl)).state

pub returns-then-not-branch-clause-exchanges : goal.returns-then-not-branch-clause-exchanges
returns-then-not-branch-clause-exchanges g c =
    let i = c.loop-exchanges.invariant in
    let most = i.most in
    let none = sym c.in_ok-exchange.ensures.wrote ∙ c.if-not-branch.true in
    (left-quiet _ _ c.loop-exchanges.exchanges c.loop-exchanges.self c.exchange.new.self i.left
    (omega (arith, most)) none (c.in_ok-exchange.ensures.state refl)).exchanges_are
    ∙ sym (settling-exchanges c.args.self.now)

pub returns-then-not-branch-clause-quiet : goal.returns-then-not-branch-clause-quiet
returns-then-not-branch-clause-quiet g c =
    let i = c.loop-exchanges.invariant in
    let most = i.most in
    let none = sym c.in_ok-exchange.ensures.wrote ∙ c.if-not-branch.true in
    (left-quiet _ _ c.loop-exchanges.exchanges c.loop-exchanges.self c.exchange.new.self i.left
    (omega (arith, most)) none (c.in_ok-exchange.ensures.state refl)).quiet_is
    ∙ sym (settling-quiet c.args.self.now)

pub loop-exchanges-preserved : goal.loop-exchanges-preserved
loop-exchanges-preserved g c =
    let i = c.loop-exchanges.invariant in
    let most = i.most in
    record {
      left =
          left-more _ _ c.loop-exchanges.exchanges c.loop-exchanges.self c.exchange.new.self i.left
          (omega (arith, most))
          (sym c.in_ok-exchange.ensures.wrote ∙ c.if-not-branch.false)
          (c.in_ok-exchange.ensures.state refl);
      most = i.most;
      saw =
          saw-more _ _ _ c.args.self.now c.loop-exchanges.exchanges c.loop-exchanges.self
          c.exchange.new.self i.saw (omega (arith, most))
          (sym c.in_ok-exchange.ensures.wrote ∙ c.if-not-branch.false)
          (c.in_ok-exchange.ensures.state refl) (c.in_ok-exchange.ensures.seen refl);
    }

pub returns-clause-state : goal.returns-clause-state
returns-clause-state g c = λ ok.
    let i = c.loop-exchanges.invariant in
    let most = i.most in
    let end : c.loop-exchanges.exchanges ≡ most_exchanges c.args.self.now = omega (arith, most) in
    settled-is c.args.self.now c.loop-exchanges.self
    (left-busy _ _ c.loop-exchanges.self
    (subst
    (λ n. LeftToSettle (most_exchanges c.args.self.now)
    (run (all_mail c.args.self.now) c.args.self.now) n c.loop-exchanges.self) end i.left)).state

pub returns-clause-exchanges : goal.returns-clause-exchanges
returns-clause-exchanges g c =
    let i = c.loop-exchanges.invariant in
    let most = i.most in
    let end : c.loop-exchanges.exchanges ≡ most_exchanges c.args.self.now = omega (arith, most) in
    most
    ∙ (left-busy _ _ c.loop-exchanges.self
    (subst
    (λ n. LeftToSettle (most_exchanges c.args.self.now)
    (run (all_mail c.args.self.now) c.args.self.now) n c.loop-exchanges.self)
    end i.left)).exchanges_are
    ∙ sym (settling-exchanges c.args.self.now)

pub returns-clause-quiet : goal.returns-clause-quiet
returns-clause-quiet g c =
    let i = c.loop-exchanges.invariant in
    let most = i.most in
    let end : c.loop-exchanges.exchanges ≡ most_exchanges c.args.self.now = omega (arith, most) in
    (left-busy _ _ c.loop-exchanges.self
    (subst
    (λ n. LeftToSettle (most_exchanges c.args.self.now)
    (run (all_mail c.args.self.now) c.args.self.now) n c.loop-exchanges.self)
    end i.left)).quiet_is
    ∙ sym (settling-quiet c.args.self.now)

pub returns-then-not-branch-clause-seen : goal.returns-then-not-branch-clause-seen
returns-then-not-branch-clause-seen g c = λ ok.
    let i = c.loop-exchanges.invariant in
    let most = i.most in
    let none = sym c.in_ok-exchange.ensures.wrote ∙ c.if-not-branch.true in
    saw-quiet _ _ _ c.args.self.now c.loop-exchanges.exchanges c.loop-exchanges.self i.saw
    (omega (arith, most)) none (c.in_ok-exchange.ensures.seen refl)

pub returns-clause-seen : goal.returns-clause-seen
returns-clause-seen g c = λ ok.
    let i = c.loop-exchanges.invariant in
    let most = i.most in
    let end : c.loop-exchanges.exchanges ≡ most_exchanges c.args.self.now = omega (arith, most) in
    saw-busy _ _ c.args.self.now c.loop-exchanges.self
    (subst
    (λ n. SawToSettle (g.W.Watch.seen c.args.watch.now) (g.W.Watch.seen c.loop-exchanges.watch)
    c.args.self.now n c.loop-exchanges.self) end i.saw)
