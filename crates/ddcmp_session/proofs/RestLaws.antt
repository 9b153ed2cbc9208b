-- A pass that moved nothing leaves nothing to be done without a device.
use Rattle.std.proofs.Common.{◌≡◌, ◌∙◌, ◌⊎◌, ap, sym, subst, Bool, false, []}
use Rattle.std.proofs.Common.{Result, Ok}
use Rattle.std.specs.Prelude.{◌||◌}
use Rattle.ddcmp_session.specs.declared.devices.DeviceFault.{DeviceFault}
use Rattle.ddcmp_session.specs.Session.{SessionView, IsFilled, takes_end, wants_input, wants_line}
use Rattle.ddcmp_session.specs.Devices.{BuffersView, IsIdle, HoldsMail}
use Rattle.ddcmp_session.proofs.GoingLaws.{neither}

pub ok-false : (b : Bool) → ◌≡◌ {A = Result Bool DeviceFault} (Ok b) (Ok false) → b ≡ false
ok-false b e = cc

pub as-ok : {b : Bool} → b ≡ false → ◌≡◌ {A = Result Bool DeviceFault} (Ok b) (Ok false)
as-ok e = ap (λ x. Ok x) e

-- none of seven moved anything
pub record None (a b c d e f g : Bool) : Type 0 where
  pub first : a ≡ false
  pub second : b ≡ false
  pub third : c ≡ false
  pub fourth : d ≡ false
  pub fifth : e ≡ false
  pub sixth : f ≡ false

pub none : (a b c d e f g : Bool)
    → ◌≡◌ {A = Result Bool DeviceFault} (Ok ((((((a || b) || c) || d) || e) || f) || g)) (Ok false)
    → None a b c d e f g
none a b c d e f g all =
    let n = neither (((((a || b) || c) || d) || e) || f) g (ok-false _ all) in
    let m = neither ((((a || b) || c) || d) || e) f n.0 in
    let l = neither (((a || b) || c) || d) e m.0 in
    let k = neither ((a || b) || c) d l.0 in
    let j = neither (a || b) c k.0 in
    let i = neither a b j.0 in
    record {
      first = i.0;
      second = i.1;
      third = j.1;
      fourth = k.1;
      fifth = l.1;
      sixth = m.1;
    }

-- From a session that was filled: its input was passed on, then its line was read, then what came
-- was passed on, and then what waits was written.
pub comes-to-rest : (filled passed fed last : SessionView) (input_read came : BuffersView)
    → IsFilled filled → passed ≡ filled
    → (input_read.input ≡ []) ⊎ (wants_input passed ≡ false)
    → (input_read.is_over ≡ false) ⊎ ((wants_input passed ≡ false) ⊎ (takes_end passed ≡ false))
    → fed ≡ record passed { output = fed.output } → came ≡ input_read
    → (came.received ≡ []) ⊎ (wants_line fed ≡ false)
    → HoldsMail fed → last ≡ fed → IsIdle came last
comes-to-rest filled passed fed last input_read came is-filled same input told stays held line mail
    rest =
    let to = rest ∙ stays in record {
      filled =
          subst IsFilled (sym to) (subst IsFilled (sym same) is-filled);
      input_read =
          subst (λ (b : BuffersView). (b.input ≡ []) ⊎ (wants_input last ≡ false)) (sym held)
          (subst (λ s. (input_read.input ≡ []) ⊎ (wants_input s ≡ false)) (sym to) input);
      told =
          subst
          (λ (b : BuffersView). (b.is_over ≡ false)
          ⊎ ((wants_input last ≡ false) ⊎ (takes_end last ≡ false))) (sym held)
          (subst
          (λ s. (input_read.is_over ≡ false) ⊎ ((wants_input s ≡ false) ⊎ (takes_end s ≡ false)))
          (sym to) told);
      fed = subst (λ s. (came.received ≡ []) ⊎ (wants_line s ≡ false)) (sym rest) line;
      delivered = subst HoldsMail (sym rest) mail;
    }
