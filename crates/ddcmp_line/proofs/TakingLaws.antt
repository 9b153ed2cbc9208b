-- What players of a script say of taking it to its end.
use Rattle.std.proofs.Common.{◌≡◌, ◌≢◌, ℕ, ◌+◌, ◌-◌, ◌<◌, ◌≤◌, Bool, IsTrue, true, false}
use Rattle.std.proofs.Common.{Result, Ok, Err, refl, sym, ap, ◌∙◌, arith}
use Rattle.ddcmp_io.specs.Device.{worse}
use Rattle.ddcmp_io.specs.declared.device.Worst.{Worst}
use Rattle.ddcmp_io.specs.declared.device.Worst.TheVariants.{Fine}
use Rattle.ddcmp_io.specs.declared.device.Got.{Got}
use Rattle.ddcmp_io.specs.declared.device.Got.TheVariants.{Bytes, Idle, Failed}
use Rattle.ddcmp_line.specs.declared.script_fault.ScriptFault.{ScriptFault}
use Rattle.ddcmp_line.specs.declared.script_fault.ScriptFault.TheVariants.{Write, Read}
use Rattle.ddcmp_line.specs.declared.script_fault.ScriptFault.TheVariants.{Carrier}

-- a read leaves a source fine where it gave bytes, and only there
pub stays_fine : (old new : Worst) (got : Got) (n : ℕ) → old ≡ Fine → got ≡ Bytes n
    → new ≡ worse old got → new ≡ Fine
stays_fine old new got n fine is w = w ∙ ap (λ g. worse old g) is ∙ ap (λ o. worse o (Bytes n)) fine

pub worsens : (old new : Worst) (got : Got) → old ≡ Fine → ((n : ℕ) → got ≡ Bytes n → ⊥)
    → new ≡ worse old got → new ≢ Fine
worsens old new (Bytes n) fine not w = absurd (not n refl)
worsens old new Idle fine not w = λ e. absurd (cc (sym e ∙ w ∙ ap (λ o. worse o Idle) fine))
worsens old new Failed fine not w = λ e. absurd (cc (sym e ∙ w ∙ ap (λ o. worse o Failed) fine))

-- the results are distinct, and a fault is that of its result
pub write_or_read : ◌≡◌ {A = Result (Unit {0}) ScriptFault} (Err Write) (Err Read) → ⊥
write_or_read e = cc

pub read_or_write : ◌≡◌ {A = Result (Unit {0}) ScriptFault} (Err Read) (Err Write) → ⊥
read_or_write e = cc

pub write_or_carrier : ◌≡◌ {A = Result (Unit {0}) ScriptFault} (Err Write) (Err Carrier) → ⊥
write_or_carrier e = cc

pub read_or_carrier : ◌≡◌ {A = Result (Unit {0}) ScriptFault} (Err Read) (Err Carrier) → ⊥
read_or_carrier e = cc

pub same_fault : {T E : Type 0} (a b : E) → ◌≡◌ {A = Result T E} (Err a) (Err b) → a ≡ b
same_fault a b e = cc

pub true_or_false : (b : Bool) → b ≡ false → IsTrue b → ⊥
true_or_false b f t = cc (sym t ∙ f)

-- a failure that is always answered by a fault didn't come where the answer is Ok
pub stays_whole : {E : Type 0} (b : Bool) (fault : E)
    → (IsTrue b → ◌≡◌ {A = Result (Unit {0}) E} (Ok tt) (Err fault)) → b ≡ false
stays_whole false fault h = refl
stays_whole true fault h = absurd (cc (h refl))

-- what was seen stays below the most, unless a piece reaches it
pub stays_below : (most seen n now : ℕ) → n ≤ most - seen → seen < most → (seen + n ≡ most → ⊥)
    → now ≡ seen + n → now < most
stays_below most seen n now within below not e = omega (arith, not)
