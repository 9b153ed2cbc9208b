-- How a bridge ends.
use Rattle.std.proofs.Common.{◌≡◌, ◌∙◌, Bool, true, false, ap, inl, inr, Result, Ok, Err, subst}
use Rattle.std.proofs.Common.{sym}
use Rattle.std.specs.Prelude.{if◌then◌else◌}
use Rattle.ddcmp_io.specs.Written.{Known}
use Rattle.ddcmp_args.specs.declared.bridge_args.BridgeArgs.{BridgeArgs}
use Rattle.ddcmp_bridge.specs.declared.bridge.BridgeEnd.{BridgeEnd}
use Rattle.ddcmp_device.specs.declared.bridging.BridgeFault.{BridgeFault}
use Rattle.ddcmp_device.specs.declared.bridging.BridgeFault.TheVariants as bridging
use Rattle.ddcmp_ports.specs.Events.{open_fault_text}
use Rattle.ddcmp_commands.specs.declared.fault.Fault.TheVariants.{Read, Write, Memory, Ended}
use Rattle.ddcmp_commands.specs.declared.ending.Ending.{Ending}
use Rattle.ddcmp_commands.specs.declared.ending.Ending.TheVariants.{Done, Fault as Faulted}
use Rattle.ddcmp_cli.specs.BridgeEndings.{BridgeEnds, Bridges}
use Rattle.ddcmp_cli.specs.Lines.{LinesKnown}
use Rattle.ddcmp_commands.specs.Endings.{IsLineUnopened, is_refusal}

no-write : Faulted Write ≡ Faulted Read → ⊥
no-write e = cc

no-memory : Faulted Memory ≡ Faulted Read → ⊥
no-memory e = cc

no-end : (b : Bool) → (if b then Faulted Ended else Done) ≡ Faulted Read → ⊥
no-end true e = cc
no-end false e = cc

no-refusal : (ending : Ending) → is_refusal ending ≡ true → ending ≡ Faulted Read → ⊥
no-refusal ending r e = let bad : ◌≡◌ {A = Bool} false true = ap is_refusal (sym e) ∙ r in cc

not-ended : (old new : Known) (ended : Result BridgeEnd BridgeFault) (ending : Ending)
    → BridgeEnds old new ended ending → ending ≡ Faulted Read → ⊥
not-ended old new (Ok end) ending (inl h) e = no-end end.has_failed (sym h.0 ∙ e)
not-ended old new (Ok end) ending (inr h) e = no-write (sym h.0 ∙ e)
not-ended old new (Err (bridging.Open why)) ending h e =
    subst (IsLineUnopened (open_fault_text why)) e h.0
not-ended old new (Err bridging.Memory) ending h e = no-memory (sym h.0 ∙ e)

-- it reads nothing, so no read fails
pub not-read : (lines : LinesKnown) (asked : BridgeArgs) (old new : Known) (ending : Ending)
    → Bridges lines asked old new ending → ending ≡ Faulted Read → ⊥
not-read _ _ old new ending (inl h) e = no-refusal ending h.1 e
not-read _ _ old new ending (inr (inl h)) e = no-refusal ending h.1 e
not-read _ _ old new ending (inr (inr (inl h))) e = no-refusal ending h.1 e
not-read _ _ old new ending (inr (inr (inr h))) e =
    let (_, _, _, _, _, ended, _, ends) = h in not-ended old new ended ending ends e
