-- What a station's result says of the line and of the report, by how driving it ended.
use Rattle.std.proofs.Common.{◌≡◌, ◌⊎◌, inl, inr, refl, Bool, true, false, Ok, Err, Result}
use Rattle.std.specs.Prelude.{◌↔◌}
use Rattle.ddcmp_io.specs.declared.device.LineFault.{LineFault}
use Rattle.ddcmp_io.specs.declared.device.LineFault.TheVariants.{Memory}
use Rattle.ddcmp_net.specs.declared.serve_fault.ServeFault.{ServeFault}
use Rattle.ddcmp_net.specs.declared.serve_fault.ServeFault.TheVariants.{Config as NoStation, Line}
use Rattle.ddcmp_net.specs.declared.serve_fault.ServeFault.TheVariants.{Report}

abbrev pub Answer : Type 0
Answer = Result (Unit {0}) ServeFault

abbrev pub Driving : Type 0 → Type 0
Driving D = Result D LineFault

abbrev pub Is : Answer → Answer → Type 0
Is a b = a ≡ b

abbrev pub DrivingIs : {D : Type 0} → Driving D → Driving D → Type 0
DrivingIs a b = a ≡ b

abbrev pub IsNoLine : Answer → Type 0
IsNoLine r = (fault : LineFault) → r ≡ Err (Line fault) → ⊥

pub done_is_no_line : {u : Unit {0}} → IsNoLine (Ok u)
done_is_no_line {u = u} fault e = let bad : Is (Ok u) (Err (Line fault)) = e in cc

pub report_is_no_line : IsNoLine (Err Report)
report_is_no_line fault e = let bad : Is (Err Report) (Err (Line fault)) = e in cc

-- a station that was driven reports no fault of the line
pub off_line : {D : Type 0} {driven : D} {fault : LineFault} {X : Type 0} (r : Answer) → IsNoLine r
    → DrivingIs {D = D} (Ok driven) (Err fault) ↔ X → Is r (Err (Line fault)) ↔ X
off_line {D = D} {driven = driven} {fault = fault} r none h = (
  λ e. absurd (none fault e),
  λ x. let bad : DrivingIs {D = D} (Ok driven) (Err fault) = h.1 x in cc,
)

-- and one that wasn't reports its fault
pub on_line : {D : Type 0} {told fault : LineFault} {X : Type 0}
    → DrivingIs {D = D} (Err told) (Err fault) ↔ X → Is (Err (Line told)) (Err (Line fault)) ↔ X
on_line {D = D} {told = told} {fault = fault} h = (
  λ e. let same : told ≡ fault = cc in h.0 cc,
  λ x. let same : DrivingIs {D = D} (Err told) (Err fault) = h.1 x in cc,
)

pub ends_line : {D : Type 0} {told fault : LineFault} {X : Type 0}
    → (DrivingIs {D = D} (Err told) (Err fault) → X) → Is (Err (Line told)) (Err (Line fault)) → X
ends_line {told = told} {fault = fault} h e = let same : told ≡ fault = cc in h cc

-- the report's fault is reported where it broke, unless the line's is
pub told_whole : {u : Unit {0}} {broken : Bool} {Q : Type 0} → broken ≡ false
    → Is (Ok u) (Err Report) ↔ ((broken ≡ true) × Q)
told_whole {u = u} {broken = broken} whole =
    (λ e. let bad : Is (Ok u) (Err Report) = e in cc, λ p. let broke : broken ≡ true = p.0 in cc)

pub told_broken : {broken : Bool} → broken ≡ true
    → Is (Err Report) (Err Report) ↔ ((broken ≡ true) × IsNoLine (Err Report))
told_broken broke = (λ e. (broke, report_is_no_line), λ p. refl)

pub told_line : {fault : LineFault} {P : Type 0}
    → Is (Err (Line fault)) (Err Report) ↔ (P × IsNoLine (Err (Line fault)))
told_line {fault = fault} =
    (λ e. let bad : Is (Err (Line fault)) (Err Report) = e in cc, λ p. absurd (p.1 fault refl))

-- nor is memory what it wants for
pub done_has_memory : {A : Type 0} {u : Unit {0}}
    → Is (Ok u) (Err NoStation) ⊎ Is (Ok u) (Err (Line Memory)) → A
done_has_memory {u = u} (inl e) = let bad : Is (Ok u) (Err NoStation) = e in absurd cc
done_has_memory {u = u} (inr e) = absurd (done_is_no_line {u = u} Memory e)

pub report_has_memory : {A : Type 0}
    → Is (Err Report) (Err NoStation) ⊎ Is (Err Report) (Err (Line Memory)) → A
report_has_memory (inl e) = let bad : Is (Err Report) (Err NoStation) = e in absurd cc
report_has_memory (inr e) = absurd (report_is_no_line Memory e)
