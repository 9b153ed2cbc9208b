-- What a session has for standard error, over calls one after another.
use Rattle.std.proofs.Common.{◌≡◌, ◌∙◌, ℕ, List, [], ◌∷◌, ◌++◌, ap, refl, subst}
use Rattle.ddcmp_session.specs.Logged.{LogView}
use Rattle.ddcmp_session.specs.LastReports.{TookEach, WritesQueued}
use Rattle.ddcmp_streams.specs.Errors.{ErrorsView, Took}

-- Lines were written.
pub writes-errors : (old mid new : LogView) → mid ≡ record old { errors = mid.errors }
    → new ≡ record mid { errors = new.errors } → new ≡ record old { errors = new.errors }
writes-errors old mid new p q = q ∙ ap (λ (l : LogView). record l { errors = new.errors }) p

-- Messages were read, and lines written.
pub reads-on : (old mid new : LogView)
    → mid ≡ record old { errors = mid.errors; read = mid.read }
    → new ≡ record mid { errors = new.errors; read = new.read }
    → new ≡ record old { errors = new.errors; read = new.read }
reads-on old mid new p q =
    q ∙ ap (λ (l : LogView). record l { errors = new.errors; read = new.read }) p

-- Queued lines were written, at once or one call after another.
pub took-then : (a b : List ℕ) (x y z : ErrorsView) → TookEach a x y → TookEach b y z
    → TookEach (a ++ b) x z
took-then [] b x y z p q = subst (λ v. TookEach b v z) p q
took-then (n ∷ later) b x y z (mid, took, rest) q =
    (mid, took, took-then later b mid y z rest q)

pub queued-none : {x : ErrorsView} → WritesQueued x x
queued-none = ([], refl)

pub queued-took : {x y : ErrorsView} (n : ℕ) → Took n x y → WritesQueued x y
queued-took {x} {y} n took = (n ∷ [], (y, took, refl))

pub queued-on : (x y z : ErrorsView) → WritesQueued x y → WritesQueued y z → WritesQueued x z
queued-on x y z (a, p) (b, q) = (a ++ b, took-then a b x y z p q)
