-- A round and a recovery, settle after settle.
use Rattle.std.proofs.Common.{◌≡◌, [], ◌∷◌, ◌++◌, refl, sym, ◌∙◌, ap, subst}
use Rattle.std.specs.Prelude.{Bool, true, false, ◌&&◌, ℕ, Result, Ok, Err, OnErr}
use Rattle.ddcmp_io.specs.declared.carrier.End.TheVariants.{A, B}
use Rattle.ddcmp_pair.specs.declared.event.Event.TheVariants as event
use Rattle.ddcmp_pair.specs.Run.{PairState, after_event, asks_memory, run}
use Rattle.ddcmp_pair.specs.Settle.{settling, settled, WantsMemory}
use Rattle.ddcmp_pair.specs.Recovery.{both_expire, rounding, rounded, in_turn, recovering}
use Rattle.ddcmp_pair.specs.Recovery.{recovered}
use Rattle.ddcmp_pair.proofs.Runs.{run-append, wanted-next, wanted-second, wanted-first}
use Rattle.ddcmp_pair.proofs.Runs.{wanted-later}

-- what holds of an answer with an error holds of it in other words too
pub on-err-by : {A E P Q : Type 0} (answer : Result A E) → (P → Q) → OnErr answer P → OnErr answer Q
on-err-by (Ok a) f p = tt
on-err-by (Err e) f p = f p

pub rounding-events : (p : PairState)
    → (rounding p).events ≡ both_expire ++ (settling (run both_expire p)).events
unfolding rounding
rounding-events p = refl

pub rounding-exchanges : (p : PairState)
    → (rounding p).exchanges ≡ (settling (run both_expire p)).exchanges
unfolding rounding
rounding-exchanges p = refl

pub rounding-quiet : (p : PairState) → (rounding p).quiet ≡ (settling (run both_expire p)).quiet
unfolding rounding
rounding-quiet p = refl

-- a round is a settle after both timers have run out
pub rounded-is : (p : PairState) → rounded p ≡ settled (run both_expire p)
rounded-is p = ap (λ t. run t p) (rounding-events p) ∙ run-append both_expire _ p

pub both-expired : (p q r : PairState) → q ≡ after_event (event.Expire A) p
    → r ≡ after_event (event.Expire B) q → r ≡ run both_expire p
unfolding run
both-expired p q r first second = second ∙ ap (after_event (event.Expire B)) first

pub wanted-at-first : (p q : PairState) → q ≡ p
    → (asks_memory (event.Expire A) p ≡ false → false ≡ true) → WantsMemory (rounding p).events p q
wanted-at-first p q same never =
    wanted-next (event.Expire A) _ (rounding p).events p q (sym (rounding-events p)) same never

pub wanted-between : (p q r : PairState) → q ≡ after_event (event.Expire A) p → r ≡ q
    → (asks_memory (event.Expire B) q ≡ false → false ≡ true)
    → WantsMemory (rounding p).events p r
wanted-between p q r first same never =
    wanted-second (event.Expire A) (event.Expire B) _ (rounding p).events p q r
    (sym (rounding-events p)) first same never

pub wanted-in-round : (p q : PairState)
    → WantsMemory (settling (run both_expire p)).events (run both_expire p) q
    → WantsMemory (rounding p).events p q
wanted-in-round p q s =
    subst (λ t. WantsMemory t p q) (sym (rounding-events p)) (wanted-later both_expire _ p q s)

-- ---- a settle and two rounds

pub recovering-is : (p : PairState)
    → recovering p ≡ in_turn (settling p) (rounding (settled p)) (rounding (rounded (settled p)))
unfolding recovering
recovering-is p = refl

pub recovering-state : (p : PairState) → run (recovering p).events p ≡ recovered p
recovering-state p =
    ap (λ r. run r.events p) (recovering-is p) ∙ run-append (settling p).events _ p
    ∙ run-append (rounding (settled p)).events _ (settled p)

pub wanted-in-first : (p q : PairState) → WantsMemory (settling p).events p q
    → WantsMemory (recovering p).events p q
wanted-in-first p q s =
    subst (λ r. WantsMemory r.events p q) (sym (recovering-is p)) (wanted-first _ _ p q s)

pub wanted-in-second : (p x q : PairState) → x ≡ settled p → WantsMemory (rounding x).events x q
    → WantsMemory (recovering p).events p q
wanted-in-second p x q first s =
    subst (λ r. WantsMemory r.events p q) (sym (recovering-is p))
    (wanted-later (settling p).events _ p q
    (wanted-first (rounding (settled p)).events _ (settled p) q
    (subst (λ (y : PairState). WantsMemory (rounding y).events y q) first s)))

pub wanted-in-third : (p x y q : PairState) → x ≡ settled p → y ≡ rounded x
    → WantsMemory (rounding y).events y q → WantsMemory (recovering p).events p q
wanted-in-third p x y q first second s =
    subst (λ r. WantsMemory r.events p q) (sym (recovering-is p))
    (wanted-later (settling p).events _ p q
    (wanted-later (rounding (settled p)).events _ (settled p) q
    (subst (λ (z : PairState). WantsMemory (rounding z).events z q)
    (second ∙ ap (λ (z : PairState). rounded z) first) s)))

pub recovered-is : (p x y z : PairState) → x ≡ settled p → y ≡ rounded x → z ≡ rounded y
    → z ≡ recovered p
recovered-is p x y z first second third =
    third ∙ ap (λ (w : PairState). rounded w) (second ∙ ap (λ (w : PairState). rounded w) first)

-- ---- what is answered

pub recovering-exchanges : (p x y : PairState) (a b c : ℕ) → x ≡ settled p → y ≡ rounded x
    → a ≡ (settling p).exchanges → b ≡ (rounding x).exchanges → c ≡ (rounding y).exchanges
    → a ∷ b ∷ c ∷ [] ≡ (recovering p).exchanges
recovering-exchanges p x y a b c first second ea eb ec =
    let eb' = eb ∙ ap (λ (q : PairState). (rounding q).exchanges) first in
    let ec' =
    ec
    ∙ ap (λ (q : PairState). (rounding q).exchanges)
    (second ∙ ap (λ (q : PairState). rounded q) first) in
    (λ i. ea i ∷ eb' i ∷ ec' i ∷ []) ∙ ap (λ r. r.exchanges) (sym (recovering-is p))

pub recovering-quiet : (p x y : PairState) (a b c : Bool) → x ≡ settled p → y ≡ rounded x
    → a ≡ (settling p).quiet → b ≡ (rounding x).quiet → c ≡ (rounding y).quiet
    → (a && (b && c)) ≡ (recovering p).quiet
recovering-quiet p x y a b c first second ea eb ec =
    let eb' = eb ∙ ap (λ (q : PairState). (rounding q).quiet) first in
    let ec' =
    ec
    ∙ ap (λ (q : PairState). (rounding q).quiet)
    (second ∙ ap (λ (q : PairState). rounded q) first) in
    (λ i. ea i && (eb' i && ec' i)) ∙ ap (λ r. r.quiet) (sym (recovering-is p))
