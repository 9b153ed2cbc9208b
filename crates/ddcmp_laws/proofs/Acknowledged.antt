-- All that was accepted but what is kept was reported acknowledged, and so was delivered; and if the
-- other station acknowledges messages when they are taken, it was taken.
use Rattle.std.proofs.Common.{◌≡◌, ℕ, ◌+◌, ◌≤◌, Bool, true, false, List, [], ◌∷◌, ◌++◌, length, refl}
use Rattle.std.proofs.Common.{sym, ◌∙◌, ap, subst, arith, length-append, append-nil}
use Rattle.std.specs.Prelude.{◌&&◌, ◌==◌}
use Rattle.std.proofs.lemmas.List.{length-drop}
use Rattle.ddcmp_io.specs.declared.carrier.End.{End}
use Rattle.ddcmp_pair.specs.Choices.{IsAcknowledgedTaken}
use Rattle.ddcmp_pair.specs.InOrder.{Delivers}
use Rattle.ddcmp_pair.specs.Run.{EndState, PairState, handed_up, run, is_clean}
use Rattle.ddcmp_pair.proofs.Relation.{Face, face, Stands, not_begun, begun}
use Rattle.ddcmp_pair.proofs.Linked.{Linked, linked-turned}
use Rattle.ddcmp_pair.proofs.Modes.{holds-taken}
use Rattle.ddcmp_pair.proofs.Ordered.{Holds}
use Rattle.ddcmp_laws.specs.PairCalls.{Call, run_calls, events_in, noted}
use Rattle.ddcmp_laws.proofs.PairCallLaws.{run_same, honest_same, clean_same, holds_run}

-- Of what an end has accepted it keeps all that wasn't reported acknowledged.
abbrev pub IsAcknowledged : EndState → Type 0
IsAcknowledged x = length x.given ≤ x.acknowledged + length x.core.station.out

stands_all : (x : Face) (sent next : ℕ) → Stands x sent next
    → length x.given ≤ x.acknowledged + length x.station.out
stands_all x sent next (not_begun z h g u) = let n = ap length g in omega (arith, n)
stands_all x sent next (begun z c f) =
    let n = ap length c.out_is in let m = length-drop x.acknowledged x.given in omega (arith, n, m)

pub linked_all : (x y : EndState) → Linked x y → IsAcknowledged x
linked_all x y l = stands_all (face x) l.related.fits.sent l.related.fits.next l.related.fits.stands

abbrev pub AllAcknowledged : PairState → Type 0
AllAcknowledged p = IsAcknowledged p.a × IsAcknowledged p.b

pub acknowledged_calls : (start : PairState) → Holds start → (calls : List (End × Call))
    → (run_calls calls start).honest ≡ true → is_clean (run_calls calls start) ≡ true
    → IsAcknowledged (run_calls calls start).a × IsAcknowledged (run_calls calls start).b
acknowledged_calls start holds calls h c =
    let p = run_calls calls start in
    let q = run (events_in calls) start in
    let e = run_same calls start start refl in
    let l =
    (holds_run (events_in calls) start holds).linked
    (sym (honest_same p q e) ∙ h) (sym (clean_same p q e) ∙ c) in
    let both : AllAcknowledged (noted q) =
    (linked_all q.a q.b l, linked_all q.b q.a (linked-turned q.a q.b l)) in
    subst AllAcknowledged (sym e) both

-- what was reported acknowledged was taken
abbrev pub AllTaken : PairState → Type 0
AllTaken p = IsAcknowledgedTaken p.a p.b × IsAcknowledgedTaken p.b p.a

pub taken_calls : (start : PairState) → Holds start → (calls : List (End × Call))
    → (run_calls calls start).honest ≡ true → is_clean (run_calls calls start) ≡ true
    → AllTaken (run_calls calls start)
taken_calls start holds calls h c =
    let p = run_calls calls start in
    let q = run (events_in calls) start in
    let e = run_same calls start start refl in
    let both : AllTaken (noted q) =
    holds-taken q (holds_run (events_in calls) start holds) (sym (honest_same p q e) ∙ h)
    (sym (clean_same p q e) ∙ c) in
    subst AllTaken (sym e) both

no_more : (xs rest ys : List (List ℕ)) → xs ++ rest ≡ ys → length ys ≤ length xs → xs ≡ ys
no_more xs [] ys e h = sym (append-nil xs) ∙ e
no_more xs (m ∷ rest) ys e h =
    let n = ap length e in let k = length-append xs (m ∷ rest) in absurd (omega (arith, n, k, h))

pub all_up : (x y : EndState) → Delivers x y → length x.given ≤ x.acknowledged
    → handed_up y ≡ x.given
all_up x y d h =
    let k = d.acknowledged in
    no_more (handed_up y) d.order.0 x.given d.order.1 (omega (arith, h, k))

zero_is : (n : ℕ) → (n == 0) ≡ true → n ≡ 0
zero_is n e = grind (arith, e)

pub first_of_three : (n : ℕ) (b c : Bool) → ((n == 0) && b && c) ≡ true → n ≡ 0
first_of_three n b c e = by (n == 0) refl b e
  where
    by : (a : Bool) → (n == 0) ≡ a → (d : Bool) → (a && d && c) ≡ true → n ≡ 0
    by true f d g = zero_is n f
    by false f true g = absurd (cc g)
    by false f false g = absurd (cc g)
