-- Marks one after another.
use Rattle.std.proofs.Common.{◌≡◌, ◌<◌, ◌≤◌, ◌+◌, ℕ, Bool, true, false, List, [], ◌∷◌, ◌++◌, sym}
use Rattle.std.proofs.Common.{◌∙◌, ap, drop, length, add-one, drop-cons, append_assoc, Option}
use Rattle.std.proofs.Common.{Some, None}
use Rattle.std.proofs.Common.{◌||◌, subst, get_or, ◌==◌, arith}
use Rattle.std.proofs.lemmas.List.{drop_all, append-nil}
use Rattle.ddcmp_io.specs.Device.{Logs}
use Rattle.ddcmp_core.specs.declared.notice.Notice.{Notice}
use Rattle.ddcmp_core.specs.declared.state.State.{State}
use Rattle.ddcmp_io.specs.declared.carrier.End.{End}
use Rattle.ddcmp_picture.specs.Labels.{notice_label}
use Rattle.ddcmp_picture.specs.Marks.{name_state, names_state, notice_marks}
use Rattle.ddcmp_picture.specs.declared.mark.Mark.TheVariants.{Note}

pub logs_then : {A : Type 0} (a b c : Option (List A)) (xs ys : List A) → Logs a b xs → Logs b c ys
    → Logs a c (xs ++ ys)
logs_then None b c xs ys p q = tt
logs_then (Some a) None c xs ys p q = absurd p
logs_then (Some a) (Some b) None xs ys p q = absurd q
logs_then (Some a) (Some b) (Some c) xs ys p q = q ∙ ap (λ t. t ++ ys) p ∙ append_assoc a xs ys

pub logs_only : {A : Type 0} (a b : Option (List A)) (xs : List A) → Logs a b xs
    → Logs a b (xs ++ [])
logs_only a b xs p = subst (Logs a b) (sym (append-nil xs)) p

pub logs_none : {A : Type 0} (a : Option (List A)) → Logs a a []
logs_none None = tt
logs_none (Some a) = sym (append-nil a)

pub drop-one : {A : Type 0} (xs : List A) (i : ℕ) (d : A) → i < length xs
    → drop i xs ≡ get_or xs i d ∷ drop (i + 1) xs
drop-one xs i d h = rw (add-one, drop-cons xs i d)

not-zero : (i : ℕ) → (i + 1 == 0) ≡ false
not-zero i = grind arith

-- ---- whether a notice names the state

name_at : (ns : List Notice) (i : ℕ) (d : Notice) (s : State) (is : Bool) → i < length ns
    → names_state (get_or ns i d) s ≡ is
    → name_state (drop i ns) s ≡ is || name_state (drop (i + 1) ns) s
unfolding name_state
name_at ns i d s is k e =
    ap (λ it. name_state it s) (drop-one ns i d k) ∙ ap (λ b. b || name_state (drop (i + 1) ns) s) e

pub name_found : (ns : List Notice) (i : ℕ) (d : Notice) (s : State) → i < length ns
    → names_state (get_or ns i d) s ≡ true → name_state (drop i ns) s ≡ true
name_found ns i d s k e = name_at ns i d s true k e

pub name_step : (ns : List Notice) (i : ℕ) (d : Notice) (s : State) → i < length ns
    → names_state (get_or ns i d) s ≡ false
    → name_state (drop i ns) s ≡ name_state (drop (i + 1) ns) s
name_step ns i d s k e = name_at ns i d s false k e

pub name_none : (ns : List Notice) (i : ℕ) (s : State) → length ns ≤ i
    → name_state (drop i ns) s ≡ false
unfolding name_state
name_none ns i s k = ap (λ it. name_state it s) (drop_all i ns k)

-- ---- the marks of notices

pub notices_step : (to : End) (ns : List Notice) (i : ℕ) (d : Notice) → i < length ns
    → notice_marks to (i == 0) (drop i ns)
    ≡ Note to (notice_label (get_or ns i d)) (i == 0)
    ∷ notice_marks to (i + 1 == 0) (drop (i + 1) ns)
unfolding notice_marks
notices_step to ns i d k =
    ap (notice_marks to (i == 0)) (drop-one ns i d k)
    ∙ ap (λ b. Note to (notice_label (get_or ns i d)) (i == 0)
    ∷ notice_marks to b (drop (i + 1) ns))
    (sym (not-zero i))

pub notices_none : (to : End) (ns : List Notice) (i : ℕ) → length ns ≤ i
    → notice_marks to (i == 0) (drop i ns) ≡ []
unfolding notice_marks
notices_none to ns i k = ap (notice_marks to (i == 0)) (drop_all i ns k)
