-- What a user saw of calls is what the histories of its end hold.
use Rattle.std.proofs.Common.{◌≡◌, ℕ, ◌+◌, Bool, true, false, cond, ◌&&◌, List, [], ◌∷◌, ◌++◌}
use Rattle.std.proofs.Common.{length, map, refl, sym, ◌∙◌, ap, arith, append_assoc, append-nil}
use Rattle.std.proofs.Common.{Option, Some, None}
use Rattle.std.specs.Prelude.{◌==◌, not, nat_le, nat_lt, is_none, option_to_list}
use Rattle.std.specs.List.{flat_map}
use Rattle.std.proofs.lemmas.Grind.{flat_map-append}
use Rattle.std.proofs.lemmas.List.Sums.{sum_by-append}
use Rattle.ddcmp_core.specs.SendRefusal.TheVariants.{WrongState, Empty, TooLong, WindowFull}
use Rattle.ddcmp_core.specs.Store.{first_message}
use Rattle.ddcmp_core.specs.declared.notice.Notice.{Notice}
use Rattle.ddcmp_core.specs.Table.{Limits, StationState, is_running, may_send, acknowledged_by}
use Rattle.ddcmp_station.specs.UserCalls.{UserCall, Asked, Told, Handed, is_user_asked}
use Rattle.ddcmp_pair.specs.Run.{EndState, acknowledged_in, notices_at}
use Rattle.ddcmp_laws.specs.PairCalls.{Call, Start, Halt, Send, Poll, Arrive, Expire, Take, Arm}
use Rattle.ddcmp_laws.specs.PairCalls.{Ask}
use Rattle.ddcmp_laws.specs.PairCalls.{after_call_here, after_calls_here}
use Rattle.ddcmp_laws.specs.Driven.{shown_by, shown_in, accepted_of, handed_of, told_of}
use Rattle.ddcmp_laws.specs.Driven.{accepted_from, handed_to, acknowledged_to}

-- ---- what one call shows

accepted_nothing : (notices : List Notice) → accepted_from (map Told notices) ≡ []
accepted_nothing [] = refl
accepted_nothing (n ∷ notices) = accepted_nothing notices

accepted_of_mail : (o : Option (List ℕ)) → accepted_from (map Handed (option_to_list o)) ≡ []
accepted_of_mail None = refl
accepted_of_mail (Some m) = refl

handed_nothing : (notices : List Notice) → handed_to (map Told notices) ≡ []
handed_nothing [] = refl
handed_nothing (n ∷ notices) = handed_nothing notices

handed_of_mail : (o : Option (List ℕ))
    → handed_to (map Handed (option_to_list o)) ≡ option_to_list o
handed_of_mail None = refl
handed_of_mail (Some m) = refl

pub handed_of_offer : (asked : Bool) (room : ℕ) (message : List ℕ)
    → handed_to (cond asked (Asked room message ∷ []) []) ≡ []
handed_of_offer true room message = refl
handed_of_offer false room message = refl

told_all : (notices : List Notice) → flat_map told_of (map Told notices) ≡ notices
told_all [] = refl
told_all (n ∷ notices) = ap (λ x. n ∷ x) (told_all notices)

told_of_mail : (o : Option (List ℕ)) → acknowledged_to (map Handed (option_to_list o)) ≡ 0
told_of_mail None = refl
told_of_mail (Some m) = refl

pub told_of_offer : (asked : Bool) (room : ℕ) (message : List ℕ)
    → acknowledged_to (cond asked (Asked room message ∷ []) []) ≡ 0
told_of_offer true room message = refl
told_of_offer false room message = refl

-- ---- a message is accepted where the user is asked, and it has a byte and no more than the room

lt_is : (a b : ℕ) → nat_lt a b ≡ not (nat_le b a)
lt_is a b = grind (arith)

le_is : (a b : ℕ) → nat_le a b ≡ not (nat_lt b a)
le_is a b = grind (arith)

some_is : (n : ℕ) → nat_le 1 n ≡ not (n == 0)
some_is n = grind (arith)

refused_unless : (runs empty long full : Bool)
    → is_none
    (cond runs
    (cond empty (Some Empty) (cond long (Some TooLong) (cond full (Some WindowFull) None)))
    (Some WrongState)) ≡ ((runs && not full) && (not empty && not long))
refused_unless false empty long full = refl
refused_unless true true long true = refl
refused_unless true true long false = refl
refused_unless true false true true = refl
refused_unless true false true false = refl
refused_unless true false false true = refl
refused_unless true false false false = refl

pub sent_where_asked : (l : Limits) (s : StationState) (m : List ℕ)
    → may_send l s m
    ≡ ((is_running s.state && nat_lt (length s.out) l.window)
    && (nat_le 1 (length m) && nat_le (length m) l.longest))
sent_where_asked l s m =
    refused_unless (is_running s.state) (length m == 0) (nat_lt l.longest (length m))
    (nat_le l.window (length s.out))
    ∙ ap
    (λ b. (is_running s.state && b)
    && (not (length m == 0) && not (nat_lt l.longest (length m))))
    (sym (lt_is (length s.out) l.window))
    ∙ ap
    (λ b. (is_running s.state && nat_lt (length s.out) l.window)
    && (b && not (nat_lt l.longest (length m)))) (sym (some_is (length m)))
    ∙ ap (λ b. (is_running s.state && nat_lt (length s.out) l.window) && (nat_le 1 (length m) && b))
    (sym (le_is (length m) l.longest))

offer_accepted : (asked : Bool) (room : ℕ) (m : List ℕ)
    → accepted_from (cond asked (Asked room m ∷ []) [])
    ≡ cond asked (cond (nat_le 1 (length m) && nat_le (length m) room) (m ∷ []) []) []
offer_accepted true room m =
    append-nil (cond (nat_le 1 (length m) && nat_le (length m) room) (m ∷ []) [])
offer_accepted false room m = refl

grown : (asked fit : Bool) (given : List (List ℕ)) (m : List ℕ)
    → cond (asked && fit) (given ++ m ∷ []) given ≡ given ++ cond asked (cond fit (m ∷ []) []) []
grown true true given m = refl
grown true false given m = sym (append-nil given)
grown false fit given m = sym (append-nil given)

pub send_given : (l : Limits) (s : StationState) (given : List (List ℕ)) (m : List ℕ)
    → cond (may_send l s m) (given ++ m ∷ []) given
    ≡ given
    ++ accepted_from
    (cond (is_running s.state && nat_lt (length s.out) l.window) (Asked l.longest m ∷ []) [])
send_given l s given m =
    let asked = is_running s.state && nat_lt (length s.out) l.window in
    let fit = nat_le 1 (length m) && nat_le (length m) l.longest in
    ap (λ b. cond b (given ++ m ∷ []) given) (sent_where_asked l s m) ∙ grown asked fit given m
    ∙ ap (λ x. given ++ x) (sym (offer_accepted asked l.longest m))

-- ---- one call

call_given : (c : Call) (x : EndState)
    → (after_call_here c x).given ≡ x.given ++ accepted_from (shown_by c x)
call_given Start x = sym (append-nil x.given)
call_given Halt x = sym (append-nil x.given)
call_given (Send m) x = send_given x.core.limits x.core.station x.given m
call_given Poll x = sym (append-nil x.given)
call_given (Arrive bytes) x =
    sym (ap (λ y. x.given ++ y) (accepted_nothing (notices_at bytes x)) ∙ append-nil x.given)
call_given Expire x = sym (append-nil x.given)
call_given Take x =
    sym
    (ap (λ y. x.given ++ y) (accepted_of_mail (first_message x.core.station.inbox))
    ∙ append-nil x.given)
call_given Arm x = sym (append-nil x.given)
call_given Ask x = sym (append-nil x.given)

call_taken : (c : Call) (x : EndState)
    → (after_call_here c x).taken ≡ x.taken ++ handed_to (shown_by c x)
call_taken Start x = sym (append-nil x.taken)
call_taken Halt x = sym (append-nil x.taken)
call_taken (Send m) x =
    sym
    (ap (λ y. x.taken ++ y) (handed_of_offer (is_user_asked x.core) x.core.limits.longest m)
    ∙ append-nil x.taken)
call_taken Poll x = sym (append-nil x.taken)
call_taken (Arrive bytes) x =
    sym (ap (λ y. x.taken ++ y) (handed_nothing (notices_at bytes x)) ∙ append-nil x.taken)
call_taken Expire x = sym (append-nil x.taken)
call_taken Take x =
    ap (λ y. x.taken ++ y) (sym (handed_of_mail (first_message x.core.station.inbox)))
call_taken Arm x = sym (append-nil x.taken)
call_taken Ask x = sym (append-nil x.taken)

plus_none : (n k : ℕ) → k ≡ 0 → n ≡ n + k
plus_none n k e = omega (arith, e)

call_acknowledged : (c : Call) (x : EndState)
    → (after_call_here c x).acknowledged ≡ x.acknowledged + acknowledged_to (shown_by c x)
call_acknowledged Start x = omega arith
call_acknowledged Halt x = omega arith
call_acknowledged (Send m) x =
    plus_none x.acknowledged _ (told_of_offer (is_user_asked x.core) x.core.limits.longest m)
call_acknowledged Poll x = omega arith
call_acknowledged (Arrive bytes) x =
    ap (λ y. x.acknowledged + acknowledged_in y) (sym (told_all (notices_at bytes x)))
call_acknowledged Expire x = omega arith
call_acknowledged Take x =
    plus_none x.acknowledged _ (told_of_mail (first_message x.core.station.inbox))
call_acknowledged Arm x = omega arith
call_acknowledged Ask x = omega arith

-- ---- calls

pub lists_more : (f : UserCall → List (List ℕ)) (before : List (List ℕ)) (a b : List UserCall)
    → (before ++ flat_map f a) ++ flat_map f b ≡ before ++ flat_map f (a ++ b)
lists_more f before a b =
    append_assoc before (flat_map f a) (flat_map f b)
    ∙ ap (λ y. before ++ y) (sym (flat_map-append f a b))

pub seen_given : (calls : List Call) (x : EndState)
    → (after_calls_here calls x).given ≡ x.given ++ accepted_from (shown_in calls x)
unfolding after_calls_here shown_in
seen_given [] x = sym (append-nil x.given)
seen_given (c ∷ rest) x =
    seen_given rest (after_call_here c x)
    ∙ ap (λ y. y ++ accepted_from (shown_in rest (after_call_here c x))) (call_given c x)
    ∙ lists_more accepted_of x.given (shown_by c x) (shown_in rest (after_call_here c x))

pub seen_taken : (calls : List Call) (x : EndState)
    → (after_calls_here calls x).taken ≡ x.taken ++ handed_to (shown_in calls x)
unfolding after_calls_here shown_in
seen_taken [] x = sym (append-nil x.taken)
seen_taken (c ∷ rest) x =
    seen_taken rest (after_call_here c x)
    ∙ ap (λ y. y ++ handed_to (shown_in rest (after_call_here c x))) (call_taken c x)
    ∙ lists_more handed_of x.taken (shown_by c x) (shown_in rest (after_call_here c x))

pub counts_more : (n : ℕ) (a b : List UserCall)
    → n + acknowledged_to a + acknowledged_to b ≡ n + acknowledged_to (a ++ b)
counts_more n a b =
    let e =
    ap acknowledged_in (flat_map-append told_of a b)
    ∙ sum_by-append (λ m. acknowledged_by (Some m)) (flat_map told_of a) (flat_map told_of b) in
    omega (arith, e)

pub seen_acknowledged : (calls : List Call) (x : EndState)
    → (after_calls_here calls x).acknowledged ≡ x.acknowledged + acknowledged_to (shown_in calls x)
unfolding after_calls_here shown_in
seen_acknowledged [] x = omega arith
seen_acknowledged (c ∷ rest) x =
    seen_acknowledged rest (after_call_here c x)
    ∙ ap (λ y. y + acknowledged_to (shown_in rest (after_call_here c x)))
    (call_acknowledged c x)
    ∙ counts_more x.acknowledged (shown_by c x) (shown_in rest (after_call_here c x))
