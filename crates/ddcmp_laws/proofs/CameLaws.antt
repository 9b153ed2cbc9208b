-- What is counted of what comes.
use Rattle.std.proofs.Common.{◌≡◌, ◌≢◌, ℕ, Bool, true, false, ◌&&◌, List, [], ◌∷◌, refl, ap}
use Rattle.std.proofs.Common.{◌∙◌}
use Rattle.ddcmp_window.specs.Numbers.{is_within}
use Rattle.ddcmp_core.specs.declared.counters.Counters.{Counters}
use Rattle.ddcmp_core.specs.declared.state.State.{State}
use Rattle.ddcmp_core.specs.declared.state.State.TheVariants.{Halted, IStart, AStart, Running}
use Rattle.ddcmp_core.specs.declared.state.State.TheVariants.{Maintenance}
use Rattle.ddcmp_core.specs.Table.{StationState, Limits, Naked, Rep, Received, Good, BadHeader}
use Rattle.ddcmp_core.specs.Table.{BadData, TooLong, BadFormat, on_by, on}
use Rattle.ddcmp_core.specs.Counting.{no_counts, counters_after_fault, running_counters}
use Rattle.ddcmp_core.specs.Counting.{counters_by, counters_on}
use Rattle.ddcmp_core.specs.Laws.{is_fault}
use Rattle.ddcmp_laws.specs.Counted.{counted_after, written_faults, counts_of_faults}
use Rattle.ddcmp_laws.specs.Counted.{written_replies, counts_of_replies}
use Rattle.ddcmp_laws.proofs.StationLaws.{nak_by}

-- ---- faults

unfoldable all_faults : List Received → Bool
all_faults [] = true
all_faults (h ∷ rest) = is_fault h && all_faults rest

unfoldable faults_counted : List Received → Counters → Counters
faults_counted [] c = c
faults_counted (h ∷ rest) c = faults_counted rest (counters_after_fault h c)

fault_counted : (l : Limits) (s : StationState) (h : Received) (c : Counters) → is_fault h ≡ true
    → counters_on l s h c ≡ counters_after_fault h c
unfolding counters_on
fault_counted l s h c = by s.state h
  where
    by : (p : State) (h : Received) → is_fault h ≡ true
        → counters_by p l s h (counters_after_fault h c) ≡ counters_after_fault h c
    by p (Good f) i = absurd (cc i)
    by Halted h i = refl
    by IStart h i = refl
    by AStart BadHeader i = refl
    by AStart (BadData b) i = refl
    by AStart (TooLong b) i = refl
    by AStart BadFormat i = refl
    by Running BadHeader i = refl
    by Running (BadData b) i = refl
    by Running (TooLong b) i = refl
    by Running BadFormat i = refl
    by Maintenance BadHeader i = refl
    by Maintenance (BadData b) i = refl
    by Maintenance (TooLong b) i = refl
    by Maintenance BadFormat i = refl

both : (a b : Bool) → (a && b) ≡ true → (a ≡ true) × (b ≡ true)
both true b e = (refl, e)
both false b e = absurd (cc e)

each_fault : (l : Limits) (hs : List Received) (s : StationState) (c : Counters)
    → all_faults hs ≡ true → counted_after l hs s c ≡ faults_counted hs c
unfolding all_faults faults_counted counted_after
each_fault l [] s c i = refl
each_fault l (h ∷ rest) s c i =
    let k = both (is_fault h) (all_faults rest) i in
    ap (counted_after l rest (on l s h)) (fault_counted l s h c k.0)
    ∙ each_fault l rest (on l s h) (counters_after_fault h c) k.1

pub counts_faults : (l : Limits) (s : StationState)
    → counted_after l written_faults s no_counts ≡ counts_of_faults
unfolding all_faults faults_counted
counts_faults l s = each_fault l written_faults s no_counts refl

-- ---- replies

-- a NAK or a REP
abbrev is_reply : Received → Bool
is_reply (Good (Naked why resp)) = true
is_reply (Good (Rep num)) = true
is_reply _ = false

unfoldable all_replies : List Received → Bool
all_replies [] = true
all_replies (h ∷ rest) = is_reply h && all_replies rest

unfoldable replies_counted : Limits → StationState → List Received → Counters → Counters
replies_counted l s [] c = c
replies_counted l s (h ∷ rest) c = replies_counted l s rest (running_counters l s h c)

reply_counted : (l : Limits) (s u : StationState) (h : Received) (c : Counters)
    → s.state ≡ Running → is_reply h ≡ true → counters_on l s h c ≡ running_counters l u h c
unfolding counters_on
reply_counted l s u h c e i =
    ap (λ p. counters_by p l s h (counters_after_fault h c)) e ∙ by h i
  where
    by : (h : Received) → is_reply h ≡ true
        → running_counters l s h (counters_after_fault h c) ≡ running_counters l u h c
    by (Good (Naked why resp)) i = refl
    by (Good (Rep num)) i = refl
    by h i = absurd (cc i)

still_runs : (l : Limits) (s : StationState) (h : Received) → s.state ≡ Running
    → is_reply h ≡ true → (on l s h).state ≡ Running
unfolding on
still_runs l s h e i = ap (λ p. (on_by p l s h).state) e ∙ by h i
  where
    nak : (resp : ℕ) (b : Bool) → (nak_by s resp b).state ≡ Running
    nak resp true = e
    nak resp false = e

    by : (h : Received) → is_reply h ≡ true → (on_by Running l s h).state ≡ Running
    by (Good (Naked why resp)) i = nak resp (is_within s.a resp s.n)
    by (Good (Rep num)) i = e
    by h i = absurd (cc i)

each_reply : (l : Limits) (u : StationState) (hs : List Received) (s : StationState) (c : Counters)
    → s.state ≡ Running → all_replies hs ≡ true
    → counted_after l hs s c ≡ replies_counted l u hs c
unfolding all_replies replies_counted counted_after
each_reply l u [] s c e i = refl
each_reply l u (h ∷ rest) s c e i =
    let k = both (is_reply h) (all_replies rest) i in
    ap (counted_after l rest (on l s h)) (reply_counted l s u h c e k.0)
    ∙ each_reply l u rest (on l s h) (running_counters l u h c) (still_runs l s h e k.0) k.1

pub counts_replies : (l : Limits) (s : StationState) → s.state ≡ Running
    → counted_after l written_replies s no_counts ≡ counts_of_replies
unfolding all_replies replies_counted
counts_replies l s e = each_reply l s written_replies s no_counts e refl

-- ---- replies to a station that doesn't run

unheard : (l : Limits) (s : StationState) (h : Received) → s.state ≢ Running → is_reply h ≡ true
    → on l s h ≡ s
unfolding on
unheard l s h = by s.state h
  where
    by : (p : State) (h : Received) → p ≢ Running → is_reply h ≡ true → on_by p l s h ≡ s
    by Halted h w i = refl
    by IStart (Good (Naked why resp)) w i = refl
    by IStart (Good (Rep num)) w i = refl
    by AStart (Good (Naked why resp)) w i = refl
    by AStart (Good (Rep num)) w i = refl
    by Maintenance (Good (Naked why resp)) w i = refl
    by Maintenance (Good (Rep num)) w i = refl
    by Running h w i = absurd (w refl)
    by p h w i = absurd (cc i)

uncounted : (l : Limits) (s : StationState) (h : Received) (c : Counters) → s.state ≢ Running
    → is_reply h ≡ true → counters_on l s h c ≡ c
unfolding counters_on
uncounted l s h c = by s.state h
  where
    by : (p : State) (h : Received) → p ≢ Running → is_reply h ≡ true
        → counters_by p l s h (counters_after_fault h c) ≡ c
    by Running h w i = absurd (w refl)
    by Halted (Good (Naked why resp)) w i = refl
    by Halted (Good (Rep num)) w i = refl
    by IStart (Good (Naked why resp)) w i = refl
    by IStart (Good (Rep num)) w i = refl
    by AStart (Good (Naked why resp)) w i = refl
    by AStart (Good (Rep num)) w i = refl
    by Maintenance (Good (Naked why resp)) w i = refl
    by Maintenance (Good (Rep num)) w i = refl
    by p h w i = absurd (cc i)

none_counted : (l : Limits) (hs : List Received) (s : StationState) (c : Counters)
    → s.state ≢ Running → all_replies hs ≡ true → counted_after l hs s c ≡ c
unfolding all_replies counted_after
none_counted l [] s c w i = refl
none_counted l (h ∷ rest) s c w i =
    let k = both (is_reply h) (all_replies rest) i in
    let same = unheard l s h w k.0 in
    ap (counted_after l rest (on l s h)) (uncounted l s h c w k.0)
    ∙ ap (λ u. counted_after l rest u c) same
    ∙ none_counted l rest s c w k.1

pub counts_none : (l : Limits) (s : StationState) → s.state ≢ Running
    → counted_after l written_replies s no_counts ≡ no_counts
unfolding all_replies
counts_none l s w = none_counted l written_replies s no_counts w refl
