-- Messages are kept under their numbers until they are acknowledged.
use Rattle.std.proofs.Common.{◌≡◌, ℕ, ◌+◌, ◌-◌, ◌%◌, ◌<◌, ◌≤◌, ◌⊎◌, inl, inr, Bool, true, false}
use Rattle.std.proofs.Common.{List, [], ◌∷◌, length, drop, refl, sym, ap, ◌∙◌, subst, arith, Option}
use Rattle.std.proofs.Common.{Some, None, Ok, length-append, length-drop}
use Rattle.std.specs.Prelude.{nat_lt, slice_index_or}
use Rattle.std.proofs.Math.Seq.{get_or-append_seam}
use Rattle.std.proofs.lemmas.List.{get_or-drop, get_or_append_left}
use Rattle.ddcmp_num.specs.Sequence.{distance, Within}
use Rattle.ddcmp_window.specs.declared.sender.SendRefusal.{SendRefusal}
use Rattle.ddcmp_window.specs.Numbers.{is_within}
use Rattle.ddcmp_window.specs.Sender.{number_accepted, answer_unless}
use Rattle.ddcmp_core.specs.Seq.{Seq}
use Rattle.ddcmp_core.specs.declared.state.State.TheVariants.{Halted, IStart, AStart, Running}
use Rattle.ddcmp_core.specs.declared.state.State.TheVariants.{Maintenance}
use Rattle.ddcmp_core.specs.declared.state.State.{State}
use Rattle.ddcmp_core.specs.declared.state.Timer.{Timer}
use Rattle.ddcmp_core.specs.declared.state.Timer.TheVariants.{Off, Fresh, On}
use Rattle.ddcmp_core.specs.Table.{StationState, Limits, Data, Acked, Naked, Rep, Strt, Stack}
use Rattle.ddcmp_core.specs.Table.{Maint, Received, Good, BadHeader, BadData, TooLong, BadFormat}
use Rattle.ddcmp_core.specs.Table.{outgoing, send_refusal, answer_to_send, after_accept, after_take}
use Rattle.ddcmp_core.specs.Table.{after_expire_in, after_expire_with, after_expire, after_take_arm}
use Rattle.ddcmp_core.specs.Table.{on, notice_of, acknowledged_by, Next, Sends, next, after_next}
use Rattle.ddcmp_core.specs.Core.{IsSound, IsReceivable}
use Rattle.ddcmp_core.specs.NextFrame.{SentFor, sends_strt, sends_stack, sends_nak, sends_rep}
use Rattle.ddcmp_core.specs.NextFrame.{sends_data, sends_ack, sends_maint, halted_idles}
use Rattle.ddcmp_core.specs.NextFrame.{starting_idles, running_idles, maintenance_idles}
use Rattle.ddcmp_core.proofs.Sent.{sending}
use Rattle.ddcmp_core.proofs.StartLaws.{data_sent}
use Rattle.ddcmp_core.proofs.RestartLaws.{stops}
use Rattle.ddcmp_laws.specs.Station.{Responds, KeepsUnder}
use Rattle.ddcmp_laws.proofs.StationLaws.{acknowledges, passes_over, running_on}

pub kept_under_answer : (l : Limits) (s : StationState) (message : List ℕ) (number : Seq)
    → answer_to_send l s message ≡ Ok number
    → KeepsUnder (after_accept s message) number.0 message
kept_under_answer l s message number e = by (send_refusal l s message) e
  where
    last : Seq
    last = number_accepted (outgoing s)

    by : (refusal : Option SendRefusal) → answer_unless refusal last ≡ Ok number
        → KeepsUnder (after_accept s message) number.0 message
    by (Some refusal) f = absurd (cc f)
    by None f =
        let same : last ≡ number = cc f in
        record {
          place = length s.out;
          there = omega (arith, length-append s.out (message ∷ []));
          message_at = get_or-append_seam s.out message [] [];
          number_is = sym (ap (λ (x : Seq). x.0) same);
        }

pub kept_when_sent : (l : Limits) (s u : StationState) (r num : ℕ) (message : List ℕ) → IsSound l s
    → next s ≡ Sends (Data r num message) u → KeepsUnder s num message
kept_when_sent l s u r num message h e =
    let k = (data_sent l s r num message u h e).1 in
    record { place = _; there = k.place; message_at = sym k.message_at; number_is = k.number }

same_place : (a p q : ℕ) → a < 256 → p < 255 → q < 255 → (a + (p + 1)) % 256 ≡ (a + (q + 1)) % 256
    → p ≡ q
same_place a p q ha hp hq e = omega (arith, e)

pub kept_once : (l : Limits) (s : StationState) (number : ℕ) (message other : List ℕ) → IsSound l s
    → KeepsUnder s number message → KeepsUnder s number other → message ≡ other
kept_once l s number message other h k j =
    let most = h.out_stored.count in
    let limit = h.out_stored.limit_max in
    let p : k.place ≡ j.place =
    same_place s.a k.place j.place h.in_window.a_byte (omega (arith, most, limit, k.there))
    (omega (arith, most, limit, j.there)) (sym k.number_is ∙ j.number_is) in
    sym k.message_at ∙ ap (λ i. slice_index_or s.out i []) p ∙ j.message_at

-- where A and the messages kept stay
kept_still : (s u : StationState) (number : ℕ) (message : List ℕ) → u.a ≡ s.a → u.out ≡ s.out
    → KeepsUnder s number message → KeepsUnder u number message
kept_still s u number message a out k = record {
  place = k.place;
  there = subst (λ (x : List (List ℕ)). k.place < length x) (sym out) k.there;
  message_at = ap (λ (x : List (List ℕ)). slice_index_or x k.place []) out ∙ k.message_at;
  number_is = k.number_is ∙ ap (λ x. (x + (k.place + 1)) % 256) (sym a);
}

kept_after : (s : StationState) (number : ℕ) (message : List ℕ) (t : Next) → SentFor s t
    → s.state ≡ Running → KeepsUnder s number message → KeepsUnder (after_next t s) number message
kept_after s number message _ (sends_strt p d) e k = kept_still s _ number message refl refl k
kept_after s number message _ (sends_stack p d) e k = kept_still s _ number message refl refl k
kept_after s number message _ (sends_nak why p r) e k = kept_still s _ number message refl refl k
kept_after s number message _ (sends_rep p r f) e k = kept_still s _ number message refl refl k
kept_after s number message _ (sends_data p r f place) e k =
    kept_still s _ number message refl refl k
kept_after s number message _ (sends_ack p r f place) e k =
    kept_still s _ number message refl refl k
kept_after s number message _ (sends_maint m ms p o) e k = absurd (cc (e, p))
kept_after s number message _ (halted_idles p) e k = k
kept_after s number message _ (starting_idles p d) e k = k
kept_after s number message _ (running_idles p r f place) e k = k
kept_after s number message _ (maintenance_idles p o) e k = k

pub kept_after_next : (s : StationState) (number : ℕ) (message : List ℕ) → s.state ≡ Running
    → KeepsUnder s number message → KeepsUnder (after_next (next s) s) number message
kept_after_next s number message e k = kept_after s number message (next s) (sending s) e k

pub kept_after_accept : (s : StationState) (number : ℕ) (message other : List ℕ)
    → KeepsUnder s number message → KeepsUnder (after_accept s other) number message
kept_after_accept s number message other k = record {
  place = k.place;
  there = omega (arith, k.there, length-append s.out (other ∷ []));
  message_at = get_or_append_left s.out (other ∷ []) [] k.place k.there ∙ k.message_at;
  number_is = k.number_is;
}

-- the first d messages leave, and A goes on by d
number_ahead : (a p k : ℕ) → a < 256 → p < 255 → k ≡ (a + (p + 1)) % 256 → distance a k ≡ p + 1
number_ahead a p k ha hp e = omega (arith, e)

number_moves : (a b d p k : ℕ) → b ≡ (a + d) % 256 → d ≤ p → k ≡ (a + (p + 1)) % 256
    → k ≡ (b + (p - d + 1)) % 256
number_moves a b d p k e le f = omega (arith, e, f)

moved : (s u : StationState) (number : ℕ) (message : List ℕ) (d : ℕ) → s.a < 256
    → length s.out ≤ 255 → u.a ≡ (s.a + d) % 256 → u.out ≡ drop d s.out
    → KeepsUnder s number message → (distance s.a number ≤ d) ⊎ KeepsUnder u number message
moved s u number message d ha most a out k = by (nat_lt k.place d) refl
  where
    by : (b : Bool) → nat_lt k.place d ≡ b → (distance s.a number ≤ d) ⊎ KeepsUnder u number message
    by true e =
        let less : k.place < d = grind (arith) in
        let far = number_ahead s.a k.place number ha (omega (arith, k.there, most)) k.number_is in
        inl (omega (arith, far, less))
    by false e =
        let more : d ≤ k.place = grind (arith) in
        let at : d + (k.place - d) ≡ k.place = omega (arith, more) in
        let left : k.place - d < length (drop d s.out) =
        omega (arith, length-drop d s.out, k.there, more) in
        inr (record {
          place = k.place - d;
          there = subst (λ (x : List (List ℕ)). k.place - d < length x) (sym out) left;
          message_at =
              ap (λ (x : List (List ℕ)). slice_index_or x (k.place - d) []) out
              ∙ get_or-drop d s.out (k.place - d) []
              ∙ ap (λ i. slice_index_or s.out i []) at
              ∙ k.message_at;
          number_is = number_moves s.a u.a d k.place number a more k.number_is;
        })

next_a : (a q : ℕ) → a < 256 → q < 256 → q ≡ (a + distance a q) % 256
next_a a q ha hq = omega arith

pub kept_after_on : (l : Limits) (s : StationState) (h : Received) (number : ℕ) (message : List ℕ)
    → IsSound l s → IsReceivable l h
    → s.state ≡ Running → (on l s h).state ≡ Running → KeepsUnder s number message
    → (distance s.a number ≤ acknowledged_by (notice_of l s h))
    ⊎ KeepsUnder (on l s h) number message
kept_after_on l s h number message sound comes e runs k = by h comes runs
  where
    ha : s.a < 256
    ha = sound.in_window.a_byte

    most : length s.out ≤ 255
    most = omega (arith, sound.out_stored.count, sound.out_stored.limit_max)

    response : (h : Received) (q : ℕ) → Responds h q → q < 256 → (b : Bool)
        → is_within s.a q s.n ≡ b
        → (distance s.a number ≤ acknowledged_by (notice_of l s h))
        ⊎ KeepsUnder (on l s h) number message
    response h q r hq true w =
        let x = acknowledges l s h q e ha hq r (grind (arith)) in
        subst (λ d. (distance s.a number ≤ d) ⊎ KeepsUnder (on l s h) number message) (sym x.told)
        (moved s (on l s h) number message (distance s.a q) ha most (x.a ∙ next_a s.a q ha hq)
        x.out k)
    response h q r hq false w =
        let beyond : ¬ Within s.a q s.n = λ (v : Within s.a q s.n). grind (arith) in
        let x = passes_over l s h q e r beyond in
        inr (kept_still s (on l s h) number message x.a x.out k)

    still : (h : Received) → (on l s h).a ≡ s.a → (on l s h).out ≡ s.out
        → (distance s.a number ≤ acknowledged_by (notice_of l s h))
        ⊎ KeepsUnder (on l s h) number message
    still h a out = inr (kept_still s (on l s h) number message a out k)

    row : (h : Received) → on l s h ≡ s
        → (distance s.a number ≤ acknowledged_by (notice_of l s h))
        ⊎ KeepsUnder (on l s h) number message
    row h f = still h (ap (λ (u : StationState). u.a) f) (ap (λ (u : StationState). u.out) f)

    by : (h : Received) → IsReceivable l h → (on l s h).state ≡ Running
        → (distance s.a number ≤ acknowledged_by (notice_of l s h))
        ⊎ KeepsUnder (on l s h) number message
    by (Good (Acked resp)) c runs =
        response (Good (Acked resp)) resp refl c (is_within s.a resp s.n) refl
    by (Good (Naked why resp)) c runs =
        response (Good (Naked why resp)) resp refl c (is_within s.a resp s.n) refl
    by (Good (Data resp num m)) c runs =
        response (Good (Data resp num m)) resp refl c.0 (is_within s.a resp s.n) refl
    by (Good (Rep num)) c runs =
        let f = running_on l s (Good (Rep num)) e in
        still (Good (Rep num)) (ap (λ (u : StationState). u.a) f)
        (ap (λ (u : StationState). u.out) f)
    by (Good Strt) c runs = absurd (stops l s runs)
    by (Good Stack) c runs =
        let f = running_on l s (Good Stack) e in
        still (Good Stack) (ap (λ (u : StationState). u.a) f) (ap (λ (u : StationState). u.out) f)
    by (Good (Maint m)) c runs = row (Good (Maint m)) (running_on l s (Good (Maint m)) e)
    by BadHeader c runs =
        let f = running_on l s BadHeader e in
        still BadHeader (ap (λ (u : StationState). u.a) f) (ap (λ (u : StationState). u.out) f)
    by (BadData b) c runs =
        let f = running_on l s (BadData b) e in
        still (BadData b) (ap (λ (u : StationState). u.a) f) (ap (λ (u : StationState). u.out) f)
    by (TooLong b) c runs =
        let f = running_on l s (TooLong b) e in
        still (TooLong b) (ap (λ (u : StationState). u.a) f) (ap (λ (u : StationState). u.out) f)
    by BadFormat c runs =
        let f = running_on l s BadFormat e in
        still BadFormat (ap (λ (u : StationState). u.a) f) (ap (λ (u : StationState). u.out) f)

pub kept_after_take : (s : StationState) (number : ℕ) (message : List ℕ)
    → KeepsUnder s number message → KeepsUnder (after_take s) number message
kept_after_take s number message k = kept_still s (after_take s) number message refl refl k

pub kept_after_arm : (s : StationState) (number : ℕ) (message : List ℕ)
    → KeepsUnder s number message → KeepsUnder (after_take_arm s) number message
kept_after_arm s number message k = kept_still s (after_take_arm s) number message refl refl k

pub kept_after_expire : (s : StationState) (number : ℕ) (message : List ℕ)
    → KeepsUnder s number message → KeepsUnder (after_expire s) number message
kept_after_expire s number message k = at s.timer
  where
    by : (p : State) → KeepsUnder (after_expire_in p s) number message
    by Halted = kept_still s _ number message refl refl k
    by IStart = kept_still s _ number message refl refl k
    by AStart = kept_still s _ number message refl refl k
    by Running = kept_still s _ number message refl refl k
    by Maintenance = kept_still s _ number message refl refl k

    at : (t : Timer) → KeepsUnder (after_expire_with t s) number message
    at Off = k
    at Fresh = by s.state
    at On = by s.state
