-- The counters of an end say what its histories hold.
use Rattle.std.proofs.Common.{◌≡◌, ℕ, ◌+◌, ◌≤◌, ◌⊎◌, inl, inr, Bool, true, false, cond, List, []}
use Rattle.std.proofs.Common.{◌∷◌, ◌++◌, length, drop, refl, sym, ap, ◌∙◌, subst, arith}
use Rattle.std.proofs.Common.{length-append}
use Rattle.std.specs.Prelude.{◌==◌, ◌&&◌, option_to_list, option_map}
use Rattle.std.proofs.lemmas.List.{append-nil}
use Rattle.std.proofs.lemmas.List.Sums.{sum_by_push, sum_by-cons}
use Rattle.ddcmp_frame.specs.declared.header.Header.{Header}
use Rattle.ddcmp_frame.specs.declared.nak.Nak.{Nak as Reason}
use Rattle.ddcmp_frame.specs.declared.nak.Nak.TheVariants as reason
use Rattle.ddcmp_frame.specs.Reading.{ReadItem}
use Rattle.ddcmp_window.specs.Numbers.{is_within, next_number}
use Rattle.ddcmp_core.specs.Store.{first_message}
use Rattle.ddcmp_core.specs.declared.counters.NakCounts.{NakCounts}
use Rattle.ddcmp_core.specs.declared.counters.Counters.{Counters}
use Rattle.ddcmp_core.specs.declared.state.State.{State}
use Rattle.ddcmp_core.specs.declared.state.State.TheVariants.{Halted, IStart, AStart, Running}
use Rattle.ddcmp_core.specs.declared.state.State.TheVariants.{Maintenance}
use Rattle.ddcmp_core.specs.Table.{StationState, Limits, Frame, Data, Acked, Naked, Rep, Strt}
use Rattle.ddcmp_core.specs.Table.{Stack, Maint, Received, Good, BadHeader, BadData, TooLong}
use Rattle.ddcmp_core.specs.Table.{BadFormat, takes_data, has_room, may_restart, after_restart}
use Rattle.ddcmp_core.specs.Table.{after_halt, after_startup, on_data, on_by, on, Next, Idle, Sends}
use Rattle.ddcmp_core.specs.Table.{next, next_frame, may_start, after_start, may_send, after_accept}
use Rattle.ddcmp_core.specs.Counting.{no_counts, count_plus, nak_counts_after, counters_after_fault}
use Rattle.ddcmp_core.specs.Counting.{counters_after_up, counters_after_up_if, counters_by}
use Rattle.ddcmp_core.specs.Counting.{counters_on, counters_after_sent, counters_after_again}
use Rattle.ddcmp_core.specs.Counting.{counters_after_next}
use Rattle.ddcmp_core.specs.Core.{CoreView}
use Rattle.ddcmp_proto.specs.Bytes.{received_of, after_item, after_items, items_added}
use Rattle.ddcmp_proto.specs.declared.config.Config.{Config}
use Rattle.ddcmp_io.specs.declared.carrier.End.{End}
use Rattle.ddcmp_io.specs.declared.carrier.End.TheVariants.{A, B}
use Rattle.ddcmp_pair.specs.declared.event.Event.{Event}
use Rattle.ddcmp_pair.specs.declared.event.Event.TheVariants as event
use Rattle.ddcmp_pair.specs.Place.{WholeFrame}
use Rattle.ddcmp_pair.specs.Run.{EndState, PairState, at, whole_frame, after_event}
use Rattle.ddcmp_pair.specs.Run.{after_event_here, run, new_end, new_pair}
use Rattle.ddcmp_pair.proofs.Calls.{take-up}
use Rattle.ddcmp_pair.proofs.Steady.{inbox-sent, expired-inbox}
use Rattle.ddcmp_core.proofs.Sent.{sending}
use Rattle.ddcmp_laws.proofs.StationLaws.{nak_by}
use Rattle.ddcmp_laws.specs.Counted.{is_rep, is_nak, is_message, frames_of, all_naks, NeverClears}
use Rattle.ddcmp_laws.specs.Counted.{HasCounted}

-- ---- what comes

-- The counters of what is sent stay. One message more is counted delivered exactly where the inbox
-- has one more.
record Counts (s : StationState) (c : Counters) (u : StationState) (d : Counters) : Type 0 where
  naks : d.nak_sent ≡ c.nak_sent
  reps : d.rep_sent ≡ c.rep_sent
  first : d.messages_sent ≡ c.messages_sent
  again : d.messages_again ≡ c.messages_again
  up : ((u.inbox ≡ s.inbox) × (d.messages_up ≡ c.messages_up))
      ⊎ ((length u.inbox ≡ length s.inbox + 1) × (d.messages_up ≡ count_plus c.messages_up 1))

same : (s u : StationState) (c d : Counters) → u.inbox ≡ s.inbox → d.messages_up ≡ c.messages_up
    → d.nak_sent ≡ c.nak_sent → d.rep_sent ≡ c.rep_sent → d.messages_sent ≡ c.messages_sent
    → d.messages_again ≡ c.messages_again → Counts s c u d
same s u c d e f g h i k = record { naks = g; reps = h; first = i; again = k; up = inl (e, f) }

counted_on : (l : Limits) (s : StationState) (h : Received) (c : Counters)
    → Counts s c (on l s h) (counters_on l s h c)
unfolding on counters_on
counted_on l s h c = by s.state h
  where
    one_more : (message : List ℕ) (u : StationState) (bytes : ℕ) → u.inbox ≡ s.inbox ++ message ∷ []
        → Counts s c u (counters_after_up bytes c)
    one_more message u bytes e =
        record {
          naks = refl;
          reps = refl;
          first = refl;
          again = refl;
          up = inr (ap length e ∙ length-append s.inbox (message ∷ []), refl);
        }

    more_if : (message : List ℕ) (bytes : ℕ) (b : Bool) (u : StationState)
        → u.inbox ≡ cond b (s.inbox ++ message ∷ []) s.inbox
        → Counts s c u (counters_after_up_if b bytes c)
    more_if message bytes true u e = one_more message u bytes e
    more_if message bytes false u e = same s u c c e refl refl refl refl refl

    startup : (resp : ℕ) (b : Bool) → Counts s c (cond b (after_startup s) s) c
    startup resp true = same s _ c c refl refl refl refl refl refl
    startup resp false = same s _ c c refl refl refl refl refl refl

    startup_data : (resp num : ℕ) (message : List ℕ) (b : Bool)
        → Counts s c (cond b (on_data l (after_startup s) resp num message) s)
        (counters_after_up_if (b && takes_data l s num) (length message) c)
    startup_data resp num message true =
        more_if message (length message) (takes_data l s num) _ refl
    startup_data resp num message false = same s _ c c refl refl refl refl refl refl

    strt : (b : Bool) → Counts s c (cond b (after_restart s) (after_halt s)) c
    strt true = same s _ c c refl refl refl refl refl refl
    strt false = same s _ c c refl refl refl refl refl refl

    nak : (why : Reason) (resp : ℕ) (b : Bool)
        → Counts s c (nak_by s resp b)
        (record c { nak_received = nak_counts_after why c.nak_received })
    nak why resp true = same s _ c _ refl refl refl refl refl refl
    nak why resp false = same s _ c _ refl refl refl refl refl refl

    in_halted : (h : Received)
        → Counts s c (on_by Halted l s h) (counters_by Halted l s h (counters_after_fault h c))
    in_halted (Good (Acked resp)) = same s _ c _ refl refl refl refl refl refl
    in_halted (Good (Naked why resp)) = same s _ c _ refl refl refl refl refl refl
    in_halted (Good (Data resp num message)) = same s _ c _ refl refl refl refl refl refl
    in_halted (Good (Rep num)) = same s _ c _ refl refl refl refl refl refl
    in_halted (Good Strt) = same s _ c _ refl refl refl refl refl refl
    in_halted (Good Stack) = same s _ c _ refl refl refl refl refl refl
    in_halted (Good (Maint message)) = same s _ c _ refl refl refl refl refl refl
    in_halted BadHeader = same s _ c _ refl refl refl refl refl refl
    in_halted (BadData b) = same s _ c _ refl refl refl refl refl refl
    in_halted (TooLong b) = same s _ c _ refl refl refl refl refl refl
    in_halted BadFormat = same s _ c _ refl refl refl refl refl refl

    in_istart : (h : Received)
        → Counts s c (on_by IStart l s h) (counters_by IStart l s h (counters_after_fault h c))
    in_istart (Good (Acked resp)) = same s _ c _ refl refl refl refl refl refl
    in_istart (Good (Naked why resp)) = same s _ c _ refl refl refl refl refl refl
    in_istart (Good (Data resp num message)) = same s _ c _ refl refl refl refl refl refl
    in_istart (Good (Rep num)) = same s _ c _ refl refl refl refl refl refl
    in_istart (Good Strt) = same s _ c _ refl refl refl refl refl refl
    in_istart (Good Stack) = same s _ c _ refl refl refl refl refl refl
    in_istart (Good (Maint message)) = same s _ c _ refl refl refl refl refl refl
    in_istart BadHeader = same s _ c _ refl refl refl refl refl refl
    in_istart (BadData b) = same s _ c _ refl refl refl refl refl refl
    in_istart (TooLong b) = same s _ c _ refl refl refl refl refl refl
    in_istart BadFormat = same s _ c _ refl refl refl refl refl refl

    in_astart : (h : Received)
        → Counts s c (on_by AStart l s h) (counters_by AStart l s h (counters_after_fault h c))
    in_astart (Good (Acked resp)) = startup resp (resp == 0)
    in_astart (Good (Naked why resp)) = same s _ c _ refl refl refl refl refl refl
    in_astart (Good (Data resp num message)) = startup_data resp num message (resp == 0)
    in_astart (Good (Rep num)) = same s _ c _ refl refl refl refl refl refl
    in_astart (Good Strt) = same s _ c _ refl refl refl refl refl refl
    in_astart (Good Stack) = same s _ c _ refl refl refl refl refl refl
    in_astart (Good (Maint message)) = same s _ c _ refl refl refl refl refl refl
    in_astart BadHeader = same s _ c _ refl refl refl refl refl refl
    in_astart (BadData b) = same s _ c _ refl refl refl refl refl refl
    in_astart (TooLong b) = same s _ c _ refl refl refl refl refl refl
    in_astart BadFormat = same s _ c _ refl refl refl refl refl refl

    in_running : (h : Received)
        → Counts s c (on_by Running l s h) (counters_by Running l s h (counters_after_fault h c))
    in_running (Good (Acked resp)) = same s _ c _ refl refl refl refl refl refl
    in_running (Good (Naked why resp)) = nak why resp (is_within s.a resp s.n)
    in_running (Good (Data resp num message)) =
        more_if message (length message) (takes_data l s num) _ refl
    in_running (Good (Rep num)) = same s _ c _ refl refl refl refl refl refl
    in_running (Good Strt) = strt (may_restart l s)
    in_running (Good Stack) = same s _ c _ refl refl refl refl refl refl
    in_running (Good (Maint message)) = same s _ c _ refl refl refl refl refl refl
    in_running BadHeader = same s _ c _ refl refl refl refl refl refl
    in_running (BadData b) = same s _ c _ refl refl refl refl refl refl
    in_running (TooLong b) = same s _ c _ refl refl refl refl refl refl
    in_running BadFormat = same s _ c _ refl refl refl refl refl refl

    in_maintenance : (h : Received)
        → Counts s c (on_by Maintenance l s h)
        (counters_by Maintenance l s h (counters_after_fault h c))
    in_maintenance (Good (Acked resp)) = same s _ c _ refl refl refl refl refl refl
    in_maintenance (Good (Naked why resp)) = same s _ c _ refl refl refl refl refl refl
    in_maintenance (Good (Data resp num message)) = same s _ c _ refl refl refl refl refl refl
    in_maintenance (Good (Rep num)) = same s _ c _ refl refl refl refl refl refl
    in_maintenance (Good Strt) = same s _ c _ refl refl refl refl refl refl
    in_maintenance (Good Stack) = same s _ c _ refl refl refl refl refl refl
    in_maintenance (Good (Maint message)) = more_if message (length message) (has_room l s) _ refl
    in_maintenance BadHeader = same s _ c _ refl refl refl refl refl refl
    in_maintenance (BadData b) = same s _ c _ refl refl refl refl refl refl
    in_maintenance (TooLong b) = same s _ c _ refl refl refl refl refl refl
    in_maintenance BadFormat = same s _ c _ refl refl refl refl refl refl

    by : (p : State) (h : Received)
        → Counts s c (on_by p l s h) (counters_by p l s h (counters_after_fault h c))
    by Halted h = in_halted h
    by IStart h = in_istart h
    by AStart h = in_astart h
    by Running h = in_running h
    by Maintenance h = in_maintenance h

-- the inbox never loses what it holds
pub inbox_grows : (l : Limits) (s : StationState) (h : Received)
    → length s.inbox ≤ length (on l s h).inbox
inbox_grows l s h = by (counted_on l s h no_counts).up
  where
    by
        : (((on l s h).inbox ≡ s.inbox)
        × ((counters_on l s h no_counts).messages_up ≡ no_counts.messages_up))
        ⊎ ((length (on l s h).inbox ≡ length s.inbox + 1)
        × ((counters_on l s h no_counts).messages_up ≡ count_plus no_counts.messages_up 1))
        → length s.inbox ≤ length (on l s h).inbox
    by (inl e) = let f = ap length e.0 in omega (arith, f)
    by (inr e) = let f = e.0 in omega (arith, f)

-- ---- an end

-- what the counters say, where so many were taken
record Says (sent : List WholeFrame) (taken : ℕ) (inbox : List (List ℕ)) (c : Counters)
    : Type 0 where
  reps : length sent ≤ 4294967295 → c.rep_sent ≡ frames_of is_rep sent
  naks : length sent ≤ 4294967295 → all_naks c.nak_sent ≡ frames_of is_nak sent
  messages : length sent ≤ 4294967295
      → c.messages_sent + c.messages_again ≡ frames_of is_message sent
  up : taken + length inbox ≤ 4294967295 → c.messages_up ≡ taken + length inbox

says_after : (sent : List WholeFrame) (taken : ℕ) (s u : StationState) (c d : Counters)
    → Counts s c u d → Says sent taken s.inbox c → Says sent taken u.inbox d
says_after sent taken s u c d k h = record {
  reps = λ m. k.reps ∙ h.reps m;
  naks = λ m. ap all_naks k.naks ∙ h.naks m;
  messages = λ m. (let e = h.messages m in omega (arith, k.first, k.again, e));
  up = by k.up;
}
  where
    by : ((u.inbox ≡ s.inbox) × (d.messages_up ≡ c.messages_up))
        ⊎ ((length u.inbox ≡ length s.inbox + 1) × (d.messages_up ≡ count_plus c.messages_up 1))
        → taken + length u.inbox ≤ 4294967295 → d.messages_up ≡ taken + length u.inbox
    by (inl e) m =
        let f = ap length e.0 in
        let g = h.up (omega (arith, f, m)) in
        omega (arith, f, g, e.1)
    by (inr e) m =
        let f = e.0 in
        let g = h.up (omega (arith, f, m)) in
        omega (arith, f, g, e.1, m)

says_items : (sent : List WholeFrame) (taken : ℕ) (given : List ReadItem) (k : CoreView)
    → Says sent taken k.station.inbox k.counters
    → Says sent taken (after_items given k).station.inbox (after_items given k).counters
unfolding after_items
says_items sent taken [] k h = h
says_items sent taken (g ∷ rest) k h =
    says_items sent taken rest (after_item g k)
    (says_after sent taken k.station _ k.counters _
    (counted_on k.limits k.station (received_of g) k.counters) h)

-- ---- what is sent

-- one frame more, by what it counts
one_frame : (test : Header → Bool) (sent : List WholeFrame) (f : WholeFrame)
    → frames_of test (sent ++ f ∷ []) ≡ frames_of test sent + cond (test f.0) 1 0
one_frame test sent f = sum_by_push (λ (g : WholeFrame). cond (test g.0) 1 0) sent f

at_most_one : (b : Bool) → cond b 1 0 ≤ 1
at_most_one true = omega arith
at_most_one false = omega arith

below : (test : Header → Bool) (sent : List WholeFrame) → frames_of test sent ≤ length sent
below test [] = omega arith
below test (f ∷ sent) =
    let e = below test sent in
    let k = sum_by-cons (λ (g : WholeFrame). cond (test g.0) 1 0) f sent in
    let m = at_most_one (test f.0) in
    omega (arith, e, k, m)

one_nak : (why : Reason) (c : NakCounts) → all_naks c + 1 ≤ 4294967295
    → all_naks (nak_counts_after why c) ≡ all_naks c + 1
one_nak reason.HeaderCheck c m = omega (arith, m)
one_nak reason.DataCheck c m = omega (arith, m)
one_nak reason.ReplyToRep c m = omega (arith, m)
one_nak reason.NoBuffer c m = omega (arith, m)
one_nak reason.Overrun c m = omega (arith, m)
one_nak reason.TooLong c m = omega (arith, m)
one_nak reason.Format c m = omega (arith, m)
one_nak (reason.Other n) c m = omega (arith, m)

-- what one frame does to the counters of what is sent
record Adds (f : WholeFrame) (c d : Counters) : Type 0 where
  reps : c.rep_sent + 1 ≤ 4294967295 → d.rep_sent ≡ c.rep_sent + cond (is_rep f.0) 1 0
  naks : all_naks c.nak_sent + 1 ≤ 4294967295
      → all_naks d.nak_sent ≡ all_naks c.nak_sent + cond (is_nak f.0) 1 0
  messages : c.messages_sent + c.messages_again + 1 ≤ 4294967295
      → d.messages_sent + d.messages_again
      ≡ c.messages_sent + c.messages_again + cond (is_message f.0) 1 0
  up : d.messages_up ≡ c.messages_up

adds : (s u : StationState) (f : Frame) (c : Counters)
    → Adds (whole_frame f) c (counters_after_next s (Sends f u) c)
unfolding counters_after_next
adds s u (Naked why resp) c =
    record {
      reps = λ m. omega arith;
      naks = λ m. one_nak why c.nak_sent m;
      messages = λ m. omega arith;
      up = refl;
    }
adds s u (Rep num) c =
    record {
      reps = λ m. omega (arith, m);
      naks = λ m. omega arith;
      messages = λ m. omega arith;
      up = refl;
    }
adds s u (Data resp num message) c = by (num == next_number s.n)
  where
    by : (b : Bool)
        → Adds (whole_frame (Data resp num message)) c
        (cond b (counters_after_sent (length message) c) (counters_after_again (length message) c))
    by true =
        record {
          reps = λ m. omega arith;
          naks = λ m. omega arith;
          messages = λ m. omega (arith, m);
          up = refl;
        }
    by false =
        record {
          reps = λ m. omega arith;
          naks = λ m. omega arith;
          messages = λ m. omega (arith, m);
          up = refl;
        }
adds s u (Maint message) c =
    record {
      reps = λ m. omega arith;
      naks = λ m. omega arith;
      messages = λ m. omega (arith, m);
      up = refl;
    }
adds s u (Acked resp) c =
    record {
      reps = λ m. omega arith;
      naks = λ m. omega arith;
      messages = λ m. omega arith;
      up = refl;
    }
adds s u Strt c =
    record {
      reps = λ m. omega arith;
      naks = λ m. omega arith;
      messages = λ m. omega arith;
      up = refl;
    }
adds s u Stack c =
    record {
      reps = λ m. omega arith;
      naks = λ m. omega arith;
      messages = λ m. omega arith;
      up = refl;
    }

says_one : (sent : List WholeFrame) (taken : ℕ) (inbox : List (List ℕ)) (f : WholeFrame)
    (c d : Counters) → Adds f c d → Says sent taken inbox c → Says (sent ++ f ∷ []) taken inbox d
says_one sent taken inbox f c d a h = record {
  reps =
      λ m. (let l = length-append sent (f ∷ []) in let e = h.reps (omega (arith, l, m)) in
      let b = below is_rep sent in
      a.reps (omega (arith, e, b, l, m)) ∙ ap (λ n. n + cond (is_rep f.0) 1 0) e
      ∙ sym (one_frame is_rep sent f));
  naks =
      λ m. (let l = length-append sent (f ∷ []) in let e = h.naks (omega (arith, l, m)) in
      let b = below is_nak sent in
      a.naks (omega (arith, e, b, l, m)) ∙ ap (λ n. n + cond (is_nak f.0) 1 0) e
      ∙ sym (one_frame is_nak sent f));
  messages =
      λ m. (let l = length-append sent (f ∷ []) in let e = h.messages (omega (arith, l, m)) in
      let b = below is_message sent in
      a.messages (omega (arith, e, b, l, m)) ∙ ap (λ n. n + cond (is_message f.0) 1 0) e
      ∙ sym (one_frame is_message sent f));
  up = λ m. a.up ∙ h.up m;
}

says_next : (sent : List WholeFrame) (taken : ℕ) (inbox : List (List ℕ)) (s : StationState)
    (c : Counters) (t : Next) → Says sent taken inbox c
    → Says (sent ++ option_to_list (option_map whole_frame (next_frame t))) taken inbox
    (counters_after_next s t c)
unfolding counters_after_next
says_next sent taken inbox s c Idle h = subst (λ x. Says x taken inbox c) (sym (append-nil sent)) h
says_next sent taken inbox s c (Sends f u) h =
    says_one sent taken inbox (whole_frame f) c _ (adds s u f c) h

-- ---- events

abbrev SaysEnd : EndState → Type 0
SaysEnd x = Says x.sent (length x.taken) x.core.station.inbox x.core.counters

same_inbox : (sent : List WholeFrame) (taken : ℕ) (inbox inbox' : List (List ℕ)) (c d : Counters)
    → inbox' ≡ inbox → d.nak_sent ≡ c.nak_sent → d.rep_sent ≡ c.rep_sent
    → d.messages_sent + d.messages_again ≡ c.messages_sent + c.messages_again
    → d.messages_up ≡ c.messages_up → Says sent taken inbox c → Says sent taken inbox' d
same_inbox sent taken inbox inbox' c d e n r w u h = record {
  reps = λ m. r ∙ h.reps m;
  naks = λ m. ap all_naks n ∙ h.naks m;
  messages = λ m. w ∙ h.messages m;
  up = λ m. (let f = ap length e in let g = h.up (omega (arith, f, m)) in omega (arith, f, g, u));
}

started_inbox : (s : StationState) (b : Bool) → (cond b (after_start s) s).inbox ≡ s.inbox
started_inbox s true = refl
started_inbox s false = refl

accepted_inbox : (s : StationState) (message : List ℕ) (b : Bool)
    → (cond b (after_accept s message) s).inbox ≡ s.inbox
accepted_inbox s message true = refl
accepted_inbox s message false = refl

says_event : (e : Event) (x : EndState) → SaysEnd x → SaysEnd (after_event_here e x)
says_event (event.Start e) x h =
    same_inbox x.sent (length x.taken) x.core.station.inbox _ x.core.counters _
    (started_inbox x.core.station (may_start x.core.station)) refl refl refl refl h
says_event (event.Halt e) x h =
    same_inbox x.sent (length x.taken)
    x.core.station.inbox _ x.core.counters _ refl refl refl refl refl h
says_event (event.Send e message) x h =
    same_inbox x.sent (length x.taken) x.core.station.inbox _ x.core.counters _
    (accepted_inbox x.core.station message (may_send x.core.limits x.core.station message))
    refl refl refl refl h
says_event (event.Poll e) x h =
    subst
    (λ inbox. Says (after_event_here (event.Poll e) x).sent (length x.taken) inbox
    (counters_after_next x.core.station (next x.core.station) x.core.counters))
    (sym (inbox-sent x.core.station (next x.core.station) (sending x.core.station)))
    (says_next x.sent (length x.taken) x.core.station.inbox x.core.station x.core.counters
    (next x.core.station) h)
says_event (event.Arrive e bytes) x h =
    says_items x.sent (length x.taken) (items_added x.core.limits.longest x.arrived bytes) x.core h
says_event (event.Expire e) x h =
    same_inbox x.sent (length x.taken) x.core.station.inbox _ x.core.counters _
    (expired-inbox x.core.station) refl refl refl refl h
says_event (event.Take e) x h = record {
  reps = h.reps;
  naks = h.naks;
  messages = h.messages;
  up =
      λ m. (let f = taken_one x.taken x.core.station.inbox in let g = h.up (omega (arith, f, m)) in
      omega (arith, f, g));
}
  where
    taken_one : (taken inbox : List (List ℕ))
        → length (taken ++ option_to_list (first_message inbox)) + length (drop 1 inbox)
        ≡ length taken + length inbox
    taken_one taken inbox =
        sym (length-append (taken ++ option_to_list (first_message inbox)) (drop 1 inbox))
        ∙ ap length (take-up taken inbox) ∙ length-append taken inbox
says_event event.Clear x h = h

record SayBoth (p : PairState) : Type 0 where
  a : SaysEnd p.a
  b : SaysEnd p.b

say_after : (e : Event) (rest : List Event) (p : PairState) → NeverClears (e ∷ rest) → SayBoth p
    → SayBoth (after_event e p) × NeverClears rest
unfolding after_event
say_after (event.Start A) rest p n h =
    (record { a = says_event (event.Start A) p.a h.a; b = h.b }, n)
say_after (event.Start B) rest p n h =
    (record { a = h.a; b = says_event (event.Start B) p.b h.b }, n)
say_after (event.Halt A) rest p n h = (record { a = says_event (event.Halt A) p.a h.a; b = h.b }, n)
say_after (event.Halt B) rest p n h = (record { a = h.a; b = says_event (event.Halt B) p.b h.b }, n)
say_after (event.Send A message) rest p n h =
    (record { a = says_event (event.Send A message) p.a h.a; b = h.b }, n)
say_after (event.Send B message) rest p n h =
    (record { a = h.a; b = says_event (event.Send B message) p.b h.b }, n)
say_after (event.Poll A) rest p n h = (record { a = says_event (event.Poll A) p.a h.a; b = h.b }, n)
say_after (event.Poll B) rest p n h = (record { a = h.a; b = says_event (event.Poll B) p.b h.b }, n)
say_after (event.Arrive A bytes) rest p n h =
    (record { a = says_event (event.Arrive A bytes) p.a h.a; b = h.b }, n)
say_after (event.Arrive B bytes) rest p n h =
    (record { a = h.a; b = says_event (event.Arrive B bytes) p.b h.b }, n)
say_after (event.Expire A) rest p n h =
    (record { a = says_event (event.Expire A) p.a h.a; b = h.b }, n)
say_after (event.Expire B) rest p n h =
    (record { a = h.a; b = says_event (event.Expire B) p.b h.b }, n)
say_after (event.Take A) rest p n h = (record { a = says_event (event.Take A) p.a h.a; b = h.b }, n)
say_after (event.Take B) rest p n h = (record { a = h.a; b = says_event (event.Take B) p.b h.b }, n)
say_after event.Clear rest p n h = absurd n

say_run : (events : List Event) (p : PairState) → NeverClears events → SayBoth p
    → SayBoth (run events p)
unfolding run
say_run [] p n h = h
say_run (e ∷ rest) p n h = let k = say_after e rest p n h in say_run rest (after_event e p) k.1 k.0

say_new : (config : Config) → SaysEnd (new_end config)
say_new config = record { reps = λ m. refl; naks = λ m. refl; messages = λ m. refl; up = λ m. refl }

has_counted : (x : EndState) → SaysEnd x → HasCounted x
has_counted x h = record {
  reps = h.reps;
  naks = h.naks;
  messages = h.messages;
  handed_up =
      λ m. (let l = length-append x.taken x.core.station.inbox in
      let e = h.up (omega (arith, l, m)) in omega (arith, l, e));
}

pub counted_in_run : (first second : Config) (events : List Event) (end : End) → NeverClears events
    → HasCounted (at end (run events (new_pair first second)))
counted_in_run first second events A n =
    has_counted _
    (say_run events (new_pair first second) n (record { a = say_new first; b = say_new second })).a
counted_in_run first second events B n =
    has_counted _
    (say_run events (new_pair first second) n (record { a = say_new first; b = say_new second })).b
