-- What a frame that arrives as it is sent does to the numbers of two ends.
use Rattle.std.proofs.Common.{◌≡◌, ℕ, ◌+◌, ◌-◌, ◌%◌, ◌<◌, ◌≤◌, max, Bool, true, false, cond, List}
use Rattle.std.proofs.Common.{[], ◌∷◌, ◌++◌, length, Some, None, refl, sym, ap, ◌∙◌, arith}
use Rattle.std.proofs.Common.{length-append}
use Rattle.std.specs.Prelude.{◌==◌, ◌&&◌, nat_lt}
use Rattle.ddcmp_frame.specs.declared.nak.Nak.{Nak as Reason}
use Rattle.ddcmp_frame.specs.declared.nak.Nak.TheVariants as reason
use Rattle.ddcmp_core.specs.Sequence.{distance}
use Rattle.ddcmp_core.specs.Numbers.{next_number, is_within}
use Rattle.ddcmp_core.specs.declared.state.State.{State}
use Rattle.ddcmp_core.specs.declared.state.State.TheVariants.{Halted, IStart, AStart, Running}
use Rattle.ddcmp_core.specs.declared.state.State.TheVariants.{Maintenance}
use Rattle.ddcmp_core.specs.declared.state.Owed.{Owed}
use Rattle.ddcmp_core.specs.declared.state.Owed.TheVariants.{Quiet, Ack, Nak}
use Rattle.ddcmp_core.specs.declared.state.Timer.TheVariants.{Off}
use Rattle.ddcmp_core.specs.declared.notice.Notice.TheVariants as notice
use Rattle.ddcmp_core.specs.Table.{StationState, Limits, Frame, Data, Acked, Naked, Rep, Strt}
use Rattle.ddcmp_core.specs.Table.{Stack, Good, before_next, newly_acknowledged}
use Rattle.ddcmp_core.specs.Table.{after_ack, after_offer, takes_data, on_nak, is_running}
use Rattle.ddcmp_core.specs.Table.{acknowledges_by_take, owed_after_take, owed_after_message}
use Rattle.ddcmp_core.specs.Table.{on_data, on_by, notice_by, acknowledged_by, after_startup}
use Rattle.ddcmp_core.specs.Table.{after_data}
use Rattle.ddcmp_core.proofs.Taken.{none_owed, owed_taken, some_more}
use Rattle.ddcmp_core.proofs.ToldLaws.{number_told, number_told_data}
use Rattle.ddcmp_pair.proofs.Relation.{Counts}
use Rattle.ddcmp_pair.proofs.Numbers.{newly-is, counts-after-ack}
use Rattle.ddcmp_pair.proofs.Sendings.{counts_sent}
use Rattle.ddcmp_pair.proofs.Numbering.{sent_is, next_is}
use Rattle.ddcmp_pair.proofs.Views.{View, tells, back, comes_up, hears_strt, hears_stack, hears_nak}
use Rattle.ddcmp_pair.proofs.Views.{hears_rep, hears_ack, hears_data}

-- a station as its numbers show it, where so many messages were acknowledged, taken and given
abbrev pub looks : StationState → ℕ → List (List ℕ) → List (List ℕ) → View
looks s acked taken given = record {
  state = s.state;
  due = s.due;
  reply = s.reply;
  rep = s.rep;
  acked = acked;
  sent = acked + distance s.a s.n;
  next = acked + 1 + before_next s;
  up = length (taken ++ s.inbox);
  given = length given;
}

-- ---- how many messages a notice reports acknowledged

number_none : (b : Bool)
    → acknowledged_by (Some (cond b notice.RunningAndHandedUp notice.Running)) ≡ 0
number_none true = refl
number_none false = refl

-- ---- an acknowledgement

rep_after_ack : (b : Bool) (m acked k : ℕ) → m ≡ k - acked → acked ≤ k
    → cond (m == 0) b false ≡ cond (k == acked) b false
rep_after_ack b m acked k e h = by (m == 0) refl (k == acked) refl
  where
    by : (d : Bool) → (m == 0) ≡ d → (f : Bool) → (k == acked) ≡ f → cond d b false ≡ cond f b false
    by true p true q = refl
    by false p false q = refl
    by true p false q =
        let z : m ≡ 0 = grind (arith) in let n : k ≡ acked = omega (arith, z, e, h) in
        absurd (grind (arith, n))
    by false p true q =
        let n : k ≡ acked = grind (arith) in let z : m ≡ 0 = omega (arith, n, e) in
        absurd (grind (arith, z))

-- a test on remainders of near numbers
pub same_test : (x y a b : ℕ) → x ≡ a % 256 → y ≡ b % 256 → a ≤ b + 255 → b ≤ a + 255
    → (x == y) ≡ (a == b)
same_test x y a b e f h g = by (x == y) refl (a == b) refl
  where
    by : (t : Bool) → (x == y) ≡ t → (u : Bool) → (a == b) ≡ u → t ≡ u
    by true p true q = refl
    by false p false q = refl
    by true p false q =
        let i : x ≡ y = grind (arith) in let j : a ≡ b = omega (arith, i, e, f, h, g) in
        absurd (grind (arith, j))
    by false p true q =
        let j : a ≡ b = grind (arith) in let i : x ≡ y = omega (arith, j, e, f) in
        absurd (grind (arith, i))

module _ (s : StationState) (w : ℕ) (given : List (List ℕ)) (acked sent next up : ℕ)
    (c : Counts s w given acked sent next up) (taken : List (List ℕ)) where
  pub sees_tells : (q : ℕ) → acked ≤ q → q ≤ sent
      → looks (after_ack s (q % 256)) q taken given ≡ tells (looks s acked taken given) q
  sees_tells q lo hi = λ i.
      record {
        state = s.state;
        due = s.due;
        reply = s.reply;
        rep = r i;
        acked = q;
        sent = n i;
        next = t i;
        up = length (taken ++ s.inbox);
        given = length given;
      }
    where
      r : (after_ack s (q % 256)).rep ≡ cond (q == acked) s.rep false
      r =
          rep_after_ack s.rep (newly_acknowledged s (q % 256)) acked q
          (newly-is s w given acked sent next up q c lo hi) lo

      c' : Counts (after_ack s (q % 256)) w given q sent (max next (q + 1)) up
      c' = counts-after-ack s w given acked sent next up q c lo hi

      n : q + distance (after_ack s (q % 256)).a (after_ack s (q % 256)).n
          ≡ acked + distance s.a s.n
      n =
          sent_is (after_ack s (q % 256)) w given q sent (max next (q + 1)) up c'
          ∙ sym (sent_is s w given acked sent next up c)

      t : q + 1 + before_next (after_ack s (q % 256)) ≡ max (acked + 1 + before_next s) (q + 1)
      t =
          next_is (after_ack s (q % 256)) w given q sent (max next (q + 1)) up c'
          ∙ ap (λ n. max n (q + 1)) (sym (next_is s w given acked sent next up c))

  pub sees_back : (q : ℕ) → acked ≤ q → q ≤ sent
      → looks (on_nak s (q % 256)) q taken given ≡ back (tells (looks s acked taken given) q)
  sees_back q lo hi =
      let u = after_ack s (q % 256) in
      let c' = counts-after-ack s w given acked sent next up q c lo hi in
      let h = within_bytes in
      let t : is_within s.a (q % 256) s.n ≡ true = grind (arith, h) in
      let z : q + 1 + (next_number u.a + 511 - u.a) % 256 ≡ q + 1 = omega (arith, c'.a_is) in
      ap
      (λ b. looks (cond b (record u { t = next_number u.a; rep = false; timer = Off }) s)
      q taken given) t
      ∙ ap (λ n. record (looks u q taken given) { next = n; rep = false }) z
      ∙ ap back (sees_tells q lo hi)
    where
      within_bytes : distance s.a (q % 256) ≤ distance s.a s.n
      within_bytes = omega (arith, c.a_is, c.n_is, c.small, lo, hi, c.sent_given, c.window)

-- what is owed once all is taken
abbrev pub owed_at_last : StationState → Owed
owed_at_last s = cond (acknowledges_by_take s) (owed_after_take s.reply) s.reply

-- the numbers of a station, and what it owes once all is taken
abbrev pub looks_taken : StationState → ℕ → List (List ℕ) → List (List ℕ) → View
looks_taken s acked taken given = record (looks s acked taken given) { reply = owed_at_last s }

pub looks-alike : (u : StationState) (acked : ℕ) (taken given : List (List ℕ)) → u.inbox ≡ []
    → looks_taken u acked taken given ≡ looks u acked taken given
looks-alike u acked taken given e =
    let none = none_owed (u.by_user && is_running u.state) u.inbox e in
    λ i. record (looks u acked taken given) {
      reply = cond (none i) (owed_after_take u.reply) u.reply;
    }

pub sees_up : (l : Limits) (u : StationState) (q num k : ℕ) (message : List ℕ)
    (taken given : List (List ℕ)) → u.inbox ≡ [] → 0 < l.room → u.state ≡ Running
    → (num == next_number u.r) ≡ (k == length (taken ++ u.inbox) + 1)
    → looks_taken (after_offer l u num message) q taken given ≡ comes_up (looks u q taken given) k
sees_up l u q num k message taken given e room run same = by (num == next_number u.r) refl
  where
    z : length u.inbox ≡ 0
    z = ap length e

    g : nat_lt (length u.inbox) l.room ≡ true
    g = grind (arith, z, room)

    by : (b : Bool) → (num == next_number u.r) ≡ b
        → looks_taken (after_offer l u num message) q taken given
        ≡ comes_up (looks u q taken given) k
    by true f =
        let came : after_offer l u num message ≡ record u {
          r = num;
          inbox = u.inbox ++ message ∷ [];
          reply = owed_after_message u.by_user u.reply;
        } = rw (f, g) refl in
        let owed =
        owed_taken u.by_user (is_running u.state) (nat_lt 0 (length (u.inbox ++ message ∷ [])))
        u.reply (ap is_running run) (some_more u.inbox message) in
        let t : (k == length (taken ++ u.inbox) + 1) ≡ true = sym same ∙ f in
        let k' : k ≡ length (taken ++ u.inbox) + 1 = grind (arith) in
        let n : length (taken ++ (u.inbox ++ message ∷ [])) ≡ k =
        omega (
          arith,
          k',
          length-append taken (u.inbox ++ message ∷ []),
          length-append taken u.inbox,
          length-append u.inbox (message ∷ []),
        ) in
        ap (λ (w : StationState). looks_taken w q taken given) came
        ∙ (λ i. record (looks u q taken given) { up = n i; reply = owed i })
        ∙ ap
        (λ b. record (looks u q taken given)
        { up = cond b k (length (taken ++ u.inbox)); reply = cond b Ack u.reply }) (sym t)
    by false f =
        let stays : after_offer l u num message ≡ u = rw f refl in
        let t : (k == length (taken ++ u.inbox) + 1) ≡ false = sym same ∙ f in
        ap (λ (w : StationState). looks_taken w q taken given) stays
        ∙ looks-alike u q taken given e
        ∙ ap
        (λ b. record (looks u q taken given)
        { up = cond b k (length (taken ++ u.inbox)); reply = cond b Ack u.reply }) (sym t)

-- the end that sends data
pub sees_sent : (s : StationState) (w : ℕ) (given : List (List ℕ)) (acked sent next up : ℕ)
    (taken : List (List ℕ)) → before_next s < length s.out → Counts s w given acked sent next up
    → looks (after_data s) acked taken given
    ≡ (let v = looks s acked taken given in
    record v { sent = max v.sent v.next; next = v.next + 1; reply = Quiet })
sees_sent s w given acked sent next up taken room c =
    let c' = counts_sent s w given acked sent next up room c in
    let n = sent_is (after_data s) w given acked (max sent next) (next + 1) up c' in
    let t = next_is (after_data s) w given acked (max sent next) (next + 1) up c' in
    let n' = sent_is s w given acked sent next up c in
    let t' = next_is s w given acked sent next up c in
    let v = looks s acked taken given in
    let e : acked + distance (after_data s).a (after_data s).n ≡ max v.sent v.next =
    omega (arith, n, n', t') in
    let f : acked + 1 + before_next (after_data s) ≡ v.next + 1 = omega (arith, t, t') in
    λ i. record v { sent = e i; next = f i; reply = Quiet }

-- a message comes
data_up : (l : Limits) (s : StationState) (w : ℕ) (given : List (List ℕ)) (acked sent next up : ℕ)
    (taken : List (List ℕ)) (q num k : ℕ) (message : List ℕ) → Counts s w given acked sent next up
    → s.inbox ≡ [] → 0 < l.room → s.state ≡ Running → up ≡ length (taken ++ s.inbox)
    → num ≡ k % 256 → k ≤ up + 256 → up ≤ k + 254 → acked ≤ q → q ≤ sent
    → looks_taken (on_data l s (q % 256) num message) q taken given
    ≡ comes_up (tells (looks s acked taken given) q) k
data_up l s w given acked sent next up taken q num k message c e room run u n hi' lo' lo hi =
    let a = after_ack s (q % 256) in
    let c' = counts-after-ack s w given acked sent next up q c lo hi in
    let m : next_number a.r ≡ (length (taken ++ s.inbox) + 1) % 256 = omega (arith, c'.r_is, u) in
    sees_up l a q num k message taken given e room run
    (same_test num (next_number a.r) k (length (taken ++ s.inbox) + 1) n m
    (omega (arith, u, hi')) (omega (arith, u, lo')))
    ∙ ap (λ v. comes_up v k) (sees_tells s w given acked sent next up c taken q lo hi)

-- the end that hears, in each state
module _ (l : Limits) (s : StationState) (w : ℕ) (given : List (List ℕ)) (acked sent next up : ℕ)
    (c : Counts s w given acked sent next up) (taken : List (List ℕ)) where
  none : (u : StationState) → looks u (acked + 0) taken given ≡ looks u acked taken given
  none u = let z : acked + 0 ≡ acked = omega arith in ap (λ n. looks u n taken given) z

  abbrev sees : State → Frame → View
  sees p f =
      looks (on_by p l s (Good f)) (acked + acknowledged_by (notice_by p l s (Good f))) taken given

  pub sees_strt : (p : State) → (p ≡ Running → ⊥)
      → sees p Strt ≡ hears_strt p (looks s acked taken given)
  sees_strt Halted n = none s
  sees_strt IStart n = none (on_by IStart l s (Good Strt))
  sees_strt AStart n = none (on_by AStart l s (Good Strt))
  sees_strt Running n = absurd (n refl)
  sees_strt Maintenance n = none s

  pub sees_stack : (p : State) → sees p Stack ≡ hears_stack p (looks s acked taken given)
  sees_stack Halted = none s
  sees_stack IStart = none (on_by IStart l s (Good Stack))
  sees_stack AStart = none (on_by AStart l s (Good Stack))
  sees_stack Running = none (on_by Running l s (Good Stack))
  sees_stack Maintenance = none s

  pub sees_rep : (p : State) (num n : ℕ) → (num == s.r) ≡ (n == length (taken ++ s.inbox))
      → sees p (Rep num) ≡ hears_rep p (looks s acked taken given) n
  sees_rep Halted num n e = none s
  sees_rep IStart num n e = none s
  sees_rep AStart num n e = none s
  sees_rep Running num n e =
      none (on_by Running l s (Good (Rep num)))
      ∙ ap (λ b. record (looks s acked taken given) { reply = cond b Ack (Nak reason.ReplyToRep) })
      e
  sees_rep Maintenance num n e = none s

  told_all : (q : ℕ) → acked ≤ q → q ≤ sent → acked + newly_acknowledged s (q % 256) ≡ q
  told_all q lo hi = omega (arith, newly-is s w given acked sent next up q c lo hi, lo)

  pub sees_nak : (p : State) (why : Reason) (q : ℕ) → acked ≤ q → q ≤ sent
      → sees p (Naked why (q % 256)) ≡ hears_nak p (looks s acked taken given) q
  sees_nak Halted why q lo hi = none s
  sees_nak IStart why q lo hi = none s
  sees_nak AStart why q lo hi = none s
  sees_nak Running why q lo hi =
      ap (λ n. looks (on_nak s (q % 256)) n taken given)
      (ap (λ n. acked + n) (number_told (newly_acknowledged s (q % 256))) ∙ told_all q lo hi)
      ∙ sees_back s w given acked sent next up c taken q lo hi
  sees_nak Maintenance why q lo hi = none s

  -- an end that starts has nothing to be acknowledged
  pub sees_ack : (p : State) (q : ℕ) → (p ≡ AStart → q ≡ 0) → acked ≤ q → q ≤ sent
      → sees p (Acked (q % 256)) ≡ hears_ack p (looks s acked taken given) q
  sees_ack Halted q z lo hi = none s
  sees_ack IStart q z lo hi = none s
  sees_ack AStart q z lo hi =
      let q0 = z refl in
      let t : (q % 256 == 0) ≡ true = ap (λ n. n % 256 == 0) q0 in
      ap
      (λ b. looks (cond b (after_startup s) s)
      (acked + acknowledged_by (cond b (Some notice.Running) None)) taken given) t
      ∙ none (after_startup s)
  sees_ack Running q z lo hi =
      ap (λ n. looks (after_ack s (q % 256)) n taken given)
      (ap (λ n. acked + n) (number_told (newly_acknowledged s (q % 256))) ∙ told_all q lo hi)
      ∙ sees_tells s w given acked sent next up c taken q lo hi
  sees_ack Maintenance q z lo hi = none s

  abbrev sees_taken : State → Frame → View
  sees_taken p f =
      looks_taken (on_by p l s (Good f)) (acked + acknowledged_by (notice_by p l s (Good f)))
      taken given

  pub sees_data : (p : State) (q num k : ℕ) (message : List ℕ) → s.state ≡ p → (p ≡ AStart → q ≡ 0)
      → s.inbox ≡ [] → 0 < l.room → up ≡ length (taken ++ s.inbox) → num ≡ k % 256 → k ≤ up + 256
      → up ≤ k + 254 → acked ≤ q → q ≤ sent
      → sees_taken p (Data (q % 256) num message) ≡ hears_data p (looks s acked taken given) q k
  sees_data Halted q num k message is z e room u n hi' lo' lo hi =
      looks-alike s (acked + 0) taken given e ∙ none s
  sees_data IStart q num k message is z e room u n hi' lo' lo hi =
      looks-alike s (acked + 0) taken given e ∙ none s
  sees_data AStart q num k message is z e room u n hi' lo' lo hi =
      let q0 = z refl in
      let t : (q % 256 == 0) ≡ true = ap (λ n. n % 256 == 0) q0 in
      let a : acked
      + acknowledged_by
      (Some (cond (takes_data l s num) notice.RunningAndHandedUp notice.Running)) ≡ q =
      omega (arith, number_none (takes_data l s num), q0, lo) in
      ap
      (λ b. looks_taken (cond b (on_data l (after_startup s) (q % 256) num message) s)
      (acked
      + acknowledged_by
      (cond b (Some (cond (takes_data l s num) notice.RunningAndHandedUp notice.Running)) None))
      taken given) t
      ∙ ap (λ n. looks_taken (on_data l (after_startup s) (q % 256) num message) n taken given) a
      ∙ data_up l (after_startup s)
      w given acked sent next up taken q num k message c e room refl u n hi' lo' lo hi
  sees_data Running q num k message is z e room u n hi' lo' lo hi =
      ap (λ n. looks_taken (on_data l s (q % 256) num message) n taken given)
      (ap (λ n. acked + n) (number_told_data l s (q % 256) num) ∙ told_all q lo hi)
      ∙ data_up l s w given acked sent next up taken q num k message c e room is u n hi' lo' lo hi
  sees_data Maintenance q num k message is z e room u n hi' lo' lo hi =
      looks-alike s (acked + 0) taken given e ∙ none s
