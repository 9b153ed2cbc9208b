-- Two ends and the frames in flight between them, by numbers that have no bound: what each may
-- do, and what stays whatever it does.
use Rattle.std.proofs.Common.{◌≡◌, ◌≢◌, ◌⊎◌, inl, inr, ℕ, ◌+◌, ◌<◌, ◌≤◌, max, Bool, true, false}
use Rattle.std.proofs.Common.{List, [], ◌∷◌, ◌++◌, refl, sym, ap, ◌∙◌, subst, arith}
use Rattle.ddcmp_frame.specs.declared.nak.Nak.{Nak as Reason}
use Rattle.ddcmp_frame.specs.declared.nak.Nak.TheVariants as reason
use Rattle.ddcmp_core.specs.declared.state.State.{State}
use Rattle.ddcmp_core.specs.declared.state.State.TheVariants.{Halted, IStart, AStart, Running}
use Rattle.ddcmp_core.specs.declared.state.State.TheVariants.{Maintenance}
use Rattle.ddcmp_core.specs.declared.state.Owed.TheVariants.{Quiet, Ack, Nak}
use Rattle.ddcmp_core.specs.Table.{is_starting}
use Rattle.ddcmp_core.specs.NextFrame.{is_nak}
use Rattle.ddcmp_pair.proofs.Views.{View, tells, back, ran}
use Rattle.ddcmp_laws.proofs.Flights.{Flight, data_flies, ack_flies, nak_flies, rep_flies}
use Rattle.ddcmp_laws.proofs.Flights.{strt_flies, stack_flies, told, Rises, Near}
use Rattle.ddcmp_laws.proofs.Flights.{is_strt_flight, is_start, TellsSent, rouses, tells_count}
use Rattle.ddcmp_laws.proofs.Flights.{Each, StrtsFirst, rises-behind, rises-more, rises-first}
use Rattle.ddcmp_laws.proofs.Flights.{near-behind, near-data, near-first, near-up, each-behind}
use Rattle.ddcmp_laws.proofs.Flights.{each-first, firsts-behind, firsts-all, firsts-first}

-- ---- what an end does

-- it sends a frame
pub data Polls (v : View) : View → Flight → Type 0 where
  p_strt : v.state ≡ IStart → v.due ≡ true → Polls v (record v { due = false }) strt_flies
  p_stack : v.state ≡ AStart → v.due ≡ true → Polls v (record v { due = false }) stack_flies
  p_nak : (c : Reason) → v.state ≡ Running → v.reply ≡ Nak c
      → Polls v (record v { reply = Quiet }) (nak_flies c v.up)
  p_rep : v.state ≡ Running → is_nak v.reply ≡ false → v.rep ≡ true
      → Polls v (record v { rep = false }) (rep_flies v.sent)
  p_data : (m : List ℕ) → v.state ≡ Running → is_nak v.reply ≡ false → v.rep ≡ false
      → v.next ≤ v.given
      → Polls v (record v { sent = max v.sent v.next; next = v.next + 1; reply = Quiet })
      (data_flies v.up v.next m)
  p_ack : v.state ≡ Running → v.reply ≡ Ack → v.rep ≡ false → v.given < v.next
      → Polls v (record v { reply = Quiet }) (ack_flies v.up)

-- it takes the count of a frame
pub data Told (v : View) (q : ℕ) : View → Type 0 where
  t_runs : v.state ≡ Running → Told v q (tells v q)
  t_starts : v.state ≡ AStart → q ≡ v.acked → Told v q (ran v)

-- a frame comes to it
pub data Heard (v : View) : Flight → View → Type 0 where
  h_strt : is_starting v.state ≡ true → Heard v strt_flies (record v { state = AStart; due = true })
  h_stack : is_starting v.state ≡ true → Heard v stack_flies (record (ran v) { reply = Ack })
  h_stack_again : v.state ≡ Running → Heard v stack_flies (record v { reply = Ack })
  h_ack : (q : ℕ) (u : View) → Told v q u → Heard v (ack_flies q) u
  h_nak : (c : Reason) (q : ℕ) → v.state ≡ Running → Heard v (nak_flies c q) (back (tells v q))
  h_rep_all : (n : ℕ) → v.state ≡ Running → n ≡ v.up
      → Heard v (rep_flies n) (record v { reply = Ack })
  h_rep : (n : ℕ) → v.state ≡ Running
      → Heard v (rep_flies n) (record v { reply = Nak reason.ReplyToRep })
  h_up : (q k : ℕ) (m : List ℕ) (u : View) → Told v q u → k ≡ v.up + 1
      → Heard v (data_flies q k m) (record u { up = k; reply = Ack })
  h_full : (q k : ℕ) (m : List ℕ) (u : View) → Told v q u
      → Heard v (data_flies q k m) (record u { reply = Nak reason.NoBuffer })
  h_other : (q k : ℕ) (m : List ℕ) (u : View) → Told v q u → k ≢ v.up + 1
      → Heard v (data_flies q k m) u
  h_passes : (f : Flight) → is_starting v.state ≡ true → rouses f ≡ false → told f v.acked ≡ v.acked
      → Heard v f v

-- its timer expires, or is said to where it is off
pub data Expires (v : View) : View → Type 0 where
  x_asks : is_starting v.state ≡ true → Expires v (record v { due = true })
  x_told : v.state ≡ Running → v.acked ≡ v.sent → Expires v v
  x_repeats : v.state ≡ Running → Expires v (record v { rep = true })
  x_back : v.state ≡ Running → v.next ≡ v.acked + 1 → Expires v v

-- ---- what stays

pub record Bounds (W : ℕ) (v : View) : Type 0 where
  pub sent_given : v.sent ≤ v.given
  pub window : v.given ≤ v.acked + W
  pub low : v.acked < v.next
  pub high : v.next ≤ v.sent + 1

-- fl are in flight from v to w, gl from w to v
pub record Base (W : ℕ) (v w : View) (fl gl : List Flight) : Type 0 where
  pub bounds : Bounds W v
  pub rising : Rises v.acked w.up gl
  pub near : Near W v.sent w.up fl
  pub fresh : is_starting v.state ≡ true → v.given ≡ 0
  pub young : is_starting v.state ≡ true → v.up ≡ 0
  pub awake : v.state ≢ Halted
  pub no_maintenance : v.state ≢ Maintenance
  pub apart : v.state ≡ Running → w.state ≢ IStart
  pub grown : (v.state ≡ Running) ⊎ Each is_start true fl
  pub first : v.state ≡ IStart → Each is_strt_flight true fl
  pub ordered : StrtsFirst fl
  pub hush : w.state ≡ Running → Each is_strt_flight false fl

pub not-starting : {X : Type 0} (p : State) → p ≡ Running → is_starting p ≡ true → X
not-starting p r s = let z = ap is_starting r in absurd (cc (z, s))

grown-start : (p : State) (fl : List Flight) (f : Flight) → is_starting p ≡ true → is_start f ≡ true
    → (p ≡ Running) ⊎ Each is_start true fl → (p ≡ Running) ⊎ Each is_start true (fl ++ f ∷ [])
grown-start p fl f s e (inl r) = not-starting p r s
grown-start p fl f s e (inr u) = inr (each-behind is_start true fl f e u)

starts-only : (p : State) (fl : List Flight) → is_starting p ≡ true
    → (p ≡ Running) ⊎ Each is_start true fl → Each is_start true fl
starts-only p fl s (inl r) = not-starting p r s
starts-only p fl s (inr u) = u

-- ---- it sends

module _ (W V : ℕ) (v w : View) (fl gl : List Flight) (b : Base W v w fl gl) (b' : Base V w v gl fl)
  where
    -- a frame of a running end that is no message
    sends-plain : (v' : View) (f : Flight) → v.state ≡ Running → v'.state ≡ Running
        → v'.acked ≡ v.acked → v'.sent ≡ v.sent → TellsSent v.sent f → is_strt_flight f ≡ false
        → Bounds W v' → Base W v' w (fl ++ f ∷ []) gl
    sends-plain v' f p r a s d e c = record {
      bounds = c;
      rising = subst (λ n. Rises n w.up gl) (sym a) b.rising;
      near =
          subst (λ n. Near W n w.up (fl ++ f ∷ [])) (sym s)
          (near-behind W v.sent w.up fl f d b.near);
      fresh = λ z. not-starting v'.state r z;
      young = λ z. not-starting v'.state r z;
      awake = λ z. absurd (cc (r, z));
      no_maintenance = λ z. absurd (cc (r, z));
      apart = λ z. b.apart p;
      grown = inl r;
      first = λ z. absurd (cc (r, z));
      ordered = firsts-behind fl f e b.ordered;
      hush = λ z. each-behind is_strt_flight false fl f e (b.hush z);
    }

    pub polls-here : (v' : View) (f : Flight) → Polls v v' f → Bounds W v'
        → Base W v' w (fl ++ f ∷ []) gl
    polls-here _ _ (p_strt p d) c = record {
      bounds = c;
      rising = b.rising;
      near = near-behind W v.sent w.up fl strt_flies tt b.near;
      fresh = b.fresh;
      young = b.young;
      awake = b.awake;
      no_maintenance = b.no_maintenance;
      apart = b.apart;
      grown = grown-start v.state fl strt_flies (ap is_starting p) refl b.grown;
      first = λ z. each-behind is_strt_flight true fl strt_flies refl (b.first z);
      ordered =
          firsts-all (fl ++ strt_flies ∷ [])
          (each-behind is_strt_flight true fl strt_flies refl (b.first p));
      hush = λ z. absurd (b'.apart z p);
    }
    polls-here _ _ (p_stack p d) c = record {
      bounds = c;
      rising = b.rising;
      near = near-behind W v.sent w.up fl stack_flies tt b.near;
      fresh = b.fresh;
      young = b.young;
      awake = b.awake;
      no_maintenance = b.no_maintenance;
      apart = b.apart;
      grown = grown-start v.state fl stack_flies (ap is_starting p) refl b.grown;
      first = λ z. absurd (cc (p, z));
      ordered = firsts-behind fl stack_flies refl b.ordered;
      hush = λ z. each-behind is_strt_flight false fl stack_flies refl (b.hush z);
    }
    polls-here _ _ (p_nak why p r) c =
        sends-plain (record v { reply = Quiet }) (nak_flies why v.up) p p refl refl tt refl c
    polls-here _ _ (p_rep p r f) c =
        sends-plain (record v { rep = false }) (rep_flies v.sent) p p refl refl refl refl c
    polls-here _ _ (p_ack p r f room) c =
        sends-plain (record v { reply = Quiet }) (ack_flies v.up) p p refl refl tt refl c
    polls-here _ _ (p_data m p r f room) c =
        let d = b.bounds in
        record {
          bounds = c;
          rising = b.rising;
          near =
              near-data W v.sent (max v.sent v.next) w.up v.up v.next m fl (omega arith)
              (omega (arith, d.sent_given, d.window, d.low)) (omega arith) b.near;
          fresh = λ z. not-starting v.state p z;
          young = λ z. not-starting v.state p z;
          awake = b.awake;
          no_maintenance = b.no_maintenance;
          apart = b.apart;
          grown = inl p;
          first = λ z. absurd (cc (p, z));
          ordered = firsts-behind fl (data_flies v.up v.next m) refl b.ordered;
          hush =
              λ z. each-behind is_strt_flight false fl (data_flies v.up v.next m) refl (b.hush z);
        }

    -- what the other end keeps
    sends-there : (v' : View) (f : Flight) → v'.up ≡ v.up → v'.state ≡ v.state
        → (tells_count f ≡ false) ⊎ (told f v.up ≡ v.up) → Base V w v' gl (fl ++ f ∷ [])
    sends-there v' f u p t = record {
      bounds = b'.bounds;
      rising =
          subst (λ n. Rises w.acked n (fl ++ f ∷ [])) (sym u)
          (rises-behind w.acked v.up fl f b'.rising t);
      near = subst (λ n. Near V w.sent n gl) (sym u) b'.near;
      fresh = b'.fresh;
      young = b'.young;
      awake = b'.awake;
      no_maintenance = b'.no_maintenance;
      apart = λ z e. b'.apart z (sym p ∙ e);
      grown = b'.grown;
      first = b'.first;
      ordered = b'.ordered;
      hush = λ z. b'.hush (sym p ∙ z);
    }

    pub polls-there : (v' : View) (f : Flight) → Polls v v' f → Base V w v' gl (fl ++ f ∷ [])
    polls-there _ _ (p_strt p d) =
        sends-there (record v { due = false }) strt_flies refl refl (inl refl)
    polls-there _ _ (p_stack p d) =
        sends-there (record v { due = false }) stack_flies refl refl (inl refl)
    polls-there _ _ (p_nak why p r) =
        sends-there (record v { reply = Quiet }) (nak_flies why v.up) refl refl (inr refl)
    polls-there _ _ (p_rep p r f) =
        sends-there (record v { rep = false }) (rep_flies v.sent) refl refl (inl refl)
    polls-there _ _ (p_data m p r f room) =
        sends-there (record v { sent = max v.sent v.next; next = v.next + 1; reply = Quiet })
        (data_flies v.up v.next m) refl refl (inr refl)
    polls-there _ _ (p_ack p r f room) =
        sends-there (record v { reply = Quiet }) (ack_flies v.up) refl refl (inr refl)

    -- ---- flags change, or a message is given

    pub flags-here : (due rep : Bool) → Base W (record v { due = due; rep = rep }) w fl gl
    flags-here due rep =
        let d = b.bounds in
        record {
          bounds =
              record { sent_given = d.sent_given; window = d.window; low = d.low; high = d.high };
          rising = b.rising;
          near = b.near;
          fresh = b.fresh;
          young = b.young;
          awake = b.awake;
          no_maintenance = b.no_maintenance;
          apart = b.apart;
          grown = b.grown;
          first = b.first;
          ordered = b.ordered;
          hush = b.hush;
        }

    pub same-there : (v' : View) → v'.up ≡ v.up → v'.state ≡ v.state → Base V w v' gl fl
    same-there v' u p = record {
      bounds = b'.bounds;
      rising = subst (λ n. Rises w.acked n fl) (sym u) b'.rising;
      near = subst (λ n. Near V w.sent n gl) (sym u) b'.near;
      fresh = b'.fresh;
      young = b'.young;
      awake = b'.awake;
      no_maintenance = b'.no_maintenance;
      apart = λ z e. b'.apart z (sym p ∙ e);
      grown = b'.grown;
      first = b'.first;
      ordered = b'.ordered;
      hush = λ z. b'.hush (sym p ∙ z);
    }

    pub gives-here : (n : ℕ) → v.state ≡ Running → Bounds W (record v { given = n })
        → Base W (record v { given = n }) w fl gl
    gives-here n p c = record {
      bounds = c;
      rising = b.rising;
      near = b.near;
      fresh = λ z. not-starting v.state p z;
      young = b.young;
      awake = b.awake;
      no_maintenance = b.no_maintenance;
      apart = b.apart;
      grown = b.grown;
      first = b.first;
      ordered = b.ordered;
      hush = b.hush;
    }

-- ---- a frame comes

told-state : (v : View) (q : ℕ) (u : View) → Told v q u → u.state ≡ Running
told-state v q _ (t_runs p) = p
told-state v q _ (t_starts p e) = refl

told-acked : (v : View) (q : ℕ) (u : View) → Told v q u → u.acked ≡ q
told-acked v q _ (t_runs p) = refl
told-acked v q _ (t_starts p e) = sym e

told-sent : (v : View) (q : ℕ) (u : View) → Told v q u → u.sent ≡ v.sent
told-sent v q _ (t_runs p) = refl
told-sent v q _ (t_starts p e) = refl

told-up : (v : View) (q : ℕ) (u : View) → Told v q u → u.up ≡ v.up
told-up v q _ (t_runs p) = refl
told-up v q _ (t_starts p e) = refl

module _ (W V : ℕ) (v w : View) (fl : List Flight) (f : Flight) (gl : List Flight)
    (b : Base W v w fl (f ∷ gl)) (b' : Base V w v (f ∷ gl) fl) where
  -- a frame comes after which no STRT comes
  hushed : is_strt_flight f ≡ false → Each is_strt_flight false gl
  hushed e = by (firsts-first f gl b'.ordered).0
    where
      by : (is_strt_flight f ≡ true) ⊎ Each is_strt_flight false gl → Each is_strt_flight false gl
      by (inl s) = absurd (cc (s, e))
      by (inr u) = u

  -- an end that runs then
  runs-here : (v' : View) → v'.state ≡ Running → is_strt_flight f ≡ false
      → v'.acked ≡ told f v.acked → v'.sent ≡ v.sent → Bounds W v' → Base W v' w fl gl
  runs-here v' r e a s c = record {
    bounds = c;
    rising = subst (λ n. Rises n w.up gl) (sym a) (rises-first v.acked w.up f gl b.rising).2;
    near = subst (λ n. Near W n w.up fl) (sym s) b.near;
    fresh = λ z. not-starting v'.state r z;
    young = λ z. not-starting v'.state r z;
    awake = λ z. absurd (cc (r, z));
    no_maintenance = λ z. absurd (cc (r, z));
    apart =
        λ z i. (let y = (each-first is_strt_flight true f gl (b'.first i)).0 in absurd (cc (y, e)));
    grown = inl r;
    first = λ z. absurd (cc (r, z));
    ordered = b.ordered;
    hush = b.hush;
  }

  grown-there : (w.state ≡ Running) ⊎ Each is_start true (f ∷ gl)
      → (w.state ≡ Running) ⊎ Each is_start true gl
  grown-there (inl r) = inl r
  grown-there (inr u) = inr (each-first is_start true f gl u).1

  heard-there : (v' : View) → v.up ≤ v'.up → Near V w.sent v'.up gl
      → (w.state ≡ Running → v'.state ≢ IStart)
      → (v'.state ≡ Running → Each is_strt_flight false gl) → Base V w v' gl fl
  heard-there v' u n i h = record {
    bounds = b'.bounds;
    rising = rises-more w.acked v.up v'.up fl u b'.rising;
    near = n;
    fresh = b'.fresh;
    young = b'.young;
    awake = b'.awake;
    no_maintenance = b'.no_maintenance;
    apart = i;
    grown = grown-there b'.grown;
    first = λ z. (each-first is_strt_flight true f gl (b'.first z)).1;
    ordered = (firsts-first f gl b'.ordered).1;
    hush = h;
  }

  still-near : Near V w.sent v.up gl
  still-near = (near-first V w.sent v.up f gl b'.near).1

  runs-there : (v' : View) → v'.state ≡ Running → is_strt_flight f ≡ false → v'.up ≡ v.up
      → Base V w v' gl fl
  runs-there v' r e u =
      heard-there v' (omega (arith, u)) (subst (λ n. Near V w.sent n gl) (sym u) still-near)
      (λ z i. absurd (cc (r, i))) (λ z. hushed e)

pub hears-here : (W V : ℕ) (v w : View) (fl : List Flight) (f : Flight) (gl : List Flight)
    → Base W v w fl (f ∷ gl) → Base V w v (f ∷ gl) fl → (v' : View) → Heard v f v' → Bounds W v'
    → Base W v' w fl gl
hears-here W V v w fl _ gl b b' _ (h_strt s) c = record {
  bounds = c;
  rising = (rises-first v.acked w.up strt_flies gl b.rising).2;
  near = b.near;
  fresh = λ z. b.fresh s;
  young = λ z. b.young s;
  awake = λ z. absurd (cc z);
  no_maintenance = λ z. absurd (cc z);
  apart = λ z. absurd (cc z);
  grown = inr (starts-only v.state fl s b.grown);
  first = λ z. absurd (cc z);
  ordered = b.ordered;
  hush = b.hush;
}
hears-here W V v w fl _ gl b b' _ (h_stack s) c =
    runs-here W V v w fl stack_flies gl b b' (record (ran v) { reply = Ack }) refl refl refl refl c
hears-here W V v w fl _ gl b b' _ (h_stack_again p) c =
    runs-here W V v w fl stack_flies gl b b' (record v { reply = Ack }) p refl refl refl c
hears-here W V v w fl _ gl b b' _ (h_ack q u t) c =
    runs-here W V v w fl (ack_flies q) gl b b' u (told-state v q u t) refl (told-acked v q u t)
    (told-sent v q u t) c
hears-here W V v w fl _ gl b b' _ (h_nak why q p) c =
    runs-here W V v w fl (nak_flies why q) gl b b' (back (tells v q)) p refl refl refl c
hears-here W V v w fl _ gl b b' _ (h_rep_all n p e) c =
    runs-here W V v w fl (rep_flies n) gl b b' (record v { reply = Ack }) p refl refl refl c
hears-here W V v w fl _ gl b b' _ (h_rep n p) c =
    runs-here W V v w fl (rep_flies n) gl b b' (record v { reply = Nak reason.ReplyToRep })
    p refl refl refl c
hears-here W V v w fl _ gl b b' _ (h_up q k m u t e) c =
    runs-here W V v w fl (data_flies q k m) gl b b' (record u { up = k; reply = Ack })
    (told-state v q u t) refl (told-acked v q u t) (told-sent v q u t) c
hears-here W V v w fl _ gl b b' _ (h_full q k m u t) c =
    runs-here W V v w fl (data_flies q k m) gl b b' (record u { reply = Nak reason.NoBuffer })
    (told-state v q u t) refl (told-acked v q u t) (told-sent v q u t) c
hears-here W V v w fl _ gl b b' _ (h_other q k m u t e) c =
    runs-here W V v w fl (data_flies q k m) gl b b' u (told-state v q u t) refl (told-acked v q u t)
    (told-sent v q u t) c
hears-here W V v w fl _ gl b b' _ (h_passes f s r e) c = record {
  bounds = c;
  rising = subst (λ n. Rises n w.up gl) e (rises-first v.acked w.up f gl b.rising).2;
  near = b.near;
  fresh = b.fresh;
  young = b.young;
  awake = b.awake;
  no_maintenance = b.no_maintenance;
  apart = b.apart;
  grown = b.grown;
  first = b.first;
  ordered = b.ordered;
  hush = b.hush;
}

pub hears-there : (W V : ℕ) (v w : View) (fl : List Flight) (f : Flight) (gl : List Flight)
    → Base W v w fl (f ∷ gl) → Base V w v (f ∷ gl) fl → (v' : View) → Heard v f v'
    → Base V w v' gl fl
hears-there W V v w fl _ gl b b' _ (h_strt s) =
    heard-there W V v w fl strt_flies gl b b' (record v { state = AStart; due = true })
    (omega arith) (still-near W V v w fl strt_flies gl b b') (λ z i. absurd (cc i))
    (λ z. absurd (cc z))
hears-there W V v w fl _ gl b b' _ (h_stack s) =
    runs-there W V v w fl stack_flies gl b b' (record (ran v) { reply = Ack }) refl refl refl
hears-there W V v w fl _ gl b b' _ (h_stack_again p) =
    runs-there W V v w fl stack_flies gl b b' (record v { reply = Ack }) p refl refl
hears-there W V v w fl _ gl b b' _ (h_ack q u t) =
    runs-there W V v w fl (ack_flies q) gl b b' u (told-state v q u t) refl (told-up v q u t)
hears-there W V v w fl _ gl b b' _ (h_nak why q p) =
    runs-there W V v w fl (nak_flies why q) gl b b' (back (tells v q)) p refl refl
hears-there W V v w fl _ gl b b' _ (h_rep_all n p e) =
    runs-there W V v w fl (rep_flies n) gl b b' (record v { reply = Ack }) p refl refl
hears-there W V v w fl _ gl b b' _ (h_rep n p) =
    runs-there W V v w fl (rep_flies n) gl b b' (record v { reply = Nak reason.ReplyToRep })
    p refl refl
hears-there W V v w fl _ gl b b' _ (h_up q k m u t e) =
    let r = told-state v q u t in
    heard-there W V v w fl (data_flies q k m) gl b b' (record u { up = k; reply = Ack })
    (omega (arith, e)) (near-up V w.sent v.up q k m gl b'.near) (λ z i. absurd (cc (r, i)))
    (λ z. hushed W V v w fl (data_flies q k m) gl b b' refl)
hears-there W V v w fl _ gl b b' _ (h_full q k m u t) =
    runs-there W V v w fl (data_flies q k m) gl b b' (record u { reply = Nak reason.NoBuffer })
    (told-state v q u t) refl (told-up v q u t)
hears-there W V v w fl _ gl b b' _ (h_other q k m u t e) =
    runs-there W V v w fl (data_flies q k m) gl b b' u (told-state v q u t) refl (told-up v q u t)
hears-there W V v w fl _ gl b b' _ (h_passes f s r e) =
    heard-there W V v w fl f gl b b' v (omega arith) (still-near W V v w fl f gl b b') b'.apart
    (λ z. not-starting v.state z s)
