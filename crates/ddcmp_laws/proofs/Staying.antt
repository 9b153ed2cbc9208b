-- What stays whatever two ends do: what is known of both ends in a first round, and in a second
-- one.
use Rattle.std.proofs.Common.{◌≡◌, ℕ, Bool, true, List, [], ◌∷◌, ◌++◌, refl}
use Rattle.ddcmp_pair.proofs.Views.{View}
use Rattle.ddcmp_laws.proofs.Flights.{Flight}
use Rattle.ddcmp_laws.proofs.Traffic.{Polls, Heard, Expires, x_asks, x_told, x_repeats, x_back}
use Rattle.ddcmp_laws.proofs.Traffic.{Base, flags-here, same-there}
use Rattle.ddcmp_laws.proofs.Learning.{Learns, learns-polls, learns-answers, learns-hears}
use Rattle.ddcmp_laws.proofs.Learning.{learns-heard, learns-expires, learns-kept}
use Rattle.ddcmp_laws.proofs.Starting.{Wakes, wakes-polls, wakes-answers, wakes-hears}
use Rattle.ddcmp_laws.proofs.Starting.{wakes-heard, wakes-expires, wakes-kept}
use Rattle.ddcmp_laws.proofs.Repeating.{Repeats, repeats-polls, repeats-answers, repeats-hears}
use Rattle.ddcmp_laws.proofs.Repeating.{repeats-heard, repeats-expires, repeats-kept}

-- Knowledge of two ends, by whether the timer of each ran out, and what is in flight from the
-- first to the second, and back: it stays.
pub record Stays (Knows : Bool → Bool → View → View → List Flight → List Flight → Type 0)
    : Type 0 where
  pub turned : (p q : Bool) (v w : View) (fl gl : List Flight) → Knows p q v w fl gl
      → Knows q p w v gl fl
  pub polls : (W V : ℕ) (p q : Bool) (v w : View) (fl gl : List Flight) → Base W v w fl gl
      → Base V w v gl fl → (v' : View) (f : Flight) → Polls v v' f → Knows p q v w fl gl
      → Knows p q v' w (fl ++ f ∷ []) gl
  pub hears : (W V : ℕ) (p q : Bool) (v w : View) (fl : List Flight) (f : Flight) (gl : List Flight)
      → Base W v w fl (f ∷ gl) → Base V w v (f ∷ gl) fl → (v' : View) → Base W v' w fl gl
      → Base V w v' gl fl
      → Heard v f v' → Knows p q v w fl (f ∷ gl) → Knows p q v' w fl gl
  pub expires : (W V : ℕ) (p q : Bool) (v w : View) (fl gl : List Flight) → Base W v w fl gl
      → Base V w v gl fl → (v' : View) → Expires v v' → Knows p q v w fl gl
      → Knows true q v' w fl gl
  pub gives : (p q : Bool) (v w : View) (fl gl : List Flight) (n : ℕ) → Knows p q v w fl gl
      → Knows p q (record v { given = n }) w fl gl

-- ---- an expiry leaves the rest

pub record Leaves (v v' : View) : Type 0 where
  pub up : v'.up ≡ v.up
  pub reply : v'.reply ≡ v.reply
  pub state : v'.state ≡ v.state
  pub due : v.due ≡ true → v'.due ≡ true

pub leaves : (v v' : View) → Expires v v' → Leaves v v'
leaves v _ (x_asks s) = record { up = refl; reply = refl; state = refl; due = λ d. refl }
leaves v _ (x_told p e) = record { up = refl; reply = refl; state = refl; due = λ d. d }
leaves v _ (x_repeats p) = record { up = refl; reply = refl; state = refl; due = λ d. d }
leaves v _ (x_back p e) = record { up = refl; reply = refl; state = refl; due = λ d. d }

pub expires-here : (W V : ℕ) (v w : View) (fl gl : List Flight) → Base W v w fl gl
    → Base V w v gl fl → (v' : View) → Expires v v' → Base W v' w fl gl
expires-here W V v w fl gl b b' _ (x_asks s) = flags-here W V v w fl gl b b' true v.rep
expires-here W V v w fl gl b b' _ (x_told p e) = b
expires-here W V v w fl gl b b' _ (x_repeats p) = flags-here W V v w fl gl b b' v.due true
expires-here W V v w fl gl b b' _ (x_back p e) = b

pub expires-there : (W V : ℕ) (v w : View) (fl gl : List Flight) → Base W v w fl gl
    → Base V w v gl fl → (v' : View) → Expires v v' → Base V w v' gl fl
expires-there W V v w fl gl b b' v' x =
    let l = leaves v v' x in same-there W V v w fl gl b b' v' l.up l.state

-- ---- a first round

pub record First (p q : Bool) (v w : View) (fl gl : List Flight) : Type 0 where
  pub learns : Learns p v w fl gl
  pub learns_there : Learns q w v gl fl
  pub wakes : p ≡ true → Wakes v w fl gl
  pub wakes_there : q ≡ true → Wakes w v gl fl

pub first-stays : Stays First
first-stays = record {
  turned =
      λ p q v w fl gl
      h. record {
        learns = h.learns_there;
        learns_there = h.learns;
        wakes = h.wakes_there;
        wakes_there = h.wakes;
      };
  polls = λ W V p q v w fl gl b b' v' f x h. record {
    learns = learns-polls W p v w fl gl b v' f x h.learns;
    learns_there = learns-answers q w v gl fl v' f x h.learns_there;
    wakes = λ e. wakes-polls v w fl gl v' f x (h.wakes e);
    wakes_there = λ e. wakes-answers w v gl fl v' f x (h.wakes_there e);
  };
  hears = λ W V p q v w fl f gl b b' v' n n' x h. record {
    learns = learns-hears p v w fl f gl v' x h.learns;
    learns_there = learns-heard V W q w v f gl fl b' b v' x h.learns_there;
    wakes = λ e. wakes-hears v w fl f gl v' x (h.wakes e);
    wakes_there = λ e. wakes-heard V W w v f gl fl b' v' n' n x (h.wakes_there e);
  };
  expires = λ W V p q v w fl gl b b' v' x h. (let l = leaves v v' x in record {
    learns = learns-expires W V p v w fl gl b v' x h.learns;
    learns_there = learns-kept q w w v v' gl fl refl refl refl refl l.up l.reply h.learns_there;
    wakes = λ e. wakes-expires v w fl gl v' x;
    wakes_there = λ e. wakes-kept w w v v' gl fl refl refl l.state l.due l.reply (h.wakes_there e);
  });
  gives = λ p q v w fl gl n h. record {
    learns =
        learns-kept p v (record v { given = n }) w w fl gl refl refl refl refl refl refl h.learns;
    learns_there =
        learns-kept q w w v (record v { given = n })
        gl fl refl refl refl refl refl refl h.learns_there;
    wakes =
        λ e. wakes-kept v (record v { given = n }) w w fl gl refl refl refl (λ d. d) refl
        (h.wakes e);
    wakes_there =
        λ e. wakes-kept w w v (record v { given = n }) gl fl refl refl refl (λ d. d) refl
        (h.wakes_there e);
  };
}

-- ---- a second round

pub record Second (p q : Bool) (v w : View) (fl gl : List Flight) : Type 0 where
  pub first : First p q v w fl gl
  pub repeats : Repeats p v w fl gl
  pub repeats_there : Repeats q w v gl fl

pub second-stays : Stays Second
second-stays = record {
  turned =
      λ p q v w fl gl
      h. record {
        first = first-stays.turned p q v w fl gl h.first;
        repeats = h.repeats_there;
        repeats_there = h.repeats;
      };
  polls = λ W V p q v w fl gl b b' v' f x h. record {
    first = first-stays.polls W V p q v w fl gl b b' v' f x h.first;
    repeats = repeats-polls W p v w fl gl b v' f x h.repeats;
    repeats_there = repeats-answers q w v gl fl v' f x h.repeats_there;
  };
  hears = λ W V p q v w fl f gl b b' v' n n' x h. record {
    first = first-stays.hears W V p q v w fl f gl b b' v' n n' x h.first;
    repeats = repeats-hears W p q v w fl f gl b v' x h.repeats_there h.repeats;
    repeats_there = repeats-heard q w v f gl fl v' x h.repeats_there;
  };
  expires = λ W V p q v w fl gl b b' v' x h. (let l = leaves v v' x in record {
    first = first-stays.expires W V p q v w fl gl b b' v' x h.first;
    repeats = repeats-expires W p v w fl gl b v' x h.repeats;
    repeats_there =
        repeats-kept q w w v v' gl fl refl refl refl refl l.state l.up l.reply h.repeats_there;
  });
  gives = λ p q v w fl gl n h. record {
    first = first-stays.gives p q v w fl gl n h.first;
    repeats =
        repeats-kept p v (record v { given = n })
        w w fl gl refl refl refl refl refl refl refl h.repeats;
    repeats_there =
        repeats-kept q w w v (record v { given = n })
        gl fl refl refl refl refl refl refl refl h.repeats_there;
  };
}
