-- How a machine and its devices go on together.
use Rattle.std.proofs.Common.{◌≡◌, ◌∙◌, ℕ, List, [], ◌∷◌, ◌++◌, length, refl, Bool, true, false, Option}
use Rattle.std.proofs.Common.{append_assoc, ap, sym, subst, take, drop, None, Some}
use Rattle.std.proofs.lemmas.List.{append-nil, take-append-drop}
use Rattle.std.specs.Prelude.{if◌then◌else◌}
use Rattle.ddcmp_ports.specs.declared.port.Port.{Port}
use Rattle.ddcmp_ports.specs.declared.port.Port.TheVariants.{Input, Output, Errors, First, Second}
use Rattle.ddcmp_ports.specs.declared.port.News.{News}
use Rattle.ddcmp_ports.specs.declared.port.News.TheVariants as news
use Rattle.ddcmp_ports.specs.declared.port.Down.{Down}
use Rattle.ddcmp_ports.specs.declared.port.Transfer.TheVariants as transfer
use Rattle.ddcmp_ports.specs.declared.buffers.Buffers.{Buffers}
use Rattle.ddcmp_ports.specs.Holding.{held_of}
use Rattle.ddcmp_ports.specs.Running.{Adds, Agrees, AllAgree, Changes, Event, Gave, GoesOn, Held, Keeps, Left, Rested, Shut}
use Rattle.ddcmp_ports.specs.Running.{Passage, Passed, Stopped, Told, Took, Trace, after_news, after_read}
use Rattle.ddcmp_ports.specs.Running.{after_written, changed, ended, fresh, put, same, taken, told, used, used_whole}

same-is : (p q : Port) → same p q ≡ true → p ≡ q
same-is Input Input e = refl
same-is Input Output e = cc
same-is Input Errors e = cc
same-is Input First e = cc
same-is Input Second e = cc
same-is Output Input e = cc
same-is Output Output e = refl
same-is Output Errors e = cc
same-is Output First e = cc
same-is Output Second e = cc
same-is Errors Input e = cc
same-is Errors Output e = cc
same-is Errors Errors e = refl
same-is Errors First e = cc
same-is Errors Second e = cc
same-is First Input e = cc
same-is First Output e = cc
same-is First Errors e = cc
same-is First First e = refl
same-is First Second e = cc
same-is Second Input e = cc
same-is Second Output e = cc
same-is Second Errors e = cc
same-is Second First e = cc
same-is Second Second e = refl

some-is : {a b : Passage} → ◌≡◌ {A = Option Passage} (Some a) (Some b) → a ≡ b
some-is e = cc

abbrev bend : Bool → (Passage → Passage) → Passage → Passage
bend true change t = change t
bend false change t = t

changed-of : (b : Bool) (f : Passage → Passage) (t : Passage)
    → changed b f (Some t) ≡ Some (bend b f t)
changed-of true f t = refl
changed-of false f t = refl

changed-from : (b : Bool) (f : Passage → Passage) (o : Option Passage) (t' : Passage)
    → changed b f o ≡ Some t' → (t : Passage) × (o ≡ Some t) × (bend b f t ≡ t')
changed-from false f o t' e = (t', e, refl)
changed-from true f None t' e = never e
  where
    never : ◌≡◌ {A = Option Passage} None (Some t')
        → (t : Passage) × (◌≡◌ {A = Option Passage} None (Some t)) × (f t ≡ t')
    never e = cc
changed-from true f (Some t) t' e = (t, refl, some-is e)

-- An event at a port, and what it changes there.
step : {M A : Type 0} {has : M → List Event → Type 0} {asked : M → A} {m m' : M} {held held' : Held}
    {old new : Trace} (p : Port) (event : Event) (change : Passage → Passage)
    → Adds has asked m event m' → Changes p change old new
    → ((h : List Event) (q : Port) (b : Bool) → same p q ≡ b → (t : Passage)
    → Agrees h (held q) q t → Agrees (event ∷ h) (held' q) q (bend b change t))
    → GoesOn has asked m held old m' held' new
step {M} {A} {has} {asked} {m} {m'} {held} {held'} {old} {new} p event change adds changes agrees = record {
  goes = λ h is agree. (
    event ∷ [],
    adds.history h is,
    λ q t' e.
        (let from = changed-from (same p q) change (old q) t' (sym (changes q) ∙ e) in
        subst (Agrees (event ∷ h) (held' q) q) from.2
        (agrees h q (same p q) refl from.0 (agree q from.0 from.1))),
  );
  known = λ q t e. (
    bend (same p q) change t,
    changes q ∙ ap (changed (same p q) change) e ∙ changed-of (same p q) change t,
  );
  same = adds.same;
}

-- what is told of a port, and what is held afterwards
fresh-append : (what : News) (xs ys : List ℕ) → fresh what (xs ++ ys) ≡ fresh what xs ++ fresh what ys
fresh-append (news.Opened peer) xs ys = refl
fresh-append (news.Reported event) xs ys = refl
fresh-append (news.Refused why) xs ys = refl
fresh-append (news.Ended why) xs ys = refl
fresh-append (news.Broken why) xs ys = refl

-- nothing is held that was read before the port ended
abbrev pub Uses : News → List ℕ → Type 0
Uses what held =
    (used whole : List ℕ) → ended what (used ++ held) whole ≡ ended what used whole

agree-heard : (p : Port) (what : News) (held held' : Held)
    → ((q : Port) → held' q ≡ put p (fresh what (held p)) held q)
    → Uses what (held p)
    → (h : List Event) (q : Port) (b : Bool) → same p q ≡ b → (t : Passage)
    → Agrees h (held q) q t
    → Agrees (Told p what ∷ h) (held' q) q (bend b (after_news what) t)
agree-heard p what held held' is uses h q true e t a = record {
  came =
      subst
      (λ b. fresh what t.came ≡ (if b then fresh what (used q h) else used q h)
      ++ (if b then fresh what (held p) else held q)) (sym e)
      (ap (fresh what) (a.came ∙ ap (λ x. used q h ++ held x) (sym (same-is p q e)))
      ∙ fresh-append what (used q h) (held p))
      ∙ ap (λ x. used q (Told p what ∷ h) ++ x) (sym (is q));
  gone =
      subst (λ b. fresh what t.gone ≡ (if b then fresh what (taken q h) else taken q h)) (sym e)
      (ap (fresh what) a.gone);
  whole =
      subst
      (λ b. ended what t.came t.whole
      ≡ (if b then ended what (used q h) (used_whole q h) else used_whole q h)) (sym e)
      (ap (λ x. ended what x t.whole) a.came
      ∙ ap (λ x. ended what (used q h ++ held q) x) a.whole
      ∙ subst (λ x. Uses what (held x)) (same-is p q e) uses (used q h) (used_whole q h));
  said =
      subst (λ b. what ∷ t.said ≡ (if b then what ∷ told q h else told q h)) (sym e)
      (ap (λ x. what ∷ x) a.said);
}
agree-heard p what held held' is uses h q false e t a = record {
  came =
      subst
      (λ b. t.came ≡ (if b then fresh what (used q h) else used q h)
      ++ (if b then fresh what (held p) else held q)) (sym e) a.came
      ∙ ap (λ x. used q (Told p what ∷ h) ++ x) (sym (is q));
  gone =
      subst (λ b. t.gone ≡ (if b then fresh what (taken q h) else taken q h)) (sym e) a.gone;
  whole =
      subst (λ b. t.whole ≡ (if b then ended what (used q h) (used_whole q h) else used_whole q h))
      (sym e) a.whole;
  said = subst (λ b. t.said ≡ (if b then what ∷ told q h else told q h)) (sym e) a.said;
}

pub put-same : (p : Port) (bytes : List ℕ) (held : Held) → held p ≡ bytes
    → (q : Port) → put p bytes held q ≡ held q
put-same p bytes held is q = by (same p q) refl
  where
    by : (b : Bool) → same p q ≡ b → (if b then bytes else held q) ≡ held q
    by true e = sym is ∙ ap held (same-is p q e)
    by false e = refl

-- ---- one step each

pub goes-then : {M A : Type 0} {has : M → List Event → Type 0} {asked : M → A} {a b c : M} {x y z : Held}
    {old mid new : Trace} → GoesOn has asked a x old b y mid → GoesOn has asked b y mid c z new
    → GoesOn has asked a x old c z new
goes-then {M} {A} {has} {asked} {a} {b} {c} {x} {y} {z} {old} {mid} {new} one two = record {
  goes = λ h is agree.
      (let first = one.goes h is agree in
      let second = two.goes (first.0 ++ h) first.1 first.2 in
      let join = sym (append_assoc second.0 first.0 h) in (
        second.0 ++ first.0,
        subst (has c) join second.1,
        subst (λ k. AllAgree k z new) join second.2,
      ));
  known = λ p t e. (let first = one.known p t e in two.known p first.0 first.1);
  same = two.same ∙ one.same;
}

pub stays : {M A : Type 0} {has : M → List Event → Type 0} {asked : M → A} {m : M} {held held' : Held}
    {old new : Trace} → ((q : Port) → held' q ≡ held q) → Keeps old new
    → GoesOn has asked m held old m held' new
stays {M} {A} {has} {asked} {m} {held} {held'} {old} {new} same keeps = record {
  goes = λ h is agree. (
    [],
    is,
    λ q t e.
        subst (λ x. Agrees h x q t) (sym (same q)) (agree q t (sym (keeps q) ∙ e)),
  );
  known = λ q t e. (t, keeps q ∙ e);
  same = refl;
}

-- a change that is none
pub changes-none : (p : Port) (old new : Trace) → Changes p (λ t. t) old new → Keeps old new
changes-none p old new changes q = changes q ∙ by (same p q) (old q)
  where
    by : (b : Bool) (o : Option Passage) → changed b (λ t. t) o ≡ o
    by true None = refl
    by true (Some t) = refl
    by false o = refl

pub heard : {M A : Type 0} {has : M → List Event → Type 0} {asked : M → A} {m m' : M} {held held' : Held}
    {old new : Trace} (p : Port) (what : News)
    → ((q : Port) → held' q ≡ put p (fresh what (held p)) held q) → Uses what (held p)
    → Adds has asked m (Told p what) m' → Changes p (after_news what) old new
    → GoesOn has asked m held old m' held' new
heard {M} {A} {has} {asked} {m} {m'} {held} {held'} {old} {new} p what is uses adds changes =
    step p (Told p what) (after_news what) adds changes (agree-heard p what held held' is uses)

-- where nothing is held, all was used
pub uses-all : (what : News) {held : List ℕ} → held ≡ [] → Uses what held
uses-all what {held} none used whole =
    subst (λ x. ended what (used ++ x) whole ≡ ended what used whole) (sym none)
    (ap (λ x. ended what x whole) (append-nil used))

-- what doesn't open it keeps what is held
pub heard-put : {M A : Type 0} {has : M → List Event → Type 0} {asked : M → A} {m m' : M} {held : Held}
    {bytes : List ℕ} {old new : Trace} (p : Port) (what : News)
    → ((xs : List ℕ) → fresh what xs ≡ xs) → held p ≡ bytes → Uses what (held p)
    → Adds has asked m (Told p what) m' → Changes p (after_news what) old new
    → GoesOn has asked m held old m' (put p bytes held) new
heard-put {M} {A} {has} {asked} {m} {m'} {held} {bytes} {old} {new} p what keeps is uses adds changes =
    heard p what (λ q. ap (λ x. put p x held q) (sym is ∙ sym (keeps (held p)))) uses adds changes

pub heard-same : {M A : Type 0} {has : M → List Event → Type 0} {asked : M → A} {m m' : M} {held : Held}
    {old new : Trace} (p : Port) (what : News)
    → ((xs : List ℕ) → fresh what xs ≡ xs) → Uses what (held p)
    → Adds has asked m (Told p what) m' → Changes p (after_news what) old new
    → GoesOn has asked m held old m' held new
heard-same {M} {A} {has} {asked} {m} {m'} {held} {old} {new} p what keeps uses adds changes =
    heard p what (λ q. sym (put-same p (fresh what (held p)) held (sym (keeps (held p))) q)) uses
    adds changes

pub wrote : {M A : Type 0} {has : M → List Event → Type 0} {asked : M → A} {m m' : M} {held : Held}
    {old new : Trace} (p : Port) (n : ℕ) (bytes pends : List ℕ) → bytes ≡ pends
    → Adds has asked m (Took p (take n pends)) m'
    → Changes p (after_written (transfer.Bytes n) bytes) old new
    → GoesOn has asked m held old m' held new
wrote {M} {A} {has} {asked} {m} {m'} {held} {old} {new} p n bytes pends is adds changes =
    step p (Took p (take n pends)) (after_written (transfer.Bytes n) bytes) adds changes agree
  where
    agree : (h : List Event) (q : Port) (b : Bool) → same p q ≡ b → (t : Passage)
        → Agrees h (held q) q t
        → Agrees (Took p (take n pends) ∷ h) (held q) q
        (bend b (after_written (transfer.Bytes n) bytes) t)
    agree h q true e t a = record {
      came = a.came;
      gone =
          subst
          (λ b. t.gone ++ take n bytes ≡ (if b then taken q h ++ take n pends else taken q h))
          (sym e)
          (ap (λ x. x ++ take n bytes) a.gone ∙ ap (λ x. taken q h ++ take n x) is);
      whole = a.whole;
      said = a.said;
    }
    agree h q false e t a = record {
      came = a.came;
      gone =
          subst (λ b. t.gone ≡ (if b then taken q h ++ take n pends else taken q h)) (sym e) a.gone;
      whole = a.whole;
      said = a.said;
    }

pub gave : {M A : Type 0} {has : M → List Event → Type 0} {asked : M → A} {m m' : M} {held : Held}
    {trace : Trace} (p : Port) (bytes rest : List ℕ) → held p ≡ bytes ++ rest
    → Adds has asked m (Gave p bytes) m'
    → GoesOn has asked m held trace m' (put p rest held) trace
gave {M} {A} {has} {asked} {m} {m'} {held} {trace} p bytes rest is adds = record {
  goes = λ h had agree. (
    Gave p bytes ∷ [],
    adds.history h had,
    λ q t e. agrees h q (same p q) refl t (agree q t e),
  );
  known = λ q t e. (t, e);
  same = adds.same;
}
  where
    agrees : (h : List Event) (q : Port) (b : Bool) → same p q ≡ b → (t : Passage)
        → Agrees h (held q) q t → Agrees (Gave p bytes ∷ h) (put p rest held q) q t
    agrees h q true e t a = record {
      came =
          subst
          (λ b. t.came ≡ (if b then used q h ++ bytes else used q h)
          ++ (if b then rest else held q)) (sym e)
          (a.came ∙ ap (λ x. used q h ++ x) (ap held (sym (same-is p q e)) ∙ is)
          ∙ sym (append_assoc (used q h) bytes rest));
      gone = a.gone;
      whole = a.whole;
      said = a.said;
    }
    agrees h q false e t a = record {
      came =
          subst
          (λ b. t.came ≡ (if b then used q h ++ bytes else used q h)
          ++ (if b then rest else held q)) (sym e) a.came;
      gone = a.gone;
      whole = a.whole;
      said = a.said;
    }

-- a read, where nothing was held
pub got : {M A : Type 0} {has : M → List Event → Type 0} {asked : M → A} {m : M} {held : Held}
    {old new : Trace} (p : Port) (n : ℕ) (space : List ℕ) → held p ≡ []
    → Changes p (after_read (transfer.Bytes n) space) old new
    → GoesOn has asked m held old m (put p (take n space) held) new
got {M} {A} {has} {asked} {m} {held} {old} {new} p n space none changes = record {
  goes = λ h had agree. (
    [],
    had,
    λ q t' e.
        (let change = after_read (transfer.Bytes n) space in
        let from = changed-from (same p q) change (old q) t' (sym (changes q) ∙ e) in
        subst (Agrees h (put p (take n space) held q) q) from.2
        (agrees h q (same p q) refl from.0 (agree q from.0 from.1))),
  );
  known = λ q t e. (
    bend (same p q) (after_read (transfer.Bytes n) space) t,
    changes q ∙ ap (changed (same p q) (after_read (transfer.Bytes n) space)) e
        ∙ changed-of (same p q) (after_read (transfer.Bytes n) space) t,
  );
  same = refl;
}
  where
    agrees : (h : List Event) (q : Port) (b : Bool) → same p q ≡ b → (t : Passage)
        → Agrees h (held q) q t
        → Agrees h (put p (take n space) held q) q
        (bend b (after_read (transfer.Bytes n) space) t)
    agrees h q true e t a = record {
      came =
          subst (λ b. t.came ++ take n space ≡ used q h ++ (if b then take n space else held q))
          (sym e)
          (ap (λ x. x ++ take n space)
          (a.came ∙ ap (λ x. used q h ++ x) (ap held (sym (same-is p q e)) ∙ none)
          ∙ append-nil (used q h)));
      gone = a.gone;
      whole = a.whole;
      said = a.said;
    }
    agrees h q false e t a = record {
      came =
          subst (λ b. t.came ≡ used q h ++ (if b then take n space else held q)) (sym e) a.came;
      gone = a.gone;
      whole = a.whole;
      said = a.said;
    }

pub timed : {M A : Type 0} {has : M → List Event → Type 0} {asked : M → A} {m m' : M} {held : Held}
    {trace : Trace} (now : ℕ) → Adds has asked m (Passed now) m' → GoesOn has asked m held trace m' held trace
timed {M} {A} {has} {asked} {m} {m'} {held} {trace} now adds = record {
  goes = λ h had agree. (
    Passed now ∷ [],
    adds.history h had,
    λ q t e. (let a = agree q t e in record {
      came = a.came;
      gone = a.gone;
      whole = a.whole;
      said = a.said;
    }),
  );
  known = λ q t e. (t, e);
  same = adds.same;
}

pub shut : {M A : Type 0} {has : M → List Event → Type 0} {asked : M → A} {m m' : M} {held : Held}
    {trace : Trace} (p : Port) → Adds has asked m (Shut p) m' → GoesOn has asked m held trace m' held trace
shut {M} {A} {has} {asked} {m} {m'} {held} {trace} p adds = record {
  goes = λ h had agree. (
    Shut p ∷ [],
    adds.history h had,
    λ q t e. (let a = agree q t e in record {
      came = a.came;
      gone = a.gone;
      whole = a.whole;
      said = a.said;
    }),
  );
  known = λ q t e. (t, e);
  same = adds.same;
}

pub left : {M A : Type 0} {has : M → List Event → Type 0} {asked : M → A} {m m' : M} {held : Held}
    {trace : Trace} (p : Port) → Adds has asked m (Left p) m' → GoesOn has asked m held trace m' held trace
left {M} {A} {has} {asked} {m} {m'} {held} {trace} p adds = record {
  goes = λ h had agree. (
    Left p ∷ [],
    adds.history h had,
    λ q t e. (let a = agree q t e in record {
      came = a.came;
      gone = a.gone;
      whole = a.whole;
      said = a.said;
    }),
  );
  known = λ q t e. (t, e);
  same = adds.same;
}

pub stopped : {M A : Type 0} {has : M → List Event → Type 0} {asked : M → A} {m m' : M} {held : Held}
    {trace : Trace} → Adds has asked m Stopped m' → GoesOn has asked m held trace m' held trace
stopped {M} {A} {has} {asked} {m} {m'} {held} {trace} adds = record {
  goes = λ h had agree. (
    Stopped ∷ [],
    adds.history h had,
    λ q t e. (let a = agree q t e in record {
      came = a.came;
      gone = a.gone;
      whole = a.whole;
      said = a.said;
    }),
  );
  known = λ q t e. (t, e);
  same = adds.same;
}

pub rested : {M A : Type 0} {has : M → List Event → Type 0} {asked : M → A} {m m' : M} {held : Held}
    {trace : Trace} → Adds has asked m Rested m' → GoesOn has asked m held trace m' held trace
rested {M} {A} {has} {asked} {m} {m'} {held} {trace} adds = record {
  goes = λ h had agree. (
    Rested ∷ [],
    adds.history h had,
    λ q t e. (let a = agree q t e in record {
      came = a.came;
      gone = a.gone;
      whole = a.whole;
      said = a.said;
    }),
  );
  known = λ q t e. (t, e);
  same = adds.same;
}

put-at : (p : Port) (bytes : List ℕ) (held : Held) → put p bytes held p ≡ bytes
put-at Input bytes held = refl
put-at Output bytes held = refl
put-at Errors bytes held = refl
put-at First bytes held = refl
put-at Second bytes held = refl

put-put : (p : Port) (one two : List ℕ) (held : Held) (q : Port)
    → put p two held q ≡ put p two (put p one held) q
put-put p one two held q = by (same p q)
  where
    by : (b : Bool) → (if b then two else held q)
        ≡ (if b then two else (if b then one else held q))
    by true = refl
    by false = refl

-- a read, and then a gift of what it read
pub got-given : {M A : Type 0} {has : M → List Event → Type 0} {asked : M → A} {m m' : M} {held : Held}
    {old new : Trace} (p : Port) (n : ℕ) (space chunk rest : List ℕ)
    → chunk ≡ take n space → held p ≡ []
    → Changes p (after_read (transfer.Bytes n) space) old new
    → ((trace : Trace) (held : Held) → held p ≡ chunk
    → GoesOn has asked m held trace m' (put p rest held) trace)
    → GoesOn has asked m held old m' (put p rest held) new
got-given {M} {A} {has} {asked} {m} {m'} {held} {old} {new} p n space chunk rest is none changes gives =
    let came = put p (take n space) held in
    goes-then (got p n space none changes)
    (goes-then (gives new came (put-at p (take n space) held ∙ sym is))
    (stays (put-put p (take n space) rest held) (λ q. refl)))

pub all-put : (b : Buffers) (input output errors first second : List ℕ) (q : Port)
    → held_of (record {
      input = input;
      output = output;
      errors = errors;
      first = first;
      second = second;
    }) q
    ≡ put Second second (put First first (put Errors errors (put Output output
    (put Input input (held_of b))))) q
all-put b input output errors first second Input = refl
all-put b input output errors first second Output = refl
all-put b input output errors first second Errors = refl
all-put b input output errors first second First = refl
all-put b input output errors first second Second = refl

-- devices of which the same is known
pub goes-known : {M A : Type 0} {has : M → List Event → Type 0} {asked : M → A} {m m' : M} {held held' : Held}
    {old new newer : Trace} → GoesOn has asked m held old m' held' new → Keeps new newer
    → GoesOn has asked m held old m' held' newer
goes-known {M} {A} {has} {asked} {m} {m'} {held} {held'} {old} {new} {newer} goes keeps =
    goes-then goes (stays (λ q. refl) keeps)

-- one more gift
pub given-again : {M A : Type 0} {has : M → List Event → Type 0} {asked : M → A} {a b c : M} {held : Held}
    {trace : Trace} (p : Port) (chunk rest : List ℕ)
    → GoesOn has asked a held trace b (put p chunk held) trace
    → ((held : Held) → held p ≡ chunk → GoesOn has asked b held trace c (put p rest held) trace)
    → GoesOn has asked a held trace c (put p rest held) trace
given-again {M} {A} {has} {asked} {a} {b} {c} {held} {trace} p chunk rest before gives =
    goes-then before
    (goes-then (gives (put p chunk held) (put-at p chunk held))
    (stays (put-put p chunk rest held) (λ q. refl)))
