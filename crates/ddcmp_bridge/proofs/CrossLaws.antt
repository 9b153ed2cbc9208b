-- A bridge agrees with its history, whatever is added to it.
use Rattle.std.proofs.Common.{◌≡◌, ◌∙◌, ℕ, zero, suc, ◌≤◌, List, [], ◌∷◌, ◌++◌, length, refl, Bool}
use Rattle.std.proofs.Common.{ap, sym, subst, take, arith, true, false, Option, None, Some, Result, Ok}
use Rattle.std.specs.Prelude.{if◌then◌else◌, nat_le, is_none, is_some, ◌&&◌, ◌*◌}
use Rattle.std.proofs.lemmas.List.{take-append-le}
use Rattle.rand_pcg.specs.Lcg.{Lcg}
use Rattle.ddcmp_ports.specs.declared.port.Down.{Down}
use Rattle.ddcmp_ports.specs.declared.port.Need.TheVariants as need
use Rattle.ddcmp_ports.specs.declared.port.Port.{Port}
use Rattle.ddcmp_ports.specs.declared.port.Port.TheVariants.{First, Second}
use Rattle.ddcmp_ports.specs.Running.{Event, Gave, Left, Passage, Took, taken, used}
use Rattle.ddcmp_bridge.specs.declared.bridge.Bridge.{Bridge}
use Rattle.ddcmp_bridge.specs.declared.bridge.BridgeEnd.{BridgeEnd}
use Rattle.ddcmp_bridge.specs.declared.counts.Counts.{Counts}
use Rattle.ddcmp_bridge.specs.Crossing.{Counted, EndsAs}
use Rattle.ddcmp_ports.specs.declared.fault.OpenFault.{OpenFault}
use Rattle.ddcmp_bridge.specs.declared.bridge.Phase.{Phase}
use Rattle.ddcmp_bridge.specs.declared.bridge.Phase.TheVariants as phase
use Rattle.ddcmp_bridge.specs.declared.line.Stage.{Stage}
use Rattle.ddcmp_bridge.specs.declared.line.Stage.TheVariants as stage
use Rattle.ddcmp_bridge.specs.Crossing.{Carries, CrossView, CrossesAs, LineState, Uses, is_joined}
use Rattle.ddcmp_bridge.specs.Crossing.{is_opening}
use Rattle.ddcmp_bridge.specs.Crossing.{is_left, is_printing, passes_to}
use Rattle.ddcmp_bridge.specs.declared.line.BridgeLine.{BridgeLine}
use Rattle.ddcmp_bridge.specs.Crossing.{joined, need_to_leave, needs_of_first, needs_of_second}
use Rattle.ddcmp_bridge.specs.Delaying.{DirectionView, Directs, Frames, bytes_of, due_at}
use Rattle.ddcmp_bridge.specs.Faults.{start_of}
use Rattle.ddcmp_bridge.specs.Crossing.{PassesOn, view_of}
use Rattle.ddcmp_bridge.specs.Relaying.{passed_on}
use Rattle.ddcmp_bridge.proofs.JoinLaws.{directs-begins}

joined-off : (b : Bool) → b ≡ false → (xs : List ℕ) → joined b xs ≡ []
joined-off b e xs = subst (λ b. joined b xs ≡ []) (sym e) refl

joined-on : (b : Bool) → b ≡ true → (xs : List ℕ) → joined b xs ≡ xs
joined-on b e xs = subst (λ b. joined b xs ≡ xs) (sym e) refl

-- one way of lines that weren't both open yet
pub carries-nothing : (c : CrossView) (number : ℕ) (d : DirectionView) (came taken : List ℕ)
    (start : Lcg) → c.was_joined ≡ false → Directs start d [] []
    → (c.has_reopened ≡ false → start ≡ start_of c.options.faults.seed number)
    → d.relay.faults ≡ c.options.faults → d.delay ≡ c.options.delay_ms
    → Carries c number d came taken
carries-nothing c number d came taken start off directs begins faults delay = record {
  start = start;
  begins = begins;
  directs =
      subst (λ x. Directs start d x (joined c.was_joined taken))
      (sym (joined-off c.was_joined off came))
      (subst (λ x. Directs start d [] x) (sym (joined-off c.was_joined off taken)) directs);
  faults = faults;
  delay = delay;
}

-- one way once both lines were open
pub carries-on : (c e : CrossView) (number : ℕ) (d f : DirectionView)
    (came taken more gone : List ℕ) → c.was_joined ≡ true → e.was_joined ≡ true
    → e.has_reopened ≡ c.has_reopened → e.options ≡ c.options
    → ((start : Lcg) → Directs start d came taken → Directs start f more gone)
    → f.relay.faults ≡ d.relay.faults → f.delay ≡ d.delay
    → Carries c number d came taken → Carries e number f more gone
carries-on c e number d f came taken more gone on still same options goes faults delay k = record {
  start = k.start;
  begins = λ is.
      k.begins (sym same ∙ is) ∙ ap (λ o. start_of o.faults.seed number) (sym options);
  directs =
      subst (λ x. Directs k.start f x (joined e.was_joined gone))
      (sym (joined-on e.was_joined still more))
      (subst (λ x. Directs k.start f more x) (sym (joined-on e.was_joined still gone))
      (goes k.start
      (subst (λ x. Directs k.start d x taken) (joined-on c.was_joined on came)
      (subst (λ x. Directs k.start d (joined c.was_joined came) x)
      (joined-on c.was_joined on taken) k.directs))));
  faults = faults ∙ k.faults ∙ ap (λ o. o.faults) (sym options);
  delay = delay ∙ k.delay ∙ ap (λ o. o.delay_ms) (sym options);
}

true-false : {b : Bool} → b ≡ true → b ≡ false → ⊥
true-false e f = cc

none-some : {A : Type 0} (o : Option A) → is_none o ≡ true → is_some o ≡ true → ⊥
none-some None e f = cc
none-some (Some x) e f = cc

-- ---- what is added to a history

joined-left : (p : Phase) → is_joined p ≡ true → is_left p ≡ true → ⊥
joined-left phase.Joined e f = cc
joined-left phase.ListenFirst e f = cc
joined-left phase.ListenSecond e f = cc
joined-left phase.OpenFirst e f = cc
joined-left phase.OpenSecond e f = cc
joined-left phase.Leaving e f = cc
joined-left phase.Printing e f = cc

joined-printing : (p : Phase) → is_joined p ≡ true → is_printing p ≡ true → ⊥
joined-printing phase.Joined e f = cc
joined-printing phase.ListenFirst e f = cc
joined-printing phase.ListenSecond e f = cc
joined-printing phase.OpenFirst e f = cc
joined-printing phase.OpenSecond e f = cc
joined-printing phase.Leaving e f = cc
joined-printing phase.Printing e f = cc

-- it hasn't ended
pub ends-not : {ended : Option (Result BridgeEnd OpenFault)} {now : Phase} {x y : Counts}
    {d e : DirectionView} → (is_some ended ≡ true → ⊥) → EndsAs ended now x y d e
ends-not {ended} {now} {x} {y} {d} {e} not = record {
  printed = λ is. absurd (not is);
  one = λ end is. absurd (not (subst (λ o. is_some o ≡ true) (sym is) refl));
  other = λ end is. absurd (not (subst (λ o. is_some o ≡ true) (sym is) refl));
}

-- lines that weren't both open yet
pub crosses-nothing : (c : CrossView) (h : List Event) (there back : Lcg) → c.was_joined ≡ false
    → is_joined c.phase ≡ false → is_left c.phase ≡ false
    → c.ends_at ≡ 1000 * c.options.seconds → (is_some c.ended ≡ true → ⊥)
    → Directs there c.there [] [] → Directs back c.back [] []
    → (c.has_reopened ≡ false → there ≡ start_of c.options.faults.seed 0)
    → (c.has_reopened ≡ false → back ≡ start_of c.options.faults.seed 1)
    → (c.has_reopened ≡ true → c.options.again ≡ true)
    → c.there.relay.faults ≡ c.options.faults → c.back.relay.faults ≡ c.options.faults
    → c.there.delay ≡ c.options.delay_ms → c.back.delay ≡ c.options.delay_ms
    → Uses c.was_joined c.first First h → Uses c.was_joined c.second Second h → CrossesAs c h
crosses-nothing c h there back off passes here ends goes one two begins starts again faults others
    delay late first second =
    record {
      there = carries-nothing c 0 c.there _ _ there off one begins faults delay;
      back = carries-nothing c 1 c.back _ _ back off two starts others late;
      again = again;
      first = first;
      second = second;
      fits = record {
        joined = λ is. absurd (true-false is passes);
        opening = λ is. off;
      };
      left = λ is. absurd (true-false is here);
      limit = λ is. ends;
      ends = ends-not goes;
    }

-- a line that is closed
pub closed-uses : (b : Bool) (line : LineState) (p : Port) (h : List Event)
    → line.stage ≡ stage.Closed → line.over ≡ None → Uses b line p h
closed-uses b line p h closed up = record {
  came = λ off stays. absurd (open-closed stays closed);
  gone = λ off stays. absurd (open-closed stays closed);
  whole = λ over fine. absurd (is-up line.over up over);
}
  where
    open-closed : line.stage ≡ stage.Open → line.stage ≡ stage.Closed → ⊥
    open-closed e f = cc

    is-up : (o : Option Down) → o ≡ None → is_some o ≡ true → ⊥
    is-up None e f = cc
    is-up (Some x) e f = cc

both : (a b : Bool) → (a && b) ≡ true → a ≡ true
both true b e = refl
both false b e = cc

pub passes-joined : (p : Phase) (line : BridgeLine) → passes_to p line ≡ true → is_joined p ≡ true
passes-joined p line e = both (is_joined p) (is_none line.broken) e

pub leaving : {p : Phase} → p ≡ phase.Leaving → is_printing p ≡ false
leaving e = subst (λ p. is_printing p ≡ false) (sym e) refl

pub leaving-left : {p : Phase} → p ≡ phase.Leaving → is_left p ≡ true
leaving-left e = subst (λ p. is_left p ≡ true) (sym e) refl

pub not-ended : (o : Option (Result BridgeEnd OpenFault)) → o ≡ None → is_some o ≡ true → ⊥
not-ended None e f = cc
not-ended (Some x) e f = cc

pub reopened : {b : Bool} → b ≡ true → b ≡ false → ⊥
reopened e f = cc

-- it ends
pub crosses-ended : (c : CrossView) (ended : Option (Result BridgeEnd OpenFault)) (h : List Event)
    → is_printing c.phase ≡ true
    → ((end : BridgeEnd) → ended ≡ Some (Ok end) → Counted c.earlier_there c.there end.there)
    → ((end : BridgeEnd) → ended ≡ Some (Ok end) → Counted c.earlier_back c.back end.back)
    → CrossesAs c h → CrossesAs (record c { ended = ended }) h
crosses-ended c ended h prints there back k = record {
  there = record {
    start = k.there.start;
    begins = k.there.begins;
    directs = k.there.directs;
    faults = k.there.faults;
    delay = k.there.delay;
  };
  back = record {
    start = k.back.start;
    begins = k.back.begins;
    directs = k.back.directs;
    faults = k.back.faults;
    delay = k.back.delay;
  };
  first = k.first;
  second = k.second;
  again = k.again;
  fits = k.fits;
  left = k.left;
  limit = k.limit;
  ends = record { printed = λ is. prints; one = there; other = back };
}

pub printing : {p : Phase} → p ≡ phase.Printing → is_printing p ≡ true
printing e = subst (λ p. is_printing p ≡ true) (sym e) refl

pub closed-first : (c : CrossView) (h : List Event) → CrossesAs c h
    → CrossesAs (record c { first = record c.first { stage = stage.Closed } }) (Left First ∷ h)
closed-first c h k = record {
  there = record {
    start = k.there.start;
    begins = k.there.begins;
    directs = k.there.directs;
    faults = k.there.faults;
    delay = k.there.delay;
  };
  back = record {
    start = k.back.start;
    begins = k.back.begins;
    directs = k.back.directs;
    faults = k.back.faults;
    delay = k.back.delay;
  };
  first = record {
    came = λ off stays. absurd (shuts stays);
    gone = λ off stays. absurd (shuts stays);
    whole = k.first.whole;
  };
  second = record { came = k.second.came; gone = k.second.gone; whole = k.second.whole };
  again = k.again;
  fits = k.fits;
  left = k.left;
  limit = k.limit;
  ends = k.ends;
}
  where
    shuts : stage.Closed ≡ stage.Open → ⊥
    shuts e = cc

pub closed-second : (c : CrossView) (h : List Event) → CrossesAs c h
    → CrossesAs (record c { second = record c.second { stage = stage.Closed } }) (Left Second ∷ h)
closed-second c h k = record {
  there = record {
    start = k.there.start;
    begins = k.there.begins;
    directs = k.there.directs;
    faults = k.there.faults;
    delay = k.there.delay;
  };
  back = record {
    start = k.back.start;
    begins = k.back.begins;
    directs = k.back.directs;
    faults = k.back.faults;
    delay = k.back.delay;
  };
  second = record {
    came = λ off stays. absurd (shuts stays);
    gone = λ off stays. absurd (shuts stays);
    whole = k.second.whole;
  };
  first = record { came = k.first.came; gone = k.first.gone; whole = k.first.whole };
  again = k.again;
  fits = k.fits;
  left = k.left;
  limit = k.limit;
  ends = k.ends;
}
  where
    shuts : stage.Closed ≡ stage.Open → ⊥
    shuts e = cc

pub gave-first : (c : CrossView) (d : DirectionView) (bytes : List ℕ) (h : List Event)
    → is_joined c.phase ≡ true → is_none c.first.over ≡ true
    → ((start : Lcg) (came taken : List ℕ) → Directs start c.there came taken
    → Directs start d (came ++ bytes) taken)
    → d.relay.faults ≡ c.there.relay.faults → d.delay ≡ c.there.delay
    → CrossesAs c h → CrossesAs (record c { there = d }) (Gave First bytes ∷ h)
gave-first c d bytes h passes up goes faults delay k =
    let on = k.fits.joined passes in
    record {
      there =
          carries-on c (record c { there = d }) 0 c.there d (used First h) (taken Second h)
          (used First h ++ bytes) (taken Second h) on on refl refl
          (λ start is. goes start (used First h) (taken Second h) is) faults delay k.there;
      back = record {
        start = k.back.start;
        begins = k.back.begins;
        directs = k.back.directs;
        faults = k.back.faults;
        delay = k.back.delay;
      };
      first = record {
        came = λ off stays. absurd (true-false on off);
        gone = k.first.gone;
        whole = λ over fine. absurd (none-some c.first.over up over);
      };
      second = record {
        came = k.second.came;
        gone = k.second.gone;
        whole = k.second.whole;
      };
      again = k.again;
      fits = k.fits;
      left = λ is. absurd (joined-left c.phase passes is);
      limit = k.limit;
      ends = ends-not (λ is. joined-printing c.phase passes (k.ends.printed is));
    }

pub gave-second : (c : CrossView) (d : DirectionView) (bytes : List ℕ) (h : List Event)
    → is_joined c.phase ≡ true → is_none c.second.over ≡ true
    → ((start : Lcg) (came taken : List ℕ) → Directs start c.back came taken
    → Directs start d (came ++ bytes) taken)
    → d.relay.faults ≡ c.back.relay.faults → d.delay ≡ c.back.delay
    → CrossesAs c h → CrossesAs (record c { back = d }) (Gave Second bytes ∷ h)
gave-second c d bytes h passes up goes faults delay k =
    let on = k.fits.joined passes in
    record {
      there = record {
        start = k.there.start;
        begins = k.there.begins;
        directs = k.there.directs;
        faults = k.there.faults;
        delay = k.there.delay;
      };
      back =
          carries-on c (record c { back = d }) 1 c.back d (used Second h) (taken First h)
          (used Second h ++ bytes) (taken First h) on on refl refl
          (λ start is. goes start (used Second h) (taken First h) is) faults delay k.back;
      first = record {
        came = k.first.came;
        gone = k.first.gone;
        whole = k.first.whole;
      };
      second = record {
        came = λ off stays. absurd (true-false on off);
        gone = k.second.gone;
        whole = λ over fine. absurd (none-some c.second.over up over);
      };
      again = k.again;
      fits = k.fits;
      left = λ is. absurd (joined-left c.phase passes is);
      limit = k.limit;
      ends = ends-not (λ is. joined-printing c.phase passes (k.ends.printed is));
    }

pub took-first : (c : CrossView) (d : DirectionView) (bytes : List ℕ) (h : List Event)
    → is_joined c.phase ≡ true
    → ((start : Lcg) (came taken : List ℕ) → Directs start c.back came taken
    → Directs start d came (taken ++ bytes))
    → d.relay.faults ≡ c.back.relay.faults → d.delay ≡ c.back.delay
    → CrossesAs c h → CrossesAs (record c { back = d }) (Took First bytes ∷ h)
took-first c d bytes h passes goes faults delay k =
    let on = k.fits.joined passes in
    record {
      there = record {
        start = k.there.start;
        begins = k.there.begins;
        directs = k.there.directs;
        faults = k.there.faults;
        delay = k.there.delay;
      };
      back =
          carries-on c (record c { back = d }) 1 c.back d (used Second h) (taken First h)
          (used Second h) (taken First h ++ bytes) on on refl refl
          (λ start is. goes start (used Second h) (taken First h) is) faults delay k.back;
      first = record {
        came = k.first.came;
        gone = λ off stays. absurd (true-false on off);
        whole = k.first.whole;
      };
      second = record {
        came = k.second.came;
        gone = k.second.gone;
        whole = k.second.whole;
      };
      again = k.again;
      fits = k.fits;
      left = λ is. absurd (joined-left c.phase passes is);
      limit = k.limit;
      ends = ends-not (λ is. joined-printing c.phase passes (k.ends.printed is));
    }

pub took-second : (c : CrossView) (d : DirectionView) (bytes : List ℕ) (h : List Event)
    → is_joined c.phase ≡ true
    → ((start : Lcg) (came taken : List ℕ) → Directs start c.there came taken
    → Directs start d came (taken ++ bytes))
    → d.relay.faults ≡ c.there.relay.faults → d.delay ≡ c.there.delay
    → CrossesAs c h → CrossesAs (record c { there = d }) (Took Second bytes ∷ h)
took-second c d bytes h passes goes faults delay k =
    let on = k.fits.joined passes in
    record {
      there =
          carries-on c (record c { there = d }) 0 c.there d (used First h) (taken Second h)
          (used First h) (taken Second h ++ bytes) on on refl refl
          (λ start is. goes start (used First h) (taken Second h) is) faults delay k.there;
      back = record {
        start = k.back.start;
        begins = k.back.begins;
        directs = k.back.directs;
        faults = k.back.faults;
        delay = k.back.delay;
      };
      first = record {
        came = k.first.came;
        gone = k.first.gone;
        whole = k.first.whole;
      };
      second = record {
        came = k.second.came;
        gone = λ off stays. absurd (true-false on off);
        whole = k.second.whole;
      };
      again = k.again;
      fits = k.fits;
      left = λ is. absurd (joined-left c.phase passes is);
      limit = k.limit;
      ends = ends-not (λ is. joined-printing c.phase passes (k.ends.printed is));
    }

-- what is due is the front of what is held
pub due-front : (now : ℕ) (held : Frames) (n : ℕ) → n ≤ length (due_at now held)
    → take n (bytes_of held) ≡ take n (due_at now held)
unfolding bytes_of
due-front now [] n l = refl
due-front now (frame ∷ rest) n l = by (nat_le frame.0 now) l where
  by : (b : Bool) → n ≤ length (if b then frame.1 else [])
      → take n (frame.1 ++ bytes_of rest) ≡ take n (if b then frame.1 else [])
  by true l = take-append-le n frame.1 (bytes_of rest) l
  by false l = none n l
    where
      none : (n : ℕ) → n ≤ 0 → take n (frame.1 ++ bytes_of rest) ≡ take n []
      none zero l = refl
      none (suc n) l = absurd (omega (arith, l))

-- ---- a line is opened only while it is being opened

need-none : (b : Bool) → (if b then need.Bytes else need.Nothing) ≡ need.Opening → ⊥
need-none true e = cc
need-none false e = cc

leave-none : (s t : Stage) → need_to_leave s t ≡ need.Opening → ⊥
leave-none stage.Open t e = cc
leave-none stage.Shut stage.Open e = cc
leave-none stage.Shut stage.Shut e = cc
leave-none stage.Shut stage.Closed e = cc
leave-none stage.Closed t e = cc

pub opening-first : (p : Phase) (b : Bridge) → needs_of_first p b ≡ need.Opening
    → is_opening p ≡ true
opening-first phase.ListenFirst b e = refl
opening-first phase.OpenFirst b e = refl
opening-first phase.ListenSecond b e = refl
opening-first phase.OpenSecond b e = refl
opening-first phase.Joined b e = absurd (need-none _ e)
opening-first phase.Leaving b e = absurd (leave-none _ _ e)
opening-first phase.Printing b e = cc

pub opening-second : (p : Phase) (b : Bridge) → needs_of_second p b ≡ need.Opening
    → is_opening p ≡ true
opening-second phase.ListenFirst b e = refl
opening-second phase.OpenFirst b e = refl
opening-second phase.ListenSecond b e = refl
opening-second phase.OpenSecond b e = refl
opening-second phase.Joined b e = absurd (need-none _ e)
opening-second phase.Leaving b e = absurd (leave-none _ _ e)
opening-second phase.Printing b e = cc

-- ---- bytes are needed of a line only while frames are passed on, until it ends

open-none : (b : Bool) → (if b then need.Nothing else need.Opening) ≡ need.Bytes → ⊥
open-none true e = cc
open-none false e = cc

leave-bytes : (s t : Stage) → need_to_leave s t ≡ need.Bytes → ⊥
leave-bytes stage.Open t e = cc
leave-bytes stage.Shut stage.Open e = cc
leave-bytes stage.Shut stage.Shut e = cc
leave-bytes stage.Shut stage.Closed e = cc
leave-bytes stage.Closed t e = cc

both-true : (a b : Bool) → (if a && b then need.Bytes else need.Nothing) ≡ need.Bytes → a ≡ true
both-true true b e = refl
both-true false b e = cc

nothing-bytes : need.Nothing ≡ need.Bytes → ⊥
nothing-bytes e = cc

pub bytes-first : (p : Phase) (b : Bridge) → needs_of_first p b ≡ need.Bytes
    → (is_joined p ≡ true) × (is_none b.first.over ≡ true)
bytes-first phase.Joined b e = (refl, both-true (is_none b.first.over) _ e)
bytes-first phase.ListenFirst b e = absurd (open-none _ e)
bytes-first phase.OpenFirst b e = absurd (open-none _ e)
bytes-first phase.Leaving b e = absurd (leave-bytes _ _ e)
bytes-first phase.ListenSecond b e = absurd (nothing-bytes e)
bytes-first phase.OpenSecond b e = absurd (nothing-bytes e)
bytes-first phase.Printing b e = absurd (nothing-bytes e)

pub bytes-second : (p : Phase) (b : Bridge) → needs_of_second p b ≡ need.Bytes
    → (is_joined p ≡ true) × (is_none b.second.over ≡ true)
bytes-second phase.Joined b e = (refl, both-true (is_none b.second.over) _ e)
bytes-second phase.ListenSecond b e = absurd (open-none _ e)
bytes-second phase.OpenSecond b e = absurd (open-none _ e)
bytes-second phase.Leaving b e = absurd (leave-bytes _ _ e)
bytes-second phase.ListenFirst b e = absurd (nothing-bytes e)
bytes-second phase.OpenFirst b e = absurd (nothing-bytes e)
bytes-second phase.Printing b e = absurd (nothing-bytes e)

-- what is passed on over lines of which all that passed is known
pub passes-on : (b : Bridge) (number : ℕ) (d : DirectionView) (used taken held : List ℕ)
    (one two : Passage) → b.was_joined ≡ true → Carries (view_of b) number d used taken
    → one.came ≡ used ++ held → two.gone ≡ taken → PassesOn b number one two
passes-on b number d used taken held one two on k came gone =
    let directs =
    subst (λ x. Directs k.start d x taken) (joined-on b.was_joined on used)
    (subst (λ x. Directs k.start d (joined b.was_joined used) x) (joined-on b.was_joined on taken)
    k.directs) in
    let more = directs-begins k.start d used held taken directs in
    record {
      start = k.start;
      begins = k.begins;
      front = record {
        rest = more.0;
        is =
            ap (λ f. passed_on f k.start one.came) (sym k.faults)
            ∙ ap (passed_on d.relay.faults k.start) came
            ∙ more.1
            ∙ ap (λ g. g ++ more.0) (sym gone);
      };
    }
