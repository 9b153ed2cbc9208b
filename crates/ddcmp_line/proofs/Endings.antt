-- What the results of a script say.
use Rattle.std.proofs.Common.{inl, inr, ◌<◌, arith, length-append, ◌≡◌, ◌≢◌, ℕ, ◌+◌, Bool, true}
use Rattle.std.proofs.Common.{false, List, [], ◌∷◌, ◌++◌, length, take, refl, sym, ap, subst, ◌∙◌}
use Rattle.std.proofs.Common.{Option, Some, None, Result, Ok, Err}
use Rattle.std.specs.Prelude.{◌↔◌, ◌⊎◌, ◌-◌, ◌^◌, IsOk, IsTrue}
use Rattle.std.specs.Io.KnownBytes.{Appends, Consumes, IsAtEnd, Keeps}
use Rattle.std.proofs.KnownBytes.{Appends-nil}
use Rattle.std.proofs.lemmas.List.{append-nil}
use Rattle.ddcmp_io.specs.Input.{GaveMost}
use Rattle.ddcmp_io.specs.declared.device.Worst.{Worst}
use Rattle.ddcmp_io.specs.declared.device.Worst.TheVariants as worst
use Rattle.ddcmp_io.specs.declared.device.Got.{Got}
use Rattle.ddcmp_io.specs.declared.device.Got.TheVariants.{Bytes, Idle, Failed}
use Rattle.ddcmp_io.specs.Device.{ReadGives}
use Rattle.ddcmp_io.proofs.Inputs.{read-all, Read as Counts}
use Rattle.ddcmp_io.specs.Written.{Known, Output, HoldsBy, Holds, HandsOver, AppendsPart}
use Rattle.ddcmp_io.proofs.WrittenLaws.{sends-then, part-append}
use Rattle.ddcmp_pair.specs.Run.{PairState}
use Rattle.ddcmp_line.specs.declared.command.ParsedLine.{ParsedLine}
use Rattle.ddcmp_line.specs.declared.performer.Undone.{Undone}
use Rattle.ddcmp_line.specs.declared.performer.Undone.TheVariants as stop
use Rattle.ddcmp_line.specs.declared.script_fault.ScriptFault.{ScriptFault}
use Rattle.ddcmp_line.specs.declared.script_fault.ScriptFault.TheVariants.{Line, Hex, Read}
use Rattle.ddcmp_line.specs.declared.script_fault.ScriptFault.TheVariants.{Write, Memory}
use Rattle.ddcmp_line.specs.declared.script_fault.ScriptFault.TheVariants.{Carrier}
use Rattle.ddcmp_line.specs.ScriptWords.{lines_of}
use Rattle.ddcmp_line.specs.ScriptText.{closing_text}
use Rattle.ddcmp_io.specs.Carriages.{Carriage}
use Rattle.ddcmp_line.specs.Script.{Between, AllFit, nothing_between, after_lines, text_of_lines}
use Rattle.ddcmp_line.specs.Script.{carriages_of_lines, IsScriptLine, lines_done}
use Rattle.ddcmp_line.specs.ScriptEnds.{text_then, Around, around, PausedBefore, StoppedAt}
use Rattle.ddcmp_line.specs.ScriptEnds.{Broken, text_behind, Plays}
use Rattle.ddcmp_line.specs.Inside.ScriptProgress.{HasDone, HasDoneAll, Stops, course, fresh}
use Rattle.ddcmp_line.specs.Inside.ScriptProgress.{played}
use Rattle.ddcmp_io.proofs.TextLaws.{sends-nothing}
use Rattle.ddcmp_line.proofs.Scenes.{carries-nothing}
use Rattle.ddcmp_line.proofs.Playing.{sends-more, nothing-of-next}

-- ---- what was written since the sink was fresh

begun : (sink : Known) → Holds sink [] (fresh sink)
begun sink = ([], Appends-nil sink, refl)

pub wrote-all : (sink : Known) (o : Output) (text : List ℕ) → HandsOver (fresh sink) o text
    → o.broken ≡ false → o.waiting ≡ [] → Appends sink o.sink text
wrote-all sink o text h whole empty =
    let held =
    subst (λ b. HoldsBy b sink o.sink o.waiting text) whole (h.holds sink [] (begun sink)) in
    subst (Appends sink o.sink) (sym (held.2 ∙ ap (λ w. held.0 ++ w) empty ∙ append-nil held.0))
    held.1

part-of : (b : Bool) (sink now : Known) (waiting text : List ℕ) → HoldsBy b sink now waiting text
    → AppendsPart sink now text
part-of true sink now waiting text h = h
part-of false sink now waiting text h = part-append' h
  where
    part-append' : HoldsBy false sink now waiting text → AppendsPart sink now text
    part-append' k =
        subst (AppendsPart sink now) (sym k.2)
        (part-append sink now k.0 waiting
        (length k.0, subst (Appends sink now) (sym (take_whole k.0)) k.1))
      where
        take_whole : (xs : List ℕ) → take (length xs) xs ≡ xs
        take_whole [] = refl
        take_whole (x ∷ xs) = ap (λ t. x ∷ t) (take_whole xs)

pub wrote-part : (sink : Known) (o : Output) (text : List ℕ) → HandsOver (fresh sink) o text
    → AppendsPart sink o.sink text
wrote-part sink o text h =
    part-of o.broken sink o.sink o.waiting text (h.holds sink [] (begun sink))

-- ---- a stop

module _ (counted : Bool) (input : List ℕ) (x : Around) where
  stopped-wrote : (Reads : ParsedLine → Type 0) (n : ℕ) (W V : List ℕ → Type 0)
      → ((t : List ℕ) → W t → V t) → StoppedAt Reads n input x W → StoppedAt Reads n input x V
  stopped-wrote Reads n W V f s = record {
    done = s.done;
    line = s.line;
    behind = s.behind;
    begins = s.begins;
    number = s.number;
    reads = s.reads;
    did =
        record {
          pair = s.did.pair;
          carried = s.did.carried;
          written = f (text_then x.pair s.done) s.did.written;
        };
  }

  broken-wrote : (W V : List ℕ → List (List ℕ) → Type 0)
      → ((t : List ℕ) (b : List (List ℕ)) → W t b → V t b) → Broken input x W → Broken input x V
  broken-wrote W V f s = record {
    done = s.done;
    behind = s.behind;
    begins = s.begins;
    stopped = s.stopped;
    written = f (text_then x.pair s.done) s.behind s.written;
  }

  stopped-breaks : (Reads : ParsedLine → Type 0) (n : ℕ) (W : List ℕ → Type 0)
      → StoppedAt Reads n input x W → Broken input x (λ text behind. W text)
  stopped-breaks Reads n W s = record {
    done = s.done;
    behind = s.line ∷ s.behind;
    begins = s.begins;
    stopped = nothing-of-next (s.line ∷ s.behind) s.done x W s.did;
    written = s.did.written;
  }

  pub stops-flushed : (number : ℕ) (start a b : Output) (why : Undone)
      → Stops input number (course start a x) why → HandsOver a b []
      → Stops input number (course start b x) why
  stops-flushed number start a b stop.NoCommand s f =
      stopped-wrote _ _ (HandsOver start a) (HandsOver start b) (λ t h. sends-more t h f) s
  stops-flushed number start a b stop.NotHex s f =
      stopped-wrote _ _ (HandsOver start a) (HandsOver start b) (λ t h. sends-more t h f) s
  stops-flushed number start a b stop.Write s f = broken-wrote _ _ (λ t _ h. sends-more t h f) s
  stops-flushed number start a b stop.Memory s f = broken-wrote _ _ (λ t _ h. sends-more t h f) s
  stops-flushed number start a b stop.Carrier s f =
      stopped-wrote _ _ (HandsOver start a) (HandsOver start b) (λ t h. sends-more t h f) s

  stops-break : (number : ℕ) (start a : Output) (why : Undone)
      → Stops input number (course start a x) why
      → Broken input x (λ text behind. HandsOver start a text)
  stops-break number start a stop.NoCommand s = stopped-breaks _ _ (HandsOver start a) s
  stops-break number start a stop.NotHex s = stopped-breaks _ _ (HandsOver start a) s
  stops-break number start a stop.Write s = s
  stops-break number start a stop.Memory s = s
  stops-break number start a stop.Carrier s = stopped-breaks _ _ (HandsOver start a) s

  broken-part : (sink : Known) (o : Output)
      → Broken input x (λ text behind. HandsOver (fresh sink) o text)
      → Broken input x
      (λ text behind. AppendsPart sink o.sink (text ++ text_behind counted behind x.pair_after))
  broken-part sink o s =
      broken-wrote _ _
      (λ t b h. part-append sink o.sink t (text_behind counted b x.pair_after)
      (wrote-part sink o t h)) s

  -- the text of a stop couldn't be written
  pub plays-write : (number : ℕ) (sink : Known) (o : Output) (why : Undone)
      → Stops input number (course (fresh sink) o x) why
      → Plays counted input x (Appends sink o.sink) (AppendsPart sink o.sink) (Err Write)
  plays-write number sink o why s = broken-part sink o (stops-break number (fresh sink) o why s)

  module _ (number : ℕ) (sink : Known) (o : Output) (whole : o.broken ≡ false)
      (empty : o.waiting ≡ []) where
    all : (t : List ℕ) → HandsOver (fresh sink) o t → Appends sink o.sink t
    all t h = wrote-all sink o t h whole empty

    pub plays-line : Stops input number (course (fresh sink) o x) stop.NoCommand
        → Plays counted input x (Appends sink o.sink) (AppendsPart sink o.sink)
        (Err (Line (number + 1)))
    plays-line s = stopped-wrote _ _ (HandsOver (fresh sink) o) (Appends sink o.sink) all s

    pub plays-hex : Stops input number (course (fresh sink) o x) stop.NotHex
        → Plays counted input x (Appends sink o.sink) (AppendsPart sink o.sink)
        (Err (Hex (number + 1)))
    plays-hex s = stopped-wrote _ _ (HandsOver (fresh sink) o) (Appends sink o.sink) all s

    pub plays-memory : Stops input number (course (fresh sink) o x) stop.Memory
        → Plays counted input x (Appends sink o.sink) (AppendsPart sink o.sink) (Err Memory)
    plays-memory s = broken-wrote _ _ (λ t b h. all t h) s

    pub plays-carrier : Stops input number (course (fresh sink) o x) stop.Carrier
        → Plays counted input x (Appends sink o.sink) (AppendsPart sink o.sink) (Err Carrier)
    plays-carrier s =
        (number + 1, stopped-wrote _ _ (HandsOver (fresh sink) o) (Appends sink o.sink) all s)

  -- ---- the end of the input

  module _ (sink : Known) (a b o : Output) (last : HasDoneAll input (course (fresh sink) a x))
      (told : HandsOver a b (closing_text counted x.pair_after)) (flushed : HandsOver b o []) where
    told_all : HandsOver (fresh sink) o
        (text_then x.pair last.done ++ closing_text counted x.pair_after)
    told_all =
        sends-more (text_then x.pair last.done ++ closing_text counted x.pair_after)
        (sends-then last.did.written told) flushed

    pub plays-whole : o.broken ≡ false → o.waiting ≡ []
        → Plays counted input x (Appends sink o.sink) (AppendsPart sink o.sink) (Ok tt)
    plays-whole whole empty = record {
      done = last.done;
      begins = last.begins;
      did =
          record {
            pair = last.did.pair;
            carried = last.did.carried;
            written = wrote-all sink o _ told_all whole empty;
          };
    }

    pub plays-cut : Plays counted input x (Appends sink o.sink) (AppendsPart sink o.sink)
        (Err Write)
    plays-cut = record {
      done = last.done;
      behind = [];
      begins = last.begins;
      stopped = (last.did.pair, last.did.carried);
      written = wrote-part sink o _ told_all;
    }

  -- ---- between two pieces

  module _ (rest line : List ℕ) (number : ℕ) (lines : Between) (start a : Output)
      (h : HasDone input rest (played line number lines) (course start a x)) where
    pub has-flushed : (b : Output) → HandsOver a b []
        → HasDone input rest (played line number lines) (course start b x)
    has-flushed b f = record {
      done = h.done;
      begins = h.begins;
      did =
          record {
            pair = h.did.pair;
            carried = h.did.carried;
            written = sends-more (text_then x.pair h.done) h.did.written f;
          };
      lines_are = h.lines_are;
      number_is = h.number_is;
      begun = h.begun;
    }

    pub has-broken : Broken input x (λ text behind. HandsOver start a text)
    has-broken = record {
      done = h.done;
      behind = lines_of (line ++ rest);
      begins = h.begins;
      stopped = nothing-of-next (lines_of (line ++ rest)) h.done x (HandsOver start a) h.did;
      written = h.did.written;
    }

  pub plays-paused : (rest line : List ℕ) (number : ℕ) (lines : Between) (sink : Known) (o : Output)
      → HasDone input rest (played line number lines) (course (fresh sink) o x) → o.broken ≡ false
      → o.waiting ≡ []
      → Plays counted input x (Appends sink o.sink) (AppendsPart sink o.sink) (Err Read)
  plays-paused rest line number lines sink o h whole empty = record {
    done = h.done;
    behind = lines_of (line ++ rest);
    begins = h.begins;
    did =
        record {
          pair = h.did.pair;
          carried = h.did.carried;
          written = wrote-all sink o _ h.did.written whole empty;
        };
  }

  pub plays-stopped : (rest line : List ℕ) (number : ℕ) (lines : Between) (sink : Known)
      (o : Output) → HasDone input rest (played line number lines) (course (fresh sink) o x)
      → o.broken ≡ false → o.waiting ≡ []
      → Plays counted input x (Appends sink o.sink) (AppendsPart sink o.sink) (Err Memory)
  plays-stopped rest line number lines sink o h whole empty = record {
    done = h.done;
    behind = lines_of (line ++ rest);
    begins = h.begins;
    stopped =
        nothing-of-next (lines_of (line ++ rest)) h.done x (HandsOver (fresh sink) o) h.did;
    written = wrote-all sink o _ h.did.written whole empty;
  }

  pub paused-before : (rest line : List ℕ) (number : ℕ) (lines : Between) (sink : Known)
      (o : Output) → HasDone input rest (played line number lines) (course (fresh sink) o x)
      → o.broken ≡ false → o.waiting ≡ []
      → PausedBefore rest input x (Appends sink o.sink)
  paused-before rest line number lines sink o h whole empty = record {
    done = h.done;
    line = line;
    begins = h.begins;
    begun = h.begun;
    did =
        record {
          pair = h.did.pair;
          carried = h.did.carried;
          written = wrote-all sink o _ h.did.written whole empty;
        };
  }

  pub plays-unwritten : (rest line : List ℕ) (number : ℕ) (lines : Between) (sink : Known)
      (o : Output) → HasDone input rest (played line number lines) (course (fresh sink) o x)
      → Plays counted input x (Appends sink o.sink) (AppendsPart sink o.sink) (Err Write)
  plays-unwritten rest line number lines sink o h =
      broken-part sink o (has-broken rest line number lines (fresh sink) o h)

-- ---- what is left of an input

pub left-after : (left later : Known) (rest bytes : List ℕ) → left ≡ Some rest
    → Consumes left later bytes → (x : List ℕ) × (later ≡ Some x) × (rest ≡ bytes ++ x)
left-after None later rest bytes e h =
    let bad : ◌≡◌ {A = Option (List ℕ)} None (Some rest) = e in absurd (cc)
left-after (Some xs) None rest bytes e h = absurd h
left-after (Some xs) (Some ys) rest bytes e h = let same : rest ≡ xs = cc in (ys, refl, same ∙ h)

-- a read that gave no bytes leaves what was left
pub kept-by : (got : Got) (old new : Known) (buf : List ℕ) → ((n : ℕ) → got ≡ Bytes n → ⊥)
    → ReadGives old new got buf → Keeps old new
kept-by (Bytes n) old new buf not h = absurd (not n refl)
kept-by Idle old new buf not h = h
kept-by Failed old new buf not h = h

pub kept-left : (left later : Known) (rest xs : List ℕ) → left ≡ Some rest → later ≡ Some xs
    → Keeps left later → rest ≡ xs
kept-left None later rest xs e f k =
    let bad : ◌≡◌ {A = Option (List ℕ)} None (Some rest) = e in absurd (cc)
kept-left (Some a) None rest xs e f k = absurd k
kept-left (Some a) (Some b) rest xs e f k =
    let first : rest ≡ a = cc in
    let last : b ≡ xs = cc in
    first ∙ sym k ∙ last

take-nothing : (buf : List ℕ) → take 0 buf ≡ []
take-nothing [] = refl
take-nothing (x ∷ xs) = refl

pub none-left : (left later : Known) (rest buf : List ℕ) (n : ℕ) → n ≡ 0 → left ≡ Some rest
    → Consumes left later (take n buf) → IsAtEnd later → rest ≡ []
none-left None later rest buf n z e h end =
    let bad : ◌≡◌ {A = Option (List ℕ)} None (Some rest) = e in absurd (cc)
none-left (Some xs) None rest buf n z e h end = absurd h
none-left (Some xs) (Some ys) rest buf n z e h end =
    let same : rest ≡ xs = cc in
    same ∙ h ∙ ap (λ t. t ++ ys) (ap (λ k. take k buf) z ∙ take-nothing buf) ∙ end

-- ---- the beginning

pub begun-has : (input : List ℕ) (p : PairState) (d : Bool) (log : Option (List Carriage))
    (sink : Known) (b : Bool) (line : List ℕ) (number : ℕ) (lines : Between) (page : List ℕ)
    → line ≡ [] → number ≡ 0 → lines ≡ nothing_between → page ≡ [] → b ≡ false
    → HasDone input input (played line number lines)
    (course (fresh sink) (record { broken = b; sink = sink; waiting = page })
    (around p p d log log))
unfolding after_lines text_of_lines carriages_of_lines AllFit
begun-has input p d log sink b line number lines page el en es ep eb =
    let first : HasDone input input (played [] number lines)
    (course (fresh sink) (fresh sink) (around p p d log log)) = record {
      done = [];
      begins = record { lines = refl; fit = tt };
      did =
          record {
            pair = refl;
            carried = carries-nothing d log;
            written = sends-nothing (fresh sink);
          };
      lines_are = es;
      number_is = en;
      begun = tt;
    } in
    let out : fresh sink ≡ record { broken = b; sink = sink; waiting = page } =
    λ i. record { broken = sym eb i; sink = sink; waiting = sym ep i } in
    subst
    (λ l. HasDone input input (played l number lines)
    (course (fresh sink) (record { broken = b; sink = sink; waiting = page })
    (around p p d log log))) (sym el)
    (subst
    (λ o. HasDone input input (played [] number lines)
    (course (fresh sink) o (around p p d log log))) out first)

-- ---- exactly where every line fits and nothing fails

fit-at : (a : List (List ℕ)) (line : List ℕ) (b : List (List ℕ)) → AllFit (a ++ line ∷ b)
    → IsScriptLine line
unfolding AllFit
fit-at [] line b h = h.0
fit-at (x ∷ a) line b h = fit-at a line b h.1

abbrev pub Answer : Type 0
Answer = Result (Unit {0}) ScriptFault

fine-or : (w : Worst) → (w ≢ worst.Fine → ⊥) → w ≡ worst.Fine
fine-or worst.Fine h = refl
fine-or worst.Idle h = absurd (h (λ e. let bad : ◌≡◌ {A = Worst} worst.Idle worst.Fine = e in cc))
fine-or worst.Failed h =
    absurd (h (λ e. let bad : ◌≡◌ {A = Worst} worst.Failed worst.Fine = e in cc))

not-true : (b : Bool) → (IsTrue b → ⊥) → b ≡ false
not-true false h = refl
not-true true h = absurd (h refl)

true-not : (b : Bool) → IsTrue b → b ≡ false → ⊥
true-not b t f = let bad : ◌≡◌ {A = Bool} true false = sym t ∙ f in cc

-- a source that gave fewer has given less than the most
pub not-most : (k : ℕ) (before left : Known) → Counts k before left → (input rest : List ℕ)
    → before ≡ Some input → left ≡ Some rest → length input < length rest + (2 ^ 64 - 1)
    → k ≢ 2 ^ 64 - 1
not-most k before left r input rest b l few most =
    let all : input ≡ r.0 ++ rest =
    subst (λ x. Consumes (Some input) x r.0) l (subst (λ x. Consumes x left r.0) b r.2) in
    absurd (omega (arith, r.1, ap length all ∙ length-append r.0 rest, few, most))

-- a source that gave the most bytes has given so many
pub most-read : (k : ℕ) (before left : Known) (input : List ℕ) → Counts k before left
    → before ≡ Some input → GaveMost before left → k ≡ 2 ^ 64 - 1
most-read k None left input r e m =
    let bad : ◌≡◌ {A = Option (List ℕ)} None (Some input) = e in absurd (cc)
most-read k (Some a) None input r e m = absurd r.2
most-read k (Some a) (Some b) input r e m = read-all k (Some a) (Some b) r a b refl refl m

module _ (counted : Bool) (input : List ℕ) (x : Around) (W V : List ℕ → Type 0) (state : Worst)
    (most : Type 0) (w c : Bool) where
  abbrev pub Succeeds : Answer → Type 0
  Succeeds result =
      AllFit (lines_of input) × (state ≡ worst.Fine) × (most → ⊥) × (w ≡ false) × (c ≡ false)
      × (result ≢ Err Memory)

  -- what an answer says of the devices
  pub record ToldBy (result : Answer) : Type 0 where
    pub read : state ≢ worst.Fine → result ≡ Err Read
    pub read_only : result ≡ Err Read → (state ≢ worst.Fine) ⊎ most
    pub read_most : most → result ≡ Err Read
    pub write : (result ≡ Err Write) ↔ IsTrue w
    pub carried : (result ≡ Err Carrier) ↔ IsTrue c

  fits-there : (Reads : ParsedLine → Type 0) (n : ℕ) (s : StoppedAt Reads n input x W)
      → AllFit (lines_of input) → IsScriptLine s.line
  fits-there Reads n s h =
      fit-at (lines_done s.done) s.line s.behind (subst AllFit (sym s.begins.lines) h)

  then-fits : (result : Answer) → Plays counted input x W V result → ToldBy result → IsOk result
      → Succeeds result
  then-fits (Ok u) s told ok = (
    subst AllFit (sym (append-nil (lines_done s.done)) ∙ s.begins.lines) s.begins.fit,
    fine-or state
        (λ bad. let e : ◌≡◌ {A = Answer} (Ok u) (Err Read) = told.read bad in absurd (cc)),
    λ m. let e : ◌≡◌ {A = Answer} (Ok u) (Err Read) = told.read_most m in absurd (cc),
    not-true w (λ t. let e : ◌≡◌ {A = Answer} (Ok u) (Err Write) = told.write.1 t in absurd (cc)),
    not-true c
        (λ t. let e : ◌≡◌ {A = Answer} (Ok u) (Err Carrier) = told.carried.1 t in absurd (cc)),
    λ e. cc,
  )
  then-fits (Err fault) s told ok = let bad : ◌≡◌ {A = Bool} false true = ok in absurd (cc)

  only-then : (result : Answer) → Plays counted input x W V result → ToldBy result → Succeeds result
      → IsOk result
  only-then (Ok u) s told h = refl
  only-then (Err (Line n)) s told h = absurd ((fits-there _ n s h.0).0 s.reads)
  only-then (Err (Hex n)) s told h = absurd ((fits-there _ n s h.0).1 s.reads)
  only-then (Err Read) s told h = elim (told.read_only refl) [
    | inl worse ↦ absurd (worse h.1)
    | inr m ↦ absurd (h.2 m)
  ]
  only-then (Err Write) s told h = absurd (true-not w (told.write.0 refl) h.3)
  only-then (Err Memory) s told h = absurd (h.5 refl)
  only-then (Err Carrier) s told h = absurd (true-not c (told.carried.0 refl) h.4)

  pub ok-exactly : (result : Answer) → Plays counted input x W V result → ToldBy result
      → IsOk result ↔ Succeeds result
  ok-exactly result s told = (then-fits result s told, only-then result s told)
