-- Lines of a script, one after another.
use Rattle.std.proofs.Common.{◌≡◌, ◌≢◌, ℕ, ◌+◌, ◌<◌, Bool, false, cond, ◌==◌, List, [], ◌∷◌, ◌++◌}
use Rattle.std.proofs.Common.{length, refl, sym, ap, subst, ◌∙◌, arith, Option, Some, None, Result}
use Rattle.std.proofs.Common.{Ok, Err, inl, inr, append_assoc, length-append}
use Rattle.std.specs.List.{slice_split}
use Rattle.std.proofs.lemmas.List.{append-nil}
use Rattle.std.proofs.lemmas.Bool.Decides.{nat_tests}
use Rattle.ddcmp_io.specs.Device.{Logs}
use Rattle.ddcmp_io.specs.Written.{Output, HandsOver}
use Rattle.ddcmp_io.proofs.WrittenLaws.{sends-then}
use Rattle.ddcmp_pair.specs.Run.{PairState}
use Rattle.ddcmp_line.specs.declared.performer.Undone.{Undone}
use Rattle.ddcmp_line.specs.declared.performer.Undone.TheVariants.{NoCommand, NotHex, Write}
use Rattle.ddcmp_line.specs.declared.performer.Undone.TheVariants.{Memory, Carrier}
use Rattle.ddcmp_line.specs.ScriptWords.{reading_of, without_cr, lines_between, between_lf}
use Rattle.ddcmp_line.specs.ScriptWords.{lines_of}
use Rattle.ddcmp_io.specs.Carriages.{Carriage}
use Rattle.ddcmp_line.specs.Script.{Carries, Between, Scene, AreDirect, AreWithin, DoneLine}
use Rattle.ddcmp_line.specs.Script.{after_line, text_of, carriages_by, after_lines, text_of_lines}
use Rattle.ddcmp_line.specs.Script.{carriages_of_lines, IsScriptLine, AllFit, lines_done}
use Rattle.ddcmp_line.specs.Inside.ScriptSteps.{scene_of, LineEnds}
use Rattle.ddcmp_line.specs.ScriptEnds.{HasNoLf, scene_with, scene_then, text_then}
use Rattle.ddcmp_line.specs.ScriptEnds.{carriages_then, Around, around, Begins, Did}
use Rattle.ddcmp_line.specs.ScriptEnds.{StoppedBefore}
use Rattle.ddcmp_line.specs.Inside.ScriptProgress.{HasDone, HasDoneAll, PlaysOut, Stops, course}
use Rattle.ddcmp_line.specs.Inside.ScriptProgress.{played}
use Rattle.ddcmp_line.proofs.Cutting.{HasPart, has-part}
use Rattle.ddcmp_io.proofs.TextLaws.{sends-as}

-- ---- one line more

pub after-more : (done : List DoneLine) (e : DoneLine) (s : Scene)
    → after_lines (done ++ e ∷ []) s ≡ after_line e (after_lines done s)
unfolding after_lines
after-more [] e s = refl
after-more (d ∷ done) e s = after-more done e (after_line d s)

pub text-more : (done : List DoneLine) (e : DoneLine) (s : Scene)
    → text_of_lines (done ++ e ∷ []) s
    ≡ text_of_lines done s ++ text_of (reading_of e.line) e.came (after_lines done s)
unfolding after_lines text_of_lines
text-more [] e s = append-nil _
text-more (d ∷ done) e s =
    ap (λ t. text_of (reading_of d.line) d.came s ++ t) (text-more done e (after_line d s))
    ∙ sym
    (append_assoc (text_of (reading_of d.line) d.came s) (text_of_lines done (after_line d s))
    _)

pub carriages-more : (done : List DoneLine) (e : DoneLine) (s : Scene)
    → carriages_of_lines (done ++ e ∷ []) s
    ≡ carriages_of_lines done s ++ carriages_by (reading_of e.line) e.came (after_lines done s)
unfolding after_lines carriages_of_lines
carriages-more [] e s = append-nil _
carriages-more (d ∷ done) e s =
    ap (λ t. carriages_by (reading_of d.line) d.came s ++ t)
    (carriages-more done e (after_line d s))
    ∙ sym
    (append_assoc (carriages_by (reading_of d.line) d.came s)
    (carriages_of_lines done (after_line d s)) _)

pub lines-more : (done : List DoneLine) (e : DoneLine) (behind : List (List ℕ))
    → lines_done (done ++ e ∷ []) ++ behind ≡ lines_done done ++ e.line ∷ behind
lines-more [] e behind = refl
lines-more (d ∷ done) e behind = ap (λ t. d.line ∷ t) (lines-more done e behind)

fit-more : (done : List DoneLine) (e : DoneLine) → AllFit (lines_done done) → IsScriptLine e.line
    → AllFit (lines_done (done ++ e ∷ []))
unfolding AllFit
fit-more [] e all fits = (fits, tt)
fit-more (d ∷ done) e all fits = (all.0, fit-more done e all.1 fits)

-- ---- the carrier's log

logs-then : {A : Type 0} (a b c : Option (List A)) (xs ys : List A) → Logs a b xs → Logs b c ys
    → Logs a c (xs ++ ys)
logs-then None b c xs ys p q = tt
logs-then (Some a) None c xs ys p q = absurd p
logs-then (Some a) (Some b) None xs ys p q = absurd q
logs-then (Some a) (Some b) (Some c) xs ys p q = q ∙ ap (λ t. t ++ ys) p ∙ append_assoc a xs ys

within-then : (xs ys : List Carriage) → AreWithin xs → AreWithin ys → AreWithin (xs ++ ys)
unfolding AreWithin
within-then [] ys p q = q
within-then (c ∷ xs) ys p q = (p.0, within-then xs ys p.1 q)

direct-then : (xs ys : List Carriage) → AreDirect xs → AreDirect ys → AreDirect (xs ++ ys)
unfolding AreDirect
direct-then [] ys p q = q
direct-then (c ∷ xs) ys p q = (p.0, direct-then xs ys p.1 q)

carries-then : (d : Bool) (a b c : Option (List Carriage)) (xs ys : List Carriage)
    → Carries d a b xs → Carries d b c ys → Carries d a c (xs ++ ys)
carries-then d a b c xs ys p q = record {
  told = logs-then a b c xs ys p.told q.told;
  direct = λ e. direct-then xs ys (p.direct e) (q.direct e);
  within = within-then xs ys p.within q.within;
}

carries-kept : (d : Bool) (a b c : Option (List Carriage)) (xs : List Carriage) → Carries d a b xs
    → Logs b c [] → Carries d a c xs
carries-kept d a b c xs p q = record {
  told = subst (Logs a c) (append-nil xs) (logs-then a b c xs [] p.told q);
  direct = p.direct;
  within = p.within;
}

-- ---- what becomes of the next line

pub record NextDone (input : List ℕ) (behind : List (List ℕ)) (number : ℕ) (lines : Between)
    (start now : Output) (x : Around) : Type 0 where
  pub done : List DoneLine
  pub begins : Begins done behind input
  pub did : Did done x (HandsOver start now)
  pub lines_are : lines ≡ (scene_then x.pair done).lines
  pub number_is : number ≡ length done

pub sends-more : {a b c : Output} (t : List ℕ) → HandsOver a b t → HandsOver b c []
    → HandsOver a c t
sends-more t p q = sends-as (append-nil t) (sends-then p q)

module _ (input line : List ℕ) (behind : List (List ℕ)) (done : List DoneLine) (p q r : PairState)
    (lines later : Between) (d : Bool) (log told now : Option (List Carriage))
    (start before after : Output) (begins : Begins done (line ∷ behind) input)
    (did : Did done (around p q d log told) (HandsOver start before))
    (lines_are : lines ≡ (scene_then p done).lines) where
  scene_is : scene_of q lines ≡ scene_then p done
  scene_is = λ i. record { pair = did.pair i; lines = lines_are i }

  pair_kept : scene_of r later ≡ scene_of q lines → r ≡ (scene_then p done).pair
  pair_kept e = ap (λ (s : Scene). s.pair) (e ∙ scene_is)

  carried_kept : Logs told now [] → Carries d log now (carriages_then p done)
  carried_kept l = carries-kept d log told now (carriages_then p done) did.carried l

  pub line-done : (number : ℕ) → number ≡ length done
      → LineEnds d told now (reading_of line) (scene_of q lines) (scene_of r later) before after
      (Ok tt)
      → NextDone input behind (number + 1) later start after (around p r d log now)
  line-done number ne ends =
      let ends_there =
      subst
      (λ s. LineEnds d told now (reading_of line) s (scene_of r later) before after (Ok tt))
      scene_is ends in
      let e : DoneLine = record { line = line; came = ends_there.0 } in
      let scene_after = ends_there.3 ∙ sym (after-more done e (scene_with p)) in
      record {
        done = done ++ e ∷ [];
        begins =
            record {
              lines = lines-more done e behind ∙ begins.lines;
              fit = fit-more done e begins.fit (ends_there.1, ends_there.2);
            };
        did = record {
          pair = ap (λ (s : Scene). s.pair) scene_after;
          carried =
              subst (Carries d log now) (sym (carriages-more done e (scene_with p)))
              (carries-then d log told now (carriages_then p done) _ did.carried ends_there.5);
          written =
              sends-as (sym (text-more done e (scene_with p)))
              (sends-then did.written ends_there.4);
        };
        lines_are = ap (λ (s : Scene). s.lines) scene_after;
        number_is = ap (λ n. n + 1) ne ∙ sym (length-append done (e ∷ []));
      }

  pub line-stops : (number : ℕ) → number ≡ length done → (stop : Undone)
      → LineEnds d told now (reading_of line) (scene_of q lines) (scene_of r later) before after
      (Err stop)
      → Stops input number (course start after (around p r d log now)) stop
  line-stops number ne NoCommand ends = record {
    done = done;
    line = line;
    behind = behind;
    begins = begins;
    number = ap (λ n. n + 1) ne;
    reads = ends.0;
    did =
        record {
          pair = pair_kept ends.1;
          carried = carried_kept ends.3;
          written = subst (λ o. HandsOver start o (text_then p done)) (sym ends.2) did.written;
        };
  }
  line-stops number ne NotHex ends = record {
    done = done;
    line = line;
    behind = behind;
    begins = begins;
    number = ap (λ n. n + 1) ne;
    reads = ends.0;
    did =
        record {
          pair = pair_kept ends.1;
          carried = carried_kept ends.3;
          written = subst (λ o. HandsOver start o (text_then p done)) (sym ends.2) did.written;
        };
  }
  line-stops number ne Write ends = record {
    done = done;
    behind = line ∷ behind;
    begins = begins;
    stopped = inl (pair_kept ends.0, carried_kept ends.2);
    written = sends-more (text_then p done) did.written ends.1;
  }
  line-stops number ne Carrier ends = record {
    done = done;
    line = line;
    behind = behind;
    begins = begins;
    number = ap (λ n. n + 1) ne;
    reads = (ends.0, ends.1, ends.2);
    did =
        record {
          pair = pair_kept ends.3;
          carried = carried_kept ends.5;
          written = sends-more (text_then p done) did.written ends.4;
        };
  }
  line-stops number ne Memory ends =
      let inside =
      subst
      (λ s. LineEnds d told now (reading_of line) s (scene_of r later) before after
      (Err Memory)) scene_is ends in
      record {
        done = done;
        behind = line ∷ behind;
        begins = begins;
        stopped = elim inside.1 [
          | inl same ↦ inl (same.0, carried_kept same.1.told)
          | inr b ↦ inr (record {
            came = b.came;
            wants = b.wants;
            carried = carries-then d log told now (carriages_then p done) _ did.carried b.carried;
          })
        ];
        written = sends-more (text_then p done) did.written inside.0;
      }

-- ---- lines of an input

no-lf-test : (x : ℕ) → x ≢ 10 → (x == 10) ≡ false
no-lf-test x ne = grind (arith, nat_tests)

split-no-lf : (line : List ℕ) → HasNoLf line → slice_split (λ c. c == 10) line ≡ line ∷ []
split-no-lf [] h = refl
split-no-lf (x ∷ xs) h = rw (no-lf-test x h.0, split-no-lf xs h.1)

split-at-lf : (line rest : List ℕ) → HasNoLf line
    → slice_split (λ c. c == 10) (line ++ 10 ∷ rest) ≡ line ∷ slice_split (λ c. c == 10) rest
split-at-lf [] rest h = refl
split-at-lf (x ∷ xs) rest h = rw (no-lf-test x h.0, split-at-lf xs rest h.1)

pub no-lf-more : (line : List ℕ) (c : ℕ) → HasNoLf line → c ≢ 10 → HasNoLf (line ++ c ∷ [])
no-lf-more [] c h ne = (ne, tt)
no-lf-more (x ∷ xs) c h ne = (h.0, no-lf-more xs c h.1 ne)

lines-cut : (line : List ℕ) (parts : List (List ℕ)) → HasPart parts
    → lines_between (line ∷ parts) ≡ without_cr line ∷ lines_between parts
lines-cut line [] part =
    let bad : ◌≡◌ {A = List (List ℕ)} [] (part.first ∷ part.others) = part.is in absurd (cc)
lines-cut line (next ∷ more) part = refl

-- LF ends a line
pub lines-at-lf : (line rest : List ℕ) → HasNoLf line
    → lines_of (line ++ 10 ∷ rest) ≡ without_cr line ∷ lines_of rest
unfolding lines_of between_lf
lines-at-lf line rest h =
    ap lines_between (split-at-lf line rest h) ∙ lines-cut line _ (has-part (λ c. c == 10) rest)

-- the last line
pub lines-of-last : (line : List ℕ) → HasNoLf line → lines_of line ≡ lines_between (line ∷ [])
unfolding lines_of between_lf
lines-of-last line h = ap lines_between (split-no-lf line h)

last-none : (line : List ℕ) → length line ≡ 0 → lines_between (line ∷ []) ≡ []
last-none [] e = refl
last-none (c ∷ line) e = absurd (omega arith)

last-some : (line : List ℕ) → 0 < length line → lines_between (line ∷ []) ≡ line ∷ []
last-some [] h = absurd (omega arith)
last-some (c ∷ line) h =
    let test : (length (c ∷ line) == 0) ≡ false = grind (arith, nat_tests) in
    ap (λ b. cond b [] ((c ∷ line) ∷ [])) test

-- nothing of the next line was done
pub nothing-of-next : (behind : List (List ℕ)) (done : List DoneLine) (x : Around)
    (W : List ℕ → Type 0) → Did done x W → StoppedBefore behind done x
nothing-of-next [] done x W did = (did.pair, did.carried)
nothing-of-next (line ∷ behind) done x W did = inl (did.pair, did.carried)

-- ---- what is taken

begins-at : (done : List DoneLine) (a b : List (List ℕ)) (input : List ℕ) → a ≡ b
    → Begins done a input → Begins done b input
begins-at done a b input e h = subst (λ t. Begins done t input) e h

module _ (input rest raw : List ℕ) (number : ℕ) (lines later : Between) (p q r : PairState)
    (d : Bool) (log told now : Option (List Carriage)) (start before after : Output)
    (h : HasDone input (10 ∷ rest) (played raw number lines)
    (course start before (around p q d log told))) where
  begins-line : Begins h.done (without_cr raw ∷ lines_of rest) input
  begins-line = begins-at h.done _ _ input (lines-at-lf raw rest h.begun) h.begins

  pub take-line : LineEnds d told now (reading_of (without_cr raw)) (scene_of q lines)
      (scene_of r later) before after (Ok tt)
      → HasDone input rest (played [] (number + 1) later)
      (course start after (around p r d log now))
  take-line ends =
      let next =
      line-done input (without_cr raw) (lines_of rest)
      h.done p q r lines later d log told now start before after begins-line h.did h.lines_are
      number h.number_is ends in
      record {
        done = next.done;
        begins = next.begins;
        did = next.did;
        lines_are = next.lines_are;
        number_is = next.number_is;
        begun = tt;
      }

  pub stop-line : (why : Undone)
      → LineEnds d told now (reading_of (without_cr raw)) (scene_of q lines) (scene_of r later)
      before after (Err why) → Stops input number (course start after (around p r d log now)) why
  stop-line why ends =
      line-stops input (without_cr raw) (lines_of rest)
      h.done p q r lines later d log told now start before after begins-line h.did h.lines_are
      number h.number_is why ends

pub take-byte : (input rest line : List ℕ) (c number : ℕ) (lines : Between) (start now : Output)
    (x : Around) → c ≢ 10 → HasDone input (c ∷ rest) (played line number lines) (course start now x)
    → HasDone input rest (played (line ++ c ∷ []) number lines) (course start now x)
take-byte input rest line c number lines start now x ne h = record {
  done = h.done;
  begins =
      begins-at h.done _ _ input (ap lines_of (sym (append_assoc line (c ∷ []) rest))) h.begins;
  did = h.did;
  lines_are = h.lines_are;
  number_is = h.number_is;
  begun = no-lf-more line c h.begun ne;
}

-- memory was refused for a byte of a line
pub stop-byte : (input rest line : List ℕ) (number : ℕ) (lines : Between) (start now : Output)
    (x : Around) → HasDone input rest (played line number lines) (course start now x)
    → Stops input number (course start now x) Memory
stop-byte input rest line number lines start now x h = record {
  done = h.done;
  behind = lines_of (line ++ rest);
  begins = h.begins;
  stopped = nothing-of-next (lines_of (line ++ rest)) h.done x (HandsOver start now) h.did;
  written = h.did.written;
}

module _ (input line : List ℕ) (number : ℕ) (lines later : Between) (p q r : PairState) (d : Bool)
    (log told now : Option (List Carriage)) (start before after : Output)
    (h : HasDone input [] (played line number lines) (course start before (around p q d log told)))
  where
    lines-left : lines_of (line ++ []) ≡ lines_between (line ∷ [])
    lines-left = ap lines_of (append-nil line) ∙ lines-of-last line h.begun

    pub end-nothing : length line ≡ 0
        → HasDoneAll input (course start before (around p q d log told))
    end-nothing none = record {
      done = h.done;
      begins = begins-at h.done _ _ input (lines-left ∙ last-none line none) h.begins;
      did = h.did;
    }

    begins-last : 0 < length line → Begins h.done (line ∷ []) input
    begins-last some = begins-at h.done _ _ input (lines-left ∙ last-some line some) h.begins

    pub end-line : 0 < length line
        → LineEnds d told now (reading_of line) (scene_of q lines) (scene_of r later) before after
        (Ok tt) → HasDoneAll input (course start after (around p r d log now))
    end-line some ends =
        let next =
        line-done input line [] h.done p q r lines later d log told now start before after
        (begins-last some) h.did h.lines_are number h.number_is ends in
        record { done = next.done; begins = next.begins; did = next.did }

    pub end-stopped : 0 < length line → (why : Undone)
        → LineEnds d told now (reading_of line) (scene_of q lines) (scene_of r later) before after
        (Err why) → Stops input number (course start after (around p r d log now)) why
    end-stopped some why ends =
        line-stops input line [] h.done p q r lines later d log told now start before after
        (begins-last some) h.did h.lines_are number h.number_is why ends

    pub end-any : 0 < length line → (result : Result (Unit {0}) Undone)
        → LineEnds d told now (reading_of line) (scene_of q lines) (scene_of r later)
        before after result
        → PlaysOut input number (course start after (around p r d log now)) result
    end-any some (Ok u) ends = end-line some ends
    end-any some (Err why) ends = end-stopped some why ends
