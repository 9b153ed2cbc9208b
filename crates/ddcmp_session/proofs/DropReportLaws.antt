-- What is reported of bytes of an input that are dropped.
use Rattle.std.proofs.Common.{length-drop}
use Rattle.std.proofs.Common.{◌≡◌, ◌∙◌, ◌≤◌, ◌+◌, ◌-◌, ℕ, zero, suc, refl, ap, sym, subst, arith}
use Rattle.std.proofs.Common.{length, List, [], ◌∷◌, ◌++◌, take, drop, take-add, take_all}
use Rattle.std.proofs.Common.{Bool, Option, Some, None, option_to_list}
use Rattle.ddcmp_input.specs.declared.entry.Entry.{Entry}
use Rattle.ddcmp_streams.specs.declared.messages.Messages.{Messages}
use Rattle.ddcmp_streams.specs.Errors.{ErrorsView}
use Rattle.ddcmp_session.specs.Logged.{LogView, read_after}
use Rattle.ddcmp_streams.specs.Messages.{after_input, entries_of_input}
use Rattle.ddcmp_session.specs.Reported.{Dropping, Drops, DropsBytes, DropsEach}
use Rattle.ddcmp_session.specs.Reported.{refused_after}
use Rattle.ddcmp_session.proofs.DropLaws.{read-more, entries-more}
use Rattle.ddcmp_session.proofs.InputLaws.{no-entries, nothing-read}

-- some bytes and then others
pub drops-then : (xs ys : List ℕ) (m : Messages) (a b c : Dropping) → DropsBytes xs m a b
    → DropsBytes ys (after_input xs m) b c → DropsBytes (xs ++ ys) m a c
unfolding DropsBytes
drops-then [] ys m a b c first second =
    subst (λ l. DropsBytes ys m l c) first
    (subst (λ k. DropsBytes ys k b c) (nothing-read m) second)
drops-then (x ∷ xs) ys m a b c first second = (
  first.0,
  first.1,
  drops-then xs ys (after_input (x ∷ []) m) first.0 b c first.2
      (subst (λ k. DropsBytes ys k b c) (read-more (x ∷ []) xs m) second),
)

no-front : {A : Type 0} (xs ys : List A) → xs ++ ys ≡ [] → xs ≡ []
no-front [] ys e = refl
no-front (x ∷ xs) ys e = cc

no-rest : {A : Type 0} (xs ys : List A) → xs ++ ys ≡ [] → ys ≡ []
no-rest [] ys e = e
no-rest (x ∷ xs) ys e = cc

drops-nothing : (es : List Entry) (m : Messages) (a : Dropping) → es ≡ [] → Drops es m a a
drops-nothing es m a is =
    subst (λ es. Drops es m a a) (sym is)
    (record { errors = refl; log = refl; refused = refl })

-- bytes that complete nothing
pub drops-silent : (xs : List ℕ) (m : Messages) (a : Dropping) → entries_of_input xs m ≡ []
    → DropsBytes xs m a a
unfolding DropsBytes
drops-silent [] m a none = refl
drops-silent (x ∷ xs) m a none =
    let both = sym (entries-more (x ∷ []) xs m) ∙ none in
    let one = entries_of_input (x ∷ []) m in
    let rest = entries_of_input xs (after_input (x ∷ []) m) in (
      a,
      drops-nothing one (after_input (x ∷ []) m) a (no-front one rest both),
      drops-silent xs (after_input (x ∷ []) m) a (no-rest one rest both),
    )

-- a byte that completes a part
drops-byte : (zs : List ℕ) (m : Messages) (a b : Dropping) (e : Entry)
    → entries_of_input (take 1 zs) m ≡ e ∷ [] → Drops (e ∷ []) (after_input (take 1 zs) m) a b
    → DropsBytes (take 1 zs) m a b
unfolding DropsBytes
drops-byte [] m a b e is d = let bad : [] ≡ e ∷ [] = sym (no-entries m) ∙ is in cc
drops-byte (z ∷ zs) m a b e is d =
    (b, subst (λ es. Drops es (after_input (z ∷ []) m) a b) (sym is) d, refl)

-- bytes up to the first that completes a part, or all if none does
drops-some : (n : ℕ) (rest : List ℕ) (m : Messages) (a b : Dropping) (e : Entry)
    → entries_of_input (take n rest) m ≡ []
    → entries_of_input (take (n + 1) rest) m ≡ e ∷ []
    → Drops (e ∷ []) (after_input (take (n + 1) rest) m) a b
    → DropsBytes (take (n + 1) rest) m a b
drops-some n rest m a b e none is d =
    let front = take n rest in
    let last = take 1 (drop n rest) in
    let mid = after_input front m in
    let two : take (n + 1) rest ≡ front ++ last = take-add n 1 rest in
    let split : entries_of_input last mid ≡ e ∷ [] =
    ap (λ es. es ++ entries_of_input last mid) (sym none)
    ∙ sym (entries-more front last m)
    ∙ ap (λ xs. entries_of_input xs m) (sym two)
    ∙ is in
    let after : after_input (take (n + 1) rest) m ≡ after_input last mid =
    ap (λ xs. after_input xs m) two ∙ read-more front last m in
    subst (λ xs. DropsBytes xs m a b) (sym two)
    (drops-then front last m a a b (drops-silent front m a none)
    (drops-byte (drop n rest) mid a b e split (subst (λ k. Drops (e ∷ []) k a b) after d)))

pub drops-chunk : (used : ℕ) (rest : List ℕ) (m k : Messages) (entry : Option Entry)
    (a b : Dropping)
    → ((n : ℕ) (e : Entry) → entry ≡ Some e → used ≡ n + 1 → entries_of_input (take n rest) m ≡ [])
    → entries_of_input (take used rest) m ≡ option_to_list entry
    → k ≡ after_input (take used rest) m
    → Drops (option_to_list entry) k a b → DropsBytes (take used rest) m a b
drops-chunk used rest m k None a b first is state d =
    let log : b.log ≡ a.log =
    d.log ∙ ap (λ (e : ErrorsView). record a.log { errors = e; read = a.log.read }) d.errors in
    let same : b ≡ a =
    ap (λ (l : LogView). record { log = l; was_refused = b.was_refused }) log
    ∙ ap (λ (r : Bool). record { log = a.log; was_refused = r }) d.refused in
    subst (λ l. DropsBytes (take used rest) m a l) (sym same)
    (drops-silent (take used rest) m a is)
drops-chunk zero rest m k (Some e) a b first is state d =
    let bad : [] ≡ e ∷ [] = sym (no-entries m) ∙ is in cc
drops-chunk (suc n) rest m k (Some e) a b first is state d =
    let plus : suc n ≡ n + 1 = omega arith in
    subst (λ u. DropsBytes (take u rest) m a b) (sym plus)
    (drops-some n rest m a b e (first n e refl plus)
    (ap (λ u. entries_of_input (take u rest) m) (sym plus) ∙ is)
    (subst (λ k. Drops (e ∷ []) k a b)
    (state ∙ ap (λ u. after_input (take u rest) m) plus) d))

-- one part more, of what was dropped so far
pub drops-part-more : (bytes : List ℕ) (at used : ℕ) (m now k : Messages) (entry : Option Entry)
    (a b c : Dropping) → now ≡ after_input (take at bytes) m
    → DropsBytes (take at bytes) m a b
    → ((n : ℕ) (e : Entry) → entry ≡ Some e → used ≡ n + 1
    → entries_of_input (take n (drop at bytes)) now ≡ [])
    → entries_of_input (take used (drop at bytes)) now ≡ option_to_list entry
    → k ≡ after_input (take used (drop at bytes)) now
    → Drops (option_to_list entry) k b c → DropsBytes (take (at + used) bytes) m a c
drops-part-more bytes at used m now k entry a b c was sofar first is state d =
    subst (λ xs. DropsBytes xs m a c) (sym (take-add at used bytes))
    (drops-then (take at bytes) (take used (drop at bytes)) m a b c sofar
    (subst (λ k. DropsBytes (take used (drop at bytes)) k b c) was
    (drops-chunk used (drop at bytes) now k entry b c first is state d)))

pub drops-all : (bytes : List ℕ) (at : ℕ) (m : Messages) (a b : Dropping) → length bytes ≤ at
    → DropsBytes (take at bytes) m a b → DropsBytes bytes m a b
drops-all bytes at m a b all d = subst (λ xs. DropsBytes xs m a b) (take_all at bytes all) d

-- the same of bytes that are those from there on
pub drops-slice : (bytes rest : List ℕ) (at used : ℕ) (m now k : Messages) (entry : Option Entry)
    (a b c : Dropping) → rest ≡ take (length bytes - at) (drop at bytes)
    → now ≡ after_input (take at bytes) m → DropsBytes (take at bytes) m a b
    → ((n : ℕ) (e : Entry) → entry ≡ Some e → used ≡ n + 1
    → entries_of_input (take n rest) now ≡ [])
    → entries_of_input (take used rest) now ≡ option_to_list entry
    → k ≡ after_input (take used rest) now
    → Drops (option_to_list entry) k b c → DropsBytes (take (at + used) bytes) m a c
drops-slice bytes rest at used m now k entry a b c whole was sofar first is state d =
    let left = length-drop at bytes in
    let same : rest ≡ drop at bytes =
    whole ∙ take_all (length bytes - at) (drop at bytes) (omega (arith, left)) in
    drops-part-more bytes at used m now k entry a b c was sofar
    (λ n e some count.
    ap (λ xs. entries_of_input (take n xs) now) (sym same) ∙ first n e some count)
    (ap (λ xs. entries_of_input (take used xs) now) (sym same) ∙ is)
    (state ∙ ap (λ xs. after_input (take used xs) now) same) d

-- what a call of `drop_entry` says that it does
pub has-dropped : (entry : Option Entry) (m k : Messages) (old mid new : Dropping) → mid ≡ old
    → m ≡ k
    → DropsEach (option_to_list entry) m mid.log.read mid.log.errors new.log.errors
    → new.log.read ≡ read_after (option_to_list entry) m mid.log.read
    → new.was_refused ≡ refused_after (option_to_list entry) m mid.was_refused
    → new.log ≡ record mid.log { errors = new.log.errors; read = new.log.read }
    → Drops (option_to_list entry) k old new
has-dropped entry m k old mid new was same errors read refused log =
    subst (λ k. Drops (option_to_list entry) k old new) same
    (subst (λ l. Drops (option_to_list entry) m l new) was
    (record {
      errors = errors;
      log = log ∙ ap (λ n. record mid.log { errors = new.log.errors; read = n }) read;
      refused = refused;
    }))
