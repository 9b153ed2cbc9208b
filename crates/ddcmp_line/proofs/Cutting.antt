-- A line cut at its first blank, and what its words ask for.
use Rattle.std.proofs.Common.{◌≡◌, ◌≢◌, ℕ, ◌+◌, ◌-◌, ◌<◌, Bool, true, false, ◌==◌, List, [], ◌∷◌}
use Rattle.std.proofs.Common.{◌++◌, length, get_or, refl, sym, ap, ◌∙◌, arith, take, drop, add-one}
use Rattle.std.proofs.Common.{cond, Option, Some, None, length-drop, take_all}
use Rattle.std.proofs.lemmas.List.{take-append-drop, get_or-take, length-take-le}
use Rattle.std.proofs.Math.Seq.{drop-cons}
use Rattle.std.proofs.lemmas.Bool.Decides.{nat_tests}
use Rattle.std.proofs.lemmas.Grind.{common_steps}
use Rattle.std.specs.Prelude.{is_some}
use Rattle.std.specs.Borrow.{Bor}
use Rattle.std.specs.Option.{option_map_or}
use Rattle.std.specs.List.{slice_split, onto_first}
use Rattle.ddcmp_io.specs.declared.carrier.End.{End}
use Rattle.ddcmp_line.specs.declared.command.ParsedLine.TheVariants.{NoCommand}
use Rattle.ddcmp_line.specs.ScriptWords.{end_named, asked_at, asked_by, asked_of_end}
use Rattle.ddcmp_line.specs.ScriptWords.{asked_in, words}

-- no element of the list is c
abbrev pub Lacks : ℕ → List ℕ → Type 0
Lacks c xs = (i : ℕ) → i < length xs → get_or xs i 0 ≢ c

head-differs : (c x : ℕ) (xs : List ℕ) → Lacks c (x ∷ xs) → (x == c) ≡ false
head-differs c x xs h =
    let ne : x ≢ c = h 0 (grind (arith, common_steps)) in grind (arith, nat_tests)

lacks-tail : (c x : ℕ) (xs : List ℕ) → Lacks c (x ∷ xs) → Lacks c xs
lacks-tail c x xs h i lt =
    let k = h (i + 1) (grind (arith, common_steps)) in grind (arith, common_steps)

same-test : (c : ℕ) → (c == c) ≡ true
same-test c = grind (arith, nat_tests)

split-lacks : (c : ℕ) (xs : List ℕ) → Lacks c xs → slice_split (λ x. x == c) xs ≡ xs ∷ []
split-lacks c [] h = refl
split-lacks c (x ∷ xs) h = rw (head-differs c x xs h, split-lacks c xs (lacks-tail c x xs h))

split-at : (c : ℕ) (xs ys : List ℕ) → Lacks c xs
    → slice_split (λ x. x == c) (xs ++ c ∷ ys) ≡ xs ∷ slice_split (λ x. x == c) ys
split-at c [] ys h = rw (same-test c)
split-at c (x ∷ xs) ys h = rw (head-differs c x xs h, split-at c xs ys (lacks-tail c x xs h))

-- no element is found
pub cut-none : (c at : ℕ) (line : List ℕ) → length line ≡ at
    → ((i : ℕ) → i < at → get_or line i 0 ≢ c) → slice_split (λ x. x == c) line ≡ line ∷ []
cut-none c at line e lacks = split-lacks c line (λ i lt. lacks i (omega (arith, lt, e)))

-- the first one is found
pub cut-found : (c at : ℕ) (line : List ℕ) → at < length line → get_or line at 0 ≡ c
    → ((i : ℕ) → i < at → get_or line i 0 ≢ c)
    → slice_split (λ x. x == c) line
    ≡ take at line
    ∷ slice_split (λ x. x == c) (take (length line - (at + 1)) (drop (at + 1) line))
cut-found c at line below here lacks =
    let first : take at line ++ c ∷ drop (at + 1) line ≡ line =
    ap (λ x. take at line ++ x ∷ drop (at + 1) line) (sym here)
    ∙ ap (λ n. take at line ++ get_or line at 0 ∷ drop n line) (add-one at)
    ∙ ap (λ t. take at line ++ t) (sym (drop-cons line at 0 below)) ∙ take-append-drop at line in
    let short : length (take at line) ≡ at = length-take-le at line (omega (arith, below)) in
    let rest =
    take_all (length line - (at + 1)) (drop (at + 1) line)
    (omega (arith, length-drop (at + 1) line)) in
    ap (slice_split (λ x. x == c)) (sym first)
    ∙ split-at c (take at line) (drop (at + 1) line)
    (λ i lt e. lacks i (omega (arith, lt, short))
    (sym (get_or-take at line i 0 (omega (arith, lt, short))) ∙ e))
    ∙ ap (λ t. take at line ∷ slice_split (λ x. x == c) t) (sym rest)

-- ---- what words ask for

-- a list is cut into one part at least
pub record HasPart (parts : List (List ℕ)) : Type 0 where
  pub first : List ℕ
  pub others : List (List ℕ)
  pub is : parts ≡ first ∷ others

onto-part : (x : ℕ) (parts : List (List ℕ)) → HasPart (onto_first x parts)
onto-part x [] = record { first = x ∷ []; others = []; is = refl }
onto-part x (part ∷ parts) = record { first = x ∷ part; others = parts; is = refl }

pub has-part : (p : ℕ → Bool) (xs : List ℕ) → HasPart (slice_split p xs)
has-part p [] = record { first = []; others = []; is = refl }
has-part p (x ∷ xs) = by_test (p x)
  where
    by_test : (b : Bool)
        → HasPart (cond b ([] ∷ slice_split p xs) (onto_first x (slice_split p xs)))
    by_test true = record { first = []; others = slice_split p xs; is = refl }
    by_test false = onto-part x (slice_split p xs)

pub too-many : (verb word byte more : List ℕ) (e : End)
    → asked_by verb e (word ∷ byte ∷ slice_split (λ c. c == 32) more) ≡ NoCommand
unfolding asked_by
too-many verb word byte more e =
    let part = has-part (λ c. c == 32) more in
    ap (λ t. asked_by verb e (word ∷ byte ∷ t)) part.is

pub one-end : (verb word : List ℕ) (e : End) → end_named word ≡ Some e
    → asked_in (verb ∷ word ∷ []) ≡ asked_at verb e
unfolding asked_in asked_by
one-end verb word e is = ap (λ o. asked_of_end verb o []) is

-- a line of more than four words
pub read-too-many : (verb text : List ℕ) (e : End) (word : List ℕ) (rest : Bor (List ℕ))
    (byte : List ℕ) (behind after : Option (Bor (List ℕ))) → behind ≡ Some rest
    → slice_split (λ c. c == 32) text
    ≡ word ∷ option_map_or (λ r. slice_split (λ c. c == 32) r.now) behind []
    → slice_split (λ c. c == 32) rest.now
    ≡ byte ∷ option_map_or (λ r. slice_split (λ c. c == 32) r.now) after []
    → is_some after ≡ true → NoCommand ≡ asked_by verb e (words text)
unfolding words
read-too-many verb text e word rest byte behind (Some last) b first second some =
    sym
    (ap (asked_by verb e)
    (first ∙ ap (λ o. word ∷ option_map_or (λ r. slice_split (λ c. c == 32) r.now) o []) b
    ∙ ap (λ t. word ∷ t) second) ∙ too-many verb word byte last.now e)
read-too-many verb text e word rest byte behind None b first second some = absurd (cc)

-- a line of two words
pub read-one-end : (text verb : List ℕ) (rest : Bor (List ℕ)) (word : List ℕ) (e : End)
    (behind after : Option (Bor (List ℕ))) → behind ≡ Some rest → after ≡ None
    → slice_split (λ c. c == 32) text
    ≡ verb ∷ option_map_or (λ r. slice_split (λ c. c == 32) r.now) behind []
    → slice_split (λ c. c == 32) rest.now
    ≡ word ∷ option_map_or (λ r. slice_split (λ c. c == 32) r.now) after []
    → end_named word ≡ Some e → asked_in (words text) ≡ asked_at verb e
unfolding words
read-one-end text verb rest word e behind after b a first second is =
    ap asked_in
    (first ∙ ap (λ o. verb ∷ option_map_or (λ r. slice_split (λ c. c == 32) r.now) o []) b
    ∙ ap (λ t. verb ∷ t)
    (second ∙ ap (λ o. word ∷ option_map_or (λ r. slice_split (λ c. c == 32) r.now) o []) a))
    ∙ one-end verb word e is
