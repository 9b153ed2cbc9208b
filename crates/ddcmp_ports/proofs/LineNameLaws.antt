-- A word names one line at most, since its kind ends with its first colon.
use Rattle.std.proofs.Common.{ℕ, zero, suc, ◌≡◌, ◌≢◌, ◌<◌, List, [], ◌∷◌, ◌++◌, codes, drop, get_or}
use Rattle.std.proofs.Common.{length, length-append, refl, sym, ap, ◌∙◌, subst, arith, Bor}
use Rattle.std.proofs.Common.{MatchOption, Option, Some, None}
use Rattle.std.proofs.lemmas.Str.Pattern.{IsSplitOnceResult, split_parts}
use Rattle.std.specs.Bool.{⊤}
use lib.Seq.{get_or-append_seam}
use Rattle.ddcmp_ports.specs.LineNames.{word_of, IsPlain}
use Rattle.ddcmp_ports.specs.declared.line_name.LineName.{LineName}
use Rattle.ddcmp_ports.specs.declared.line_name.LineName.TheVariants.{Connect, Listen, Udp}
use Rattle.ddcmp_ports.specs.declared.line_name.LineName.TheVariants.{Device}

-- no byte of a list is this one
abbrev pub IsFreeOf : ℕ → List ℕ → Type 0
IsFreeOf c xs = (k : ℕ) → k < length xs → get_or xs k 0 ≢ c

rest_free : (c x : ℕ) (xs : List ℕ) → IsFreeOf c (x ∷ xs) → IsFreeOf c xs
rest_free c x xs free k l = free (suc k) (omega arith)

-- the same, byte by byte
Differ : ℕ → List ℕ → Type 0
Differ c [] = ⊤
Differ c (x ∷ xs) = (x ≢ c) × Differ c xs

all_differ : (c : ℕ) (xs : List ℕ) → Differ c xs → IsFreeOf c xs
unfolding Differ
all_differ c [] d k l = absurd (omega arith)
all_differ c (x ∷ xs) d zero l = d.0
all_differ c (x ∷ xs) d (suc k) l = all_differ c xs d.1 k (omega arith)

-- two texts that are the same have the same parts round the first such byte
same_parts : (c : ℕ) (xs ys us vs : List ℕ) → IsFreeOf c xs → IsFreeOf c us
    → xs ++ (c ∷ ys) ≡ us ++ (c ∷ vs) → (xs ≡ us) × (ys ≡ vs)
same_parts c [] ys [] vs free clear e = (refl, ap (drop 1) e)
same_parts c [] ys (u ∷ us) vs free clear e =
    absurd (clear 0 (omega arith) (sym (ap (λ l. get_or l 0 0) e)))
same_parts c (x ∷ xs) ys [] vs free clear e =
    absurd (free 0 (omega arith) (ap (λ l. get_or l 0 0) e))
same_parts c (x ∷ xs) ys (u ∷ us) vs free clear e =
    let rest =
    same_parts c xs ys us vs (rest_free c x xs free) (rest_free c u us clear) (ap (drop 1) e) in
    (ap (λ a. a ∷ xs) (ap (λ l. get_or l 0 0) e) ∙ ap (λ l. u ∷ l) rest.0, rest.1)

-- the kind of a line, as a word has it before its first colon
unfoldable pub kind_of : LineName → List ℕ
kind_of (Connect _) = codes "connect"
kind_of (Listen _) = codes "listen"
kind_of (Udp _ _) = codes "udp"
kind_of (Device _) = codes "device"

-- what stands behind it
unfoldable pub rest_of : LineName → List ℕ
rest_of (Connect at) = at.now
rest_of (Listen at) = at.now
rest_of (Udp local remote) = local.now ++ (44 ∷ remote.now)
rest_of (Device path) = path.now

-- no kind has a colon in it
kind_free : (name : LineName) → IsFreeOf 58 (kind_of name)
unfolding kind_of Differ
kind_free (Connect _) =
    all_differ 58 (codes "connect") (
      omega arith,
      (omega arith, (omega arith, (omega arith, (omega arith, (omega arith, (omega arith, tt)))))),
    )
kind_free (Listen _) =
    all_differ 58 (codes "listen")
    (omega arith, (omega arith, (omega arith, (omega arith, (omega arith, (omega arith, tt))))))
kind_free (Udp _ _) = all_differ 58 (codes "udp") (omega arith, (omega arith, (omega arith, tt)))
kind_free (Device _) =
    all_differ 58 (codes "device")
    (omega arith, (omega arith, (omega arith, (omega arith, (omega arith, (omega arith, tt))))))

word_parts : (name : LineName) → word_of name ≡ kind_of name ++ (58 ∷ rest_of name)
unfolding word_of kind_of rest_of
word_parts (Connect _) = refl
word_parts (Listen _) = refl
word_parts (Udp _ _) = refl
word_parts (Device _) = refl

-- a word that names a line has its kind before its first colon
pub parts_of : (name : LineName) (word : List ℕ) (r : Option (Bor (List ℕ) × Bor (List ℕ)))
    → IsSplitOnceResult 58 word r → word_of name ≡ word
    → MatchOption r ⊥ (λ x. (x.0.now ≡ kind_of name) × (x.1.now ≡ rest_of name))
parts_of name word None h e =
    let whole : word ≡ kind_of name ++ (58 ∷ rest_of name) = sym e ∙ word_parts name in
    absurd
    (split_parts 58 word None h (omega arith) (length (kind_of name))
    (omega (arith, ap length whole, length-append (kind_of name) (58 ∷ rest_of name)))
    (ap (λ l. get_or l (length (kind_of name)) 0) whole
    ∙ get_or-append_seam (kind_of name) 58 (rest_of name) 0))
parts_of name word (Some x) h e =
    let m = split_parts 58 word (Some x) h (omega arith) in
    same_parts 58 x.0.now x.1.now (kind_of name) (rest_of name) m.1 (kind_free name)
    (sym m.0 ∙ sym e ∙ word_parts name)

-- two addresses have a comma between them
pub comma_between : (local remote : List ℕ) → IsFreeOf 44 (local ++ (44 ∷ remote)) → ⊥
comma_between local remote free =
    absurd
    (free (length local) (omega (arith, length-append local (44 ∷ remote)))
    (get_or-append_seam local 44 remote 0))

-- a word of these parts names the line of them
pub word_by_parts : (name : LineName) (word : List ℕ) (r : Option (Bor (List ℕ) × Bor (List ℕ)))
    (kind rest : Bor (List ℕ)) → IsSplitOnceResult 58 word r → r ≡ Some (kind, rest)
    → kind.now ≡ kind_of name → rest.now ≡ rest_of name → word_of name ≡ word
word_by_parts name word r kind rest h was is same =
    let m =
    split_parts 58 word (Some (kind, rest)) (subst (IsSplitOnceResult 58 word) was h)
    (omega arith) in
    word_parts name ∙ ap (λ k. k ++ (58 ∷ rest_of name)) (sym is)
    ∙ ap (λ t. kind.now ++ (58 ∷ t)) (sym same) ∙ sym m.0

-- a word without a colon names no line
pub none_without_kind : (word : List ℕ) (r : Option (Bor (List ℕ) × Bor (List ℕ)))
    → IsSplitOnceResult 58 word r → r ≡ None → (name : LineName) → word_of name ≢ word
none_without_kind word r h was name e =
    parts_of name word None (subst (IsSplitOnceResult 58 word) was h) e

-- a word whose kind is no kind names no line
pub none_of_kind : (word : List ℕ) (r : Option (Bor (List ℕ) × Bor (List ℕ)))
    (kind rest : Bor (List ℕ)) → IsSplitOnceResult 58 word r → r ≡ Some (kind, rest)
    → ((name : LineName) → kind.now ≢ kind_of name) → (name : LineName) → word_of name ≢ word
none_of_kind word r kind rest h was other name e =
    other name
    (parts_of name word (Some (kind, rest)) (subst (IsSplitOnceResult 58 word) was h) e).0

-- a pair of addresses without a comma names no line
pub none_without_comma : (word : List ℕ) (r s : Option (Bor (List ℕ) × Bor (List ℕ)))
    (kind rest : Bor (List ℕ)) → IsSplitOnceResult 58 word r → r ≡ Some (kind, rest)
    → kind.now ≡ codes "udp" → IsSplitOnceResult 44 rest.now s → s ≡ None → (name : LineName)
    → word_of name ≢ word
unfolding kind_of rest_of
none_without_comma word r s kind rest h was is k none (Connect at) e =
    absurd
    (differs
    (sym is
    ∙ (parts_of (Connect at) word (Some (kind, rest)) (subst (IsSplitOnceResult 58 word) was h)
    e).0))
  where
    differs : codes "udp" ≢ codes "connect"
    differs e = absurd (omega (arith, ap length e))
none_without_comma word r s kind rest h was is k none (Listen at) e =
    absurd
    (differs
    (sym is
    ∙ (parts_of (Listen at) word (Some (kind, rest)) (subst (IsSplitOnceResult 58 word) was h)
    e).0))
  where
    differs : codes "udp" ≢ codes "listen"
    differs e = absurd (omega (arith, ap length e))
none_without_comma word r s kind rest h was is k none (Device at) e =
    absurd
    (differs
    (sym is
    ∙ (parts_of (Device at) word (Some (kind, rest)) (subst (IsSplitOnceResult 58 word) was h)
    e).0))
  where
    differs : codes "udp" ≢ codes "device"
    differs e = absurd (omega (arith, ap length e))
none_without_comma word r s kind rest h was is k none (Udp local remote) e =
    let same : rest.now ≡ local.now ++ (44 ∷ remote.now) =
    (parts_of (Udp local remote) word (Some (kind, rest))
    (subst (IsSplitOnceResult 58 word) was h) e).1 in
    comma_between local.now remote.now
    (subst (IsFreeOf 44) same
    (split_parts 44 rest.now None (subst (IsSplitOnceResult 44 rest.now) none k) (omega arith)))

pub plain_connect : (at : Bor (List ℕ)) → IsPlain (Connect at)
unfolding IsPlain
plain_connect at = tt

pub plain_listen : (at : Bor (List ℕ)) → IsPlain (Listen at)
unfolding IsPlain
plain_listen at = tt

pub plain_device : (at : Bor (List ℕ)) → IsPlain (Device at)
unfolding IsPlain
plain_device at = tt

-- the two addresses of a line of datagrams
pub split_udp : (rest : List ℕ) (r : Option (Bor (List ℕ) × Bor (List ℕ)))
    (local remote : Bor (List ℕ)) → IsSplitOnceResult 44 rest r → r ≡ Some (local, remote)
    → (rest ≡ rest_of (Udp local remote)) × IsPlain (Udp local remote)
unfolding rest_of IsPlain
split_udp rest r local remote h was =
    split_parts 44 rest (Some (local, remote)) (subst (IsSplitOnceResult 44 rest) was h)
    (omega arith)

pub no_kind : (kind : List ℕ) → kind ≢ codes "connect" → kind ≢ codes "listen" → kind ≢ codes "udp"
    → kind ≢ codes "device" → (name : LineName) → kind ≢ kind_of name
unfolding kind_of
no_kind kind a b c d (Connect _) = a
no_kind kind a b c d (Listen _) = b
no_kind kind a b c d (Udp _ _) = c
no_kind kind a b c d (Device _) = d
