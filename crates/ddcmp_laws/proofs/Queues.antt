-- Which received messages were delivered: those taken from the link, and after them the first of
-- its inbox, whose text isn't written yet.
use Rattle.std.proofs.Common.{◌≡◌, ◌∙◌, ℕ, zero, suc, ◌+◌, ◌-◌, ◌≤◌, Bool, true, false, cond, List}
use Rattle.std.proofs.Common.{[], ◌∷◌, ◌++◌, length, take, drop, ap, sym, subst, refl, arith}
use Rattle.std.proofs.Common.{append-nil, append_assoc, length-append, option_to_list, Some}
use Rattle.std.proofs.lemmas.List.{take-append-drop}
use Rattle.ddcmp_window.specs.Store.{first_message}
use Rattle.ddcmp_session.specs.Calls.{Shown}
use Rattle.ddcmp_session.specs.Session.{SessionView}
use Rattle.ddcmp_laws.specs.Sessions.{mail_in}
use Rattle.ddcmp_laws.proofs.Inboxes.{Adds}

-- ---- lists

pub take-none : (n : ℕ) → take {A = List ℕ} n [] ≡ []
take-none zero = refl
take-none (suc n) = refl

pub take-all : (n : ℕ) (xs : List (List ℕ)) → length xs ≤ n → take n xs ≡ xs
take-all n [] le = take-none n
take-all zero (x ∷ xs) le = absurd (omega (arith, le))
take-all (suc n) (x ∷ xs) le = ap (λ ys. x ∷ ys) (take-all n xs (omega (arith, le)))

pub take-first : (n : ℕ) (xs ys : List (List ℕ)) → n ≤ length xs → take n (xs ++ ys) ≡ take n xs
take-first zero xs ys le = refl
take-first (suc n) [] ys le = absurd (omega (arith, le))
take-first (suc n) (x ∷ xs) ys le = ap (λ zs. x ∷ zs) (take-first n xs ys (omega (arith, le)))

-- the message after the first n of them
pub take-next : (n : ℕ) (xs : List (List ℕ)) (m : List ℕ) → first_message (drop n xs) ≡ Some m
    → (suc n ≤ length xs) × (take (suc n) xs ≡ take n xs ++ m ∷ [])
take-next zero [] m is = absurd (cc is)
take-next (suc n) [] m is = absurd (cc is)
take-next zero (x ∷ xs) m is = (omega arith, ap (λ y. y ∷ []) (same is))
  where
    same : {a b : List ℕ} → Some a ≡ Some b → a ≡ b
    same e = cc
take-next (suc n) (x ∷ xs) m is =
    let r = take-next n xs m is in
    let le = r.0 in
    (omega (arith, le), ap (λ ys. x ∷ ys) r.1)

pub take-one-more : (xs : List (List ℕ)) (n : ℕ)
    → option_to_list (first_message xs) ++ take n (drop 1 xs) ≡ take (suc n) xs
take-one-more [] n = take-none n
take-one-more (x ∷ xs) n = refl

pub drop-one-more : (xs : List (List ℕ)) (n : ℕ) → drop n (drop 1 xs) ≡ drop (suc n) xs
drop-one-more [] zero = refl
drop-one-more [] (suc n) = refl
drop-one-more (x ∷ xs) n = refl

-- ---- what was delivered

-- those of the delivered messages that were taken: the rest are `u`
abbrev pub but_last : ℕ → List (List ℕ) → List (List ℕ)
but_last u mail = take (length mail - u) mail

pub record Queues (u : ℕ) (inbox mail : List (List ℕ)) : Type 0 where
  pub few : u ≤ length inbox
  pub is : mail ≡ but_last u mail ++ take u inbox

pub but-none : (mail : List (List ℕ)) → but_last 0 mail ≡ mail
but-none mail = take-all (length mail - 0) mail (omega arith)

pub queues-none : (inbox mail : List (List ℕ)) → Queues 0 inbox mail
queues-none inbox mail = record {
  few = omega arith;
  is = sym (but-none mail) ∙ sym (append-nil (but_last 0 mail));
}

pub queues-grown : (u : ℕ) (inbox more mail : List (List ℕ)) → Queues u inbox mail
    → Queues u (inbox ++ more) mail
queues-grown u inbox more mail q = record {
  few = let few = q.few in let n = length-append inbox more in omega (arith, few, n);
  is = q.is ∙ ap (λ ms. but_last u mail ++ ms) (sym (take-first u inbox more q.few));
}

pub but-next : (u : ℕ) (mail : List (List ℕ)) (m : List ℕ)
    → but_last (u + 1) (mail ++ m ∷ []) ≡ but_last u mail
but-next u mail m =
    ap (λ n. take n (mail ++ m ∷ [])) count
    ∙ take-first (length mail - u) mail (m ∷ []) (omega arith)
  where
    count : length (mail ++ m ∷ []) - (u + 1) ≡ length mail - u
    count = let n = length-append mail (m ∷ []) in omega (arith, n)

pub queues-next : (u : ℕ) (inbox mail : List (List ℕ)) (m : List ℕ) → Queues u inbox mail
    → first_message (drop u inbox) ≡ Some m → Queues (u + 1) inbox (mail ++ m ∷ [])
queues-next u inbox mail m q is =
    let next = take-next u inbox m is in
    let le = next.0 in
    let more : u + 1 ≡ suc u = omega arith in
    record {
      few = omega (arith, le);
      is =
          ap (λ ms. ms ++ m ∷ []) q.is
          ∙ append_assoc (but_last u mail) (take u inbox) (m ∷ [])
          ∙ ap (λ ms. but_last u mail ++ ms) (sym next.1)
          ∙ ap (λ ms. ms ++ take (suc u) inbox) (sym (but-next u mail m))
          ∙ ap (λ n. but_last (u + 1) (mail ++ m ∷ []) ++ take n inbox) (sym more);
    }

-- ---- of a session

abbrev pub inbox_of : SessionView → List (List ℕ)
inbox_of s = s.link.station.core.station.inbox

abbrev pub taken_of : SessionView → List Shown → List (List ℕ)
taken_of s shown = but_last s.unwritten (mail_in shown)

abbrev pub IsQueued : SessionView → List Shown → Type 0
IsQueued s shown = Queues s.unwritten (inbox_of s) (mail_in shown)

-- a call that takes no message and delivers none
pub record IsKept (old : SessionView) (before : List Shown) (new : SessionView)
    (after : List Shown) : Type 0 where
  pub left : new.unwritten ≡ old.unwritten
  pub inbox : Adds (inbox_of old) (inbox_of new)
  pub mail : mail_in after ≡ mail_in before

pub taken_kept : (old new : SessionView) (before after : List Shown)
    → IsKept old before new after → taken_of new after ≡ taken_of old before
taken_kept old new before after k = λ i. but_last (k.left i) (k.mail i)

pub queued_kept : (old new : SessionView) (before after : List Shown)
    → IsKept old before new after → IsQueued old before → IsQueued new after
queued_kept old new before after k q =
    subst (λ n. Queues n (inbox_of new) (mail_in after)) (sym k.left)
    (subst (λ ms. Queues old.unwritten (inbox_of new) ms) (sym k.mail)
    (subst (λ ms. Queues old.unwritten ms (mail_in before)) (sym k.inbox.1)
    (queues-grown old.unwritten (inbox_of old) k.inbox.0 (mail_in before) q)))

-- what some taken messages leave
pub record IsTaken (n : ℕ) (old : SessionView) (before : List Shown) (new : SessionView)
    (after : List Shown) : Type 0 where
  pub queued : IsQueued new after
  pub taken : taken_of new after ≡ taken_of old before ++ take n (inbox_of old)

-- all of which the text was written, or none
pub taken_written : (b : Bool) (old new : SessionView) (before after : List Shown)
    → IsQueued old before → mail_in after ≡ mail_in before
    → new.unwritten ≡ old.unwritten - cond b old.unwritten 0
    → inbox_of new ≡ drop (cond b old.unwritten 0) (inbox_of old)
    → IsTaken (cond b old.unwritten 0) old before new after
taken_written true old new before after q mail left inbox =
    let none : new.unwritten ≡ 0 = left ∙ omega arith in
    record {
      queued =
          subst (λ n. Queues n (inbox_of new) (mail_in after)) (sym none)
          (queues-none (inbox_of new) (mail_in after));
      taken =
          ap (λ n. but_last n (mail_in after)) none ∙ but-none (mail_in after) ∙ mail ∙ q.is;
    }
taken_written false old new before after q mail left inbox =
    let same : new.unwritten ≡ old.unwritten = left ∙ omega arith in
    record {
      queued =
          subst (λ n. Queues n (inbox_of new) (mail_in after)) (sym same)
          (subst (λ ms. Queues old.unwritten ms (mail_in after)) (sym inbox)
          (subst (λ ms. Queues old.unwritten (inbox_of old) ms) (sym mail) q));
      taken = (λ i. but_last (same i) (mail i)) ∙ sym (append-nil (taken_of old before));
    }

-- the next message was delivered, and all were taken, or none
pub taken_next : (b : Bool) (old new : SessionView) (before after : List Shown) (m : List ℕ)
    → IsQueued old before → first_message (drop old.unwritten (inbox_of old)) ≡ Some m
    → mail_in after ≡ mail_in before ++ m ∷ []
    → new.unwritten ≡ old.unwritten + 1 - cond b (old.unwritten + 1) 0
    → inbox_of new ≡ drop (cond b (old.unwritten + 1) 0) (inbox_of old)
    → IsTaken (cond b (old.unwritten + 1) 0) old before new after
taken_next true old new before after m q is mail left inbox =
    let none : new.unwritten ≡ 0 = left ∙ omega arith in
    let one = queues-next old.unwritten (inbox_of old) (mail_in before) m q is in
    record {
      queued =
          subst (λ n. Queues n (inbox_of new) (mail_in after)) (sym none)
          (queues-none (inbox_of new) (mail_in after));
      taken =
          ap (λ n. but_last n (mail_in after)) none ∙ but-none (mail_in after) ∙ mail ∙ one.is
          ∙ ap (λ ms. ms ++ take (old.unwritten + 1) (inbox_of old))
          (but-next old.unwritten (mail_in before) m);
    }
taken_next false old new before after m q is mail left inbox =
    let same : new.unwritten ≡ old.unwritten + 1 = left ∙ omega arith in
    let one = queues-next old.unwritten (inbox_of old) (mail_in before) m q is in
    record {
      queued =
          subst (λ n. Queues n (inbox_of new) (mail_in after)) (sym same)
          (subst (λ ms. Queues (old.unwritten + 1) ms (mail_in after)) (sym inbox)
          (subst (λ ms. Queues (old.unwritten + 1) (inbox_of old) ms) (sym mail) one));
      taken =
          (λ i. but_last (same i) (mail i)) ∙ but-next old.unwritten (mail_in before) m
          ∙ sym (append-nil (taken_of old before));
    }

-- what the whole of it is
pub all_of : (s : SessionView) (shown : List Shown) → IsQueued s shown
    → mail_in shown ++ drop s.unwritten (inbox_of s) ≡ taken_of s shown ++ inbox_of s
all_of s shown q =
    ap (λ ms. ms ++ drop s.unwritten (inbox_of s)) q.is
    ∙ append_assoc (taken_of s shown) (take s.unwritten (inbox_of s))
    (drop s.unwritten (inbox_of s))
    ∙ ap (λ ms. taken_of s shown ++ ms) (take-append-drop s.unwritten (inbox_of s))
