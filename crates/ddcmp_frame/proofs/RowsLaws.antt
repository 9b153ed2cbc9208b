-- Laws of any reading by rows.
use Rattle.std.proofs.Common.{◌≡◌, ℕ, zero, suc, ◌≤◌, List, refl, sym, ◌∙◌, ap, subst, arith}
use Rattle.std.proofs.Common.{Option, Some, None, append_assoc}
use Rattle.ddcmp_frame.specs.Rows.{RowResult, outcome_after, outcome_at_end, read_for, read_rows}
use Rattle.ddcmp_frame.specs.Rows.{Falls}

module _ {I P : Type 0} (row : P → Option (List I × P)) (weight : P → ℕ) (falls : Falls row weight)
  where
    read_for-none : (n : ℕ) (p : P) → row p ≡ None → read_for row n p ≡ outcome_at_end p
    unfolding read_for
    read_for-none zero p e = refl
    read_for-none (suc n) p e = rw (e, read_for) refl

    read_for-some : (n : ℕ) (p : P) (r : List I × P) → row p ≡ Some r
        → read_for row (suc n) p ≡ outcome_after r.0 (read_for row n r.1)
    unfolding read_for
    read_for-some n p r e = rw (e, read_for) refl

    weightless : (p : P) → weight p ≡ 0 → row p ≡ None
    weightless p h = go (row p) refl
      where
        go : (o : Option (List I × P)) → row p ≡ o → row p ≡ None
        go None e = e
        go (Some r) e = absurd (omega (arith, falls p r e))

    enough : (m n : ℕ) (p : P) → weight p ≤ m → weight p ≤ n → read_for row m p ≡ read_for row n p
    unfolding read_for
    enough zero n p a b = sym (read_for-none n p (weightless p (omega arith)))
    enough (suc m) zero p a b = read_for-none (suc m) p (weightless p (omega arith))
    enough (suc m) (suc n) p a b = go (λ q. enough m n q) (row p) refl
      where
        go : ((q : P) → weight q ≤ m → weight q ≤ n → read_for row m q ≡ read_for row n q)
            → (o : Option (List I × P)) → row p ≡ o
            → read_for row (suc m) p ≡ read_for row (suc n) p
        go ih None e = read_for-none (suc m) p e ∙ sym (read_for-none (suc n) p e)
        go ih (Some r) e =
            let k = falls p r e in
            read_for-some m p r e ∙ ap (outcome_after r.0) (ih r.1 (omega arith) (omega arith))
            ∙ sym (read_for-some n p r e)

    pub read-none : (p : P) → row p ≡ None → read_rows row weight p ≡ outcome_at_end p
    unfolding read_rows
    read-none p e = read_for-none (weight p) p e

    pub read-some : (p : P) (r : List I × P) → row p ≡ Some r
        → read_rows row weight p ≡ outcome_after r.0 (read_rows row weight r.1)
    unfolding read_rows
    read-some p r e =
        let k = falls p r e in
        enough (weight p) (suc (weight p)) p (omega arith) (omega arith)
        ∙ read_for-some (weight p) p r e
        ∙ ap (outcome_after r.0) (enough (weight p) (weight r.1) r.1 (omega arith) (omega arith))

    along : (Q : P → RowResult I P → Type 0) → ((p : P) → row p ≡ None → Q p (outcome_at_end p))
        → ((p : P) (r : List I × P) → row p ≡ Some r → Q r.1 (read_rows row weight r.1)
        → Q p (outcome_after r.0 (read_rows row weight r.1))) → (n : ℕ) (p : P) → weight p ≤ n
        → Q p (read_rows row weight p)
    along Q ends goes zero p l =
        let e = weightless p (omega arith) in
        subst (Q p) (sym (read-none p e)) (ends p e)
    along Q ends goes (suc n) p l = go (λ q. along Q ends goes n q) (row p) refl
      where
        go : ((q : P) → weight q ≤ n → Q q (read_rows row weight q)) → (o : Option (List I × P))
            → row p ≡ o → Q p (read_rows row weight p)
        go ih None e = subst (Q p) (sym (read-none p e)) (ends p e)
        go ih (Some r) e =
            let k = falls p r e in
            subst (Q p) (sym (read-some p r e)) (goes p r e (ih r.1 (omega arith)))

    -- induction along a reading
    pub by_rows : (Q : P → RowResult I P → Type 0)
        → ((p : P) → row p ≡ None → Q p (outcome_at_end p))
        → ((p : P) (r : List I × P) → row p ≡ Some r → Q r.1 (read_rows row weight r.1)
        → Q p (outcome_after r.0 (read_rows row weight r.1))) → (p : P)
        → Q p (read_rows row weight p)
    by_rows Q ends goes p = along Q ends goes (weight p) p (omega arith)

    pub ends_stuck : (p : P) → row (read_rows row weight p).place ≡ None
    ends_stuck p = by_rows (λ q o. row o.place ≡ None) (λ q e. e) (λ q r e h. h) p

    -- what is read on from where reading ended, if rows know nothing of what follows
    pub read-more : {U : Type 0} (more : P → U → P)
        → ((p : P) (r : List I × P) (u : U) → row p ≡ Some r
        → row (more p u) ≡ Some (r.0, more r.1 u)) → (p : P) (u : U)
        → read_rows row weight (more p u)
        ≡ outcome_after (read_rows row weight p).items
        (read_rows row weight (more (read_rows row weight p).place u))
    read-more more stable p u =
        by_rows
        (λ q o. read_rows row weight (more q u)
        ≡ outcome_after o.items (read_rows row weight (more o.place u))) (λ q e. refl) (λ q r e h.
        read-some (more q u) (r.0, more r.1 u) (stable q r u e)
        ∙ ap (outcome_after r.0) h
        ∙ ap
        (λ
        x. record {
          items = x;
          place = (read_rows row weight (more (read_rows row weight r.1).place u)).place;
        })
        (sym
        (append_assoc r.0 (read_rows row weight r.1).items
        (read_rows row weight (more (read_rows row weight r.1).place u)).items))) p
