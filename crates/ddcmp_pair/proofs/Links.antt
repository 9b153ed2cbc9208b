-- What every move on a link keeps: the order of what is in flight.
use Rattle.std.proofs.Common.{◌≡◌, ℕ, zero, suc, ◌+◌, ◌-◌, ◌<◌, ◌≤◌, max, Bool, true, false, List}
use Rattle.std.proofs.Common.{[], ◌∷◌, ◌++◌, length, refl, sym, ap, subst, ◌∙◌, arith, append_assoc}
use Rattle.std.proofs.Common.{◌%◌}
use Rattle.std.proofs.Common.{length-append}
use Rattle.std.specs.Prelude.{if◌then◌else◌, ◌==◌, remove, slice_index_or}
use Rattle.ddcmp_pair.specs.Prefix.{IsPrefixOf}
use Rattle.ddcmp_pair.specs.Link.{Link, Move, Give, Send, Answer, LoseForward, LoseBack}
use Rattle.ddcmp_pair.specs.Link.{ForwardComes, BackComes, new_link, may_send_position}
use Rattle.ddcmp_pair.specs.Link.{last_count, may_answer}
use Rattle.ddcmp_pair.specs.Link.{after_send_position, message_at, handed_up_by}
use Rattle.ddcmp_pair.specs.Link.{after_forward_comes, after_back_comes, after_move, after_moves}

-- ---- the invariant

-- Positions in flight, where u messages are delivered, n is the highest position sent and at
-- most `most` messages may be delivered when the first of these arrives: each position is less than
-- a window behind what may be delivered then, and at most a window ahead of what is delivered now.
abbrev pub Ahead : ℕ → ℕ → ℕ → ℕ → List ℕ → Type 0
Ahead w u n most [] = most ≤ n
Ahead w u n most (k ∷ ks) =
    (0 < k) × (most < k + w) × (k ≤ u + w) × (k ≤ n) × Ahead w u n (max most k) ks

-- numbers that never fall, from `low` to `high`
abbrev pub Rising : ℕ → ℕ → List ℕ → Type 0
Rising low high [] = low ≤ high
Rising low high (q ∷ qs) = (low ≤ q) × Rising q high qs

pub record Keeps (w : ℕ) (l : Link) : Type 0 where
  pub prefix : IsPrefixOf l.handed_up l.given
  pub within : l.sent ≤ l.acknowledged + w
  pub has_message : l.sent ≤ length l.given
  pub ahead : Ahead w (length l.handed_up) l.sent (length l.handed_up) l.forward
  pub rising : Rising l.acknowledged (length l.handed_up) l.back

-- ---- numbers delivered, in flight back

pub rising-low : (low lower high : ℕ) (qs : List ℕ) → lower ≤ low → Rising low high qs
    → Rising lower high qs
rising-low low lower high [] h r = omega arith
rising-low low lower high (q ∷ qs) h r = (omega arith, r.1)

pub rising-high : (low high higher : ℕ) (qs : List ℕ) → high ≤ higher → Rising low high qs
    → Rising low higher qs
rising-high low high higher [] h r = omega arith
rising-high low high higher (q ∷ qs) h r = (r.0, rising-high q high higher qs h r.1)

pub rising-ends : (low high : ℕ) (qs : List ℕ) → Rising low high qs → low ≤ high
rising-ends low high [] r = r
rising-ends low high (q ∷ qs) r = omega (arith, rising-ends q high qs r.1, r.0)

pub rising-more : (low high k : ℕ) (qs : List ℕ) → last_count low qs ≤ k → k ≤ high
    → Rising low high qs → Rising low high (qs ++ k ∷ [])
unfolding last_count
rising-more low high k [] a b r = (a, b)
rising-more low high k (q ∷ qs) a b r = (r.0, rising-more q high k qs a b r.1)

pub rising-last : (low high : ℕ) (qs : List ℕ) → Rising low high qs → last_count low qs ≤ high
unfolding last_count
rising-last low high [] r = r
rising-last low high (q ∷ qs) r = rising-last q high qs r.1

pub rising-after : (low high : ℕ) (lost qs : List ℕ) → Rising low high (lost ++ qs)
    → Rising low high qs
rising-after low high [] qs r = r
rising-after low high (q ∷ lost) qs r =
    rising-low q low high qs r.0 (rising-after q high lost qs r.1)

rising-remove : (low high i : ℕ) (qs : List ℕ) → Rising low high qs → Rising low high (remove qs i)
rising-remove low high zero [] r = r
rising-remove low high (suc i) [] r = r
rising-remove low high zero (q ∷ qs) r = rising-low q low high qs r.0 r.1
rising-remove low high (suc i) (q ∷ qs) r = (r.0, rising-remove q high i qs r.1)

-- ---- positions in flight

-- more is delivered and sent, and less may be delivered when the first arrives
ahead-more : (w u up n sent most less : ℕ) (ks : List ℕ) → u ≤ up → n ≤ sent → less ≤ most
    → Ahead w u n most ks → Ahead w up sent less ks
ahead-more w u up n sent most less [] h g e r = omega arith
ahead-more w u up n sent most less (k ∷ ks) h g e r = (
  r.0,
  omega arith,
  omega arith,
  omega arith,
  ahead-more w u up n sent (max most k) (max less k) ks h g (omega arith) r.4,
)

pub ahead-ends : (w u n most : ℕ) (ks : List ℕ) → Ahead w u n most ks → most ≤ n
ahead-ends w u n most [] r = r
ahead-ends w u n most (k ∷ ks) r = omega (arith, ahead-ends w u n (max most k) ks r.4)

ahead-send : (w u n most k : ℕ) (ks : List ℕ) → 0 < k → n < k + w → k ≤ u + w → Ahead w u n most ks
    → Ahead w u (max n k) most (ks ++ k ∷ [])
ahead-send w u n most k [] p h g r = (p, omega arith, g, omega arith, omega arith)
ahead-send w u n most k (j ∷ ks) p h g r =
    (r.0, r.1, r.2, omega arith, ahead-send w u n (max most j) k ks p h g r.4)

ahead-remove : (w u n most i : ℕ) (ks : List ℕ) → Ahead w u n most ks
    → Ahead w u n most (remove ks i)
ahead-remove w u n most zero [] r = r
ahead-remove w u n most (suc i) [] r = r
ahead-remove w u n most zero (k ∷ ks) r =
    ahead-more w u u n n (max most k) most ks (omega arith) (omega arith) (omega arith) r.4
ahead-remove w u n most (suc i) (k ∷ ks) r =
    (r.0, r.1, r.2, r.3, ahead-remove w u n (max most k) i ks r.4)

-- ---- beginnings of lists

prefix-next : (up given : List (List ℕ)) → length up < length given → IsPrefixOf up given
    → IsPrefixOf (up ++ slice_index_or given (length up) [] ∷ []) given
prefix-next [] [] h p = absurd (omega arith)
prefix-next [] (m ∷ given) h p = (given, refl)
prefix-next (x ∷ up) [] h p = absurd (omega arith)
prefix-next (x ∷ up) (m ∷ given) h p =
    let rest : List (List ℕ) = p.0 in
    let e : x ∷ (up ++ rest) ≡ m ∷ given = p.1 in
    let t : up ++ rest ≡ given = cc in
    let r = prefix-next up given (omega arith) (rest, t) in
    let s = r.1 in
    (r.0, cc)

prefix-give : (up given : List (List ℕ)) (m : List ℕ) → IsPrefixOf up given
    → IsPrefixOf up (given ++ m ∷ [])
prefix-give up given m p =
    (p.0 ++ m ∷ [], sym (append_assoc up p.0 (m ∷ [])) ∙ ap (λ t. t ++ m ∷ []) p.1)

-- ---- each move

keeps-new : (w : ℕ) → Keeps w new_link
keeps-new w =
    record {
      prefix = ([], refl);
      within = omega arith;
      has_message = omega arith;
      ahead = omega arith;
      rising = omega arith;
    }

keeps-give : (w : ℕ) (l : Link) (m : List ℕ) → Keeps w l
    → Keeps w (record l { given = l.given ++ m ∷ [] })
keeps-give w l m h = record {
  prefix = prefix-give l.handed_up l.given m h.prefix;
  within = h.within;
  has_message = omega (arith, h.has_message, length-append l.given (m ∷ []));
  ahead = h.ahead;
  rising = h.rising;
}

keeps-answer : (w q : ℕ) (l : Link) → last_count l.acknowledged l.back ≤ q
    → q ≤ length l.handed_up → Keeps w l
    → Keeps w (record l { back = l.back ++ q ∷ [] })
keeps-answer w q l a b h = record {
  prefix = h.prefix;
  within = h.within;
  has_message = h.has_message;
  ahead = h.ahead;
  rising = rising-more l.acknowledged (length l.handed_up) q l.back a b h.rising;
}

keeps-lose-forward : (w : ℕ) (l : Link) (i : ℕ) → Keeps w l
    → Keeps w (record l { forward = remove l.forward i })
keeps-lose-forward w l i h = record {
  prefix = h.prefix;
  within = h.within;
  has_message = h.has_message;
  ahead = ahead-remove w (length l.handed_up) l.sent (length l.handed_up) i l.forward h.ahead;
  rising = h.rising;
}

keeps-lose-back : (w : ℕ) (l : Link) (i : ℕ) → Keeps w l
    → Keeps w (record l { back = remove l.back i })
keeps-lose-back w l i h = record {
  prefix = h.prefix;
  within = h.within;
  has_message = h.has_message;
  ahead = h.ahead;
  rising = rising-remove l.acknowledged (length l.handed_up) i l.back h.rising;
}

may-send-means : (w k : ℕ) (l : Link) → may_send_position w k l ≡ true
    → (l.acknowledged < k) × (k ≤ l.sent + 1) × (k ≤ length l.given) × (k ≤ l.acknowledged + w)
may-send-means w k l e = grind (arith)

keeps-send : (w k : ℕ) (l : Link) → may_send_position w k l ≡ true → Keeps w l
    → Keeps w (after_send_position k l)
keeps-send w k l e h =
    let m = may-send-means w k l e in
    let u = length l.handed_up in
    let low : l.acknowledged ≤ u = rising-ends l.acknowledged u l.back h.rising in
    record {
      prefix = h.prefix;
      within = omega (arith, m.3, h.within);
      has_message = omega (arith, m.2, h.has_message);
      ahead =
          ahead-send w u l.sent u k l.forward (omega (arith, m.0)) (omega (arith, m.0, h.within))
          (omega (arith, m.3, low)) h.ahead;
      rising = h.rising;
    }

-- what is delivered once a position came: the next message too, or no more than before
data HandsUp (given up : List (List ℕ)) (k : ℕ) : List (List ℕ) → Type 0 where
  next : k ≡ length up + 1 → HandsUp given up k (up ++ slice_index_or given (length up) [] ∷ [])
  other : HandsUp given up k up

hands-up : (k : ℕ) (l : Link) → HandsUp l.given l.handed_up k (handed_up_by k l)
hands-up k l = by (k == length l.handed_up + 1) refl
  where
    by : (b : Bool) → (k == length l.handed_up + 1) ≡ b
        → HandsUp l.given l.handed_up k
        (if b then l.handed_up ++ message_at k l.given ∷ [] else l.handed_up)
    by true e =
        let n : k ≡ length l.handed_up + 1 = grind arith in
        let i : length l.handed_up ≡ k - 1 = omega (arith, n) in
        subst (λ j. HandsUp l.given l.handed_up k (l.handed_up ++ slice_index_or l.given j [] ∷ []))
        i (next n)
    by false e = other

keeps-forward : (w k : ℕ) (ks : List ℕ) (l : Link) (up : List (List ℕ)) → l.forward ≡ k ∷ ks
    → HandsUp l.given l.handed_up k up
    → Keeps w l → Keeps w (record l { handed_up = up; forward = ks })
keeps-forward w k ks l _ f (next e) h =
    let u = length l.handed_up in
    let m = slice_index_or l.given u [] in
    let a : Ahead w u l.sent u (k ∷ ks) = rw f at h.ahead in
    let more : length (l.handed_up ++ m ∷ []) ≡ u + 1 = length-append l.handed_up (m ∷ []) in
    record {
      prefix = prefix-next l.handed_up l.given (omega (arith, a.3, h.has_message, e)) h.prefix;
      within = h.within;
      has_message = h.has_message;
      ahead =
          ahead-more w u _ l.sent l.sent (max u k) _ ks (omega (arith, more)) (omega arith)
          (omega (arith, more, e)) a.4;
      rising = rising-high l.acknowledged u _ l.back (omega (arith, more)) h.rising;
    }
keeps-forward w k ks l _ f other h =
    let u = length l.handed_up in
    let a : Ahead w u l.sent u (k ∷ ks) = rw f at h.ahead in
    record {
      prefix = h.prefix;
      within = h.within;
      has_message = h.has_message;
      ahead =
          ahead-more w u u l.sent l.sent (max u k) u ks (omega arith) (omega arith) (omega arith)
          a.4;
      rising = h.rising;
    }

keeps-back : (w q : ℕ) (qs : List ℕ) (l : Link) → l.back ≡ q ∷ qs → Keeps w l
    → Keeps w (record l { acknowledged = max l.acknowledged q; back = qs })
keeps-back w q qs l f h =
    let u = length l.handed_up in
    let r : Rising l.acknowledged u (q ∷ qs) = rw f at h.rising in
    record {
      prefix = h.prefix;
      within = omega (arith, h.within);
      has_message = h.has_message;
      ahead = h.ahead;
      rising = rising-low q (max l.acknowledged q) u qs (omega (arith, r.0)) r.1;
    }

keeps-move : (w : ℕ) (m : Move) (l : Link) → Keeps w l → Keeps w (after_move w m l)
keeps-move w (Give message) l h = keeps-give w l message h
keeps-move w (Send k) l h = by (may_send_position w k l) refl
  where
    by : (b : Bool) → may_send_position w k l ≡ b
        → Keeps w (if b then after_send_position k l else l)
    by true e = keeps-send w k l e h
    by false e = h
keeps-move w (Answer q) l h = by (may_answer q l) refl
  where
    by : (b : Bool) → may_answer q l ≡ b
        → Keeps w (if b then record l { back = l.back ++ q ∷ [] } else l)
    by true e =
        let m : (last_count l.acknowledged l.back ≤ q) × (q ≤ length l.handed_up) =
        grind (arith) in
        keeps-answer w q l m.0 m.1 h
    by false e = h
keeps-move w (LoseForward i) l h = keeps-lose-forward w l i h
keeps-move w (LoseBack i) l h = keeps-lose-back w l i h
keeps-move w ForwardComes l h = by l.forward refl
  where
    by : (ks : List ℕ) → l.forward ≡ ks → Keeps w (after_forward_comes ks l)
    by [] e = h
    by (k ∷ ks) e = keeps-forward w k ks l (handed_up_by k l) e (hands-up k l) h
keeps-move w BackComes l h = by l.back refl
  where
    by : (qs : List ℕ) → l.back ≡ qs → Keeps w (after_back_comes qs l)
    by [] e = h
    by (q ∷ qs) e = keeps-back w q qs l e h

-- ---- each run

keeps-moves : (w : ℕ) (moves : List Move) (l : Link) → Keeps w l → Keeps w (after_moves w moves l)
unfolding after_moves
keeps-moves w [] l h = h
keeps-moves w (m ∷ moves) l h = keeps-moves w moves (after_move w m l) (keeps-move w m l h)

pub keeps-run : (w : ℕ) (moves : List Move) → Keeps w (after_moves w moves new_link)
keeps-run w moves = keeps-moves w moves new_link (keeps-new w)
