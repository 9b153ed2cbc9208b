-- The links that a run leads to, move by move.
use Rattle.std.proofs.Common.{◌≡◌, ℕ, ◌+◌, ◌-◌, ◌<◌, ◌≤◌, max, true, List, [], ◌∷◌, ◌++◌, length}
use Rattle.std.proofs.Common.{refl, ap, ◌∙◌, subst, arith}
use Rattle.std.specs.Prelude.{if◌then◌else◌, ◌==◌, slice_index_or}
use Rattle.ddcmp_pair.specs.Prefix.{IsPrefixOf}
use Rattle.ddcmp_pair.specs.Link.{Link, Move, Give, Send, Answer, LoseForward, LoseBack}
use Rattle.ddcmp_pair.specs.Link.{ForwardComes, BackComes, new_link, link_of, may_send_position}
use Rattle.ddcmp_pair.specs.Link.{last_count, may_answer}
use Rattle.ddcmp_pair.specs.Link.{message_at, after_move, after_moves}
pub use Rattle.ddcmp_pair.specs.Link.{IsReached}
use Rattle.ddcmp_pair.proofs.Links.{Keeps, keeps-run, rising-ends, rising-last, ahead-ends}

pub reached-keeps : (w : ℕ) (l : Link) → IsReached w l → Keeps w l
reached-keeps w l r = subst (λ k. Keeps w k) r.leads (keeps-run w r.moves)

pub reached-in-order : (w : ℕ) (l : Link) → IsReached w l → IsPrefixOf l.handed_up l.given
reached-in-order w l r = (reached-keeps w l r).prefix

pub reached-counts : (w : ℕ) (l : Link) → IsReached w l
    → (l.acknowledged ≤ length l.handed_up) × (length l.handed_up ≤ l.sent)
    × (l.sent ≤ length l.given)
reached-counts w l r =
    let h = reached-keeps w l r in
    (rising-ends _ _ _ h.rising, ahead-ends _ _ _ _ _ h.ahead, h.has_message)

pub reached-window : (w : ℕ) (l : Link) → IsReached w l → l.sent ≤ l.acknowledged + w
reached-window w l r = (reached-keeps w l r).within

-- ---- moves one after another

pub moves-append : (w : ℕ) (first second : List Move) (l : Link)
    → after_moves w (first ++ second) l ≡ after_moves w second (after_moves w first l)
unfolding after_moves
moves-append w [] second l = refl
moves-append w (m ∷ first) second l = moves-append w first second (after_move w m l)

move-one : (w : ℕ) (m : Move) (l : Link) → after_moves w (m ∷ []) l ≡ after_move w m l
unfolding after_moves
move-one w m l = refl

pub reached-new : (w : ℕ) → IsReached w new_link
unfolding after_moves
reached-new w = record { moves = []; leads = refl }

pub reached-move : (w : ℕ) (m : Move) (l : Link) → IsReached w l → IsReached w (after_move w m l)
reached-move w m l r = record {
  moves = r.moves ++ m ∷ [];
  leads = moves-append w r.moves (m ∷ []) new_link ∙ move-one w m _ ∙ ap (after_move w m) r.leads;
}

reached-to : (w : ℕ) (m : Move) (k l : Link) → after_move w m l ≡ k → IsReached w l → IsReached w k
reached-to w m k l e r = subst (λ j. IsReached w j) e (reached-move w m l r)

-- ---- each move on a link by its parts

module _ (w : ℕ) (given : List (List ℕ)) (acknowledged sent : ℕ) (up : List (List ℕ))
    (forward back : List ℕ) where
  pub reached-give : (m : List ℕ) → IsReached w (link_of given acknowledged sent up forward back)
      → IsReached w (link_of (given ++ m ∷ []) acknowledged sent up forward back)
  reached-give m r = reached-move w (Give m) _ r

  -- a count no less than the last one
  pub reached-answer-less : (q : ℕ) → last_count acknowledged back ≤ q → q ≤ length up
      → IsReached w (link_of given acknowledged sent up forward back)
      → IsReached w (link_of given acknowledged sent up forward (back ++ q ∷ []))
  reached-answer-less q a b r =
      let e : may_answer q (link_of given acknowledged sent up forward back) ≡ true =
      grind (arith) in
      reached-to w (Answer q) _ _
      (ap
      (λ b. if b then link_of given acknowledged sent up forward (back ++ q ∷ [])
      else link_of given acknowledged sent up forward back) e) r

  pub reached-answer : IsReached w (link_of given acknowledged sent up forward back)
      → IsReached w (link_of given acknowledged sent up forward (back ++ length up ∷ []))
  reached-answer r =
      let h = reached-keeps w _ r in
      reached-answer-less (length up) (rising-last acknowledged (length up) back h.rising)
      (omega arith) r

  pub reached-send : (k : ℕ) → acknowledged < k → k ≤ sent + 1 → k ≤ length given
      → k ≤ acknowledged + w
      → IsReached w (link_of given acknowledged sent up forward back)
      → IsReached w (link_of given acknowledged (max sent k) up (forward ++ k ∷ []) back)
  reached-send k a b c d r =
      let e : may_send_position w k (link_of given acknowledged sent up forward back) ≡ true =
      grind (arith) in
      reached-to w (Send k) _ _
      (ap
      (λ b. if b then link_of given acknowledged (max sent k) up (forward ++ k ∷ [])
      back else link_of given acknowledged sent up forward back) e) r

  pub reached-lose-forward : (k : ℕ)
      → IsReached w (link_of given acknowledged sent up (k ∷ forward) back)
      → IsReached w (link_of given acknowledged sent up forward back)
  reached-lose-forward k r = reached-move w (LoseForward 0) _ r

  pub reached-lose-back : (q : ℕ)
      → IsReached w (link_of given acknowledged sent up forward (q ∷ back))
      → IsReached w (link_of given acknowledged sent up forward back)
  reached-lose-back q r = reached-move w (LoseBack 0) _ r

  -- the next position comes
  pub reached-forward : (k : ℕ) → k ≡ length up + 1
      → IsReached w (link_of given acknowledged sent up (k ∷ forward) back)
      → IsReached w
      (link_of given acknowledged sent (up ++ slice_index_or given (length up) [] ∷ [])
      forward back)
  reached-forward k h r =
      let e : (k == length up + 1) ≡ true = grind (arith) in
      let i : k - 1 ≡ length up = omega (arith, h) in
      reached-to w ForwardComes _ _
      (ap
      (λ b. link_of given acknowledged sent (if b then up ++ message_at k given ∷ [] else up)
      forward back) e
      ∙ ap
      (λ j. link_of given acknowledged sent (up ++ slice_index_or given j [] ∷ []) forward back)
      i) r

  pub reached-back : (q : ℕ) → IsReached w (link_of given acknowledged sent up forward (q ∷ back))
      → IsReached w (link_of given (max acknowledged q) sent up forward back)
  reached-back q r = reached-move w BackComes _ r
