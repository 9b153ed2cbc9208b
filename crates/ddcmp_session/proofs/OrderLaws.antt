-- The order of what a session and its devices did at the line.
use Rattle.std.proofs.Common.{◌≡◌, ◌∙◌, ap, sym, refl, ℕ, List, [], ◌∷◌, ◌++◌}
use Rattle.std.proofs.Common.{append_assoc, append-nil, ◌+◌}
use Rattle.ddcmp_session.specs.Traffic.{LineAct, LineLog, Receives, Writes, log_begun, log_with}
use Rattle.ddcmp_session.specs.Traffic.{received, received_by, sent, written_by}
use Rattle.ddcmp_session.specs.Calls.{SessionHistory, SessionStep, after_session_step}
use Rattle.ddcmp_session.specs.Calls.{after_session_steps}
use Rattle.ddcmp_session.specs.Orders.{AreReceipts, Follows, IsBehind, log_after}
use Rattle.ddcmp_session.specs.Orders.{log_over}

pub received-more : (xs ys : List LineAct) → received (xs ++ ys) ≡ received xs ++ received ys
unfolding received
received-more [] ys = refl
received-more (x ∷ xs) ys =
    ap (λ zs. received_by x ++ zs) (received-more xs ys)
    ∙ sym (append_assoc (received_by x) (received xs) (received ys))

pub received-one : (xs : List LineAct) (bytes : List ℕ)
    → received (xs ++ Receives bytes ∷ []) ≡ received xs ++ bytes
unfolding received
received-one xs bytes =
    received-more xs (Receives bytes ∷ []) ∙ ap (λ ys. received xs ++ ys) (append-nil bytes)

pub received-none : (xs : List LineAct) (bytes : List ℕ)
    → received (xs ++ Writes bytes ∷ []) ≡ received xs
unfolding received
received-none xs bytes = received-more xs (Writes bytes ∷ []) ∙ append-nil (received xs)

pub sent-more : (xs ys : List LineAct) → sent (xs ++ ys) ≡ sent xs ++ sent ys
unfolding sent
sent-more [] ys = refl
sent-more (x ∷ xs) ys =
    ap (λ zs. written_by x ++ zs) (sent-more xs ys)
    ∙ sym (append_assoc (written_by x) (sent xs) (sent ys))

pub sent-one : (xs : List LineAct) (bytes : List ℕ)
    → sent (xs ++ Writes bytes ∷ []) ≡ sent xs ++ bytes
unfolding sent
sent-one xs bytes =
    sent-more xs (Writes bytes ∷ []) ∙ ap (λ ys. sent xs ++ ys) (append-nil bytes)

pub sent-none : (xs : List LineAct) (bytes : List ℕ)
    → sent (xs ++ Receives bytes ∷ []) ≡ sent xs
unfolding sent
sent-none xs bytes = sent-more xs (Receives bytes ∷ []) ∙ append-nil (sent xs)

receipts-one : (xs : List LineAct) (bytes : List ℕ) → AreReceipts xs
    → AreReceipts (xs ++ Receives bytes ∷ [])
receipts-one [] bytes are = tt
receipts-one (Receives more ∷ xs) bytes are = receipts-one xs bytes are
receipts-one (Writes more ∷ xs) bytes are = absurd are

cancel : (xs ys zs : List ℕ) → xs ++ ys ≡ xs ++ zs → ys ≡ zs
cancel [] ys zs e = e
cancel (x ∷ xs) ys zs e = let f : xs ++ ys ≡ xs ++ zs = cc in cancel xs ys zs f

-- the devices received more
behind-came : (bytes before : List ℕ) (own acts : List LineAct) → IsBehind before own acts
    → IsBehind before own (acts ++ Receives bytes ∷ [])
behind-came bytes before own [] b = (
  b.0,
  b.1 ++ bytes,
  sym (append_assoc (received own) b.1 bytes) ∙ ap (λ xs. xs ++ bytes) b.2,
)
behind-came bytes before own (Receives more ∷ acts) b =
    behind-came bytes (before ++ more) own acts b
behind-came bytes before own (Writes more ∷ acts) b =
    (b.0, b.1, b.2, b.3, b.4, b.5, behind-came bytes b.2 b.1 acts b.6)

-- the session used some of what they had received
behind-used : (used left before : List ℕ) (own acts : List LineAct) → IsBehind before own acts
    → before ++ received acts ≡ received own ++ (used ++ left)
    → IsBehind before (own ++ Receives used ∷ []) acts
unfolding received
behind-used used left before own [] b e = (
  receipts-one own used b.0,
  left,
  ap (λ xs. xs ++ left) (received-one own used)
      ∙ append_assoc (received own) used left
      ∙ sym e
      ∙ append-nil before,
)
behind-used used left before own (Receives more ∷ acts) b e =
    behind-used used left (before ++ more) own acts b
    (append_assoc before more (received acts) ∙ e)
behind-used used left before own (Writes more ∷ acts) b e =
    let uses = b.0 in
    let rest = b.1 in
    let same : received own ≡ received uses ++ received rest =
    ap received b.3 ∙ received-more uses (Writes more ∷ rest) in
    let then : b.2 ++ received acts ≡ received rest ++ (used ++ left) =
    cancel (received uses) (b.2 ++ received acts) (received rest ++ (used ++ left))
    (sym (append_assoc (received uses) b.2 (received acts))
    ∙ ap (λ xs. xs ++ received acts) b.5
    ∙ e
    ∙ ap (λ xs. xs ++ (used ++ left)) same
    ∙ append_assoc (received uses) (received rest) (used ++ left)) in (
      uses,
      rest ++ Receives used ∷ [],
      b.2,
      ap (λ (xs : List LineAct). xs ++ Receives used ∷ []) b.3
          ∙ append_assoc uses (Writes more ∷ rest) (Receives used ∷ []),
      b.4,
      b.5,
      behind-used used left b.2 rest acts b.6 then,
    )

-- both wrote the same
behind-wrote : (bytes before : List ℕ) (own acts : List LineAct) → IsBehind before own acts
    → IsBehind before (own ++ Writes bytes ∷ []) (acts ++ Writes bytes ∷ [])
unfolding received
behind-wrote bytes before own [] b = (own, [], b.1, refl, b.0, b.2, (tt, b.1, refl))
behind-wrote bytes before own (Receives more ∷ acts) b =
    behind-wrote bytes (before ++ more) own acts b
behind-wrote bytes before own (Writes more ∷ acts) b = (
  b.0,
  b.1 ++ Writes bytes ∷ [],
  b.2,
  ap (λ (xs : List LineAct). xs ++ Writes bytes ∷ []) b.3
      ∙ append_assoc b.0 (Writes more ∷ b.1) (Writes bytes ∷ []),
  b.4,
  b.5,
  behind-wrote bytes b.2 b.1 acts b.6,
)

-- ---- a session and its devices

pub follows-came : (bytes : List ℕ) (own log : LineLog) → Follows own [] log
    → Follows own bytes (log_with (Receives bytes) log)
follows-came bytes own log f = record {
  acts = behind-came bytes [] own.acts log.acts f.acts;
  bytes =
      received-one log.acts bytes
      ∙ ap (λ xs. xs ++ bytes) (f.bytes ∙ append-nil (received own.acts));
  lines = f.lines;
}

pub follows-used : (used left : List ℕ) (own log : LineLog) → Follows own (used ++ left) log
    → Follows (log_with (Receives used) own) left log
follows-used used left own log f = record {
  acts = behind-used used left [] own.acts log.acts f.acts f.bytes;
  bytes =
      f.bytes
      ∙ sym (append_assoc (received own.acts) used left)
      ∙ ap (λ xs. xs ++ left) (sym (received-one own.acts used));
  lines = f.lines;
}

pub follows-wrote : (bytes left : List ℕ) (own log : LineLog) → Follows own left log
    → Follows (log_with (Writes bytes) own) left (log_with (Writes bytes) log)
follows-wrote bytes left own log f = record {
  acts = behind-wrote bytes [] own.acts log.acts f.acts;
  bytes =
      received-none log.acts bytes ∙ f.bytes
      ∙ ap (λ xs. xs ++ left) (sym (received-none own.acts bytes));
  lines = f.lines;
}

pub follows-begun : (left : List ℕ) (own log : LineLog) → Follows own left log
    → Follows (log_begun own) [] (log_begun log)
unfolding received
follows-begun left own log f = record {
  acts = (tt, [], refl);
  bytes = refl;
  lines = ap (λ n. n + 1) f.lines;
}

-- ---- one after another

pub log-then : (xs ys : List SessionStep) (h : SessionHistory) (log : LineLog)
    → log_over (xs ++ ys) h.session log
    ≡ log_over ys (after_session_steps xs h).session (log_over xs h.session log)
unfolding log_over after_session_steps
log-then [] ys h log = refl
log-then (x ∷ xs) ys h log =
    log-then xs ys (after_session_step x h) (log_after x.call h.session log)
