-- What one more byte of a piece makes of what was decoded.
use Rattle.std.proofs.Common.{◌≡◌, ℕ, ◌+◌, ◌*◌, ◌<◌, ◌≤◌, true, false, List, [], ◌∷◌, ◌++◌, length}
use Rattle.std.proofs.Common.{take, drop, set, map, get_or, refl, sym, ◌∙◌, ap, arith, Option, Some}
use Rattle.std.proofs.Common.{None, length-append, length-take-le, append_assoc}
use Rattle.std.specs.Prelude.{option_to_list}
use Rattle.std.proofs.lemmas.List.{append-nil, take_more, take_more_set, take-append-drop}
use Rattle.std.proofs.Math.Seq.{take-add}
use Rattle.std.proofs.lemmas.Simd.{length-chunk}
use lib.Lanes.{chunk, Each1}
use Rattle.ddcmp_explain.specs.declared.form.Form.TheVariants.{Hex}
use Rattle.ddcmp_explain.specs.Digits.{hex_value, is_blank, is_readable, first_unexpected, digits}
use Rattle.ddcmp_explain.specs.Digits.{pairs, left_over, spelled}
use Rattle.ddcmp_explain.specs.Inside.Decoding.{Decodes}
use Rattle.ddcmp_explain.proofs.DigitLaws.{readable-more, unexpected-here, unexpected-more}
use Rattle.ddcmp_explain.proofs.DigitLaws.{digits-more, digits-found, digits-blank}
use Rattle.ddcmp_explain.proofs.DigitLaws.{digits-unexpected, digits-digit, pairs-held, pairs-whole}
use Rattle.ddcmp_explain.proofs.DigitLaws.{readable-digit, readable-blank, readable-neither}
use Rattle.ddcmp_explain.proofs.DigitLaws.{unexpected-none, digits-none}
use Rattle.ddcmp_io.proofs.VectorLaws.{sixteen}

module _ (seen piece bytes : List ℕ) (i n : ℕ) (high : Option ℕ) (inside : i < length piece)
    (so_far : Decodes Hex seen (take i piece) (record { count = n; unexpected = None }) bytes high)
  where
    -- what was read, and the next byte
    abbrev before : List ℕ
    before = seen ++ take i piece

    abbrev byte : ℕ
    byte = get_or piece i 0

    next : before ++ byte ∷ [] ≡ seen ++ take (i + 1) piece
    next =
        append_assoc seen (take i piece) (byte ∷ [])
        ∙ ap (λ t. seen ++ t) (sym (take_more piece i 0 inside))

    -- the digits that the next byte adds
    goes : (m : ℕ) (after : List ℕ) (next_high : Option ℕ) (more : List ℕ) → is_readable byte ≡ true
        → pairs (digits before ++ digits (byte ∷ [])) ≡ pairs (digits before) ++ more
        → take n bytes ++ more ≡ take m after
        → left_over (digits before ++ digits (byte ∷ [])) ≡ option_to_list next_high
        → Decodes Hex seen (take (i + 1) piece) (record { count = m; unexpected = None }) after
        next_high
    goes m after next_high more r whole taken left =
        let all : digits (seen ++ take (i + 1) piece) ≡ digits before ++ digits (byte ∷ []) =
        ap digits (sym next) ∙ digits-more before (byte ∷ []) so_far.unexpected in
        record {
          whole =
              ap pairs all ∙ whole ∙ ap (λ t. t ++ more) so_far.whole
              ∙ append_assoc (spelled seen) (take n bytes) more
              ∙ ap (λ t. spelled seen ++ t) taken;
          unexpected =
              ap first_unexpected (sym next) ∙ readable-more before byte so_far.unexpected r;
          left = λ _. ap left_over all ∙ left;
        }

    kept : (m : ℕ) (after : List ℕ) → m ≡ n → after ≡ bytes → take n bytes ++ [] ≡ take m after
    kept m after em eb =
        append-nil (take n bytes) ∙ ap (λ k. take k bytes) (sym em) ∙ ap (take m) (sym eb)

    pub decodes-blank : (m : ℕ) (after : List ℕ) (next_high : Option ℕ) → is_blank byte ≡ true
        → hex_value byte ≡ None → m ≡ n → after ≡ bytes → next_high ≡ high
        → Decodes Hex seen (take (i + 1) piece) (record { count = m; unexpected = None }) after
        next_high
    decodes-blank m after next_high b e em eb eh =
        let r = readable-blank byte b in
        let same : digits before ++ digits (byte ∷ []) ≡ digits before =
        ap (λ t. digits before ++ t) (digits-blank byte r e) ∙ append-nil (digits before) in
        goes m after next_high [] r (ap pairs same ∙ sym (append-nil (pairs (digits before))))
        (kept m after em eb) (ap left_over same ∙ so_far.left refl ∙ ap option_to_list (sym eh))

    pub decodes-high : (v m : ℕ) (after : List ℕ) (next_high : Option ℕ) → hex_value byte ≡ Some v
        → high ≡ None → m ≡ n → after ≡ bytes → next_high ≡ Some v
        → Decodes Hex seen (take (i + 1) piece) (record { count = m; unexpected = None }) after
        next_high
    decodes-high v m after next_high e none em eb eh =
        let r = readable-digit byte v e in
        let held = pairs-held (digits before) v (so_far.left refl ∙ ap option_to_list none) in
        let digit = ap (λ t. digits before ++ t) (digits-digit byte v r e) in
        goes m after next_high [] r
        (ap pairs digit ∙ held.0 ∙ sym (append-nil (pairs (digits before)))) (kept m after em eb)
        (ap left_over digit ∙ held.1 ∙ ap option_to_list (sym eh))

    pub decodes-low : (v h m : ℕ) (after : List ℕ) (next_high : Option ℕ) → hex_value byte ≡ Some v
        → high ≡ Some h → n < length bytes → m ≡ n + 1 → after ≡ set bytes n (h * 16 + v)
        → next_high ≡ None
        → Decodes Hex seen (take (i + 1) piece) (record { count = m; unexpected = None }) after
        next_high
    decodes-low v h m after next_high e some room em eb eh =
        let r = readable-digit byte v e in
        let whole = pairs-whole (digits before) h v (so_far.left refl ∙ ap option_to_list some) in
        let digit = ap (λ t. digits before ++ t) (digits-digit byte v r e) in
        goes m after next_high ((h * 16 + v) ∷ []) r (ap pairs digit ∙ whole.0)
        (sym (ap (λ k. take k after) em ∙ ap (take (n + 1)) eb
        ∙ take_more_set bytes n (h * 16 + v) room))
        (ap left_over digit ∙ whole.1 ∙ ap option_to_list (sym eh))

    -- a byte that is no digit ends the piece
    pub decodes-unexpected : is_blank byte ≡ false → hex_value byte ≡ None
        → Decodes Hex seen piece (record { count = n; unexpected = Some i }) bytes high
    decodes-unexpected b e =
        let r = readable-neither byte b e in
        let found = unexpected-here before byte so_far.unexpected r in
        let all : (before ++ byte ∷ []) ++ drop (i + 1) piece ≡ seen ++ piece =
        ap (λ t. t ++ drop (i + 1) piece) next
        ∙ append_assoc seen (take (i + 1) piece) (drop (i + 1) piece)
        ∙ ap (λ t. seen ++ t) (take-append-drop (i + 1) piece) in
        let within = length-take-le i piece (omega (arith, inside)) in
        let here : length before ≡ length seen + i =
        length-append seen (take i piece) ∙ omega (arith, within) in
        let same =
        digits-more before (byte ∷ []) so_far.unexpected
        ∙ ap (λ t. digits before ++ t) (digits-unexpected byte r)
        ∙ append-nil (digits before) in
        record {
          whole =
              ap spelled (sym all)
              ∙ ap pairs
              (digits-found (before ++ byte ∷ []) (drop (i + 1) piece) (length before) found
              ∙ same)
              ∙ so_far.whole;
          unexpected =
              ap first_unexpected (sym all)
              ∙ unexpected-more (before ++ byte ∷ []) (drop (i + 1) piece) (length before) found
              ∙ ap Some here;
          left = λ e. let bad : ◌≡◌ {A = Option ℕ} (Some i) None = e in cc;
        }

-- two digits that stand together
pub decodes-two : (seen piece bytes : List ℕ) (i n : ℕ) (high : Option ℕ) → i < length piece
    → Decodes Hex seen (take i piece) (record { count = n; unexpected = None }) bytes high
    → (h v m : ℕ) (after : List ℕ) (next_high : Option ℕ) → i + 1 < length piece
    → hex_value (get_or piece i 0) ≡ Some h → hex_value (get_or piece (i + 1) 0) ≡ Some v
    → high ≡ None → n < length bytes → m ≡ n + 1 → after ≡ set bytes n (h * 16 + v)
    → next_high ≡ None
    → Decodes Hex seen (take (i + 1 + 1) piece) (record { count = m; unexpected = None }) after
    next_high
decodes-two seen piece bytes i n high inside so_far h v m after next_high further eh ev none room em
    eb el =
    decodes-low seen piece bytes (i + 1) n (Some h) further
    (decodes-high seen piece bytes i n high inside so_far h n bytes (Some h) eh none refl refl
    refl)
    v h m after next_high ev refl room em eb el

-- ---- sixteen digits that stand together

module _ (f : ℕ → ℕ) where
  readable-all : (s t : List ℕ) → first_unexpected s ≡ None
      → Each1 (λ c. hex_value c ≡ Some (f c)) t → first_unexpected (s ++ t) ≡ None
  readable-all s [] e h = ap first_unexpected (append-nil s) ∙ e
  readable-all s (c ∷ t) e h =
      ap first_unexpected (sym (append_assoc s (c ∷ []) t))
      ∙ readable-all (s ++ c ∷ []) t (readable-more s c e (readable-digit c (f c) h.0)) h.1

  digits-all : (t : List ℕ) → Each1 (λ c. hex_value c ≡ Some (f c)) t → digits t ≡ map f t
  digits-all [] h = digits-none
  digits-all (c ∷ t) h =
      let readable = readable-digit c (f c) h.0 in
      digits-more (c ∷ []) t (readable-more [] c unexpected-none readable)
      ∙ ap (λ d. d ++ digits t) (digits-digit c (f c) readable h.0)
      ∙ ap (λ d. f c ∷ d) (digits-all t h.1)

  none-left : (t : List ℕ) → length t ≡ 16 → left_over (map f t) ≡ []
  none-left t long =
      sixteen (λ t. left_over (map f t) ≡ []) (λ a b c d e f g h i j k l m n o p. refl) t long

pairs-append : (d e : List ℕ) → left_over d ≡ []
    → (pairs (d ++ e) ≡ pairs d ++ pairs e) × (left_over (d ++ e) ≡ left_over e)
pairs-append [] e none = (refl, refl)
pairs-append (h ∷ []) e none = let bad : ◌≡◌ {A = List ℕ} (h ∷ []) [] = none in cc
pairs-append (h ∷ l ∷ d) e none = let r = pairs-append d e none in
    (ap (λ t. (h * 16 + l) ∷ t) r.0, r.1)

pub decodes-eight : (f : ℕ → ℕ) (seen piece bytes : List ℕ) (i n : ℕ) (high : Option ℕ)
    → i + 16 ≤ length piece
    → Decodes Hex seen (take i piece) (record { count = n; unexpected = None }) bytes high
    → high ≡ None → Each1 (λ c. hex_value c ≡ Some (f c)) (chunk i 16 piece) → (after : List ℕ)
    → take (n + 8) after ≡ take n bytes ++ pairs (map f (chunk i 16 piece))
    → Decodes Hex seen (take (i + 16) piece) (record { count = n + 8; unexpected = None }) after
    high
decodes-eight f seen piece bytes i n high inside so_far none h after put =
    let t = chunk i 16 piece in
    let before = seen ++ take i piece in
    let all : before ++ t ≡ seen ++ take (i + 16) piece =
    append_assoc seen (take i piece) t ∙ ap (λ x. seen ++ x) (sym (take-add i 16 piece)) in
    let whole : digits (seen ++ take (i + 16) piece) ≡ digits before ++ map f t =
    ap digits (sym all) ∙ digits-more before t so_far.unexpected
    ∙ ap (λ d. digits before ++ d) (digits-all f t h) in
    let both = pairs-append (digits before) (map f t) (so_far.left refl ∙ ap option_to_list none) in
    record {
      whole =
          ap pairs whole ∙ both.0 ∙ ap (λ x. x ++ pairs (map f t)) so_far.whole
          ∙ append_assoc (spelled seen) (take n bytes) (pairs (map f t))
          ∙ ap (λ x. spelled seen ++ x) (sym put);
      unexpected = ap first_unexpected (sym all) ∙ readable-all f before t so_far.unexpected h;
      left =
          λ _. ap left_over whole ∙ both.1 ∙ none-left f t (length-chunk i 16 piece inside)
          ∙ sym (ap option_to_list none);
    }
