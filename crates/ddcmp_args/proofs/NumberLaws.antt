-- What the text after an option is read as.
use Rattle.std.proofs.Common.{◌≡◌, ◌∙◌, Bool, true, false, ℕ, ◌≤◌, List, refl, ap, sym, subst}
use Rattle.std.proofs.Common.{arith, Option, Some, None, Result, Ok, Err}
use Rattle.std.specs.Prelude.{decimal}
use Rattle.std.specs.Str.Parse.{ParsesUnsigned}
use Rattle.std.proofs.lemmas.Fmt.{parse-decimal}
use Rattle.clap.specs.Matches.{ReadsOne}
use Rattle.ddcmp_args.specs.Args.{HasNumber}

module _ {E : Type 0} (gives : List ℕ → Result ℕ E → Type 0)
    (parses : (bs : List ℕ) (r : Result ℕ E) → gives bs r → ParsesUnsigned 32 10 bs r) where
  pub number_read : (text : Option (List ℕ)) (result : Option ℕ)
      → ((t : List ℕ) → text ≡ Some t → ReadsOne gives t result) → (n : ℕ) → text ≡ Some (decimal n)
      → n ≤ 4294967295 → result ≡ Some n
  number_read text (Some v) reads n e h =
      let r : ◌≡◌ {A = Result ℕ E} (Ok v) (Ok n) =
      parse-decimal 32 n (decimal n) (Ok v) (omega arith) (omega arith) refl
      (parses (decimal n) (Ok v) (reads (decimal n) e)) in
      let i : v ≡ n = cc in
      ap Some i
  number_read text None reads n e h =
      let g = reads (decimal n) e in
      let r : ◌≡◌ {A = Result ℕ E} (Err g.0) (Ok n) =
      parse-decimal 32 n (decimal n) (Err g.0) (omega arith) (omega arith) refl
      (parses (decimal n) (Err g.0) g.1) in
      cc

some-inj : {a b : ℕ} → ◌≡◌ {A = Option ℕ} (Some a) (Some b) → a ≡ b
some-inj h = cc

some-none : {a : ℕ} → ◌≡◌ {A = Option ℕ} (Some a) None → ⊥
some-none h = cc

none-some : {a : ℕ} → ◌≡◌ {A = Option ℕ} None (Some a) → ⊥
none-some h = cc

false-true : ◌≡◌ {A = Bool} false true → ⊥
false-true e = cc

-- a number in range is read
pub in_range : (low high otherwise : ℕ) (text : Option (List ℕ)) (v : ℕ) → (low ≤ v) × (v ≤ high)
    → high ≤ 4294967295 → (text ≡ None → Some v ≡ None)
    → ((n : ℕ) → text ≡ Some (decimal n) → n ≤ 4294967295 → Some v ≡ Some n)
    → HasNumber low high otherwise text v
in_range low high otherwise text v r most none reads = record {
  in_range = r;
  given = λ n e h. let k = h.1 in some-inj (reads n e (omega arith));
  absent = λ e. absurd (some-none (none e));
}

-- a number out of range was never given
pub out_of_range : (low high otherwise : ℕ) (text : Option (List ℕ)) (v : ℕ) {b : Bool}
    → (low ≤ otherwise) × (otherwise ≤ high) → high ≤ 4294967295 → b ≡ false
    → ((low ≤ v) × (v ≤ high) → b ≡ true)
    → ((n : ℕ) → text ≡ Some (decimal n) → n ≤ 4294967295 → Some v ≡ Some n)
    → HasNumber low high otherwise text otherwise
out_of_range low high otherwise text v within most f t reads = record {
  in_range = within;
  given =
      λ n e h. let l =
      h.0 in let k =
      h.1 in let i : v ≡ n =
      some-inj (reads n e (omega arith)) in
      absurd (false-true (sym f ∙ t (subst (λ m. (low ≤ m) × (m ≤ high)) (sym i) h)));
  absent = λ e. refl;
}

-- no number was given
pub left_out : (low high otherwise : ℕ) (text : Option (List ℕ))
    → (low ≤ otherwise) × (otherwise ≤ high)
    → high ≤ 4294967295 → ((n : ℕ) → text ≡ Some (decimal n) → n ≤ 4294967295 → None ≡ Some n)
    → HasNumber low high otherwise text otherwise
left_out low high otherwise text within most reads = record {
  in_range = within;
  given = λ n e h. let k = h.1 in absurd (none-some (reads n e (omega arith)));
  absent = λ e. refl;
}
