-- The line of an item in each notation, with data and without.
use Rattle.std.proofs.Common.{◌≡◌, true, false, List, [], ◌++◌, ℕ, codes, sym, ◌∙◌, ap}
use Rattle.std.proofs.Common.{append_assoc, ◌≤◌, drop, length}
use Rattle.std.specs.Prelude.{if◌then◌else◌}
use Rattle.std.proofs.lemmas.List.{append-nil, drop-append-le}
use Rattle.hex.specs.Hex.{encode_lower}
use Rattle.ddcmp_frame.specs.declared.item.Item.{Item}
use Rattle.ddcmp_explain.specs.declared.notation.Notation.{Notation}
use Rattle.ddcmp_explain.specs.declared.notation.Notation.TheVariants.{Plain, Json}
use Rattle.ddcmp_explain.specs.Text.{item_text, lends, line_of}
use Rattle.ddcmp_explain.specs.Json.{json_item, json_line_of, member, quoted}
use Rattle.ddcmp_explain.specs.Output.{after_in, front_in, line_in}

line-with-data : (notation : Notation) (item : Item) (lent : List ℕ) → true ≡ lends item
    → (front_in notation item ++ encode_lower lent) ++ after_in notation
    ≡ line_in notation (item, lent)
unfolding line_of json_line_of
line-with-data Plain item lent e =
    ap (λ b. ((item_text item ++ (if b then codes " " else codes "\n")) ++ encode_lower lent)
    ++ codes "\n")
    (sym e)
    ∙ ap (λ t. t ++ codes "\n") (append_assoc (item_text item) (codes " ") (encode_lower lent))
    ∙ ap (λ b. (item_text item ++ (if b then codes " " ++ encode_lower lent else [])) ++ codes "\n")
    e
line-with-data Json item lent e =
    let front = json_item item ++ codes ",\"data\":\"" in
    ap (λ b.
    ((json_item item
    ++ (if b then codes
    ",\"data\":\"" else codes "}\n")) ++ encode_lower lent) ++ codes "\"}\n")
    (sym e)
    ∙ sym (append_assoc (front ++ encode_lower lent) (codes "\"") (codes "}\n"))
    ∙ ap (λ t. t ++ codes "}\n")
    (append_assoc front (encode_lower lent)
    (codes "\"") ∙ append_assoc (json_item item) (codes ",\"data\":\"")
    (encode_lower lent ++ codes "\""))
    ∙ ap (λ b.
    (json_item item ++ (if b then member (codes "data") (quoted (encode_lower lent)) else []))
    ++ codes "}\n")
    e

-- the same without its first bytes
pub rest-with-data : (notation : Notation) (item : Item) (lent : List ℕ) (n : ℕ)
    → n ≤ length (front_in notation item) → true ≡ lends item
    → (drop n (front_in notation item) ++ encode_lower lent) ++ after_in notation
    ≡ drop n (line_in notation (item, lent))
rest-with-data notation item lent n some e =
    let front = front_in notation item in
    append_assoc (drop n front) (encode_lower lent) (after_in notation)
    ∙ sym (drop-append-le n front (encode_lower lent ++ after_in notation) some)
    ∙ ap (drop n)
    (sym (append_assoc front (encode_lower lent) (after_in notation))
    ∙ line-with-data notation item lent e)

pub line-alone : (notation : Notation) (item : Item) (lent : List ℕ) → false ≡ lends item
    → front_in notation item ≡ line_in notation (item, lent)
unfolding line_of json_line_of
line-alone Plain item lent e =
    ap (λ b. item_text item ++ (if b then codes " " else codes "\n")) (sym e)
    ∙ ap (λ t. t ++ codes "\n") (sym (append-nil (item_text item)))
    ∙ ap (λ b. (item_text item ++ (if b then codes " " ++ encode_lower lent else [])) ++ codes "\n")
    e
line-alone Json item lent e =
    ap (λ b. json_item item ++ (if b then codes ",\"data\":\"" else codes "}\n")) (sym e)
    ∙ ap (λ t. t ++ codes "}\n") (sym (append-nil (json_item item)))
    ∙ ap (λ b.
    (json_item item ++ (if b then member (codes "data") (quoted (encode_lower lent)) else []))
    ++ codes "}\n")
    e
