-- What is found in rows of the program is found in them as the definitions see them.
use Rattle.std.proofs.Common.{◌≡◌, ℕ, List, [], ◌∷◌, Bool, true, false, refl, ap, subst, Bor}
use Rattle.std.specs.Prelude.{map, find, Option, Some, if◌then◌else◌, ◌||◌}
use Rattle.std.specs.List.{list_any}
use Rattle.std.specs.Option.{option_map}
use Rattle.std.specs.Str.{bytes_eq}
use Rattle.word_list.specs.declared.option_table.OptionRow.{OptionRow}
use Rattle.word_list.specs.OptionTable.{Row, is_named, meaning_in}
use Rattle.word_list.specs.OptionRows.{plain_row, plain_rows, has_name}

pub named_plain : (name : List ℕ) (names : List (Bor (List ℕ))) →
    list_any (λ known. bytes_eq known.now name) names ≡ list_any (λ known. bytes_eq known name) (map (λ known. known.now) names)
named_plain name [] = refl
named_plain name (known ∷ names) = ap (λ b. bytes_eq known.now name || b) (named_plain name names)

-- one more row, which is found or not
more_rows : (b : Bool) (row : OptionRow) (plain : Option Row) (own : Option OptionRow) →
    option_map (λ r. r.meaning) plain ≡ option_map (λ r. r.meaning) own →
    option_map (λ r. r.meaning) (if b then Some (plain_row row) else plain) ≡ option_map (λ r. r.meaning) (if b then Some row else own)
more_rows true row plain own same = refl
more_rows false row plain own same = same

pub meaning_plain : (rows : List OptionRow) (name : List ℕ) →
    meaning_in (plain_rows rows) name ≡ option_map (λ r. r.meaning) (find (has_name name) rows)
meaning_plain [] name = refl
meaning_plain (row ∷ rows) name =
    let found : Option Row = find (is_named name) (plain_rows rows) in
    let own : Option OptionRow = find (has_name name) rows in
    let P : Bool → Type 0 = λ b. option_map (λ r. r.meaning) (if b then Some (plain_row row) else found) ≡
    option_map (λ r. r.meaning) (if has_name name row then Some row else own) in
    subst P (named_plain name row.names.now) (more_rows (has_name name row) row found own (meaning_plain rows name))
