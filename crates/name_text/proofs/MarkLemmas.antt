-- What is no mark is written as itself, and marks are bytes of ASCII.
use Rattle.std.proofs.Common.{◌≡◌, ℕ, ◌<◌, ◌≤◌, List, length, get_or, Bool, true, false, eqb, ltb, ◌||◌, refl, arith}
use Rattle.std.specs.Prelude.{encode_utf8}
use Rattle.std.specs.Char.{is_ascii_control}
use Rattle.std.specs.List.{flat_map}
use Rattle.std.specs.Str.{IsUtf8, chars}
use Rattle.std.proofs.lemmas.Bool.{ne_eqb}
use Rattle.std.proofs.lemmas.Bool.Decides.{nat_tests}
use Rattle.text_base.specs.Scan.{is_name_special}
use Rattle.name_text.specs.Marks.{in_name, in_html, in_quotes, written, ends_run, is_html_mark}
use Rattle.name_text.specs.declared.marks.Marks.{Marks}
use Rattle.name_text.specs.declared.marks.Marks.TheVariants.{Name, Html, Quote}
use Rattle.name_text.proofs.WrittenLemmas.{text_as_it_stands}

or_false : (a b : Bool) → (a || b) ≡ false → (a ≡ false) × (b ≡ false)
or_false false b e = (refl, e)
or_false true b e = cc

control_is_special : (c : ℕ) → ltb c 32 ≡ false → eqb c 127 ≡ false → is_ascii_control c ≡ false
control_is_special c a b = grind (arith, nat_tests)

same_in_name : (c : ℕ) → is_name_special c ≡ false → in_name c ≡ encode_utf8 c
unfolding in_name
same_in_name c e =
    let a = or_false (ltb c 32 || eqb c 127 || eqb c 37 || eqb c 34 || eqb c 42 || eqb c 58 || eqb c 60 || eqb c 62 || eqb c 63 || eqb c 124 || eqb c 47) (eqb c 92) e in
    let b = or_false (ltb c 32 || eqb c 127 || eqb c 37 || eqb c 34 || eqb c 42 || eqb c 58 || eqb c 60 || eqb c 62 || eqb c 63 || eqb c 124) (eqb c 47) a.0 in
    let d = or_false (ltb c 32 || eqb c 127 || eqb c 37 || eqb c 34 || eqb c 42 || eqb c 58 || eqb c 60 || eqb c 62 || eqb c 63) (eqb c 124) b.0 in
    let f = or_false (ltb c 32 || eqb c 127 || eqb c 37 || eqb c 34 || eqb c 42 || eqb c 58 || eqb c 60 || eqb c 62) (eqb c 63) d.0 in
    let g = or_false (ltb c 32 || eqb c 127 || eqb c 37 || eqb c 34 || eqb c 42 || eqb c 58 || eqb c 60) (eqb c 62) f.0 in
    let h = or_false (ltb c 32 || eqb c 127 || eqb c 37 || eqb c 34 || eqb c 42 || eqb c 58) (eqb c 60) g.0 in
    let i = or_false (ltb c 32 || eqb c 127 || eqb c 37 || eqb c 34 || eqb c 42) (eqb c 58) h.0 in
    let j = or_false (ltb c 32 || eqb c 127 || eqb c 37 || eqb c 34) (eqb c 42) i.0 in
    let k = or_false (ltb c 32 || eqb c 127 || eqb c 37) (eqb c 34) j.0 in
    let l = or_false (ltb c 32 || eqb c 127) (eqb c 37) k.0 in
    let m = or_false (ltb c 32) (eqb c 127) l.0 in
    let control = control_is_special c m.0 m.1 in
    rw (control, k.1, j.1, i.1, h.1, g.1, f.1, d.1, b.1, a.1) refl

same_in_html : (c : ℕ) → is_html_mark c ≡ false → in_html c ≡ encode_utf8 c
unfolding in_html
same_in_html c e =
    let a = or_false (eqb c 38 || eqb c 60 || eqb c 62 || eqb c 34) (eqb c 39) e in
    let b = or_false (eqb c 38 || eqb c 60 || eqb c 62) (eqb c 34) a.0 in
    let d = or_false (eqb c 38 || eqb c 60) (eqb c 62) b.0 in
    let f = or_false (eqb c 38) (eqb c 60) d.0 in
    rw (f.0, f.1, d.1, b.1, a.1) refl

same_in_quotes : (c : ℕ) → eqb c 39 ≡ false → in_quotes c ≡ encode_utf8 c
unfolding in_quotes
same_in_quotes c e = rw e refl

other : (n c : ℕ) → n < 128 → 128 ≤ c → eqb c n ≡ false
other n c l h = ne_eqb c n (λ e. omega arith)

not_special_past_ascii : (c : ℕ) → 128 ≤ c → is_name_special c ≡ false
not_special_past_ascii c h =
    let control : ltb c 32 ≡ false = grind (arith, nat_tests) in
    rw (
      control,
      other 127 c (omega arith) h,
      other 37 c (omega arith) h,
      other 34 c (omega arith) h,
      other 42 c (omega arith) h,
      other 58 c (omega arith) h,
      other 60 c (omega arith) h,
      other 62 c (omega arith) h,
      other 63 c (omega arith) h,
      other 124 c (omega arith) h,
      other 47 c (omega arith) h,
      other 92 c (omega arith) h,
    ) refl

no_html_mark_past_ascii : (c : ℕ) → 128 ≤ c → is_html_mark c ≡ false
no_html_mark_past_ascii c h =
    rw (other 38 c (omega arith) h, other 60 c (omega arith) h, other 62 c (omega arith) h, other 34 c (omega arith) h, other 39 c (omega arith) h) refl

-- a run without marks stands as it is
pub run_stands : (marks : Marks) (run : List ℕ) → IsUtf8 run → ((k : ℕ) → k < length run → ends_run marks (get_or run k 0) ≡ false) → flat_map (written marks) (chars run) ≡ run
run_stands Name run u none = text_as_it_stands in_name is_name_special same_in_name not_special_past_ascii run u none
run_stands Html run u none = text_as_it_stands in_html is_html_mark same_in_html no_html_mark_past_ascii run u none
run_stands Quote run u none = text_as_it_stands in_quotes (λ b. eqb b 39) same_in_quotes (λ c h. other 39 c (omega arith) h) run u none
