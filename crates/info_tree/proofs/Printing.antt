-- A printed text grows entry by entry, and a printed string run by run.
use Rattle.std.proofs.Common.{◌≡◌, ℕ, zero, suc, ◌+◌, List, [], ◌∷◌, ◌++◌, length, refl, sym, ap, ◌∙◌, append_assoc, arith, drop, Bool, false, add-one}
use Rattle.std.specs.Prelude.{Some, None, map, slice_get, ◌==◌, nat_lt, if◌then◌else◌, codes}
use Rattle.std.specs.Str.{chars}
use Rattle.std.proofs.lemmas.Bool.Decides.{nat_tests}
use Rattle.std.proofs.lemmas.List.{append-nil}
use Rattle.std.proofs.lemmas.Option.{none-some, same_Some}
use Rattle.std.proofs.lemmas.Str.{chars-nil}
use Rattle.text_base.specs.Scan.{is_json_special}
use Rattle.info_tree.specs.Token.{byte, ArePieces}
use Rattle.info_tree.specs.Tree.{Tree as Plain, list, mapping, trees_of, pairs_of}
use Rattle.info_tree.specs.Printed.{printed, items, members, comma_text, deeper, quoted, escaped, all_by}
use Rattle.info_tree.specs.declared.style.Style.{Style}

drop_after : {A : Type 0} (ts : List A) (i : ℕ) (t : A) → slice_get ts i ≡ Some t → drop i ts ≡ t ∷ drop (suc i) ts
drop_after [] i t e = absurd (none-some t e)
drop_after (x ∷ ts) zero t e = ap (λ y. y ∷ ts) (same_Some x t e)
drop_after (x ∷ ts) (suc i) t e = drop_after ts i t e

drop_at : {A : Type 0} (ts : List A) (i : ℕ) (t : A) → slice_get ts i ≡ Some t → drop i ts ≡ t ∷ drop (i + 1) ts
drop_at ts i t e = rw add-one (drop_after ts i t e)

drop_past : {A : Type 0} (ts : List A) (i : ℕ) → slice_get ts i ≡ None → drop i ts ≡ []
drop_past [] zero e = refl
drop_past [] (suc i) e = refl
drop_past (x ∷ ts) zero e = absurd (none-some x (sym e))
drop_past (x ∷ ts) (suc i) e = drop_past ts i e

-- what stands behind an entry, before the one at this place
abbrev pub mark : Bool → ℕ → List ℕ
mark p i = if i == 0 then [] else comma_text p

next_mark : (p : Bool) (i : ℕ) → mark p (i + 1) ≡ comma_text p
next_mark p i = let h : ((i + 1) == 0) ≡ false = grind (arith, nat_tests) in rw h refl

-- the entries from a place on
abbrev pub items_from : Style → List ℕ → List Plain → ℕ → List ℕ
items_from s line ts i = items s line (mark s.pretty i) (trees_of (drop i ts))

abbrev pub members_from : Style → List ℕ → List (List ℕ × Plain) → ℕ → List ℕ
members_from s line ps i = members s line (mark s.pretty i) (pairs_of (drop i ps))

three : (o m l p r : List ℕ) → ((o ++ (m ++ l)) ++ p) ++ r ≡ o ++ (m ++ (l ++ (p ++ r)))
three o m l p r = append_assoc (o ++ (m ++ l)) p r ∙ append_assoc o (m ++ l) (p ++ r) ∙ ap (λ k. o ++ k) (append_assoc m l (p ++ r))

pub item_put : (s : Style) (line : List ℕ) (ts : List Plain) (i : ℕ) (t : Plain) (o o1 o2 whole : List ℕ) → slice_get ts i ≡ Some t →
    o1 ≡ o ++ (mark s.pretty i ++ line) → o2 ≡ o1 ++ printed s line t → o ++ items_from s line ts i ≡ whole → o2 ++ items_from s line ts (i + 1) ≡ whole
item_put s line ts i t o o1 o2 whole e a b h =
    let at : items_from s line ts i ≡ mark s.pretty i ++ (line ++ (printed s line t ++ items_from s line ts (i + 1))) =
    rw (drop_at ts i t e, next_mark s.pretty i) refl in
    ap (λ k. k ++ items_from s line ts (i + 1)) (b ∙ ap (λ k. k ++ printed s line t) a)
    ∙ three o (mark s.pretty i) line (printed s line t) (items_from s line ts (i + 1)) ∙ ap (λ k. o ++ k) (sym at) ∙ h

pub member_put : (s : Style) (line : List ℕ) (ps : List (List ℕ × Plain)) (i : ℕ) (q : List ℕ × Plain) (o o1 o2 o3 o4 whole : List ℕ) → slice_get ps i ≡ Some q →
    o1 ≡ o ++ (mark s.pretty i ++ line) → o2 ≡ o1 ++ quoted s.ascii q.0 → o3 ≡ o2 ++ codes ": " → o4 ≡ o3 ++ printed s line q.1 →
    o ++ members_from s line ps i ≡ whole → o4 ++ members_from s line ps (i + 1) ≡ whole
member_put s line ps i q o o1 o2 o3 o4 whole e a b c d h =
    let k = quoted s.ascii q.0 in
    let v = printed s line q.1 in
    let r = members_from s line ps (i + 1) in
    let at : members_from s line ps i ≡ mark s.pretty i ++ (line ++ (k ++ (codes ": " ++ (v ++ r)))) =
    rw (drop_at ps i q e, next_mark s.pretty i) refl in
    ap (λ x. x ++ r) (d ∙ ap (λ x. x ++ v) (c ∙ ap (λ x. x ++ codes ": ") b))
    ∙ append_assoc ((o1 ++ k) ++ codes ": ") v r ∙ append_assoc (o1 ++ k) (codes ": ") (v ++ r)
    ∙ ap (λ x. (x ++ k) ++ (codes ": " ++ (v ++ r))) a
    ∙ three o (mark s.pretty i) line k (codes ": " ++ (v ++ r)) ∙ ap (λ x. o ++ x) (sym at) ∙ h

pub items_done : (s : Style) (line : List ℕ) (ts : List Plain) (i : ℕ) (o whole : List ℕ) → slice_get ts i ≡ None →
    o ++ items_from s line ts i ≡ whole → o ≡ whole
items_done s line ts i o whole e h =
    let none : items_from s line ts i ≡ [] = rw (drop_past ts i e) refl in
    sym (append-nil o) ∙ ap (λ k. o ++ k) (sym none) ∙ h

pub members_done : (s : Style) (line : List ℕ) (ps : List (List ℕ × Plain)) (i : ℕ) (o whole : List ℕ) → slice_get ps i ≡ None →
    o ++ members_from s line ps i ≡ whole → o ≡ whole
members_done s line ps i o whole e h =
    let none : members_from s line ps i ≡ [] = rw (drop_past ps i e) refl in
    sym (append-nil o) ∙ ap (λ k. o ++ k) (sym none) ∙ h

-- brackets round entries
bracketed : (o a b c d inner line : List ℕ) (left right : ℕ) → a ≡ o ++ left ∷ [] → b ≡ a ++ inner → c ≡ b ++ line → d ≡ c ++ right ∷ [] →
    d ≡ o ++ left ∷ (inner ++ (line ++ right ∷ []))
bracketed o a b c d inner line left right e f g h =
    h ∙ ap (λ x. x ++ right ∷ []) (g ∙ ap (λ x. x ++ line) f) ∙ append_assoc (a ++ inner) line (right ∷ []) ∙ append_assoc a inner (line ++ right ∷ [])
    ∙ ap (λ x. x ++ (inner ++ (line ++ right ∷ []))) e ∙ append_assoc o (left ∷ []) (inner ++ (line ++ right ∷ []))

pub list_put : (s : Style) (line : List ℕ) (ts : List Plain) (o a b c d : List ℕ) → (length ts ≡ 0 → ⊥) → a ≡ o ++ 91 ∷ [] →
    b ≡ a ++ items s (deeper s.pretty line) [] (trees_of ts) → c ≡ b ++ line → d ≡ c ++ 93 ∷ [] → d ≡ o ++ printed s line (list (trees_of ts))
list_put s line [] o a b c d n e f g h = absurd (n refl)
list_put s line (t ∷ ts) o a b c d n e f g h = bracketed o a b c d (items s (deeper s.pretty line) [] (trees_of (t ∷ ts))) line 91 93 e f g h

pub map_put : (s : Style) (line : List ℕ) (ps : List (List ℕ × Plain)) (o a b c d : List ℕ) → (length ps ≡ 0 → ⊥) → a ≡ o ++ 123 ∷ [] →
    b ≡ a ++ members s (deeper s.pretty line) [] (pairs_of ps) → c ≡ b ++ line → d ≡ c ++ 125 ∷ [] → d ≡ o ++ printed s line (mapping (pairs_of ps))
map_put s line [] o a b c d n e f g h = absurd (n refl)
map_put s line (p ∷ ps) o a b c d n e f g h = bracketed o a b c d (members s (deeper s.pretty line) [] (pairs_of (p ∷ ps))) line 123 125 e f g h

pub empty_list : (s : Style) (line : List ℕ) (ts : List Plain) → length ts ≡ 0 → printed s line (list (trees_of ts)) ≡ codes "[]"
empty_list s line [] e = refl
empty_list s line (t ∷ ts) e = absurd (omega (arith, e))

pub empty_map : (s : Style) (line : List ℕ) (ps : List (List ℕ × Plain)) → length ps ≡ 0 → printed s line (mapping (pairs_of ps)) ≡ codes "{}"
empty_map s line [] e = refl
empty_map s line (p ∷ ps) e = absurd (omega (arith, e))

-- a byte that ends no run stands for itself
plain_byte : (b : ℕ) → is_json_special b ≡ false → escaped b ≡ b ∷ []
unfolding escaped
plain_byte b h =
    let a : nat_lt b 32 ≡ false = grind (arith, nat_tests, h) in
    let quote : (b == 34) ≡ false = grind (arith, nat_tests, h) in
    let slash : (b == 92) ≡ false = grind (arith, nat_tests, h) in
    let e : (b == 8) ≡ false = grind (arith, nat_tests, a) in
    let f : (b == 12) ≡ false = grind (arith, nat_tests, a) in
    let g : (b == 10) ≡ false = grind (arith, nat_tests, a) in
    let i : (b == 13) ≡ false = grind (arith, nat_tests, a) in
    let j : (b == 9) ≡ false = grind (arith, nat_tests, a) in
    rw (quote, slash, e, f, g, i, j, a) refl

plain_run : (bs rest : List ℕ) → ArePieces (map byte bs) → all_by escaped (bs ++ rest) ≡ bs ++ all_by escaped rest
plain_run [] rest h = refl
plain_run (b ∷ bs) rest h = ap (λ l. l ++ all_by escaped (bs ++ rest)) (plain_byte b h.0) ∙ ap (λ l. b ∷ l) (plain_run bs rest h.1)

is_empty : (xs : List ℕ) → length xs ≡ 0 → xs ≡ []
is_empty [] e = refl
is_empty (x ∷ xs) e = absurd (omega (arith, e))

-- a run is put, and then the escape of the byte behind it
pub run_put : (o o1 o2 rest run marked after whole : List ℕ) (b : ℕ) → rest ≡ run ++ marked → ArePieces (map byte run) → marked ≡ b ∷ after →
    o1 ≡ o ++ run → o2 ≡ o1 ++ escaped b → o ++ all_by escaped rest ≡ whole → o2 ++ all_by escaped after ≡ whole
run_put o o1 o2 rest run marked after whole b e are f g h w =
    ap (λ x. x ++ all_by escaped after) (h ∙ ap (λ x. x ++ escaped b) g) ∙ append_assoc (o ++ run) (escaped b) (all_by escaped after)
    ∙ append_assoc o run (escaped b ++ all_by escaped after)
    ∙ ap (λ x. o ++ x) (sym (ap (all_by escaped) (e ∙ ap (λ x. run ++ x) f) ∙ plain_run run (b ∷ after) are)) ∙ w

pub last_run : (o o1 rest run marked whole : List ℕ) → rest ≡ run ++ marked → ArePieces (map byte run) → length marked ≡ 0 →
    o1 ≡ o ++ run → o ++ all_by escaped rest ≡ whole → o1 ≡ whole
last_run o o1 rest run marked whole e are f g w =
    g ∙ ap (λ x. o ++ x) (sym (ap (all_by escaped) (e ∙ ap (λ x. run ++ x) (is_empty marked f)) ∙ plain_run run [] are ∙ append-nil run)) ∙ w

-- a character is put
pub char_put : (f : ℕ → List ℕ) (o o1 bs rest whole : List ℕ) (c : ℕ) → chars bs ≡ c ∷ chars rest → o1 ≡ o ++ f c →
    o ++ all_by f (chars bs) ≡ whole → o1 ++ all_by f (chars rest) ≡ whole
char_put f o o1 bs rest whole c e g w =
    ap (λ x. x ++ all_by f (chars rest)) g ∙ append_assoc o (f c) (all_by f (chars rest)) ∙ ap (λ x. o ++ x) (sym (ap (all_by f) e)) ∙ w

pub no_char_left : (f : ℕ → List ℕ) (o bs whole : List ℕ) → length bs ≡ 0 → o ++ all_by f (chars bs) ≡ whole → o ≡ whole
no_char_left f o bs whole e w =
    let none : all_by f (chars bs) ≡ [] = ap (λ l. all_by f (chars l)) (is_empty bs e) ∙ ap (all_by f) chars-nil in
    sym (append-nil o) ∙ ap (λ k. o ++ k) (sym none) ∙ w

-- a backslash, u and four digits
pub unit_put : (o p q r s t : List ℕ) (a b c d : ℕ) → p ≡ o ++ 92 ∷ 117 ∷ [] → q ≡ p ++ a ∷ [] → r ≡ q ++ b ∷ [] → s ≡ r ++ c ∷ [] → t ≡ s ++ d ∷ [] →
    t ≡ o ++ 92 ∷ 117 ∷ a ∷ b ∷ c ∷ d ∷ []
unit_put o p q r s t a b c d e f g h i =
    i ∙ ap (λ x. x ++ d ∷ []) h ∙ append_assoc r (c ∷ []) (d ∷ []) ∙ ap (λ x. x ++ c ∷ d ∷ []) g ∙ append_assoc q (b ∷ []) (c ∷ d ∷ [])
    ∙ ap (λ x. x ++ b ∷ c ∷ d ∷ []) f ∙ append_assoc p (a ∷ []) (b ∷ c ∷ d ∷ []) ∙ ap (λ x. x ++ a ∷ b ∷ c ∷ d ∷ []) e
    ∙ append_assoc o (92 ∷ 117 ∷ []) (a ∷ b ∷ c ∷ d ∷ [])
