-- Names of files: the last slash, a tail at the end, and what stands behind a component.
use Rattle.std.proofs.Common.{◌≡◌, ◌≢◌, ℕ, ◌+◌, ◌-◌, ◌≤◌, [], ◌∷◌, ◌++◌, Bool, true, false, not, ◌&&◌, ◌==◌, length, take, drop, get_or, if◌then◌else◌, refl, sym, ◌∙◌, ap, subst, append_assoc, arith, codes, nat_eq, eqb-true, get_or-drop, length-drop}
use Rattle.std.specs.Prelude.{bytes_eq, nat_lt}
use Rattle.std.specs.List.{suffix_len, ends_with, starts_with}
use Rattle.std.specs.Str.{NoCharPasses}
use Rattle.std.proofs.Math.Seq.{take-length, drop-append_seam}
use Rattle.std.proofs.lemmas.Bool.{false_from_ne_true, and_from}
use Rattle.std.proofs.lemmas.List.{take-append-drop, take_more}
use Rattle.std.proofs.lemmas.List.Sums.{suffix_len_is}
use Rattle.std.proofs.lemmas.Str.Pattern.{NoCharPasses-char}
use Rattle.field_text.specs.Frame.{first_chars}
use Rattle.plan_record.specs.Names.{begins, pieces_of}
use Rattle.plan_record.proofs.NameLemmas.{begins_is, tail_begins}
use Rattle.job_names.specs.Text.{Text}
use Rattle.job_names.specs.Family.{is_longer}
use Rattle.job_names.specs.Naming.{folder_len, cut_name, split_at_tail, before_tail, begins_a_name}
use Rattle.job_names.proofs.FamilyLemmas.{same_text, text_itself}
use Rattle.job_names.proofs.IndexLemmas.{begins_at, front_at}

no_slash : (x : ℕ) → x ≢ 47 → not (x == 47) ≡ true
no_slash x h = ap not (false_from_ne_true (x == 47) (λ t. h (eqb-true x 47 t)))

a_slash : (x : ℕ) → x ≡ 47 → not (x == 47) ≡ false
a_slash x h = subst (λ n. not (n == 47) ≡ false) (sym h) refl

-- the last slash stands right before this place
slash_before : (name : Text) (i j : ℕ) → j ≡ i + 1 → j ≤ length name → get_or name i 0 ≡ 47 → NoCharPasses (λ d. d == 47) (drop j name) → folder_len name ≡ j
slash_before name i j next within at none =
    let len : suffix_len (λ b. not (b == 47)) name ≡ length name - j =
    suffix_len_is (λ b. not (b == 47)) name j 0 within
    (λ k from below. no_slash (get_or name k 0)
    (λ e.
    let back : j + (k - j) ≡ k = omega (arith, from) in
    NoCharPasses-char 47 (drop j name) (k - j) none (omega arith) (omega (arith, length-drop j name, from, below))
    (get_or-drop j name (k - j) 0 ∙ ap (λ n. get_or name n 0) back ∙ e)))
    (λ some. a_slash (get_or name (j - 1) 0) (ap (λ n. get_or name n 0) (omega (arith, next)) ∙ at)) in
    omega (arith, len, within)

-- no slash stands in the name
slash_none : (name : Text) → NoCharPasses (λ d. d == 47) name → folder_len name ≡ 0
slash_none name none =
    let len : suffix_len (λ b. not (b == 47)) name ≡ length name - 0 =
    suffix_len_is (λ b. not (b == 47)) name 0 0 (omega arith)
    (λ k from below. no_slash (get_or name k 0) (NoCharPasses-char 47 name k none (omega arith) below))
    (λ some. absurd (omega (arith, some))) in
    omega (arith, len)

pub longer_behind : (most : ℕ) (name last : Text) (i j : ℕ) → j ≡ i + 1 → j ≤ length name → get_or name i 0 ≡ 47 → NoCharPasses (λ d. d == 47) (drop j name) → last ≡ drop j name →
    nat_lt most (length last) ≡ is_longer most name
longer_behind most name last i j next within at none is =
    ap (λ (t : Text). nat_lt most (length t)) (is ∙ ap (λ n. drop n name) (sym (slash_before name i j next within at none)))

pub longer_whole : (most : ℕ) (name : Text) → NoCharPasses (λ d. d == 47) name → nat_lt most (length name) ≡ is_longer most name
longer_whole most name none = ap (λ n. nat_lt most (length (drop n name))) (sym (slash_none name none))

take_slash : (name : Text) (i j : ℕ) → j ≡ i + 1 → j ≤ length name → get_or name i 0 ≡ 47 → take j name ≡ take i name ++ 47 ∷ []
take_slash name i j next within at =
    ap (λ n. take n name) next ∙ take_more name i 0 (omega (arith, next, within)) ∙ ap (λ b. take i name ++ b ∷ []) at

pub cut_behind : (count : ℕ) (name folder last : Text) (i j : ℕ) → j ≡ i + 1 → j ≤ length name → get_or name i 0 ≡ 47 → NoCharPasses (λ d. d == 47) (drop j name) →
    folder ≡ take i name → last ≡ drop j name → folder ++ 47 ∷ first_chars count last ≡ cut_name count name
cut_behind count name folder last i j next within at none front back =
    sym (append_assoc folder (47 ∷ []) (first_chars count last))
    ∙ (λ k. (front k ++ 47 ∷ []) ++ first_chars count (back k))
    ∙ ap (λ (t : Text). t ++ first_chars count (drop j name)) (sym (take_slash name i j next within at))
    ∙ ap (λ n. take n name ++ first_chars count (drop n name)) (sym (slash_before name i j next within at none))

pub cut_whole : (count : ℕ) (name : Text) → NoCharPasses (λ d. d == 47) name → first_chars count name ≡ cut_name count name
cut_whole count name none = ap (λ n. take n name ++ first_chars count (drop n name)) (sym (slash_none name none))

pub tail_not : (name tail : Text) → ((front : Text) → name ≢ front ++ tail) → record { stem = name; tail = [] } ≡ split_at_tail name tail
tail_not name tail not_front =
    sym (ap (λ (b : Bool). if b && begins_a_name (before_tail name tail) then record { stem = before_tail name tail; tail = tail } else record { stem = name; tail = [] }) ends)
  where
    ends : ends_with nat_eq name tail ≡ false
    ends = false_from_ne_true (ends_with nat_eq name tail)
        (λ t. not_front (before_tail name tail) (sym (take-append-drop (length name - length tail) name) ∙ ap (λ (s : Text). before_tail name tail ++ s) (sym (same_text tail _ t))))

pub tail_there : (name tail stem : Text) (n : ℕ) → n ≡ length tail → name ≡ take (length name - n) name ++ tail → stem ≡ take (length name - n) name → length stem + n ≡ length name →
    begins_a_name stem ≡ true → record { stem = stem; tail = tail } ≡ split_at_tail name tail
tail_there name tail stem n count whole is lengths begins_one =
    (λ i. record { stem = before i; tail = tail })
    ∙ sym (ap (λ (b : Bool). if b then record { stem = before_tail name tail; tail = tail } else record { stem = name; tail = [] })
    (and_from (ends_with nat_eq name tail) (begins_a_name (before_tail name tail)) ends (subst (λ (t : Text). begins_a_name t ≡ true) before begins_one)))
  where
    before : stem ≡ before_tail name tail
    before = is ∙ ap (λ k. take (length name - k) name) count

    at : length name - length tail ≡ length stem
    at = omega (arith, count, lengths)

    ends : ends_with nat_eq name tail ≡ true
    ends =
        subst (λ (t : Text). bytes_eq tail t ≡ true)
        (sym (ap (λ k. drop k name) at ∙ ap (drop (length stem)) (whole ∙ ap (λ (t : Text). t ++ tail) (sym is)) ∙ drop-append_seam stem tail)) (text_itself tail)

-- a slice from a place on begins with what the names of pieces have behind the component
pub front_begins : (at : ℕ) (name : Text) → at ≤ length name → starts_with nat_eq (take (length name - at) (drop at name)) (codes ".part-Frag") ≡ begins (pieces_of (take at name)) name
front_begins at name within =
    let whole : take (length name - at) (drop at name) ≡ drop at name =
    ap (λ n. take n (drop at name)) (sym (length-drop at name)) ∙ take-length (drop at name) in
    ap (λ (t : Text). starts_with nat_eq t (codes ".part-Frag")) whole ∙ begins_is (codes ".part-Frag") (drop at name) ∙ sym (begins_at at name within)

pub piece_begins : (component name rest : Text) (n : ℕ) → name ≡ component ++ drop n name → rest ≡ drop n name → starts_with nat_eq rest (codes ".part-Frag") ≡ begins (pieces_of component) name
piece_begins component name rest n whole is =
    begins_is (codes ".part-Frag") rest ∙ sym (tail_begins component (codes ".part-Frag") rest) ∙ ap (λ (t : Text). begins (pieces_of component) (component ++ t)) is
    ∙ ap (begins (pieces_of component)) (sym whole)

pub piece_not_begun : (component name : Text) → ((rest : Text) → name ≢ component ++ rest) → false ≡ begins (pieces_of component) name
piece_not_begun component name never =
    sym (false_from_ne_true (begins (pieces_of component) name)
    (λ t. never (drop (length component) name) (sym (take-append-drop (length component) name) ∙ ap (λ (s : Text). s ++ drop (length component) name) (front_at component name t).0)))
