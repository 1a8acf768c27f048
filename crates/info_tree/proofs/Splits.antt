-- Two ways to split tokens off the left of one text agree as far as both go.
use Rattle.std.proofs.Common.{◌≡◌, ℕ, ◌<◌, ◌≤◌, List, [], ◌∷◌, ◌++◌, length, refl, sym, ap, subst, ◌∙◌, append_assoc, arith}
use Rattle.std.specs.Prelude.{Bool, true, false, cond}
use Rattle.info_tree.specs.Token.{Token, BeginsWith, Splits, after_space, is_space}
use Rattle.info_tree.specs.Json.{IsValue, IsOpen}
use Rattle.info_tree.specs.Levels.{level, levels, StayWithin}
use Rattle.info_tree.specs.Reading.{IsAccepted, AreAccepted}
use Rattle.info_tree.proofs.OneToken.{one_token, one_rest, shorter}

after_space-within : (bs : List ℕ) → length (after_space bs) ≤ length bs
after_space-within [] = omega arith
after_space-within (b ∷ bs) = step (is_space b) (after_space-within bs)
  where
    step : (t : Bool) → length (after_space bs) ≤ length bs → length (cond t (after_space bs) (b ∷ bs)) ≤ length (b ∷ bs)
    step true h = omega (arith, h)
    step false h = omega arith

-- what is left is no longer than the text without the white space at its front
left_within : (bytes : List ℕ) (ts : List Token) (rest : List ℕ) → Splits bytes ts rest → length rest ≤ length (after_space bytes)
left_within bytes [] rest e = omega (arith, ap length e)
left_within bytes (t ∷ ts) rest (after, b, s) =
    omega (arith, shorter (after_space bytes) t after b, left_within after ts rest s, after_space-within after)

-- what the longer split has behind the shorter one
pub record Next (ts us : List Token) (rest : List ℕ) : Type 0 where
  pub token : Token
  pub more : List Token
  pub after : List ℕ
  pub whole : us ≡ ts ++ token ∷ more
  pub begins : BeginsWith rest token after

-- the split that leaves more is a front of the one that leaves less
pub next_of : (bytes : List ℕ) (ts us : List Token) (r s : List ℕ) → Splits bytes ts r → Splits bytes us s → length s < length r → Next ts us r
next_of bytes [] [] r s e f h = absurd (omega (arith, ap length e, ap length f))
next_of bytes [] (u ∷ us) r s e (after, b, f) h =
    record { token = u; more = us; after = after; whole = refl; begins = subst (λ (l : List ℕ). BeginsWith l u after) (sym e) b }
next_of bytes (t ∷ ts) [] r s (after, b, e) f h =
    absurd (omega (arith, ap length f, shorter (after_space bytes) t after b, left_within after ts r e, after_space-within after))
next_of bytes (t ∷ ts) (u ∷ us) r s (after, b, e) (behind, c, f) h =
    let same = one_token (after_space bytes) t u after behind b c in
    let there : Splits behind ts r = subst (λ (l : List ℕ). Splits l ts r) (one_rest (after_space bytes) t u after behind b c) e in
    let n = next_of behind ts us r s there f h in
    record { token = n.token; more = n.more; after = n.after; whole = λ i. sym same i ∷ n.whole i; begins = n.begins }

-- two splits that leave as much are one
pub same_split : (bytes : List ℕ) (ts us : List Token) (r s : List ℕ) → Splits bytes ts r → Splits bytes us s → length r ≡ length s → (ts ≡ us) × (r ≡ s)
same_split bytes [] [] r s e f h = (refl, e ∙ sym f)
same_split bytes [] (u ∷ us) r s e (after, b, f) h =
    absurd (omega (arith, h, ap length e, shorter (after_space bytes) u after b, left_within after us s f, after_space-within after))
same_split bytes (t ∷ ts) [] r s (after, b, e) f h =
    absurd (omega (arith, h, ap length f, shorter (after_space bytes) t after b, left_within after ts r e, after_space-within after))
same_split bytes (t ∷ ts) (u ∷ us) r s (after, b, e) (behind, c, f) h =
    let same = one_token (after_space bytes) t u after behind b c in
    let there : Splits behind ts r = subst (λ (l : List ℕ). Splits l ts r) (one_rest (after_space bytes) t u after behind b c) e in
    let n = same_split behind ts us r s there f h in
    ((λ i. same i ∷ n.0 i), n.1)

-- ---- what holds of all tokens holds of each, and of a front
pub open_front : (ts us : List Token) → IsOpen (ts ++ us) → IsOpen ts
open_front ts us (more, tree, is) = (us ++ more, tree, subst (λ (l : List Token). IsValue l tree) (append_assoc ts us more) is)

pub stay_at : (limit n : ℕ) (ts us : List Token) (t : Token) → StayWithin limit n (ts ++ t ∷ us) → level (levels n ts) t ≤ limit
stay_at limit n [] us t s = s.0
stay_at limit n (u ∷ ts) us t s = stay_at limit (level n u) ts us t s.1

pub stay_levels : (limit n : ℕ) (ts : List Token) → n ≤ limit → StayWithin limit n ts → levels n ts ≤ limit
stay_levels limit n [] h s = h
stay_levels limit n (t ∷ ts) h s = stay_levels limit (level n t) ts s.0 s.1

pub stay_more : (limit n : ℕ) (ts : List Token) (t : Token) → StayWithin limit n ts → level (levels n ts) t ≤ limit → StayWithin limit n (ts ++ t ∷ [])
stay_more limit n [] t s h = (h, tt)
stay_more limit n (u ∷ ts) t s h = (s.0, stay_more limit (level n u) ts t s.1 h)

pub levels-more : (n : ℕ) (ts : List Token) (t : Token) → levels n (ts ++ t ∷ []) ≡ level (levels n ts) t
levels-more n [] t = refl
levels-more n (u ∷ ts) t = levels-more (level n u) ts t

pub accepted_at : (ts us : List Token) (t : Token) → AreAccepted (ts ++ t ∷ us) → IsAccepted t
accepted_at [] us t a = a.0
accepted_at (u ∷ ts) us t a = accepted_at ts us t a.1

pub accepted_more : (ts : List Token) (t : Token) → AreAccepted ts → IsAccepted t → AreAccepted (ts ++ t ∷ [])
accepted_more [] t a h = (h, tt)
accepted_more (u ∷ ts) t a h = (a.0, accepted_more ts t a.1 h)
