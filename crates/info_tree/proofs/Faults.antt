-- A text has one answer: its tree, or its first fault.
use Rattle.std.proofs.Common.{◌≡◌, ℕ, ◌+◌, ◌<◌, ◌≤◌, List, [], ◌∷◌, ◌++◌, length, take, take_all, refl, sym, ap, subst, ◌∙◌, arith, inl, inr, true, false}
use Rattle.std.specs.Prelude.{◌⊎◌, None, Result, Ok, Err, IfOk, IfErr, nat_le}
use Rattle.std.proofs.lemmas.Bool.{cases_lt}
use Rattle.std.proofs.lemmas.Bool.Decides.{nat_tests}
use Rattle.std.specs.Str.{IsUtf8, IsValidUpTo}
use Rattle.std.proofs.lemmas.Str.{utf8_valid_len-IsValidUpTo}
use Rattle.text_base.specs.Value.{exact_value, number_value}
use Rattle.text_base.specs.declared.num_fault.NumFault.{NumFault}
use Rattle.text_base.specs.declared.num_fault.NumFault.TheVariants.{NotNumber, NumberRange, NumberLong}
use Rattle.info_tree.specs.Tree.{Tree as Plain}
use Rattle.info_tree.specs.Plain.{plain}
use Rattle.info_tree.specs.Token.{Token, begin_list, begin_map, numeral, BeginsWith, Splits}
use Rattle.info_tree.specs.Levels.{level, levels, StayWithin}
use Rattle.info_tree.specs.Json.{SyntaxAt}
use Rattle.info_tree.specs.Reading.{IsTextOf, IsAccepted, AreAccepted, IsRefused, Opens, Before, DepthAt, NumberAt, IsFaulty, by_syntax, by_depth, by_number, IsFirst, Has, IsTree, IsFault, most_levels}
use Rattle.info_tree.specs.declared.tree.Tree.{Tree}
use Rattle.info_tree.specs.declared.tree_fault.TreeFault.{TreeFault}
use Rattle.info_tree.specs.declared.tree_fault.TreeFault.TheVariants.{Syntax, Depth, Number, NotUtf8, TooLong, OutOfMemory}
use Rattle.info_tree.proofs.OneToken.{one_token, none_begins}
use Rattle.info_tree.proofs.Texts.{one_tree, no_tree, Follows, goes_on}
use Rattle.info_tree.proofs.Splits.{same_split, stay_at, accepted_at}

-- ---- a token that is accepted is not refused
number_long : (s : List ℕ) → 64 < length s → number_value s ≡ None
unfolding number_value
number_long s h = let e : nat_le (length s) 64 ≡ false = grind (arith, nat_tests) in rw e refl

number_out : (s : List ℕ) → length s ≤ 64 → exact_value s ≡ None → number_value s ≡ None
unfolding number_value
number_out s h f = let e : nat_le (length s) 64 ≡ true = grind (arith, nat_tests) in rw e f

pub not_refused : (s : List ℕ) (f : NumFault) → IsAccepted (numeral s) → IsRefused s f → ⊥
not_refused s NotNumber a r = r
not_refused s NumberLong a r = let no_value : IsAccepted (numeral s) = a in let h : false ≡ true = rw (number_long s r) at no_value in cc
not_refused s NumberRange a r = let no_value : IsAccepted (numeral s) = a in let h : false ≡ true = rw (number_out s r.0 r.1) at no_value in cc

-- one refusal for a spelling
pub one_refusal : (s : List ℕ) (f g : NumFault) → IsRefused s f → IsRefused s g → f ≡ g
one_refusal s NotNumber g a b = absurd a
one_refusal s NumberLong NotNumber a b = absurd b
one_refusal s NumberLong NumberLong a b = refl
one_refusal s NumberLong NumberRange a b = absurd (omega (arith, a, b.0))
one_refusal s NumberRange NotNumber a b = absurd b
one_refusal s NumberRange NumberLong a b = absurd (omega (arith, b, a.0))
one_refusal s NumberRange NumberRange a b = refl

-- a bracket that opens raises the level
pub opened : (n : ℕ) (t : Token) → Opens t → level n t ≡ n + 1
opened n t (inl e) = rw e refl
opened n t (inr e) = rw e refl

-- ---- a text with a tree has no fault
token_of : (bytes : List ℕ) (tree : Plain) (x : IsTextOf bytes tree) (b : List Token) (rest after : List ℕ) (t : Token) → Splits bytes b rest → BeginsWith rest t after →
    (more : List Token) × (x.reads.tokens ≡ b ++ t ∷ more)
token_of bytes tree x b rest after t s w = step (goes_on bytes b x.reads.tokens rest s x.reads.split)
  where
    step : (g : (more : List Token) × (x.reads.tokens ≡ b ++ more) × Follows more rest) → (more : List Token) × (x.reads.tokens ≡ b ++ t ∷ more)
    step ([], e, f) = absurd (none_begins t after (subst (λ (l : List ℕ). BeginsWith l t after) f w))
    step (m ∷ ms, e, (behind, f)) = (ms, e ∙ ap (λ u. b ++ u ∷ ms) (one_token rest m t behind after f w))

no_depth : (bytes : List ℕ) (place : ℕ) (tree : Plain) → DepthAt bytes place → IsTextOf bytes tree → ⊥
no_depth bytes place tree d x =
    let m = token_of bytes tree x d.before.tokens d.before.rest d.after d.bracket d.before.split d.begins in
    let all : StayWithin most_levels 0 (d.before.tokens ++ d.bracket ∷ m.0) = subst (λ (l : List Token). StayWithin most_levels 0 l) m.1 x.shallow in
    omega (arith, stay_at most_levels 0 d.before.tokens m.0 d.bracket all, opened (levels 0 d.before.tokens) d.bracket d.opens, d.full)

no_number : (bytes : List ℕ) (place : ℕ) (fault : NumFault) (tree : Plain) → NumberAt bytes place fault → IsTextOf bytes tree → ⊥
no_number bytes place fault tree n x =
    let m = token_of bytes tree x n.before.tokens n.before.rest n.after (numeral n.spelling) n.before.split n.begins in
    let all : AreAccepted (n.before.tokens ++ numeral n.spelling ∷ m.0) = subst (λ (l : List Token). AreAccepted l) m.1 x.accepted in
    not_refused n.spelling fault (accepted_at n.before.tokens m.0 (numeral n.spelling) all) n.refused

not_utf8 : (bytes : List ℕ) (at : ℕ) → IsValidUpTo bytes at → IsUtf8 bytes → ⊥
not_utf8 bytes at v u =
    let whole : take (length bytes) bytes ≡ bytes = take_all (length bytes) bytes (omega arith) in
    v.longest (length bytes) v.short (subst (λ (l : List ℕ). IsUtf8 l) (sym whole) u)

pub no_fault : (bytes : List ℕ) (tree : Plain) (fault : TreeFault) → IsTextOf bytes tree → Has bytes fault → fault ≡ OutOfMemory
no_fault bytes tree (Syntax at) x h = absurd (no_tree bytes at tree h.1 x.reads)
no_fault bytes tree (Depth at) x h = absurd (no_depth bytes at tree h.1 x)
no_fault bytes tree (Number at f) x h = absurd (no_number bytes at f tree h.1 x)
no_fault bytes tree (NotUtf8 at) x h = absurd (not_utf8 bytes at h.1 x.reads.utf8)
no_fault bytes tree TooLong x h = absurd (omega (arith, h, x.short))
no_fault bytes tree OutOfMemory x h = refl

-- ---- two faults of one text are one
one_place : (bytes : List ℕ) (p q : ℕ) → IsFirst bytes p → IsFirst bytes q → IsFaulty bytes p → IsFaulty bytes q → p ≡ q
one_place bytes p q a b f g = step (cases_lt p q) (cases_lt q p)
  where
    step : (p < q) ⊎ (q ≤ p) → (q < p) ⊎ (p ≤ q) → p ≡ q
    step (inl l) m = absurd (b.none_before p l f)
    step (inr l) (inl m) = absurd (a.none_before q m g)
    step (inr l) (inr m) = omega arith

same_before : (bytes : List ℕ) (p : ℕ) (x y : Before bytes p) → (x.tokens ≡ y.tokens) × (x.rest ≡ y.rest)
same_before bytes p x y = same_split bytes x.tokens y.tokens x.rest y.rest x.split y.split (omega (arith, x.at, y.at))

-- a bracket is no number
no_bracket : (bytes : List ℕ) (p : ℕ) (f : NumFault) → DepthAt bytes p → NumberAt bytes p f → ⊥
no_bracket bytes p f d n =
    let same = same_before bytes p d.before n.before in
    let there : BeginsWith n.before.rest d.bracket d.after = subst (λ (l : List ℕ). BeginsWith l d.bracket d.after) same.1 d.begins in
    apart (one_token n.before.rest d.bracket (numeral n.spelling) d.after n.after there n.begins) d.opens
  where
    apart : {s : List ℕ} {t : Token} → t ≡ numeral s → Opens t → ⊥
    apart {s} {t} e (inl o) = let h : begin_list ≡ numeral s = sym o ∙ e in cc
    apart {s} {t} e (inr o) = let h : begin_map ≡ numeral s = sym o ∙ e in cc

spelled_same : (s t : List ℕ) → numeral s ≡ numeral t → s ≡ t
spelled_same s t e = cc

one_number : (bytes : List ℕ) (p : ℕ) (f g : NumFault) → NumberAt bytes p f → NumberAt bytes p g → f ≡ g
one_number bytes p f g m n =
    let same = same_before bytes p m.before n.before in
    let there : BeginsWith n.before.rest (numeral m.spelling) m.after = subst (λ (l : List ℕ). BeginsWith l (numeral m.spelling) m.after) same.1 m.begins in
    let spelled = spelled_same m.spelling n.spelling (one_token n.before.rest (numeral m.spelling) (numeral n.spelling) m.after n.after there n.begins) in
    one_refusal n.spelling f g (subst (λ (s : List ℕ). IsRefused s f) spelled m.refused) n.refused

moved_syntax : (bytes : List ℕ) (p q : ℕ) → p ≡ q → SyntaxAt bytes p → SyntaxAt bytes q
moved_syntax bytes p q e s = subst (λ (n : ℕ). SyntaxAt bytes n) e s

pub one_fault : (bytes : List ℕ) (f g : TreeFault) → Has bytes f → Has bytes g → (f ≡ g) ⊎ (f ≡ OutOfMemory) ⊎ (g ≡ OutOfMemory)
one_fault bytes OutOfMemory g x y = inr (inl refl)
one_fault bytes (Syntax p) OutOfMemory x y = inr (inr refl)
one_fault bytes (Syntax p) (Syntax q) x y = inl (ap Syntax (one_place bytes p q x.0 y.0 (by_syntax x.1) (by_syntax y.1)))
one_fault bytes (Syntax p) (Depth q) x y =
    absurd (y.2 (moved_syntax bytes p q (one_place bytes p q x.0 y.0 (by_syntax x.1) (by_depth y.1)) x.1))
one_fault bytes (Syntax p) (Number q g) x y =
    absurd (y.2 (moved_syntax bytes p q (one_place bytes p q x.0 y.0 (by_syntax x.1) (by_number g y.1)) x.1))
one_fault bytes (Syntax p) (NotUtf8 q) x y = absurd (not_utf8 bytes q y.1 x.0.utf8)
one_fault bytes (Syntax p) TooLong x y = absurd (omega (arith, y, x.0.short))
one_fault bytes (Depth p) OutOfMemory x y = inr (inr refl)
one_fault bytes (Depth p) (Syntax q) x y =
    absurd (x.2 (moved_syntax bytes q p (one_place bytes q p y.0 x.0 (by_syntax y.1) (by_depth x.1)) y.1))
one_fault bytes (Depth p) (Depth q) x y = inl (ap Depth (one_place bytes p q x.0 y.0 (by_depth x.1) (by_depth y.1)))
one_fault bytes (Depth p) (Number q g) x y =
    let same : p ≡ q = one_place bytes p q x.0 y.0 (by_depth x.1) (by_number g y.1) in
    absurd (no_bracket bytes q g (subst (λ (n : ℕ). DepthAt bytes n) same x.1) y.1)
one_fault bytes (Depth p) (NotUtf8 q) x y = absurd (not_utf8 bytes q y.1 x.0.utf8)
one_fault bytes (Depth p) TooLong x y = absurd (omega (arith, y, x.0.short))
one_fault bytes (Number p f) OutOfMemory x y = inr (inr refl)
one_fault bytes (Number p f) (Syntax q) x y =
    absurd (x.2 (moved_syntax bytes q p (one_place bytes q p y.0 x.0 (by_syntax y.1) (by_number f x.1)) y.1))
one_fault bytes (Number p f) (Depth q) x y =
    let same : q ≡ p = one_place bytes q p y.0 x.0 (by_depth y.1) (by_number f x.1) in
    absurd (no_bracket bytes p f (subst (λ (n : ℕ). DepthAt bytes n) same y.1) x.1)
one_fault bytes (Number p f) (Number q g) x y =
    let same : p ≡ q = one_place bytes p q x.0 y.0 (by_number f x.1) (by_number g y.1) in
    inl (λ i. Number (same i) (one_number bytes q f g (subst (λ (n : ℕ). NumberAt bytes n f) same x.1) y.1 i))
one_fault bytes (Number p f) (NotUtf8 q) x y = absurd (not_utf8 bytes q y.1 x.0.utf8)
one_fault bytes (Number p f) TooLong x y = absurd (omega (arith, y, x.0.short))
one_fault bytes (NotUtf8 p) OutOfMemory x y = inr (inr refl)
one_fault bytes (NotUtf8 p) (Syntax q) x y = absurd (not_utf8 bytes p x.1 y.0.utf8)
one_fault bytes (NotUtf8 p) (Depth q) x y = absurd (not_utf8 bytes p x.1 y.0.utf8)
one_fault bytes (NotUtf8 p) (Number q g) x y = absurd (not_utf8 bytes p x.1 y.0.utf8)
one_fault bytes (NotUtf8 p) (NotUtf8 q) x y = inl (ap NotUtf8 (sym (utf8_valid_len-IsValidUpTo bytes p x.1) ∙ utf8_valid_len-IsValidUpTo bytes q y.1))
one_fault bytes (NotUtf8 p) TooLong x y = absurd (omega (arith, y, x.0))
one_fault bytes TooLong OutOfMemory x y = inr (inr refl)
one_fault bytes TooLong (Syntax q) x y = absurd (omega (arith, x, y.0.short))
one_fault bytes TooLong (Depth q) x y = absurd (omega (arith, x, y.0.short))
one_fault bytes TooLong (Number q g) x y = absurd (omega (arith, x, y.0.short))
one_fault bytes TooLong (NotUtf8 q) x y = absurd (omega (arith, x, y.0))
one_fault bytes TooLong TooLong x y = inl refl

-- ---- the answer of the reader
pub only_tree : (bytes : List ℕ) (r : Result Tree TreeFault) → IfOk r (λ t. IsTextOf bytes (plain t)) → IfErr r (Has bytes) →
    (tree : Plain) → IsTextOf bytes tree → IsTree tree r
only_tree bytes (Ok t) ok err tree is = one_tree bytes (plain t) tree ok.reads is.reads
only_tree bytes (Err e) ok err tree is = no_fault bytes tree e is err

pub only_fault : (bytes : List ℕ) (r : Result Tree TreeFault) → IfOk r (λ t. IsTextOf bytes (plain t)) → IfErr r (Has bytes) →
    (fault : TreeFault) → Has bytes fault → IsFault fault r
only_fault bytes (Ok t) ok err fault has = no_fault bytes (plain t) fault ok has
only_fault bytes (Err e) ok err fault has = one_fault bytes e fault err has
