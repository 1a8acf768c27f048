-- A run of the machine says which tokens are a JSON text, which begin one, and where that ends.
use Rattle.std.proofs.Common.{◌≡◌, ℕ, List, [], ◌∷◌, ◌++◌, refl, sym, ap, subst, ◌∙◌, append_assoc}
use Rattle.std.specs.Prelude.{Option, Some, None}
use Rattle.info_tree.specs.Tree.{Tree}
use Rattle.info_tree.specs.Token.{Token, BeginsWith, Splits, after_space}
use Rattle.info_tree.specs.Json.{IsValue, IsOpen, Stops, Reads, SyntaxAt}
use Rattle.info_tree.specs.Machine.{value, done, State, step, Runs}
use Rattle.info_tree.proofs.Completes.{Completes, derives}
use Rattle.info_tree.proofs.Again.{CompletesNext, again, live}
use Rattle.info_tree.proofs.OneToken.{one_token, one_rest, none_begins}

some_same : {A : Type 0} (a b : A) → Some a ≡ Some b → a ≡ b
some_same a b e = cc

runs_on : (s u : State) (ts more : List Token) (root : Tree) → Runs s ts u → Completes u.0 u.1 more root → Completes s.0 s.1 (ts ++ more) root
runs_on s u [] more root r c = subst (λ (x : State). Completes x.0 x.1 more root) (sym r) c
runs_on s u (t ∷ ts) more root (mid, e, r) c =
    again s.0 s.1 t (ts ++ more) root (subst (λ (o : Option State). CompletesNext o (ts ++ more) root) (sym e) (runs_on mid u ts more root r c))

runs_back : (s u : State) (ts more : List Token) (root : Tree) → Runs s ts u → Completes s.0 s.1 (ts ++ more) root → Completes u.0 u.1 more root
runs_back s u [] more root r c = subst (λ (x : State). Completes x.0 x.1 more root) r c
runs_back s u (t ∷ ts) more root (mid, e, r) c =
    let d = derives s.0 s.1 (t ∷ (ts ++ more)) root c in
    let same : d.0 ≡ mid = some_same d.0 mid (sym d.1 ∙ e) in
    runs_back mid u ts more root r (subst (λ (x : State). Completes x.0 x.1 (ts ++ more) root) same d.2)

abbrev pub start : State
start = ([], value)

append-nil : {A : Type 0} (l : List A) → l ++ [] ≡ l
append-nil [] = refl
append-nil (x ∷ xs) = ap (λ k. x ∷ k) (append-nil xs)

started : (ts : List Token) (root : Tree) → IsValue ts root → Completes [] value ts root
started ts root is = (ts, [], root, sym (append-nil ts), is, (refl, refl))

whole : (ts : List Token) (root : Tree) → Completes [] value ts root → IsValue ts root
whole ts root (v, rest, t, e, is, (none, same)) = subst (λ (l : List Token). IsValue l root) (sym (e ∙ ap (λ l. v ++ l) none ∙ append-nil v)) (subst (λ (u : Tree). IsValue v u) (sym same) is)

-- what the machine has read is open
pub is_open : (ts : List Token) (u : State) → Runs start ts u → IsOpen ts
is_open ts u r = let l = live u.0 u.1 in (l.0, l.1, whole (ts ++ l.0) l.1 (runs_on start u ts l.0 l.1 r l.2))

-- what it refuses ends openness
pub stops_at : (ts : List Token) (u : State) (t : Token) → Runs start ts u → step u.0 u.1 t ≡ None → IsOpen (ts ++ t ∷ []) → ⊥
stops_at ts u t r refused (more, root, is) =
    let c = runs_back start u ts (t ∷ more) root r (started (ts ++ t ∷ more) root (subst (λ (l : List Token). IsValue l root) (append_assoc ts (t ∷ []) more) is)) in
    let d = derives u.0 u.1 (t ∷ more) root c in
    let e : None ≡ Some d.0 = sym refused ∙ d.1 in cc

pub is_value : (ts : List Token) (t : Tree) → Runs start ts ([], done t) → IsValue ts t
is_value ts t r = subst (λ (l : List Token). IsValue l t) (append-nil ts) (whole (ts ++ []) t (runs_on start ([], done t) ts [] t r (refl, refl)))

-- the end of a text is the end of its run
pub ends : (ts : List Token) (u : State) (t : Tree) → Runs start ts u → IsValue ts t → (u.0 ≡ []) × (u.1 ≡ done t)
ends ts u t r is =
    let c = runs_back start u ts [] t r (subst (λ (l : List Token). Completes [] value l t) (sym (append-nil ts)) (started ts t is)) in
    derives u.0 u.1 [] t c

-- each text has its run
runs_of : (s : State) (ts : List Token) (root : Tree) → Completes s.0 s.1 ts root → Runs s ts ([], done root)
runs_of s [] root c = let d = derives s.0 s.1 [] root c in λ i. (d.0 i, d.1 i)
runs_of s (t ∷ ts) root c = let d = derives s.0 s.1 (t ∷ ts) root c in (d.0, d.1, runs_of d.0 ts root d.2)

pub one_value : (ts : List Token) (a b : Tree) → IsValue ts a → IsValue ts b → a ≡ b
one_value ts a b x y =
    let e = ends ts ([], done a) b (runs_of start ts a (started ts a x)) y in
    let f : done a ≡ done b = e.1 in cc

-- two ways to split tokens off the left agree
one_split : (bytes : List ℕ) (ts us : List Token) → Splits bytes ts [] → Splits bytes us [] → ts ≡ us
one_split bytes [] [] a b = refl
one_split bytes [] (u ∷ us) a (after, e, b) = absurd (none_begins u after (subst (λ (l : List ℕ). BeginsWith l u after) (sym a) e))
one_split bytes (t ∷ ts) [] (after, e, a) b = absurd (none_begins t after (subst (λ (l : List ℕ). BeginsWith l t after) (sym b) e))
one_split bytes (t ∷ ts) (u ∷ us) (after, e, a) (behind, f, b) =
    let same = one_token (after_space bytes) t u after behind e f in
    let rest : Splits behind ts [] = subst (λ (l : List ℕ). Splits l ts []) (one_rest (after_space bytes) t u after behind e f) a in
    λ i. same i ∷ one_split behind ts us rest b i

-- a text has one list of tokens
pub one_list : (bytes : List ℕ) (a b : Tree) (x : Reads bytes a) (y : Reads bytes b) → x.tokens ≡ y.tokens
one_list bytes a b x y = one_split bytes x.tokens y.tokens x.split y.split

-- a text has one tree
pub one_tree : (bytes : List ℕ) (a b : Tree) → Reads bytes a → Reads bytes b → a ≡ b
one_tree bytes a b x y = one_value y.tokens a b (subst (λ (l : List Token). IsValue l a) (one_list bytes a b x y) x.value) y.value

-- what the split of a whole text has behind that of a part
abbrev pub Follows : List Token → List ℕ → Type 0
Follows [] rest = rest ≡ []
Follows (m ∷ ms) rest = (after : List ℕ) × BeginsWith rest m after

abbrev pub GoesOn : List Token → List Token → List ℕ → Type 0
GoesOn ts us rest = (more : List Token) × (us ≡ ts ++ more) × Follows more rest

-- the tokens of a whole text go on from those of its front
pub goes_on : (bytes : List ℕ) (ts us : List Token) (rest : List ℕ) → Splits bytes ts rest → Splits bytes us [] → GoesOn ts us rest
goes_on bytes [] [] rest a b = ([], refl, a ∙ sym b)
goes_on bytes [] (u ∷ us) rest a (after, e, b) = (u ∷ us, refl, (after, subst (λ (l : List ℕ). BeginsWith l u after) (sym a) e))
goes_on bytes (t ∷ ts) [] rest (after, e, a) b = absurd (none_begins t after (subst (λ (l : List ℕ). BeginsWith l t after) (sym b) e))
goes_on bytes (t ∷ ts) (u ∷ us) rest (after, e, a) (behind, f, b) =
    let same = one_token (after_space bytes) t u after behind e f in
    let back : Splits behind ts rest = subst (λ (l : List ℕ). Splits l ts rest) (one_rest (after_space bytes) t u after behind e f) a in
    let r = goes_on behind ts us rest back b in
    (r.0, (λ i. sym same i ∷ r.1 i), r.2)

stopped : (ts more : List Token) (rest : List ℕ) (t : Tree) → Stops ts rest → Follows more rest → IsValue (ts ++ more) t → ⊥
stopped ts [] [] t s f is = s t (subst (λ (l : List Token). IsValue l t) (append-nil ts) is)
stopped ts [] (b ∷ bs) t s f is = cc
stopped ts (m ∷ ms) [] t s (after, e) is = none_begins m after e
stopped ts (m ∷ ms) (b ∷ bs) t s (after, e) is = s m after e (ms, t, subst (λ (l : List Token). IsValue l t) (sym (append_assoc ts (m ∷ []) ms)) is)

-- a text with a fault has no tree
pub no_tree : (bytes : List ℕ) (place : ℕ) (t : Tree) → SyntaxAt bytes place → Reads bytes t → ⊥
no_tree bytes place t x y =
    let g = goes_on bytes x.tokens y.tokens x.rest x.split y.split in
    stopped x.tokens g.0 x.rest t x.stops g.2 (subst (λ (l : List Token). IsValue l t) g.1 y.value)

-- one token more
pub splits_on : (bytes : List ℕ) (ts : List Token) (rest : List ℕ) (t : Token) (after : List ℕ) →
    Splits bytes ts rest → BeginsWith rest t after → Splits bytes (ts ++ t ∷ []) (after_space after)
splits_on bytes [] rest t after a e = (after, subst (λ (l : List ℕ). BeginsWith l t after) a e, refl)
splits_on bytes (u ∷ us) rest t after (behind, f, a) e = (behind, f, splits_on behind us rest t after a e)

pub runs_more : (s u w : State) (ts : List Token) (t : Token) → Runs s ts u → step u.0 u.1 t ≡ Some w → Runs s (ts ++ t ∷ []) w
runs_more s u w [] t r e = (w, subst (λ (x : State). step x.0 x.1 t ≡ Some w) (sym r) e, refl)
runs_more s u w (x ∷ xs) t (mid, f, r) e = (mid, f, runs_more mid u w xs t r e)
