-- The words of a tool, one after another.
use Rattle.std.proofs.Common.{◌≡◌, ℕ, ◌≤◌, List, [], ◌∷◌, ◌++◌, length, map, drop, get_or, refl, sym, ap, ◌∙◌, subst, arith, append_assoc, append-nil}
use Rattle.std.proofs.lemmas.Bool.{cond-true}
use Rattle.std.specs.Prelude.{Bool, true, false, Option, Some, None, option_map, if◌then◌else◌}
use Rattle.ytdl_stub.specs.Job.{Joined, joined, joined_to, is_input, with_input}

-- inputs before the others
abbrev pub with_inputs : List (List ℕ) → Joined → Joined
with_inputs names files = record { inputs = names ++ files.inputs; output = files.output }

pub with_none : (found : Option Joined) → found ≡ option_map (with_inputs []) found
with_none None = refl
with_none (Some files) = refl

pub with_one_more : (names : List (List ℕ)) (name : List ℕ) (found : Option Joined)
    → option_map (with_inputs names) (option_map (with_input name) found) ≡ option_map (with_inputs (names ++ name ∷ [])) found
with_one_more names name None = refl
with_one_more names name (Some files) =
    ap (λ (inputs : List (List ℕ)). Some (record { inputs = inputs; output = files.output })) (sym (append_assoc names (name ∷ []) files.inputs))

to_word : (b : Bool) (names : List (List ℕ)) (word : List ℕ)
    → option_map (with_inputs names) (if b then None else Some (record { inputs = []; output = word }))
    ≡ (if b then None else Some (record { inputs = names; output = word }))
to_word true names word = refl
to_word false names word = ap (λ (inputs : List (List ℕ)). Some (record { inputs = inputs; output = word })) (append-nil names)

pub with_all : (names : List (List ℕ)) (word : List ℕ) → option_map (with_inputs names) (joined_to [] word) ≡ joined_to names word
with_all names word = to_word (is_input word) names word

-- A word that says that an input follows, and the input.
pub joined_input : {X : Type 0} (text : X → List ℕ) (rest : List X) (word name : X) → 2 ≤ length rest
    → word ≡ get_or rest 0 word → name ≡ get_or rest 1 name → is_input (text word) ≡ true
    → joined (map text rest) ≡ option_map (with_input (text name)) (joined (map text (drop 2 rest)))
joined_input text [] word name two first second is = absurd (omega arith)
joined_input text (w ∷ []) word name two first second is = absurd (omega arith)
joined_input {X = X} text (w ∷ n ∷ rest) word name two first second is =
    let P : X → Type 0 = λ x. is_input (text x) ≡ true in
    cond-true _ _ _ (subst P first is) ∙ ap (λ (x : X). option_map (with_input (text x)) (joined (map text rest))) (sym second)

-- The inputs so far, and one more.
pub input_taken : {X : Type 0} (text : X → List ℕ) (names more : List (List ℕ)) (rest left : List X) (word name : X) (found : Option Joined)
    → found ≡ option_map (with_inputs names) (joined (map text rest)) → 2 ≤ length rest
    → word ≡ get_or rest 0 word → name ≡ get_or rest 1 name → is_input (text word) ≡ true → left ≡ drop 2 rest
    → more ≡ names ++ text name ∷ []
    → found ≡ option_map (with_inputs more) (joined (map text left))
input_taken text names more rest left word name found so_far two first second is e one =
    so_far
    ∙ ap (option_map (with_inputs names)) (joined_input text rest word name two first second is)
    ∙ with_one_more names (text name) (joined (map text (drop 2 rest)))
    ∙ ap (λ l. option_map (with_inputs (names ++ text name ∷ [])) (joined (map text l))) (sym e)
    ∙ ap (λ ns. option_map (with_inputs ns) (joined (map text left))) (sym one)
