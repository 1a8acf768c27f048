-- JSON texts (RFC 8259, sections 2 to 8): which tokens spell which tree, and where a text stops being one.
use Rattle.std.specs.Prelude.{◌≡◌, ℕ, ◌+◌, List, [], ◌∷◌, ◌++◌, length, true, false, fold}
use Rattle.std.specs.Str.{IsUtf8}
use Rattle.text_base.specs.Value.{value_of}
use Rattle.info_tree.specs.Tree.{Tree, null, truth, number, text, list, mapping, trees_of, pairs_of}
use Rattle.info_tree.specs.Token.{Piece, Word, null_word, true_word, false_word, Token, begin_list, end_list, begin_map, end_map, comma, colon, word, numeral, string, BeginsWith, Splits}
use Rattle.info_tree.specs.Strings.{text_of}
use Rattle.info_tree.specs.Pairs.{put}

-- what is left of members: a repeated key keeps its first place and takes its last value
abbrev pub put_all : List (List ℕ × Tree) → List (List ℕ × Tree) → List (List ℕ × Tree)
put_all = fold (λ ps p. put ps p.0 p.1)

-- the value that a word stands for
abbrev pub word_value : Word → Tree
word_value null_word = null
word_value true_word = truth true
word_value false_word = truth false

-- The tokens of a value, and its tree. The number of a numeral is taken as it is, in range or not.
mutual
  -- a value, as its tokens
  pub data IsValue : List Token → Tree → Type 0 where
    a_word : {w : Word} → IsValue (word w ∷ []) (word_value w)
    a_number : {s : List ℕ} → IsValue (numeral s ∷ []) (number (value_of s))
    a_string : {s : List Piece} → IsValue (string s ∷ []) (text (text_of s))
    a_list : {ts : List Token} {t : Tree} (inner : List Token) (xs : List Tree) →
        ts ≡ begin_list ∷ (inner ++ end_list ∷ []) → t ≡ list (trees_of xs) → AreItems inner xs → IsValue ts t
    a_map : {ts : List Token} {t : Tree} (inner : List Token) (ps : List (List ℕ × Tree)) →
        ts ≡ begin_map ∷ (inner ++ end_map ∷ []) → t ≡ mapping (pairs_of (put_all [] ps)) → AreMembers inner ps → IsValue ts t

  -- [ value *( , value ) ]
  pub data AreItems : List Token → List Tree → Type 0 where
    no_items : AreItems [] []
    items : {ts : List Token} {t : Tree} {xs : List Tree} (v more : List Token) →
        ts ≡ v ++ more → IsValue v t → AreMoreItems more xs → AreItems ts (t ∷ xs)

  -- *( , value )
  pub data AreMoreItems : List Token → List Tree → Type 0 where
    no_more_items : AreMoreItems [] []
    more_items : {ts : List Token} {t : Tree} {xs : List Tree} (v more : List Token) →
        ts ≡ comma ∷ (v ++ more) → IsValue v t → AreMoreItems more xs → AreMoreItems ts (t ∷ xs)

  -- [ string : value *( , string : value ) ]
  pub data AreMembers : List Token → List (List ℕ × Tree) → Type 0 where
    no_members : AreMembers [] []
    members : {ts : List Token} {t : Tree} {ps : List (List ℕ × Tree)} (k : List Piece) (v more : List Token) →
        ts ≡ string k ∷ colon ∷ (v ++ more) → IsValue v t → AreMoreMembers more ps → AreMembers ts ((text_of k, t) ∷ ps)

  -- *( , string : value )
  pub data AreMoreMembers : List Token → List (List ℕ × Tree) → Type 0 where
    no_more_members : AreMoreMembers [] []
    more_members : {ts : List Token} {t : Tree} {ps : List (List ℕ × Tree)} (k : List Piece) (v more : List Token) →
        ts ≡ comma ∷ string k ∷ colon ∷ (v ++ more) → IsValue v t → AreMoreMembers more ps → AreMoreMembers ts ((text_of k, t) ∷ ps)

-- The whole text is UTF-8 and one value, with white space anywhere between its tokens.
pub record Reads (bytes : List ℕ) (tree : Tree) : Type 0 where
  pub utf8 : IsUtf8 bytes
  pub tokens : List Token
  pub split : Splits bytes tokens []
  pub value : IsValue tokens tree

-- some JSON text begins with these tokens
abbrev pub IsOpen : List Token → Type 0
IsOpen ts = (more : List Token) × (tree : Tree) × IsValue (ts ++ more) tree

-- behind these tokens, what is left goes on to no text: no token begins there that keeps them open
abbrev pub Stops : List Token → List ℕ → Type 0
Stops ts [] = (tree : Tree) → IsValue ts tree → ⊥
Stops ts (b ∷ bs) = (t : Token) (after : List ℕ) → BeginsWith (b ∷ bs) t after → IsOpen (ts ++ t ∷ []) → ⊥

-- The first fault of the grammar stands at this place: the tokens before it are open, and with what begins there they aren't.
pub record SyntaxAt (bytes : List ℕ) (place : ℕ) : Type 0 where
  pub tokens : List Token
  pub rest : List ℕ
  pub split : Splits bytes tokens rest
  pub at : place + length rest ≡ length bytes
  pub open_before : IsOpen tokens
  pub stops : Stops tokens rest
