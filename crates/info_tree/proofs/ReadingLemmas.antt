-- What the reader's loop keeps, and what follows at each exit.
use Rattle.std.proofs.Common.{◌≡◌, ℕ, ◌+◌, ◌<◌, ◌≤◌, List, [], ◌∷◌, ◌++◌, length, refl, sym, ap, subst, ◌∙◌, append_assoc, arith, inl, inr, true, false}
use Rattle.std.specs.Prelude.{Some, None}
use Rattle.std.specs.Str.{IsUtf8}
use Rattle.info_tree.specs.Tree.{Tree as Plain}
use Rattle.info_tree.specs.Token.{Token, begin_list, end_list, begin_map, end_map, comma, colon, word, numeral, string, BeginsWith, Splits, after_space}
use Rattle.info_tree.specs.Levels.{level, levels, StayWithin}
use Rattle.info_tree.specs.Json.{SyntaxAt, Stops, IsOpen}
use Rattle.info_tree.specs.Reading.{most_bytes, most_levels, IsTextOf, AreAccepted, Opens, IsFaulty, by_syntax, by_depth, by_number, IsFirst, Has}
use Rattle.info_tree.specs.Machine as machine
use Rattle.info_tree.specs.Machine.{State, Runs, step, mark_of, done}
use Rattle.info_tree.specs.Lexed.{plain_frames, plain_next, Lexes, NoneBegins, IsNoToken, IsUnfinished, state_levels, takes_value}
use Rattle.info_tree.specs.declared.machine.Frame.{Frame}
use Rattle.info_tree.specs.declared.machine.Next.{Next}
use Rattle.info_tree.specs.declared.tree_fault.TreeFault.{TreeFault}
use Rattle.info_tree.specs.declared.tree_fault.TreeFault.TheVariants as fault
use Rattle.info_tree.proofs.OneToken.{one_token, none_begins, shorter}
use Rattle.info_tree.proofs.Texts.{start, is_open, stops_at, is_value, ends, splits_on, runs_more}
use Rattle.info_tree.proofs.LevelLemmas.{runs_level}
use Rattle.info_tree.proofs.Splits.{next_of, same_split, open_front, stay_at, stay_levels, stay_more, levels-more, accepted_at, accepted_more}
use Rattle.info_tree.proofs.Faults.{not_refused, opened}

abbrev pub state_of : List Frame → Next → State
state_of fs n = (plain_frames fs, plain_next n)

-- the tokens that were read led the machine to this state, within all limits
pub record SoFar (bytes : List ℕ) (state : State) (rest : List ℕ) : Type 0 where
  pub tokens : List Token
  pub split : Splits bytes tokens rest
  pub runs : Runs start tokens state
  pub within : length rest ≤ length bytes
  pub shallow : StayWithin most_levels 0 tokens
  pub accepted : AreAccepted tokens

pub nothing_read : (bytes : List ℕ) (state : State) (rest : List ℕ) → state ≡ start → rest ≡ after_space bytes → length rest ≤ length bytes → SoFar bytes state rest
nothing_read bytes state rest e f h = record { tokens = []; split = f; runs = sym e; within = h; shallow = tt; accepted = tt }

-- the tokens so far and one more are open
open_on : (bytes : List ℕ) (state next : State) (rest : List ℕ) (s : SoFar bytes state rest) (t : Token) → step state.0 state.1 t ≡ Some next → IsOpen (s.tokens ++ t ∷ [])
open_on bytes state next rest s t e = is_open (s.tokens ++ t ∷ []) next (runs_more start state next s.tokens t s.runs e)

-- ---- no fault stands before the tokens that were read
faulty_before : (bytes : List ℕ) (state : State) (rest : List ℕ) (place q : ℕ) → SoFar bytes state rest → place + length rest ≡ length bytes → q < place → IsFaulty bytes q → ⊥
faulty_before bytes state rest place q s e h (by_syntax x) =
    let n = next_of bytes x.tokens s.tokens x.rest rest x.split s.split (omega (arith, e, x.at)) in
    let all : IsOpen (x.tokens ++ n.token ∷ n.more) = subst (λ (l : List Token). IsOpen l) n.whole (is_open s.tokens state s.runs) in
    let one : IsOpen (x.tokens ++ n.token ∷ []) = open_front (x.tokens ++ n.token ∷ []) n.more (subst (λ (l : List Token). IsOpen l) (sym (append_assoc x.tokens (n.token ∷ []) n.more)) all) in
    stopped x.rest n.token n.after x.tokens x.stops n.begins one
  where
    stopped : (r : List ℕ) (t : Token) (after : List ℕ) (ts : List Token) → Stops ts r → BeginsWith r t after → IsOpen (ts ++ t ∷ []) → ⊥
    stopped [] t after ts x b o = none_begins t after b
    stopped (c ∷ cs) t after ts x b o = x t after b o
faulty_before bytes state rest place q s e h (by_depth x) =
    let n = next_of bytes x.before.tokens s.tokens x.before.rest rest x.before.split s.split (omega (arith, e, x.before.at)) in
    let same : x.bracket ≡ n.token = one_token x.before.rest x.bracket n.token x.after n.after x.begins n.begins in
    let all : StayWithin most_levels 0 (x.before.tokens ++ n.token ∷ n.more) = subst (λ (l : List Token). StayWithin most_levels 0 l) n.whole s.shallow in
    let opens : Opens n.token = subst (λ (t : Token). Opens t) same x.opens in
    omega (arith, stay_at most_levels 0 x.before.tokens n.more n.token all, opened (levels 0 x.before.tokens) n.token opens, x.full)
faulty_before bytes state rest place q s e h (by_number f x) =
    let n = next_of bytes x.before.tokens s.tokens x.before.rest rest x.before.split s.split (omega (arith, e, x.before.at)) in
    let same : n.token ≡ numeral x.spelling = one_token x.before.rest n.token (numeral x.spelling) n.after x.after n.begins x.begins in
    let all : AreAccepted (x.before.tokens ++ n.token ∷ n.more) = subst (λ (l : List Token). AreAccepted l) n.whole s.accepted in
    let there : AreAccepted (x.before.tokens ++ numeral x.spelling ∷ n.more) = subst (λ (t : Token). AreAccepted (x.before.tokens ++ t ∷ n.more)) same all in
    not_refused x.spelling f (accepted_at x.before.tokens n.more (numeral x.spelling) there) x.refused

is_first : (bytes : List ℕ) (state : State) (rest : List ℕ) (place : ℕ) → length bytes ≤ most_bytes → IsUtf8 bytes → SoFar bytes state rest →
    place + length rest ≡ length bytes → IsFirst bytes place
is_first bytes state rest place h u s e = record { short = h; utf8 = u; none_before = λ q l f. faulty_before bytes state rest place q s e l f }

-- where the next token keeps the text open there is no fault of the grammar
no_syntax : (bytes : List ℕ) (state next : State) (rest after : List ℕ) (place : ℕ) (t : Token) → SoFar bytes state rest → place + length rest ≡ length bytes →
    BeginsWith rest t after → step state.0 state.1 t ≡ Some next → SyntaxAt bytes place → ⊥
no_syntax bytes state next rest after place t s e b f x =
    let same = same_split bytes x.tokens s.tokens x.rest rest x.split s.split (omega (arith, e, x.at)) in
    let stops : Stops s.tokens rest = subst (λ (l : List ℕ). Stops s.tokens l) same.1 (subst (λ (l : List Token). Stops l x.rest) same.0 x.stops) in
    stopped rest stops b
  where
    stopped : (r : List ℕ) → Stops s.tokens r → BeginsWith r t after → ⊥
    stopped [] x b = none_begins t after b
    stopped (c ∷ cs) x b = x t after b (open_on bytes state next rest s t f)

syntax_by : (bytes : List ℕ) (state : State) (rest : List ℕ) (place : ℕ) (s : SoFar bytes state rest) → place + length rest ≡ length bytes → Stops s.tokens rest → SyntaxAt bytes place
syntax_by bytes state rest place s e stops = record {
  tokens = s.tokens;
  rest = rest;
  split = s.split;
  at = e;
  open_before = is_open s.tokens state s.runs;
  stops = stops;
}

-- a token takes a byte
pub lexed_shorter : (rest after : List ℕ) (m : machine.Mark) → Lexes rest m after → length after < length rest
lexed_shorter rest after m l = shorter rest l.token after l.begins

-- ---- the exits
stops_none : (ts : List Token) (rest : List ℕ) → 0 < length rest → NoneBegins rest → Stops ts rest
stops_none ts [] h none = absurd (omega (arith, h))
stops_none ts (b ∷ bs) h none = λ t after w o. none t after w

stops_some : (ts : List Token) (rest after : List ℕ) (t : Token) → 0 < length rest → BeginsWith rest t after → (IsOpen (ts ++ t ∷ []) → ⊥) → Stops ts rest
stops_some ts [] after t h b f = absurd (omega (arith, h))
stops_some ts (c ∷ cs) after t h b f = λ u behind w o.
    f (subst (λ (x : Token). IsOpen (ts ++ x ∷ [])) (one_token (c ∷ cs) u t behind after w b) o)

-- a token that the machine refuses
pub refused : (bytes : List ℕ) (state : State) (rest after : List ℕ) (place : ℕ) (t : Token) → length bytes ≤ most_bytes → IsUtf8 bytes → SoFar bytes state rest →
    0 < length rest → place + length rest ≡ length bytes → BeginsWith rest t after → step state.0 state.1 t ≡ None → Has bytes (fault.Syntax place)
refused bytes state rest after place t h u s some e b f = (
  is_first bytes state rest place h u s e,
  syntax_by bytes state rest place s e (stops_some s.tokens rest after t some b (stops_at s.tokens state t s.runs f)),
)

no_value : (fs : List machine.Frame) (n : machine.Next) (s : List ℕ) → takes_value n ≡ false → step fs n (numeral s) ≡ None
no_value fs machine.value s e = cc
no_value fs machine.item_or_end s e = cc
no_value fs machine.key_or_end s e = refl
no_value fs (machine.key ps) s e = refl
no_value fs (machine.colon_after ps k) s e = refl
no_value [] (machine.done t) s e = refl
no_value (machine.in_list xs ∷ fs) (machine.done t) s e = refl
no_value (machine.in_map ps k ∷ fs) (machine.done t) s e = refl

a_value : (fs : List machine.Frame) (n : machine.Next) (s : List ℕ) → takes_value n ≡ true → (next : State) × (step fs n (numeral s) ≡ Some next)
a_value fs machine.value s e = (_, refl)
a_value fs machine.item_or_end s e = (_, refl)
a_value fs machine.key_or_end s e = cc
a_value fs (machine.key ps) s e = cc
a_value fs (machine.colon_after ps k) s e = cc
a_value fs (machine.done t) s e = cc

-- where no next token comes
pub no_token : (bytes : List ℕ) (state : State) (rest : List ℕ) (place : ℕ) (e : TreeFault) → length bytes ≤ most_bytes → IsUtf8 bytes → SoFar bytes state rest →
    0 < length rest → place + length rest ≡ length bytes → IsNoToken rest state.1 place e → Has bytes e
no_token bytes state rest place (fault.Syntax at) h u s some e (p, inl none) =
    subst (λ (n : ℕ). Has bytes (fault.Syntax n)) (sym p)
    (is_first bytes state rest place h u s e, syntax_by bytes state rest place s e (stops_none s.tokens rest some none))
no_token bytes state rest place (fault.Syntax at) h u s some e (p, inr (number, takes)) =
    subst (λ (n : ℕ). Has bytes (fault.Syntax n)) (sym p)
    (refused bytes state rest number.1 place (numeral number.0) h u s some e number.2 (no_value state.0 state.1 number.0 takes))
no_token bytes state rest place (fault.Depth at) h u s some e x = absurd x
no_token bytes state rest place (fault.Number at f) h u s some e (p, r, takes) =
    let v = a_value state.0 state.1 r.spelling takes in
    subst (λ (n : ℕ). Has bytes (fault.Number n f)) (sym p) (
      is_first bytes state rest place h u s e,
      record {
        before = record { tokens = s.tokens; rest = rest; split = s.split; at = e };
        spelling = r.spelling;
        after = r.rest;
        begins = r.begins;
        refused = r.refused;
      },
      no_syntax bytes state v.0 rest r.rest place (numeral r.spelling) s e r.begins v.1,
    )
no_token bytes state rest place (fault.NotUtf8 at) h u s some e x = absurd x
no_token bytes state rest place fault.TooLong h u s some e x = absurd x
no_token bytes state rest place fault.OutOfMemory h u s some e x = tt

-- a token past the deepest level opens it
opens_past : (n : ℕ) (t : Token) → n ≤ most_levels → most_levels < level n t → Opens t × (n ≡ most_levels)
opens_past n begin_list h l = (inl refl, omega arith)
opens_past n end_list h l = absurd (omega arith)
opens_past n begin_map h l = (inr refl, omega arith)
opens_past n end_map h l = absurd (omega arith)
opens_past n comma h l = absurd (omega arith)
opens_past n colon h l = absurd (omega arith)
opens_past n (word w) h l = absurd (omega arith)
opens_past n (numeral s) h l = absurd (omega arith)
opens_past n (string ps) h l = absurd (omega arith)

level_on : (bytes : List ℕ) (state next : State) (rest : List ℕ) (s : SoFar bytes state rest) (t : Token) → step state.0 state.1 t ≡ Some next →
    state_levels next ≡ level (levels 0 s.tokens) t
level_on bytes state next rest s t e =
    runs_level start next (s.tokens ++ t ∷ []) (runs_more start state next s.tokens t s.runs e) ∙ levels-more 0 s.tokens t

pub too_deep : (bytes : List ℕ) (state next : State) (rest after : List ℕ) (place : ℕ) (t : Token) → length bytes ≤ most_bytes → IsUtf8 bytes → SoFar bytes state rest →
    place + length rest ≡ length bytes → BeginsWith rest t after → step state.0 state.1 t ≡ Some next → most_levels < state_levels next → Has bytes (fault.Depth place)
too_deep bytes state next rest after place t h u s e b f deep =
    let past : most_levels < level (levels 0 s.tokens) t = omega (arith, deep, level_on bytes state next rest s t f) in
    let o = opens_past (levels 0 s.tokens) t (stay_levels most_levels 0 s.tokens (omega arith) s.shallow) past in (
      is_first bytes state rest place h u s e,
      record {
        before = record { tokens = s.tokens; rest = rest; split = s.split; at = e };
        full = o.1;
        bracket = t;
        after = after;
        begins = b;
        opens = o.0;
      },
      no_syntax bytes state next rest after place t s e b f,
    )

-- one token more
pub token_read : (bytes : List ℕ) (state next : State) (rest after later : List ℕ) (m : machine.Mark) (l : Lexes rest m after) → SoFar bytes state rest →
    machine.take_mark state.0 state.1 m ≡ Some next → state_levels next ≤ most_levels → later ≡ after_space after → length later ≤ length bytes → SoFar bytes next later
token_read bytes state next rest after later m l s e h f w =
    let taken : step state.0 state.1 l.token ≡ Some next = ap (λ k. machine.take_mark state.0 state.1 k) l.means ∙ e in
    record {
      tokens = s.tokens ++ l.token ∷ [];
      split = subst (λ (k : List ℕ). Splits bytes (s.tokens ++ l.token ∷ []) k) (sym f) (splits_on bytes s.tokens rest l.token after s.split l.begins);
      runs = runs_more start state next s.tokens l.token s.runs taken;
      within = w;
      shallow = stay_more most_levels 0 s.tokens l.token s.shallow (omega (arith, h, level_on bytes state next rest s l.token taken));
      accepted = accepted_more s.tokens l.token s.accepted l.accepted;
    }

-- the same exits by what the lexer saw
pub mark_refused : (bytes : List ℕ) (state : State) (rest after : List ℕ) (place : ℕ) (m : machine.Mark) → Lexes rest m after → length bytes ≤ most_bytes → IsUtf8 bytes →
    SoFar bytes state rest → 0 < length rest → place + length rest ≡ length bytes → machine.take_mark state.0 state.1 m ≡ None → Has bytes (fault.Syntax place)
mark_refused bytes state rest after place m l h u s some e f =
    refused bytes state rest after place l.token h u s some e l.begins (ap (λ k. machine.take_mark state.0 state.1 k) l.means ∙ f)

pub mark_too_deep : (bytes : List ℕ) (state next : State) (rest after : List ℕ) (place : ℕ) (m : machine.Mark) → Lexes rest m after → length bytes ≤ most_bytes → IsUtf8 bytes →
    SoFar bytes state rest → place + length rest ≡ length bytes → machine.take_mark state.0 state.1 m ≡ Some next → most_levels < state_levels next → Has bytes (fault.Depth place)
mark_too_deep bytes state next rest after place m l h u s e f deep =
    too_deep bytes state next rest after place l.token h u s e l.begins (ap (λ k. machine.take_mark state.0 state.1 k) l.means ∙ f) deep

empty : (rest : List ℕ) → length rest ≡ 0 → rest ≡ []
empty [] h = refl
empty (b ∷ bs) h = absurd (omega (arith, h))

pub unfinished : (bytes : List ℕ) (state : State) (rest : List ℕ) → length bytes ≤ most_bytes → IsUtf8 bytes → SoFar bytes state rest → length rest ≡ 0 →
    IsUnfinished state.0 state.1 → Has bytes (fault.Syntax (length bytes))
unfinished bytes state rest h u s none f = (
  is_first bytes state rest (length bytes) h u s (omega (arith, none)),
  syntax_by bytes state rest (length bytes) s (omega (arith, none))
      (subst (λ (l : List ℕ). Stops s.tokens l) (sym (empty rest none)) (λ t is. let e = ends s.tokens state t s.runs is in f t e.0 e.1)),
)

pub whole_text : (bytes : List ℕ) (state : State) (rest : List ℕ) (t : Plain) → length bytes ≤ most_bytes → IsUtf8 bytes → SoFar bytes state rest → length rest ≡ 0 →
    (state.0 ≡ []) × (state.1 ≡ done t) → IsTextOf bytes t
whole_text bytes state rest t h u s none (e, f) = record {
  short = h;
  reads = record {
    utf8 = u;
    tokens = s.tokens;
    split = subst (λ (l : List ℕ). Splits bytes s.tokens l) (empty rest none) s.split;
    value = is_value s.tokens t (subst (λ (x : State). Runs start s.tokens x) (λ i. (e i, f i)) s.runs);
  };
  shallow = s.shallow;
  accepted = s.accepted;
}
