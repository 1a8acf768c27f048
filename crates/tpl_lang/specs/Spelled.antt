-- How a template is spelled, by cases: a text, before a rest, spells a value. Where a text could be cut in two ways, the case says which rest
-- may follow it.
use Rattle.std.specs.Prelude.{◌≡◌, ℕ, ◌<◌, ◌≤◌, List, [], ◌∷◌, ◌++◌, length, codes, Bool, true, false, ◌&&◌, not, ◌⊎◌, ℤ, Option, Some, None, is_some}
use Rattle.text_base.specs.Spelling.{is_digit}
use Rattle.text_base.specs.Size.{size_of}
use Rattle.text_base.specs.Value.{digits_value}
use Rattle.read_base.specs.Reads.{is_at}
use Rattle.read_base.specs.Spelled.{AreAll}
use Rattle.read_base.specs.Laws.{head_is}
use Rattle.tpl_lang.specs.declared.key.Key.{Key}
use Rattle.tpl_lang.specs.declared.key.Key.TheVariants as keys
use Rattle.tpl_lang.specs.declared.expr.Operand.{Operand}
use Rattle.tpl_lang.specs.declared.expr.Operand.TheVariants as operands
use Rattle.tpl_lang.specs.declared.expr.Operation.{Operation}
use Rattle.tpl_lang.specs.declared.date_format.DatePart.{DatePart}
use Rattle.tpl_lang.specs.declared.date_format.DatePart.TheVariants as dates
use Rattle.tpl_lang.specs.declared.replacement.Align.TheVariants.{Left}
use Rattle.tpl_lang.specs.declared.replacement.ReplacementPart.{ReplacementPart}
use Rattle.tpl_lang.specs.declared.replacement.ReplacementPart.TheVariants as pieces
use Rattle.tpl_lang.specs.declared.conv.Conv.{Conv}
use Rattle.tpl_lang.specs.declared.conv.Kind.{Kind}
use Rattle.tpl_lang.specs.declared.template.Part.{Part}
use Rattle.tpl_lang.specs.declared.template.Part.TheVariants as parts
use Rattle.tpl_lang.specs.declared.scan.Class.TheVariants.{Flag, Default, DateText, ReplacementText}
use Rattle.tpl_lang.specs.Bytes.{is_word_byte, in_class, has_word}
use Rattle.tpl_lang.specs.Ints.{begins_int, int_value}
use Rattle.tpl_lang.specs.Keys.{has_bound, is_zero}
use Rattle.tpl_lang.specs.Paths.{PathView}
use Rattle.tpl_lang.specs.Exprs.{ExprView}
use Rattle.tpl_lang.specs.Fields.{FieldView}
use Rattle.tpl_lang.specs.ExprReading.{number_length, operator_of, is_operator, directive_of, in_date}
use Rattle.tpl_lang.specs.FieldReading.{align_of, in_replacement, flags_of, kind_of, first_kind, is_length, is_bare}
use Rattle.tpl_lang.specs.Reading.{is_plain, is_left}

-- nothing more: the value is this one
abbrev pub IsEnd : {A : Type 0} → A → List ℕ → List ℕ → A → Type 0
IsEnd x text rest y = (text ≡ []) × (y ≡ x)

-- one behind the other
abbrev pub Follows : {A B : Type 0} → (List ℕ → List ℕ → A → Type 0) → (A → List ℕ → List ℕ → B → Type 0) → List ℕ → List ℕ → B → Type 0
Follows {A} {B} P Q text rest y = (one other : List ℕ) × (x : A) × P one (other ++ rest) x × Q x other rest y × (text ≡ one ++ other)

-- all that begin as the test says, one after the other
abbrev pub AllOf : {A : Type 0} → (List ℕ → Bool) → (List ℕ → List ℕ → A → Type 0) → List ℕ → List ℕ → List A → Type 0
AllOf begins P text rest [] = (text ≡ []) × (begins rest ≡ false)
AllOf begins P text rest (x ∷ xs) = (one others : List ℕ) × P one (others ++ rest) x × AllOf begins P others rest xs × (begins (text ++ rest) ≡ true) × (text ≡ one ++ others)

-- behind a mark
abbrev pub Marked : {A : Type 0} → ℕ → (List ℕ → List ℕ → A → Type 0) → List ℕ → List ℕ → A → Type 0
Marked mark P text rest x = (inner : List ℕ) × P inner rest x × (text ≡ mark ∷ inner)

-- a run of bytes of the test, and none behind it
abbrev pub IsRun : (ℕ → Bool) → List ℕ → List ℕ → List ℕ → Type 0
IsRun p text rest run = AreAll p text × (head_is (λ b. not (p b)) rest ≡ true) × (run ≡ text)

-- a run that is not empty
abbrev pub IsSomeRun : (ℕ → Bool) → List ℕ → List ℕ → List ℕ → Type 0
IsSomeRun p text rest run = (0 < length text) × IsRun p text rest run

-- [ "-" ] 1*18digit, and no byte of a word behind it
abbrev pub IsInt : List ℕ → List ℕ → List ℕ → Type 0
IsInt text rest spelling =
    (digits : List ℕ) × AreAll is_digit digits × (0 < length digits) × (length digits ≤ 18) × (has_word rest ≡ false) × ((text ≡ digits) ⊎ (text ≡ 45 ∷ digits)) × (spelling ≡ text)

-- word *( "," word ) "}"
abbrev pub IsBraces : List ℕ → List ℕ → List (List ℕ) → Type 0
IsBraces = Follows (IsSomeRun is_word_byte) (λ first. Follows (AllOf (is_at 44) (Marked 44 (IsSomeRun is_word_byte))) (λ others text rest words. (text ≡ 125 ∷ []) × (words ≡ first ∷ others)))

-- [ int ], which is absent only where no int begins
abbrev pub IsBound : List ℕ → List ℕ → Option ℤ → Type 0
IsBound text rest None = (text ≡ []) × (has_bound rest ≡ false)
IsBound text rest (Some n) = (has_bound (text ++ rest) ≡ true) × (spelling : List ℕ) × IsInt text rest spelling × (n ≡ int_value spelling)

-- [ ":" [ int ] ], and not 0
abbrev pub IsLast : List ℕ → List ℕ → Option ℤ → Type 0
IsLast text rest step = ((text ≡ []) × (is_at 58 rest ≡ false) × (step ≡ None)) ⊎ Marked 58 (λ t r n. IsBound t r n × (is_zero n ≡ false)) text rest step

-- [ int ] [ ":" [ int ] ] behind the first colon
abbrev pub IsSlice : Option ℤ → List ℕ → List ℕ → Key → Type 0
IsSlice from = Follows IsBound (λ to. Follows IsLast (λ step. IsEnd (keys.Slice (record { from = from; to = to; step = step }))))

-- int, or the slice that begins with it
abbrev pub IsIntKey : List ℕ → List ℕ → Key → Type 0
IsIntKey = Follows IsInt (λ n text rest key. ((is_at 58 rest ≡ false) × IsEnd (keys.Int n (int_value n)) text rest key) ⊎ Marked 58 (IsSlice (Some (int_value n))) text rest key)

-- key = int / slice / word / "{" word *( "," word ) "}"; a word is none that could be an int
abbrev pub IsKey : List ℕ → List ℕ → Key → Type 0
IsKey text rest key =
    IsIntKey text rest key
    ⊎ (Marked 58 (IsSlice None) text rest key
    ⊎ ((words : List (List ℕ)) × Marked 123 IsBraces text rest words × (key ≡ keys.Braces words))
    ⊎ ((word : List ℕ) × IsSomeRun is_word_byte text rest word × (begins_int (text ++ rest) ≡ false) × (key ≡ keys.Word word)))

-- *( "." key )
abbrev pub IsKeys : List ℕ → List ℕ → List Key → Type 0
IsKeys = AllOf (is_at 46) (Marked 46 IsKey)

-- the keys behind a word
abbrev pub IsPathBehind : List ℕ → List ℕ → List ℕ → PathView → Type 0
IsPathBehind word = Follows IsKeys (λ keys. IsEnd (record { word = word; keys = keys }))

-- path = [ word ] *( "." key )
abbrev pub IsPath : List ℕ → List ℕ → PathView → Type 0
IsPath = Follows (IsRun is_word_byte) IsPathBehind

-- operand = digits [ "." 1*9digits ] / word *( "." key ); a path is none that could be a number
abbrev pub IsOperand : List ℕ → List ℕ → Operand → Type 0
IsOperand text rest operand =
    ((number_length (text ++ rest) ≡ length text) × (0 < length text) × (operand ≡ operands.Number (size_of 1000 text)))
    ⊎ ((number_length (text ++ rest) ≡ 0) × (path : PathView) × Follows (IsSomeRun is_word_byte) IsPathBehind text rest path × (operand ≡ operands.Path path))

-- an operator and its operand
abbrev pub IsOperation : List ℕ → List ℕ → Operation → Type 0
IsOperation text rest operation = (mark : ℕ) × (operator_of (mark ∷ []) ≡ Some operation.op) × Marked mark IsOperand text rest operation.operand

-- a piece of a date format: a directive, or text without `%`
abbrev pub IsDatePart : List ℕ → List ℕ → DatePart → Type 0
IsDatePart text rest (dates.Directive d) = (letter : ℕ) × (directive_of letter ≡ Some d) × (text ≡ 37 ∷ letter ∷ [])
IsDatePart text rest (dates.Text run) = IsSomeRun (in_class DateText) text rest run

-- [ ">" strf ]
abbrev pub IsDateFormat : List ℕ → List ℕ → Option (List DatePart) → Type 0
IsDateFormat text rest None = (text ≡ []) × (is_at 62 rest ≡ false)
IsDateFormat text rest (Some parts) = Marked 62 (AllOf in_date IsDatePart) text rest parts

-- expr = path *( operator operand ) [ ">" strf ]
abbrev pub IsExpr : List ℕ → List ℕ → ExprView → Type 0
IsExpr = Follows IsPath (λ path. Follows (AllOf is_operator IsOperation) (λ operations. Follows IsDateFormat (λ date. IsEnd (record { path = path; operations = operations; date_format = date }))))

-- expr *( "," expr )
abbrev pub IsExprs : List ℕ → List ℕ → List ExprView → Type 0
IsExprs = Follows IsExpr (λ first. Follows (AllOf (is_at 44) (Marked 44 IsExpr)) (λ others. IsEnd (first ∷ others)))

-- a piece of a replacement: a brace written twice, the value, or text without braces
abbrev pub IsReplacementPart : List ℕ → List ℕ → ReplacementPart → Type 0
IsReplacementPart text rest (pieces.Text run) =
    ((text ≡ codes "{{") × (run ≡ codes "{")) ⊎ (((text ≡ codes "}}") × (run ≡ codes "}")) ⊎ IsSomeRun (in_class ReplacementText) text rest run)
IsReplacementPart text rest (pieces.Value align width) =
    ((text ≡ codes "{}") × (align ≡ Left) × (width ≡ 0))
    ⊎ ((side : ℕ) × (digits : List ℕ) × (align_of (side ∷ []) ≡ Some align) × AreAll is_digit digits × (0 < length digits) × (length digits ≤ 5) × (width ≡ digits_value digits) × (text ≡ 123 ∷ 58 ∷ side ∷ (digits ++ 125 ∷ [])))

-- [ "&" repl ]
abbrev pub IsReplacement : List ℕ → List ℕ → Option (List ReplacementPart) → Type 0
IsReplacement text rest None = (text ≡ []) × (is_at 38 rest ≡ false)
IsReplacement text rest (Some parts) = Marked 38 (AllOf in_replacement IsReplacementPart) text rest parts

-- [ "|" default ], which has no `)`
abbrev pub IsDefault : List ℕ → List ℕ → Option (List ℕ) → Type 0
IsDefault text rest None = (text ≡ []) × (is_at 124 rest ≡ false)
IsDefault text rest (Some run) = Marked 124 (IsRun (in_class Default)) text rest run

-- [ digits ] of at most five
abbrev pub IsShort : List ℕ → List ℕ → Option ℕ → Type 0
IsShort text rest None = (text ≡ []) × (head_is (λ b. not (is_digit b)) rest ≡ true)
IsShort text rest (Some count) = (length text ≤ 5) × (run : List ℕ) × IsSomeRun is_digit text rest run × (count ≡ digits_value run)

-- [ "." digits ]
abbrev pub IsPrecision : List ℕ → List ℕ → Option ℕ → Type 0
IsPrecision text rest None = (text ≡ []) × (is_at 46 rest ≡ false)
IsPrecision text rest (Some count) = Marked 46 IsShort text rest (Some count)

-- [ "h" / "l" / "L" ] type; a length stands before a type alone
abbrev pub IsType : List ℕ → List ℕ → Kind → Type 0
IsType text rest kind =
    ((length_letter letter : ℕ) × (is_length length_letter ≡ true) × (kind_of letter ≡ Some kind) × (text ≡ length_letter ∷ letter ∷ []))
    ⊎ ((letter : ℕ) × (is_length letter && is_some (first_kind rest) ≡ false) × (kind_of letter ≡ Some kind) × (text ≡ letter ∷ []))

-- conv = *flag [ digits ] [ "." digits ] [ length ] type
abbrev pub IsConv : List ℕ → List ℕ → Conv → Type 0
IsConv = Follows (IsRun (in_class Flag)) (λ signs. Follows IsShort (λ width. Follows IsPrecision (λ precision. Follows IsType (λ kind.
    IsEnd (record { flags = flags_of signs; width = width; precision = precision; kind = kind })))))

-- field = expr *( "," expr ) [ "&" repl ] [ "|" default ] ")" conv, behind its `%(`
abbrev pub IsField : List ℕ → List ℕ → FieldView → Type 0
IsField text rest field = Follows IsExprs (λ exprs. Follows IsReplacement (λ replacement. Follows IsDefault (λ default. Follows (Marked 41 IsConv) (λ conv.
    IsEnd (record { exprs = exprs; replacement = replacement; default = default; conv = conv; is_bare = is_bare (text ++ rest) }))))) text rest field

-- literal / "%%" / field; a `%` alone stands before neither `%` nor `(`
abbrev pub IsPart : List ℕ → List ℕ → Part → Type 0
IsPart text rest (parts.Literal run) =
    IsSomeRun is_plain text rest run
    ⊎ (((text ≡ codes "%%") × (run ≡ codes "%")) ⊎ ((is_at 37 rest ≡ false) × (is_at 40 rest ≡ false) × (text ≡ codes "%") × (run ≡ codes "%")))
IsPart text rest (parts.Field field) = (inner : List ℕ) × IsField inner rest field × (text ≡ 37 ∷ 40 ∷ inner)

-- template = *( literal / "%%" / field )
abbrev pub IsSpelled : List ℕ → List Part → Type 0
IsSpelled text = AllOf is_left IsPart text []
