-- Selectors read from left to right, to the first fault.
use Rattle.std.specs.Prelude.{◌≡◌, ℕ, zero, suc, List, [], ◌∷◌, length, drop, Bool, ◌==◌, Result, Ok, Err, if◌then◌else◌}
use Rattle.read_base.specs.Reads.{◌>>=◌, Or, Read, skip, is_at, mark_at, run_at, all_at, placed}
use Rattle.sel_lang.specs.Plain.{Plain, list, first, merge, name, plains_of, narrowed}
use Rattle.sel_lang.specs.Marks.{is_name_byte}
use Rattle.sel_lang.specs.Names.{pick_of, best}
use Rattle.sel_lang.specs.Filters.{filter_at}
use Rattle.sel_lang.specs.declared.sel_kind.SelKind.{SelKind}
use Rattle.sel_lang.specs.declared.sel_kind.SelKind.TheVariants.{Syntax, Quote, Field, Value, Regex, Depth}
use Rattle.sel_lang.specs.declared.sel_fault.SelFault.{SelFault}
use Rattle.sel_lang.specs.declared.sel_fault.SelFault.TheVariants as faults
use Rattle.sel_lang.specs.declared.joint.Joint.{Joint}
use Rattle.sel_lang.specs.declared.joint.Joint.TheVariants.{Comma, Slash, Plus}

-- whether the mark is the next token
abbrev pub is_next : ℕ → List ℕ → Bool
is_next mark t = is_at mark (skip t)

-- an item behind the mark that is the next token
abbrev pub behind : {A : Type 0} → (List ℕ → Read SelKind A) → List ℕ → Read SelKind A
behind item t = item (drop 1 (skip t))

-- a selector with the filters that stand behind it, the first innermost
unfoldable pub filtered : Plain → List ℕ → Read SelKind Plain
filtered x t = do
  filters ← all_at (is_next 91) (behind filter_at) t
  Ok (narrowed x filters.0, filters.1)

-- the mark of each way to join
abbrev pub mark_of : Joint → ℕ
mark_of Comma = 44
mark_of Slash = 47
mark_of Plus = 43

-- selectors joined; one alone stands for itself
abbrev pub joined : Joint → Plain → List Plain → Plain
joined joint x [] = x
joined Comma x (y ∷ ys) = list (plains_of (x ∷ y ∷ ys))
joined Slash x (y ∷ ys) = first (plains_of (x ∷ y ∷ ys))
joined Plus x (y ∷ ys) = merge (plains_of (x ∷ y ∷ ys))

-- operands with the mark between them
unfoldable pub joined_at : Joint → (List ℕ → Read SelKind Plain) → List ℕ → Read SelKind Plain
joined_at joint operand t = do
  x ← operand t
  xs ← all_at (is_next (mark_of joint)) (behind operand) x.1
  Ok (joined joint x.0 xs.0, xs.1)

-- a group with its filters, filters alone, which stand on `best`, or a name with its filters
unfoldable pub atom_over : (List ℕ → Read SelKind Plain) → List ℕ → Read SelKind Plain
atom_over group t =
    if is_at 40 t then (do
      x ← group t
      rest ← mark_at Syntax 41 (skip x.1)
      filtered x.0 rest)
    else if is_at 91 t then filtered (name best) t
    else (do
      word ← run_at Syntax is_name_byte t
      filtered (name (pick_of word.0)) word.1)

-- commas join what slashes join, and those what pluses join
abbrev pub spec_over : (List ℕ → Read SelKind Plain) → List ℕ → Read SelKind Plain
spec_over atom = joined_at Comma (joined_at Slash (joined_at Plus atom))

-- an atom; the number is how many groups may still open
unfoldable pub atom_at : ℕ → List ℕ → Read SelKind Plain
atom_at zero t = atom_over (λ p. Err (Depth, length p)) (skip t)
atom_at (suc groups) t = atom_over (λ p. spec_over (atom_at groups) (drop 1 p)) (skip t)

-- what stands between the brackets of a group
abbrev pub group_at : ℕ → List ℕ → Read SelKind Plain
group_at zero p = Err (Depth, length p)
group_at (suc groups) p = spec_over (atom_at groups) (drop 1 p)

-- an operand of each way to join
abbrev pub operand_at : Joint → ℕ → List ℕ → Read SelKind Plain
operand_at Plus groups = atom_at groups
operand_at Slash groups = joined_at Plus (atom_at groups)
operand_at Comma groups = joined_at Slash (joined_at Plus (atom_at groups))

-- operands joined
abbrev pub level_at : Joint → ℕ → List ℕ → Read SelKind Plain
level_at joint groups = joined_at joint (operand_at joint groups)

-- a whole text: a selector in which groups nest at most 64 deep, and spaces
unfoldable pub whole_at : List ℕ → Or SelKind Plain
whole_at t = do
  x ← spec_over (atom_at 64) t
  if length (skip x.1) == 0 then Ok x.0 else Err (Syntax, length (skip x.1))

-- the fault of each kind
abbrev pub fault_of : SelKind → ℕ → SelFault
fault_of Syntax at = faults.Syntax at
fault_of Quote at = faults.Syntax at
fault_of Field at = faults.Field at
fault_of Value at = faults.Value at
fault_of Regex at = faults.Regex at
fault_of Depth at = faults.Depth at

-- the selector that a text is, or its first fault
abbrev pub sel_of : List ℕ → Result Plain SelFault
sel_of text = placed fault_of text (whole_at text)

-- a refusal is the fault of the text; memory may run out at any time
abbrev pub IsRefusal : Result Plain SelFault → SelFault → Type 0
IsRefusal outcome faults.OutOfMemory = Unit {0}
IsRefusal outcome (faults.Syntax at) = outcome ≡ Err (faults.Syntax at)
IsRefusal outcome (faults.Field at) = outcome ≡ Err (faults.Field at)
IsRefusal outcome (faults.Value at) = outcome ≡ Err (faults.Value at)
IsRefusal outcome (faults.Regex at) = outcome ≡ Err (faults.Regex at)
IsRefusal outcome (faults.Depth at) = outcome ≡ Err (faults.Depth at)
