-- The names of a component's pieces: they are apart, and neither the record's nor the component's is one of theirs.
use Rattle.std.proofs.Common.{◌≡◌, ⊎_elim, ℕ, zero, suc, ◌+◌, ◌<◌, ◌^◌, Bool, true, false, List, [], ◌∷◌, ◌++◌, map, length, refl, sym, ◌∙◌, ap, arith, append_assoc}
use Rattle.std.proofs.lemmas.List.Elements.{All-nil, All-cons}
use Rattle.std.proofs.lemmas.Slice.Eq.{bytes_eq-Decides}
use Rattle.std.specs.List.{slice_get}
use Rattle.std.specs.Prelude.{All, Some, ◌&&◌, ◌||◌, bytes_eq, nat_eq, codes, decimal}
use Rattle.folder_base.specs.Disk.{Name, begins}
use Rattle.folder_base.specs.Parts.{is_part, is_in_some, AreApart}
use Rattle.folder_base.proofs.Disjoint.{both_so, some_so}
use Rattle.keep_store.proofs.Naming.{begins_all}
use Rattle.plan_record.specs.Names.{pieces_of, stem_of, begins as begins_with}
use Rattle.plan_record.specs.declared.line.Line.{Line}
use Rattle.plan_record.proofs.NameLemmas.{stems_are_apart}
use Rattle.component_store.specs.Component.{Web, pieces_from}
use Rattle.component_store.proofs.FamilyLemmas.{begins_one}
use Rattle.component_turn.specs.Plan.{stems_from}

-- One stem more at the end.
pub stems_more : (component : Name) (k count : ℕ) → stems_from component k (count + 1) ≡ stems_from component k count ++ stem_of component (k + count) ∷ []
stems_more component k zero = ap (λ (n : ℕ). stem_of component n ∷ []) (omega arith)
stems_more component k (suc count) = ap (stems_from component k) (let e : suc count + 1 ≡ suc (count + 1) = omega arith in e) ∙ ap (λ (l : List Name). stem_of component k ∷ l)
    (stems_more component (k + 1) count ∙ ap (λ (n : ℕ). stems_from component (k + 1) count ++ stem_of component n ∷ []) (omega arith))

pub stems_many : (component : Name) (k count : ℕ) → length (stems_from component k count) ≡ count
stems_many component k zero = refl
stems_many component k (suc count) = ap suc (stems_many component (k + 1) count)

-- the stem of a number
pub stem_at : (component : Name) (k count i : ℕ) → i < count → slice_get (stems_from component k count) i ≡ Some (stem_of component (k + i))
stem_at component k zero i lt = absurd (omega (arith, lt))
stem_at component k (suc count) zero lt = ap (λ (n : ℕ). Some (stem_of component n)) (omega arith)
stem_at component k (suc count) (suc i) lt = stem_at component (k + 1) count i (omega (arith, lt)) ∙ ap (λ (n : ℕ). Some (stem_of component n)) (omega arith)

pub stem_first : (component : Name) (count k : ℕ) → k < count → slice_get (stems_from component 0 count) k ≡ Some (stem_of component k)
stem_first component count k lt = stem_at component 0 count k lt ∙ ap (λ (n : ℕ). Some (stem_of component n)) (let e : 0 + k ≡ k = omega arith in e)

-- The names of the pieces by their world are those of the stems.
pub planned_stems : (web : Web) (component : Name) (k : ℕ) (lines : List Line) → map (λ piece. piece.stem) (pieces_from web component k lines) ≡ stems_from component k (length lines)
planned_stems web component k [] = refl
planned_stems web component k (line ∷ lines) = ap (λ (l : List Name). stem_of component k ∷ l) (planned_stems web component (k + 1) lines)

-- A folder's test of a part is that of stems.
part_is : (stem other : Name) → is_part stem other ≡ (bytes_eq stem other || begins_with (stem ++ 46 ∷ []) other)
part_is stem other = ap (λ (b : Bool). bytes_eq stem other || b) (begins_one (stem ++ 46 ∷ []) other)

-- Two pieces of different numbers have parts of their own.
pub two_apart : (component : Name) (k j : ℕ) → k < 2 ^ 64 → j < 2 ^ 64 → (k ≡ j → ⊥) → is_part (stem_of component k) (stem_of component j) ≡ false
two_apart component k j low high differ = part_is (stem_of component k) (stem_of component j) ∙ stems_are_apart component k j low high differ

-- So the stems are apart.
pub stems_apart : (component : Name) (k count : ℕ) → k + count < 2 ^ 64 → AreApart (stems_from component k count)
stems_apart component k zero fits = tt
stems_apart component k (suc count) fits = (
  later (k + 1) count (omega arith) (omega (arith, fits)),
  stems_apart component (k + 1) count (omega (arith, fits)),
)
  where
    later : (j n : ℕ) → k < j → j + n < 2 ^ 64 → All (λ other. (is_part (stem_of component k) other ≡ false) × (is_part other (stem_of component k) ≡ false)) (stems_from component j n)
    later j zero lt fits = All-nil (λ other. (is_part (stem_of component k) other ≡ false) × (is_part other (stem_of component k) ≡ false))
    later j (suc n) lt fits = All-cons (λ other. (is_part (stem_of component k) other ≡ false) × (is_part other (stem_of component k) ≡ false)) (stem_of component j) (stems_from component (j + 1) n)
        (two_apart component k j (omega (arith, lt, fits)) (omega (arith, fits)) (λ is. omega (arith, lt, is)), two_apart component j k (omega (arith, fits)) (omega (arith, lt, fits)) (λ is. omega (arith, lt, is)))
        (later (j + 1) n (omega (arith, lt)) (omega (arith, fits)))

begins_front : (a b name : Name) → begins (a ++ b) name ≡ true → begins a name ≡ true
begins_front [] b name e = refl
begins_front (c ∷ a) b [] e = cc
begins_front (c ∷ a) b (d ∷ name) e = let h = both_so (nat_eq c d) (begins (a ++ b) name) e in (λ i. h.0 i && begins_front a b name h.1 i)

-- A part's names begin as all pieces' do.
pub part_begins : (component : Name) (k : ℕ) (name : Name) → is_part (stem_of component k) name ≡ true → begins (pieces_of component) name ≡ true
part_begins component k name e = ⊎_elim
    (λ is. ap (begins (pieces_of component)) (sym ((bytes_eq-Decides (stem_of component k) name).0 is)) ∙ ap (begins (pieces_of component)) split ∙ begins_all (pieces_of component) (decimal k))
    (λ more. begins_front (pieces_of component) (decimal k ++ 46 ∷ []) name (ap (λ (n : Name). begins n name) (sym dotted) ∙ more))
    (some_so (bytes_eq (stem_of component k) name) (begins (stem_of component k ++ 46 ∷ []) name) e)
  where
    split : stem_of component k ≡ pieces_of component ++ decimal k
    split = sym (append_assoc component (codes ".part-Frag") (decimal k))

    dotted : stem_of component k ++ 46 ∷ [] ≡ pieces_of component ++ (decimal k ++ 46 ∷ [])
    dotted = ap (λ (n : Name). n ++ 46 ∷ []) split ∙ append_assoc (pieces_of component) (decimal k) (46 ∷ [])

-- A name that does not begin as the pieces' do is in no part.
pub off_parts : (component : Name) (k count : ℕ) (name : Name) → begins (pieces_of component) name ≡ false → is_in_some (stems_from component k count) name ≡ false
off_parts component k zero name none = refl
off_parts component k (suc count) name none = neither (is_part (stem_of component k) name) (is_in_some (stems_from component (k + 1) count) name)
    (by (is_part (stem_of component k) name) refl) (off_parts component (k + 1) count name none)
  where
    neither : (a b : Bool) → a ≡ false → b ≡ false → (a || b) ≡ false
    neither true b e f = e
    neither false b e f = f

    by : (v : Bool) → is_part (stem_of component k) name ≡ v → v ≡ false
    by true is = absurd (let x : true ≡ false = sym (part_begins component k name is) ∙ none in cc)
    by false is = refl
