-- What the objects that are handed in tell, and what their calls do to it.
use Rattle.std.specs.Prelude.{◌≡◌, ◌≢◌, ℕ, ◌≤◌, List, ◌++◌, take, ⊤, Option, None, Some, Result, Err, IsErrOf}
use Rattle.text_base.specs.Causes.{Rose}
use Rattle.text_base.specs.declared.faults.FolderFault.{FolderFault}
use Rattle.text_base.specs.declared.faults.FolderFault.TheVariants.{Failed, OutOfMemory}

-- a file by its name and its bytes
pub record File : Type 0 where
  pub name : List ℕ
  pub bytes : List ℕ

-- what an opened file has left, where its source tells it
abbrev pub whole_file : Option File → Option (List ℕ)
whole_file None = None
whole_file (Some file) = Some file.bytes

-- known bytes grow by a front of these bytes
abbrev pub AppendsFront : Option (List ℕ) → Option (List ℕ) → List ℕ → Type 0
AppendsFront None new bytes = ⊤
AppendsFront (Some xs) None bytes = ⊥
AppendsFront (Some xs) (Some ys) bytes = (n : ℕ) × (ys ≡ xs ++ take n bytes)

-- A count of failed calls and a count of refused memory: neither falls; each rose where its fault is answered, and stands still elsewhere.
pub record HasCauses {T : Type 0} (faults faults_now refusals refusals_now : ℕ) (result : Result T FolderFault) : Type 0 where
  pub later : faults ≤ faults_now
  pub failed : IsErrOf result Failed → Rose faults faults_now
  pub kept : result ≢ Err Failed → faults_now ≡ faults
  pub later_memory : refusals ≤ refusals_now
  pub out_of_memory : IsErrOf result OutOfMemory → Rose refusals refusals_now
  pub kept_memory : result ≢ Err OutOfMemory → refusals_now ≡ refusals
