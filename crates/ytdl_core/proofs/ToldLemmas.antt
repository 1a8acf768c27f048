-- What a fault's own line adds to what its answer left in the sinks.
use Rattle.std.proofs.Common.{◌≡◌, ◌⊎◌, ◌∙◌, ℕ, zero, suc, ◌≤◌, List, [], ◌++◌, take, refl, ap, subst, inl, inr}
use Rattle.std.specs.Prelude.{Option, Some, None}
use Rattle.std.specs.Io.KnownBytes.{Appends}
use Rattle.std.proofs.lemmas.List.{append-nil}
use Rattle.text_base.specs.Causes.{Rose}
use Rattle.ytdl_core.specs.declared.run_fault.RunFault.{RunFault}
use Rattle.ytdl_core.specs.declared.run_fault.RunFault.TheVariants.{Options, Info, InfoRead, Write, OutOfMemory}
use Rattle.ytdl_core.specs.Outside.{File, AppendsFront}
use Rattle.ytdl_core.specs.Lines.{Script, Sends, TellsLine, err_bytes, said}
use Rattle.ytdl_core.specs.Origin.{Origin, of_words, of_source, of_information, of_sink, of_memory, origin_of}
use Rattle.ytdl_core.specs.Run.{Leaves, IsTold, SendsLine, SendsFront}
use Rattle.ytdl_core.specs.Steps.{IsUntold}
use Rattle.ytdl_core.specs.Texts.{fault_line}
use Rattle.ytdl_core.proofs.FaultLemmas.{rose_since}
use Rattle.ytdl_core.proofs.ScriptLemmas.{appends_more}

take_none : (n : ℕ) → take {A = ℕ} n [] ≡ []
take_none zero = refl
take_none (suc n) = refl

front_of_none : (a b : Option (List ℕ)) → AppendsFront a b [] → Appends a b []
front_of_none None b f = tt
front_of_none (Some xs) None f = absurd f
front_of_none (Some xs) (Some ys) f = f.1 ∙ ap (λ l. xs ++ l) (take_none f.0)

front_behind : (a b c : Option (List ℕ)) (line : List ℕ) → Appends a b [] → AppendsFront b c line → AppendsFront a c line
front_behind None b c line e f = tt
front_behind (Some xs) None c line e f = absurd e
front_behind (Some xs) (Some ys) None line e f = absurd f
front_behind (Some xs) (Some ys) (Some zs) line e f = (f.0, f.1 ∙ ap (λ l. l ++ take f.0 line) (e ∙ append-nil xs))

appends_nothing : (a b c : Option (List ℕ)) (x : List ℕ) → Appends a b x → Appends b c [] → Appends a c x
appends_nothing None b c x e f = tt
appends_nothing (Some xs) None c x e f = absurd e
appends_nothing (Some xs) (Some ys) None x e f = absurd f
appends_nothing (Some xs) (Some ys) (Some zs) x e f = f ∙ append-nil ys ∙ e

-- a fault of this origin has no line
abbrev pub ComesSilently : Origin → Type 0
ComesSilently of_words = ⊥
ComesSilently of_source = ⊥
ComesSilently of_information = ⊥
ComesSilently (of_sink which) = Unit {0}
ComesSilently of_memory = Unit {0}

silent_line : (f : RunFault) → ComesSilently (origin_of f) → fault_line f ≡ []
silent_line (Options word option) silent = absurd silent
silent_line (Info info) silent = absurd silent
silent_line InfoRead silent = absurd silent
silent_line (Write which) silent = refl
silent_line OutOfMemory silent = refl

module _ (words : List (List ℕ)) (told : Option File) (out out_now err err_then err_now : Option (List ℕ))
    (faults faults_then faults_now refusals refusals_then refusals_now : ℕ) (later : faults ≤ faults_then) (later_memory : refusals ≤ refusals_then) where
  whole_line : (line : List ℕ) → Appends err err_then [] → Appends err_then err_now line ⊎ (Rose faults_then faults_now ⊎ Rose refusals_then refusals_now) →
      Appends err err_now line ⊎ (Rose faults faults_now ⊎ Rose refusals refusals_now)
  whole_line line nothing (inl whole) = inl (appends_more err err_then err_now [] line nothing whole)
  whole_line line nothing (inr (inl rose)) = inr (inl (rose_since faults faults_then faults_now later rose))
  whole_line line nothing (inr (inr rose)) = inr (inr (rose_since refusals refusals_then refusals_now later_memory rose))

  line_told : (line : List ℕ) → Sends [] out out_now err err_then →
      TellsLine line err_then err_now faults_then faults_now refusals_then refusals_now →
      SendsLine line out out_now err err_now faults faults_now refusals refusals_now
  line_told line sends tells = record {
    nothing = sends.to_out;
    front = front_behind err err_then err_now line sends.to_err tells.front;
    whole = whole_line line sends.to_err tells.whole;
  }

  nothing_told : (script : Script) → Appends err_then err_now [] → Sends script out out_now err err_then → Sends script out out_now err err_now
  nothing_told script nothing sends = record {
    to_out = sends.to_out;
    to_err = appends_nothing err err_then err_now (err_bytes script) sends.to_err nothing;
  }

  front_told : Appends err_then err_now [] → SendsFront words told out out_now err err_then → SendsFront words told out out_now err err_now
  front_told nothing front = record {
    command = front.command;
    entries = front.entries;
    ends = front.ends;
    ended = front.ended;
    front = record {
      count = front.front.count;
      front = nothing_told (take front.front.count (said front.command.quiet front.entries front.ends)) nothing front.front.front;
    };
  }

  memory_told : Appends err_then err_now [] → Sends [] out out_now err err_then ⊎ SendsFront words told out out_now err err_then →
      Sends [] out out_now err err_now ⊎ SendsFront words told out out_now err err_now
  memory_told nothing (inl sends) = inl (nothing_told [] nothing sends)
  memory_told nothing (inr front) = inr (front_told nothing front)

  -- what a fault of an origin leaves, this line told
  told_by : (o : Origin) (line : List ℕ) → (ComesSilently o → line ≡ []) →
      Leaves (Sends [] out out_now err err_then) (SendsFront words told out out_now err err_then) (Sends [] out out_now err err_then) o →
      TellsLine line err_then err_now faults_then faults_now refusals_then refusals_now →
      Leaves (SendsLine line out out_now err err_now faults faults_now refusals refusals_now)
      (SendsFront words told out out_now err err_now) (Sends [] out out_now err err_now) o
  told_by of_words line silent untold tells = line_told line untold tells
  told_by of_source line silent untold tells = line_told line untold tells
  told_by of_information line silent untold tells = line_told line untold tells
  told_by (of_sink which) line silent untold tells = front_told (front_of_none err_then err_now (subst (λ l. AppendsFront err_then err_now l) (silent tt) tells.front)) untold
  told_by of_memory line silent untold tells = memory_told (front_of_none err_then err_now (subst (λ l. AppendsFront err_then err_now l) (silent tt) tells.front)) untold

  -- what a fault leaves, its own line told
  pub all_told : (f : RunFault) → IsUntold words told out out_now err err_then f →
      TellsLine (fault_line f) err_then err_now faults_then faults_now refusals_then refusals_now →
      IsTold words told out out_now err err_now faults faults_now refusals refusals_now f
  all_told f untold tells = told_by (origin_of f) (fault_line f) (silent_line f) untold tells
