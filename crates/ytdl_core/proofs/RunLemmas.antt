-- What the top call answers, exit by exit.
use Rattle.std.proofs.Common.{◌≡◌, ◌⊎◌, ℕ, List, [], take, drop, refl, sym, ◌∙◌, subst, inl, inr}
use Rattle.std.specs.Prelude.{Option, Some, None, IfSome, Result, Ok, Err}
use Rattle.job_plan.specs.Plan.{Job, Entry}
use Rattle.ytdl_core.specs.declared.report.Report.{Report}
use Rattle.ytdl_core.specs.Built.{Command}
use Rattle.word_list.specs.declared.fault.OptionFault.{OptionFault}
use Rattle.word_list.specs.declared.fault.WordsFault.{WordsFault}
use Rattle.word_list.specs.declared.fault.WordsFault.TheVariants.{Bad, OutOfMemory as NoMemory}
use Rattle.ytdl_core.specs.declared.run_fault.InfoFault.{InfoFault}
use Rattle.ytdl_core.specs.declared.run_fault.RunFault.{RunFault}
use Rattle.ytdl_core.specs.declared.run_fault.RunFault.TheVariants.{Options as Words, Info, InfoRead, Write, OutOfMemory}
use Rattle.info_item.specs.Item.{Item as PlainItem}
use Rattle.ytdl_core.specs.Outside.{File}
use Rattle.ytdl_core.specs.Words.{Asks, words_of}
use Rattle.ytdl_core.specs.Reading.{ComesOfReading}
use Rattle.ytdl_core.specs.Information.{HaveItems, HaveFault, HaveEntries}
use Rattle.ytdl_core.specs.Lines.{Sends}
use Rattle.ytdl_core.specs.Origin.{Origin, of_words, of_source, of_information, of_sink, of_memory, origin_of}
use Rattle.ytdl_core.specs.Run.{OfFile, OfFaultyFile, ComesBeside, Leaves, IsOfFault, IsOfItems, IsExact, IsOfWords, IsReadBy, SendsFront}
use Rattle.ytdl_core.specs.Steps.{ComesOfSinks, IsExactOf, IsFaultOfBytes, IsSinkFault}
use Rattle.ytdl_core.proofs.LimitLemmas.{fault_of_whole, fault_of_read, items_of_read, entries_of_whole}

-- a fault that is not want of memory is that of the words
pub bad_of : (words : List (List ℕ)) (word : ℕ) (fault : OptionFault) →
    (◌≡◌ {A = WordsFault} (Bad word fault) NoMemory) ⊎ (words_of words ≡ Err (Bad word fault)) → words_of words ≡ Err (Bad word fault)
bad_of words word fault (inl memory) = cc memory
bad_of words word fault (inr same) = same

-- words with a fault are blamed
pub blamed_word : {I O : Type 0} (words : List (List ℕ)) (info : I) (out : O) (word : ℕ) (fault : OptionFault) →
    words_of words ≡ Err (Bad word fault) → IsOfWords {T = Report} words info info out out (Err (Words word fault))
blamed_word words info out word fault is = record {
  blamed = λ place other e. let same : (◌≡◌ {A = RunFault} (Words word fault) (Words place other)) = cc e in cc;
  answered = λ place other e. let same : (◌≡◌ {A = Result Command WordsFault} (Err (Bad word fault)) (Err (Bad place other))) = sym is ∙ e in inl (cc same);
  untouched = λ place other e. (refl, refl);
}

-- want of memory blames no word
pub out_of_memory : {I O : Type 0} (words : List (List ℕ)) (info info_now : I) (out out_now : O) →
    IsOfWords {T = Report} words info info_now out out_now (Err OutOfMemory)
out_of_memory words info info_now out out_now = record {
  blamed = λ place other e. cc e;
  answered = λ place other e. inr refl;
  untouched = λ place other e. cc e;
}

-- a fault of this origin blames no word
abbrev pub BlamesNoWord : Origin → Type 0
BlamesNoWord of_words = ⊥
BlamesNoWord of_source = Unit {0}
BlamesNoWord of_information = Unit {0}
BlamesNoWord (of_sink which) = Unit {0}
BlamesNoWord of_memory = Unit {0}

pub no_word_of_read : (before now : ℕ) (o : Origin) → ComesOfReading before now o → BlamesNoWord o
no_word_of_read before now of_words is = is
no_word_of_read before now of_source is = tt
no_word_of_read before now of_information is = tt
no_word_of_read before now (of_sink which) is = tt
no_word_of_read before now of_memory is = tt

pub no_word_of_bytes : (bytes : List ℕ) (f : RunFault) → IsFaultOfBytes bytes f → BlamesNoWord (origin_of f)
no_word_of_bytes bytes (Words word fault) is = is
no_word_of_bytes bytes (Info fault) is = tt
no_word_of_bytes bytes InfoRead is = tt
no_word_of_bytes bytes (Write which) is = tt
no_word_of_bytes bytes OutOfMemory is = tt

pub no_word_of_sink : (o : Origin) → ComesOfSinks o → BlamesNoWord o
no_word_of_sink of_words is = is
no_word_of_sink of_source is = tt
no_word_of_sink of_information is = tt
no_word_of_sink (of_sink which) is = tt
no_word_of_sink of_memory is = tt

-- words that ask for options have no fault
not_both : (words : List (List ℕ)) (options : Command) (fault : WordsFault) → Asks words options → words_of words ≡ Err fault → ⊥
not_both words options fault asks is = let same : (◌≡◌ {A = Result Command WordsFault} (Ok options) (Err fault)) = sym asks ∙ is in cc same

pub asked_err : {I O : Type 0} {info info_now : I} {out out_now : O} (words : List (List ℕ)) (options : Command) (f : RunFault) →
    Asks words options → BlamesNoWord (origin_of f) → IsOfWords {T = Report} words info info_now out out_now (Err f)
asked_err words options f asks none = record {
  blamed = λ place other e. let same : f ≡ Words place other = cc e in absurd (subst (λ g. BlamesNoWord (origin_of g)) same none);
  answered = λ place other e. absurd (not_both words options (Bad place other) asks e);
  untouched = λ place other e. let same : f ≡ Words place other = cc e in absurd (subst (λ g. BlamesNoWord (origin_of g)) same none);
}

pub asked_ok : {I O : Type 0} {info info_now : I} {out out_now : O} (words : List (List ℕ)) (options : Command) (report : Report) →
    Asks words options → IsOfWords words info info_now out out_now (Ok report)
asked_ok words options report asks = record {
  blamed = λ place other e. cc e;
  answered = λ place other e. absurd (not_both words options (Bad place other) asks e);
  untouched = λ place other e. cc e;
}

-- words with a fault name no file
pub exact_bad : (words : List (List ℕ)) (told : Option File) (word : ℕ) (fault : OptionFault) → words_of words ≡ Err (Bad word fault) →
    IsExact words told (Err (Words word fault))
exact_bad words told word fault is = record {
  info = λ info e. cc e;
  faults = λ options asks. absurd (not_both words options (Bad word fault) asks is);
  items = λ options asks. absurd (not_both words options (Bad word fault) asks is);
}

each_file : (told : Option File) (P : File → Type 0) → ((file : File) → P file) → IfSome told P
each_file None P each = tt
each_file (Some file) P each = each file

pub exact_memory : (words : List (List ℕ)) (told : Option File) → IsExact words told (Err OutOfMemory)
exact_memory words told = record {
  info = λ info e. cc e;
  faults = λ options asks. each_file told (λ file. (fault : InfoFault) → HaveFault file.bytes fault → IsOfFault {T = Report} fault (Err OutOfMemory)) (λ file fault have. inr tt);
  items = λ options asks. each_file told (λ file. (items : List PlainItem) → HaveItems file.bytes items → IsOfItems {T = Report} (Err OutOfMemory)) (λ file items have. tt);
}

-- What holds of the bytes that were read holds of the file that the source tells.
module _ (words : List (List ℕ)) (told : Option File) (options : Command) (bytes : List ℕ) (left : Option (List ℕ)) (asks : Asks words options)
    (named : IfSome told (λ file. file.name ≡ options.info))
    (read : IfSome told (λ file. (bytes ≡ take 67108865 file.bytes) × (left ≡ Some (drop 67108865 file.bytes)))) where
  of_file : (AreSo : List ℕ → Type 0) → ((b : List ℕ) → AreSo (take 67108865 b) → AreSo b) → AreSo bytes → OfFile options told AreSo
  of_file AreSo whole so = file told named read where
    file : (told' : Option File) → IfSome told' (λ f. f.name ≡ options.info) →
        IfSome told' (λ f. (bytes ≡ take 67108865 f.bytes) × (left ≡ Some (drop 67108865 f.bytes))) →
        IfSome told' (λ f. (f.name ≡ options.info) × AreSo f.bytes)
    file None named' read' = tt
    file (Some f) named' read' = (named', whole f.bytes (subst AreSo read'.0 so))

  pub entries_of_file : (entries : List (Entry Job)) → HaveEntries entries options.plan bytes →
      OfFile options told (HaveEntries entries options.plan)
  entries_of_file entries have =
      of_file (HaveEntries entries options.plan) (λ b h. entries_of_whole entries options.plan b h) have

  pub fault_of_file : (fault : InfoFault) → HaveFault bytes fault → OfFaultyFile words told fault
  fault_of_file fault have = record {
    command = options;
    asks = asks;
    file = of_file (λ b. HaveFault b fault) (λ b h. fault_of_whole b fault h) have;
  }

  -- where each fault of the bytes has its answer, so has each of the file
  by_faults : (P : InfoFault → Type 0) → ((fault : InfoFault) → HaveFault bytes fault → P fault) →
      IfSome told (λ file. (fault : InfoFault) → HaveFault file.bytes fault → P fault)
  by_faults P each = go told read where
    go : (told' : Option File) → IfSome told' (λ f. (bytes ≡ take 67108865 f.bytes) × (left ≡ Some (drop 67108865 f.bytes))) →
        IfSome told' (λ f. (fault : InfoFault) → HaveFault f.bytes fault → P fault)
    go None read' = tt
    go (Some f) read' = λ fault have. each fault (subst (λ b. HaveFault b fault) (sym read'.0) (fault_of_read f.bytes fault have))

  by_items : (P : Type 0) → ((items : List PlainItem) → HaveItems bytes items → P) →
      IfSome told (λ file. (items : List PlainItem) → HaveItems file.bytes items → P)
  by_items P each = go told read where
    go : (told' : Option File) → IfSome told' (λ f. (bytes ≡ take 67108865 f.bytes) × (left ≡ Some (drop 67108865 f.bytes))) →
        IfSome told' (λ f. (items : List PlainItem) → HaveItems f.bytes items → P)
    go None read' = tt
    go (Some f) read' = λ items have. each items (subst (λ b. HaveItems b items) (sym read'.0) (items_of_read f.bytes items have))

  pub exact_err : (T : Type 0) (f : RunFault) → IsExactOf {T = T} bytes (Err f) → IsExact words told (Err f)
  exact_err T f exact = record {
    info = λ fault e.
        let same : f ≡ Info fault = cc e in
        fault_of_file fault (subst (IsFaultOfBytes bytes) same exact.info);
    faults = λ other asks_too. by_faults (λ fault. IsOfFault {T = Report} fault (Err f)) exact.faults;
    items = λ other asks_too. by_items (IsOfItems {T = Report} (Err f)) exact.items;
  }

  pub exact_ok : {T : Type 0} (value : T) (report : Report) → IsExactOf bytes (Ok value) → IsExact words told (Ok report)
  exact_ok value report exact = record {
    info = λ fault e. cc e;
    faults = λ other asks_too. by_faults (λ fault. ⊥) exact.faults;
    items = λ other asks_too. by_items (Unit {0}) (λ items have. tt);
  }

  pub exact_sink : {T : Type 0} (value : T) (f : RunFault) → IsSinkFault f → IsExactOf bytes (Ok value) → IsExact words told (Err f)
  exact_sink value f is exact = record {
    info = λ fault e. let same : f ≡ Info fault = cc e in absurd (subst IsSinkFault same is);
    faults = λ other asks_too. by_faults (λ fault. IsOfFault {T = Report} fault (Err f)) (λ fault have. absurd (exact.faults fault have));
    items = λ other asks_too. by_items (IsOfItems {T = Report} (Err f)) (λ items have. served (origin_of f) is);
  } where
    served : (o : Origin) → ComesOfSinks o → ComesBeside o
    served of_words bad = bad
    served of_source bad = tt
    served of_information bad = bad
    served (of_sink which) bad = tt
    served of_memory bad = tt

-- what a sink's fault leaves
pub untold_sink : (words : List (List ℕ)) (told : Option File) (out out_now err err_now : Option (List ℕ)) (o : Origin) → ComesOfSinks o →
    SendsFront words told out out_now err err_now →
    Leaves (Sends [] out out_now err err_now) (SendsFront words told out out_now err err_now) (Sends [] out out_now err err_now) o
untold_sink words told out out_now err err_now of_words is front = absurd is
untold_sink words told out out_now err err_now of_source is front = absurd is
untold_sink words told out out_now err err_now of_information is front = absurd is
untold_sink words told out out_now err err_now (of_sink which) is front = front
untold_sink words told out out_now err err_now of_memory is front = inr front

-- how far the source was read where a sink failed
pub read_sink : (told : Option File) (left : Option (List ℕ)) (o : Origin) → ComesOfSinks o → IfSome told (λ file. left ≡ Some []) →
    IsReadBy told left o
read_sink told left of_words is none = absurd is
read_sink told left of_source is none = absurd is
read_sink told left of_information is none = absurd is
read_sink told left (of_sink which) is none = none
read_sink told left of_memory is none = tt
