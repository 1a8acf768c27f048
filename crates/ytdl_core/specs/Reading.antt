-- How a file of information is read.
use Rattle.std.specs.Prelude.{ℕ}
use Rattle.text_base.specs.Causes.{Rose}
use Rattle.ytdl_core.specs.declared.run_fault.RunFault.{RunFault}
use Rattle.ytdl_core.specs.Origin.{Origin, of_words, of_source, of_information, of_sink, of_memory, origin_of}

-- how many bytes are read at most: one more than information may have
abbrev pub limit : ℕ
limit = 67108865

-- the source failed, which its count tells, or memory ran out
abbrev pub ComesOfReading : ℕ → ℕ → Origin → Type 0
ComesOfReading faults faults_now of_words = ⊥
ComesOfReading faults faults_now of_source = Rose faults faults_now
ComesOfReading faults faults_now of_information = ⊥
ComesOfReading faults faults_now (of_sink which) = ⊥
ComesOfReading faults faults_now of_memory = Unit {0}

-- the fault is that of a source, or want of memory
abbrev pub IsReadFault : ℕ → ℕ → RunFault → Type 0
IsReadFault faults faults_now fault = ComesOfReading faults faults_now (origin_of fault)
