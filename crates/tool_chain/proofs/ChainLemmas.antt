-- A chain goes on by one job, or ends with it.
use Rattle.std.proofs.Common.{◌≡◌, inl, inr, ⊎_elim, ℕ, zero, suc, ◌+◌, ◌<◌, ◌≤◌, Bool, true, false, ◌||◌, IsTrue, List, [], ◌∷◌, ◌++◌, length, map, take, drop, get_or, arith, refl, sym, ◌∙◌, ap, subst, append_assoc}
use Rattle.std.specs.Prelude.{Option, Some, None, IsSome, All, Result, Ok, Err, OnOk, IfSome, option_map, bytes_eq}
use Rattle.std.specs.Option.{option_map_or}
use Rattle.std.proofs.lemmas.List.{append-nil, drop_more, drop_all}
use Rattle.std.proofs.lemmas.Slice.Eq.{bytes_eq-Decides}
use Rattle.std.proofs.lemmas.List.Elements.{All-nil, All-cons, All-head}
use Rattle.folder_base.specs.Disk.{Name, Bytes, File, Disk, content}
use Rattle.folder_base.specs.Story.{World}
use Rattle.keep_store.specs.Safe.{reads}
use Rattle.keep_store.specs.TookLaws.{refusal_later}
use Rattle.tool_chain.specs.Jobs.{Job, job_of, is_output, is_output_of, OutputsApart, OutputIs}
use Rattle.tool_chain.specs.Runs.{Run, Making, Bench, KeepsBench, Starts}
use Rattle.tool_chain.specs.Chain.{IsGood, Shows, Runs, BlamesFolder, AllMade, AllStand, InputsCome, Chains}
use Rattle.tool_chain.specs.declared.job.ToolJob.{ToolJob}
use Rattle.tool_chain.specs.declared.fault.ToolCause.TheVariants.{Start, Status, NoOutput}
use Rattle.tool_chain.specs.declared.fault.ToolFault.{ToolFault}
use Rattle.tool_chain.specs.declared.fault.ToolFault.TheVariants.{Tool, Folder, OutOfMemory}
use Rattle.tool_chain.proofs.StepLemmas.{spares_none, spares_more, spares_both, same_reads, each_of}

abbrev Stands : Job → Disk → Type 0
Stands job disk = (output : Name) → job.output ≡ Some output → IsSome (disk.live output)

abbrev Answer : Type 0
Answer = Result (Unit {0}) ToolFault

keeps_none : (bench : Bench) → KeepsBench bench bench
keeps_none bench = record { tells = λ h. h; still_tells = λ h. h; steady = λ h. h; works = λ h. h; make = refl; later = omega arith }

pub keeps_both : {first second third : Bench} → KeepsBench first second → KeepsBench second third → KeepsBench first third
keeps_both a b = record {
  tells = λ h. a.tells (b.tells h);
  still_tells = λ h. b.still_tells (a.still_tells h);
  steady = λ h. b.steady (a.steady h);
  works = λ h. b.works (a.works h);
  make = b.make ∙ a.make;
  later = omega (arith, a.later, b.later);
}

-- Nothing was started.
pub starts_none : {failed : Type 0} (bench : Bench) → (failed → ⊥) → Starts failed bench bench
starts_none bench none = record { keeps = keeps_none bench; rose = λ f. absurd (none f); calm = λ n. refl; never = λ s f. none f }

-- Nothing failed, and then something may.
starts_both : {first second third : Bench} {failed : Type 0} {early : Type 0} → (early → ⊥) → Starts early first second → Starts failed second third → Starts failed first third
starts_both none a b = record {
  keeps = keeps_both a.keeps b.keeps;
  rose = λ f. omega (arith, a.calm none, b.rose f);
  calm = λ n. b.calm n ∙ a.calm none;
  never = λ s f. b.never (a.keeps.steady s) f;
}

-- An empty chain.
pub chain_none : (at : ℕ) (bench : Bench) (world : World) → Chains at [] bench bench world world (Ok tt)
chain_none at bench world = record {
  starts = starts_none bench (λ none. none);
  spares = spares_none (is_output_of []) world;
  runs = λ t u. record { added = []; behind = sym (append-nil bench.runs); first = refl; shows = (refl, All-nil IsGood) };
  stand = λ u. All-nil (λ (job : Job). Stands job world.story.now);
  made = λ t u. All-nil (λ (job : Job). OutputIs (bench.make job.args (map (reads world.story.now) job.inputs)) job world.story.now);
  blames = refl;
  works = λ w s t come. inl refl;
}

module _ (job : Job) (jobs : List Job) where
  -- A name that is no output of the jobs is none of the first one,
  head_free : (n : Name) → is_output_of (job ∷ jobs) n ≡ false → is_output_of (job ∷ []) n ≡ false
  head_free n e = by (is_output job n) e
    where
      by : (b : Bool) → (b || is_output_of jobs n) ≡ false → (b || false) ≡ false
      by true h = absurd (cc)
      by false h = refl

  -- and none of the rest.
  rest_free : (n : Name) → is_output_of (job ∷ jobs) n ≡ false → is_output_of jobs n ≡ false
  rest_free n e = by (is_output job n) e
    where
      by : (b : Bool) → (b || is_output_of jobs n) ≡ false → is_output_of jobs n ≡ false
      by true h = absurd (cc)
      by false h = h

-- The first of jobs that are apart is apart from itself.
pub apart_head : (job : Job) (jobs : List Job) → OutputsApart (job ∷ jobs) → OutputsApart (job ∷ [])
apart_head job jobs apart = (each_of job.inputs (head_free job jobs) apart.0, (by job.output, tt))
  where
    by : (o : Option Name) → IfSome o (λ output. is_output_of [] output ≡ false)
    by None = tt
    by (Some output) = refl

-- A chain that ended with its first job.
pub chain_stop : (at : ℕ) (job : Job) (jobs : List Job) (bench bench' : Bench) (old new : World) (fault : ToolFault) → Chains at (job ∷ []) bench bench' old new (Err fault) → Chains at (job ∷ jobs) bench bench' old new (Err fault)
chain_stop at job jobs bench bench' old new fault c = record {
  starts = c.starts;
  spares = spares_more (is_output_of (job ∷ [])) (is_output_of (job ∷ jobs)) (head_free job jobs) c.spares;
  runs = λ t u. let r = c.runs t u in record { added = r.added; behind = r.behind; first = r.first ∙ by r.added r.first; shows = shows r.added fault r.shows };
  stand = λ u. tt;
  made = λ t u. tt;
  blames = c.blames;
  works = λ w s t come. c.works w s t (come.0, tt);
}
  where
    by : (added : List Run) → map (λ (run : Run). run.job) added ≡ take (length added) (job ∷ []) → take (length added) (job ∷ []) ≡ take (length added) (job ∷ jobs)
    by [] e = refl
    by (a ∷ []) e = refl
    by (a ∷ b ∷ rest) e = absurd (let long = ap (λ (l : List Job). length l) e in cc)

    shows : (added : List Run) (f : ToolFault) → Shows at (job ∷ []) added (Err f) → Shows at (job ∷ jobs) added (Err f)
    shows added (Tool step cause) h = h
    shows added (Folder call) h = h
    shows added OutOfMemory h = h

-- A good run stands before the runs that show the rest of the answer.
shows_behind : (at : ℕ) (job : Job) (jobs : List Job) (run : Run) (added : List Run) (result : Answer) → IsGood run → Shows (at + 1) jobs added result → Shows at (job ∷ jobs) (run ∷ added) result
shows_behind at job jobs run added (Ok _) good h = (ap (λ (n : ℕ). suc n) h.0, All-cons IsGood run added good h.1)
shows_behind at job jobs run added (Err (Tool step cause)) good h = (
  suc h.0,
  (
    omega (arith, h.1.0),
    record {
      good = run ∷ h.1.1.good;
      last = h.1.1.last;
      added_is = ap (λ (l : List Run). run ∷ l) h.1.1.added_is;
      number = ap (λ (n : ℕ). suc n) h.1.1.number;
      each_good = All-cons IsGood run h.1.1.good good h.1.1.each_good;
      shows = h.1.1.shows;
    },
  ),
)
shows_behind at job jobs run added (Err (Folder call)) good h = All-cons (λ (r : Run). r.status ≡ Some 0) run added good.status h
shows_behind at job jobs run added (Err OutOfMemory) good h = All-cons (λ (r : Run). r.status ≡ Some 0) run added good.status h

-- One added run, by a list of one.
only_one : (added : List Run) → length added ≡ 1 → (run : Run) × (added ≡ run ∷ [])
only_one [] e = absurd (cc)
only_one (run ∷ []) e = (run, refl)
only_one (run ∷ other ∷ rest) e = absurd (cc)

-- What is there may be more.
inputs_more : (jobs : List Job) {P Q : Name → Type 0} → ((n : Name) → P n → Q n) → InputsCome P jobs → InputsCome Q jobs
inputs_more [] more come = tt
inputs_more (job ∷ jobs) more come = (each_of job.inputs more come.0, inputs_more jobs (λ n. ⊎_elim (λ there. inl (more n there)) (λ is. inr is)) come.1)

-- A name that is the job's output is that one.
output_is : (job : Job) (n : Name) → is_output job n ≡ true → job.output ≡ Some n
output_is job n e = by job.output e
  where
    by : (o : Option Name) → option_map_or (λ output. bytes_eq output n) o false ≡ true → o ≡ Some n
    by None h = absurd (cc)
    by (Some output) h = ap (λ (m : Name). Some m) ((bytes_eq-Decides output n).0 h)

-- the runs of a job that was done, and of the rest
runs_behind : (at : ℕ) (job : Job) (jobs : List Job) (old mid new : List Run) (result : Answer) → Runs at (job ∷ []) old mid (Ok tt) → Runs (at + 1) jobs mid new result → Runs at (job ∷ jobs) old new result
runs_behind at job jobs old mid new result a b = let one = only_one a.added a.shows.0 in record {
  added = one.0 ∷ b.added;
  behind = b.behind ∙ ap (λ (l : List Run). l ++ b.added) (a.behind ∙ ap (λ (l : List Run). old ++ l) one.1) ∙ append_assoc old (one.0 ∷ []) b.added;
  first = λ i. first_job one.0 one.1 i ∷ b.first i;
  shows = shows_behind at job jobs one.0 b.added result (All-head IsGood one.0 [] (subst (All IsGood) one.1 a.shows.1)) b.shows;
}
  where
    head_of : List Job → Job
    head_of [] = job
    head_of (j ∷ js) = j

    first_job : (run : Run) → a.added ≡ run ∷ [] → run.job ≡ job
    first_job run e = ap head_of (ap (λ (l : List Run). map (λ (r : Run). r.job) l) (sym e) ∙ a.first ∙ ap (λ (l : List Run). take (length l) (job ∷ [])) e)

-- What the first job made still stands behind the rest.
made_before : (job : Job) (jobs : List Job) → OutputsApart (job ∷ jobs) → (make : Making) (old new : Disk) → ((n : Name) → is_output_of jobs n ≡ false → new.live n ≡ old.live n)
    → OutputIs (make job.args (map (reads old) job.inputs)) job old → OutputIs (make job.args (map (reads new) job.inputs)) job new
made_before job jobs apart make old new others made output is =
    ap (λ (o : Option File). option_map content o) (others output (subst (λ (o : Option Name). IfSome o (λ n. is_output_of jobs n ≡ false)) is apart.1.0))
    ∙ made output is
    ∙ ap (λ (all : List (Option Bytes)). Some (make job.args all)) (sym (same_reads job.inputs old new (each_of job.inputs (λ n free. others n (rest_free job jobs n free)) apart.0)))

module _ (at : ℕ) (job : Job) (jobs : List Job) {b0 b1 b2 : Bench} {w0 w1 w2 : World} where
  -- A job that was done, and the rest of the chain.
  pub chain_next : (result : Answer) → OutputsApart (job ∷ jobs) → Chains at (job ∷ []) b0 b1 w0 w1 (Ok tt) → Chains (at + 1) jobs b1 b2 w1 w2 result → Chains at (job ∷ jobs) b0 b2 w0 w2 result
  chain_next result apart a b = record {
    starts = starts_both (λ none. none) a.starts b.starts;
    spares = spares_both (is_output_of (job ∷ jobs)) (spares_more (is_output_of (job ∷ [])) (is_output_of (job ∷ jobs)) (head_free job jobs) a.spares) (spares_more (is_output_of jobs) (is_output_of (job ∷ jobs)) (rest_free job jobs) b.spares);
    runs = λ t u. runs_behind at job jobs b0.runs b1.runs b2.runs result (a.runs (b.starts.keeps.tells t) (b.spares.stays.tells u)) (b.runs t u);
    stand = λ u. stand result (b.stand u) (b.spares.others u) (a.stand (b.spares.stays.tells u));
    made = λ t u. by result (b.made t u) (b.spares.others u) (a.made (b.starts.keeps.tells t) (b.spares.stays.tells u));
    blames = blames result a.blames b.blames;
    works = λ w s t come. b.works (a.starts.keeps.works w) (a.spares.stays.steady s) (a.spares.stays.still_tells t) (comes (a.spares.stays.still_tells t) come);
  }
    where
      by : (r : Answer) → OnOk r (AllMade b1.make jobs w2.story.now) → ((n : Name) → is_output_of jobs n ≡ false → w2.story.now.live n ≡ w1.story.now.live n)
          → AllMade b0.make (job ∷ []) w1.story.now → OnOk r (AllMade b0.make (job ∷ jobs) w2.story.now)
      by (Err fault) rest others first = tt
      by (Ok x) rest others first =
          All-cons (λ (j : Job). OutputIs (b0.make j.args (map (reads w2.story.now) j.inputs)) j w2.story.now) job jobs
          (made_before job jobs apart b0.make w1.story.now w2.story.now others (All-head (λ (j : Job). OutputIs (b0.make j.args (map (reads w1.story.now) j.inputs)) j w1.story.now) job [] first))
          (subst (λ (make : Making). AllMade make jobs w2.story.now) a.starts.keeps.make rest)

      blames : (r : Answer) → w1.faults ≡ w0.faults → BlamesFolder w1 w2 r → BlamesFolder w0 w2 r
      blames (Ok x) calm h = h ∙ calm
      blames (Err (Tool step Start)) calm h = tt
      blames (Err (Tool step (Status code))) calm h = tt
      blames (Err (Tool step NoOutput)) calm h = h ∙ calm
      blames (Err (Folder call)) calm h = refusal_later a.spares.stays h
      blames (Err OutOfMemory) calm h = h ∙ calm

      stand : (r : Answer) → OnOk r (AllStand jobs w2.story.now) → ((n : Name) → is_output_of jobs n ≡ false → w2.story.now.live n ≡ w1.story.now.live n)
          → AllStand (job ∷ []) w1.story.now → OnOk r (AllStand (job ∷ jobs) w2.story.now)
      stand (Err fault) rest others first = tt
      stand (Ok x) rest others first = All-cons (λ (j : Job). Stands j w2.story.now) job jobs
          (λ output is. subst (λ (o : Option File). IsSome o) (sym (others output (subst (λ (o : Option Name). IfSome o (λ n. is_output_of jobs n ≡ false)) is apart.1.0)))
          (All-head (λ (j : Job). Stands j w1.story.now) job [] first output is)) rest

      comes : IsTrue w1.tells → InputsCome (λ (n : Name). IsSome (w0.story.now.live n)) (job ∷ jobs) → InputsCome (λ (n : Name). IsSome (w1.story.now.live n)) jobs
      comes t come = inputs_more jobs (λ n. ⊎_elim (λ there. by_output n there (is_output job n) refl) (λ is. first n is)) come.1
        where
          first : (output : Name) → job.output ≡ Some output → IsSome (w1.story.now.live output)
          first = All-head (λ (j : Job). Stands j w1.story.now) job [] (a.stand t)

          by_output : (n : Name) → IsSome (w0.story.now.live n) → (b : Bool) → is_output job n ≡ b → IsSome (w1.story.now.live n)
          by_output n there true e = first n (output_is job n e)
          by_output n there false e = subst (λ (o : Option File). IsSome o) (sym (a.spares.others t n (ap (λ (c : Bool). c || false) e))) there

-- The jobs from a place on are the job there and those behind it.
pub jobs_from : (all : List ToolJob) (k : ℕ) (job : ToolJob) → k < length all → job ≡ get_or all k job → map job_of (drop k all) ≡ job_of job ∷ map job_of (drop (k + 1) all)
jobs_from all k job below is = ap (map job_of) (drop_more all k job below) ∙ (λ i. job_of (sym is i) ∷ map job_of (drop (k + 1) all))

-- They are apart too.
pub apart_at : (all : List ToolJob) (k : ℕ) → OutputsApart (map job_of all) → OutputsApart (map job_of (drop k all))
apart_at all zero apart = apart
apart_at [] (suc k) apart = apart
apart_at (job ∷ all) (suc k) apart = apart_at all k apart.1.1

-- Behind the last place there are none.
pub jobs_end : (all : List ToolJob) (k : ℕ) → length all ≤ k → map job_of (drop k all) ≡ []
jobs_end all k past = ap (map job_of) (drop_all k all past)
