-- What calls leave of a folder in which some names alone may change.
use Rattle.std.proofs.Common.{◌≡◌, ⊎_elim, Bool, true, false, IsTrue, List, [], ◌∷◌, map, refl, sym, ◌∙◌, ap}
use Rattle.std.specs.Prelude.{Option, Some, None, IsSome, IsNone, is_some, All, Result, option_map, bytes_eq}
use Rattle.std.specs.Option.{option_map_or}
use Rattle.std.proofs.lemmas.List.Elements.{All-head, All-tail}
use Rattle.folder_base.specs.Disk.{Name, File, Disk, Image, May, content, removed}
use Rattle.folder_base.specs.Story.{World, Story, Does, Causes}
use Rattle.folder_base.proofs.Images.{put_there}
use Rattle.folder_base.proofs.Moments.{begun, joined, weaker, outcome, stays}
use Rattle.text_base.specs.declared.faults.FolderFault.{FolderFault}
use Rattle.keep_store.specs.Opening.{Looked}
use Rattle.keep_store.specs.Publish.{Stays}
use Rattle.keep_store.specs.Safe.{reads}
use Rattle.keep_store.specs.TookLaws.{stays_none, stays_both}
use Rattle.folder_steps.specs.Follow.{Follows, Beside, Thinner}
use Rattle.folder_steps.proofs.ImageLemmas.{ends}
use Rattle.folder_steps.proofs.RemovalLemmas.{after_remove}
use Rattle.tool_chain.specs.Jobs.{Job, is_output}
use Rattle.tool_chain.specs.Runs.{Spares}

pub never : true ≡ false → ⊥
never e = cc

as_before : (loose : Name → Bool) (disk : Disk) (image : Image) → May disk image → Follows (May disk) (Beside loose) image
as_before loose disk image h = record { before = image; possible = h; each = λ n apart. refl }

wider : {was : Image → Type 0} (few loose : Name → Bool) → ((n : Name) → loose n ≡ false → few n ≡ false) → (image : Image) → Follows was (Beside few) image → Follows was (Beside loose) image
wider few loose more image f = record { before = f.before; possible = f.possible; each = λ n apart. f.each n (more n apart) }

twice : {was mid : Image → Type 0} (loose : Name → Bool) → ((image : Image) → mid image → Follows was (Beside loose) image) → (image : Image) → Follows mid (Beside loose) image → Follows was (Beside loose) image
twice loose first image f = let g = first f.before f.possible in record { before = g.before; possible = g.possible; each = λ n apart. f.each n apart ∙ g.each n apart }

thin : {was : Image → Type 0} (goes : Name → Bool) (image : Image) → Follows was (Thinner goes) image → Follows was (Beside goes) image
thin goes image f = record { before = f.before; possible = f.possible; each = λ n apart. ⊎_elim (λ same. same) (λ gone. absurd (never (sym gone.0 ∙ apart))) (f.each n) }

-- Nothing was asked.
pub spares_none : (loose : Name → Bool) (world : World) → Spares loose world world
spares_none loose world = record { stays = stays_none world; others = λ t n apart. refl; moments = λ t. begun world.story (Follows (May world.story.now) (Beside loose)) (as_before loose world.story.now) }

-- More names may change.
pub spares_more : {old new : World} (few loose : Name → Bool) → ((n : Name) → loose n ≡ false → few n ≡ false) → Spares few old new → Spares loose old new
spares_more few loose more s = record { stays = s.stays; others = λ t n apart. s.others t n (more n apart); moments = λ t. weaker (s.moments t) (wider few loose more) }

-- one call after another
pub spares_both : {first second third : World} (loose : Name → Bool) → Spares loose first second → Spares loose second third → Spares loose first third
spares_both loose a b = record {
  stays = stays_both a.stays b.stays;
  others = λ t n apart. b.others t n apart ∙ a.others (b.stays.tells t) n apart;
  moments = λ t. let run = a.moments (b.stays.tells t) in joined run (weaker (b.moments t) (twice loose (ends run)));
}

-- The folder was only asked.
pub spares_looked : {old new : World} (loose : Name → Bool) → Looked old new → Spares loose old new
spares_looked {old} {new} loose looked = record {
  stays = looked.stays;
  others = λ t n apart. ap (λ (s : Story). s.now.live n) (looked.same t);
  moments = λ t. stays (begun old.story (Follows (May old.story.now) (Beside loose)) (as_before loose old.story.now)) (looked.same t);
}

-- A file was removed.
pub spares_removed : {old new : World} {proper : Type 0} (name : Name) (result : Result (Unit {0}) FolderFault) → Stays old new → (IsTrue new.tells → Does proper (removed name) old.story new.story result) → Spares (bytes_eq name) old new
spares_removed {old} {new} {proper} name result stays does = record {
  stays = stays;
  others = λ t n apart. ⊎_elim (λ same. ap (λ (s : Story). s.now.live n) same) (λ done. ap (λ (d : Disk). d.live n) done.1.now ∙ put_there old.story.now.live name n None apart) (outcome result (does t));
  moments = λ t. weaker (after_remove name old.story result (does t)) (thin (bytes_eq name));
}

-- What names read as that have what they had.
pub same_reads : (names : List Name) (old new : Disk) → All (λ name. new.live name ≡ old.live name) names → map (reads new) names ≡ map (reads old) names
same_reads [] old new same = refl
same_reads (name ∷ names) old new same = λ i. option_map content (All-head (λ (n : Name). new.live n ≡ old.live n) name names same i) ∷ same_reads names old new (All-tail (λ (n : Name). new.live n ≡ old.live n) name names same) i

-- A list of names, each of which is free by a test.
pub each_of : {P Q : Name → Type 0} (names : List Name) → ((n : Name) → P n → Q n) → All P names → All Q names
each_of names more all k d below = more _ (all k d below)

-- What a call that counts its refusals leaves.
pub stays_by : {T proper : Type 0} {old new : World} {result : Result T FolderFault} → Causes proper old new result → Stays old new
stays_by c = record { tells = c.tells; still_tells = c.still_tells; steady = c.steady; faults = c.faults; refusals = c.refusals; part = c.part; out = c.out }

-- A name that was seen to stand stands.
pub seen_there : (there : Bool) (before now : Option File) → there ≡ is_some before → there ≡ true → now ≡ before → IsSome now
seen_there there before now is stood same = ap (λ (o : Option File). is_some o) same ∙ sym is ∙ stood

-- A name that was seen not to stand is free.
pub seen_free : (there : Bool) (before now : Option File) → there ≡ is_some before → there ≡ false → now ≡ before → IsNone now
seen_free there before now is none same = ap (λ (o : Option File). is_some o) same ∙ sym is ∙ none

-- What is not the job's output is not that name.
pub output_alone : (job : Job) (name : Name) → job.output ≡ Some name → (n : Name) → is_output job n ≡ false → bytes_eq name n ≡ false
output_alone job name is n e = sym (ap (λ (o : Option Name). option_map_or (λ output. bytes_eq output n) o false) is) ∙ e
