-- A file poured behind the end of a new one, a piece at a time.
use Rattle.std.proofs.Common.{◌≡◌, ◌+◌, ◌++◌, ◌<◌, ◌≤◌, ℕ, length, take, sym, ap, subst}
use Rattle.std.specs.Prelude.{Option, Some}
use Rattle.std.proofs.lemmas.List.{append-nil}
use Rattle.folder_base.specs.Disk.{Name, Bytes, File, Disk, content}
use Rattle.folder_base.specs.Story.{Story}
use Rattle.folder_steps.specs.Make.{HasNew, Grows, KeepsLoose}
use Rattle.folder_steps.specs.Reading.{StandsIn}
use Rattle.folder_steps.proofs.NewFileLemmas.{grown_loose}
use Rattle.folder_steps.proofs.ReadingLemmas.{more_there, piece_more, poured_all}

-- Nothing was poured yet,
pub poured_none : (to : Name) (before : Bytes) (start : Disk) {old new : Story} (file : File) → new ≡ old → HasNew to before start old.now → HasNew to (before ++ take 0 (content file)) start new.now
poured_none to before start {old} {new} file same had =
    subst (λ (s : Story). HasNew to (before ++ take 0 (content file)) start s.now) (sym same) (subst (λ (b : Bytes). HasNew to b start old.now) (sym (append-nil before)) had)

-- one piece more,
pub poured_more : (to : Name) (before piece : Bytes) (start new : Disk) (file : File) (at : ℕ) (o : Option File) → o ≡ Some file → StandsIn o at piece → HasNew to ((before ++ take at (content file)) ++ piece) start new
    → HasNew to (before ++ take (at + length piece) (content file)) start new
poured_more to before piece start new file at o is stands had =
    subst (λ (b : Bytes). HasNew to b start new) (piece_more before piece file at (subst (λ (p : Option File). StandsIn p at piece) is stands)) had

-- or all.
pub poured_whole : (to : Name) (before : Bytes) (start new : Disk) (file : File) (at : ℕ) → length (content file) ≤ at → HasNew to (before ++ take at (content file)) start new → HasNew to (before ++ content file) start new
poured_whole to before start new file at past had = subst (λ (b : Bytes). HasNew to b start new) (poured_all before file at past) had

-- The read does not end early.
pub ends_late : (o : Option File) (file : File) (piece : Bytes) (at size : ℕ) → o ≡ Some file → length (content file) ≡ size → at < size → length piece ≡ 0 → StandsIn o at piece → ⊥
ends_late o file piece at size is long below none stands =
    more_there (Some file) piece at size (ap (λ (n : ℕ). Some n) long) below none (subst (λ (p : Option File). StandsIn p at piece) is stands)

-- Only the new file differs, while more is put behind it.
pub loose_more : (to : Name) (more : Bytes) {old mid new : Story} → Grows to more mid new → ((start : Disk) (before : Bytes) → HasNew to before start old.now → (now : Bytes) × HasNew to now start mid.now) → KeepsLoose to old mid → KeepsLoose to old new
loose_more to more grows has so_far start bytes had run = let now = has start.now bytes had in grown_loose to more grows start now.0 now.1 (so_far start bytes had run)
