-- A piece is found: complete, or at its greatest promise, or not at all.
use Rattle.std.proofs.Common.{◌≡◌, inl, inr, ⊎_elim, ℕ, zero, suc, ◌-◌, ◌<◌, ◌≤◌, ◌^◌, Bool, true, false, List, [], ◌∷◌, ◌++◌, length, take, drop, refl, sym, ◌∙◌, ap, subst, arith, lit<, length-append, take-append-drop, decimal}
use Rattle.std.specs.Prelude.{Result, Option, Some, None, IsSome, IsNone, is_some, option_map, nat_lt, unwrap_or, bytes_eq, if◌then◌else◌}
use Rattle.std.proofs.lemmas.Bool.Decides.{nat_tests}
use Rattle.std.proofs.lemmas.List.{take_all, length-take-le}
use Rattle.std.proofs.lemmas.Option.{same_Some}
use Rattle.folder_base.specs.Disk.{Name, Bytes, File, Disk, Image, May, content, shorter, cut_to, empty_file, IsSettled}
use Rattle.folder_base.specs.Names.{Lists}
use Rattle.folder_base.specs.Story.{World, Story, Next, Reads, Through}
use Rattle.folder_base.proofs.Images.{put_here, put_there}
use Rattle.folder_base.proofs.Moments.{begun, may_go_on, weaker}
use Rattle.keep_store.specs.Lane.{SameOthers}
use Rattle.keep_store.specs.Promise.{IsNameOf, promise_prefix, promising, promise_name, Promises, IsPromise, PieceSound}
use Rattle.keep_store.specs.Publish.{Stays}
use Rattle.keep_store.specs.Safe.{reads, Safe, Kept}
use Rattle.keep_store.specs.Opening.{StandsAt, AtMost, IsGreatest, CanBegin, begun_at, MayBegin, Finds}
use Rattle.keep_store.specs.Opens.{KeepsPiece, KeepsPromise}
use Rattle.keep_store.proofs.LaneSteps.{apart_from}
use Rattle.keep_store.proofs.Naming.{begins_all}
use Rattle.keep_store.proofs.Numerals.{printed, decimal_is_number, number_of-decimal}
use Rattle.keep_store.proofs.Opened.{one_promise, entry_images, entry_kept, kept_sound, safe_whole, safe_cut, safe_new}
use Rattle.keep_store.proofs.SafeImages.{safe_kept}

-- Before anything is done the piece is kept.
pub keeps_begun : (stem : Name) (story : Story) → KeepsPromise stem story story
keeps_begun stem story settled = record {
  promise = begun story (λ image. (bytes : Bytes) → IsPromise stem (reads story.now) bytes → Kept stem story.now bytes (is_some (story.now.live stem)) image) (λ image may bytes is. entry_kept stem story.now bytes (is_some (story.now.live stem)) settled is image may);
  sound = begun story (λ image. (all : Option Bytes) → PieceSound all stem (reads story.now) → PieceSound all stem image) (λ image may all was. subst (λ (i : Image). PieceSound all stem i) (sym (entry_images story.now settled image may)) was);
}

pub keeps_same : (stem : Name) (old new : Story) → new ≡ old → KeepsPromise stem old new
keeps_same stem old new same = subst (λ (s : Story). KeepsPromise stem old s) (sym same) (keeps_begun stem old)

-- Where promised bytes are kept, the piece is.
pub keeps_bytes : (stem : Name) (old new : Story) (bytes : Bytes) → IsPromise stem (reads old.now) bytes → Through old new (Kept stem old.now bytes (is_some (old.now.live stem))) → KeepsPiece stem old new
keeps_bytes stem old new bytes is kept = record {
  promise = weaker kept (λ image one other also. subst (λ (b : Bytes). Kept stem old.now b (is_some (old.now.live stem)) image) (one_promise stem (reads old.now) bytes other is also) one);
  sound = weaker kept (λ image one all was. kept_sound all stem old.now bytes was is image one);
}

-- what a call that reads keeps
pub stays_read : {T E proper : Type 0} {old new : World} {result : Result T E} → Reads proper old new result → Stays old new
stays_read is = record { tells = is.tells; still_tells = is.still_tells; steady = is.steady; faults = is.faults; refusals = omega (arith, is.refusals); part = is.same.part; out = is.same.out }

-- The complete name stands.
pub finds_whole : (stem : Name) (story : Story) (size : ℕ) → Some size ≡ option_map (λ (file : File). length (content file)) (story.now.live stem) → Finds stem stem true size story story
finds_whole stem story size told = by (story.now.live stem) refl
  where
    by : (o : Option File) → story.now.live stem ≡ o → Finds stem stem true size story story
    by None none = absurd (let e : Some size ≡ None = told ∙ ap (option_map (λ (f : File). length (content f))) none in cc)
    by (Some file) stands = record {
      bytes = content file;
      promise = inl (ap (option_map content) stands);
      count = sym (same_Some size (length (content file)) (told ∙ ap (option_map (λ (f : File). length (content f))) stands));
      known = sym (ap (λ (o : Option File). is_some o) stands);
      file = file;
      stands = stands;
      reads_as = refl;
      others = λ name apart. refl;
      safe = λ settled. safe_whole stem story.now file settled stands;
    }

-- no complete name stands
pub part_of : (stem : Name) (disk : Disk) → None ≡ option_map (λ (file : File). length (content file)) (disk.live stem) → disk.live stem ≡ None
part_of stem disk told = by (disk.live stem) refl
  where
    by : (o : Option File) → disk.live stem ≡ o → disk.live stem ≡ None
    by None none = none
    by (Some file) stands = absurd (let e : None ≡ Some (length (content file)) = told ∙ ap (option_map (λ (f : File). length (content f))) stands in cc)

-- Each promise that stands is at most the greatest among the listed names.
module _ (stem : Name) (disk : Disk) (names : List Name) (lists : Lists (promise_prefix stem) disk.live names) where
  at_most : (most : Option ℕ) → IsGreatest (promise_prefix stem) disk.live names (length names) most → (digits : List ℕ) (bytes : Bytes) → Promises stem (reads disk) digits bytes → AtMost (length bytes) most
  at_most most greatest digits bytes promises = by (disk.live (promising stem digits)) refl
    where
      by : (o : Option File) → disk.live (promising stem digits) ≡ o → AtMost (length bytes) most
      by None none = absurd (let e : Some promises.file ≡ None = sym promises.stands ∙ ap (option_map content) none in cc)
      by (Some file) is =
          let held : content file ≡ promises.file = same_Some (content file) promises.file (sym (ap (option_map content) is) ∙ promises.stands) in
          let place = (lists.each (promising stem digits)).1 (begins_all (promise_prefix stem) digits, subst (λ (o : Option File). IsSome o) (sym is) refl) in
          greatest.each place.0 (promising stem digits) (length bytes) place.1 place.1 place.2 (record {
            digits = digits;
            number = promises.number;
            is = refl;
            spells = sym promises.count;
            file = file;
            stands = is;
            enough = omega (arith, ap length held, ap length promises.front.1, length-append bytes promises.front.0);
          })

  module _ (greatest : IsGreatest (promise_prefix stem) disk.live names (length names) None) (part : disk.live stem ≡ None) where
    pub none_promised : IsPromise stem (reads disk) []
    none_promised = inr (record { part = ap (option_map content) part; promised = inl refl; greatest = λ digits other promises. absurd (at_most None greatest digits other promises) })

    pub none_stands : disk.live (promise_name stem 0) ≡ None
    none_stands = by (disk.live (promise_name stem 0)) refl
      where
        by : (o : Option File) → disk.live (promise_name stem 0) ≡ o → disk.live (promise_name stem 0) ≡ None
        by None none = none
        by (Some file) is = absurd (at_most None greatest (decimal 0) [] (record {
          number = decimal_is_number 0 (lit< tt);
          count = sym (number_of-decimal 0 (lit< tt));
          file = content file;
          stands = ap (option_map content) is;
          front = (content file, refl);
        }))

  module _ (len : ℕ) (greatest : IsGreatest (promise_prefix stem) disk.live names (length names) (Some len)) (part : disk.live stem ≡ None) (small : len < 2 ^ 64) where
    at : StandsAt (promise_prefix stem) disk.live greatest.some.0 len
    at = greatest.some.1

    name_is : greatest.some.0 ≡ promise_name stem len
    name_is = at.is ∙ ap (promising stem) (sym (printed at.digits at.number (omega (arith, at.spells, small))) ∙ ap decimal at.spells)

    pub part_file : File
    part_file = at.file

    pub part_stands : disk.live (promise_name stem len) ≡ Some part_file
    unfolding part_file at
    part_stands = ap disk.live (sym name_is) ∙ at.stands

    pub part_enough : len ≤ length (content part_file)
    unfolding part_file at
    part_enough = at.enough

    pub part_count : length (take len (content part_file)) ≡ len
    unfolding part_file at
    part_count = length-take-le len (content part_file) at.enough

    pub part_promised : IsPromise stem (reads disk) (take len (content part_file))
    part_promised = inr (record {
      part = ap (option_map content) part;
      promised = inr (
        decimal len,
        record {
          number = decimal_is_number len small;
          count = part_count ∙ sym (number_of-decimal len small);
          file = content part_file;
          stands = ap (option_map content) part_stands;
          front = (drop len (content part_file), sym (take-append-drop len (content part_file)));
        },
      );
      greatest = λ digits other promises. omega (arith, part_count, at_most (Some len) greatest digits other promises);
    })

take_both : (n : ℕ) (a b : Bytes) → take n a ++ take (n - length a) b ≡ take n (a ++ b)
take_both n [] b = (λ i. take_all n [] (let none : length {A = ℕ} [] ≤ n = omega arith in none) i ++ take (same i) b)
  where
    same : n - 0 ≡ n
    same = omega arith
take_both zero (c ∷ a) b = let none : 0 - length (c ∷ a) ≡ 0 = omega arith in ap (λ (k : ℕ). take k b) none
take_both (suc n) (c ∷ a) b = let one : suc n - length (c ∷ a) ≡ n - length a = omega arith in
    ap (λ (k : ℕ). (c ∷ take n a) ++ take k b) one ∙ ap (λ (l : Bytes). c ∷ l) (take_both n a b)

-- The file of a piece that was cut: its first bytes.
cut_content : (file : File) (len : ℕ) → len ≤ length (content file) → content (shorter len file) ≡ take len (content file)
cut_content file len enough = by (nat_lt len (length (content file))) refl
  where
    by : (b : Bool) → nat_lt len (length (content file)) ≡ b
        → content (if b then record { sure = take len file.sure; more = Some (take (len - length file.sure) (unwrap_or file.more [])) } else file) ≡ take len (content file)
    by true e = take_both len file.sure (unwrap_or file.more [])
    by false e = sym (take_all len (content file) (let most : length (content file) ≤ len = grind (arith, nat_tests) in most))

-- No complete name stands: the file is begun at the greatest promise.
module _ (stem : Name) (old : Story) (names : List Name) (lists : Lists (promise_prefix stem) old.now.live names) (part : old.now.live stem ≡ None) where
  abbrev len_of : Option ℕ → ℕ
  len_of most = unwrap_or most 0

  abbrev name_of : Option ℕ → Name
  name_of most = promise_name stem (unwrap_or most 0)

  pub can_begin : (most : Option ℕ) → IsGreatest (promise_prefix stem) old.now.live names (length names) most → unwrap_or most 0 < 2 ^ 64 → CanBegin (name_of most) most old.now.live
  can_begin None greatest small = subst (λ (o : Option File). IsNone o) (sym (none_stands stem old.now names lists greatest part)) refl
  can_begin (Some len) greatest small = subst (λ (o : Option File). IsSome o) (sym (part_stands stem old.now names lists len greatest part small)) refl

  -- what it is then, and at each moment
  pub record Goes (most : Option ℕ) : Type 0 where
    pub bytes : Bytes
    pub promise : IsPromise stem (reads old.now) bytes
    pub count : length bytes ≡ unwrap_or most 0
    pub file : File
    pub stands : (begun_at (name_of most) most old.now).live (name_of most) ≡ Some file
    pub reads_as : content file ≡ bytes
    pub others : (name : Name) → bytes_eq (name_of most) name ≡ false → (begun_at (name_of most) most old.now).live name ≡ old.now.live name
    pub safe : IsSettled old.now → Safe stem (name_of most) old.now bytes false (begun_at (name_of most) most old.now)

  goes : (most : Option ℕ) → IsGreatest (promise_prefix stem) old.now.live names (length names) most → unwrap_or most 0 < 2 ^ 64 → Goes most
  goes None greatest small = record {
    bytes = [];
    promise = none_promised stem old.now names lists greatest part;
    count = refl;
    file = empty_file;
    stands = put_here old.now.live (promise_name stem 0) (Some empty_file);
    reads_as = refl;
    others = λ name apart. put_there old.now.live (promise_name stem 0) name (Some empty_file) apart;
    safe = λ settled. safe_new stem (promise_name stem 0) old.now (decimal 0) settled (decimal_is_number 0 (lit< tt)) refl (number_of-decimal 0 (lit< tt)) part
        (none_stands stem old.now names lists greatest part) (none_promised stem old.now names lists greatest part);
  }
  goes (Some len) greatest small =
      let file = part_file stem old.now names lists len greatest part small in
      let stands = part_stands stem old.now names lists len greatest part small in
      let enough = part_enough stem old.now names lists len greatest part small in
      let count = part_count stem old.now names lists len greatest part small in
      let promise = part_promised stem old.now names lists len greatest part small in
      record {
        bytes = take len (content file);
        promise = promise;
        count = count;
        file = shorter len file;
        stands = put_here old.now.live (promise_name stem len) (option_map (shorter len) (old.now.live (promise_name stem len))) ∙ ap (option_map (shorter len)) stands;
        reads_as = cut_content file len enough;
        others = λ name apart. put_there old.now.live (promise_name stem len) name (option_map (shorter len) (old.now.live (promise_name stem len))) apart;
        safe = λ settled. subst (λ (n : ℕ). Safe stem (promise_name stem len) old.now (take len (content file)) false (cut_to (promise_name stem len) n old.now)) count
            (safe_cut stem (promise_name stem len) old.now file (decimal len) (take len (content file)) settled (decimal_is_number len small) refl part stands promise
            (number_of-decimal len small ∙ sym count) (ap (λ (n : ℕ). take n (content file)) (sym count)) (omega (arith, count, enough)));
      }

  pub finds_begun : (most : Option ℕ) → IsGreatest (promise_prefix stem) old.now.live names (length names) most → unwrap_or most 0 < 2 ^ 64 → (new : Story)
      → Next (begun_at (name_of most) most) old new → Finds stem (name_of most) false (unwrap_or most 0) old new
  finds_begun most greatest small new next = let g = goes most greatest small in record {
    bytes = g.bytes;
    promise = g.promise;
    count = g.count;
    known = sym (ap (λ (o : Option File). is_some o) part);
    file = g.file;
    stands = ap (λ (d : Disk). d.live (name_of most)) next.now ∙ g.stands;
    reads_as = g.reads_as;
    others = λ name apart. ap (λ (d : Disk). d.live name) next.now ∙ g.others name apart;
    safe = λ settled. subst (λ (d : Disk). Safe stem (name_of most) old.now g.bytes false d) (sym next.now) (g.safe settled);
  }

  pub keeps_moved : (most : Option ℕ) → IsGreatest (promise_prefix stem) old.now.live names (length names) most → unwrap_or most 0 < 2 ^ 64 → (new : Story)
      → MayBegin (name_of most) most old new → KeepsPromise stem old new
  keeps_moved most greatest small new told settled = keeps_bytes stem old new (goes most greatest small).bytes (goes most greatest small).promise
      (may_go_on (weaker (keeps_begun stem old settled).promise (λ image one. one (goes most greatest small).bytes (goes most greatest small).promise)) told here)
    where
      here : (image : Image) → May (begun_at (name_of most) most old.now) image → Kept stem old.now (goes most greatest small).bytes (is_some (old.now.live stem)) image
      here image may =
          let g = goes most greatest small in
          subst (λ (b : Bool). Kept stem old.now g.bytes b image) (sym (ap (λ (o : Option File). is_some o) part))
          (safe_kept stem (name_of most) old.now g.bytes false (begun_at (name_of most) most old.now) (g.safe settled) image may)

-- No complete name stands; this is the greatest promise among the names, and so many bytes are promised.
pub record IsSought (stem : Name) (old : Story) (names : List Name) (most : Option ℕ) (len : ℕ) : Type 0 where
  pub part : old.now.live stem ≡ None
  pub lists : Lists (promise_prefix stem) old.now.live names
  pub greatest : IsGreatest (promise_prefix stem) old.now.live names (length names) most
  pub len_is : len ≡ unwrap_or most 0
  pub small : len < 2 ^ 64

pub sought : (stem prefix asked : Name) (old mid : Story) (names : List Name) (most size : Option ℕ) (len : ℕ) → prefix ≡ promise_prefix stem → asked ≡ stem → size ≡ None
    → size ≡ option_map (λ (file : File). length (content file)) (old.now.live asked) → mid ≡ old → Lists prefix old.now.live names → IsGreatest prefix mid.now.live names (length names) most
    → len ≡ unwrap_or most 0 → len < 2 ^ 64 → IsSought stem old names most len
sought stem prefix asked old mid names most size len prefix_is asked_is none told same lists greatest len_is small = record {
  part = part_of stem old.now (sym none ∙ told ∙ ap (λ (n : Name). option_map (λ (file : File). length (content file)) (old.now.live n)) asked_is);
  lists = subst (λ (p : Name). Lists p old.now.live names) prefix_is lists;
  greatest = subst (λ (p : Name). IsGreatest p old.now.live names (length names) most) prefix_is (subst (λ (s : Story). IsGreatest prefix s.now.live names (length names) most) same greatest);
  len_is = len_is;
  small = small;
}

module _ (stem : Name) (old mid : Story) (names : List Name) (most : Option ℕ) (len : ℕ) (is : IsSought stem old names most len) (name : Name) (name_is : name ≡ promise_name stem len) (same : mid ≡ old) where
  less : unwrap_or most 0 < 2 ^ 64
  less = subst (λ (n : ℕ). n < 2 ^ 64) is.len_is is.small

  named : promise_name stem (unwrap_or most 0) ≡ name
  named = sym (name_is ∙ ap (promise_name stem) is.len_is)

  pub may_begin : CanBegin name most mid.now.live
  may_begin = subst (λ (s : Story). CanBegin name most s.now.live) (sym same) (subst (λ (n : Name). CanBegin n most old.now.live) named (can_begin stem old names is.lists is.part most is.greatest less))

  pub found_begun : (complete : Bool) (new : Story) → complete ≡ false → Next (begun_at name most) mid new → Finds stem name complete len old new
  found_begun complete new part next = subst (λ (b : Bool). Finds stem name b len old new) (sym part) (subst (λ (n : ℕ). Finds stem name false n old new) (sym is.len_is)
      (by name named (subst (λ (s : Story). Next (begun_at name most) s new) same next)))
    where
      by : (n : Name) → promise_name stem (unwrap_or most 0) ≡ n → Next (begun_at n most) old new → Finds stem n false (unwrap_or most 0) old new
      by n e = subst (λ (m : Name). Next (begun_at m most) old new → Finds stem m false (unwrap_or most 0) old new) e (finds_begun stem old names is.lists is.part most is.greatest less new)

  pub keeps_found : (new : Story) → MayBegin name most mid new → KeepsPromise stem old new
  keeps_found new told = by name named (subst (λ (s : Story). MayBegin name most s new) same told)
    where
      by : (n : Name) → promise_name stem (unwrap_or most 0) ≡ n → MayBegin n most old new → KeepsPromise stem old new
      by n e = subst (λ (m : Name). MayBegin m most old new → KeepsPromise stem old new) e (keeps_moved stem old names is.lists is.part most is.greatest less new)

-- Where nothing was done, names that are not the piece's are as they were,
pub others_same : (stem : Name) (old new : World) → new.story ≡ old.story → SameOthers stem old new
others_same stem old new same name not = ap (λ (s : Story). s.now.live name) same

-- and so they are where the piece's file was begun.
pub others_begun : (stem name : Name) (most : Option ℕ) (old mid new : World) → IsNameOf stem name → mid.story ≡ old.story → MayBegin name most mid.story new.story → SameOthers stem old new
others_begun stem name most old mid new named same told other not = ⊎_elim
    (λ none. ap (λ (s : Story). s.now.live other) (none ∙ same))
    (λ next. ap (λ (d : Disk). d.live other) next.now ∙ begun_other most ∙ ap (λ (s : Story). s.now.live other) same) told
  where
    apart : bytes_eq name other ≡ false
    apart = apart_from stem name other named not

    begun_other : (most : Option ℕ) → (begun_at name most mid.story.now).live other ≡ mid.story.now.live other
    begun_other None = put_there mid.story.now.live name other (Some empty_file) apart
    begun_other (Some len) = put_there mid.story.now.live name other (option_map (shorter len) (mid.story.now.live name)) apart
