-- The record goes last.
use Rattle.std.proofs.Common.{◌≡◌, inl, inr, ⊎_elim, Bool, true, false, IsTrue, refl, sym, ◌∙◌, ap, subst}
use Rattle.std.specs.Prelude.{Option, Some, None, IsSome, bytes_eq, codes, not, ◌&&◌, ◌||◌, if◌then◌else◌}
use Rattle.std.proofs.lemmas.Slice.Eq.{bytes_eq-Decides}
use Rattle.folder_base.specs.Disk.{Name, Bytes, File, Disk, Image, Leaves, May, MayBe, settled}
use Rattle.folder_base.specs.Story.{Story, Through}
use Rattle.folder_base.proofs.Images.{none_is}
use Rattle.folder_base.proofs.Moments.{begun, stays, joined, weaker}
use Rattle.folder_steps.specs.Follow.{Always, Follows, Thinner}
use Rattle.folder_steps.specs.Make.{IsReplacing}
use Rattle.folder_steps.proofs.ImageLemmas.{ends, settled_only}
use Rattle.plan_record.specs.Names.{record_of, spare_of, joined_of, pieces_of, begins}
use Rattle.plan_record.proofs.NameLemmas.{tail_eq}
use Rattle.component_store.specs.Tidy.{is_cleared, is_under, UnderRecord, GoesBehind}
use Rattle.component_store.proofs.FamilyLemmas.{never, true_or_not, self_eq, spare_record, joined_record, pieces_record, pieces_spare, self_record}

module _ (component : Name) (component_stays : Bool) where
  -- What stands under the record is removed before it.
  pub under_goes : (record_stays : Bool) (n : Name) → IsTrue (is_under component component_stays n) → IsTrue (is_cleared component component_stays record_stays n)
  under_goes record_stays n = by (not record_stays && bytes_eq (record_of component) n) (bytes_eq (spare_of component) n) (bytes_eq (joined_of component) n || begins (pieces_of component) n) (not component_stays && bytes_eq component n)
    where
      by : (r s q c : Bool) → IsTrue (q || c) → IsTrue ((r || (s || q)) || c)
      by true s q c h = refl
      by false true q c h = refl
      by false false q c h = h

  record_stays : is_cleared component component_stays true (record_of component) ≡ false
  record_stays = rw (spare_record component, joined_record component, pieces_record component, self_record component) (by component_stays)
    where
      by : (b : Bool) → (not b && false) ≡ false
      by true = refl
      by false = refl

  -- Files went, and not the record.
  pub under_thin : (goes : Name → Bool) → goes (record_of component) ≡ false → {was : Image → Type 0} → ((image : Image) → was image → UnderRecord component component_stays image) → (image : Image) → Follows was (Thinner goes) image → UnderRecord component component_stays image
  under_thin goes stays_there {was} always image f = ⊎_elim
      (λ there. ⊎_elim (λ same. inl (subst (λ (o : Option Bytes). IsSome o) (sym same) there)) (λ gone. absurd (never (sym gone.0 ∙ stays_there))) (f.each (record_of component)))
      (λ none. inr (λ n mine. ⊎_elim (λ same. same ∙ none n mine) (λ gone. gone.1) (f.each n)))
      (always f.before f.possible)

  -- The record stands while the others go,
  pub under_still : {old mid : Story} → Always (UnderRecord component component_stays) old.now → Through old mid (Follows (May old.now) (Thinner (is_cleared component component_stays true))) → Through old mid (UnderRecord component component_stays)
  under_still always run = weaker run (λ image f. under_thin (is_cleared component component_stays true) record_stays always image f)

  -- and goes behind them.
  pub under_behind : {old mid new : Story} (name : Name) → Always (UnderRecord component component_stays) old.now → Through old mid (Follows (May old.now) (Thinner (is_cleared component component_stays true)))
      → ((n : Name) → mid.now.live n ≡ (if is_cleared component component_stays true n then None else old.now.live n)) → Through mid new (GoesBehind name mid.now) → Through old new (UnderRecord component component_stays)
  under_behind {old} {mid} {new} name always first live run = joined (under_still always first) (weaker run by)
    where
      none : (before : Image) → Leaves mid.now.live before → (n : Name) → IsTrue (is_under component component_stays n) → before n ≡ None
      none before leaves n mine = none_is (before n) (subst (λ (o : Option File). MayBe o (before n)) (live n ∙ ap (λ (b : Bool). if b then None else old.now.live n) (under_goes true n mine)) (leaves n))

      by : (image : Image) → GoesBehind name mid.now image → UnderRecord component component_stays image
      by image (inl may) = under_thin (is_cleared component component_stays true) record_stays always image (ends first image may)
      by image (inr f) = inr (λ n mine. ⊎_elim (λ same. same ∙ none f.before f.possible n mine) (λ gone. gone.1) (f.each n))

  pub under_same : {old new : Story} → new ≡ old → Always (UnderRecord component component_stays) old.now → Through old new (UnderRecord component component_stays)
  under_same {old} same always = stays (begun old (UnderRecord component component_stays) always) same

  -- The spare name is none of those.
  spare_apart : (n : Name) → IsTrue (is_under component component_stays n) → bytes_eq (spare_of component) n ≡ false
  spare_apart n mine = ⊎_elim (λ is. absurd (never (sym mine ∙ ap (is_under component component_stays) (sym ((bytes_eq-Decides (spare_of component) n).0 is)) ∙ spare_none))) (λ differs. differs) (true_or_not (bytes_eq (spare_of component) n))
    where
      joined_spare : bytes_eq (joined_of component) (spare_of component) ≡ false
      joined_spare = tail_eq component (codes ".part") (codes ".ytdl.new")

      by : (b : Bool) → (not b && false) ≡ false
      by true = refl
      by false = refl

      spare_none : is_under component component_stays (spare_of component) ≡ false
      spare_none = rw (joined_spare, pieces_spare component, self_eq component (codes ".ytdl.new")) (by component_stays)

  -- A record is put in its place where all of them are gone.
  pub under_started : {old mid new : Story} {spare to : Bytes} (bytes : Bytes) → Through old mid (UnderRecord component component_stays) → ((n : Name) → IsTrue (is_under component component_stays n) → mid.now.live n ≡ None) → Always (Leaves mid.now.live) mid.now
      → spare ≡ spare_of component → to ≡ record_of component → Through mid new (IsReplacing spare to bytes mid.now) → Through old new (UnderRecord component component_stays)
  under_started {old} {mid} {new} {spare} {to} bytes first gone only is_spare is_record run = joined first (weaker run by)
    where
      none : (before : Image) → May mid.now before → (n : Name) → IsTrue (is_under component component_stays n) → before n ≡ None
      none before may n mine = none_is (before n) (subst (λ (o : Option File). MayBe o (before n)) (gone n mine) (only before may n))

      by : (image : Image) → IsReplacing spare to bytes mid.now image → UnderRecord component component_stays image
      by image (inl f) = inr (λ n mine. f.each n (ap (λ (s : Name). bytes_eq s n) is_spare ∙ spare_apart n mine) ∙ none f.before f.possible n mine)
      by image (inr f) = inl (subst (λ (o : Option Bytes). IsSome o) (sym (f.each (record_of component)
          ∙ ap (λ (b : Bool). if b then Some bytes else (if bytes_eq spare (record_of component) then None else f.before (record_of component))) ((bytes_eq-Decides to (record_of component)).1 is_record))) there)
        where
          there : IsSome (Some bytes)
          there = cc

-- Behind a settle only the files as they are are left, and then this one may be gone.
pub behind_settled : (name : Name) (old mid : Disk) → mid ≡ settled old → (image : Image) → Follows (May mid) (Thinner (bytes_eq name)) image → GoesBehind name old image
behind_settled name old mid is image f = inr (record {
  before = f.before;
  possible = λ n. subst (λ (d : Disk). MayBe (d.live n) (f.before n)) is (settled_only old mid is f.before f.possible n);
  each = f.each;
})

-- The same from an equal story on, of a component that stays as said.
pub under_from : (component : Name) {a b : Bool} {old mid new : Story} → a ≡ b → mid ≡ old → (Always (UnderRecord component a) mid.now → Through mid new (UnderRecord component a)) → Always (UnderRecord component b) old.now → Through old new (UnderRecord component b)
under_from component {a} {b} {old} {mid} {new} is same run =
    subst (λ (v : Bool). Always (UnderRecord component v) old.now → Through old new (UnderRecord component v)) is
    (subst (λ (s : Story). Always (UnderRecord component a) s.now → Through s new (UnderRecord component a)) same run)
