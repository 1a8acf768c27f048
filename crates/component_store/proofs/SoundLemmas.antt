-- A component's soundness through what each call leaves.
use Rattle.std.proofs.Common.{◌≡◌, ◌⊎◌, inl, inr, ⊎_elim, ℕ, ◌+◌, Bool, true, false, IsTrue, List, [], ◌∷◌, refl, sym, ◌∙◌, ap, subst}
use Rattle.std.specs.Prelude.{Option, Some, None, bytes_eq, not, ◌&&◌, if◌then◌else◌}
use Rattle.folder_base.specs.Disk.{Name, Bytes, Disk, Image, May}
use Rattle.folder_base.proofs.Images.{same_name}
use Rattle.keep_store.specs.Promise.{IfStands, promising}
use Rattle.folder_steps.specs.Follow.{Always, Follows, Thinner}
use Rattle.plan_record.specs.Names.{record_of, stem_of, is_swept}
use Rattle.plan_record.specs.declared.line.Line.{Line}
use Rattle.component_store.specs.Component.{Web, known, all_bytes, pieces_from, EachSound, ComponentSound}
use Rattle.component_store.specs.Begin.{Cleared, Started, IsStarting}
use Rattle.component_store.proofs.FamilyLemmas.{spare_record, spare_self, spare_stem, record_self, record_stem, pieces_stem, spare_promise, record_promise, pieces_promise}
use Rattle.component_store.proofs.ClearLemmas.{pieces_go, self_goes}

-- as before, or gone
abbrev pub Less : Option Bytes → Option Bytes → Type 0
Less before now = (now ≡ before) ⊎ (now ≡ None)

stands_less : (Q : Bytes → Type 0) (before now : Option Bytes) → Less before now → IfStands before Q → IfStands now Q
stands_less Q before now (inl same) h = subst (λ (o : Option Bytes). IfStands o Q) (sym same) h
stands_less Q before now (inr none) h = subst (λ (o : Option Bytes). IfStands o Q) (sym none) tt

pub none_stands : (Q : Bytes → Type 0) (o : Option Bytes) → o ≡ None → IfStands o Q
none_stands Q o none = subst (λ (p : Option Bytes). IfStands p Q) (sym none) tt

stood : (before now : Option Bytes) (file : Bytes) → Less before now → now ≡ Some file → before ≡ Some file
stood before now file (inl same) is = sym same ∙ is
stood before now file (inr none) is = absurd (let x : None ≡ Some file = sym none ∙ is in cc)

-- The pieces' names are as before, or gone.
pub record PiecesLess (component : Name) (before image : Image) : Type 0 where
  pub stem_less : (k : ℕ) → Less (before (stem_of component k)) (image (stem_of component k))
  pub promise_less : (k : ℕ) (digits : List ℕ) → Less (before (promising (stem_of component k) digits)) (image (promising (stem_of component k) digits))

pub pieces_less : (web : Web) (component : Name) (before image : Image) → PiecesLess component before image → (lines : List Line) (k : ℕ)
    → EachSound (pieces_from web component k lines) before → EachSound (pieces_from web component k lines) image
pieces_less web component before image less [] k h = tt
pieces_less web component before image less (line ∷ lines) k h = (
  record {
    complete = stands_less (λ file. known web line ≡ Some file) (before (stem_of component k)) (image (stem_of component k)) (less.stem_less k) h.0.complete;
    promised = λ digits bytes is. h.0.promised digits bytes (record {
      number = is.number;
      count = is.count;
      file = is.file;
      stands = stood _ _ is.file (less.promise_less k digits) is.stands;
      front = is.front;
    });
  },
  pieces_less web component before image less lines (k + 1) h.1,
)

-- All that the soundness of a component reads is as before, or gone.
pub record ReadsLess (component : Name) (before image : Image) : Type 0 where
  pub record_less : Less (before (record_of component)) (image (record_of component))
  pub self_less : Less (before component) (image component)
  pub less : PiecesLess component before image

-- Then it is sound as before.
pub less_sound : (web : Web) (component : Name) (before image : Image) → ReadsLess component before image → ComponentSound web component before → ComponentSound web component image
less_sound web component before image reads sound lines ok is =
    let h = sound lines ok (stood _ _ _ reads.record_less is) in
    record {
      pieces = pieces_less web component before image reads.less lines 0 h.pieces;
      whole = stands_less (λ bytes. all_bytes web lines ≡ Some bytes) (before component) (image component) reads.self_less h.whole;
    }

pub thin_less : (goes : Name → Bool) (before now : Option Bytes) (n : Name) → Thinner goes n before now → Less before now
thin_less goes before now n h = ⊎_elim (λ e. inl e) (λ e. inr e.1) h

-- Removals keep it sound.
pub thin_sound : (web : Web) (component : Name) (goes : Name → Bool) (old : Disk) → Always (ComponentSound web component) old → (image : Image) → Follows (May old) (Thinner goes) image → ComponentSound web component image
thin_sound web component goes old sound image f = less_sound web component f.before image (record {
  record_less = thin_less goes _ _ (record_of component) (f.each (record_of component));
  self_less = thin_less goes _ _ component (f.each component);
  less = record {
    stem_less = λ k. thin_less goes _ _ (stem_of component k) (f.each (stem_of component k));
    promise_less = λ k digits. thin_less goes _ _ (promising (stem_of component k) digits) (f.each (promising (stem_of component k) digits));
  };
}) (sound f.before f.possible)

module _ (component : Name) (final : Bool) where
  cleared_reads : (was : Image → Type 0) (image : Image) (f : Follows was (Cleared component final) image) → ReadsLess component f.before image
  cleared_reads was image f = record {
    record_less = thin_less (is_swept component final) _ _ (record_of component) (f.each (record_of component) (spare_record component));
    self_less = thin_less (is_swept component final) _ _ component (f.each component (spare_self component));
    less = record {
      stem_less = λ k. thin_less (is_swept component final) _ _ (stem_of component k) (f.each (stem_of component k) (spare_stem component k));
      promise_less = λ k digits. thin_less (is_swept component final) _ _ (promising (stem_of component k) digits) (f.each (promising (stem_of component k) digits) (spare_promise component k digits));
    };
  }

  swept_none : (before now : Option Bytes) (plan : Bytes) (n : Name) → Started component final plan n before now → bytes_eq (record_of component) n ≡ false → IsTrue (is_swept component final n) → now ≡ None
  swept_none before now plan n h differs goes = h ∙ ap (λ (b : Bool). if b then Some plan else (if is_swept component final n then None else before)) differs ∙ ap (λ (b : Bool). if b then None else before) goes

  module _ (web : Web) (plan : Bytes) (old : Disk) (not_final : final ≡ true → Always (λ image. image component ≡ None) old) where
    no_pieces : (image : Image) (f : Follows (May old) (Started component final plan) image) (lines : List Line) (k : ℕ) → EachSound (pieces_from web component k lines) image
    no_pieces image f [] k = tt
    no_pieces image f (line ∷ lines) k = (
      record {
        complete = none_stands _ (image (stem_of component k)) (swept_none _ _ plan (stem_of component k) (f.each (stem_of component k)) (record_stem component k) (pieces_go component final false (stem_of component k) (pieces_stem component k)));
        promised = λ digits bytes is. absurd (let name = promising (stem_of component k) digits in
            let none : image name ≡ None = swept_none _ _ plan name (f.each name) (record_promise component k digits) (pieces_go component final false name (pieces_promise component k digits)) in
            let x : None ≡ Some is.file = sym none ∙ is.stands in cc);
      },
      no_pieces image f lines (k + 1),
    )

    no_whole : (image : Image) (f : Follows (May old) (Started component final plan) image) → image component ≡ None
    no_whole image f = by final refl
      where
        by : (v : Bool) → final ≡ v → image component ≡ None
        by true e = f.each component ∙ ap (λ (b : Bool). if b then Some plan else (if is_swept component final component then None else f.before component)) (record_self component)
            ∙ ap (λ (o : Option Bytes). if is_swept component final component then None else o) (not_final e f.before f.possible) ∙ either (is_swept component final component) None
          where
            either : (b : Bool) (o : Option Bytes) → (if b then o else o) ≡ o
            either true o = refl
            either false o = refl
        by false e = swept_none _ _ plan component (f.each component) (record_self component) (self_goes component final false component (ap (λ (v : Bool). not v && bytes_eq component component) e ∙ same_name component))

    -- So does a beginning, at every moment, with whatever record.
    pub starting_sound : Always (ComponentSound web component) old → (image : Image) → IsStarting component final plan old image → ComponentSound web component image
    starting_sound sound image (inl f) lines ok is = less_sound web component f.before image (cleared_reads (May old) image f) (sound f.before f.possible) lines ok is
    starting_sound sound image (inr f) lines ok is = record { pieces = no_pieces image f lines 0; whole = none_stands _ (image component) (no_whole image f) }
