use Rattle.std.proofs.Common.{ℕ, List, ◌++◌, take, slice_range, ap, ◌∙◌, subst, sym, Option}
use Rattle.std.proofs.lemmas.List.{length-take-le}
use Rattle.link_http.specs.declared.share.Share.{Share}
use Rattle.link_http.specs.declared.body_end.BodyEnd.TheVariants.{Full}
use Rattle.link_http.specs.Body.{poured, onto, Cuts, Poured}
use Rattle.link_http.proofs.BodyLemmas.{range-take, cuts_front}
use Rattle.link_http.proofs.body.hand_over.Goals as goal

pub returns-in-Err-clause-hands : goal.returns-in-Err-clause-hands
returns-in-Err-clause-hands g c =
    let cut = c.part_of-cut.result in
    let w = c.args.window.now.bytes in
    let piece = take c.args.n w in
    let refused = c.in-Err.ensures.refused in
    let store = c.in-Err.ensures.store in
    let same = ap (λ (b : List ℕ). slice_range b cut.from cut.to) c.bytes.ensures.value ∙ sym (range-take c.args.n cut.from cut.to w c.part_of-cut.ensures.ordered c.part_of-cut.ensures.within) in (
      _,
      refused,
      rw store.1 store.2,
      λ content.
          let law = c.part_of-cut.ensures.cuts piece content (length-take-le c.args.n w c.requires.within) in
          let front = cuts_front cut.rest c.args.share.now (slice_range piece cut.from cut.to) piece content law in
          (front.0, front.1 ∙ ap (λ (b : List ℕ). b ++ front.0) (sym same)),
    )

pub returns-in-None-clause-hands : goal.returns-in-None-clause-hands
returns-in-None-clause-hands g c =
    let cut = c.part_of-cut.result in
    let w = c.args.window.now.bytes in
    let piece = take c.args.n w in
    let same = ap (λ (b : List ℕ). slice_range b cut.from cut.to) c.bytes.ensures.value ∙ sym (range-take c.args.n cut.from cut.to w c.part_of-cut.ensures.ordered c.part_of-cut.ensures.within) in (
      _,
      c.in-Ok.ensures.ok.0,
      λ content.
          let law = c.part_of-cut.ensures.cuts piece content (length-take-le c.args.n w c.requires.within) in
          let whole = subst (λ (r : Option Share). Cuts r c.args.share.now (slice_range piece cut.from cut.to) piece content) c.in-None.is law in
          whole ∙ ap (λ (b : List ℕ). let p : Poured = record { bytes = b; end = Full } in p) (sym same),
    )

pub returns-in-Some-clause-hands : goal.returns-in-Some-clause-hands
returns-in-Some-clause-hands g c =
    let cut = c.part_of-cut.result in
    let w = c.args.window.now.bytes in
    let piece = take c.args.n w in
    let same = ap (λ (b : List ℕ). slice_range b cut.from cut.to) c.bytes.ensures.value ∙ sym (range-take c.args.n cut.from cut.to w c.part_of-cut.ensures.ordered c.part_of-cut.ensures.within) in (
      _,
      c.in-Ok.ensures.ok.0,
      λ content.
          let law = c.part_of-cut.ensures.cuts piece content (length-take-le c.args.n w c.requires.within) in
          let more = subst (λ (r : Option Share). Cuts r c.args.share.now (slice_range piece cut.from cut.to) piece content) c.in-Some.is law in
          more ∙ ap (λ (b : List ℕ). onto b (poured c.in-Some.rest content)) (sym same),
    )
