use Rattle.std.proofs.Common.{◌≡◌, ◌∙◌, ◌++◌, ◌∷◌, [], ℕ, sym, ap, subst, arith, add-one}
use Rattle.std.specs.Prelude.{codes}
use Rattle.std.specs.Fmt.{decimal}
use Rattle.folder_base.specs.Disk.{Name}
use Rattle.folder_base.specs.Parts.{AreApart}
use Rattle.folder_base.proofs.Spelled.{numbered_stems, numbered_apart}
use Rattle.folder_bench.proofs.names.stems.Goals as goal

pub loop-number-preserved : goal.loop-number-preserved
loop-number-preserved c =
    let front : Name = codes "v.part-Frag" in
    let number : ℕ = c.loop-number.number-counter in
    let name : Name = c.from.result in
    let name_is : name ≡ front ++ decimal number = c.from.ensures ∙ c.in_ok-format.ensures.ok in
    let pushed : c.push.new.self.items ≡ c.loop-number.stems.items ++ name ∷ [] = c.in_ok-push.ensures.items in
    pushed ∙ (λ i. c.loop-number.invariant i ++ name_is i ∷ []) ∙ ap (numbered_stems front) (sym (add-one number))

pub returns : goal.returns
returns c = subst AreApart (sym c.loop-number.invariant) (numbered_apart (codes "v.part-Frag") c.loop-number.number-counter (omega arith))
