use Rattle.std.proofs.Common.{◌≡◌, ◌+◌, ◌<◌, ◌++◌, ◌∷◌, ◌∙◌, [], ℕ, List, sym, ap, subst, take, length, length-append, get_or, rules, arith}
use Rattle.std.specs.Prelude.{Some, slice_get}
use Rattle.std.proofs.lemmas.Grind.{common_steps}
use Rattle.std.proofs.lemmas.List.{take_more}
use Rattle.std.proofs.lemmas.Option.{slice_get-get_or}
use Rattle.std.specs.Vec.Iter.{into_iter_items}
use Rattle.folder_base.specs.Disk.{Name}
use Rattle.folder_base.specs.Files.{names_of}
use Rattle.folder_base.specs.Line.{AreLines}
use Rattle.folder_base.specs.Log.{log_story}
use Rattle.folder_base.specs.Merge.{Files}
use Rattle.folder_base.specs.Split.{part_names}
use Rattle.folder_base.specs.declared.line.Line.{Line}
use Rattle.folder_base.proofs.Splitting.{lines_more, at_seam}
use Rattle.folder_base.proofs.part_lines.part_lines.Goals as goal

pub loop-files-preserved-in_ok-push : goal.loop-files-preserved-in_ok-push
loop-files-preserved-in_ok-push c =
    let log = c.args.log.now.value in
    let stems = c.args.stems.now.items in
    let at = length c.loop-files.yielded in
    let files : Files = c.in-Some.files in
    let later : List Files = into_iter_items c.next.new.self in
    let line : Line = c.in_ok-part_line.field-0 in
    let stem : Name = c.index.result.now in
    let next_is : into_iter_items c.loop-files.files-iterator ≡ files ∷ later = first_of (search rules, grind (arith, common_steps)) in
    let begun : into_iter_items c.into_iter-files-iterator.result ≡ c.args.split.items = first_of (search rules, grind (arith, common_steps)) in
    let all_is : c.loop-files.yielded ++ files ∷ later ≡ c.args.split.items = ap (λ (l : List Files). c.loop-files.yielded ++ l) (sym next_is) ∙ c.loop-files.invariant.rest ∙ begun in
    let counted : length (c.loop-files.yielded ++ files ∷ []) ≡ at + 1 = length-append c.loop-files.yielded (files ∷ []) in
    let within : at < length stems = omega (arith, c.if-at-len.true, c.loop-files.invariant.many) in
    let at_is : c.len-at.result ≡ at = omega (arith, c.loop-files.invariant.many) in
    let stem_is : stem ≡ get_or stems at stem = c.index.ensures ∙ ap (λ (n : ℕ). get_or stems n stem) at_is in
    let stands : slice_get stems at ≡ Some stem = slice_get-get_or stems at stem within ∙ ap (λ (s : Name). Some s) (sym stem_is) in
    let more : take (at + 1) stems ≡ take at stems ++ stem ∷ [] = take_more stems at stem within ∙ (λ i. take at stems ++ sym stem_is i ∷ []) in
    let files_is : names_of line.files ≡ part_names stem (log_story log).now.live =
    ap names_of c.in_ok-part_line.ensures.files ∙ c.requires.each at stem files stands (ap (λ (l : List Files). slice_get l at) (sym all_is) ∙ at_seam c.loop-files.yielded files later) in
    record {
      lines = subst (λ (l : List Name). AreLines log l c.push.new.self.items) (sym (ap (λ (n : ℕ). take n stems) counted ∙ more))
          (subst (λ (l : List Line). AreLines log (take at stems ++ stem ∷ []) l) (sym c.in_ok-push.ensures.items)
          (lines_more log (take at stems) c.loop-files.lines.items stem line c.loop-files.invariant.lines c.in_ok-part_line.ensures.tale c.in_ok-part_line.ensures.plan c.in_ok-part_line.ensures.part files_is));
      many = omega (arith, counted, c.in_ok-push.ensures.len, c.loop-files.invariant.many);
      rest = first_of (search rules, grind (arith, common_steps));
    }
