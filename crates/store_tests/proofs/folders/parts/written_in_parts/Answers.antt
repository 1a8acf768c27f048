use Rattle.std.proofs.Common.{◌≡◌, ◌∙◌, ◌<◌, ◌++◌, List, true, length, map, take, drop, get_or, refl, sym, ap, subst, arith}
use Rattle.std.proofs.Math.Seq.{map-set_same, take-append_seam}
use Rattle.std.proofs.lemmas.List.{length-map}
use Rattle.folder_base.specs.Disk.{Name}
use Rattle.folder_base.specs.Memory.{world_of}
use Rattle.folder_base.specs.Story.{World, is_own}
use Rattle.folder_base.specs.declared.memory.FolderMem.{FolderMem}
use Rattle.folder_base.proofs.Holding.{held, owns, all_there}
use Rattle.store_tests.proofs.folders.parts.written_in_parts.Goals as goal

pub write_name-requires : goal.write_name-requires
write_name-requires c =
    let names : List Name = c.args.stems.now.items in
    let begun : List FolderMem = c.in_ok-parts.parts.items in
    let fanned = c.in_ok-parts.ensures.told refl in
    let same : c.deref_mut-part-items.result.now ≡ begun = c.deref_mut-part-items.ensures.value in
    let many : length (map world_of begun) ≡ length names = c.in_ok-parts.ensures.begun.one_each in
    let within : c.loop-at.at < length names = omega (arith, ap (λ (l : List FolderMem). length l) same, length-map begun world_of) in
    let own : is_own (world_of c.part-item.result) c.index.result.now ≡ true =
    owns (world_of c.in_ok-folder.folder) names begun c.loop-at.part-items fanned.handed (c.loop-at.invariant ∙ ap (map held) same)
    c.loop-at.at c.part-item.result c.index.result.now within c.part-item.is c.index.ensures in
    subst (λ (part : FolderMem). is_own (world_of part) c.as_str.result.now ≡ true) c.part-item.is
    (subst (λ (name : Name). is_own (world_of c.part-item.result) name ≡ true) (sym c.as_str.ensures) own)

pub loop-at-preserved : goal.loop-at-preserved
loop-at-preserved c =
    let kept : held c.write_name.new.part ≡ held (get_or c.loop-at.part-items c.loop-at.at c.part-item.result) = λ i. (c.write_name.ensures.part i, c.write_name.ensures.out i) in
    map-set_same held c.loop-at.part-items c.loop-at.at c.write_name.new.part c.part-item.result kept ∙ c.loop-at.invariant

pub gather-requires : goal.gather-requires
gather-requires c tells =
    let begun : List FolderMem = c.in_ok-parts.parts.items in
    let fanned = c.in_ok-parts.ensures.told refl in
    let parts : List FolderMem = c.loop-at.part-items in
    let same : c.deref_mut-part-items.result.now ≡ begun = c.deref_mut-part-items.ensures.value in
    let many : c.in_ok-parts.parts.len ≡ length parts = omega (arith, ap (λ (l : List FolderMem). length l) same, c.in_ok-parts.parts.ok.0) in
    let all : take c.in_ok-parts.parts.len (parts ++ drop (length parts) begun) ≡ parts =
    ap (λ n. take n (parts ++ drop (length parts) begun)) many ∙ take-append_seam parts (drop (length parts) begun) in
    ap (map (λ (part : FolderMem). (world_of part).part)) all
    ∙ all_there (world_of c.in_ok-folder.folder) c.args.stems.now.items begun parts fanned.handed (c.loop-at.invariant ∙ ap (map held) same)
    (world_of c.fan.new.self).out fanned.out

pub returns : goal.returns
returns c =
    let fanned = c.in_ok-parts.ensures.told refl in
    let gathered = c.gather.ensures.told refl in
    record {
      no_part = gathered.part ∙ fanned.part ∙ ap (λ (w : World). w.part) c.in_ok-folder.ensures.told;
      none_out = gathered.out;
    }
