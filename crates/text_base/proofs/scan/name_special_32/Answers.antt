use Rattle.std.proofs.Common.{refl, arith}
use Rattle.std.proofs.lemmas.Simd.{zip2_splat, zip2_of_maps}
use Rattle.text_base.specs.Scan.{is_name_special}
use Rattle.text_base.proofs.ScanLemmas.{first_in_block}
use Rattle.text_base.proofs.scan.name_special_32.Goals as goal

pub returns : goal.returns
returns c =
    let v = c.args.block.now in
    let long = c.told-block in
    first_in_block is_name_special v _ 32 c.first_set.result long (omega arith) c.fits-block c.first_set.ensures _
    (zip2_of_maps _ _ _ v (zip2_of_maps _ _ _ v (zip2_of_maps _ _ _ v (zip2_of_maps _ _ _ v (zip2_of_maps _ _ _ v (zip2_of_maps _ _ _ v (zip2_of_maps _ _ _ v (zip2_of_maps _ _ _ v (zip2_of_maps _ _ _ v (zip2_of_maps _ _ _ v (zip2_of_maps _ _ _ v (zip2_splat _ v 32 32 long) (zip2_splat _ v 32 127 long)) (zip2_splat _ v 32 37 long)) (zip2_splat _ v 32 34 long)) (zip2_splat _ v 32 42 long)) (zip2_splat _ v 32 58 long)) (zip2_splat _ v 32 60 long)) (zip2_splat _ v 32 62 long)) (zip2_splat _ v 32 63 long)) (zip2_splat _ v 32 124 long)) (zip2_splat _ v 32 47 long)) (zip2_splat _ v 32 92 long)) refl
