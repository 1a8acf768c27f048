use Rattle.info_item.specs.View.{summed}
use Rattle.info_item.proofs.merged.summed.Goals as goal

pub returns : goal.returns
unfolding summed
returns c =
    simp (
      c.in_ok-put_num-2.ensures,
      c.sum_of-2.ensures,
      c.in_ok-put_num.ensures,
      c.sum_of.ensures,
      c.in_ok-put_audio.ensures,
      c.first_with_audio.ensures,
      c.in_ok-put_video.ensures,
      c.first_with_video.ensures,
      c.in_ok-put_joined-3.ensures,
      c.in_ok-put_joined-2.ensures,
      c.in_ok-put_joined.ensures,
      c.new-pairs.ensures,
    )
