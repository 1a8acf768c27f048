use Rattle.folder_base.proofs.Contents.{is_all, fanned}
use Rattle.folder_base.proofs.content.Content.fan.Goals as goal

pub returns : goal.returns
returns c =
    let old = c.args.self.now in
    let mid = c.merge.new.self in
    let all = is_all old mid c.merge.ensures.same c.in_ok-merge.ensures.merged c.requires.no_part c.requires.none_out in
    fanned c.args.stems.now.items old mid _ c.hand_out.result c.merge.ensures.same c.merge.ensures.plan c.requires.no_part all c.in_ok-merge.ensures.merged.empty c.in_ok-places.ensures.items c.hand_out.ensures
