use Rattle.std.proofs.Common.{◌+◌, sym, ◌∙◌, subst, arith}
use Rattle.folder_base.specs.Story.{Story}
use Rattle.keep_store.specs.Opening.{IsStanding, IsGreatest}
use Rattle.keep_store.specs.TookLaws.{stays_both}
use Rattle.keep_store.proofs.Finding.{greatest_one, item_is}
use Rattle.keep_store.proofs.opening.greatest_promise.Goals as goal

pub loop-name-preserved : goal.loop-name-preserved
loop-name-preserved g c = record {
  looked = record {
    stays = stays_both c.loop-name.invariant.looked.stays c.standing_promise.ensures.looked.stays;
    same = λ t. c.standing_promise.ensures.looked.same t ∙ c.loop-name.invariant.looked.same (c.standing_promise.ensures.looked.stays.tells t);
  };
  found = λ t.
      let before = c.standing_promise.ensures.looked.stays.tells t in
      subst (IsGreatest c.args.prefix.now _ c.args.names.now (c.loop-name.name-index + 1)) (sym c.larger-greatest.ensures)
      (greatest_one c.args.prefix.now _ c.args.names.now c.loop-name.name-index c.as_str.result.now c.loop-name.greatest c.in_ok-found.found (omega arith)
      (item_is c.args.names.now c.loop-name.name-index c.name-item.result c.as_str.result.now (omega arith) c.name-item.is c.as_str.ensures)
      (c.loop-name.invariant.found before)
      (subst (λ (s : Story). IsStanding c.args.prefix.now s.now.live c.as_str.result.now c.in_ok-found.found) (c.loop-name.invariant.looked.same before) (c.in_ok-found.ensures.told t)));
}
