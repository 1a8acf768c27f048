use Rattle.std.proofs.Common.{◌≡◌, List, ℕ, sym, ◌∙◌, ap, subst, Global}
use Rattle.std.specs.Prelude.{Option}
use Rattle.std.proofs.lemmas.List.{map-id}
use Rattle.std.proofs.lemmas.Iterator.Adapters.{YieldsList-from_vec}
use Rattle.std.proofs.lemmas.Iterator.Consumers.{YieldsList-end}
use Rattle.link_http.specs.declared.page.Page.{Page}
use Rattle.link_http.specs.declared.resource.Resource.{Resource}
use Rattle.link_http.specs.Memory.{world_at, world_of, IsPlaced}
use Rattle.link_http.specs.Request.{address}
use Rattle.link_http.proofs.WorldLemmas.{world_more, world_still}
use Rattle.link_http.proofs.dialer_mem.placed.Goals as goal

pub returns : goal.returns
returns c =
    let gives = c.into_iter-page-iterator.ensures.into_iter_gives in
    let whole = YieldsList-end (YieldsList-from_vec {Z = Global} {s = c.into_iter-page-iterator.result} c.args.pages.items gives.0 (gives.1 ∙ c.args.pages.ok.0))
    c.loop-page.yielded _ c.loop-page.yielded_by _ c.next.new.self c.in-None.is c.next.ensures.steps in
    let all : c.loop-page.yielded ≡ c.args.pages.items = sym (map-id c.loop-page.yielded) ∙ whole.0 in
    (λ i. λ (url : List ℕ). c.loop-page.invariant url i) ∙ ap (λ (pages : List Page). world_of pages) all

pub loop-page-preserved : goal.loop-page-preserved
loop-page-preserved c =
    world_still c.loop-page.resources.items c.loop-page.yielded c.in-Some.page c.loop-page.invariant
    (subst (λ (o : Option Resource). IsPlaced (address c.in-Some.page.url) c.in-Some.page.bytes.items o) c.in_default.is c.in_ok-resource.ensures)

pub loop-page-preserved-in-Continue-branch-3 : goal.loop-page-preserved-in-Continue-branch-3
loop-page-preserved-in-Continue-branch-3 c url =
    ap (λ (l : List Resource). world_at l url) c.in_ok-push.ensures.items
    ∙ world_more c.loop-page.resources.items c.loop-page.yielded c.in-Some.page c.in-Some-2.resource c.loop-page.invariant
    (subst (λ (o : Option Resource). IsPlaced (address c.in-Some.page.url) c.in-Some.page.bytes.items o) c.in-Some-2.is c.in_ok-resource.ensures) url
