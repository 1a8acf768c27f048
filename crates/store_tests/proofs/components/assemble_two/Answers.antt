use Rattle.std.proofs.Common.{◌≡◌, ℕ, ◌<◌, zero, suc, true, sym, ◌∙◌, ap, subst, arith}
use Rattle.std.specs.Prelude.{Option, Some, None, IsSome, is_some, codes}
use Rattle.std.specs.Fmt.{digits}
use Rattle.folder_base.specs.Disk.{Name, File, Names}
use Rattle.folder_base.specs.Memory.{world_of}
use Rattle.folder_base.specs.Story.{Story}
use Rattle.plan_record.specs.Names.{stem_of}
use Rattle.component_store.specs.Target.{component_of}
use Rattle.store_tests.proofs.components.assemble_two.Goals as goal

stands : (file : Option File) → is_some file ≡ true → IsSome file
stands None e = absurd (cc)
stands (Some file) e = cc

both_stand : (live : Names) (component : Name) → component ≡ codes "v" → is_some (live (codes "v.part-Frag0")) ≡ true → is_some (live (codes "v.part-Frag1")) ≡ true → (k : ℕ) → k < 2 → IsSome (live (stem_of component k))
unfolding digits
both_stand live component is first second zero below = subst (λ (n : Name). IsSome (live (stem_of n 0))) (sym is) (stands (live (codes "v.part-Frag0")) first)
both_stand live component is first second (suc zero) below = subst (λ (n : Name). IsSome (live (stem_of n 1))) (sym is) (stands (live (codes "v.part-Frag1")) second)
both_stand live component is first second (suc (suc k)) below = absurd (omega arith)

pub assemble-requires-clause-complete : goal.assemble-requires-clause-complete
assemble-requires-clause-complete c t k below =
    let same = c.is_there-then-branch.ensures.looked.same t in
    both_stand (world_of c.is_there-then-branch.new.folder).story.now.live (component_of c.args.target.now) c.requires.named
    (ap (λ (s : Story). is_some (s.now.live (codes "v.part-Frag0"))) (same ∙ c.is_there.ensures.looked.same t) ∙ sym (c.in_ok-is_there.ensures.told t) ∙ c.if-branch.true)
    (ap (λ (s : Story). is_some (s.now.live (codes "v.part-Frag1"))) same ∙ sym (c.in_ok-is_there-2.ensures.told t) ∙ c.if-branch-2.true)
    k (subst (λ (m : ℕ). k < m) c.requires.two below)
