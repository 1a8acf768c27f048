use Rattle.std.proofs.Common.{◌≡◌, ◌∙◌, Bool, sym, ap, None}
use Rattle.std.specs.Prelude.{if◌then◌else◌}
use Rattle.folder_base.specs.Disk.{Name, Names}
use Rattle.folder_base.specs.Log.{told, newborn, log_story}
use Rattle.folder_base.specs.Parts.{is_part, inside}
use Rattle.folder_base.proofs.part_lines.part_line.Goals as goal

pub invariant_of-result : goal.invariant_of-result
invariant_of-result c =
    let log_is : c.in_ok-try_clone.field-0.value ≡ c.args.log.now.value = c.in_ok-try_clone.ensures in
    let stem_is : c.in_ok-new.field-0 ≡ c.args.stem.now = c.in_ok-new.ensures ∙ c.as_str.ensures in
    record {
      agrees = c.requires ∙ (λ i. (told (newborn (inside (sym stem_is i) (log_story (sym log_is i)).now)) (sym c.new-2.ensures.items i)).now.live);
      own = λ name e. ap (λ (m : Names). m name) c.requires
          ∙ ap (λ (b : Bool). if b then (log_story c.args.log.now.value).now.live name else None) (ap (λ (s : Name). is_part s name) (sym stem_is) ∙ e);
    }
