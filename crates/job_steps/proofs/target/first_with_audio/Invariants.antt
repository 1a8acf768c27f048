use Rattle.std.proofs.Common.{◌≡◌, map, drop}
use Rattle.std.specs.Prelude.{find}
use Rattle.info_item.specs.Fields.{has_audio_of}
use Rattle.job_steps.proofs.target.first_with_audio.Given as goal

abbrev pub invariant-loop-part : goal.invariant-loop-part
invariant-loop-part l = find (λ f. has_audio_of f.tree) (map (λ f. f.now) (drop l.part-index l.parts)) ≡ find (λ f. has_audio_of f.tree) (map (λ f. f.now) l.parts)
