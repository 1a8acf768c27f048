use Rattle.std.proofs.Common.{◌≡◌, is_some, drop}
use Rattle.info_tree.specs.Plain.{plain}
use Rattle.job_pieces.specs.Pieces.{base_url, fragment_urls}
use Rattle.job_pieces.proofs.pieces.have_urls.Given as goal

abbrev pub invariant-loop-place : goal.invariant-loop-place
invariant-loop-place l = record {
  base : l.base ≡ base_url (plain l.format);
  urls : is_some (fragment_urls (base_url (plain l.format)) (drop l.place l.fragments)) ≡ is_some (fragment_urls (base_url (plain l.format)) l.fragments);
}
