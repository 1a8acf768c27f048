use Rattle.std.proofs.Common.{◌≡◌, ◌++◌, map, drop}
use Rattle.std.specs.Prelude.{All, option_map}
use Rattle.info_tree.specs.Plain.{plain}
use Rattle.job_pieces.specs.Pieces.{base_url, fragment_urls, piece_of}
use Rattle.job_pieces.specs.Kept.{IsKept}
use Rattle.job_pieces.specs.Views.{plain_piece}
use Rattle.job_pieces.proofs.pieces.fragment_pieces.Given as goal

abbrev pub invariant-loop-place : goal.invariant-loop-place
invariant-loop-place l = record {
  base : l.base ≡ base_url (plain l.format);
  pieces : option_map (λ urls. map plain_piece l.pieces.items ++ map (piece_of (plain l.format)) urls) (fragment_urls (base_url (plain l.format)) (drop l.place l.fragments))
      ≡ option_map (map (piece_of (plain l.format))) (fragment_urls (base_url (plain l.format)) l.fragments);
  kept : All (λ piece. IsKept piece.url) l.pieces.items;
}
