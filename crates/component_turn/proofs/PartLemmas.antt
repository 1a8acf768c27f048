-- Parts with lanes over them, and how they go into the list of those that are back.
use Rattle.std.proofs.Common.{◌≡◌, ◌⊎◌, inl, inr, ℕ, ◌+◌, List, [], ◌++◌, map, length, sym, ◌∙◌, ap, subst, arith}
use Rattle.std.proofs.lemmas.List.{append-nil, map-append, length-map}
use Rattle.std.proofs.lemmas.Option.{slice_get-map}
use Rattle.std.specs.Prelude.{option_map}
use Rattle.folder_base.specs.Disk.{Name}
use Rattle.folder_base.specs.Story.{World}
use Rattle.folder_base.specs.declared.folder.Folder.{Ghosts}
use Rattle.folder_base.specs.declared.store_fault.StoreFault.{StoreFault}
use Rattle.folder_base.specs.declared.store_fault.StoreFault.TheVariants.{OutOfMemory}
use Rattle.keep_store.specs.Lane.{Seen}
use Rattle.keep_store.specs.Seen.{lane_seen}
use Rattle.keep_store.specs.declared.lane.Lane.{Lane}
use Rattle.link_http.specs.Wire.{Wire}
use Rattle.link_http.specs.declared.piece.Piece.{Piece}
use Rattle.piece_turn.specs.declared.piece_end.PieceEnd.{PieceEnd}
use Rattle.frag_crew.specs.Crew.{AreReady, Fetched}
use Rattle.component_turn.specs.Crew.{Fetches, FetchesNone}
use Rattle.component_turn.specs.Lanes.{AllTried, AllCame, AllRetained, WasRefused}
use Rattle.component_turn.proofs.BackLemmas.{fetches, retained}
use Rattle.component_turn.proofs.LaneLemmas.{as_opened}
use Rattle.component_turn.proofs.TriedLemmas.{tried_many, tried_came, tried_retained, seen_worlds, opened_at}

module _ {F L : Type 0} (w : F → World) (s : L → Seen) (stems : List Name) (parts left : List F) (lanes : List L) (tried : AllTried 0 stems (map w parts) (map s lanes) (map w left)) where
  -- how many lanes and parts there are
  pub count : length lanes + length left ≡ length parts
  count = omega (arith, tried_many 0 stems (map w parts) (map s lanes) (map w left) tried, length-map parts w, length-map left w, length-map lanes s)

  -- where none is left
  pub all_tried : left ≡ [] → AllTried 0 stems (map w parts) (map s lanes) []
  all_tried none = subst (λ (l : List F). AllTried 0 stems (map w parts) (map s lanes) (map w l)) none tried

  -- what is back, behind an empty list
  pub behind : (back one two : List F) → back ≡ [] → map w one ≡ map w back ++ map (λ lane. (s lane).world) lanes → two ≡ one ++ left → map w two ≡ map (λ lane. (s lane).world) lanes ++ map w left
  behind back one two none made is = ap (map w) is ∙ map-append w one left ∙ ap (λ (l : List World). l ++ map w left) (made ∙ ap (λ (l : List F). map w l ++ map (λ lane. (s lane).world) lanes) none)

  -- how many are back, and how many are still to go there
  pub behind_many : (back one : List F) → back ≡ [] → map w one ≡ map w back ++ map (λ lane. (s lane).world) lanes → length one + length left ≡ length parts
  behind_many back one none made = omega (
    arith,
    count,
    length-map one w,
    length-map lanes (λ lane. (s lane).world),
    ap length (made ∙ ap (λ (l : List F). map w l ++ map (λ lane. (s lane).world) lanes) none),
  )

  pub alone : (back one : List F) → back ≡ [] → map w one ≡ map w back ++ map (λ lane. (s lane).world) lanes → left ≡ [] → map w one ≡ map (λ lane. (s lane).world) lanes ++ map w left
  alone back one none made none_left = made ∙ ap (λ (l : List F). map w l ++ map (λ lane. (s lane).world) lanes) none
      ∙ sym (append-nil (map (λ lane. (s lane).world) lanes)) ∙ ap (λ (l : List F). map (λ lane. (s lane).world) lanes ++ map w l) (sym none_left)

  module _ (news : List World) (back : news ≡ map (λ lane. (s lane).world) lanes ++ map w left) where
    seen_back : map (λ lane. lane.world) (map s lanes) ++ map w left ≡ news
    seen_back = ap (λ (l : List World). l ++ map w left) (sym (seen_worlds s lanes)) ∙ sym back

    -- Lanes that no worker began, and parts that got none, are as they were.
    pub idle_retained : AllRetained stems (map w parts) news
    idle_retained = subst (AllRetained stems (map w parts)) seen_back (tried_retained 0 stems (map w parts) (map s lanes) (map w left) tried)

    pub idle_none : (fault : StoreFault) → (fault ≡ OutOfMemory) ⊎ WasRefused fault stems (map w parts) (map (λ lane. (s lane).world) lanes ++ map w left) → FetchesNone stems (map w parts) news fault
    idle_none fault why = record {
      why = by why;
      came = λ planned is. subst (λ (l : List World). AllCame planned (map w parts) l) seen_back (tried_came 0 planned stems (map w parts) (map s lanes) (map w left) is tried);
    }
      where
        by : (fault ≡ OutOfMemory) ⊎ WasRefused fault stems (map w parts) (map (λ lane. (s lane).world) lanes ++ map w left) → (fault ≡ OutOfMemory) ⊎ WasRefused fault stems (map w parts) news
        by (inl memory) = inl memory
        by (inr was) = inr (subst (WasRefused fault stems (map w parts)) (sym back) was)

-- The lanes are ready for a crew.
pub are_ready : {F : Type 0} {folder : Ghosts F} (stems : List Name) (olds : List World) (lanes : List (Lane F folder)) → AllTried 0 stems olds (map (lane_seen {folder = folder}) lanes) [] → AreReady lanes
are_ready {F} {folder} stems olds lanes tried k lane at =
    let o = opened_at 0 stems olds (map (lane_seen {folder = folder}) lanes) tried k (lane_seen {folder = folder} lane) (slice_get-map (lane_seen {folder = folder}) lanes k ∙ ap (option_map (lane_seen {folder = folder})) at) in
    (omega (arith, o.4.piece), as_opened o.4)

-- The folders of lanes that a crew had, behind an empty list.
pub crew_back : {F L : Type 0} (w : F → World) (s : L → Seen) (lanes : List L) (back one : List F) → back ≡ [] → map w one ≡ map w back ++ map (λ lane. (s lane).world) lanes → map (λ lane. lane.world) (map s lanes) ≡ map w one
crew_back w s lanes back one none made = sym (seen_worlds s lanes) ∙ sym (made ∙ ap (λ l. map w l ++ map (λ lane. (s lane).world) lanes) none)

-- The lanes had a crew, and their folders went behind an empty list.
module _ {F D : Type 0} {folder : Ghosts F} (wire : D → Wire) (w : F → World) (stems : List Name) (parts left : List F) (pieces : List Piece) (retries : ℕ) (lanes back : List (Lane F folder)) (ends : List PieceEnd) (ds es : List D)
    (room one : List F) (tried : AllTried 0 stems (map w parts) (map (lane_seen {folder = folder}) lanes) (map w left)) (none_left : left ≡ []) (no_room : room ≡ [])
    (made : map w one ≡ map w room ++ map (λ lane. (lane_seen {folder = folder} lane).world) back) (fetched : Fetched wire pieces retries lanes back ends ds es) where
  abbrev seen : Lane F folder → Seen
  seen = lane_seen {folder = folder}

  tried_all : AllTried 0 stems (map w parts) (map seen lanes) []
  tried_all = all_tried w seen stems parts left lanes tried none_left

  ready : AreReady lanes
  ready = are_ready stems (map w parts) lanes tried_all

  pub parts_retained : AllRetained stems (map w parts) (map w one)
  parts_retained = subst (AllRetained stems (map w parts)) (crew_back w seen back room one no_room made)
      (retained wire pieces retries lanes back ends ds es fetched ready stems (map w parts) tried_all)

  pub parts_fetched : length parts ≡ length stems → length pieces ≡ length parts → Fetches wire stems pieces retries (map w parts) (map w one) ends ds es
  parts_fetched many same = subst (λ (news : List World). Fetches wire stems pieces retries (map w parts) news ends ds es) (crew_back w seen back room one no_room made)
      (fetches wire pieces retries lanes back ends ds es fetched ready stems (map w parts) tried_all
      (omega (arith, same, count w seen stems parts left lanes tried, ap length none_left))
      (omega (arith, many, count w seen stems parts left lanes tried, ap length none_left)))
