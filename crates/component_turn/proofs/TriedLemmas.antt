-- Parts, the lanes that are opened over them one after the other, and the parts that are left.
use Rattle.std.proofs.Common.{◌≡◌, inl, inr, ⊎_elim, ℕ, zero, suc, ◌+◌, List, [], ◌∷◌, ◌++◌, map, length, take, refl, sym, ◌∙◌, ap, subst, arith, append_assoc, length-append, length-take-le}
use Rattle.std.proofs.lemmas.List.{map-append, length-map, take_more}
use Rattle.std.proofs.lemmas.Option.{same_Some, none-some}
use Rattle.std.specs.List.{slice_get}
use Rattle.std.specs.Prelude.{IsTrue, Some, ⊤, slice_index_or, ◌<◌}
use Rattle.piece_turn.specs.Lane.{StaysSound}
use Rattle.folder_base.specs.Disk.{Name}
use Rattle.folder_base.specs.Story.{World}
use Rattle.folder_base.specs.declared.store_fault.StoreFault.{StoreFault}
use Rattle.keep_store.specs.Lane.{Seen, IsLaneFolder}
use Rattle.keep_store.specs.Opens.{Opens, NotOpened}
use Rattle.keep_store.specs.Publish.{Stays}
use Rattle.component_store.specs.Component.{Piece}
use Rattle.component_turn.specs.Lanes.{AllFolders, IsLeft, AllTried, WasRefused, Retained, AllRetained, Came, AllCame}
use Rattle.component_turn.proofs.LaneLemmas.{IsBack, as_opened, idle_back, idle_sound, came_back, retained_back, came_refused, came_untried, retained_refused, retained_untried}

-- One part more, over which a lane was opened,
pub tried_more : (k : ℕ) (stems : List Name) (olds : List World) (lanes : List Seen) (stem : Name) (old : World) (lane : Seen) → AllTried k stems olds lanes [] → Opens old (k + length olds) stem lane
    → AllTried k (stems ++ stem ∷ []) (olds ++ old ∷ []) (lanes ++ lane ∷ []) []
tried_more k [] [] [] stem old lane tried opens = (subst (λ (n : ℕ). Opens old n stem lane) (omega arith) opens, tt)
tried_more k [] [] (l ∷ lanes) stem old lane tried opens = absurd tried
tried_more k [] (o ∷ olds) lanes stem old lane tried opens = absurd tried
tried_more k (s ∷ stems) [] lanes stem old lane tried opens = absurd tried
tried_more k (s ∷ stems) (o ∷ olds) [] stem old lane tried opens = absurd tried
tried_more k (s ∷ stems) (o ∷ olds) (l ∷ lanes) stem old lane tried opens =
    (tried.0, tried_more (k + 1) stems olds lanes stem old lane tried.1 (subst (λ (n : ℕ). Opens old n stem lane) (omega arith) opens))

-- and one that is left.
pub left_more : (k : ℕ) (stems : List Name) (olds : List World) (lanes : List Seen) (left : List World) (stem : Name) (old new : World) → AllTried k stems olds lanes left → IsLeft stem old new
    → AllTried k (stems ++ stem ∷ []) (olds ++ old ∷ []) lanes (left ++ new ∷ [])
left_more k [] [] [] [] stem old new tried is = (is, tt)
left_more k [] [] [] (n ∷ left) stem old new tried is = absurd tried
left_more k [] [] (l ∷ lanes) left stem old new tried is = absurd tried
left_more k [] (o ∷ olds) lanes left stem old new tried is = absurd tried
left_more k (s ∷ stems) [] lanes left stem old new tried is = absurd tried
left_more k (s ∷ stems) (o ∷ olds) [] [] stem old new tried is = absurd tried
left_more k (s ∷ stems) (o ∷ olds) [] (n ∷ left) stem old new tried is = (tried.0, left_more (k + 1) stems olds [] left stem old new tried.1 is)
left_more k (s ∷ stems) (o ∷ olds) (l ∷ lanes) left stem old new tried is = (tried.0, left_more (k + 1) stems olds lanes left stem old new tried.1 is)

-- how many there are of each
pub tried_many : (k : ℕ) (stems : List Name) (olds : List World) (lanes : List Seen) (left : List World) → AllTried k stems olds lanes left → length lanes + length left ≡ length olds
tried_many k [] [] [] [] tried = refl
tried_many k [] [] [] (n ∷ left) tried = absurd tried
tried_many k [] [] (l ∷ lanes) left tried = absurd tried
tried_many k [] (o ∷ olds) lanes left tried = absurd tried
tried_many k (s ∷ stems) [] lanes left tried = absurd tried
tried_many k (s ∷ stems) (o ∷ olds) [] [] tried = absurd tried
tried_many k (s ∷ stems) (o ∷ olds) [] (n ∷ left) tried = omega (arith, tried_many (k + 1) stems olds [] left tried.1)
tried_many k (s ∷ stems) (o ∷ olds) (l ∷ lanes) left tried = omega (arith, tried_many (k + 1) stems olds lanes left tried.1)

-- the next part and its stem
pub folder_at : (d : Name) (stems : List Name) (front back : List World) (world : World) → AllFolders stems (front ++ world ∷ back) → IsTrue world.tells → IsLaneFolder (slice_index_or stems (length front) d) world
folder_at d [] [] back world folders = absurd folders
folder_at d [] (w ∷ front) back world folders = absurd folders
folder_at d (stem ∷ stems) [] back world folders = folders.0
folder_at d (stem ∷ stems) (w ∷ front) back world folders = folder_at d stems front back world folders.1

-- one item more of a list that is gone through
pub rest_next : {X : Type 0} (yielded : List X) (item : X) (rest all left : List X) → yielded ++ rest ≡ all → rest ≡ item ∷ left → (yielded ++ item ∷ []) ++ left ≡ all
rest_next yielded item rest all left was is = append_assoc yielded (item ∷ []) left ∙ ap (λ l. yielded ++ l) (sym is) ∙ was

pub map_next : {X Y Z : Type 0} (f : X → Z) (h : Y → Z) (xs new : List X) (ys : List Y) (x : X) (y : Y) → map f xs ≡ map h ys → new ≡ xs ++ x ∷ [] → f x ≡ h y → map f new ≡ map h (ys ++ y ∷ [])
map_next f h xs new ys x y was is same = ap (map f) is ∙ map-append f xs (x ∷ []) ∙ (λ i. was i ++ same i ∷ []) ∙ sym (map-append h ys (y ∷ []))

module _ {F L : Type 0} (w : F → World) (s : L → Seen) (d : Name) (stems : List Name) (yielded : List F) (part : F) where
  abbrev stem : Name
  stem = slice_index_or stems (length yielded) d

  pub folder_next : (rest left all : List F) → AllFolders stems (map w all) → yielded ++ rest ≡ all → rest ≡ part ∷ left → IsTrue (w part).tells → IsLaneFolder stem (w part)
  folder_next rest left all folders was is t =
      subst (λ (n : ℕ). IsLaneFolder (slice_index_or stems n d) (w part)) (length-map yielded w)
      (folder_at d stems (map w yielded) (map w left) (w part)
      (subst (AllFolders stems) (ap (map w) (sym was ∙ ap (λ l. yielded ++ l) is) ∙ map-append w yielded (part ∷ left)) folders) t)

  stems_next : length yielded < length stems → take (length yielded) stems ++ stem ∷ [] ≡ take (length (yielded ++ part ∷ [])) stems
  stems_next lt = sym (ap (λ n. take n stems) (length-append yielded (part ∷ [])) ∙ take_more stems (length yielded) d lt)

  pub tried_next : (lanes new : List L) (lane : L) (left kept : List F) → kept ≡ left → AllTried 0 (take (length yielded) stems) (map w yielded) (map s lanes) (map w left) → left ≡ [] → length yielded < length stems
      → Opens (w part) (length yielded) stem (s lane) → new ≡ lanes ++ lane ∷ [] → AllTried 0 (take (length (yielded ++ part ∷ [])) stems) (map w (yielded ++ part ∷ [])) (map s new) (map w kept)
  tried_next lanes new lane left kept same tried none lt opens is =
      subst (λ (l : List F). AllTried 0 (take (length (yielded ++ part ∷ [])) stems) (map w (yielded ++ part ∷ [])) (map s new) (map w l)) (sym (same ∙ none))
      (subst (λ (l : List L). AllTried 0 (take (length (yielded ++ part ∷ [])) stems) (map w (yielded ++ part ∷ [])) (map s l) []) (sym is)
      (λ3 (stems_next lt) (sym (map-append w yielded (part ∷ []))) (sym (map-append s lanes (lane ∷ [])))
      (tried_more 0 (take (length yielded) stems) (map w yielded) (map s lanes) stem (w part) (s lane)
      (subst (λ (l : List F). AllTried 0 (take (length yielded) stems) (map w yielded) (map s lanes) (map w l)) none tried)
      (subst (λ (n : ℕ). Opens (w part) n stem (s lane)) (omega (arith, length-map yielded w)) opens))))
    where
      λ3 : {a b : List Name} {c d : List World} {e f : List Seen} → a ≡ b → c ≡ d → e ≡ f → AllTried 0 a c e [] → AllTried 0 b d f []
      λ3 {a} {b} {c} {d} {e} {f} p q r h = subst (λ (l : List Name). AllTried 0 l d f []) p (subst (λ (l : List World). AllTried 0 a l f []) q (subst (λ (l : List Seen). AllTried 0 a c l []) r h))

  pub left_next : (lanes kept : List L) (left new : List F) (back : F) → kept ≡ lanes → AllTried 0 (take (length yielded) stems) (map w yielded) (map s lanes) (map w left) → length yielded < length stems
      → IsLeft stem (w part) (w back) → new ≡ left ++ back ∷ [] → AllTried 0 (take (length (yielded ++ part ∷ [])) stems) (map w (yielded ++ part ∷ [])) (map s kept) (map w new)
  left_next lanes kept left new back same tried lt is_left is =
      subst (λ (l : List L). AllTried 0 (take (length (yielded ++ part ∷ [])) stems) (map w (yielded ++ part ∷ [])) (map s l) (map w new)) (sym same) (
      subst (λ (l : List Name). AllTried 0 l (map w (yielded ++ part ∷ [])) (map s lanes) (map w new)) (stems_next lt)
      (subst (λ (l : List World). AllTried 0 (take (length yielded) stems ++ stem ∷ []) l (map s lanes) (map w new)) (sym (map-append w yielded (part ∷ [])))
      (subst (λ (l : List World). AllTried 0 (take (length yielded) stems ++ stem ∷ []) (map w yielded ++ w part ∷ []) (map s lanes) l) (sym (ap (map w) is ∙ map-append w left (back ∷ [])))
      (left_more 0 (take (length yielded) stems) (map w yielded) (map s lanes) (map w left) stem (w part) (w back) tried is_left))))

pub opens_as : {old : World} {lane : Seen} {n m : ℕ} {s r : Name} → n ≡ m → s ≡ r → Opens old n s lane → Opens old m r lane
opens_as {old} {lane} {n} {m} {s} {r} p q h = subst (λ (k : ℕ). Opens old k r lane) p (subst (λ (name : Name). Opens old n name lane) q h)

pub refused_as : {old new : World} {fault : StoreFault} {s r : Name} → s ≡ r → NotOpened s old new fault → NotOpened r old new fault
refused_as {old} {new} {fault} q h = subst (λ (name : Name). NotOpened name old new fault) q h

pub seen_worlds : {L : Type 0} (s : L → Seen) (lanes : List L) → map (λ lane. (s lane).world) lanes ≡ map (λ lane. lane.world) (map s lanes)
seen_worlds s [] = refl
seen_worlds s (lane ∷ lanes) = ap (λ l. (s lane).world ∷ l) (seen_worlds s lanes)

-- ---- what comes back of them
-- Parts without lanes of their own, and lanes that no worker began, are sound where their pieces were,
pub tried_came : (k : ℕ) (pieces : List Piece) (stems : List Name) (olds : List World) (lanes : List Seen) (left : List World) → map (λ piece. piece.stem) pieces ≡ stems → AllTried k stems olds lanes left
    → AllCame pieces olds (map (λ lane. lane.world) lanes ++ left)
tried_came k pieces stems olds lanes left is tried = by k pieces olds lanes left (subst (λ (l : List Name). AllTried k l olds lanes left) (sym is) tried)
  where
    left_came : (p : Piece) (o n : World) → IsLeft p.stem o n → Came p o n
    left_came p o n (inl refused) = came_refused p refused.1
    left_came p o n (inr same) = subst (λ (w : World). Came p o w) (sym same) (came_untried p o)

    by : (k : ℕ) (ps : List Piece) (os : List World) (ls : List Seen) (ns : List World) → AllTried k (map (λ piece. piece.stem) ps) os ls ns → AllCame ps os (map (λ lane. lane.world) ls ++ ns)
    by k [] [] [] [] tried = tt
    by k [] [] [] (n ∷ ns) tried = absurd tried
    by k [] [] (l ∷ ls) ns tried = absurd tried
    by k [] (o ∷ os) ls ns tried = absurd tried
    by k (p ∷ ps) [] ls ns tried = absurd tried
    by k (p ∷ ps) (o ∷ os) [] [] tried = absurd tried
    by k (p ∷ ps) (o ∷ os) [] (n ∷ ns) tried = (left_came p o n tried.0, by (k + 1) ps os [] ns tried.1)
    by k (p ∷ ps) (o ∷ os) (l ∷ ls) ns tried = (came_back tried.0 (idle_back l (as_opened tried.0)) p refl (λ t. idle_sound p.all l), by (k + 1) ps os ls ns tried.1)

-- and promise no less.
pub tried_retained : (k : ℕ) (stems : List Name) (olds : List World) (lanes : List Seen) (left : List World) → AllTried k stems olds lanes left → AllRetained stems olds (map (λ lane. lane.world) lanes ++ left)
tried_retained k [] [] [] [] tried = tt
tried_retained k [] [] [] (n ∷ left) tried = absurd tried
tried_retained k [] [] (l ∷ lanes) left tried = absurd tried
tried_retained k [] (o ∷ olds) lanes left tried = absurd tried
tried_retained k (s ∷ stems) [] lanes left tried = absurd tried
tried_retained k (s ∷ stems) (o ∷ olds) [] [] tried = absurd tried
tried_retained k (s ∷ stems) (o ∷ olds) [] (n ∷ left) tried = (by tried.0, tried_retained (k + 1) stems olds [] left tried.1)
  where
    by : IsLeft s o n → Retained s o n
    by (inl refused) = retained_refused refused.1
    by (inr same) = subst (λ (w : World). Retained s o w) (sym same) (retained_untried s o)
tried_retained k (s ∷ stems) (o ∷ olds) (l ∷ lanes) left tried = (retained_back tried.0 (idle_back l (as_opened tried.0)), tried_retained (k + 1) stems olds lanes left tried.1)

-- each lane of the first list with that of the second at its place
abbrev pub AllBack : (Seen → Seen → Type 0) → List Seen → List Seen → Type 0
AllBack R [] [] = ⊤
AllBack R (old ∷ olds) (new ∷ news) = R old new × AllBack R olds news
AllBack R olds news = ⊥

-- Lanes that a crew had promise no less,
pub crew_retained : (k : ℕ) (stems : List Name) (olds : List World) (lanes backs : List Seen) → AllTried k stems olds lanes [] → AllBack IsBack lanes backs → AllRetained stems olds (map (λ lane. lane.world) backs)
crew_retained k [] [] [] [] tried back = tt
crew_retained k [] [] [] (b ∷ backs) tried back = absurd back
crew_retained k [] [] (l ∷ lanes) backs tried back = absurd tried
crew_retained k [] (o ∷ olds) lanes backs tried back = absurd tried
crew_retained k (s ∷ stems) [] lanes backs tried back = absurd tried
crew_retained k (s ∷ stems) (o ∷ olds) [] backs tried back = absurd tried
crew_retained k (s ∷ stems) (o ∷ olds) (l ∷ lanes) [] tried back = absurd back
crew_retained k (s ∷ stems) (o ∷ olds) (l ∷ lanes) (b ∷ backs) tried back = (retained_back tried.0 back.0, crew_retained (k + 1) stems olds lanes backs tried.1 back.1)

-- and are sound of truthful replies: `j` is the number of the first of these pieces.
pub crew_came : (j : ℕ) (pieces : List Piece) (olds : List World) (lanes backs : List Seen) → AllTried j (map (λ piece. piece.stem) pieces) olds lanes [] → AllBack IsBack lanes backs
    → ((i : ℕ) (piece : Piece) (lane back : Seen) → slice_get pieces i ≡ Some piece → slice_get lanes i ≡ Some lane → slice_get backs i ≡ Some back → IsTrue back.world.tells → StaysSound piece.all lane back)
    → AllCame pieces olds (map (λ lane. lane.world) backs)
crew_came j [] [] [] [] tried back sound = tt
crew_came j [] [] [] (b ∷ backs) tried back sound = absurd back
crew_came j [] [] (l ∷ lanes) backs tried back sound = absurd tried
crew_came j [] (o ∷ olds) lanes backs tried back sound = absurd tried
crew_came j (p ∷ ps) [] lanes backs tried back sound = absurd tried
crew_came j (p ∷ ps) (o ∷ olds) [] backs tried back sound = absurd tried
crew_came j (p ∷ ps) (o ∷ olds) (l ∷ lanes) [] tried back sound = absurd back
crew_came j (p ∷ ps) (o ∷ olds) (l ∷ lanes) (b ∷ backs) tried back sound = (
  came_back tried.0 back.0 p refl (λ t. sound 0 p l b refl refl refl t),
  crew_came (j + 1) ps olds lanes backs tried.1 back.1 (λ i piece lane back at there here t. sound (suc i) piece lane back at there here t),
)

-- The lane of a number is opened over the part of that number.
pub opened_at : (k : ℕ) (stems : List Name) (olds : List World) (lanes : List Seen) → AllTried k stems olds lanes [] → (i : ℕ) (lane : Seen) → slice_get lanes i ≡ Some lane
    → (stem : Name) × (old : World) × (slice_get stems i ≡ Some stem) × (slice_get olds i ≡ Some old) × Opens old (k + i) stem lane
opened_at k [] [] [] tried i lane at = absurd (none-some lane at)
opened_at k [] [] (l ∷ lanes) tried i lane at = absurd tried
opened_at k [] (o ∷ olds) lanes tried i lane at = absurd tried
opened_at k (s ∷ stems) [] lanes tried i lane at = absurd tried
opened_at k (s ∷ stems) (o ∷ olds) [] tried i lane at = absurd tried
opened_at k (s ∷ stems) (o ∷ olds) (l ∷ lanes) tried zero lane at =
    (s, o, refl, refl, subst (λ (n : ℕ). Opens o n s lane) (omega arith) (subst (λ (x : Seen). Opens o k s x) (same_Some l lane at) tried.0))
opened_at k (s ∷ stems) (o ∷ olds) (l ∷ lanes) tried (suc i) lane at =
    let rest = opened_at (k + 1) stems olds lanes tried.1 i lane at in
    (rest.0, rest.1, rest.2, rest.3, subst (λ (n : ℕ). Opens rest.1 n rest.0 lane) (omega arith) rest.4)

-- ---- the parts as they came back
abbrev pub AllStay : List World → List World → Type 0
AllStay [] [] = ⊤
AllStay (old ∷ olds) (new ∷ news) = Stays old new × AllStay olds news
AllStay olds news = ⊥

pub retained_stay : (stems : List Name) (olds news : List World) → AllRetained stems olds news → AllStay olds news
retained_stay [] [] [] retained = tt
retained_stay [] [] (n ∷ news) retained = absurd retained
retained_stay [] (o ∷ olds) news retained = absurd retained
retained_stay (s ∷ stems) [] news retained = absurd retained
retained_stay (s ∷ stems) (o ∷ olds) [] retained = absurd retained
retained_stay (s ∷ stems) (o ∷ olds) (n ∷ news) retained = (retained.0.stays, retained_stay stems olds news retained.1)

-- ---- the part whose lane was refused
pub refused_more : (fault : StoreFault) (stems : List Name) (olds news : List World) (stem : Name) (old new : World) → length olds ≡ length stems → length news ≡ length stems → NotOpened stem old new fault
    → WasRefused fault (stems ++ stem ∷ []) (olds ++ old ∷ []) (news ++ new ∷ [])
refused_more fault [] [] [] stem old new many back refused = inl refused
refused_more fault [] [] (n ∷ news) stem old new many back refused = absurd (omega (arith, back))
refused_more fault [] (o ∷ olds) news stem old new many back refused = absurd (omega (arith, many))
refused_more fault (s ∷ stems) [] news stem old new many back refused = absurd (omega (arith, many))
refused_more fault (s ∷ stems) (o ∷ olds) [] stem old new many back refused = absurd (omega (arith, back))
refused_more fault (s ∷ stems) (o ∷ olds) (n ∷ news) stem old new many back refused = inr (refused_more fault stems olds news stem old new (omega (arith, many)) (omega (arith, back)) refused)

pub refused_before : (fault : StoreFault) (stems more : List Name) (olds others news also : List World) → WasRefused fault stems olds news → WasRefused fault (stems ++ more) (olds ++ others) (news ++ also)
refused_before fault [] more olds others news also was = absurd was
refused_before fault (s ∷ stems) more [] others news also was = absurd was
refused_before fault (s ∷ stems) more (o ∷ olds) others [] also was = absurd was
refused_before fault (s ∷ stems) more (o ∷ olds) others (n ∷ news) also was = ⊎_elim (λ here. inl here) (λ later. inr (refused_before fault stems more olds others news also later)) was

-- ---- why a lane was refused, one part further
module _ {F L : Type 0} (w : F → World) (s : L → Seen) (d : Name) (stems : List Name) (yielded : List F) (part : F) (lanes kept : List L) (left new : List F) (back : F) (same : kept ≡ lanes) (is : new ≡ left ++ back ∷ []) (lt : length yielded < length stems) where
  abbrev here : Name
  here = slice_index_or stems (length yielded) d

  -- The part is behind those so far.
  behind : (map (λ lane. (s lane).world) lanes ++ map w left) ++ w back ∷ [] ≡ map (λ lane. (s lane).world) kept ++ map w new
  behind = append_assoc (map (λ lane. (s lane).world) lanes) (map w left) (w back ∷ [])
      ∙ (λ i. map (λ lane. (s lane).world) (sym same i) ++ (sym (map-append w left (back ∷ [])) ∙ ap (map w) (sym is)) i)

  one_on : (fault : StoreFault) → WasRefused fault (take (length yielded) stems ++ here ∷ []) (map w yielded ++ w part ∷ []) ((map (λ lane. (s lane).world) lanes ++ map w left) ++ w back ∷ [])
      → WasRefused fault (take (length (yielded ++ part ∷ [])) stems) (map w (yielded ++ part ∷ [])) (map (λ lane. (s lane).world) kept ++ map w new)
  one_on fault was =
      subst (λ (l : List Name). WasRefused fault l (map w (yielded ++ part ∷ [])) (map (λ lane. (s lane).world) kept ++ map w new)) (sym (ap (λ n. take n stems) (length-append yielded (part ∷ [])) ∙ take_more stems (length yielded) d lt))
      (subst (λ (l : List World). WasRefused fault (take (length yielded) stems ++ here ∷ []) l (map (λ lane. (s lane).world) kept ++ map w new)) (sym (map-append w yielded (part ∷ [])))
      (subst (λ (l : List World). WasRefused fault (take (length yielded) stems ++ here ∷ []) (map w yielded ++ w part ∷ []) l) behind was))

  -- It was refused before,
  pub why_before : (fault : StoreFault) → WasRefused fault (take (length yielded) stems) (map w yielded) (map (λ lane. (s lane).world) lanes ++ map w left)
      → WasRefused fault (take (length (yielded ++ part ∷ [])) stems) (map w (yielded ++ part ∷ [])) (map (λ lane. (s lane).world) kept ++ map w new)
  why_before fault was = one_on fault (refused_before fault (take (length yielded) stems) (here ∷ []) (map w yielded) (w part ∷ []) (map (λ lane. (s lane).world) lanes ++ map w left) (w back ∷ []) was)

  -- or over this part.
  pub why_here : (fault : StoreFault) → AllTried 0 (take (length yielded) stems) (map w yielded) (map s lanes) (map w left) → NotOpened here (w part) (w back) fault
      → WasRefused fault (take (length (yielded ++ part ∷ [])) stems) (map w (yielded ++ part ∷ [])) (map (λ lane. (s lane).world) kept ++ map w new)
  why_here fault tried refused = one_on fault (refused_more fault (take (length yielded) stems) (map w yielded) (map (λ lane. (s lane).world) lanes ++ map w left) here (w part) (w back)
      (omega (arith, length-map yielded w, taken, lt))
      (omega (arith, length-append (map (λ lane. (s lane).world) lanes) (map w left), length-map lanes (λ lane. (s lane).world), tried_many 0 (take (length yielded) stems) (map w yielded) (map s lanes) (map w left) tried, length-map lanes s, length-map yielded w, taken, lt))
      refused)
    where
      taken : length (take (length yielded) stems) ≡ length yielded
      taken = length-take-le (length yielded) stems (omega (arith, lt))
