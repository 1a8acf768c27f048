-- A story that is told in two pieces.
use Rattle.std.proofs.Common.{◌≡◌, ◌∙◌, Bool, true, List, [], ◌∷◌, ◌++◌, refl, ap}
use Rattle.std.specs.Prelude.{if◌then◌else◌}
use Rattle.folder_base.specs.Log.{told, after, Chapter, after_round, chapter_after}
use Rattle.folder_base.specs.Story.{Story}
use Rattle.folder_base.specs.declared.round.Round.{Round}
use Rattle.folder_base.specs.declared.step.Step.{Step}

pub told_append : (story : Story) (front back : List Step) → told story (front ++ back) ≡ told (told story front) back
told_append story [] back = refl
told_append story (step ∷ front) back = told_append (after step story) front back

pub chapter_more : (chapter : Chapter) (rounds : List Round) (round : Round) → chapter_after chapter (rounds ++ round ∷ []) ≡ after_round (chapter_after chapter rounds) round
chapter_more chapter [] round = refl
chapter_more chapter (first ∷ rounds) round = chapter_more (after_round chapter first) rounds round

-- a round that was pushed, as it was
pub round_pushed : (chapter : Chapter) (rounds : List Round) (round : Round) (new : List Round) (b : Bool) → new ≡ (if b then rounds ++ round ∷ [] else rounds) → b ≡ true
    → chapter_after chapter new ≡ after_round (chapter_after chapter rounds) round
round_pushed chapter rounds round new b is done =
    ap (λ (l : List Round). chapter_after chapter l) (is ∙ ap (λ (v : Bool). if v then rounds ++ round ∷ [] else rounds) done) ∙ chapter_more chapter rounds round
