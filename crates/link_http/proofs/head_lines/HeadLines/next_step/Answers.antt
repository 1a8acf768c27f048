use Rattle.std.proofs.Common.{◌≡◌, ◌∙◌, sym, ap, drop, true, Bool, List, ℕ}
use Rattle.std.specs.Prelude.{◌||◌, not}
use Rattle.std.proofs.lemmas.Bool.{and_parts, not-true, ltb-true}
use Rattle.link_http.specs.declared.head_lines.HeadLines.{HeadLines}
use Rattle.link_http.specs.HeadLines.{lines_after, ends_in}
use Rattle.link_http.proofs.HeadLineLemmas.{quiet_none, over_never, looked_all}
use Rattle.link_http.proofs.head_lines.HeadLines.next_step.Goals as goal

pub returns-then-quiet-clause-looked : goal.returns-then-quiet-clause-looked
returns-then-quiet-clause-looked c =
    let lines = c.args.self.now in
    let came = c.args.came.now in
    let new = drop lines.seen came in
    let place : c.look-look.result.place ≡ lines_after lines.place new = c.look-look.ensures.place ∙ ap (λ (b : List ℕ). lines_after lines.place b) c.split_at.ensures.back in
    let ends : c.look-look.result.ends ≡ ends_in lines.place new = c.look-look.ensures.ends ∙ ap (λ (b : List ℕ). ends_in lines.place b) c.split_at.ensures.back in
    let quiet : (lines.is_over || not (ends_in lines.place new)) ≡ true =
    ap (λ (b : Bool). lines.is_over || not b) (sym ends) ∙ sym c.is_quiet-quiet.ensures ∙ c.if-quiet.true in
    looked_all lines c.note.new.self came c.requires.looked (ap (λ (l : HeadLines). l.at) c.note.ensures) (ap (λ (l : HeadLines). l.seen) c.note.ensures)
    (ap (λ (l : HeadLines). l.place) c.note.ensures ∙ place) (quiet_none lines came c.requires.looked quiet)
    (λ over. over_never lines came c.requires.looked (sym (ap (λ (l : HeadLines). l.is_over) c.note.ensures) ∙ over))

pub returns-then-quiet-clause-shows : goal.returns-then-quiet-clause-shows
returns-then-quiet-clause-shows c =
    let lines = c.args.self.now in
    let came = c.args.came.now in
    let new = drop lines.seen came in
    let ends : c.look-look.result.ends ≡ ends_in lines.place new = c.look-look.ensures.ends ∙ ap (λ (b : List ℕ). ends_in lines.place b) c.split_at.ensures.back in
    let quiet : (lines.is_over || not (ends_in lines.place new)) ≡ true =
    ap (λ (b : Bool). lines.is_over || not b) (sym ends) ∙ sym c.is_quiet-quiet.ensures ∙ c.if-quiet.true in
    let parts = and_parts _ _ (sym c.may_go_on-waits.ensures ∙ c.if-waits.true) in
    (not-true c.args.ended parts.0, ltb-true _ _ parts.1, quiet_none lines came c.requires.looked quiet, over_never lines came c.requires.looked)

pub returns-in-More-clause-looked : goal.returns-in-More-clause-looked
returns-in-More-clause-looked c =
    let lines = c.args.self.now in
    let came = c.args.came.now in
    let shows = c.in-More.ensures.shows in
    let place : c.look-look.result.place ≡ lines_after lines.place (drop lines.seen came) = c.look-look.ensures.place ∙ ap (λ (b : List ℕ). lines_after lines.place b) c.split_at.ensures.back in
    looked_all lines c.note-in-More.new.self came c.requires.looked (ap (λ (l : HeadLines). l.at) c.note-in-More.ensures) (ap (λ (l : HeadLines). l.seen) c.note-in-More.ensures)
    (ap (λ (l : HeadLines). l.place) c.note-in-More.ensures ∙ place) shows.2
    (λ over. shows.3 (sym (ap (λ (l : HeadLines). l.is_over) c.note-in-More.ensures) ∙ over))
