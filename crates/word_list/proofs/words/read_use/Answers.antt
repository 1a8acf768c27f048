use Rattle.std.proofs.Common.{◌≡◌, ℕ, ◌+◌, ◌-◌, [], ◌∷◌, length, inl, inr, sym, ◌∙◌, ap, arith}
use Rattle.std.specs.Prelude.{Err}
use Rattle.std.proofs.lemmas.Result.{err_from_is_err_and}
use Rattle.word_list.specs.Views.{plain_settings}
use Rattle.word_list.specs.Words.{rest_of}
use Rattle.word_list.proofs.WordsLemmas.{rest-turns, rest-gives, rest-gives_fault, rest-asks, rest-asks_fault, rest-asks_last, rest-closes, rest-closes_more, rest-faulty, no_words, some_words, none_left}
use Rattle.word_list.proofs.words.read_use.Goals as goal
use Rattle.word_list.proofs.words.read_use.Goals.{in-Turns, in-Gives+in_ok-give-in-Gives, in-Closes+else-not-is_empty}

pub returns-in_err-give-in-Gives-clause-fault : goal.returns-in_err-give-in-Gives-clause-fault
returns-in_err-give-in-Gives-clause-fault c =
    let e = err_from_is_err_and c.from_residual.result c.from_residual.ensures.1 in
    let place : ℕ = c.args.total - length c.args.behind.now - 1 in
    let all : place + (length c.args.behind.now + 1) ≡ c.args.total = omega arith in
    rw (e.1, e.2) (elim c.in_err-give-in-Gives.ensures.fault [
      | inl memory ↦ inl memory
      | inr some ↦ inr (rest-gives_fault (plain_settings c.args.settings.now) c.args.total place c.args.word.now c.args.behind.now c.in-Gives.option c.in-Gives.value.now _
          all (sym c.in-Gives.ensures) some)
    ])

pub returns-in_default-clause-fault : goal.returns-in_default-clause-fault
returns-in_default-clause-fault c =
    let none : c.args.behind.now ≡ [] = no_words c.args.behind.now c.in_default.ensures.cases in
    let place : ℕ = c.args.total - length c.args.behind.now - 1 in
    let all : place + 1 ≡ c.args.total = omega (arith, c.in_default.ensures.cases) in
    inr (ap (λ behind. rest_of (plain_settings c.args.settings.now) c.args.total (c.args.word.now ∷ behind)) none
    ∙ rest-asks_last (plain_settings c.args.settings.now) c.args.total place c.args.word.now c.in-Asks.option all (sym c.in-Asks.ensures)
    ∙ ap (λ f. Err f) (sym c.bad.ensures))

pub returns-in_err-give-in-Asks-clause-fault : goal.returns-in_err-give-in-Asks-clause-fault
returns-in_err-give-in-Asks-clause-fault c =
    let e = err_from_is_err_and c.from_residual-in_err-give-in-Asks.result c.from_residual-in_err-give-in-Asks.ensures.1 in
    let place : ℕ = c.args.total - length c.args.behind.now - 1 in
    let (split, one_less) = c.in-Some.ensures.cases in
    let all : place + (length c.in-Some.behind.now + 1 + 1) ≡ c.args.total = omega (arith, one_less) in
    rw (e.1, e.2) (elim c.in_err-give-in-Asks.ensures.fault [
      | inl memory ↦ inl memory
      | inr some ↦ inr (ap (λ behind. rest_of (plain_settings c.args.settings.now) c.args.total (c.args.word.now ∷ behind)) split
          ∙ rest-asks_fault (plain_settings c.args.settings.now) c.args.total place c.args.word.now c.in-Some.value.now c.in-Some.behind.now c.in-Asks.option _
          (omega arith) (sym c.in-Asks.ensures) (rw c.as_str.ensures at some))
    ])

pub returns-in-Asks-clause-rest : goal.returns-in-Asks-clause-rest
returns-in-Asks-clause-rest c =
    let place : ℕ = c.args.total - length c.args.behind.now - 1 in
    let (split, one_less) = c.in-Some.ensures.cases in
    let all : place + (length c.in-Some.behind.now + 1 + 1) ≡ c.args.total = omega (arith, one_less) in
    ap (λ behind. rest_of (plain_settings c.args.settings.now) c.args.total (c.args.word.now ∷ behind)) split
    ∙ rest-asks (plain_settings c.args.settings.now) _ c.args.total place c.args.word.now c.in-Some.value.now c.in-Some.behind.now c.in-Asks.option
    (omega arith) (sym c.in-Asks.ensures) (rw c.as_str.ensures at c.in_ok-give-in-Asks.ensures.set)

pub returns-in-Closes-clause-fault : goal.returns-in-Closes-clause-fault
returns-in-Closes-clause-fault c =
    let place : ℕ = c.args.total - length c.args.behind.now - 1 in
    let all : place + (length c.args.behind.now + 1) ≡ c.args.total = omega arith in
    inr (rest-closes_more (plain_settings c.args.settings.now) c.args.total place c.args.word.now c.args.behind.now (some_words c.args.behind.now c.if-not-is_empty.ensures) all (sym c.in-Closes.ensures)
    ∙ ap (λ f. Err f) (sym c.bad-in-Closes.ensures))

pub returns-in-Faulty-clause-fault : goal.returns-in-Faulty-clause-fault
returns-in-Faulty-clause-fault c =
    let place : ℕ = c.args.total - length c.args.behind.now - 1 in
    let all : place + (length c.args.behind.now + 1) ≡ c.args.total = omega arith in
    inr (rest-faulty (plain_settings c.args.settings.now) c.args.total place c.args.word.now c.args.behind.now c.in-Faulty.fault all (sym c.in-Faulty.ensures)
    ∙ ap (λ f. Err f) (sym c.bad-in-Faulty.ensures))

pub returns-clause-rest : goal.returns-clause-rest
returns-clause-rest c =
    let place : ℕ = c.args.total - length c.args.behind.now - 1 in
    let all : place + (length c.args.behind.now + 1) ≡ c.args.total = omega arith in
    elim c.match-form_of.branch [
      | in-Turns w ↦ rest-turns (plain_settings c.args.settings.now) c.args.total place c.args.word.now c.args.behind.now w.in-Turns.flag all (sym w.in-Turns.ensures)
          ∙ ap (λ set. rest_of set c.args.total c.args.behind.now) (sym (rw w.settings-is w.turn.ensures))
      | in-Gives+in_ok-give-in-Gives w ↦ rest-gives (plain_settings c.args.settings.now) _ c.args.total place c.args.word.now c.args.behind.now w.in-Gives.option w.in-Gives.value.now
          all (sym w.in-Gives.ensures) w.in_ok-give-in-Gives.ensures.set
          ∙ ap (λ set. rest_of (plain_settings set) c.args.total c.args.behind.now) (sym w.settings-is)
      | in-Closes+else-not-is_empty w ↦
          let none : c.args.behind.now ≡ [] = none_left c.args.behind.now w.if-not-is_empty.ensures in
          let last : place + 1 ≡ c.args.total = omega (arith, ap length none) in
          ap (λ behind. rest_of (plain_settings c.args.settings.now) c.args.total (c.args.word.now ∷ behind)) none
          ∙ rest-closes (plain_settings c.args.settings.now) c.args.total place c.args.word.now last (sym w.in-Closes.ensures)
          ∙ ap (λ behind. rest_of (plain_settings c.args.settings.now) c.args.total behind) (sym none)
          ∙ ap (λ set. rest_of (plain_settings set) c.args.total c.args.behind.now) (sym w.settings-is)
    ]
