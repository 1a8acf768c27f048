use Rattle.std.proofs.Common.{◌≡◌, [], length, sym, ◌∙◌, ap, arith}
use Rattle.word_list.proofs.WordsLemmas.{words-rest, rest-nothing, no_words}
use Rattle.word_list.specs.Options.{ended}
use Rattle.word_list.specs.Views.{plain_settings}
use Rattle.word_list.specs.Words.{words_of, rest_of}
use Rattle.word_list.proofs.words.read_words.Goals as goal

pub words-init : goal.words-init
words-init c = (
  rw (c.in_ok-settings.ensures, c.as_slice-rest.ensures.value) (sym (words-rest c.args.words.now.items)),
  rw c.as_slice-rest.ensures.value (omega arith),
)

pub returns-clause-options : goal.returns-clause-options
returns-clause-options c =
    let none : c.words.rest.now ≡ [] = no_words c.words.rest.now c.in_default.ensures.cases in
    let whole : ended c.len-2.result (plain_settings c.words.settings) ≡ words_of c.args.words.now.items =
    ap (λ n. ended n (plain_settings c.words.settings)) (c.len-2.ensures ∙ sym c.as_slice-rest.ensures.len ∙ ap length c.as_slice-rest.ensures.value)
    ∙ sym (rest-nothing (plain_settings c.words.settings) (length c.args.words.now.items))
    ∙ ap (λ rest. rest_of (plain_settings c.words.settings) (length c.args.words.now.items) rest) (sym none)
    ∙ c.words.invariant.0 in
    rw whole at c.options.ensures.options

pub returns-clause-fault : goal.returns-clause-fault
returns-clause-fault c =
    let none : c.words.rest.now ≡ [] = no_words c.words.rest.now c.in_default.ensures.cases in
    let whole : ended c.len-2.result (plain_settings c.words.settings) ≡ words_of c.args.words.now.items =
    ap (λ n. ended n (plain_settings c.words.settings)) (c.len-2.ensures ∙ sym c.as_slice-rest.ensures.len ∙ ap length c.as_slice-rest.ensures.value)
    ∙ sym (rest-nothing (plain_settings c.words.settings) (length c.args.words.now.items))
    ∙ ap (λ rest. rest_of (plain_settings c.words.settings) (length c.args.words.now.items) rest) (sym none)
    ∙ c.words.invariant.0 in
    rw whole at c.options.ensures.fault
