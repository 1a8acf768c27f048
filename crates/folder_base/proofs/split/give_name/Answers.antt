use Rattle.std.proofs.Common.{◌≡◌, ◌∙◌, ◌<◌, ◌≤◌, ap, sym, length, arith, Ok, Err}
use Rattle.std.specs.Prelude.{Result, OnOk, Some, slice_get}
use Rattle.text_base.specs.declared.faults.OutOfMemory.{OutOfMemory}
use Rattle.std.proofs.lemmas.Option.{slice_get-get_or, slice_get_within}
use Rattle.folder_base.specs.Files.{names_of}
use Rattle.folder_base.specs.Merge.{Files}
use Rattle.folder_base.proofs.Splitting.{gives_there, gives_none, not_in_some}
use Rattle.folder_base.proofs.split.give_name.Goals as goal

on_ok : (P Q : Type 0) (r : Result (Unit {0}) OutOfMemory) → OnOk r P → (P → Q) → OnOk r Q
on_ok P Q (Ok x) h f = f h
on_ok P Q (Err x) h f = h

pub returns-then-at-len : goal.returns-then-at-len
returns-then-at-len c =
    let old = c.args.split.now.items in
    let item : Files = c.index_mut.result.now in
    let lt : c.in-Some.at < length old = omega (arith, c.if-at-len.true) in
    let stands : slice_get old c.in-Some.at ≡ Some item = slice_get-get_or old c.in-Some.at item lt ∙ ap (λ (f : Files). Some f) (sym c.index_mut.ensures.value) in
    on_ok _ _ c.copy_name.result c.copy_name.ensures.ok (λ given_is. gives_there (names_of c.args.files.now) c.args.name.now c.args.index.now old c.in-Some.at item c.copy_name.new.to stands given_is c.in-Some.ensures)

pub returns-else-at-len : goal.returns-else-at-len
returns-else-at-len c =
    gives_none (names_of c.args.files.now) c.args.name.now c.args.index.now c.args.split.now.items
    (λ stems is many at stem stands.
    let found = c.in-Some.ensures stems is in
    let within : c.in-Some.at < length stems = slice_get_within stems c.in-Some.at found.0 found.1 in
    let past : length c.args.split.now.items ≤ c.in-Some.at = omega (arith, c.if-at-len.false) in
    absurd (omega (arith, within, past, many)))

pub returns-in-None : goal.returns-in-None
returns-in-None c =
    gives_none (names_of c.args.files.now) c.args.name.now c.args.index.now c.args.split.now.items
    (λ stems is many at stem stands. not_in_some stems at stem c.args.name.now (c.in-None.ensures stems is) stands)
