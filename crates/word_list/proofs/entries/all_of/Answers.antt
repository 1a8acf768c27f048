use Rattle.std.proofs.Common.{◌≡◌, ◌++◌, ◌∷◌, [], lit<, rules}
use Rattle.std.specs.Prelude.{Some, None}
use Rattle.std.proofs.lemmas.Result.{err_from_is_err_and}
use Rattle.std.proofs.lemmas.Str.Pattern.{split_once_first}
use Rattle.word_list.specs.OptionRows.{texts_in}
use Rattle.word_list.proofs.EntryLemmas.{fault_here, read_here, fault_last, read_last}
use Rattle.word_list.proofs.entries.all_of.Goals as goal

pub returns-in_err-one : goal.returns-in_err-one
returns-in_err-one g c =
    let (inside, front, back) = split_once_first 47 c.entries.rest.now (Some (c.in-Some.first, c.in-Some.behind)) c.in-Some.ensures.cases (lit< tt) in
    let p = err_from_is_err_and c.from_residual.result c.from_residual.ensures.1 in
    rw (p.1, p.2) (fault_here (g.T.Entry.entry (texts_in c.args.names.now)) c.entries.all.items _ c.entries.rest.now c.in-Some.first.now c.in-Some.behind.now
    c.in_err-one.field-0.0 inside front c.in_err-one.ensures c.entries.invariant.1)

pub entries-preserved : goal.entries-preserved
entries-preserved g c =
    let (inside, front, back) = split_once_first 47 c.entries.rest.now (Some (c.in-Some.first, c.in-Some.behind)) c.in-Some.ensures.cases (lit< tt) in
    let e : c.push.new.self.items ≡ c.entries.all.items ++ c.in_ok-one.one ∷ [] = c.in_ok-push.ensures.items in (
      search rules,
      rw e (read_here (g.T.Entry.entry (texts_in c.args.names.now)) c.entries.all.items _ c.entries.rest.now c.in-Some.first.now c.in-Some.behind.now
          c.in_ok-one.one inside front back c.in_ok-one.ensures c.entries.invariant.1),
    )

pub returns-in_err-last : goal.returns-in_err-last
returns-in_err-last g c =
    let none = split_once_first 47 c.entries.rest.now None c.in_default.ensures.cases (lit< tt) in
    let p = err_from_is_err_and c.from_residual-in_err-last.result c.from_residual-in_err-last.ensures.1 in
    rw (p.1, p.2) (fault_last (g.T.Entry.entry (texts_in c.args.names.now)) c.entries.all.items _ c.entries.rest.now c.entries.rest.now c.entries.rest.now
    c.in_err-last.field-0.0 none c.in_err-last.ensures c.entries.invariant.1)

pub returns : goal.returns
returns g c =
    let none = split_once_first 47 c.entries.rest.now None c.in_default.ensures.cases (lit< tt) in
    let e : c.push-2.new.self.items ≡ c.entries.all.items ++ c.in_ok-last.last ∷ [] = c.in_ok-push-2.ensures.items in
    rw e (read_last (g.T.Entry.entry (texts_in c.args.names.now)) c.entries.all.items _ c.entries.rest.now c.entries.rest.now c.entries.rest.now
    c.in_ok-last.last none c.in_ok-last.ensures c.entries.invariant.1)
