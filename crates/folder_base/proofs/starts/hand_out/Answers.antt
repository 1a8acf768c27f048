use Rattle.std.proofs.Common.{◌≡◌, ◌∙◌, not, nat_eq, sym, ap, subst, length, rules, arith}
use Rattle.std.proofs.lemmas.Grind.{common_steps}
use Rattle.folder_base.specs.Disk.{Names}
use Rattle.folder_base.specs.Files.{names_of}
use Rattle.folder_base.specs.Handing.{AreStarts}
use Rattle.folder_base.specs.Listing.{IsListed}
use Rattle.folder_base.specs.Split.{AreSplit}
use Rattle.folder_base.proofs.Handed.{none_plain, rest_left}
use Rattle.folder_base.proofs.starts.hand_out.Goals as goal

pub returns-clause-rest : goal.returns-clause-rest
returns-clause-rest c = λ disk replayed.
    let stems = c.args.stems.now.items in
    let live = names_of c.explain.new.self.files in
    let all = c.in_ok-all.all.items in
    let starts = c.in_ok-starts.starts.items in
    let undos = c.in_ok-undos.undos in
    let same : live ≡ disk.live = ap names_of c.in_ok-all.ensures.files ∙ replayed.live in
    let are : IsListed disk all = c.in_ok-all.ensures.all disk replayed in
    let split : AreSplit stems disk.live c.in_ok-split.split.items = subst (λ (names : Names). AreSplit stems names c.in_ok-split.split.items) same c.in_ok-split.ensures in
    let begun : AreStarts stems disk starts = c.in_ok-starts.ensures stems disk c.requires.indexed c.requires.apart same are split in
    let emptied : c.is_empty.result ≡ nat_eq (length undos.items) 0 = first_of (search rules, grind (arith, common_steps)) in
    rest_left stems live disk all starts (record { files = c.remove_starts.new.files; undos = undos; listed = not c.is_empty.result }) same are begun
    c.remove_starts.ensures (c.in_ok-undos.ensures stems c.requires.indexed c.requires.apart) (λ none. none_plain undos.items (ap not (sym emptied) ∙ none))
