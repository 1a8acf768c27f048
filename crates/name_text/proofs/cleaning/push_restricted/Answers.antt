use Rattle.std.proofs.Common.{◌≡◌, sym, ◌∙◌}
use Rattle.std.specs.Str.{chars}
use Rattle.std.proofs.lemmas.Str.{chars_from_encodes}
use Rattle.unicode_normalization.specs.Forms.{nfkd}
use Rattle.name_text.proofs.cleaning.push_restricted.Goals as goal

pub returns : goal.returns
returns c =
    let form = c.as_str.result.now in
    let same : nfkd (chars c.args.text.now) ≡ chars form = chars_from_encodes (nfkd (chars c.args.text.now)) form c.as_str.utf8 (sym (c.as_str.ensures.value ∙ c.in_ok-decomposed.ensures)) in
    rw same c.push_all_restricted.ensures
