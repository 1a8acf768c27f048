use Rattle.std.proofs.Common.{◌≡◌, ◌∙◌, ap, sym, true, false}
use Rattle.std.specs.Prelude.{is_some, not}
use Rattle.std.specs.List.{list_any}
use Rattle.std.specs.Str.{bytes_eq}
use Rattle.std.specs.String.{string_bytes}
use Rattle.info_tree.proofs.Places.{list_any-position}
use Rattle.info_item.proofs.formats.add_id.Goals as goal

pub returns : goal.returns
returns c =
    let any : list_any (bytes_eq c.args.id.now) c.args.ids.now ≡ is_some c.place_of.result = list_any-position (bytes_eq c.args.id.now) c.args.ids.now ∙ ap is_some (sym c.place_of.ensures.place) in
    let none : is_some c.place_of.result ≡ false = cc in
    let text : string_bytes c.in_ok-from_str.field-0 ≡ c.args.id.now = c.in_ok-from_str.ensures.ok in
    (sym (ap not (any ∙ none)), λ is_new. rw text at c.in_ok-push.ensures.ok)

pub returns-then-is_some : goal.returns-then-is_some
returns-then-is_some c =
    let any : list_any (bytes_eq c.args.id.now) c.args.ids.now ≡ is_some c.place_of.result = list_any-position (bytes_eq c.args.id.now) c.args.ids.now ∙ ap is_some (sym c.place_of.ensures.place) in
    let some : is_some c.place_of.result ≡ true = cc in
    (sym (ap not (any ∙ some)), λ is_new. absurd (cc))
