use Rattle.std.proofs.Common.{◌≡◌, ◌++◌, [], ◌∷◌, ◌/◌, ◌%◌, rules}
use Rattle.std.specs.String.{string_bytes}
use Rattle.info_tree.specs.Printed.{hex_digit, unit_escape}
use Rattle.info_tree.proofs.Printing.{unit_put}
use Rattle.info_tree.proofs.escaping.push_unit.Goals as goal

pub returns : goal.returns
unfolding unit_escape
returns c =
    let u = c.args.unit in
    let a : string_bytes c.push_str.new.self ≡ string_bytes c.args.out.now ++ 92 ∷ 117 ∷ [] = search rules in
    let b : string_bytes c.push.new.self ≡ string_bytes c.push_str.new.self ++ hex_digit (u / 4096) ∷ [] = search rules in
    let d : string_bytes c.push-2.new.self ≡ string_bytes c.push.new.self ++ hex_digit (u / 256 % 16) ∷ [] = search rules in
    let e : string_bytes c.push-3.new.self ≡ string_bytes c.push-2.new.self ++ hex_digit (u / 16 % 16) ∷ [] = search rules in
    let f : string_bytes c.push-4.new.self ≡ string_bytes c.push-3.new.self ++ hex_digit (u % 16) ∷ [] = search rules in
    unit_put (string_bytes c.args.out.now) (string_bytes c.push_str.new.self) (string_bytes c.push.new.self) (string_bytes c.push-2.new.self) (string_bytes c.push-3.new.self)
    (string_bytes c.push-4.new.self) (hex_digit (u / 4096)) (hex_digit (u / 256 % 16)) (hex_digit (u / 16 % 16)) (hex_digit (u % 16)) a b d e f
