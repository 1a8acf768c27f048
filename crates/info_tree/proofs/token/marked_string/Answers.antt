use Rattle.std.proofs.Common.{◌≡◌, ◌<◌, ◌∷◌, length, ◌∙◌, ap, arith, rules, true}
use Rattle.std.specs.Prelude.{slice_index}
use Rattle.std.specs.String.{string_bytes}
use Rattle.text_base.specs.Scan.{is_json_special}
use Rattle.info_tree.proofs.Quoted.{read_front, read_plain, read_escape, read_whole, no_more_bytes, no_control, no_escape, only_special}
use Rattle.info_tree.proofs.token.marked_string.Goals as goal

pub returns-in_default-clause-none : goal.returns-in_default-clause-none
returns-in_default-clause-none c =
    let out = string_bytes c.pieces.decoded.text in
    let new = string_bytes c.push_plain.new.self.text in
    let s = read_plain c.args.text.now out new c.pieces.decoded.high c.push_plain.new.self.high c.pieces.rest.now c.split_plain.result.0.now c.split_plain.result.1.now
    c.pieces.invariant.read c.split_plain.ensures.whole c.split_plain.ensures.plain c.in_ok-push_plain.ensures in
    no_more_bytes c.args.text.now new c.push_plain.new.self.high c.split_plain.result.1.now s
    (only_special c.split_plain.result.1.now c.split_plain.ensures.special c.in_default.ensures.none)

pub returns-then-byte-eq34-clause-string : goal.returns-then-byte-eq34-clause-string
returns-then-byte-eq34-clause-string c =
    let out = string_bytes c.pieces.decoded.text in
    let new = string_bytes c.push_plain.new.self.text in
    let s = read_plain c.args.text.now out new c.pieces.decoded.high c.push_plain.new.self.high c.pieces.rest.now c.split_plain.result.0.now c.split_plain.result.1.now
    c.pieces.invariant.read c.split_plain.ensures.whole c.split_plain.ensures.plain c.in_ok-push_plain.ensures in
    rw c.from.ensures (read_whole c.args.text.now new (string_bytes c.in_ok-finish.field-0) c.push_plain.new.self.high c.split_plain.result.1.now c.in-Some.after.now s
    (c.in-Some.ensures.some ∙ ap (λ b. b ∷ c.in-Some.after.now) c.if-byte-eq34.true) c.in_ok-finish.ensures)

pub returns-in_default-read_escape-clause-none : goal.returns-in_default-read_escape-clause-none
returns-in_default-read_escape-clause-none c =
    let out = string_bytes c.pieces.decoded.text in
    let new = string_bytes c.push_plain.new.self.text in
    let s = read_plain c.args.text.now out new c.pieces.decoded.high c.push_plain.new.self.high c.pieces.rest.now c.split_plain.result.0.now c.split_plain.result.1.now
    c.pieces.invariant.read c.split_plain.ensures.whole c.split_plain.ensures.plain c.in_ok-push_plain.ensures in
    no_escape c.args.text.now new c.push_plain.new.self.high c.split_plain.result.1.now c.in-Some.after.now s
    (c.in-Some.ensures.some ∙ ap (λ b. b ∷ c.in-Some.after.now) c.if-byte-ne92.false) c.in_default-read_escape.ensures.none

pub pieces-init : goal.pieces-init
pieces-init c = record {
  read = read_front c.args.text.now (string_bytes c.in_ok-decoded.decoded.text) c.args.plain.now c.args.marked.now c.in_ok-decoded.decoded.high
      c.requires.whole c.requires.pieces c.in_ok-decoded.ensures.text c.in_ok-decoded.ensures.high;
  text = search rules;
}

pub pieces-preserved : goal.pieces-preserved
pieces-preserved c =
    let out = string_bytes c.pieces.decoded.text in
    let new = string_bytes c.push_plain.new.self.text in
    let s = read_plain c.args.text.now out new c.pieces.decoded.high c.push_plain.new.self.high c.pieces.rest.now c.split_plain.result.0.now c.split_plain.result.1.now
    c.pieces.invariant.read c.split_plain.ensures.whole c.split_plain.ensures.plain c.in_ok-push_plain.ensures in
    record {
      read = read_escape c.args.text.now new (string_bytes c.push_escape.new.self.text) c.push_plain.new.self.high c.push_escape.new.self.high c.split_plain.result.1.now
          c.in-Some.after.now c.in-Some-read_escape.behind.now c.in-Some-read_escape.escape s
          (c.in-Some.ensures.some ∙ ap (λ b. b ∷ c.in-Some.after.now) c.if-byte-ne92.false) c.in-Some-read_escape.ensures.some c.in_ok-push_escape.ensures;
      text = c.in-Some-read_escape.ensures.text;
    }

pub returns-then-byte-ne92-clause-none : goal.returns-then-byte-ne92-clause-none
returns-then-byte-ne92-clause-none c =
    let out = string_bytes c.pieces.decoded.text in
    let new = string_bytes c.push_plain.new.self.text in
    let s = read_plain c.args.text.now out new c.pieces.decoded.high c.push_plain.new.self.high c.pieces.rest.now c.split_plain.result.0.now c.split_plain.result.1.now
    c.pieces.invariant.read c.split_plain.ensures.whole c.split_plain.ensures.plain c.in_ok-push_plain.ensures in
    let some : 0 < length c.split_plain.result.1.now = omega (arith, ap length c.in-Some.ensures.some) in
    let first : slice_index c.split_plain.result.1.now 0 ≡ c.in-Some.byte = ap (λ l. slice_index l 0) c.in-Some.ensures.some in
    let special : is_json_special c.in-Some.byte ≡ true = rw first at (c.split_plain.ensures.special some) in
    no_control c.args.text.now new c.push_plain.new.self.high c.split_plain.result.1.now c.in-Some.after.now c.in-Some.byte s c.in-Some.ensures.some special
    c.if-byte-eq34.false c.if-byte-ne92.true
