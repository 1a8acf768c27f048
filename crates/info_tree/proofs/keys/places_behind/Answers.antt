use Rattle.std.proofs.Common.{◌≡◌, List, ℕ, length, rules}
use Rattle.std.specs.String.{string_bytes}
use Rattle.info_tree.specs.Keys.{TellsPlaces}
use Rattle.info_tree.proofs.KeyLemmas.{tells_more}
use Rattle.std.proofs.lemmas.Option.{same_Some}
use Rattle.info_tree.proofs.keys.places_behind.Goals as goal
use Rattle.info_tree.proofs.keys.places_behind.Goals.{in-Some, in-None-2+in_ok-places_of-in-None-2+in_ok-places-in-None-2}

pub returns : goal.returns
returns c =
    let ks : List (List ℕ) = c.args.texts.now.items in
    let told : TellsPlaces c.match-places.places.value ks = elim c.match-places.branch [
      | in-Some w ↦ search rules
      | in-None-2+in_ok-places_of-in-None-2+in_ok-places-in-None-2 w ↦ search rules
    ] in
    let before : TellsPlaces c.deref_mut.result.now ks = rw c.deref_mut.ensures.value told in
    let long : c.len-2.result ≡ length c.args.texts.now.items = search rules in
    let key : string_bytes c.in_ok-from_str.field-0 ≡ c.args.text.now = c.in_ok-from_str.ensures.ok in
    λ x e. rw (← same_Some _ _ e)
    (rw key at (tells_more c.deref_mut.result.now c.insert.new.self ks (string_bytes c.in_ok-from_str.field-0) c.len-2.result before (rw key c.requires.fresh) long c.in_ok-insert.ensures.updates))
