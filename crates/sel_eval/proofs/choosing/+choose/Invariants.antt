use Rattle.std.proofs.Common.{◌≡◌, ◌≤◌, ◌++◌, take, drop, map}
use Rattle.std.specs.Vec.{vec_len}
use Rattle.sel_lang.specs.Plain.{plains_of}
use Rattle.sel_lang.specs.View.{plain}
use Rattle.sel_eval.specs.Den.{den_each, any_large, first_large, joined, first_found}
use Rattle.sel_eval.specs.Merging.{IsMerging}
use Rattle.sel_eval.proofs.choosing.+choose.Given as goal

abbrev pub invariant-list-loop-part : goal.invariant-list-loop-part
invariant-list-loop-part l =
    (l.all.items ++ joined (den_each l.policy.streams.now l.policy.both (plains_of (map plain (drop l.part-index l.parts))) l.formats)
    ≡ joined (den_each l.policy.streams.now l.policy.both (plains_of (map plain l.parts)) l.formats))
    × (any_large l.policy.streams.now l.policy.both (plains_of (map plain (drop l.part-index l.parts))) l.formats
    ≡ any_large l.policy.streams.now l.policy.both (plains_of (map plain l.parts)) l.formats)
    × (vec_len l.all ≤ 10000)

abbrev pub invariant-first-loop-part : goal.invariant-first-loop-part
invariant-first-loop-part l =
    (first_found (den_each l.policy.streams.now l.policy.both (plains_of (map plain (drop l.part-index l.parts))) l.formats)
    ≡ first_found (den_each l.policy.streams.now l.policy.both (plains_of (map plain l.parts)) l.formats))
    × (first_large l.policy.streams.now l.policy.both (plains_of (map plain (drop l.part-index l.parts))) l.formats
    ≡ first_large l.policy.streams.now l.policy.both (plains_of (map plain l.parts)) l.formats)

abbrev pub invariant-merge-loop-part : goal.invariant-merge-loop-part
invariant-merge-loop-part l =
    IsMerging l.policy.streams.now (den_each l.policy.streams.now l.policy.both (plains_of (map plain (take l.part-index l.parts))) l.formats) l.merging
    × (any_large l.policy.streams.now l.policy.both (plains_of (map plain (drop l.part-index l.parts))) l.formats
    ≡ any_large l.policy.streams.now l.policy.both (plains_of (map plain l.parts)) l.formats)
