-- What `choose` answers.
use Rattle.std.specs.Prelude.{◌≡◌, ℕ, List, map, Bool, true, false, ◌&&◌, Result, Ok, Err, Vec}
use Rattle.std.specs.declared.alloc.Global.{Global}
use Rattle.std.specs.List.{list_any}
use Rattle.info_item.specs.Item.{Item, Format}
use Rattle.info_item.specs.Fields.{has_video_of, has_audio_of}
use Rattle.info_item.specs.declared.combo.Combo.{Combo}
use Rattle.sel_lang.specs.Plain.{Plain}
use Rattle.sel_eval.specs.Placed.{Placed, at_places}
use Rattle.sel_eval.specs.Ext.{ext_of_choice}
use Rattle.sel_eval.specs.Den.{Choices, den, large}
use Rattle.sel_eval.specs.declared.choice.Choice.{Choice}
use Rattle.sel_eval.specs.declared.streams.Streams.{Streams}
use Rattle.sel_eval.specs.declared.choose_fault.ChooseFault.{ChooseFault}
use Rattle.sel_eval.specs.declared.choose_fault.ChooseFault.TheVariants as faults

-- a combination as plain data: the places of its parts, and the extension
abbrev pub plain_combo : Combo → List ℕ × List ℕ
plain_combo c = (c.parts.items, c.ext)

-- the combination that a choice is
abbrev pub combo_of : Streams → List Placed → List ℕ × List ℕ
combo_of streams choice = (map (λ p. p.place) choice, ext_of_choice streams choice)

-- of these formats some have video and some have audio
abbrev pub have_both : List Format → Bool
have_both formats = list_any (λ f. has_video_of f.tree) formats && list_any (λ f. has_audio_of f.tree) formats

-- Choices, or that there are too many. Want of memory may be answered at any time.
abbrev pub Answers : Result (Vec Choice Global) ChooseFault → Choices → Bool → Type 0
Answers (Ok v) choices is_large = (v.items ≡ choices) × (is_large ≡ false)
Answers (Err faults.TooMany) choices is_large = is_large ≡ true
Answers (Err faults.OutOfMemory) choices is_large = Unit {0}

-- the formats of an item, from best to worst
abbrev pub in_order : Item → List ℕ → List Placed
in_order item order = at_places item.formats order

-- the combinations that a selector stands for
abbrev pub combos : Streams → Item → List ℕ → Plain → List (List ℕ × List ℕ)
combos streams item order sel =
    map (combo_of streams) (den streams (have_both item.formats) sel (in_order item order))

-- some part of the selector that is met has more than 10,000 choices
abbrev pub is_large : Streams → Item → List ℕ → Plain → Bool
is_large streams item order sel = large streams (have_both item.formats) sel (in_order item order)

-- There are too many choices only where some part is too large; memory may run out at any time.
abbrev pub IsFaultOf : Bool → ChooseFault → Type 0
IsFaultOf is_large faults.TooMany = is_large ≡ true
IsFaultOf is_large faults.OutOfMemory = Unit {0}
