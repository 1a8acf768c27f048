-- The draft of a job: all of it but its pieces, or the first fault that it has by itself.
use Rattle.std.specs.Prelude.{ℕ, Bool, List, [], ◌∷◌, map, filter_map, position, not, Option, Some, None, option_map, option_and_then, Result, Ok, Err, if◌then◌else◌, codes}
use Rattle.std.specs.Option.{option_or}
use Rattle.info_tree.specs.Tree.{Tree, text, mapping, pairs_of}
use Rattle.info_tree.specs.Pairs.{put}
use Rattle.info_item.specs.Item.{Item, Format}
use Rattle.info_item.specs.Fields.{ext_of}
use Rattle.info_item.specs.View.{over, base_of, own_of, only_part, are_several, parts_of}
use Rattle.name_text.specs.Clean.{cleaned}
use Rattle.name_text.specs.Path.{path_fault}
use Rattle.tpl_lang.specs.declared.template.Part.{Part}
use Rattle.tpl_eval.specs.Fill.{fill_of}
use Rattle.tpl_eval.specs.declared.marks.Clean.{Clean}
use Rattle.tpl_eval.specs.declared.marks.Clean.TheVariants.{Plain, Names as CleanNames, Restricted}
use Rattle.tool_chain.specs.Jobs.{Job as Command}
use Rattle.job_names.specs.Text.{Text}
use Rattle.job_plan.specs.Plan.{Plan}
use Rattle.job_pieces.specs.Pieces.{can_fetch}
use Rattle.job_names.specs.declared.naming.SplitName.{SplitName}
use Rattle.job_names.specs.Naming.{split_name, whole_name, with_ext, part_name}
use Rattle.job_steps.specs.Steps.{Step, steps_of, commands, last_ext, exec_command}
use Rattle.job_names.specs.Family.{Names, is_long, meets_itself, meets_archive}
use Rattle.job_plan.specs.declared.fault.JobFault.{JobFault}
use Rattle.job_plan.specs.declared.fault.JobFault.TheVariants.{Fill, Path, NameLong, Clash, Pieces}
use Rattle.job_plan.specs.declared.fault.ClashWith.{ClashWith}
use Rattle.job_plan.specs.declared.fault.ClashWith.TheVariants.{Own, Archive}

-- a job without its pieces; `name` is what the template gives, which a step may turn into another final name
pub record Draft : Type 0 where
  pub name : Text
  pub parts : List ℕ
  pub ext : Text
  pub final_name : Text
  pub components : List Text
  pub steps : List Command
  pub execs : List Command
  pub printed : List Text

-- a choice of an item: the places of its formats, and its extension
abbrev pub Choice : Type 0
Choice = List ℕ × Text

-- the formats of a choice
abbrev pub chosen_parts : Item → Choice → List Format
chosen_parts item choice = parts_of item.formats choice.0

-- the pairs that names are filled from: the view of the item and its parts
abbrev pub name_pairs : Item → Choice → ℕ → List (Text × Tree)
name_pairs item choice count =
    let parts = chosen_parts item choice in over (base_of (are_several parts) item.tree (only_part parts)) (own_of parts choice.1 count)

-- the pairs that printed lines and commands are filled from: the final name goes with them
abbrev pub told_pairs : List (Text × Tree) → Text → List (Text × Tree)
told_pairs ps final = put (put ps (codes "filename") (text final)) (codes "filepath") (text final)

-- the text that a template is filled to from pairs; none where it is too long
abbrev pub filled : Text → Clean → List (Text × Tree) → List Part → Option Text
filled na clean ps template = fill_of (mapping (pairs_of ps)) na clean template

-- how names are cleaned
abbrev pub name_clean : Bool → Clean
name_clean restricted = if restricted then Restricted else CleanNames

-- the texts that templates are filled to; none where one is too long
abbrev pub all_filled : Text → List (Text × Tree) → List (List Part) → Option (List Text)
all_filled na ps [] = Some []
all_filled na ps (template ∷ templates) =
    option_and_then (λ line. option_map (λ lines. line ∷ lines) (all_filled na ps templates)) (filled na Plain ps template)

-- the name of a part's file, which a step reads
abbrev pub name_of_part : Bool → Text → Format → Text
name_of_part restricted stem part = part_name stem (cleaned restricted part.id) (cleaned restricted (ext_of part.tree))

-- the names of the files that are fetched: those of the parts where a step reads them, and else the final name
abbrev pub fetched_names : Bool → SplitName → List Format → List Step → List Text
fetched_names restricted name parts [] = whole_name name ∷ []
fetched_names restricted name parts (step ∷ steps) = map (name_of_part restricted name.stem) parts

-- the final name: the stem with the extension of the last output, and without a step the name as it is
abbrev pub final_by : SplitName → Option Text → Text
final_by name None = whole_name name
final_by name (Some ext) = with_ext name.stem ext

-- the final name of these steps
abbrev pub final_of : SplitName → List Step → Text
final_of name steps = final_by name (last_ext steps)

-- a name with the steps that lead to the final one
pub record Named : Type 0 where
  pub name : SplitName
  pub steps : List Step
  pub final_name : Text

-- a name with these steps
abbrev pub named_of : SplitName → List Step → Named
named_of name steps = record { name = name; steps = steps; final_name = final_of name steps }

-- a draft of a name, with the lines that are printed and those that are run
abbrev pub draft_with : Plan → Choice → List Format → Named → List Text → List Text → Draft
draft_with plan choice parts named printed lines =
    let fetched = fetched_names plan.restricted named.name parts named.steps in
    record {
      name = whole_name named.name;
      parts = choice.0;
      ext = choice.1;
      final_name = named.final_name;
      components = fetched;
      steps = commands plan.tool parts named.name.stem 1 fetched named.steps;
      execs = map (exec_command named.final_name) lines;
      printed = printed;
    }

-- a draft of a name; none where a line that is printed or run is too long
abbrev pub draft_of_name : Plan → List (Text × Tree) → Choice → List Format → Named → Option Draft
draft_of_name plan ps choice parts named =
    let told = told_pairs ps named.final_name in
    option_and_then (λ printed. option_map (λ lines. draft_with plan choice parts named printed lines) (all_filled plan.na told plan.exec))
    (all_filled plan.na told plan.prints)

-- what the template gives, with the cleaned extension set apart
abbrev pub name_of : Plan → List (Text × Tree) → Text → Option SplitName
name_of plan ps ext = option_map (split_name plan.trim ext) (filled plan.na (name_clean plan.restricted) ps plan.template)

-- the name of parts, with its steps
abbrev pub named : Plan → List (Text × Tree) → List Format → Text → Text → Option Named
named plan ps parts ext clean_ext =
    option_map (λ name. named_of name (steps_of plan.audio plan.remux parts ext clean_ext)) (name_of plan ps clean_ext)

-- the draft of a choice with this number; none where a text is too long
abbrev pub draft_of : Plan → ℕ → Item → Choice → Option Draft
draft_of plan count item choice =
    let ps = name_pairs item choice count in
    let parts = chosen_parts item choice in
    option_and_then (draft_of_name plan ps choice parts) (named plan ps parts choice.1 (cleaned plan.restricted choice.1))

-- the names of a draft
abbrev pub draft_names : Draft → Names
draft_names d = record { final_name = d.final_name; components = d.components; outputs = filter_map (λ step. step.output) d.steps }

-- a fault where something is so
abbrev pub when : {A : Type 0} → Bool → A → Option A
when so fault = if so then Some fault else None

-- what a draft clashes with by itself: its own names, or the archive
abbrev pub clash_of : Plan → Draft → Option ClashWith
clash_of plan d =
    option_or (when (meets_itself (draft_names d)) Own) (when (meets_archive (draft_names d) plan.archive) Archive)

-- the first fault of a draft by itself: of its paths, of the lengths of its names, or a clash
abbrev pub fault_of : Plan → Draft → Option JobFault
fault_of plan d =
    option_or (option_map Path (path_fault d.name))
    (option_or (option_map Path (path_fault d.final_name))
    (option_or (when (is_long (draft_names d)) NameLong) (option_map Clash (clash_of plan d))))

-- a draft, unless it has a fault
abbrev pub unless_fault : Draft → Option JobFault → Result Draft JobFault
unless_fault d None = Ok d
unless_fault d (Some fault) = Err fault

-- a draft that was made, unless it has a fault; one that was not made has a text that is too long
abbrev pub judged : Plan → Option Draft → Result Draft JobFault
judged plan None = Err Fill
judged plan (Some d) = unless_fault d (fault_of plan d)

-- which of the parts at these places is the first that can't be fetched, counted from 0
abbrev pub part_without_pieces : List Format → List ℕ → Option ℕ
part_without_pieces formats places = position (λ place. not (can_fetch formats place)) places

-- what becomes of a choice whose first part that can't be fetched is this
abbrev pub with_pieces : Option ℕ → Result Draft JobFault → Result Draft JobFault
with_pieces None outcome = outcome
with_pieces (Some part) outcome = Err (Pieces part)

-- what becomes of a choice by itself: its draft, or its first fault
abbrev pub drafted : Plan → ℕ → Item → Choice → Result Draft JobFault
drafted plan count item choice =
    with_pieces (part_without_pieces item.formats choice.0) (judged plan (draft_of plan count item choice))
