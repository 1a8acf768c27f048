-- A list begins with a value or ends.
use Rattle.std.proofs.Common.{◌≡◌, List, [], ◌∷◌, ◌++◌, length, refl, sym, ap, ◌∙◌}
use Rattle.std.specs.Prelude.{map}
use Rattle.std.proofs.lemmas.List.{length-map, length-reverse, map-append, reverse-append}
use Rattle.info_tree.specs.Machine.{Mark, begin_list, end_list, begin_map, end_map, comma, colon, scalar, chars, Frame, in_list, begin_value, item_or_close}
use Rattle.info_tree.specs.Lexed.{plain_mark, plain_frame, plain_frames}
use Rattle.info_tree.specs.declared.machine.Frame.{Frame as Open}
use Rattle.info_tree.specs.declared.token.Token.{Token}
use Rattle.info_tree.specs.declared.token.Token.TheVariants as token

pub item_begins : (fs : List Frame) (m : Mark) → (m ≡ end_list → ⊥) → item_or_close fs m ≡ begin_value (in_list [] ∷ fs) m
item_begins fs begin_list h = refl
item_begins fs end_list h = absurd (h refl)
item_begins fs begin_map h = refl
item_begins fs end_map h = refl
item_begins fs comma h = refl
item_begins fs colon h = refl
item_begins fs (scalar t) h = refl
item_begins fs (chars s) h = refl

pub is_no_end : (t : Token) → (t ≡ token.EndList → ⊥) → plain_mark t ≡ end_list → ⊥
is_no_end token.BeginList h e = cc
is_no_end token.EndList h e = h refl
is_no_end token.BeginMap h e = cc
is_no_end token.EndMap h e = cc
is_no_end token.Comma h e = cc
is_no_end token.Colon h e = cc
is_no_end token.Null h e = cc
is_no_end (token.Bool b) h e = cc
is_no_end (token.Number n) h e = cc
is_no_end (token.Text s) h e = cc

pub frames_pushed : (fs : List Open) (f : Open) → plain_frames (fs ++ f ∷ []) ≡ plain_frame f ∷ plain_frames fs
frames_pushed fs f = rw (map-append plain_frame fs (f ∷ [])) (reverse-append (map plain_frame fs) (plain_frame f ∷ []))

-- where no frame is seen none is open
pub frames_none : (fs : List Open) → plain_frames fs ≡ [] → length fs ≡ 0
frames_none fs e = sym (length-map fs plain_frame) ∙ sym (length-reverse (map plain_frame fs)) ∙ ap length e
